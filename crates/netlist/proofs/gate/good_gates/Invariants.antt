use Rattle.std.proofs.Common.{◌≡◌, ◌+◌, drop}
use Rattle.netlist.specs.Gates.{good_from}
use Rattle.netlist.proofs.gate.good_gates.Given as goal

abbrev pub invariant-loop-k : goal.invariant-loop-k
invariant-loop-k l = l.k + good_from (l.m + l.k) (drop l.k l.gates) ≡ good_from l.m l.gates

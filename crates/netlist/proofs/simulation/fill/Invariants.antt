use Rattle.netlist.proofs.Steps.{Holds}
use Rattle.netlist.proofs.simulation.fill.Given as goal

abbrev pub invariant-loop-k : goal.invariant-loop-k
invariant-loop-k l = Holds l.inputs l.gates l.values l.k

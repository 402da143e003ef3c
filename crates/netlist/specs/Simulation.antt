-- What simulate answers, and what its value list then holds.
use Rattle.std.specs.Prelude.{ℕ, ◌+◌, cond, not, List, length, ◌==◌, nat_lt}
use Rattle.std.specs.List.{prefix_len}
use Rattle.netlist.specs.declared.gate.Gate.{Gate}
use Rattle.netlist.specs.declared.refusal.Refusal.TheVariants.{Length, InputByte, BadGate}
use Rattle.netlist.specs.Gates.{good_from}
use Rattle.netlist.specs.Signals.{is_bit, signals}
use Rattle.netlist.specs.Refusals.{Answer, done, refusal}

-- The first check that fails refuses and leaves the values; else they are the signals.
abbrev pub simulated : List ℕ → List Gate → List ℕ → Answer × List ℕ
simulated inputs gates old =
    cond (nat_lt 1024 (length inputs)) (refusal (Length (length inputs)), old)
    (cond (nat_lt 1048576 (length gates)) (refusal (Length (length gates)), old)
    (cond (not (length old == length inputs + length gates)) (refusal (Length (length old)), old)
    (cond (nat_lt (prefix_len is_bit inputs) (length inputs)) (refusal (InputByte (prefix_len is_bit inputs)), old)
    (cond (nat_lt (good_from (length inputs) gates) (length gates)) (refusal (BadGate (good_from (length inputs) gates)), old)
    (done, signals inputs gates)))))

-- Signals: the inputs' values, then each gate's over the signals before it.
use Rattle.std.specs.Prelude.{◌≡◌, ℕ, ◌+◌, ◌<◌, Bool, List, [], ◌∷◌, ◌++◌, length, take, fold, nat_lt, slice_index, slice_index_or}
use Rattle.netlist.specs.declared.gate.Gate.{Gate}
use Rattle.netlist.specs.Gates.{row_value, zero_gate}

-- A value that an input may have.
abbrev pub is_bit : ℕ → Bool
is_bit b = nat_lt b 2

-- The value of a gate where vs are the values of the signals.
abbrev pub value_over : List ℕ → Gate → ℕ
value_over vs g = row_value g.arity g.table (slice_index vs g.a) (slice_index vs g.b)

-- The signals so far, then the gate's own.
abbrev pub next : List ℕ → Gate → List ℕ
next vs g = vs ++ value_over vs g ∷ []

-- The values of all signals.
abbrev pub signals : List ℕ → List Gate → List ℕ
signals inputs gates = fold next inputs gates

-- The values vs are settled: first those of the inputs, then for each gate the bit of its table that the values of its operands, in vs
-- itself, pick.
pub record Settled (inputs : List ℕ) (gates : List Gate) (vs : List ℕ) : Type 0 where
  pub first : take (length inputs) vs ≡ inputs
  pub each : (k : ℕ) → k < length gates → slice_index vs (length inputs + k) ≡ value_over vs (slice_index_or gates k zero_gate)

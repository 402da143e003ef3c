-- Maps of four states: the state that each one goes to.
use Rattle.std.specs.Prelude.{ℕ, ◌+◌, ◌*◌, List, [], ◌∷◌, ◌++◌}
use Rattle.kinds.specs.declared.template.TemplateGate.{TemplateGate}
use Rattle.kinds.specs.declared.template.Pin.{Pin}
use Rattle.kinds.specs.declared.template.Pin.TheVariants.{Low, High, Inner}
use Rattle.kinds.specs.declared.elements.State.{State}
use Rattle.kinds.specs.declared.elements.State.TheVariants.{S0, S1, S2, S3}
use Rattle.kinds.specs.declared.elements.Map.{Map}
use Rattle.kinds.specs.Template.{one, two}
use Rattle.netlist.specs.Gates.{not_table, and_table, or_table}

abbrev pub entry_at : Map → State → State
entry_at m S0 = m.e0
entry_at m S1 = m.e1
entry_at m S2 = m.e2
entry_at m S3 = m.e3

abbrev pub map_unit : Map
map_unit = record { e0 = S0; e1 = S1; e2 = S2; e3 = S3 }

-- Entry s of the product is high's entry at low's entry s.
abbrev pub map_product : Map → Map → Map
map_product l h = record { e0 = entry_at h l.e0; e1 = entry_at h l.e1; e2 = entry_at h l.e2; e3 = entry_at h l.e3 }

abbrev pub low_bit : State → ℕ
low_bit S0 = 0
low_bit S1 = 1
low_bit S2 = 0
low_bit S3 = 1

abbrev pub high_bit : State → ℕ
high_bit S0 = 0
high_bit S1 = 0
high_bit S2 = 1
high_bit S3 = 1

abbrev pub state_number : State → ℕ
state_number s = 2 * high_bit s + low_bit s

-- Bits 2s and 2s + 1 of the byte of a map hold entry s.
abbrev pub byte_of : Map → ℕ
byte_of m = state_number m.e0 + 4 * state_number m.e1 + 16 * state_number m.e2 + 64 * state_number m.e3

abbrev pub map_bits : Map → List ℕ
map_bits m =
    low_bit m.e0 ∷ high_bit m.e0 ∷ low_bit m.e1 ∷ high_bit m.e1
    ∷ low_bit m.e2 ∷ high_bit m.e2 ∷ low_bit m.e3 ∷ high_bit m.e3 ∷ []

-- The seven gates, from gate k on, that select bit b of the entry of high whose decoder, of the four from gate d on, is 1.
abbrev pub select : ℕ → ℕ → ℕ → List TemplateGate
select d k b =
    two and_table (Inner d) (High b)
    ∷ two and_table (Inner (d + 1)) (High (2 + b))
    ∷ two and_table (Inner (d + 2)) (High (4 + b))
    ∷ two and_table (Inner (d + 3)) (High (6 + b))
    ∷ two or_table (Inner k) (Inner (k + 1))
    ∷ two or_table (Inner (k + 4)) (Inner (k + 2))
    ∷ two or_table (Inner (k + 5)) (Inner (k + 3))
    ∷ []

-- The twenty gates of entry s: both bits of low's entry negated, its four decoders, then the two bits.
abbrev pub entry_gates : ℕ → List TemplateGate
entry_gates s =
    one not_table (Low (2 * s + 1))
    ∷ one not_table (Low (2 * s))
    ∷ two and_table (Inner (20 * s)) (Inner (20 * s + 1))
    ∷ two and_table (Inner (20 * s)) (Low (2 * s))
    ∷ two and_table (Low (2 * s + 1)) (Inner (20 * s + 1))
    ∷ two and_table (Low (2 * s + 1)) (Low (2 * s))
    ∷ (select (20 * s + 2) (20 * s + 6) 0 ++ select (20 * s + 2) (20 * s + 13) 1)

abbrev pub map_gates : List TemplateGate
map_gates = entry_gates 0 ++ (entry_gates 1 ++ (entry_gates 2 ++ entry_gates 3))

abbrev pub map_results : List Pin
map_results = Inner 12 ∷ Inner 19 ∷ Inner 32 ∷ Inner 39 ∷ Inner 52 ∷ Inner 59 ∷ Inner 72 ∷ Inner 79 ∷ []

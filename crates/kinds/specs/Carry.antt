-- Carries: two bits, generate and propagate.
use Rattle.std.specs.Prelude.{ℕ, true, false, ◌&&◌, ◌||◌, List, [], ◌∷◌}
use Rattle.kinds.specs.declared.template.TemplateGate.{TemplateGate}
use Rattle.kinds.specs.declared.template.Pin.{Pin}
use Rattle.kinds.specs.declared.template.Pin.TheVariants.{Low, High, Inner}
use Rattle.kinds.specs.declared.elements.Carry.{Carry}
use Rattle.kinds.specs.Template.{bit_of, two}
use Rattle.netlist.specs.Gates.{and_table, or_table}

abbrev pub carry_unit : Carry
carry_unit = record { generate = false; propagate = true }

-- High generates a carry, or passes on the one that low generates.
abbrev pub carry_product : Carry → Carry → Carry
carry_product l h = record { generate = h.generate || (h.propagate && l.generate); propagate = h.propagate && l.propagate }

abbrev pub carry_bits : Carry → List ℕ
carry_bits x = bit_of x.generate ∷ bit_of x.propagate ∷ []

abbrev pub carry_gates : List TemplateGate
carry_gates =
    two and_table (High 1) (Low 0)
    ∷ two or_table (High 0) (Inner 0)
    ∷ two and_table (High 1) (Low 1)
    ∷ []

abbrev pub carry_results : List Pin
carry_results = Inner 1 ∷ Inner 2 ∷ []

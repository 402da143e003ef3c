-- Parities: one bit, whose product is the exclusive or.
use Rattle.std.specs.Prelude.{ℕ, Bool, false, cond, not, List, [], ◌∷◌}
use Rattle.kinds.specs.declared.template.TemplateGate.{TemplateGate}
use Rattle.kinds.specs.declared.template.Pin.{Pin}
use Rattle.kinds.specs.declared.template.Pin.TheVariants.{Low, High, Inner}
use Rattle.kinds.specs.Template.{bit_of, two}
use Rattle.netlist.specs.Gates.{xor_table}

abbrev pub parity_unit : Bool
parity_unit = false

abbrev pub parity_product : Bool → Bool → Bool
parity_product l h = cond l (not h) h

abbrev pub parity_bits : Bool → List ℕ
parity_bits x = bit_of x ∷ []

abbrev pub parity_gates : List TemplateGate
parity_gates = two xor_table (Low 0) (High 0) ∷ []

abbrev pub parity_results : List Pin
parity_results = Inner 0 ∷ []

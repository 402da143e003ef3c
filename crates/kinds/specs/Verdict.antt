-- Verdicts: how two numbers compare, the more significant part on the right.
use Rattle.std.specs.Prelude.{ℕ, List, [], ◌∷◌}
use Rattle.kinds.specs.declared.template.TemplateGate.{TemplateGate}
use Rattle.kinds.specs.declared.template.Pin.{Pin}
use Rattle.kinds.specs.declared.template.Pin.TheVariants.{Low, High, Inner}
use Rattle.kinds.specs.declared.elements.Verdict.{Verdict}
use Rattle.kinds.specs.declared.elements.Verdict.TheVariants.{Equal, Less, Greater}
use Rattle.kinds.specs.Template.{one, two}
use Rattle.netlist.specs.Gates.{not_table, and_table, or_table}

abbrev pub verdict_number : Verdict → ℕ
verdict_number Equal = 0
verdict_number Less = 1
verdict_number Greater = 2

abbrev pub verdict_unit : Verdict
verdict_unit = Equal

-- High's, unless that is equal.
abbrev pub verdict_product : Verdict → Verdict → Verdict
verdict_product l Equal = l
verdict_product l Less = Less
verdict_product l Greater = Greater

-- Bit 0 is set for less, bit 1 for greater.
abbrev pub verdict_bits : Verdict → List ℕ
verdict_bits Equal = 0 ∷ 0 ∷ []
verdict_bits Less = 1 ∷ 0 ∷ []
verdict_bits Greater = 0 ∷ 1 ∷ []

abbrev pub verdict_gates : List TemplateGate
verdict_gates =
    one not_table (High 1)
    ∷ two and_table (Inner 0) (Low 0)
    ∷ two or_table (High 0) (Inner 1)
    ∷ one not_table (High 0)
    ∷ two and_table (Inner 3) (Low 1)
    ∷ two or_table (High 1) (Inner 4)
    ∷ []

abbrev pub verdict_results : List Pin
verdict_results = Inner 2 ∷ Inner 5 ∷ []

-- What is measured of an account.
use Rattle.std.specs.Prelude.{◌≡◌, ℕ, ◌≤◌, length}
use Rattle.account.specs.Account.{Account}
use Rattle.account.specs.Families.{family, size_of, depth_of_family}
use Rattle.account.specs.Measure.{depth_of, fan_out}
use Rattle.answers.specs.declared.measure.Measure.{Measure}

-- How many joins an account has, how deep its outputs are, and how many joins take one node.
abbrev pub measured : Account → Measure
measured a = record { joins = length a.joins; depth = depth_of a; fan_out = fan_out a }

-- Where the joins are those of a family, the measure is that of the family's formulas.
abbrev pub ByFormula : Account → Measure → Type 0
ByFormula a m =
    (f : ℕ) → 1 ≤ f → f ≤ 4 → a.joins ≡ family f a.columns →
    (m.joins ≡ size_of f a.columns) × (m.depth ≡ depth_of_family f a.columns)

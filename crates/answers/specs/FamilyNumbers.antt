-- The number of each family, and the family of a number.
use Rattle.std.specs.Prelude.{◌≡◌, ℕ, true, false, Result, MatchResult}
use Rattle.account.specs.Account.{is_family}
use Rattle.answers.specs.declared.family.Family.{Family}
use Rattle.answers.specs.declared.family.Family.TheVariants.{Sklansky, KoggeStone, BrentKung, HanCarlson}
use Rattle.answers.specs.declared.refusal.Refusal.{Refusal}
use Rattle.answers.specs.declared.refusal.Refusal.TheVariants.{NoFamily}

abbrev pub number_of : Family → ℕ
number_of Sklansky = 1
number_of KoggeStone = 2
number_of BrentKung = 3
number_of HanCarlson = 4

-- The family with this number, or the refusal of a number that no family has.
abbrev pub Numbers : ℕ → Result Family Refusal → Type 0
Numbers n r = MatchResult r (λ f. (is_family n ≡ true) × (number_of f ≡ n)) (λ e. (is_family n ≡ false) × (e ≡ NoFamily n))

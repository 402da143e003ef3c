-- What the levels of each family are.
use Rattle.std.proofs.Common.{◌≡◌, ℕ, ◌≤◌, List, ◌∷◌, length, fold, refl, sym, subst, arith}
use Rattle.account.specs.Words.{Pair}
use Rattle.account.specs.Families.{Level as Rule, Laying, levels, lay_level, family}
use Rattle.account.specs.Sound.{Sound}
use Rattle.account.proofs.Laying.{length_levels_1, length_levels_2, length_levels_3, length_levels_4, level_sound}
use Rattle.account.proofs.Tying.{Stands, family_stands_lem}
use Rattle.answers.specs.FamilyNumbers.{number_of}
use Rattle.answers.specs.declared.family.Family.{Family}
use Rattle.answers.specs.declared.family.Family.TheVariants.{Sklansky, KoggeStone, BrentKung, HanCarlson}

-- a sheet's families have at most 11 levels
pub levels_few : (f : Family) (k : ℕ) → k ≤ 6 → length (levels (number_of f) k) ≤ 11
levels_few Sklansky k h = omega (arith, length_levels_1 k)
levels_few KoggeStone k h = omega (arith, length_levels_2 k)
levels_few BrentKung k h = omega (arith, length_levels_3 k)
levels_few HanCarlson k h = omega (arith, length_levels_4 k)

-- each family stands at each width
pub stands : (f : Family) (m n : ℕ) → number_of f ≡ m → 1 ≤ n → n ≤ 64 → Stands m n
stands Sklansky m n e a b = family_stands_lem m n (omega arith) (omega arith) a b
stands KoggeStone m n e a b = family_stands_lem m n (omega arith) (omega arith) a b
stands BrentKung m n e a b = family_stands_lem m n (omega arith) (omega arith) a b
stands HanCarlson m n e a b = family_stands_lem m n (omega arith) (omega arith) a b

-- the next level of a family is sound
pub next_sound : (f : Family) (n : ℕ) (l : Rule) (r ls : List Rule) (s : Laying) → 1 ≤ n → n ≤ 64 → r ≡ l ∷ ls →
    (fold (lay_level n) s r).joins ≡ family (number_of f) n → Sound n (lay_level n s l).joins
next_sound f n l r ls s a b e j =
    let S = λ (js : List Pair). Sound n js in
    let F = λ (xs : List Rule). Sound n (fold (lay_level n) s xs).joins in
    level_sound n l ls s (subst F e (subst S (sym j) (stands f (number_of f) n refl a b).sound))

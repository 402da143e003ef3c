-- What the answer of close says of the account.
use Rattle.std.proofs.Common.{◌≡◌, ℕ, zero, suc, ◌+◌, Bool, true, false, ◌⊎◌, [], ◌∷◌, is_some, Ok, Err, Result, refl, ◌∙◌, subst, inl, inr, ⊎_elim, arith, MatchOption}
use Rattle.std.specs.Result.{result_ok}
use Rattle.std.proofs.lemmas.Bool.{cases_Bool}
use Rattle.account.specs.Account.{Account, closed_sheet, refused, output_of, Covered, closing, closed}
use Rattle.account.proofs.Tying.{closes}
use Rattle.answers.specs.Refusals.{refusal}
use Rattle.answers.specs.declared.refusal.Refusal.{Refusal}
use Rattle.answers.specs.declared.refusal.Refusal.TheVariants.{Width, NoNode, Gap, Full, Bare, NotBare, NoFamily, Uncovered}
use Rattle.sheet.specs.Closing.{account_of, close_answer}
use Rattle.sheet.specs.declared.sheet.closed.ClosedSheet.{ClosedSheet}

not_closed_lem : (r : Refusal) (a : Account) → refusal r ≡ closed_sheet a → ◌≡◌ {A = ℕ} 0 1
not_closed_lem (Width n) a e = cc
not_closed_lem (NoNode v s) a e = cc
not_closed_lem (Gap x y) a e = cc
not_closed_lem Full a e = cc
not_closed_lem Bare a e = cc
not_closed_lem (NotBare k) a e = cc
not_closed_lem (NoFamily f) a e = cc
not_closed_lem (Uncovered c) a e = cc

-- where a closed sheet was said to stand, closing gives it
pub closes_again : (r : Result ClosedSheet Refusal) (a : Account) (b : Bool) → b ≡ true → Covered a → close_answer r ≡ closed a → MatchOption (result_ok r) (b ≡ false) (λ k. (b ≡ true) × (account_of k ≡ a))
closes_again (Ok k) a b t cov e = let f : closed_sheet (account_of k) ≡ closed_sheet a = e ∙ closes a 0 a.columns cov (omega arith) in (t, cc)
closes_again (Err x) a b t cov e = let z = not_closed_lem x a (e ∙ closes a 0 a.columns cov (omega arith)) in absurd (omega arith)

-- closing answers a closed sheet of this account, or refuses
closing_cases : (a : Account) (c k : ℕ) → (closing a c k ≡ closed_sheet a) ⊎ ((x : ℕ) × (closing a c k ≡ refused 8 (x ∷ [])))
closing_cases a c zero = inl refl
closing_cases a c (suc k) =
    ⊎_elim
    (λ (t : is_some (output_of a c) ≡ true). rw t (closing_cases a (c + 1) k))
    (λ (f : is_some (output_of a c) ≡ false). inr (c, rw f))
    (cases_Bool (is_some (output_of a c)))

pub closed_is : (a b : Account) → closed_sheet b ≡ closed a → b ≡ a
closed_is a b e =
    ⊎_elim
    (λ (t : closing a 0 a.columns ≡ closed_sheet a). cc)
    (λ (p : (x : ℕ) × (closing a 0 a.columns ≡ refused 8 (x ∷ []))). let z : ◌≡◌ {A = ℕ} 0 1 = (let f = p.1 in cc) in absurd (omega arith))
    (closing_cases a 0 a.columns)

-- a sheet that closes is covered
pub covered_by : (a : Account) (k : ClosedSheet) → closed_sheet (account_of k) ≡ closed a → Covered a
covered_by a k e = subst Covered (closed_is a (account_of k) e) k.covered

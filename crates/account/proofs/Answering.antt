use Rattle.std.proofs.Common.{◌≡◌, ℕ, ◌<◌, ◌≤◌, Bool, true, false, cond, ltb, [], ◌∷◌, ◌++◌, length, sym, ap, ◌∙◌, ⊎_elim, arith}
use Rattle.std.proofs.lemmas.Bool.{lt-ltb, le-ltb, eq-eqb, cases_Bool}
use Rattle.account.specs.Words.{is_run}
use Rattle.account.specs.Account.{Account, Answer, number, refused, nodes, word_of, with_join, meets, joined, GapIsNoRun, is_family, laid}
use Rattle.account.specs.Families.{family}

-- join, one lemma for each outcome
pub no_low : (a : Account) (l h : ℕ) → nodes a ≤ l → (refused 2 (l ∷ 0 ∷ []), a) ≡ joined a l h
no_low a l h p = rw (le-ltb l (nodes a) p)

pub no_high : (a : Account) (l h : ℕ) → l < nodes a → nodes a ≤ h → (refused 2 (h ∷ 1 ∷ []), a) ≡ joined a l h
no_high a l h p q = rw (lt-ltb l (nodes a) p, le-ltb h (nodes a) q)

pub gap : (a : Account) (l h : ℕ) → l < nodes a → h < nodes a → meets a l h ≡ false → (refused 3 (l ∷ h ∷ []), a) ≡ joined a l h
gap a l h p q r = rw (lt-ltb l (nodes a) p, lt-ltb h (nodes a) q, r)

pub full : (a : Account) (l h : ℕ) → l < nodes a → h < nodes a → meets a l h ≡ true → 1024 ≤ length a.joins →
    (refused 4 [], a) ≡ joined a l h
full a l h p q r s = rw (lt-ltb l (nodes a) p, lt-ltb h (nodes a) q, r, le-ltb (length a.joins) 1024 s)

pub accepted : (a b : Account) (l h v : ℕ) → l < nodes a → h < nodes a → meets a l h ≡ true → length a.joins < 1024 →
    v ≡ nodes a → b ≡ with_join a l h → (number v, b) ≡ joined a l h
accepted a b l h v p q r s t u = rw (lt-ltb l (nodes a) p, lt-ltb h (nodes a) q, r, lt-ltb (length a.joins) 1024 s, t, u)

-- where two nodes meet exactly if their words make a run, a gap is answered exactly if they make none
answer_of : {x y : Answer × Account} → x ≡ y → x.0 ≡ y.0
answer_of e = ap (λ (x : Answer × Account). x.0) e

not_gap : (full : Bool) (l h : ℕ) (a b : Account) (r : Answer) → ◌≡◌ {A = Answer × Account} (r, b) (cond full (number (nodes a), with_join a l h) (refused 4 [], a)) → r ≡ refused 3 (l ∷ h ∷ []) → ◌≡◌ {A = ℕ} 0 1
not_gap true l h a b r e f = let g = answer_of e in cc
not_gap false l h a b r e f =
    let g = answer_of e in let four : refused 4 [] ≡ refused 3 (l ∷ h ∷ []) = cc in let n : ◌≡◌ {A = ℕ} 4 3 = cc in absurd (omega arith)

pub gap_exactly : (a b : Account) (l h : ℕ) (r : Answer) → (r, b) ≡ joined a l h →
    (l < nodes a → h < nodes a → meets a l h ≡ is_run (word_of a l ++ word_of a h)) → GapIsNoRun a l h r
gap_exactly a b l h r e runs p q =
    let m = runs p q in
    let room = ltb (length a.joins) 1024 in
    let here : ◌≡◌ {A = Answer × Account} (r, b) (cond (meets a l h) (cond room (number (nodes a), with_join a l h) (refused 4 [], a)) (refused 3 (l ∷ h ∷ []), a)) =
    e ∙ rw (lt-ltb l (nodes a) p, lt-ltb h (nodes a) q) in (
      (λ g.
          ⊎_elim
          (λ (t : meets a l h ≡ true).
          let other : ◌≡◌ {A = Answer × Account} (r, b) (cond room (number (nodes a), with_join a l h) (refused 4 [], a)) = rw t at here in
          let z = not_gap room l h a b r other g in absurd (omega arith))
          (λ (f : meets a l h ≡ false). sym m ∙ f)
          (cases_Bool (meets a l h))),
      (λ n. let f : meets a l h ≡ false = m ∙ n in let there : ◌≡◌ {A = Answer × Account} (r, b) (refused 3 (l ∷ h ∷ []), a) = rw f at here in answer_of there),
    )

-- lay, likewise
pub is_family_lem : (f : ℕ) → 1 ≤ f → f ≤ 4 → is_family f ≡ true
is_family_lem f h k = let l : 0 < f = omega arith in let m : f < 5 = omega arith in rw (lt-ltb 0 f l, lt-ltb f 5 m)

pub lays : (a b : Account) (f k : ℕ) → is_family f ≡ true → length a.joins ≡ 0 → k ≡ length (family f a.columns) →
    b ≡ record { columns = a.columns; joins = family f a.columns } → (number k, b) ≡ laid a f
lays a b f k h z e u = rw (h, eq-eqb (length a.joins) 0 z, e, u)

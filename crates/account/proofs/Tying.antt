use Rattle.std.proofs.Common.{◌≡◌, ℕ, zero, suc, ◌+◌, ◌-◌, ◌<◌, ◌≤◌, Bool, true, false, ◌&&◌, eqb, ltb, leb, List, [], ◌∷◌, ◌++◌, map, length, get_or, is_some, Some, None, Option, sym, refl, ap, ◌∙◌, subst, ⊎_elim, arith}
use mathlib.Core.Path.{fun_ext}
use Rattle.std.specs.List.{range_with_len}
use Rattle.std.proofs.lemmas.List.{append_assoc, append-nil, length_push, length-map, map_push, get_or-map}
use Rattle.std.proofs.lemmas.List.FromFn.{length-range_with_len}
use Rattle.std.proofs.lemmas.Bool.{ltb-true, leb-true, eqb-true, eq-eqb, cases_Bool, cases_eq, and_parts, and_from}
use Rattle.account.specs.Words.{Pair, words, word, front, back}
use Rattle.account.specs.Families.{family, size_of, depth_of_family, greatest}
use Rattle.account.specs.Account.{Account, closed_sheet, same, place_of, output_of, Covered, closing}
use Rattle.account.specs.Measure.{deeper, deepened, depths, depth_at, depth_of}
use Rattle.account.specs.Sound.{Accepts, Sound}
use Rattle.account.proofs.Rows.{Row, no_row, column_row, join_row, fits, row_at, row_depth, all_of, covers, standing, family_stands, families_stand}
use Rattle.account.proofs.Spelling.{words_push, length_words, counting_append, front_counting, back_counting}
use Rattle.account.proofs.Answering.{accepted}
use Rattle.account.proofs.Standing.{sklansky_stands, kogge_stone_stands, brent_kung_stands, han_carlson_stands}

-- the word and the depth that a row stands for
abbrev pub spell : Row → List ℕ
spell r = range_with_len r.first (r.last + 1 - r.first)

abbrev pub deep_of : Row → ℕ
deep_of r = r.deep

abbrev pub Upwards : List Row → Type 0
Upwards [] = Unit {0}
Upwards (x ∷ xs) = (x.first ≤ x.last) × Upwards xs

-- the rows are those of all nodes of n columns and the joins ps
pub record Tied (n : ℕ) (ps : List Pair) (rows : List Row) : Type 0 where
  pub upward : Upwards rows
  pub spelled : words n ps ≡ map spell rows
  pub deepened_as : depths n ps ≡ map deep_of rows

upward_at : (rows : List Row) (v : ℕ) → Upwards rows → v < length rows → (get_or rows v no_row).first ≤ (get_or rows v no_row).last
upward_at [] v u h = absurd (omega arith)
upward_at (x ∷ xs) zero u h = u.0
upward_at (x ∷ xs) (suc v) u h = upward_at xs v u.1 (omega arith)

upward_push : (rows : List Row) (r : Row) → Upwards rows → r.first ≤ r.last → Upwards (rows ++ r ∷ [])
upward_push [] r u h = (h, tt)
upward_push (x ∷ xs) r u h = (u.0, upward_push xs r u.1 h)

tied_length : (n : ℕ) (ps : List Pair) (rows : List Row) → Tied n ps rows → length rows ≡ n + length ps
tied_length n ps rows t = sym (length-map rows spell) ∙ ap length (sym t.spelled) ∙ length_words n ps

tied_word : (n : ℕ) (ps : List Pair) (rows : List Row) (v : ℕ) → Tied n ps rows → v < length rows → word n ps v ≡ spell (get_or rows v no_row)
unfolding word
tied_word n ps rows v t h = ap (λ (ws : List (List ℕ)). get_or ws v []) t.spelled ∙ get_or-map spell rows v no_row [] h

size : (r : Row) → r.first ≤ r.last → r.last + 1 - r.first ≡ suc (r.last - r.first)
size r h = omega arith

front_spell : (r : Row) → r.first ≤ r.last → front (spell r) ≡ r.first
front_spell r h = rw (size r h) (front_counting r.first (r.last - r.first))

back_spell : (r : Row) → r.first ≤ r.last → back (spell r) ≡ r.last
back_spell r h =
    let e : r.first + (r.last - r.first) ≡ r.last = omega arith in
    rw (size r h) (back_counting r.first (r.last - r.first) ∙ e)

spell_join : (x y : Row) → x.first ≤ x.last → y.first ≤ y.last → x.last + 1 ≡ y.first → spell x ++ spell y ≡ spell (join_row x y)
spell_join x y hx hy g =
    let e : (x.last + 1 - x.first) + (y.last + 1 - y.first) ≡ y.last + 1 - x.first = omega arith in
    counting_append x.first (x.last + 1 - x.first) y.first (y.last + 1 - y.first) (omega arith) ∙ rw e

-- depths, one join on
deepened_push : (ds : List ℕ) (ps : List Pair) (p : Pair) → deepened ds (ps ++ p ∷ []) ≡ deepened ds ps ++ deeper (deepened ds ps) p ∷ []
deepened_push ds [] p = refl
deepened_push ds (q ∷ ps) p = deepened_push (ds ++ deeper ds q ∷ []) ps p

pub depths_push : (n : ℕ) (ps : List Pair) (p : Pair) → depths n (ps ++ p ∷ []) ≡ depths n ps ++ deeper (depths n ps) p ∷ []
unfolding depths
depths_push n ps p = deepened_push _ ps p

-- two rows that meet are of nodes whose join is accepted, and its row is theirs joined
tied_accepts : (n : ℕ) (ps : List Pair) (rows : List Row) (p : Pair) → Tied n ps rows → length ps < 1024 →
    p.0 < length rows → p.1 < length rows → (get_or rows p.0 no_row).last + 1 ≡ (get_or rows p.1 no_row).first → Accepts n ps p
tied_accepts n ps rows p t room l h g =
    let a : Account = record { columns = n; joins = ps } in
    let len = tied_length n ps rows t in
    let b : back (word n ps p.0) ≡ (get_or rows p.0 no_row).last =
    ap back (tied_word n ps rows p.0 t l) ∙ back_spell (get_or rows p.0 no_row) (upward_at rows p.0 t.upward l) in
    let f : front (word n ps p.1) ≡ (get_or rows p.1 no_row).first =
    ap front (tied_word n ps rows p.1 t h) ∙ front_spell (get_or rows p.1 no_row) (upward_at rows p.1 t.upward h) in
    accepted a _ p.0 p.1 (n + length ps) (omega arith) (omega arith) (eq-eqb _ _ (omega arith)) room refl refl

tied_push : (n : ℕ) (ps : List Pair) (rows : List Row) (p : Pair) → Tied n ps rows →
    p.0 < length rows → p.1 < length rows → (get_or rows p.0 no_row).last + 1 ≡ (get_or rows p.1 no_row).first →
    Tied n (ps ++ p ∷ []) (rows ++ join_row (get_or rows p.0 no_row) (get_or rows p.1 no_row) ∷ [])
tied_push n ps rows p t l h g =
    let x = get_or rows p.0 no_row in let y = get_or rows p.1 no_row in
    let ux = upward_at rows p.0 t.upward l in let uy = upward_at rows p.1 t.upward h in
    let w : word n ps p.0 ++ word n ps p.1 ≡ spell (join_row x y) =
    rw (tied_word n ps rows p.0 t l, tied_word n ps rows p.1 t h) (spell_join x y ux uy g) in
    let d : deeper (depths n ps) p ≡ deep_of (join_row x y) =
    rw (t.deepened_as, get_or-map deep_of rows p.0 no_row 0 l, get_or-map deep_of rows p.1 no_row 0 h) in
    record {
      upward = upward_push rows (join_row x y) t.upward (omega arith);
      spelled = words_push n ps p ∙ rw (t.spelled, w) (sym (map_push spell rows (join_row x y)));
      deepened_as = depths_push n ps p ∙ rw d (rw t.deepened_as (sym (map_push deep_of rows (join_row x y))));
    }

-- columns alone
spell_columns : (a k : ℕ) → map (λ (i : ℕ). i ∷ []) (range_with_len a k) ≡ map spell (map column_row (range_with_len a k))
spell_columns a zero = refl
spell_columns a (suc k) =
    let one : a + 1 - a ≡ 1 = omega arith in rw one (ap (λ (ws : List (List ℕ)). (a ∷ []) ∷ ws) (spell_columns (a + 1) k))

deep_columns : (a k : ℕ) → map (λ (i : ℕ). 0) (range_with_len a k) ≡ map deep_of (map column_row (range_with_len a k))
deep_columns a zero = refl
deep_columns a (suc k) = ap (λ (ds : List ℕ). 0 ∷ ds) (deep_columns (a + 1) k)

upward_columns : (a k : ℕ) → Upwards (map column_row (range_with_len a k))
upward_columns a zero = tt
upward_columns a (suc k) = (omega arith, upward_columns (a + 1) k)

tied_columns : (n : ℕ) → Tied n [] (map column_row (range_with_len 0 n))
unfolding words depths
tied_columns n = record { upward = upward_columns 0 n; spelled = spell_columns 0 n; deepened_as = deep_columns 0 n }

-- all joins of a list that fits are accepted, and the rows at its end pass the test
step : (test : List Row → Bool) (n v : ℕ) (ps qs : List Pair) (rows : List Row) (p : Pair) → Tied n ps rows → v ≡ length rows →
    fits test v rows (p ∷ qs) ≡ true →
    (p.0 < length rows) × (p.1 < length rows) × ((get_or rows p.0 no_row).last + 1 ≡ (get_or rows p.1 no_row).first)
    × (fits test (v + 1) (rows ++ join_row (get_or rows p.0 no_row) (get_or rows p.1 no_row) ∷ []) qs ≡ true)
unfolding fits
step test n v ps qs rows p t e h =
    let x = get_or rows p.0 no_row in let y = get_or rows p.1 no_row in
    let all = and_parts (ltb p.0 v && (ltb p.1 v && eqb (x.last + 1) y.first)) (fits test (v + 1) (rows ++ join_row x y ∷ []) qs) h in
    let l = and_parts (ltb p.0 v) (ltb p.1 v && eqb (x.last + 1) y.first) all.0 in
    let r = and_parts (ltb p.1 v) (eqb (x.last + 1) y.first) l.1 in
    (omega (arith, ltb-true p.0 v l.0), omega (arith, ltb-true p.1 v r.0), eqb-true _ _ r.1, all.1)

accepts_all : (test : List Row → Bool) (n v : ℕ) (ps js : List Pair) (rows : List Row) → Tied n ps rows → v ≡ length rows →
    length ps + length js ≤ 1024 → fits test v rows js ≡ true →
    (xs : List Pair) (p : Pair) (ys : List Pair) → xs ++ p ∷ ys ≡ js → Accepts n (ps ++ xs) p
accepts_all test n v ps [] rows t e room h [] p ys q = let z : ◌≡◌ {A = ℕ} 0 1 = cc in absurd (omega arith)
accepts_all test n v ps [] rows t e room h (x ∷ xs) p ys q = let z : ◌≡◌ {A = ℕ} 0 1 = cc in absurd (omega arith)
accepts_all test n v ps (j ∷ js) rows t e room h [] p ys q =
    let s = step test n v ps js rows j t e h in
    let same-p : j ≡ p = cc in
    let P : Pair → Type 0 = λ r. Accepts n (ps ++ []) r in
    let Q : List Pair → Type 0 = λ r. Accepts n r j in
    subst P same-p (subst Q (sym (append-nil ps)) (tied_accepts n ps rows j t (omega arith) s.0 s.1 s.2))
accepts_all test n v ps (j ∷ js) rows t e room h (x ∷ xs) p ys q =
    let s = step test n v ps js rows j t e h in
    let r = join_row (get_or rows j.0 no_row) (get_or rows j.1 no_row) in
    let rest : xs ++ p ∷ ys ≡ js = cc in
    let same-x : j ≡ x = cc in
    let go : Accepts n ((ps ++ j ∷ []) ++ xs) p =
    accepts_all test n (v + 1) (ps ++ j ∷ []) js (rows ++ r ∷ []) (tied_push n ps rows j t s.0 s.1 s.2)
    (omega (arith, length_push rows r)) (omega (arith, length_push ps j)) s.3 xs p ys rest in
    let P : List Pair → Type 0 = λ k. Accepts n k p in
    subst P (append_assoc ps (j ∷ []) xs ∙ ap (λ (k : Pair). ps ++ k ∷ xs) same-x) go

ends : (test : List Row → Bool) (n v : ℕ) (ps js : List Pair) (rows : List Row) → Tied n ps rows → v ≡ length rows →
    fits test v rows js ≡ true → (last : List Row) × Tied n (ps ++ js) last × (test last ≡ true)
ends test n v ps [] rows t e h =
    let T : List Pair → Type 0 = λ k. Tied n k rows in (rows, subst T (sym (append-nil ps)) t, unfold fits in h)
ends test n v ps (j ∷ js) rows t e h =
    let s = step test n v ps js rows j t e h in
    let r = join_row (get_or rows j.0 no_row) (get_or rows j.1 no_row) in
    let m = ends test n (v + 1) (ps ++ j ∷ []) js (rows ++ r ∷ []) (tied_push n ps rows j t s.0 s.1 s.2) (omega (arith, length_push rows r)) s.3 in
    let T : List Pair → Type 0 = λ k. Tied n k m.0 in
    (m.0, subst T (append_assoc ps (j ∷ []) js) m.1, m.2)

-- words that are the same
pub same_self : (w : List ℕ) → same w w ≡ true
same_self [] = refl
same_self (x ∷ xs) = rw (eq-eqb x x refl) (same_self xs)

pub same_true : (x y : List ℕ) → same x y ≡ true → x ≡ y
same_true [] [] h = refl
same_true [] (y ∷ ys) h = cc
same_true (x ∷ xs) [] h = cc
same_true (x ∷ xs) (y ∷ ys) h =
    let p = and_parts (eqb x y) (same xs ys) h in
    let e = eqb-true x y p.0 in let f = same_true xs ys p.1 in cc

-- the word from f to l is that from 0 to c exactly if f is 0 and l is c
pub span_out : (f l c : ℕ) → f ≡ 0 → l ≡ c → same (range_with_len f (l + 1 - f)) (range_with_len 0 (c + 1)) ≡ true
span_out f l c p q = let e : l + 1 - f ≡ c + 1 = omega arith in rw (e, p) (same_self (range_with_len 0 (c + 1)))

pub span_other : (f l c : ℕ) → f ≤ l → (f ≡ 0 → l ≡ c → ⊥) → same (range_with_len f (l + 1 - f)) (range_with_len 0 (c + 1)) ≡ false
span_other f l c h never =
    ⊎_elim
    (λ (t : same (range_with_len f (l + 1 - f)) (range_with_len 0 (c + 1)) ≡ true).
    let e = same_true (range_with_len f (l + 1 - f)) (range_with_len 0 (c + 1)) t in
    let le : length (range_with_len f (l + 1 - f)) ≡ length (range_with_len 0 (c + 1)) = ap length e in
    let r : Row = record { first = f; last = l; deep = 0 } in
    let z : f ≡ 0 = sym (front_spell r h) ∙ ap front e ∙ (let s : c + 1 ≡ suc c = omega arith in rw s (front_counting 0 c)) in
    absurd (never z (omega (arith, length-range_with_len f (l + 1 - f), length-range_with_len 0 (c + 1)))))
    (λ n. n)
    (cases_Bool (same (range_with_len f (l + 1 - f)) (range_with_len 0 (c + 1))))

-- outputs, by words and by rows
place_row : (c : ℕ) (rows : List Row) (v : ℕ) → Upwards rows → place_of (range_with_len 0 (c + 1)) (map spell rows) v ≡ row_at c rows v
place_row c [] v u = refl
place_row c (x ∷ xs) v u =
    ⊎_elim
    (λ (t : (eqb x.first 0 && eqb x.last c) ≡ true).
    let p = and_parts (eqb x.first 0) (eqb x.last c) t in
    rw (span_out x.first x.last c (eqb-true _ _ p.0) (eqb-true _ _ p.1), t, row_at))
    (λ (f : (eqb x.first 0 && eqb x.last c) ≡ false).
    let never : x.first ≡ 0 → x.last ≡ c → ⊥ =
    λ a b. let y = and_from (eqb x.first 0) (eqb x.last c) (eq-eqb _ _ a) (eq-eqb _ _ b) in let z : ◌≡◌ {A = ℕ} 0 1 = cc in omega arith in
    rw (span_other x.first x.last c u.0 never, f, row_at) (place_row c xs (v + 1) u.1))
    (cases_Bool (eqb x.first 0 && eqb x.last c))

output_row : (n : ℕ) (ps : List Pair) (rows : List Row) (c : ℕ) → Tied n ps rows → output_of (record { columns = n; joins = ps }) c ≡ row_at c rows 0
unfolding output_of
output_row n ps rows c t = ap (λ (ws : List (List ℕ)). place_of (range_with_len 0 (c + 1)) ws 0) t.spelled ∙ place_row c rows 0 t.upward

deep_at : (rows : List Row) (v : ℕ) → get_or (map deep_of rows) v 0 ≡ (get_or rows v no_row).deep
deep_at [] v = refl
deep_at (x ∷ xs) zero = refl
deep_at (x ∷ xs) (suc v) = deep_at xs v

depth_row : (rows : List Row) (o : Option ℕ) → depth_at (map deep_of rows) o ≡ row_depth rows o
depth_row rows None = refl
depth_row rows (Some v) = deep_at rows v

depth_rows : (n : ℕ) (ps : List Pair) (rows : List Row) → Tied n ps rows →
    depth_of (record { columns = n; joins = ps }) ≡ greatest (map (λ c. row_depth rows (row_at c rows 0)) (range_with_len 0 n))
unfolding depth_of
depth_rows n ps rows t =
    let a : Account = record { columns = n; joins = ps } in
    let each : (c : ℕ) → depth_at (depths n ps) (output_of a c) ≡ row_depth rows (row_at c rows 0) =
    λ c. rw (t.deepened_as, output_row n ps rows c t) (depth_row rows (row_at c rows 0)) in
    ap (λ (g : ℕ → ℕ). greatest (map g (range_with_len 0 n))) (fun_ext each)

-- what holds of all numbers listed
pub all_at : (p : ℕ → Bool) (a k i : ℕ) → all_of p (range_with_len a k) ≡ true → a ≤ i → i < a + k → p i ≡ true
all_at p a zero i h l u = absurd (omega arith)
all_at p a (suc k) i h l u =
    let s = and_parts (p a) (all_of p (range_with_len (a + 1) k)) h in
    ⊎_elim
    (λ (e : i ≡ a). ap p e ∙ s.0)
    (λ (ne : i ≡ a → ⊥). all_at p (a + 1) k i s.1 (omega arith) (omega arith))
    (cases_eq i a)

pub closes : (a : Account) (c k : ℕ) → Covered a → c + k ≡ a.columns → closing a c k ≡ closed_sheet a
closes a c zero cov e = refl
closes a c (suc k) cov e = rw (cov c (omega arith)) (closes a (c + 1) k cov (omega arith))

abbrev pub family_account : ℕ → ℕ → Account
family_account f n = record { columns = n; joins = family f n }

-- what is known of a family at a width
pub record Stands (f n : ℕ) : Type 0 where
  pub sized : length (family f n) ≡ size_of f n
  pub room : length (family f n) ≤ 1024
  pub sound : Sound n (family f n)
  pub covered : Covered (family_account f n)
  pub deep : depth_of (family_account f n) ≡ depth_of_family f n

stands_from : (f n : ℕ) → family_stands f n ≡ true → Stands f n
unfolding family_stands standing covers Sound
stands_from f n h =
    let js = family f n in let rows = map column_row (range_with_len 0 n) in let d = depth_of_family f n in
    let a = and_parts (eqb (length js) (size_of f n) && leb (size_of f n) 1024) (fits (covers n d) n rows js) h in
    let b = and_parts (eqb (length js) (size_of f n)) (leb (size_of f n) 1024) a.0 in
    let s : length js ≡ size_of f n = eqb-true _ _ b.0 in
    let len : n ≡ length rows = sym (length-map (range_with_len 0 n) column_row ∙ length-range_with_len 0 n) in
    let r : length js ≤ 1024 = omega (arith, leb-true _ _ b.1) in
    let m = ends (covers n d) n n [] js rows (tied_columns n) len a.1 in
    let q = and_parts (all_of (λ c. is_some (row_at c m.0 0)) (range_with_len 0 n)) (eqb (greatest (map (λ c. row_depth m.0 (row_at c m.0 0)) (range_with_len 0 n))) d) m.2 in
    record {
      sized = s;
      room = r;
      sound = accepts_all (covers n d) n n [] js rows (tied_columns n) len (omega arith) a.1;
      covered = λ c lt. ap is_some (output_row n js m.0 c m.1) ∙ all_at (λ c. is_some (row_at c m.0 0)) 0 n c q.0 (omega arith) (omega arith);
      deep = depth_rows n js m.0 m.1 ∙ eqb-true _ _ q.1;
    }

all_stand : (f : ℕ) → 1 ≤ f → f ≤ 4 → families_stand f ≡ true
all_stand f l u =
    ⊎_elim (λ (e : f ≡ 1). rw e sklansky_stands) (λ (a : f ≡ 1 → ⊥).
    ⊎_elim (λ (e : f ≡ 2). rw e kogge_stone_stands) (λ (b : f ≡ 2 → ⊥).
    ⊎_elim (λ (e : f ≡ 3). rw e brent_kung_stands) (λ (c : f ≡ 3 → ⊥).
    let e : f ≡ 4 = omega arith in rw e han_carlson_stands)
    (cases_eq f 3)) (cases_eq f 2)) (cases_eq f 1)

-- every family stands at every width
pub family_stands_lem : (f n : ℕ) → 1 ≤ f → f ≤ 4 → 1 ≤ n → n ≤ 64 → Stands f n
unfolding families_stand
family_stands_lem f n l u a b = stands_from f n (all_at (family_stands f) 1 64 n (all_stand f l u) a (omega arith))

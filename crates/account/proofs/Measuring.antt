use Rattle.std.proofs.Common.{◌≡◌, ℕ, zero, suc, ◌+◌, ◌-◌, ◌<◌, ◌≤◌, max, true, false, cond, List, [], ◌∷◌, ◌++◌, map, length, get_or, drop, Some, sym, refl, ap, ◌∙◌, ⊎_elim, arith}
use Rattle.std.specs.List.{range_with_len}
use Rattle.std.proofs.lemmas.List.{at_drop_more, at_drop_all, length_push, get_or_push, get_or_append_left}
use Rattle.std.proofs.lemmas.List.FromFn.{length-range_with_len, get_or-range_with_len, length-map-range_with_len, get_or-map-range_with_len}
use Rattle.std.proofs.lemmas.Bool.{cases_Bool}
use Rattle.account.specs.Words.{Pair, words, word}
use Rattle.account.specs.Families.{greatest}
use Rattle.account.specs.Account.{Account, nodes, word_of, same, place_of, output_of}
use Rattle.account.specs.Measure.{deeper, deepened, depths, takes, takers}
use Rattle.account.proofs.Spelling.{length_words}
use Rattle.account.proofs.Tying.{same_true}

-- depths: the joins after a node leave its depth alone
deepened_before : (ds : List ℕ) (ps : List Pair) (v : ℕ) → v < length ds → get_or (deepened ds ps) v 0 ≡ get_or ds v 0
deepened_before ds [] v h = refl
deepened_before ds (p ∷ ps) v h =
    deepened_before (ds ++ deeper ds p ∷ []) ps v (omega (arith, length_push ds (deeper ds p))) ∙ get_or_append_left ds (deeper ds p ∷ []) 0 v h

deepened_join : (ds : List ℕ) (ps : List Pair) (r v : ℕ) → length ds + r ≡ v → r < length ps →
    (get_or ps r (0, 0)).0 < v → (get_or ps r (0, 0)).1 < v → get_or (deepened ds ps) v 0 ≡ deeper (deepened ds ps) (get_or ps r (0, 0))
deepened_join ds [] r v e h l u = absurd (omega arith)
deepened_join ds (p ∷ ps) zero v e h l u =
    let x = deeper ds p in
    let longer = length_push ds x in
    let at : (w : ℕ) → w < v → get_or (deepened (ds ++ x ∷ []) ps) w 0 ≡ get_or ds w 0 =
    λ w k. deepened_before (ds ++ x ∷ []) ps w (omega arith) ∙ get_or_append_left ds (x ∷ []) 0 w (omega arith) in
    deepened_before (ds ++ x ∷ []) ps v (omega arith) ∙ get_or_push ds x 0 v (omega arith)
    ∙ rw (at p.0 l, at p.1 u)
deepened_join ds (p ∷ ps) (suc r) v e h l u =
    deepened_join (ds ++ deeper ds p ∷ []) ps r v (omega (arith, length_push ds (deeper ds p))) (omega arith) l u

pub depth_column : (n : ℕ) (ps : List Pair) (v : ℕ) → v < n → get_or (depths n ps) v 0 ≡ 0
unfolding depths
depth_column n ps v h =
    deepened_before (map (λ _. 0) (range_with_len 0 n)) ps v (omega (arith, length-map-range_with_len {X = ℕ} (λ (_ : ℕ). 0) 0 n))
    ∙ get_or-map-range_with_len {X = ℕ} (λ (_ : ℕ). 0) 0 n v v 0 h (omega arith)

pub depth_join : (n : ℕ) (ps : List Pair) (v : ℕ) → n ≤ v → v < n + length ps →
    (get_or ps (v - n) (0, 0)).0 < v → (get_or ps (v - n) (0, 0)).1 < v → get_or (depths n ps) v 0 ≡ deeper (depths n ps) (get_or ps (v - n) (0, 0))
unfolding depths
depth_join n ps v h k l u =
    deepened_join (map (λ _. 0) (range_with_len 0 n)) ps (v - n) v (omega (arith, length-map-range_with_len {X = ℕ} (λ (_ : ℕ). 0) 0 n)) (omega arith) l u

-- the greatest value from c on, one further
pub greatest_more : (g : ℕ → ℕ) (n c best : ℕ) → c < n →
    max best (greatest (map g (drop c (range_with_len 0 n)))) ≡ max (max best (g c)) (greatest (map g (drop (c + 1) (range_with_len 0 n))))
greatest_more g n c best h =
    let at : get_or (range_with_len 0 n) c 0 ≡ c = get_or-range_with_len 0 n c 0 h ∙ omega arith in
    let rest = greatest (map g (drop (c + 1) (range_with_len 0 n))) in
    at_drop_more (λ (xs : List ℕ). max best (greatest (map g xs))) (range_with_len 0 n) c 0 (omega (arith, length-range_with_len 0 n))
    ∙ ap (λ (k : ℕ). max best (max (g k) rest)) at
    ∙ omega arith

pub greatest_all : (g : ℕ → ℕ) (n c best : ℕ) → n ≤ c → max best (greatest (map g (drop c (range_with_len 0 n)))) ≡ best
greatest_all g n c best h =
    at_drop_all (λ (xs : List ℕ). max best (greatest (map g xs))) (range_with_len 0 n) c (omega (arith, length-range_with_len 0 n)) ∙ omega arith

-- the joins that take v, from join r on
pub takers_more : (v : ℕ) (ps : List Pair) (r : ℕ) → r < length ps → takers v (drop r ps) ≡ cond (takes v (get_or ps r (0, 0))) 1 0 + takers v (drop (r + 1) ps)
takers_more v ps r h = at_drop_more (takers v) ps r (0, 0) h

pub takers_all : (v : ℕ) (ps : List Pair) (r : ℕ) → length ps ≤ r → takers v (drop r ps) ≡ 0
takers_all v ps r h = at_drop_all (takers v) ps r h

-- an output is a node
placed : (w : List ℕ) (ws : List (List ℕ)) (k v : ℕ) → place_of w ws k ≡ Some v → v < k + length ws
placed w [] k v e = let z : ◌≡◌ {A = ℕ} 0 1 = cc in absurd (omega arith)
placed w (x ∷ xs) k v e =
    ⊎_elim
    (λ (t : same x w ≡ true). let here : Some k ≡ Some v = rw t at e in let f : k ≡ v = cc in omega arith)
    (λ (t : same x w ≡ false). let later : place_of w xs (k + 1) ≡ Some v = rw t at e in omega (arith, placed w xs (k + 1) v later))
    (cases_Bool (same x w))

pub output_node : (a : Account) (c v : ℕ) → output_of a c ≡ Some v → v < nodes a
unfolding output_of
output_node a c v e = omega (arith, placed (range_with_len 0 (c + 1)) (words a.columns a.joins) 0 v e, length_words a.columns a.joins)

-- an output spells its columns
placed_same : (w : List ℕ) (ws : List (List ℕ)) (k v : ℕ) → place_of w ws k ≡ Some v → (k ≤ v) × (same (get_or ws (v - k) []) w ≡ true)
placed_same w [] k v e = let z : ◌≡◌ {A = ℕ} 0 1 = cc in absurd (omega arith)
placed_same w (x ∷ xs) k v e =
    ⊎_elim
    (λ (t : same x w ≡ true).
    let here : Some k ≡ Some v = rw t at e in
    let f : k ≡ v = cc in
    let z : v - k ≡ 0 = omega arith in
    (omega arith, rw z t))
    (λ (t : same x w ≡ false).
    let later : place_of w xs (k + 1) ≡ Some v = rw t at e in
    let r = placed_same w xs (k + 1) v later in
    let z : v - k ≡ suc (v - (k + 1)) = omega arith in
    (omega arith, rw z r.1))
    (cases_Bool (same x w))

pub output_word : (a : Account) (c v : ℕ) → output_of a c ≡ Some v → word_of a v ≡ range_with_len 0 (c + 1)
unfolding output_of word
output_word a c v e =
    let z : v - 0 ≡ v = omega arith in
    let ws = words a.columns a.joins in
    same_true (get_or ws v []) (range_with_len 0 (c + 1))
    (ap (λ (k : ℕ). same (get_or ws k []) (range_with_len 0 (c + 1))) (sym z) ∙ (placed_same (range_with_len 0 (c + 1)) ws 0 v e).1)

use Rattle.std.proofs.Common.{◌≡◌, ℕ, zero, suc, ◌+◌, ◌-◌, ◌*◌, ◌<◌, ◌≤◌, List, [], ◌∷◌, ◌++◌, map, length, get_or, drop, Some, None, fold, Option, sym, refl, ap, ◌∙◌, subst, arith}
use Rattle.std.specs.List.{range_with_len}
use Rattle.std.proofs.lemmas.List.{append_assoc, append-nil, at_drop_more, at_drop_all, length-append, length_push, get_or_append_left, get_or-append_right, set-get_or}
use Rattle.std.proofs.lemmas.List.FromFn.{length-range_with_len, get_or-range_with_len, length-map-range_with_len, get_or-map-range_with_len}
use Rattle.account.specs.Words.{Pair}
use Rattle.account.specs.Families.{Level, idle, Laying, join_column, lay_column, lay_level, levels, sklansky, kogge_stone, brent_kung_up, brent_kung_down, han_carlson, han_carlson_last}
use Rattle.account.specs.Sound.{Accepts, Sound}

-- laying only appends joins
abbrev pub Grows : Laying → Laying → Type 0
Grows s t = (more : List Pair) × (t.joins ≡ s.joins ++ more)

grows_column : (n : ℕ) (before : List ℕ) (s : Laying) (i : ℕ) (o : Option ℕ) → Grows s (join_column n before s i o)
grows_column n before s i None = ([], sym (append-nil s.joins))
grows_column n before s i (Some j) = ((get_or before j 0, get_or before i 0) ∷ [], refl)

grows_folded : {X : Type 0} (f : Laying → X → Laying) → ((s : Laying) (x : X) → Grows s (f s x)) → (s : Laying) (xs : List X) → Grows s (fold f s xs)
grows_folded f g s [] = ([], sym (append-nil s.joins))
grows_folded f g s (x ∷ xs) =
    let a = g s x in let b = grows_folded f g (f s x) xs in
    (a.0 ++ b.0, b.1 ∙ ap (λ (js : List Pair). js ++ b.0) a.1 ∙ append_assoc s.joins a.0 b.0)

grows_level : (n : ℕ) (s : Laying) (l : Level) → Grows s (lay_level n s l)
unfolding lay_level
grows_level n s l = grows_folded (lay_column n l s.current) (λ t i. grows_column n s.current t i (l i)) s (range_with_len 0 n)

-- what stands before sound joins is sound
sound_grown : (n : ℕ) (s t : Laying) → Grows s t → Sound n t.joins → Sound n s.joins
unfolding Sound
sound_grown n s t g k ps p qs e =
    k ps p (qs ++ g.0) (sym (append_assoc ps (p ∷ qs) g.0) ∙ ap (λ (js : List Pair). js ++ g.0) e ∙ sym g.1)

-- one column on, and one level on
pub column_more : (n : ℕ) (l : Level) (before : List ℕ) (s : Laying) (i : ℕ) → i < n →
    fold (lay_column n l before) s (drop i (range_with_len 0 n)) ≡ fold (lay_column n l before) (lay_column n l before s i) (drop (i + 1) (range_with_len 0 n))
column_more n l before s i h =
    let at : get_or (range_with_len 0 n) i 0 ≡ i = get_or-range_with_len 0 n i 0 h ∙ omega arith in
    at_drop_more (fold (lay_column n l before) s) (range_with_len 0 n) i 0 (omega (arith, length-range_with_len 0 n))
    ∙ ap (λ (k : ℕ). fold (lay_column n l before) (lay_column n l before s k) (drop (i + 1) (range_with_len 0 n))) at

pub columns_all : (n : ℕ) (l : Level) (before : List ℕ) (s : Laying) (i : ℕ) → n ≤ i → fold (lay_column n l before) s (drop i (range_with_len 0 n)) ≡ s
columns_all n l before s i h = at_drop_all (fold (lay_column n l before) s) (range_with_len 0 n) i (omega (arith, length-range_with_len 0 n))

pub level_more : (n : ℕ) (ls : List Level) (s : Laying) (t : ℕ) → t < length ls →
    fold (lay_level n) s (drop t ls) ≡ fold (lay_level n) (lay_level n s (get_or ls t idle)) (drop (t + 1) ls)
level_more n ls s t h = at_drop_more (fold (lay_level n) s) ls t idle h

pub levels_all : (n : ℕ) (ls : List Level) (s : Laying) (t : ℕ) → length ls ≤ t → fold (lay_level n) s (drop t ls) ≡ s
levels_all n ls s t h = at_drop_all (fold (lay_level n) s) ls t h

pub column_stays : (n : ℕ) (l : Level) (before : List ℕ) (s : Laying) (i : ℕ) → l i ≡ None → lay_column n l before s i ≡ s
column_stays n l before s i e = rw e

-- the steps of a level, column by column
pub ruleset columns = (column_more, columns_all, column_stays, set-get_or)

-- after one column of a sound level the joins are sound
pub column_sound : (n : ℕ) (l : Level) (before : List ℕ) (s : Laying) (i : ℕ) → i < n →
    Sound n (fold (lay_column n l before) s (drop i (range_with_len 0 n))).joins → Sound n (lay_column n l before s i).joins
column_sound n l before s i h k =
    let S : Laying → Type 0 = λ t. Sound n t.joins in
    sound_grown n (lay_column n l before s i) (fold (lay_column n l before) (lay_column n l before s i) (drop (i + 1) (range_with_len 0 n)))
    (grows_folded (lay_column n l before) (λ t j. grows_column n before t j (l j)) (lay_column n l before s i) (drop (i + 1) (range_with_len 0 n)))
    (subst S (column_more n l before s i h) k)

-- the last join of sound joins is accepted
pub sound_last : (n : ℕ) (ps : List Pair) (p : Pair) → Sound n (ps ++ p ∷ []) → Accepts n ps p
unfolding Sound
sound_last n ps p k = k ps p [] refl

-- a column that joins at a sound level does so with success
pub column_accepts : (n : ℕ) (l : Level) (before : List ℕ) (s : Laying) (i j : ℕ) → i < n → l i ≡ Some j →
    Sound n (fold (lay_column n l before) s (drop i (range_with_len 0 n))).joins → Accepts n s.joins (get_or before j 0, get_or before i 0)
unfolding Sound
column_accepts n l before s i j h e k =
    column_sound n l before s i h k s.joins (get_or before j 0, get_or before i 0) [] (rw e)

-- the first level
pub level_sound : (n : ℕ) (l : Level) (ls : List Level) (s : Laying) → Sound n (fold (lay_level n) s (l ∷ ls)).joins → Sound n (lay_level n s l).joins
level_sound n l ls s k = sound_grown n (lay_level n s l) (fold (lay_level n) (lay_level n s l) ls) (grows_folded (lay_level n) (grows_level n) (lay_level n s l) ls) k

-- the level at a turn
pub length_levels_1 : (k : ℕ) → length (levels 1 k) ≡ k
length_levels_1 k = length-map-range_with_len sklansky 0 k

pub length_levels_2 : (k : ℕ) → length (levels 2 k) ≡ k
length_levels_2 k = length-map-range_with_len kogge_stone 0 k

pub length_levels_3 : (k : ℕ) → length (levels 3 k) ≡ k + (k - 1)
length_levels_3 k =
    length-append (map brent_kung_up (range_with_len 1 k)) (map (λ t. brent_kung_down (k - 1 - t)) (range_with_len 0 (k - 1)))
    ∙ omega (arith, length-map-range_with_len brent_kung_up 1 k, length-map-range_with_len (λ t. brent_kung_down (k - 1 - t)) 0 (k - 1))

pub length_levels_4 : (k : ℕ) → length (levels 4 k) ≡ k - 1 + 2
length_levels_4 k = omega (arith, length_push (map han_carlson (range_with_len 1 (k - 1))) han_carlson_last, length-map-range_with_len han_carlson 1 (k - 1))

pub level_1 : (k t : ℕ) → t < k → get_or (levels 1 k) t idle ≡ sklansky t
level_1 k t h = get_or-map-range_with_len sklansky 0 k t t idle h (omega arith)

pub level_2 : (k t : ℕ) → t < k → get_or (levels 2 k) t idle ≡ kogge_stone t
level_2 k t h = get_or-map-range_with_len kogge_stone 0 k t t idle h (omega arith)

pub level_3_up : (k t : ℕ) → t < k → get_or (levels 3 k) t idle ≡ brent_kung_up (t + 1)
level_3_up k t h =
    get_or_append_left (map brent_kung_up (range_with_len 1 k)) _ idle t (omega (arith, length-map-range_with_len brent_kung_up 1 k))
    ∙ get_or-map-range_with_len brent_kung_up 1 k t (t + 1) idle h (omega arith)

pub level_3_down : (k t : ℕ) → k ≤ t → t + 1 < 2 * k → get_or (levels 3 k) t idle ≡ brent_kung_down (2 * k - 2 - t + 1)
level_3_down k t h u =
    get_or-append_right (map brent_kung_up (range_with_len 1 k)) (map (λ t. brent_kung_down (k - 1 - t)) (range_with_len 0 (k - 1))) k t idle (length-map-range_with_len brent_kung_up 1 k) h
    ∙ get_or-map-range_with_len (λ t. brent_kung_down (k - 1 - t)) 0 (k - 1) (t - k) (t - k) idle (omega arith) (omega arith)
    ∙ ap brent_kung_down (omega arith)

pub level_4_middle : (k t : ℕ) → 0 < t → t < k → get_or (levels 4 k) t idle ≡ han_carlson t
level_4_middle k zero z h = absurd (omega arith)
level_4_middle k (suc t) z h =
    get_or_append_left (map han_carlson (range_with_len 1 (k - 1))) _ idle t (omega (arith, length-map-range_with_len han_carlson 1 (k - 1)))
    ∙ get_or-map-range_with_len han_carlson 1 (k - 1) t (suc t) idle (omega arith) (omega arith)

pub level_4_last : (k t : ℕ) → 0 < t → k ≤ t → t < k - 1 + 2 → get_or (levels 4 k) t idle ≡ han_carlson_last
level_4_last k zero z h u = absurd (omega arith)
level_4_last k (suc t) z h u =
    get_or-append_right (map han_carlson (range_with_len 1 (k - 1))) (han_carlson_last ∷ []) (k - 1) t idle (length-map-range_with_len han_carlson 1 (k - 1)) (omega arith)
    ∙ (let e : t - (k - 1) ≡ 0 = omega arith in ap (λ (m : ℕ). get_or (han_carlson_last ∷ []) m idle) e)

-- each family's levels, counted and by their turn
pub ruleset turns = (length_levels_1, length_levels_2, length_levels_3, length_levels_4, level_1, level_2, level_3_up, level_3_down, level_4_middle, level_4_last)

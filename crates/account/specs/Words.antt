-- What the nodes of a sheet spell, from its width and the list of its joins alone.
use Rattle.std.specs.Prelude.{ℕ, ◌+◌, ◌<◌, Bool, true, false, cond, ◌&&◌, List, [], ◌∷◌, ◌++◌, map, length, get_or, Some, None, Option, ◌==◌, nat_lt, slice_index, slice_index_or}
use Rattle.std.specs.List.{range_with_len}

-- A join's operands: low, then high.
abbrev pub Pair : Type 0
Pair = ℕ × ℕ

-- The operands of join r, none past the last join.
abbrev pub pair_at : List Pair → ℕ → Option Pair
pair_at ps r = cond (nat_lt r (length ps)) (Some (slice_index_or ps r (0, 0))) None

-- Each join of n columns takes nodes that stand before it.
abbrev pub Ordered : ℕ → List Pair → Type 0
Ordered n ps = (r : ℕ) → r < length ps → ((get_or ps r (0, 0)).0 < n + r) × ((get_or ps r (0, 0)).1 < n + r)

-- Low's word, then high's.
abbrev pub spelled : List (List ℕ) → Pair → List ℕ
spelled ws p = slice_index_or ws p.0 [] ++ slice_index_or ws p.1 []

-- The words ws with those of the joins ps after them.
abbrev pub grown : List (List ℕ) → List Pair → List (List ℕ)
grown ws [] = ws
grown ws (p ∷ ps) = grown (ws ++ spelled ws p ∷ []) ps

-- The words of all nodes: column i spells i.
unfoldable pub words : ℕ → List Pair → List (List ℕ)
words n ps = grown (map (λ i. i ∷ []) (range_with_len 0 n)) ps

unfoldable pub word : ℕ → List Pair → ℕ → List ℕ
word n ps v = slice_index_or (words n ps) v []

-- Each number is the one before it plus 1, the first one after x.
abbrev pub rises : ℕ → List ℕ → Bool
rises x [] = true
rises x (y ∷ ys) = y == x + 1 && rises y ys

-- A run: one or more numbers, each the one before it plus 1.
unfoldable pub is_run : List ℕ → Bool
is_run [] = false
is_run (x ∷ xs) = rises x xs

-- The first and the last number of a word, 0 for none.
unfoldable pub front : List ℕ → ℕ
front w = slice_index w 0

abbrev pub after : ℕ → List ℕ → ℕ
after x [] = x
after x (y ∷ ys) = after y ys

unfoldable pub back : List ℕ → ℕ
back w = after 0 w

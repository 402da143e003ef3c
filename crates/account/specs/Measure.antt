use Rattle.std.specs.Prelude.{ℕ, ◌+◌, max, Bool, cond, ◌||◌, List, [], ◌∷◌, ◌++◌, map, Some, None, Option, ◌==◌, slice_index}
use Rattle.std.specs.List.{range_with_len}
use Rattle.account.specs.Words.{Pair}
use Rattle.account.specs.Families.{greatest}
use Rattle.account.specs.Account.{Account, nodes, output_of}

-- One more than the greater depth of a join's operands.
abbrev pub deeper : List ℕ → Pair → ℕ
deeper ds p = 1 + max (slice_index ds p.0) (slice_index ds p.1)

-- The depths ds with those of the joins ps after them.
abbrev pub deepened : List ℕ → List Pair → List ℕ
deepened ds [] = ds
deepened ds (p ∷ ps) = deepened (ds ++ deeper ds p ∷ []) ps

-- The depths of all nodes: a column has depth 0.
unfoldable pub depths : ℕ → List Pair → List ℕ
depths n ps = deepened (map (λ _. 0) (range_with_len 0 n)) ps

-- The depth of a column's output, 0 where it has none.
abbrev pub depth_at : List ℕ → Option ℕ → ℕ
depth_at ds None = 0
depth_at ds (Some v) = slice_index ds v

-- The greatest depth of an output.
unfoldable pub depth_of : Account → ℕ
depth_of a = greatest (map (λ c. depth_at (depths a.columns a.joins) (output_of a c)) (range_with_len 0 a.columns))

-- The join p takes the node v.
abbrev pub takes : ℕ → Pair → Bool
takes v p = p.0 == v || p.1 == v

-- How many of the joins ps take the node v.
abbrev pub takers : ℕ → List Pair → ℕ
takers v [] = 0
takers v (p ∷ ps) = cond (takes v p) 1 0 + takers v ps

-- The most joins that take one node.
unfoldable pub fan_out : Account → ℕ
fan_out a = greatest (map (λ v. takers v a.joins) (range_with_len 0 (nodes a)))

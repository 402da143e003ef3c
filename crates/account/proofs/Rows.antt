use Rattle.std.proofs.Common.{ℕ, ◌+◌, max, Bool, true, false, ◌&&◌, eqb, ltb, leb, List, [], ◌∷◌, ◌++◌, map, length, get_or, is_some, Some, None, Option}
use Rattle.std.specs.List.{range_with_len}
use Rattle.account.specs.Words.{Pair}
use Rattle.account.specs.Families.{family, size_of, depth_of_family, greatest}

-- What is kept of a node in a computed test: the first and the last number of its word, and its depth.
pub record Row : Type 0 where
  pub first : ℕ
  pub last : ℕ
  pub deep : ℕ

abbrev pub no_row : Row
no_row = record { first = 0; last = 0; deep = 0 }

abbrev pub column_row : ℕ → Row
column_row i = record { first = i; last = i; deep = 0 }

abbrev pub join_row : Row → Row → Row
join_row x y = record { first = x.first; last = y.last; deep = 1 + max x.deep y.deep }

-- Each of the joins ps is of two of the v rows so far that meet, and the rows of all nodes pass the test.
unfoldable pub fits : (List Row → Bool) → ℕ → List Row → List Pair → Bool
fits test v rows [] = test rows
fits test v rows (p ∷ ps) =
    (ltb p.0 v && (ltb p.1 v && eqb ((get_or rows p.0 no_row).last + 1) (get_or rows p.1 no_row).first))
    && fits test (v + 1) (rows ++ join_row (get_or rows p.0 no_row) (get_or rows p.1 no_row) ∷ []) ps

-- The first row, counted from v, of a node that spells 0 to c.
abbrev pub row_at : ℕ → List Row → ℕ → Option ℕ
row_at c [] v = None
row_at c (x ∷ xs) v = elim (eqb x.first 0 && eqb x.last c) [ true ↦ Some v | false ↦ row_at c xs (v + 1) ]

abbrev pub row_depth : List Row → Option ℕ → ℕ
row_depth rows None = 0
row_depth rows (Some v) = (get_or rows v no_row).deep

abbrev pub all_of : (ℕ → Bool) → List ℕ → Bool
all_of p [] = true
all_of p (x ∷ xs) = p x && all_of p xs

-- Every column has an output, and the deepest one has depth d.
unfoldable pub covers : ℕ → ℕ → List Row → Bool
covers n d rows =
    all_of (λ c. is_some (row_at c rows 0)) (range_with_len 0 n)
    && eqb (greatest (map (λ c. row_depth rows (row_at c rows 0)) (range_with_len 0 n))) d

-- The joins ps stand at width n: they are as many as said, have no gap, cover all columns and are as deep as said.
unfoldable pub standing : ℕ → ℕ → ℕ → List Pair → Bool
standing n size depth ps =
    (eqb (length ps) size && leb size 1024)
    && fits (covers n depth) n (map column_row (range_with_len 0 n)) ps

-- Family f stands at the n widths from 1.
unfoldable pub family_stands : ℕ → ℕ → Bool
family_stands f n = standing n (size_of f n) (depth_of_family f n) (family f n)

unfoldable pub families_stand : ℕ → Bool
families_stand f = all_of (family_stands f) (range_with_len 1 64)

use Rattle.std.specs.Prelude.{ℕ, List, [], ◌∷◌, ◌++◌, map}
use Rattle.account.specs.Account.{Account, Answer, number, joined, undone, laid, closed}
use Rattle.account.specs.Measure.{depth_of}

abbrev pub bare : ℕ → Account
bare n = record { columns = n; joins = [] }

-- The answers of joins made one after another.
abbrev pub join_all : Account → List (ℕ × ℕ) → List Answer
join_all a [] = []
join_all a (p ∷ ps) = (joined a p.0 p.1).0 ∷ join_all (joined a p.0 p.1).1 ps

-- The worked cases: four joins at width 4; undo and close of four bare columns; joins and then depth of each family at width 8.
abbrev pub worked : List Answer
worked =
    join_all (bare 4) ((0, 1) ∷ (1, 2) ∷ (4, 5) ∷ (4, 2) ∷ [])
    ++ ((undone (bare 4)).0 ∷ closed (bare 4) ∷ [])
    ++ map (λ f. (laid (bare 8) f).0) (1 ∷ 2 ∷ 3 ∷ 4 ∷ [])
    ++ map (λ f. number (depth_of (laid (bare 8) f).1)) (1 ∷ 2 ∷ 3 ∷ 4 ∷ [])

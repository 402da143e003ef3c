use Rattle.std.specs.Prelude.{◌≡◌, ℕ, ◌+◌, List, [], ◌∷◌, ◌++◌, length}
use Rattle.account.specs.Words.{Pair}
use Rattle.account.specs.Account.{number, joined}

-- At width n, after the joins ps, the join p is accepted.
abbrev pub Accepts : ℕ → List Pair → Pair → Type 0
Accepts n ps p =
    (number (n + length ps), record { columns = n; joins = ps ++ p ∷ [] }) ≡ joined (record { columns = n; joins = ps }) p.0 p.1

-- Each of the joins js is accepted after those before it.
unfoldable pub Sound : ℕ → List Pair → Type 0
Sound n js = (ps : List Pair) (p : Pair) (qs : List Pair) → ps ++ p ∷ qs ≡ js → Accepts n ps p

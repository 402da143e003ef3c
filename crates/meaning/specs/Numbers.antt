-- Numbers in binary, the lowest bit first.
use Rattle.std.specs.Prelude.{ℕ, ◌+◌, ◌*◌, ◌<◌, List, [], ◌∷◌, All}

-- The number that zeros and ones mean.
abbrev pub value : List ℕ → ℕ
value [] = 0
value (b ∷ bs) = b + 2 * value bs

-- Nothing but zeros and ones.
abbrev pub Bits : List ℕ → Type 0
Bits xs = All (λ b. b < 2) xs

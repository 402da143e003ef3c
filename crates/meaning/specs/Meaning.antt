-- What the outputs of a block of n columns are, told by its inputs: sums, orders, Gray codes, states.
use Rattle.std.specs.Prelude.{◌≡◌, ℕ, ◌+◌, ◌*◌, ◌/◌, ◌^◌, ◌<◌, cond, List, [], ◌∷◌, length, take, drop, fold, ◌==◌, bit_xor, nat_lt, slice_index}
use Rattle.kinds.specs.declared.elements.State.{State}
use Rattle.kinds.specs.declared.elements.State.TheVariants.{S0, S1, S2, S3}
use Rattle.kinds.specs.declared.elements.Map.{Map}
use Rattle.kinds.specs.Map.{entry_at, state_number}
use Rattle.kinds.specs.Template.{bit_of}
use Rattle.meaning.specs.declared.block.Machine.{Machine}
use Rattle.meaning.specs.declared.block.Block.{Block}
use Rattle.meaning.specs.declared.block.Block.TheVariants.{Adder, Comparator, GrayDecoder, Machine as MachineBlock}
use Rattle.meaning.specs.Numbers.{value, Bits}

-- The first n inputs are the bits of a, the others those of b.
abbrev pub first : ℕ → List ℕ → ℕ
first n inputs = value (take n inputs)

abbrev pub second : ℕ → List ℕ → ℕ
second n inputs = value (drop n inputs)

-- The outputs are the bits of s, then co, with a + b = s + 2^n * co.
pub record Adds (n : ℕ) (inputs outputs : List ℕ) : Type 0 where
  pub wide : length outputs ≡ n + 1
  pub bits : Bits outputs
  pub sum : first n inputs + second n inputs ≡ value (take n outputs) + 2 ^ n * slice_index outputs n

-- The outputs are 1 exactly where a < b, and exactly where a > b.
abbrev pub Compares : ℕ → List ℕ → List ℕ → Type 0
Compares n inputs outputs = outputs ≡ bit_of (nat_lt (first n inputs) (second n inputs)) ∷ bit_of (nat_lt (second n inputs) (first n inputs)) ∷ []

-- The outputs are the bits of b, the only number with b xor (b shifted right by 1) the one that the inputs mean.
pub record Decodes (n : ℕ) (inputs outputs : List ℕ) : Type 0 where
  pub wide : length outputs ≡ n
  pub bits : Bits outputs
  pub code : bit_xor (value outputs) (value outputs / 2) ≡ value inputs
  pub only : (b : ℕ) → bit_xor b (b / 2) ≡ value inputs → b ≡ value outputs

-- The state of a number.
abbrev pub state_of : ℕ → State
state_of k = cond (k == 0) S0 (cond (k == 1) S1 (cond (k == 2) S2 S3))

-- The map of a symbol, and the state to which it leads from s.
abbrev pub map_of : Machine → ℕ → Map
map_of m x = cond (x == 0) m.zero m.one

abbrev pub follow : Machine → State → ℕ → State
follow m s x = entry_at (map_of m x) s

-- The state after the symbols xs, begun in the start state.
abbrev pub state_after : Machine → List ℕ → State
state_after m xs = fold (follow m) (state_of m.start) xs

-- Outputs 2i and 2i + 1 are the low and the high bit of the state after symbols 0 to i.
pub record Follows (m : Machine) (n : ℕ) (inputs outputs : List ℕ) : Type 0 where
  pub wide : length outputs ≡ 2 * n
  pub bits : Bits outputs
  pub states : (i : ℕ) → i < n → slice_index outputs (2 * i) + 2 * slice_index outputs (2 * i + 1) ≡ state_number (state_after m (take (i + 1) inputs))

-- What the outputs of a block mean.
abbrev pub Means : Block → ℕ → List ℕ → List ℕ → Type 0
Means Adder n inputs outputs = Adds n inputs outputs
Means Comparator n inputs outputs = Compares n inputs outputs
Means GrayDecoder n inputs outputs = Decodes n inputs outputs
Means (MachineBlock m) n inputs outputs = Follows m n inputs outputs

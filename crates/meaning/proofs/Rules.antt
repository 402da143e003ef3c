-- The rules that each block's own gates keep: they are good, and what they read stands before them.
use Rattle.std.proofs.Common.{◌≡◌, ℕ, ◌+◌, ◌-◌, ◌*◌, ◌/◌, ◌%◌, ◌<◌, ◌≤◌, Bool, true, arith}
use Rattle.std.proofs.lemmas.Bool.Decides.{nat_tests}
use Rattle.netlist.specs.Gates.{good, constant_gate, one_gate, two_gate}
use Rattle.meaning.specs.declared.block.Block.{Block}
use Rattle.meaning.specs.declared.block.Block.TheVariants.{Adder, Comparator, GrayDecoder, Machine as MachineBlock}
use Rattle.meaning.specs.Layout.{width, input_count, leaf_count, end_count, output_count, adder_leaf, comparator_leaf, symbol_gate, leaf_gate, column_net, end_gate, output_net, base}

-- a machine starts in one of its states
abbrev pub Starts : Block → Type 0
Starts Adder = Unit {0}
Starts Comparator = Unit {0}
Starts GrayDecoder = Unit {0}
Starts (MachineBlock m) = m.start ≤ 3

pub record Keeps (b : Block) (n : ℕ) : Type 0 where
  pub leaf : (k : ℕ) → k < leaf_count b n → good (input_count b n + k) (leaf_gate b n k) ≡ true
  pub column : (k : ℕ) → k < n * width b → column_net b n k < base b n
  pub ends : (net : ℕ → ℕ → ℕ) (limit : ℕ) → ((i j : ℕ) → i < n → j < width b → net i j < limit) → base b n ≤ limit
      → (k : ℕ) → k < end_count b n → good (limit + k) (end_gate b n net k) ≡ true
  pub output : (net : ℕ → ℕ → ℕ) (limit : ℕ) → ((i j : ℕ) → i < n → j < width b → net i j < limit) → base b n ≤ limit
      → (k : ℕ) → k < output_count b n → output_net b n net limit k < limit + end_count b n

good_one : (s t a : ℕ) → t < 4 → a < s → good s (one_gate t a) ≡ true
unfolding good
good_one s t a h i = grind (arith, nat_tests)

good_two : (s t a b : ℕ) → t < 16 → a < s → b < s → good s (two_gate t a b) ≡ true
unfolding good
good_two s t a b h i j = grind (arith, nat_tests)

good_constant : (s : ℕ) (v : Bool) → good s (constant_gate v) ≡ true
unfolding good
good_constant s v = grind (arith, nat_tests)

pub good_buffer : (s a : ℕ) → a < s → good s (one_gate 2 a) ≡ true
good_buffer s a h = good_one s 2 a (omega arith) h

adder_leaf_lem : (s n i j : ℕ) → n + i < s → good s (adder_leaf n i j) ≡ true
unfolding good
adder_leaf_lem s n i j h = grind (arith, nat_tests)

comparator_leaf_lem : (s n i j : ℕ) → i < n → s ≡ 2 * n + 4 * i + j → j < 4 → good s (comparator_leaf n i j) ≡ true
unfolding good
comparator_leaf_lem s n i j h e l = grind (arith, nat_tests)

symbol_leaf : (s x y i : ℕ) → i < s → good s (symbol_gate x y i) ≡ true
unfolding good
symbol_leaf s x y i h = grind (arith, nat_tests)

pub keeps : (b : Block) (n : ℕ) → 1 ≤ n → Starts b → Keeps b n
keeps Adder n h s = record {
  leaf = λ k lt. adder_leaf_lem (2 * n + k) n (k / 2) (k % 2) (omega arith);
  column = λ k lt. omega arith;
  ends = λ net limit under le k lt. good_two (limit + k) 6 (2 * n + 2 * (k + 1) + 1) (net k 0) (omega arith) (omega arith) (omega (arith, under k 0 (omega arith) (omega arith)));
  output = λ net limit under le k lt. let u = under (n - 1) 0 (omega arith) (omega arith) in grind (arith, nat_tests);
}
keeps Comparator n h s = record {
  leaf = λ k lt. comparator_leaf_lem (2 * n + k) n (k / 4) (k % 4) (omega arith) (omega arith) (omega arith);
  column = λ k lt. omega arith;
  ends = λ net limit under le k lt. absurd (omega arith);
  output = λ net limit under le k lt. omega (arith, under (n - 1) k (omega arith) (omega arith));
}
keeps GrayDecoder n h s = record {
  leaf = λ k lt. absurd (omega arith);
  column = λ k lt. omega arith;
  ends = λ net limit under le k lt. absurd (omega arith);
  output = λ net limit under le k lt. omega (arith, under (n - 1 - k) 0 (omega arith) (omega arith));
}
keeps (MachineBlock m) n h s = record {
  leaf = λ k lt. symbol_leaf (n + k) _ _ (k / 8) (omega arith);
  column = λ k lt. omega arith;
  ends = λ net limit under le k lt. absurd (omega arith);
  output = λ net limit under le k lt. omega (arith, under (k / 2) (2 * m.start + k % 2) (omega arith) (omega arith));
}

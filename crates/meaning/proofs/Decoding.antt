-- The Gray decoder: its buffers carry the number behind the code.
use Rattle.std.proofs.Common.{◌≡◌, ℕ, zero, suc, ◌+◌, ◌-◌, ◌*◌, ◌%◌, ◌<◌, Bool, true, false, List, map, length, get_or, take, fold, sym, refl, ap, ◌∙◌, arith}
use lib.Bits.{differ}
use Rattle.std.specs.List.{range_with_len}
use Rattle.std.proofs.lemmas.List.FromFn.{length-map-range_with_len, get_or-map-range_with_len}
use Rattle.std.proofs.lemmas.List.{take_all}
use Rattle.std.proofs.lemmas.List.Sums.{fold_more}
use Rattle.account.specs.Account.{Account}
use Rattle.netlist.specs.Signals.{signals}
use Rattle.kinds.specs.Template.{bit_of}
use Rattle.kinds.specs.Parity.{parity_unit, parity_product, parity_bits}
use Rattle.expansion.specs.Expansion.{Shows}
use Rattle.meaning.specs.declared.block.Block.TheVariants.{GrayDecoder}
use Rattle.meaning.specs.Numbers.{value, Bits}
use Rattle.meaning.specs.Meaning.{Decodes}
use Rattle.meaning.specs.Layout.{column_net, column_nets, leaves, block_gates, outputs_of}
use Rattle.meaning.proofs.KindLaws.{parities}
use Rattle.meaning.proofs.Signals.{is_set, set_bit}
use Rattle.meaning.proofs.Binary.{bit_from, front_made, shows_made}
use Rattle.meaning.proofs.Gray.{gray, gray_more, differ_of, gray_only}
use Rattle.meaning.proofs.Wiring.{Sheetly, outputs_length, outputs_bits, outputs_made, output_value, shown}

-- column i is bit n - 1 - i of the code
abbrev column : ℕ → List ℕ → ℕ → Bool
column n inputs i = is_set inputs (n - 1 - i)

abbrev columns : ℕ → List ℕ → List Bool
columns n inputs = map (column n inputs) (range_with_len 0 n)

-- the parity of the code's bits from the highest down to bit k
abbrev parity : ℕ → List ℕ → ℕ → Bool
parity n inputs k = fold parity_product parity_unit (take (n - k) (columns n inputs))

-- what the buffers carry, on any sheet
abbrev pub decoded : ℕ → List ℕ → ℕ → ℕ
decoded n inputs k = bit_of (parity n inputs k)

columns_length : (n : ℕ) (inputs : List ℕ) → length (columns n inputs) ≡ n
columns_length n inputs = length-map-range_with_len (column n inputs) 0 n

column_at : (n : ℕ) (inputs : List ℕ) (i : ℕ) → i < n → get_or (columns n inputs) i parity_unit ≡ column n inputs i
column_at n inputs i lt = get_or-map-range_with_len (column n inputs) 0 n i i parity_unit lt (omega arith)

module _ (a : Account) (sheet : Sheetly a) (inputs : List ℕ) (long : length inputs ≡ a.columns) (bs : Bits inputs) where
  bit : (i j : ℕ) → i < a.columns → j < 1 → get_or inputs (a.columns - 1 - (i * 1 + j)) 0 ≡ get_or (parity_bits (get_or (columns a.columns inputs) i parity_unit)) j 0
  bit i zero lt h =
      let at : a.columns - 1 - (i * 1 + 0) ≡ a.columns - 1 - i = omega arith in
      ap (λ k. get_or inputs k 0) at ∙ set_bit inputs (a.columns - 1 - i) bs ∙ ap bit_of (sym (column_at a.columns inputs i lt))
  bit i (suc j) lt h = absurd (omega arith)

  shows : Shows parity_bits parity_unit 1 (signals inputs (leaves GrayDecoder a.columns)) (column_nets GrayDecoder a.columns) (columns a.columns inputs)
  shows = shows_made parity_bits parity_unit (column_net GrayDecoder a.columns) a.columns 1 inputs (columns a.columns inputs) (columns_length a.columns inputs) (λ x. refl) bit

  output_is : (k : ℕ) → k < a.columns → get_or (outputs_of GrayDecoder a.columns inputs (block_gates GrayDecoder a)) k 0 ≡ decoded a.columns inputs k
  output_is k lt =
      let N : ℕ = a.columns in
      let up : N - 1 - k + 1 ≡ N - k = omega arith in
      output_value GrayDecoder parities a sheet tt inputs long bs k lt
      ∙ shown GrayDecoder parities a sheet tt inputs long (columns N inputs) (columns_length N inputs) shows (N - 1 - k) 0 (omega arith) (omega arith)
      ∙ ap (λ i. bit_of (fold parity_product parity_unit (take i (columns N inputs)))) up

  pub gray_outputs : outputs_of GrayDecoder a.columns inputs (block_gates GrayDecoder a) ≡ map (decoded a.columns inputs) (range_with_len 0 a.columns)
  gray_outputs =
      outputs_made GrayDecoder parities a sheet tt inputs long (decoded a.columns inputs) output_is

-- a bit of the number is that of the code and the number's next bit
parity_more : (n : ℕ) (inputs : List ℕ) (k : ℕ) → k < n → parity n inputs k ≡ parity_product (parity n inputs (k + 1)) (is_set inputs k)
parity_more n inputs k lt =
    let up : n - k ≡ n - (k + 1) + 1 = omega arith in
    let at : n - 1 - (n - (k + 1)) ≡ k = omega arith in
    ap (λ i. fold parity_product parity_unit (take i (columns n inputs))) up
    ∙ fold_more parity_product parity_unit (columns n inputs) (n - (k + 1)) parity_unit (omega (arith, columns_length n inputs))
    ∙ ap (parity_product (parity n inputs (k + 1))) (column_at n inputs (n - (k + 1)) (omega arith) ∙ ap (is_set inputs) at)

-- the number of the bits from k on
abbrev from : ℕ → List ℕ → ℕ → ℕ → ℕ
from n inputs k c = value (map (decoded n inputs) (range_with_len k c))

lowest : (n : ℕ) (inputs : List ℕ) (k c : ℕ) → k + c ≡ n → from n inputs k c % 2 ≡ decoded n inputs k
lowest n inputs k zero e = let z : n - k ≡ 0 = omega arith in rw z
lowest n inputs k (suc c) e =
    elim (parity n inputs k) as (λ t. (bit_of t + 2 * from n inputs (k + 1) c) % 2 ≡ bit_of t) [ true ↦ omega arith | false ↦ omega arith ]

code : (n : ℕ) (inputs : List ℕ) (k c : ℕ) → k + c ≡ n → gray (from n inputs k c) ≡ value (map (bit_from inputs 0) (range_with_len k c))
code n inputs k zero e = refl
code n inputs k (suc c) e =
    let v : ℕ = from n inputs (k + 1) c in
    let z : 0 + k ≡ k = omega arith in
    let small : decoded n inputs k < 2 = grind arith in
    let low : differ (decoded n inputs k) (v % 2) ≡ bit_from inputs 0 k =
    ap (differ (decoded n inputs k)) (lowest n inputs (k + 1) c (omega arith))
    ∙ ap (λ t. differ (bit_of t) (decoded n inputs (k + 1))) (parity_more n inputs k (omega arith))
    ∙ differ_of (parity n inputs (k + 1)) (is_set inputs k)
    ∙ ap (λ i. bit_of (is_set inputs i)) (sym z) in
    gray_more (decoded n inputs k) v small ∙ omega (arith, low, code n inputs (k + 1) c (omega arith))

pub gray_means : (a : Account) → Sheetly a → (inputs : List ℕ) → length inputs ≡ a.columns → Bits inputs
    → Decodes a.columns inputs (outputs_of GrayDecoder a.columns inputs (block_gates GrayDecoder a))
gray_means a sheet inputs long bs =
    let n : ℕ = a.columns in
    let out : List ℕ = outputs_of GrayDecoder n inputs (block_gates GrayDecoder a) in
    let all : value inputs ≡ value (map (bit_from inputs 0) (range_with_len 0 n)) = ap value (sym (take_all n inputs (omega arith)) ∙ front_made inputs n bs (omega arith)) in
    let number : gray (value out) ≡ value inputs = ap (λ t. gray (value t)) (gray_outputs a sheet inputs long bs) ∙ code n inputs 0 n (omega arith) ∙ sym all in
    record {
      wide = outputs_length GrayDecoder parities a sheet tt inputs long;
      bits = outputs_bits GrayDecoder parities a sheet tt inputs long bs;
      code = number;
      only = λ b e. gray_only b (value out) (e ∙ sym number);
    }

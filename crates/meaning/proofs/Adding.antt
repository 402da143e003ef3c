-- The adder: its buffers carry the sum's bits and the last carry.
use Rattle.std.proofs.Common.{◌≡◌, ℕ, zero, suc, ◌+◌, ◌-◌, ◌*◌, ◌/◌, ◌%◌, ◌^◌, ◌<◌, ◌≤◌, Bool, true, false, cond, ◌&&◌, ltb, List, map, length, get_or, take, fold, sym, refl, ap, ◌∙◌, subst, mul-add, add-one, arith, rules}
use native.Mathlib.Nat.{pow-succ'}
use Rattle.std.specs.List.{range_with_len}
use Rattle.std.proofs.lemmas.List.FromFn.{length-map-range_with_len, get_or-map-range_with_len, fill_by_all}
use Rattle.std.proofs.lemmas.List.{length-take-le, get_or-take}
use Rattle.std.proofs.lemmas.List.Sums.{fold_more}
use Rattle.std.proofs.lemmas.Bool.Decides.{nat_tests}
use Rattle.std.proofs.lemmas.Bool.{lt-ltb, le-ltb}
use Rattle.account.specs.Account.{Account}
use Rattle.netlist.specs.Signals.{value_over, signals}
use Rattle.kinds.specs.declared.elements.Carry.{Carry}
use Rattle.kinds.specs.Template.{bit_of}
use Rattle.kinds.specs.Carry.{carry_unit, carry_product, carry_bits}
use Rattle.kinds.specs.Parity.{parity_product}
use Rattle.kinds.specs.Laws.{parity_right}
use Rattle.expansion.specs.Expansion.{Shows}
use Rattle.meaning.specs.declared.block.Block.TheVariants.{Adder}
use Rattle.meaning.specs.Numbers.{value, Bits}
use Rattle.meaning.specs.Meaning.{second, Adds}
use Rattle.meaning.specs.Layout.{adder_leaf, column_net, column_nets, leaves, node_nets, net_at, first_end, block_gates, outputs_of}
use Rattle.meaning.proofs.KindLaws.{carries}
use Rattle.meaning.proofs.Signals.{is_set, input_bit, and_value, xor_value}
use Rattle.meaning.proofs.Binary.{up_to, up_more, bit_from, front_made, rest_made, shows_made}
use Rattle.meaning.proofs.Wiring.{Sheetly, start_kept, leaf_first, end_value, outputs_length, outputs_bits, outputs_made, output_value, shown}

-- column i: whether its two bits make a carry, whether they pass one on
abbrev column : ℕ → List ℕ → ℕ → Carry
column n inputs i = record { generate = is_set inputs i && is_set inputs (n + i); propagate = parity_product (is_set inputs i) (is_set inputs (n + i)) }

abbrev columns : ℕ → List ℕ → List Carry
columns n inputs = map (column n inputs) (range_with_len 0 n)

-- the carry into column k
abbrev carry : ℕ → List ℕ → ℕ → Bool
carry n inputs k = (fold carry_product carry_unit (take k (columns n inputs))).generate

abbrev sum_bit : ℕ → List ℕ → ℕ → ℕ
sum_bit n inputs k = bit_of (parity_product (column n inputs k).propagate (carry n inputs k))

-- what the buffers carry, on any sheet
abbrev pub added : ℕ → List ℕ → ℕ → ℕ
added n inputs k = cond (ltb k n) (sum_bit n inputs k) (bit_of (carry n inputs n))

columns_length : (n : ℕ) (inputs : List ℕ) → length (columns n inputs) ≡ n
columns_length n inputs = length-map-range_with_len (column n inputs) 0 n

column_at : (n : ℕ) (inputs : List ℕ) (i : ℕ) → i < n → get_or (columns n inputs) i carry_unit ≡ column n inputs i
column_at n inputs i lt = get_or-map-range_with_len (column n inputs) 0 n i i carry_unit lt (omega arith)

module _ (a : Account) (sheet : Sheetly a) (inputs : List ℕ) (long : length inputs ≡ 2 * a.columns) (bs : Bits inputs) where
  -- gate j of column i
  gate_is : (i j : ℕ) → i < a.columns → j < 2 → value_over (signals inputs (leaves Adder a.columns)) (adder_leaf a.columns i j) ≡ get_or (carry_bits (column a.columns inputs i)) j 0
  gate_is i zero lt h =
      and_value (is_set inputs i) (is_set inputs (a.columns + i)) _ _ (input_bit inputs (leaves Adder a.columns) i bs (omega arith)) (input_bit inputs (leaves Adder a.columns) (a.columns + i) bs (omega arith))
  gate_is i (suc zero) lt h =
      xor_value (is_set inputs i) (is_set inputs (a.columns + i)) _ _ (input_bit inputs (leaves Adder a.columns) i bs (omega arith)) (input_bit inputs (leaves Adder a.columns) (a.columns + i) bs (omega arith))
  gate_is i (suc (suc j)) lt h = absurd (omega arith)

  leaf : (i j p : ℕ) → i < a.columns → j < 2 → p ≡ 2 * a.columns + (2 * i + j) → get_or (signals inputs (leaves Adder a.columns)) p 0 ≡ get_or (carry_bits (column a.columns inputs i)) j 0
  leaf i j p lt h e =
      let q : (2 * i + j) / 2 ≡ i = omega arith in let r : (2 * i + j) % 2 ≡ j = omega arith in
      leaf_first Adder carries a sheet tt inputs long (2 * i + j) p (omega arith) e
      ∙ ap (value_over (signals inputs (leaves Adder a.columns))) (ap (λ k. adder_leaf a.columns k ((2 * i + j) % 2)) q ∙ ap (adder_leaf a.columns i) r)
      ∙ gate_is i j lt h

  -- whether column i passes a carry on
  passes : (i p : ℕ) → i < a.columns → p ≡ 2 * a.columns + (2 * i + 1) → get_or (signals inputs (block_gates Adder a)) p 0 ≡ bit_of (column a.columns inputs i).propagate
  passes i p lt e = start_kept Adder carries a sheet tt inputs long p (omega arith) ∙ leaf i 1 p lt (omega arith) e

  shows : Shows carry_bits carry_unit 2 (signals inputs (leaves Adder a.columns)) (column_nets Adder a.columns) (columns a.columns inputs)
  shows =
      shows_made carry_bits carry_unit (column_net Adder a.columns) a.columns 2 (signals inputs (leaves Adder a.columns)) (columns a.columns inputs) (columns_length a.columns inputs) (λ x. refl)
      (λ v j lt h. leaf v j (2 * a.columns + (v * 2 + j)) lt h (omega arith) ∙ ap (λ x. get_or (carry_bits x) j 0) (sym (column_at a.columns inputs v lt)))

  carried : (i : ℕ) → i < a.columns → get_or (signals inputs (block_gates Adder a)) (net_at 2 a (node_nets Adder a) i 0) 0 ≡ bit_of (carry a.columns inputs (i + 1))
  carried i lt = shown Adder carries a sheet tt inputs long (columns a.columns inputs) (columns_length a.columns inputs) shows i 0 lt (omega arith)

  -- each buffer
  output_is : (k : ℕ) → k < a.columns + 1 → get_or (outputs_of Adder a.columns inputs (block_gates Adder a)) k 0 ≡ added a.columns inputs k
  output_is k lt =
      let vs : List ℕ = signals inputs (block_gates Adder a) in
      let net : ℕ → ℕ → ℕ = net_at 2 a (node_nets Adder a) in
      let N : ℕ = a.columns in
      let one : 1 ≤ N = sheet.some in
      let first_of : ℕ = first_end Adder a in
      let lowest : k ≡ 0 → get_or vs (2 * N + 1) 0 ≡ sum_bit N inputs k =
      λ z. passes 0 (2 * N + 1) one (omega arith) ∙ sym (ap (λ i. sum_bit N inputs i) z ∙ ap bit_of (parity_right (column N inputs 0).propagate)) in
      let inner : 0 < k → k < N → get_or vs (first_of + (k - 1)) 0 ≡ sum_bit N inputs k =
      λ nz l.
      let up : k - 1 + 1 ≡ k = omega arith in
      end_value Adder carries a sheet tt inputs long (k - 1) (first_of + (k - 1)) (omega arith) refl
      ∙ xor_value (column N inputs k).propagate (carry N inputs k) (get_or vs (2 * N + 2 * (k - 1 + 1) + 1) 0) (get_or vs (net (k - 1) 0) 0)
      (passes k (2 * N + 2 * (k - 1 + 1) + 1) l (omega arith))
      (carried (k - 1) (omega arith) ∙ ap (λ i. bit_of (carry N inputs i)) up) in
      let last : get_or vs (net (N - 1) 0) 0 ≡ bit_of (carry N inputs N) =
      let up : N - 1 + 1 ≡ N = omega arith in
      carried (N - 1) (omega arith) ∙ ap (λ i. bit_of (carry N inputs i)) up in
      output_value Adder carries a sheet tt inputs long bs k lt ∙ grind (arith, nat_tests)

  pub adder_outputs : outputs_of Adder a.columns inputs (block_gates Adder a) ≡ map (added a.columns inputs) (range_with_len 0 (a.columns + 1))
  adder_outputs =
      outputs_made Adder carries a sheet tt inputs long (added a.columns inputs) output_is

-- one column adds two bits and the carry into it
adds : (x y : Bool) (z : Carry) → bit_of x + bit_of y + bit_of z.generate
    ≡ bit_of (parity_product (parity_product x y) z.generate) + 2 * bit_of (carry_product z (record { generate = x && y; propagate = parity_product x y })).generate
adds x y z = search rules

-- the two numbers up to column k are the sum up to there and the carry out
sums : (n : ℕ) (inputs : List ℕ) (k : ℕ) → k ≤ n → up_to (bit_from inputs 0) k + up_to (bit_from inputs n) k ≡ up_to (sum_bit n inputs) k + 2 ^ k * bit_of (carry n inputs k)
sums n inputs zero h = omega arith
sums n inputs (suc k) h =
    let p : ℕ = 2 ^ k in
    let x : Bool = is_set inputs k in let y : Bool = is_set inputs (n + k) in
    let z : Carry = fold carry_product carry_unit (take k (columns n inputs)) in
    let u : ℕ = bit_from inputs 0 k in let v : ℕ = bit_from inputs n k in let c : ℕ = bit_of (carry n inputs k) in
    let s : ℕ = sum_bit n inputs k in let d : ℕ = bit_of (carry n inputs (k + 1)) in
    let up : suc k ≡ k + 1 = omega arith in
    let zero-k : 0 + k ≡ k = omega arith in
    let next : fold carry_product carry_unit (take (k + 1) (columns n inputs)) ≡ carry_product z (column n inputs k) =
    fold_more carry_product carry_unit (columns n inputs) k carry_unit (omega (arith, columns_length n inputs)) ∙ ap (carry_product z) (column_at n inputs k (omega arith)) in
    let here : u + v + c ≡ s + 2 * d =
    ap (λ i. bit_of (is_set inputs i) + v + c) zero-k ∙ adds x y z ∙ ap (λ (t : Carry). s + 2 * bit_of t.generate) (sym next) in
    let times : p * u + p * v + p * c ≡ p * s + 2 * (p * d) = omega (arith, ap (λ t. p * t) here, mul-add p (u + v) c, mul-add p u v, mul-add p s (2 * d)) in
    let power : 2 ^ (k + 1) * d ≡ 2 * (p * d) = rw (add-one, pow-succ' 2 k) (omega arith) in
    let goal : up_to (bit_from inputs 0) (k + 1) + up_to (bit_from inputs n) (k + 1) ≡ up_to (sum_bit n inputs) (k + 1) + 2 ^ (k + 1) * d =
    omega (arith, sums n inputs k (omega arith), up_more (bit_from inputs 0) k, up_more (bit_from inputs n) k, up_more (sum_bit n inputs) k, times, power) in
    subst (λ t. up_to (bit_from inputs 0) t + up_to (bit_from inputs n) t ≡ up_to (sum_bit n inputs) t + 2 ^ t * bit_of (carry n inputs t)) (sym up) goal

pub adder_means : (a : Account) → Sheetly a → (inputs : List ℕ) → length inputs ≡ 2 * a.columns → Bits inputs → Adds a.columns inputs (outputs_of Adder a.columns inputs (block_gates Adder a))
adder_means a sheet inputs long bs =
    let n : ℕ = a.columns in
    let out : List ℕ = outputs_of Adder n inputs (block_gates Adder a) in
    let size : length out ≡ n + 1 = outputs_length Adder carries a sheet tt inputs long in
    let at : (k : ℕ) → k < n + 1 → get_or out k 0 ≡ added n inputs k = output_is a sheet inputs long bs in
    let sum_is : take n out ≡ map (sum_bit n inputs) (range_with_len 0 n) =
    fill_by_all (sum_bit n inputs) (take n out) n 0 (length-take-le n out (omega arith))
    (λ k lt. get_or-take n out k 0 lt ∙ at k (omega arith) ∙ (let t : ltb k n ≡ true = lt-ltb k n lt in rw t)) in
    let last-is : get_or out n 0 ≡ bit_of (carry n inputs n) = at n (omega arith) ∙ (let t : ltb n n ≡ false = le-ltb n n (omega arith) in rw t) in
    record {
      wide = size;
      bits = outputs_bits Adder carries a sheet tt inputs long bs;
      sum = ap (λ t. value t + second n inputs) (front_made inputs n bs (omega arith))
          ∙ ap (λ t. up_to (bit_from inputs 0) n + value t) (rest_made inputs n n bs (omega arith))
          ∙ sums n inputs n (omega arith)
          ∙ ap (λ t. value t + 2 ^ n * bit_of (carry n inputs n)) (sym sum_is)
          ∙ ap (λ t. value (take n out) + 2 ^ n * t) (sym last-is);
    }

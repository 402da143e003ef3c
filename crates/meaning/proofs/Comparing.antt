-- The comparator: its buffers carry the order of the two numbers.
use Rattle.std.proofs.Common.{◌≡◌, ℕ, zero, suc, ◌+◌, ◌-◌, ◌*◌, ◌/◌, ◌%◌, ◌^◌, ◌<◌, ◌≤◌, Bool, cond, not, ltb, List, [], ◌∷◌, map, length, get_or, take, fold, sym, refl, ap, ◌∙◌, subst, arith, rules}
use Rattle.std.specs.List.{range_with_len}
use Rattle.std.proofs.lemmas.List.FromFn.{length-map-range_with_len, get_or-map-range_with_len}
use Rattle.std.proofs.lemmas.List.Sums.{fold_more}
use Rattle.std.proofs.lemmas.Bool.Decides.{nat_tests}
use Rattle.account.specs.Account.{Account}
use Rattle.netlist.specs.Signals.{value_over, signals}
use Rattle.kinds.specs.declared.elements.Verdict.{Verdict}
use Rattle.kinds.specs.declared.elements.Verdict.TheVariants.{Equal, Less, Greater}
use Rattle.kinds.specs.Template.{bit_of}
use Rattle.kinds.specs.Verdict.{verdict_unit, verdict_product, verdict_bits}
use Rattle.expansion.specs.Expansion.{Shows}
use Rattle.meaning.specs.declared.block.Block.TheVariants.{Comparator}
use Rattle.meaning.specs.Numbers.{value, Bits}
use Rattle.meaning.specs.Meaning.{first, second, Compares}
use Rattle.meaning.specs.Layout.{comparator_leaf, column_net, column_nets, leaves, block_gates, outputs_of}
use Rattle.meaning.proofs.KindLaws.{verdict_wide, verdicts}
use Rattle.meaning.proofs.Signals.{is_set, input_bit, not_value, and_value}
use Rattle.meaning.proofs.Binary.{up_to, up_more, up_small, bit_from, front_made, rest_made, shows_made}
use Rattle.meaning.proofs.Wiring.{Sheetly, leaf_first, outputs_made, output_value, shown}

-- how two bits compare
abbrev compared : Bool → Bool → Verdict
compared x y = cond x (cond y Equal Greater) (cond y Less Equal)

abbrev column : ℕ → List ℕ → ℕ → Verdict
column n inputs i = compared (is_set inputs i) (is_set inputs (n + i))

abbrev columns : ℕ → List ℕ → List Verdict
columns n inputs = map (column n inputs) (range_with_len 0 n)

-- what the buffers carry, on any sheet
abbrev pub ordered : ℕ → List ℕ → ℕ → ℕ
ordered n inputs k = get_or (verdict_bits (fold verdict_product verdict_unit (take n (columns n inputs)))) k 0

columns_length : (n : ℕ) (inputs : List ℕ) → length (columns n inputs) ≡ n
columns_length n inputs = length-map-range_with_len (column n inputs) 0 n

column_at : (n : ℕ) (inputs : List ℕ) (i : ℕ) → i < n → get_or (columns n inputs) i verdict_unit ≡ column n inputs i
column_at n inputs i lt = get_or-map-range_with_len (column n inputs) 0 n i i verdict_unit lt (omega arith)

module _ (a : Account) (sheet : Sheetly a) (inputs : List ℕ) (long : length inputs ≡ 2 * a.columns) (bs : Bits inputs) where
  leaf : (i j p : ℕ) → i < a.columns → j < 4 → p ≡ 2 * a.columns + 4 * i + j
      → get_or (signals inputs (leaves Comparator a.columns)) p 0 ≡ value_over (signals inputs (leaves Comparator a.columns)) (comparator_leaf a.columns i j)
  leaf i j p lt h e =
      let q : (4 * i + j) / 4 ≡ i = omega arith in let r : (4 * i + j) % 4 ≡ j = omega arith in
      leaf_first Comparator verdicts a sheet tt inputs long (4 * i + j) p (omega arith) (omega arith)
      ∙ ap (value_over (signals inputs (leaves Comparator a.columns)))
      (ap (λ k. comparator_leaf a.columns k ((4 * i + j) % 4)) q ∙ ap (comparator_leaf a.columns i) r)

  -- bit j of column i
  bit : (i j : ℕ) → i < a.columns → j < 2
      → get_or (signals inputs (leaves Comparator a.columns)) (2 * a.columns + 2 * (i * 2 + j) + 1) 0 ≡ get_or (verdict_bits (column a.columns inputs i)) j 0
  bit i zero lt h =
      leaf i 1 (2 * a.columns + 2 * (i * 2 + 0) + 1) lt (omega arith) (omega arith)
      ∙ and_value (not (is_set inputs i)) (is_set inputs (a.columns + i)) _ _
      (leaf i 0 (2 * a.columns + 4 * i) lt (omega arith) (omega arith) ∙ not_value (is_set inputs i) _ (input_bit inputs (leaves Comparator a.columns) i bs (omega arith)))
      (input_bit inputs (leaves Comparator a.columns) (a.columns + i) bs (omega arith))
      ∙ search rules
  bit i (suc zero) lt h =
      leaf i 3 (2 * a.columns + 2 * (i * 2 + 1) + 1) lt (omega arith) (omega arith)
      ∙ and_value (is_set inputs i) (not (is_set inputs (a.columns + i))) _ _
      (input_bit inputs (leaves Comparator a.columns) i bs (omega arith))
      (leaf i 2 (2 * a.columns + 4 * i + 2) lt (omega arith) (omega arith) ∙ not_value (is_set inputs (a.columns + i)) _ (input_bit inputs (leaves Comparator a.columns) (a.columns + i) bs (omega arith)))
      ∙ search rules
  bit i (suc (suc j)) lt h = absurd (omega arith)

  shows : Shows verdict_bits verdict_unit 2 (signals inputs (leaves Comparator a.columns)) (column_nets Comparator a.columns) (columns a.columns inputs)
  shows =
      shows_made verdict_bits verdict_unit (column_net Comparator a.columns) a.columns 2 (signals inputs (leaves Comparator a.columns)) (columns a.columns inputs) (columns_length a.columns inputs)
      verdict_wide (λ v j lt h. bit v j lt h ∙ ap (λ x. get_or (verdict_bits x) j 0) (sym (column_at a.columns inputs v lt)))

  output_is : (k : ℕ) → k < 2 → get_or (outputs_of Comparator a.columns inputs (block_gates Comparator a)) k 0 ≡ ordered a.columns inputs k
  output_is k lt =
      let N : ℕ = a.columns in
      let up : N - 1 + 1 ≡ N = omega (arith, sheet.some) in
      output_value Comparator verdicts a sheet tt inputs long bs k lt
      ∙ shown Comparator verdicts a sheet tt inputs long (columns N inputs) (columns_length N inputs) shows (N - 1) k (omega (arith, sheet.some)) lt
      ∙ ap (λ i. get_or (verdict_bits (fold verdict_product verdict_unit (take i (columns N inputs)))) k 0) up

  pub comparator_outputs : outputs_of Comparator a.columns inputs (block_gates Comparator a) ≡ map (ordered a.columns inputs) (range_with_len 0 2)
  comparator_outputs =
      outputs_made Comparator verdicts a sheet tt inputs long (ordered a.columns inputs) output_is

-- how two numbers compare
abbrev order : ℕ → ℕ → Verdict
order x y = cond (ltb x y) Less (cond (ltb y x) Greater Equal)

order_bits : (x y : ℕ) → verdict_bits (order x y) ≡ bit_of (ltb x y) ∷ bit_of (ltb y x) ∷ []
order_bits x y = grind (arith, nat_tests)

-- a column more, above numbers below p
order_more : (x y p : ℕ) (u v : Bool) → x < p → y < p → order (x + p * bit_of u) (y + p * bit_of v) ≡ verdict_product (order x y) (compared u v)
order_more x y p u v h k = grind (arith, nat_tests)

-- the verdict over the first k columns is the order of the numbers up to there
verdict_is : (n : ℕ) (inputs : List ℕ) (k : ℕ) → k ≤ n
    → fold verdict_product verdict_unit (take k (columns n inputs)) ≡ order (up_to (bit_from inputs 0) k) (up_to (bit_from inputs n) k)
verdict_is n inputs zero h = refl
verdict_is n inputs (suc k) h =
    let up : suc k ≡ k + 1 = omega arith in
    let x : ℕ = up_to (bit_from inputs 0) k in let y : ℕ = up_to (bit_from inputs n) k in
    let z : 0 + k ≡ k = omega arith in
    let goal : fold verdict_product verdict_unit (take (k + 1) (columns n inputs)) ≡ order (up_to (bit_from inputs 0) (k + 1)) (up_to (bit_from inputs n) (k + 1)) =
    fold_more verdict_product verdict_unit (columns n inputs) k verdict_unit (omega (arith, columns_length n inputs))
    ∙ ap (λ t. verdict_product t (get_or (columns n inputs) k verdict_unit)) (verdict_is n inputs k (omega arith))
    ∙ ap (verdict_product (order x y)) (column_at n inputs k (omega arith))
    ∙ sym (order_more x y (2 ^ k) (is_set inputs k) (is_set inputs (n + k)) (up_small inputs 0 k) (up_small inputs n k))
    ∙ ap (λ i. order (x + 2 ^ k * bit_of (is_set inputs i)) (y + 2 ^ k * bit_of (is_set inputs (n + k)))) (sym z)
    ∙ ap (λ t. order t (y + 2 ^ k * bit_from inputs n k)) (sym (up_more (bit_from inputs 0) k))
    ∙ ap (order (up_to (bit_from inputs 0) (k + 1))) (sym (up_more (bit_from inputs n) k)) in
    subst (λ t. fold verdict_product verdict_unit (take t (columns n inputs)) ≡ order (up_to (bit_from inputs 0) t) (up_to (bit_from inputs n) t)) (sym up) goal

pub comparator_means : (a : Account) → Sheetly a → (inputs : List ℕ) → length inputs ≡ 2 * a.columns → Bits inputs
    → Compares a.columns inputs (outputs_of Comparator a.columns inputs (block_gates Comparator a))
comparator_means a sheet inputs long bs =
    let n : ℕ = a.columns in
    let both : verdict_bits (fold verdict_product verdict_unit (take n (columns n inputs))) ≡ bit_of (ltb (first n inputs) (second n inputs)) ∷ bit_of (ltb (second n inputs) (first n inputs)) ∷ [] =
    ap verdict_bits (verdict_is n inputs n (omega arith))
    ∙ order_bits (up_to (bit_from inputs 0) n) (up_to (bit_from inputs n) n)
    ∙ ap (λ t. bit_of (ltb (value t) (up_to (bit_from inputs n) n)) ∷ bit_of (ltb (up_to (bit_from inputs n) n) (value t)) ∷ []) (sym (front_made inputs n bs (omega arith)))
    ∙ ap (λ t. bit_of (ltb (first n inputs) (value t)) ∷ bit_of (ltb (value t) (first n inputs)) ∷ []) (sym (rest_made inputs n n bs (omega arith))) in
    comparator_outputs a sheet inputs long bs ∙ ap (λ t. get_or t 0 0 ∷ get_or t 1 0 ∷ []) both

-- The gates of any block on any covered sheet: they are good, its buffers pass their signals on, and its output nets show the products.
use Rattle.std.proofs.Common.{◌≡◌, ℕ, ◌+◌, ◌-◌, ◌*◌, ◌<◌, ◌≤◌, List, [], ◌∷◌, ◌++◌, map, length, get_or, take, drop, Some, fold, All, unwrap_or, sym, refl, ap, ◌∙◌, subst, add-mul, arith}
use Rattle.std.specs.List.{range_with_len}
use Rattle.std.proofs.lemmas.List.FromFn.{length-map-range_with_len, get_or-map-range_with_len, fill_by_all}
use Rattle.std.proofs.lemmas.List.Elements.{All-from_get_or, All-get_or, All-drop}
use Rattle.std.proofs.lemmas.List.{append-nil, append_assoc, length-append, length-map, length-drop, take_all, get_or-take, get_or-drop, get_or-map}
use Rattle.account.specs.Words.{Pair, Ordered}
use Rattle.account.specs.Account.{Account, nodes, word_of, output_of, Covered}
use Rattle.account.proofs.Measuring.{output_node}
use Rattle.netlist.specs.declared.gate.Gate.{Gate}
use Rattle.netlist.specs.Gates.{good_from}
use Rattle.netlist.specs.Signals.{value_over, signals}
use Rattle.netlist.proofs.Rules.{good_append}
use Rattle.netlist.proofs.Steps.{length_signals}
use Rattle.kinds.specs.declared.template.TemplateGate.{TemplateGate}
use Rattle.kinds.specs.declared.template.Pin.{Pin}
use Rattle.scan.specs.Values.{over}
use Rattle.scan.proofs.Outputs.{some_of, at_outputs}
use Rattle.expansion.specs.Expansion.{nets_of, nets_for, net, appended, wired, column_nets as columnNetsOf, values, Shows}
use Rattle.expansion.proofs.Appending.{length_appended}
use Rattle.expansion.proofs.Showing.{computes, row_in, length_nets}
use Rattle.expansion.proofs.Keeping.{stand_all}
use Rattle.meaning.specs.declared.block.Block.{Block}
use Rattle.meaning.specs.Numbers.{Bits}
use Rattle.meaning.specs.Layout.{template, results, width, input_count, leaf_count, end_count, output_count, leaf_gate, column_net, end_gate, output_net, leaves, column_nets, base, join_gates, node_nets, net_at, first_end, end_gates, buffers, buffer, block_gates, gate_count, outputs_of}
use Rattle.meaning.proofs.Signals.{good_made, part_value, front_kept, signal_small, signals_bits, pass_value}
use Rattle.meaning.proofs.KindLaws.{KindOf}
use Rattle.meaning.proofs.Rules.{Starts, Keeps, keeps, good_buffer}

length_wired : (t : List TemplateGate) (rs : List Pin) (start : ℕ) (nets : List ℕ) (ps : List Pair) → length (wired t rs start nets ps) ≡ length nets + length ps * length rs
length_wired t rs start nets [] = omega arith
length_wired t rs start nets (p ∷ ps) =
    let new : List ℕ = nets_for rs start nets p in
    length_wired t rs (start + length t) (nets ++ new) ps
    ∙ omega (arith, length-append nets new, length-map rs (net (nets_of (length rs) nets p.0) (nets_of (length rs) nets p.1) start), add-mul (length ps) 1 (length rs))

-- what is asked of a sheet
pub record Sheetly (a : Account) : Type 0 where
  pub some : 1 ≤ a.columns
  pub ordered : Ordered a.columns a.joins
  pub covered : Covered a

module _ (b : Block) (kind : KindOf (template b) (results b)) (a : Account) (sheet : Sheetly a) (starts : Starts b) where
  rules : Keeps b a.columns
  rules = keeps b a.columns sheet.some starts

  leaf_length : length (leaves b a.columns) ≡ leaf_count b a.columns
  leaf_length = length-map-range_with_len (leaf_gate b a.columns) 0 (leaf_count b a.columns)

  column_length : length (column_nets b a.columns) ≡ a.columns * width b
  column_length = length-map-range_with_len (column_net b a.columns) 0 (a.columns * width b)

  columns_under : All (λ k. k < base b a.columns) (column_nets b a.columns)
  columns_under =
      All-from_get_or (λ k. k < base b a.columns) (column_nets b a.columns) 0
      (λ i lt.
      let l : i < a.columns * width b = omega (arith, column_length) in
      subst (λ k. k < base b a.columns) (sym (get_or-map-range_with_len (column_net b a.columns) 0 (a.columns * width b) i i 0 l (omega arith))) (rules.column i l))

  leaves_good : good_from (input_count b a.columns) (leaves b a.columns) ≡ length (leaves b a.columns)
  leaves_good = good_made (input_count b a.columns) (leaf_gate b a.columns) (leaf_count b a.columns) rules.leaf

  joins_length : length (join_gates b a) ≡ length a.joins * length (template b)
  joins_length = length_appended (template b) (results b) (base b a.columns) (column_nets b a.columns) a.joins

  stand : (good_from (base b a.columns) (join_gates b a) ≡ length (join_gates b a)) × All (λ k. k < first_end b a) (node_nets b a)
  stand = stand_all kind.op kind.bits (template b) (results b) kind.fits (base b a.columns) a.columns (column_nets b a.columns) a.joins column_length columns_under sheet.ordered

  nets_length : length (node_nets b a) ≡ nodes a * width b
  nets_length =
      length_wired (template b) (results b) (base b a.columns) (column_nets b a.columns) a.joins
      ∙ omega (arith, column_length, add-mul a.columns (length a.joins) (width b))

  node : (i : ℕ) → i < a.columns → (v : ℕ) × (output_of a i ≡ Some v)
  node i lt = some_of (output_of a i) (sheet.covered i lt)

  -- node v's net j lies in the list
  in_nets : (i v j : ℕ) → output_of a i ≡ Some v → j < width b → v * width b + width b ≤ length (node_nets b a)
  in_nets i v j e lt = omega (arith, row_in v (nodes a) (width b) (output_node a i v e), nets_length)

  net_is : (i v j : ℕ) → output_of a i ≡ Some v → net_at (width b) a (node_nets b a) i j ≡ get_or (node_nets b a) (v * width b + j) 0
  net_is i v j e = ap (λ o. get_or (node_nets b a) (unwrap_or o 0 * width b + j) 0) e

  pub net_under : (i j : ℕ) → i < a.columns → j < width b → net_at (width b) a (node_nets b a) i j < first_end b a
  net_under i j lt small =
      let v = node i lt in
      subst (λ k. k < first_end b a) (sym (net_is i v.0 j v.1))
      (All-get_or (λ k. k < first_end b a) (node_nets b a) (v.0 * width b + j) 0 (omega (arith, in_nets i v.0 j v.1 small)) stand.1)

  ends_length : length (end_gates b a (node_nets b a)) ≡ end_count b a.columns
  ends_length = length-map-range_with_len (end_gate b a.columns (net_at (width b) a (node_nets b a))) 0 (end_count b a.columns)

  buffers_length : length (buffers b a (node_nets b a)) ≡ output_count b a.columns
  buffers_length = length-map-range_with_len (λ k. buffer (output_net b a.columns (net_at (width b) a (node_nets b a)) (first_end b a) k)) 0 (output_count b a.columns)

  pub block_length : length (block_gates b a) ≡ gate_count b a
  unfolding block_gates
  block_length =
      length-append (leaves b a.columns) (join_gates b a ++ (end_gates b a (node_nets b a) ++ buffers b a (node_nets b a)))
      ∙ omega (
        arith,
        leaf_length,
        joins_length,
        ends_length,
        buffers_length,
        length-append (join_gates b a) (end_gates b a (node_nets b a) ++ buffers b a (node_nets b a)),
        length-append (end_gates b a (node_nets b a)) (buffers b a (node_nets b a)),
      )

  base_under : base b a.columns ≤ first_end b a
  base_under = omega arith

  ends_good : good_from (first_end b a) (end_gates b a (node_nets b a)) ≡ length (end_gates b a (node_nets b a))
  ends_good =
      good_made (first_end b a) (end_gate b a.columns (net_at (width b) a (node_nets b a))) (end_count b a.columns)
      (rules.ends (net_at (width b) a (node_nets b a)) (first_end b a) net_under base_under)

  buffers_good : good_from (first_end b a + end_count b a.columns) (buffers b a (node_nets b a)) ≡ length (buffers b a (node_nets b a))
  buffers_good =
      good_made (first_end b a + end_count b a.columns) (λ k. buffer (output_net b a.columns (net_at (width b) a (node_nets b a)) (first_end b a) k)) (output_count b a.columns)
      (λ k lt.
      good_buffer (first_end b a + end_count b a.columns + k) (output_net b a.columns (net_at (width b) a (node_nets b a)) (first_end b a) k)
      (omega (arith, rules.output (net_at (width b) a (node_nets b a)) (first_end b a) net_under base_under k lt)))

  -- all gates of the block are good
  pub block_good : good_from (input_count b a.columns) (block_gates b a) ≡ length (block_gates b a)
  unfolding block_gates
  block_good =
      let L : List Gate = leaves b a.columns in let J : List Gate = join_gates b a in
      let E : List Gate = end_gates b a (node_nets b a) in let B : List Gate = buffers b a (node_nets b a) in
      let m : ℕ = input_count b a.columns in
      let one : base b a.columns ≡ m + length L = omega (arith, leaf_length) in
      let two : first_end b a ≡ m + length L + length J = omega (arith, leaf_length, joins_length) in
      let three : first_end b a + end_count b a.columns ≡ m + length L + length J + length E = omega (arith, leaf_length, joins_length, ends_length) in
      good_append m L (J ++ (E ++ B)) leaves_good
      (good_append (m + length L) J (E ++ B) (subst (λ k. good_from k J ≡ length J) one stand.0)
      (good_append (m + length L + length J) E B (subst (λ k. good_from k E ≡ length E) two ends_good)
      (subst (λ k. good_from k B ≡ length B) three buffers_good)))

  module _ (inputs : List ℕ) (long : length inputs ≡ input_count b a.columns) where
    good_here : good_from (length inputs) (block_gates b a) ≡ length (block_gates b a)
    good_here = ap (λ m. good_from m (block_gates b a)) long ∙ block_good

    -- the signals of the inputs and the leaf gates are the first of all
    pub start_kept : (p : ℕ) → p < base b a.columns → get_or (signals inputs (block_gates b a)) p 0 ≡ get_or (signals inputs (leaves b a.columns)) p 0
    unfolding block_gates
    start_kept p lt =
        front_kept inputs (leaves b a.columns) (join_gates b a ++ (end_gates b a (node_nets b a) ++ buffers b a (node_nets b a))) p (omega (arith, leaf_length))

    -- leaf gate k, among all signals and among those of the leaf gates alone
    pub leaf_value : (k p : ℕ) → k < leaf_count b a.columns → p ≡ input_count b a.columns + k
        → get_or (signals inputs (block_gates b a)) p 0 ≡ value_over (signals inputs (block_gates b a)) (leaf_gate b a.columns k)
    unfolding block_gates
    leaf_value k p lt e =
        part_value inputs (block_gates b a) [] (join_gates b a ++ (end_gates b a (node_nets b a) ++ buffers b a (node_nets b a)))
        (leaf_gate b a.columns) (leaf_count b a.columns) k p refl good_here lt (omega arith)

    pub leaf_first : (k p : ℕ) → k < leaf_count b a.columns → p ≡ input_count b a.columns + k
        → get_or (signals inputs (leaves b a.columns)) p 0 ≡ value_over (signals inputs (leaves b a.columns)) (leaf_gate b a.columns k)
    leaf_first k p lt e =
        part_value inputs (leaves b a.columns) [] [] (leaf_gate b a.columns) (leaf_count b a.columns) k p (sym (append-nil (leaves b a.columns)))
        (ap (λ m. good_from m (leaves b a.columns)) long ∙ leaves_good) lt (omega arith)

    pub end_value : (k p : ℕ) → k < end_count b a.columns → p ≡ first_end b a + k
        → get_or (signals inputs (block_gates b a)) p 0 ≡ value_over (signals inputs (block_gates b a)) (end_gate b a.columns (net_at (width b) a (node_nets b a)) k)
    unfolding block_gates
    end_value k p lt e =
        let L : List Gate = leaves b a.columns in let J : List Gate = join_gates b a in
        let E : List Gate = end_gates b a (node_nets b a) in let B : List Gate = buffers b a (node_nets b a) in
        part_value inputs (block_gates b a) (L ++ J) B (end_gate b a.columns (net_at (width b) a (node_nets b a))) (end_count b a.columns) k p
        (sym (append_assoc L J (E ++ B))) good_here lt (omega (arith, length-append L J, leaf_length, joins_length))

    pub outputs_length : length (outputs_of b a.columns inputs (block_gates b a)) ≡ output_count b a.columns
    outputs_length =
        length-drop (length inputs + length (block_gates b a) - output_count b a.columns) (signals inputs (block_gates b a))
        ∙ omega (arith, length_signals inputs (block_gates b a), block_length)

    pub outputs_bits : Bits inputs → Bits (outputs_of b a.columns inputs (block_gates b a))
    outputs_bits bs = All-drop (λ x. x < 2) _ (signals inputs (block_gates b a)) (signals_bits inputs (block_gates b a) bs)

    -- the outputs, where each is told by its number
    pub outputs_made : (f : ℕ → ℕ) → ((k : ℕ) → k < output_count b a.columns → get_or (outputs_of b a.columns inputs (block_gates b a)) k 0 ≡ f k)
        → outputs_of b a.columns inputs (block_gates b a) ≡ map f (range_with_len 0 (output_count b a.columns))
    outputs_made f each = fill_by_all f (outputs_of b a.columns inputs (block_gates b a)) (output_count b a.columns) 0 outputs_length each

    -- a buffer passes its signal on
    pub output_value : Bits inputs → (k : ℕ) → k < output_count b a.columns
        → get_or (outputs_of b a.columns inputs (block_gates b a)) k 0
        ≡ get_or (signals inputs (block_gates b a)) (output_net b a.columns (net_at (width b) a (node_nets b a)) (first_end b a) k) 0
    unfolding block_gates
    output_value bs k lt =
        let L : List Gate = leaves b a.columns in let J : List Gate = join_gates b a in
        let E : List Gate = end_gates b a (node_nets b a) in let B : List Gate = buffers b a (node_nets b a) in
        let f : ℕ → Gate = λ k. buffer (output_net b a.columns (net_at (width b) a (node_nets b a)) (first_end b a) k) in
        let p : ℕ = length inputs + length (block_gates b a) - output_count b a.columns in
        let parts : L ++ (J ++ (E ++ B)) ≡ (L ++ (J ++ E)) ++ (B ++ []) =
        ap (λ z. L ++ (J ++ (E ++ z))) (sym (append-nil B))
        ∙ ap (λ z. L ++ z) (sym (append_assoc J E (B ++ [])))
        ∙ sym (append_assoc L (J ++ E) (B ++ [])) in
        get_or-drop p (signals inputs (block_gates b a)) k 0
        ∙ part_value inputs (block_gates b a) (L ++ (J ++ E)) [] f (output_count b a.columns) k (p + k) parts good_here lt
        (omega (arith, block_length, length-append L (J ++ E), length-append J E, leaf_length, joins_length, ends_length))
        ∙ pass_value _ (signal_small inputs (block_gates b a) (output_net b a.columns (net_at (width b) a (node_nets b a)) (first_end b a) k) bs)

    module _ (xs : List kind.Element) (wide : length xs ≡ a.columns) (shows : Shows kind.bits kind.unit (width b) (signals inputs (leaves b a.columns)) (column_nets b a.columns) xs) where
      words_shown : (v : ℕ) → v < nodes a
          → values (signals inputs (leaves b a.columns ++ join_gates b a)) (nets_of (width b) (node_nets b a) v) ≡ kind.bits (over kind.op kind.unit xs (word_of a v))
      words_shown =
          let L : List Gate = leaves b a.columns in let C : List ℕ = column_nets b a.columns in
          let m : ℕ = input_count b a.columns in
          let start : m + length L ≡ base b a.columns = omega (arith, leaf_length) in
          let cols : columnNetsOf (results b) a C ≡ C = take_all (a.columns * width b) C (omega (arith, column_length)) in
          let P : ℕ → List ℕ → Type 0 = λ z c. (v : ℕ) → v < nodes a
          → values (signals inputs (L ++ appended (template b) (results b) z c a.joins)) (nets_of (width b) (wired (template b) (results b) z c a.joins) v)
          ≡ kind.bits (over kind.op kind.unit xs (word_of a v)) in
          let under : All (λ k. k < m + length L) (columnNetsOf (results b) a C) =
          subst (λ c. All (λ k. k < m + length L) c) (sym cols) (subst (λ n. All (λ k. k < n) C) (sym start) columns_under) in
          let main : P (m + length L) (columnNetsOf (results b) a C) =
          (computes kind.op kind.unit kind.bits (template b) (results b) kind.laws kind.fits a m L C sheet.ordered (omega (arith, column_length)) under inputs xs
          (record { long = long; wide = wide; shows = shows })).1 in
          subst (λ c. P (base b a.columns) c) cols (subst (λ z. P z (columnNetsOf (results b) a C)) start main)

      -- output i shows the product of columns 0 to i
      pub shown : (i j : ℕ) → i < a.columns → j < width b
          → get_or (signals inputs (block_gates b a)) (net_at (width b) a (node_nets b a) i j) 0 ≡ get_or (kind.bits (fold kind.op kind.unit (take (i + 1) xs))) j 0
      unfolding block_gates
      shown i j lt small =
          let L : List Gate = leaves b a.columns in let J : List Gate = join_gates b a in
          let R : List Gate = end_gates b a (node_nets b a) ++ buffers b a (node_nets b a) in
          let s : List ℕ = signals inputs (L ++ J) in
          let N : List ℕ = node_nets b a in let w : ℕ = width b in
          let o = at_outputs kind.op kind.unit a xs (λ v x. values s (nets_of w N v) ≡ kind.bits x) sheet.covered wide words_shown i lt in
          let v : ℕ = o.0 in
          let room : v * w + w ≤ length N = in_nets i v j o.1.0 small in
          let at : net_at w a N i j ≡ get_or (nets_of w N v) j 0 =
          net_is i v j o.1.0 ∙ sym (get_or-take w (drop (v * w) N) j 0 small ∙ get_or-drop (v * w) N j 0) in
          ap (λ gs. get_or (signals inputs gs) (net_at w a N i j) 0) (sym (append_assoc L J R))
          ∙ front_kept inputs (L ++ J) R (net_at w a N i j) (omega (arith, net_under i j lt small, length-append L J, leaf_length, joins_length))
          ∙ ap (λ k. get_or s k 0) at
          ∙ sym (get_or-map (λ k. get_or s k 0) (nets_of w N v) j 0 0 (omega (arith, length_nets w v N room)))
          ∙ ap (λ z. get_or z j 0) o.1.1

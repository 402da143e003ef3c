-- The machine: its buffers carry the state after each symbol.
use Rattle.std.proofs.Common.{◌≡◌, ℕ, zero, suc, ◌+◌, ◌*◌, ◌/◌, ◌%◌, ◌<◌, ◌≤◌, true, false, cond, eqb, List, [], ◌∷◌, map, length, get_or, take, fold, sym, refl, ap, ◌∙◌, arith, rules}
use Rattle.std.specs.List.{range_with_len}
use Rattle.std.proofs.lemmas.Bool.Decides.{nat_tests}
use Rattle.std.proofs.lemmas.Grind.{common_steps}
use Rattle.std.proofs.lemmas.List.Elements.{All-cons}
use Rattle.std.proofs.lemmas.List.{length-map, get_or-map, take-map}
use Rattle.account.specs.Account.{Account}
use Rattle.netlist.specs.Signals.{value_over, signals}
use Rattle.kinds.specs.declared.elements.State.{State}
use Rattle.kinds.specs.declared.elements.Map.{Map}
use Rattle.kinds.specs.Map.{entry_at, map_unit, map_product, map_bits, low_bit, high_bit}
use Rattle.kinds.specs.Select.{low_small, high_small}
use Rattle.expansion.specs.Expansion.{Shows}
use Rattle.meaning.specs.declared.block.Machine.{Machine}
use Rattle.meaning.specs.declared.block.Block.TheVariants.{Machine as MachineBlock}
use Rattle.meaning.specs.Numbers.{Bits}
use Rattle.meaning.specs.Meaning.{state_of, map_of, follow, state_after, Follows}
use Rattle.meaning.specs.Layout.{symbol_gate, machine_leaf, column_net, column_nets, leaves, block_gates, outputs_of}
use Rattle.meaning.proofs.KindLaws.{maps}
use Rattle.meaning.proofs.Signals.{input_kept, small}
use Rattle.meaning.proofs.Binary.{shows_made}
use Rattle.meaning.proofs.Wiring.{Sheetly, leaf_first, outputs_length, outputs_bits, outputs_made, output_value, shown}

abbrev columns : Machine → List ℕ → List Map
columns m inputs = map (map_of m) inputs

-- the map over symbols 0 to i
abbrev product : Machine → List ℕ → ℕ → Map
product m inputs i = fold map_product map_unit (take (i + 1) (columns m inputs))

-- what the buffers carry, on any sheet
abbrev pub followed : Machine → List ℕ → ℕ → ℕ
followed m inputs k = get_or (map_bits (product m inputs (k / 2))) (2 * m.start + k % 2) 0

entry_small : (x : State) (xs : List ℕ) → Bits xs → Bits (low_bit x ∷ high_bit x ∷ xs)
entry_small x xs b =
    All-cons (λ y. y < 2) (low_bit x) (high_bit x ∷ xs) (low_small x) (All-cons (λ y. y < 2) (high_bit x) xs (high_small x) b)

map_small : (x : Map) (j : ℕ) → get_or (map_bits x) j 0 < 2
map_small x j = small (map_bits x) j (grind (arith, common_steps))

-- the gate of a bit that is x at symbol 0 and y at symbol 1
symbol_value : (s : List ℕ) (i x y v : ℕ) → x < 2 → y < 2 → v < 2 → get_or s i 0 ≡ v → value_over s (symbol_gate x y i) ≡ cond (eqb v 0) x y
symbol_value s i x y v h j k e = grind (arith, nat_tests)

module _ (m : Machine) (starts : m.start ≤ 3) (a : Account) (sheet : Sheetly a) (inputs : List ℕ) (long : length inputs ≡ a.columns) (bs : Bits inputs) where
  columns_length : length (columns m inputs) ≡ a.columns
  columns_length = length-map inputs (map_of m) ∙ long

  leaf : (i j : ℕ) → i < a.columns → j < 8
      → get_or (signals inputs (leaves (MachineBlock m) a.columns)) (a.columns + (i * 8 + j)) 0 ≡ get_or (map_bits (get_or (columns m inputs) i map_unit)) j 0
  leaf i j lt h =
      let s : List ℕ = signals inputs (leaves (MachineBlock m) a.columns) in
      let v : ℕ = get_or inputs i 0 in
      let q : (i * 8 + j) / 8 ≡ i = omega arith in let r : (i * 8 + j) % 8 ≡ j = omega arith in
      leaf_first (MachineBlock m) maps a sheet starts inputs long (i * 8 + j) (a.columns + (i * 8 + j)) (omega arith) refl
      ∙ ap (value_over s) (ap (λ k. machine_leaf m k ((i * 8 + j) % 8)) q ∙ ap (machine_leaf m i) r)
      ∙ symbol_value s i (get_or (map_bits m.zero) j 0) (get_or (map_bits m.one) j 0) v (map_small m.zero j) (map_small m.one j) (small inputs i bs)
      (input_kept inputs (leaves (MachineBlock m) a.columns) i (omega arith))
      ∙ (elim (eqb v 0) as (λ t. cond t (get_or (map_bits m.zero) j 0) (get_or (map_bits m.one) j 0) ≡ get_or (map_bits (cond t m.zero m.one)) j 0) [ true ↦ refl | false ↦ refl ])
      ∙ ap (λ x. get_or (map_bits x) j 0) (sym (get_or-map (map_of m) inputs i 0 map_unit (omega arith)))

  shows : Shows map_bits map_unit 8 (signals inputs (leaves (MachineBlock m) a.columns)) (column_nets (MachineBlock m) a.columns) (columns m inputs)
  shows =
      shows_made map_bits map_unit (column_net (MachineBlock m) a.columns) a.columns 8 (signals inputs (leaves (MachineBlock m) a.columns)) (columns m inputs)
      columns_length (λ x. refl) leaf

  output_is : (k : ℕ) → k < 2 * a.columns → get_or (outputs_of (MachineBlock m) a.columns inputs (block_gates (MachineBlock m) a)) k 0 ≡ followed m inputs k
  output_is k lt =
      output_value (MachineBlock m) maps a sheet starts inputs long bs k lt
      ∙ shown (MachineBlock m) maps a sheet starts inputs long (columns m inputs) columns_length shows
      (k / 2) (2 * m.start + k % 2) (omega arith) (omega arith)

  pub machine_outputs : outputs_of (MachineBlock m) a.columns inputs (block_gates (MachineBlock m) a) ≡ map (followed m inputs) (range_with_len 0 (2 * a.columns))
  machine_outputs =
      outputs_made (MachineBlock m) maps a sheet starts inputs long (followed m inputs) output_is

entry_product : (l h : Map) (s : State) → entry_at (map_product l h) s ≡ entry_at h (entry_at l s)
entry_product l h s = search rules

entry_unit : (s : State) → entry_at map_unit s ≡ s
entry_unit s = search rules

-- the product's entry is the state to which its maps lead one after another
leads : (m : Machine) (f : Map) (s : State) (xs : List ℕ) → entry_at (fold map_product f (map (map_of m) xs)) s ≡ fold (follow m) (entry_at f s) xs
leads m f s [] = refl
leads m f s (x ∷ xs) = leads m (map_product f (map_of m x)) s xs ∙ ap (λ t. fold (follow m) t xs) (entry_product f (map_of m x) s)

-- the two bits of entry s of a map
entry_bits : (f : Map) (s : ℕ) → s ≤ 3 → (get_or (map_bits f) (2 * s + 0) 0 ≡ low_bit (entry_at f (state_of s))) × (get_or (map_bits f) (2 * s + 1) 0 ≡ high_bit (entry_at f (state_of s)))
entry_bits f zero h = (refl, refl)
entry_bits f (suc zero) h = (refl, refl)
entry_bits f (suc (suc zero)) h = (refl, refl)
entry_bits f (suc (suc (suc zero))) h = (refl, refl)
entry_bits f (suc (suc (suc (suc s)))) h = absurd (omega arith)

pub machine_means : (m : Machine) → m.start ≤ 3 → (a : Account) → Sheetly a → (inputs : List ℕ) → length inputs ≡ a.columns → Bits inputs
    → Follows m a.columns inputs (outputs_of (MachineBlock m) a.columns inputs (block_gates (MachineBlock m) a))
machine_means m starts a sheet inputs long bs =
    let n : ℕ = a.columns in
    let out : List ℕ = outputs_of (MachineBlock m) n inputs (block_gates (MachineBlock m) a) in
    let state : (i : ℕ) → entry_at (product m inputs i) (state_of m.start) ≡ state_after m (take (i + 1) inputs) =
    λ i. ap (λ t. entry_at (fold map_product map_unit t) (state_of m.start)) (take-map (map_of m) (i + 1) inputs)
    ∙ leads m map_unit (state_of m.start) (take (i + 1) inputs)
    ∙ ap (λ t. fold (follow m) t (take (i + 1) inputs)) (entry_unit (state_of m.start)) in
    let bit : (i j : ℕ) → i < n → j < 2 → get_or out (2 * i + j) 0 ≡ get_or (map_bits (product m inputs i)) (2 * m.start + j) 0 =
    λ i j lt h.
    let q : (2 * i + j) / 2 ≡ i = omega arith in let r : (2 * i + j) % 2 ≡ j = omega arith in
    output_is m starts a sheet inputs long bs (2 * i + j) (omega arith)
    ∙ ap (λ k. get_or (map_bits (product m inputs k)) (2 * m.start + (2 * i + j) % 2) 0) q
    ∙ ap (λ k. get_or (map_bits (product m inputs i)) (2 * m.start + k) 0) r in
    record {
      wide = outputs_length (MachineBlock m) maps a sheet starts inputs long;
      bits = outputs_bits (MachineBlock m) maps a sheet starts inputs long bs;
      states = λ i lt.
          let both = entry_bits (product m inputs i) m.start starts in
          let z : 2 * i ≡ 2 * i + 0 = omega arith in
          let low : get_or out (2 * i) 0 ≡ low_bit (state_after m (take (i + 1) inputs)) =
          ap (λ k. get_or out k 0) z ∙ bit i 0 lt (omega arith) ∙ both.0 ∙ ap low_bit (state i) in
          let high : get_or out (2 * i + 1) 0 ≡ high_bit (state_after m (take (i + 1) inputs)) = bit i 1 lt (omega arith) ∙ both.1 ∙ ap high_bit (state i) in
          omega (arith, low, high);
    }

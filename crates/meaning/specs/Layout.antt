-- The gates of each block on a sheet: leaf gates column by column, the expanded joins, end gates, one buffer for each output.
use Rattle.std.specs.Prelude.{◌≡◌, ℕ, ◌+◌, ◌-◌, ◌*◌, ◌/◌, ◌%◌, cond, List, ◌++◌, map, length, drop, ◌==◌, nat_lt, slice_index}
use Rattle.std.specs.List.{range_with_len}
use Rattle.std.specs.Option.{unwrap_or}
use Rattle.account.specs.Account.{Account, output_of}
use Rattle.netlist.specs.declared.gate.Gate.{Gate}
use Rattle.netlist.specs.Gates.{not_table, buffer_table, and_table, xor_table, constant_gate, one_gate, two_gate, zero_gate}
use Rattle.netlist.specs.Signals.{signals}
use Rattle.kinds.specs.declared.template.TemplateGate.{TemplateGate}
use Rattle.kinds.specs.declared.template.Pin.{Pin}
use Rattle.kinds.specs.Carry.{carry_gates, carry_results}
use Rattle.kinds.specs.Parity.{parity_gates, parity_results}
use Rattle.kinds.specs.Verdict.{verdict_gates, verdict_results}
use Rattle.kinds.specs.Map.{map_bits, map_gates, map_results}
use Rattle.expansion.specs.Expansion.{appended, wired}
use Rattle.meaning.specs.declared.block.Machine.{Machine}
use Rattle.meaning.specs.declared.block.Block.{Block}
use Rattle.meaning.specs.declared.block.Block.TheVariants.{Adder, Comparator, GrayDecoder, Machine as MachineBlock}
use Rattle.meaning.specs.Numbers.{Bits}
use Rattle.meaning.specs.Meaning.{Means}

abbrev pub buffer : ℕ → Gate
buffer a = one_gate buffer_table a

-- The template of the block's kind, and the pins of its results.
abbrev pub template : Block → List TemplateGate
template Adder = carry_gates
template Comparator = verdict_gates
template GrayDecoder = parity_gates
template (MachineBlock m) = map_gates

abbrev pub results : Block → List Pin
results Adder = carry_results
results Comparator = verdict_results
results GrayDecoder = parity_results
results (MachineBlock m) = map_results

-- How many nets carry an element.
abbrev pub width : Block → ℕ
width b = length (results b)

-- How many inputs, leaf gates, end gates and outputs a block of n columns has.
abbrev pub input_count : Block → ℕ → ℕ
input_count Adder n = 2 * n
input_count Comparator n = 2 * n
input_count GrayDecoder n = n
input_count (MachineBlock m) n = n

abbrev pub leaf_count : Block → ℕ → ℕ
leaf_count Adder n = 2 * n
leaf_count Comparator n = 4 * n
leaf_count GrayDecoder n = 0
leaf_count (MachineBlock m) n = 8 * n

abbrev pub end_count : Block → ℕ → ℕ
end_count Adder n = n - 1
end_count Comparator n = 0
end_count GrayDecoder n = 0
end_count (MachineBlock m) n = 0

abbrev pub output_count : Block → ℕ → ℕ
output_count Adder n = n + 1
output_count Comparator n = 2
output_count GrayDecoder n = n
output_count (MachineBlock m) n = 2 * n

-- Gate j of the leaf gates of column i, of n columns. The adder: AND and XOR of bits i of a and b.
abbrev pub adder_leaf : ℕ → ℕ → ℕ → Gate
adder_leaf n i j = cond (j == 0) (two_gate and_table i (n + i)) (two_gate xor_table i (n + i))

-- The comparator: NOT a, AND(that, b) for less, NOT b, AND(a, that) for greater.
abbrev pub comparator_leaf : ℕ → ℕ → ℕ → Gate
comparator_leaf n i j =
    cond (j == 0) (one_gate not_table i)
    (cond (j == 1) (two_gate and_table (2 * n + 4 * i) (n + i))
    (cond (j == 2) (one_gate not_table (n + i))
    (two_gate and_table i (2 * n + 4 * i + 2))))

-- The bit that is x at symbol 0 and y at symbol 1, where the symbol is signal i: a constant, a buffer or NOT.
abbrev pub symbol_gate : ℕ → ℕ → ℕ → Gate
symbol_gate x y i =
    cond (x == y) (constant_gate (y == 1))
    (one_gate (cond (y == 1) buffer_table not_table) i)

-- The machine: bit j of the map of symbol i.
abbrev pub machine_leaf : Machine → ℕ → ℕ → Gate
machine_leaf m i j = symbol_gate (slice_index (map_bits m.zero) j) (slice_index (map_bits m.one) j) i

-- Leaf gate k of all n columns.
abbrev pub leaf_gate : Block → ℕ → ℕ → Gate
leaf_gate Adder n k = adder_leaf n (k / 2) (k % 2)
leaf_gate Comparator n k = comparator_leaf n (k / 4) (k % 4)
leaf_gate GrayDecoder n k = zero_gate
leaf_gate (MachineBlock m) n k = machine_leaf m (k / 8) (k % 8)

-- Net k of all n columns: bit k % width of column k / width.
abbrev pub column_net : Block → ℕ → ℕ → ℕ
column_net Adder n k = 2 * n + k
column_net Comparator n k = 2 * n + 2 * k + 1
column_net GrayDecoder n k = n - 1 - k
column_net (MachineBlock m) n k = n + k

-- End gate k, where output i shows bit b at the signal net i b. The adder: XOR of column k + 1's own bits and the carry out of column k.
abbrev pub end_gate : Block → ℕ → (ℕ → ℕ → ℕ) → ℕ → Gate
end_gate Adder n net k = two_gate xor_table (2 * n + 2 * (k + 1) + 1) (net k 0)
end_gate Comparator n net k = zero_gate
end_gate GrayDecoder n net k = zero_gate
end_gate (MachineBlock m) n net k = zero_gate

-- The signal of output k, where the end gates stand from signal first on.
abbrev pub output_net : Block → ℕ → (ℕ → ℕ → ℕ) → ℕ → ℕ → ℕ
output_net Adder n net first k =
    cond (k == 0) (2 * n + 1)
    (cond (nat_lt k n) (first + (k - 1))
    (net (n - 1) 0))
output_net Comparator n net first k = net (n - 1) k
output_net GrayDecoder n net first k = net (n - 1 - k) 0
output_net (MachineBlock m) n net first k = net (k / 2) (2 * m.start + k % 2)

abbrev pub leaves : Block → ℕ → List Gate
leaves b n = map (leaf_gate b n) (range_with_len 0 (leaf_count b n))

abbrev pub column_nets : Block → ℕ → List ℕ
column_nets b n = map (column_net b n) (range_with_len 0 (n * width b))

-- The first signal after the leaf gates.
abbrev pub base : Block → ℕ → ℕ
base b n = input_count b n + leaf_count b n

abbrev pub join_gates : Block → Account → List Gate
join_gates b a = appended (template b) (results b) (base b a.columns) (column_nets b a.columns) a.joins

-- The nets of all nodes.
abbrev pub node_nets : Block → Account → List ℕ
node_nets b a = wired (template b) (results b) (base b a.columns) (column_nets b a.columns) a.joins

-- Among nets, w to a node, the one that shows bit b of output i.
abbrev pub net_at : ℕ → Account → List ℕ → ℕ → ℕ → ℕ
net_at w a nets i b = slice_index nets (unwrap_or (output_of a i) 0 * w + b)

-- The first signal after the expanded joins.
abbrev pub first_end : Block → Account → ℕ
first_end b a = base b a.columns + length a.joins * length (template b)

abbrev pub end_gates : Block → Account → List ℕ → List Gate
end_gates b a nets = map (end_gate b a.columns (net_at (width b) a nets)) (range_with_len 0 (end_count b a.columns))

abbrev pub buffers : Block → Account → List ℕ → List Gate
buffers b a nets =
    map (λ k. buffer (output_net b a.columns (net_at (width b) a nets) (first_end b a) k)) (range_with_len 0 (output_count b a.columns))

unfoldable pub block_gates : Block → Account → List Gate
block_gates b a = leaves b a.columns ++ (join_gates b a ++ (end_gates b a (node_nets b a) ++ buffers b a (node_nets b a)))

abbrev pub gate_count : Block → Account → ℕ
gate_count b a = leaf_count b a.columns + length a.joins * length (template b) + end_count b a.columns + output_count b a.columns

-- The values of the last k gates of a netlist: of a block, its output buffers.
abbrev pub last_values : ℕ → List ℕ → List Gate → List ℕ
last_values k inputs gates = drop (length inputs + length gates - k) (signals inputs gates)

abbrev pub outputs_of : Block → ℕ → List ℕ → List Gate → List ℕ
outputs_of b n inputs gates = last_values (output_count b n) inputs gates

-- On every input of zeros and ones the output buffers of these gates mean what the block does.
abbrev pub Computes : Block → ℕ → List Gate → Type 0
Computes b n gates =
    (inputs : List ℕ) → length inputs ≡ input_count b n → Bits inputs → Means b n inputs (outputs_of b n inputs gates)

-- What build answers, and what its gate table then holds.
use Rattle.std.specs.Prelude.{◌≡◌, ℕ, cond, List, Option, None, Some, length, take, nat_lt}
use Rattle.account.specs.Account.{Account}
use Rattle.netlist.specs.declared.gate.Gate.{Gate}
use Rattle.netlist.specs.declared.refusal.Slots.TheVariants.{Gates}
use Rattle.netlist.specs.Gates.{good_from}
use Rattle.netlist.specs.Refusals.{Answer, number}
use Rattle.expansion.specs.Expansion.{written}
use Rattle.meaning.specs.declared.block.Block.{Block}
use Rattle.meaning.specs.declared.block.Block.TheVariants.{Adder, Comparator, GrayDecoder, Machine as MachineBlock}
use Rattle.meaning.specs.Layout.{input_count, gate_count, block_gates, Computes}
use Rattle.blocks.specs.declared.refusal.Refusal.TheVariants.{Start, Short}
use Rattle.blocks.specs.Refusals.{refusal}

-- The start state of a block; 0 for a block that has none.
abbrev pub start_of : Block → ℕ
start_of Adder = 0
start_of Comparator = 0
start_of GrayDecoder = 0
start_of (MachineBlock m) = m.start

-- The start state of a block that has one.
abbrev pub start_if_any : Block → Option ℕ
start_if_any Adder = None
start_if_any Comparator = None
start_if_any GrayDecoder = None
start_if_any (MachineBlock m) = Some m.start

-- A start above 3, then too few slots, refuses and leaves the table; else the block's gates stand from slot 0 on.
abbrev pub built : Block → Account → List Gate → Answer × List Gate
built b a gates =
    cond (nat_lt 3 (start_of b)) (refusal (Start (start_of b)), gates)
    (cond (nat_lt (length gates) (gate_count b a)) (refusal (Short Gates), gates)
    (number (gate_count b a), written gates 0 (block_gates b a)))

-- What is known of an accepted build: its gates are good, and on every input its output buffers mean what the block does.
pub record Built (b : Block) (n total : ℕ) (gates : List Gate) : Type 0 where
  pub good : good_from (input_count b n) (take total gates) ≡ total
  pub computes : Computes b n (take total gates)

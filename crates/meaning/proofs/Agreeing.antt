-- What is shown of each block, told of any: its gates are good, its outputs do not depend on the sheet, and they mean what they should.
use Rattle.std.proofs.Common.{◌≡◌, ℕ, List, map, length, sym, ap, ◌∙◌}
use Rattle.std.specs.List.{range_with_len}
use Rattle.account.specs.Account.{Account}
use Rattle.netlist.specs.Gates.{good_from}
use Rattle.meaning.specs.declared.block.Block.{Block}
use Rattle.meaning.specs.declared.block.Block.TheVariants.{Adder, Comparator, GrayDecoder, Machine as MachineBlock}
use Rattle.meaning.specs.Numbers.{Bits}
use Rattle.meaning.specs.Layout.{input_count, output_count, gate_count, block_gates, outputs_of, Computes}
use Rattle.meaning.proofs.KindLaws.{kind_of}
use Rattle.meaning.proofs.Rules.{Starts}
use Rattle.meaning.proofs.Wiring.{Sheetly, block_length, block_good}
use Rattle.meaning.proofs.Adding.{added, adder_outputs, adder_means}
use Rattle.meaning.proofs.Comparing.{ordered, comparator_outputs, comparator_means}
use Rattle.meaning.proofs.Decoding.{decoded, gray_outputs, gray_means}
use Rattle.meaning.proofs.Following.{followed, machine_outputs, machine_means}

pub length_is : (b : Block) (a : Account) → Sheetly a → Starts b → length (block_gates b a) ≡ gate_count b a
length_is b a s t = block_length b (kind_of b) a s t

pub all_good : (b : Block) (a : Account) → Sheetly a → Starts b → good_from (input_count b a.columns) (block_gates b a) ≡ length (block_gates b a)
all_good b a s t = block_good b (kind_of b) a s t

-- what output k of a block of n columns carries, on any sheet
abbrev expected : Block → ℕ → List ℕ → ℕ → ℕ
expected Adder n inputs k = added n inputs k
expected Comparator n inputs k = ordered n inputs k
expected GrayDecoder n inputs k = decoded n inputs k
expected (MachineBlock m) n inputs k = followed m inputs k

outputs_are : (b : Block) (a : Account) → Sheetly a → Starts b → (inputs : List ℕ) → length inputs ≡ input_count b a.columns → Bits inputs
    → outputs_of b a.columns inputs (block_gates b a) ≡ map (expected b a.columns inputs) (range_with_len 0 (output_count b a.columns))
outputs_are Adder a s t inputs e bs = adder_outputs a s inputs e bs
outputs_are Comparator a s t inputs e bs = comparator_outputs a s inputs e bs
outputs_are GrayDecoder a s t inputs e bs = gray_outputs a s inputs e bs
outputs_are (MachineBlock m) a s t inputs e bs = machine_outputs m t a s inputs e bs

-- the gates of two sheets of one width have the same outputs
pub agree : (b : Block) (a c : Account) → Sheetly a → Sheetly c → Starts b → a.columns ≡ c.columns
    → (inputs : List ℕ) → length inputs ≡ input_count b a.columns → Bits inputs
    → outputs_of b a.columns inputs (block_gates b a) ≡ outputs_of b c.columns inputs (block_gates b c)
agree b a c s r t e inputs f bs =
    outputs_are b a s t inputs f bs
    ∙ ap (λ n. map (expected b n inputs) (range_with_len 0 (output_count b n))) e
    ∙ sym (outputs_are b c r t inputs (f ∙ ap (input_count b) e) bs)

pub means : (b : Block) (a : Account) → Sheetly a → Starts b → Computes b a.columns (block_gates b a)
means Adder a s t inputs e bs = adder_means a s inputs e bs
means Comparator a s t inputs e bs = comparator_means a s inputs e bs
means GrayDecoder a s t inputs e bs = gray_means a s inputs e bs
means (MachineBlock m) a s t inputs e bs = machine_means m t a s inputs e bs

use Rattle.std.proofs.Common.{arith, rules}
use Rattle.meaning.specs.Layout.{leaf_gate}
use Rattle.blocks.proofs.Writing.{filled}
use Rattle.blocks.proofs.placing.place_leaves.Goals as goal

pub returns : goal.returns
returns c =
    filled (leaf_gate c.args.layout.block c.args.layout.columns) c.args.gates.now _ 0 _ _ c.fill_from.auto.slots c.leaf_count-count.ensures (omega arith)
    (λ k d h. let w = c.fill_from.ensures k d h in search rules)

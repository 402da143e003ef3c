use Rattle.std.proofs.Common.{◌*◌, ap, arith, rules}
use Rattle.meaning.specs.Layout.{column_net}
use Rattle.blocks.proofs.Writing.{filled}
use Rattle.blocks.proofs.placing.place_columns.Goals as goal

pub returns : goal.returns
returns c =
    filled (column_net c.args.layout.block c.args.layout.columns) c.args.nets.now _ 0 _ _ c.fill_from.auto.slots (ap (λ w. c.args.layout.columns * w) c.width.ensures) (omega arith)
    (λ k d h. let w = c.fill_from.ensures k d h in search rules)

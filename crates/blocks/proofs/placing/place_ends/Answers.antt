use Rattle.std.proofs.Common.{◌≡◌, arith, rules}
use Rattle.sheet.specs.Closing.{account_of}
use Rattle.meaning.specs.Layout.{width, net_at, end_count, end_gate}
use Rattle.blocks.proofs.Writing.{filled}
use Rattle.blocks.proofs.placing.place_ends.Goals as goal

pub returns : goal.returns
returns c =
    let w = c.args.wired.now in let a = account_of w.closed.now in
    let all : c.end_count-count.result ≡ end_count w.layout.block a.columns = cc in
    filled (end_gate w.layout.block a.columns (net_at (width w.layout.block) a w.nets.now)) c.args.gates.now _ c.args.at _ _ c.fill_from.auto.slots (omega arith) (omega arith)
    (λ k d h. let e = c.fill_from.ensures k d h in search rules)

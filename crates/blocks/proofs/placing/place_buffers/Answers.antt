use Rattle.std.proofs.Common.{◌≡◌, arith, rules}
use Rattle.sheet.specs.Closing.{account_of}
use Rattle.meaning.specs.Layout.{width, net_at, first_end, output_count, output_net, buffer}
use Rattle.blocks.proofs.Writing.{filled}
use Rattle.blocks.proofs.placing.place_buffers.Goals as goal

pub returns : goal.returns
returns c =
    let w = c.args.wired.now in let a = account_of w.closed.now in
    let all : c.output_count-count.result ≡ output_count w.layout.block a.columns = cc in
    filled (λ k. buffer (output_net w.layout.block a.columns (net_at (width w.layout.block) a w.nets.now) (first_end w.layout.block a) k)) c.args.gates.now _ c.args.at _ _ c.fill_from.auto.slots (omega arith) (omega arith)
    (λ k d h. let e = c.fill_from.ensures k d h in search rules)

use Rattle.std.proofs.Common.{◌≡◌, ◌+◌, ◌<◌, length, arith, rules}
use Rattle.std.proofs.lemmas.List.{get_or_read}
use Rattle.sheet.specs.Closing.{account_of}
use Rattle.sheet.specs.Spans.{at, pair_of}
use Rattle.scan.proofs.Running.{pair_is, filled_none, filled_more, filled_all}
use Rattle.scan.proofs.run.fill.Goals as goal

pub loop-r-init : goal.loop-r-init
loop-r-init g c = filled_none g.K.Kind.times g.K.Kind.neutral c.args.elements.now (account_of c.args.closed.now).joins c.copy_from_slice.new.self _ c.copy_from_slice.ensures.after

pub loop-r-preserved : goal.loop-r-preserved
loop-r-preserved g c =
    let op = g.K.Kind.times in let u = g.K.Kind.neutral in
    let xs = c.args.elements.now in let ps = (account_of c.args.closed.now).joins in
    let vs = c.loop-r.values in let r = c.loop-r.r in
    let ds = c.join_nodes-join-items.result.now in
    let low = (at ds r).low in let high = (at ds r).high in
    let n : length xs ≡ (account_of c.args.closed.now).columns = c.requires.columns in
    let below = c.join_nodes-join-items.ensures.earlier r c.loop-r-test.true in
    let h : r < length ps = omega (arith, c.join_nodes-join-items.ensures.all.0) in
    let room : length xs + r < length vs = search rules in
    filled_more op u xs ps vs r (pair_of (at ds r)) c.index-values-join.result c.index-values-join-in-loop-r.result c.product.result
    h room (pair_is ds ps r c.join_nodes-join-items.ensures.are c.loop-r-test.true) (omega (arith, below)) (omega (arith, below))
    (get_or_read vs low c.index-values-join.result (omega (arith, below)) c.index-values-join.is u)
    (get_or_read vs high c.index-values-join-in-loop-r.result (omega (arith, below)) c.index-values-join-in-loop-r.is u)
    c.product.ensures c.loop-r.invariant

pub returns : goal.returns
returns g c = filled_all g.K.Kind.times g.K.Kind.neutral c.args.elements.now (account_of c.args.closed.now).joins c.loop-r.values c.loop-r.r (search rules) (omega arith) c.loop-r.invariant

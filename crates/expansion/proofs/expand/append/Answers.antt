use Rattle.std.proofs.Common.{◌≡◌, length, arith, ◌∙◌}
use Rattle.sheet.specs.Closing.{account_of}
use Rattle.expansion.proofs.Showing.{row_in}
use Rattle.expansion.proofs.Appending.{laid_more}
use Rattle.expansion.proofs.expand.append.Goals as goal

pub place_join-requires-clause-low : goal.place_join-requires-clause-low
place_join-requires-clause-low g c =
    rw (c.NETS-w.ensures, g.met.K.Kind.counted, c.columns.ensures.0) (row_in _ _ _ (c.join_nodes-join-items.ensures.earlier c.loop-r.r c.loop-r-test.true).0)

pub place_join-requires-clause-high : goal.place_join-requires-clause-high
place_join-requires-clause-high g c =
    rw (c.NETS-w.ensures, g.met.K.Kind.counted, c.columns.ensures.0) (row_in _ _ _ (c.join_nodes-join-items.ensures.earlier c.loop-r.r c.loop-r-test.true).1)

pub loop-r-preserved : goal.loop-r-preserved
loop-r-preserved g c =
    let sized : c.size-size.result ≡ length g.K.Kind.gates = c.size-size.ensures.is in
    let wide : c.NETS-w.result ≡ length g.K.Kind.results = c.NETS-w.ensures ∙ g.met.K.Kind.counted in
    let joins = c.join_nodes-join-items in
    rw (sized, wide, c.columns.ensures.0) (laid_more g.K.Kind.gates g.K.Kind.results (account_of c.args.closed.now) c.args.m c.args.used c.args.gates.now c.args.nets.now
    c.loop-r.gates c.loop-r.nets joins.result.now c.loop-r.r c.place_join.new.gates c.place_join.new.nets
    c.loop-r.invariant joins.ensures.are c.loop-r-test.true c.requires.nets (omega arith)
    (rw (sized, wide, c.columns.ensures.0) at c.place_join.ensures.gates) (rw (sized, wide, c.columns.ensures.0) at c.place_join.ensures.nets))

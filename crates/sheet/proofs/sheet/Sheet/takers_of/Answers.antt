use Rattle.std.proofs.Common.{◌≡◌, ℕ, List, map, cond, sym, ap, ◌∙◌, arith}
use Rattle.std.proofs.lemmas.List.{at_drop_more, at_drop_all}
use Rattle.account.specs.Measure.{takes, takers}
use Rattle.sheet.specs.Spans.{at, pair_of, pairs_of, blank}
use Rattle.sheet.specs.declared.node.Node.{Node}
use Rattle.sheet.proofs.sheet.Sheet.takers_of.Goals as goal
use Rattle.sheet.proofs.sheet.Sheet.takers_of.Goals.{then-takes, else-takes}

pub loop-join-preserved : goal.loop-join-preserved
loop-join-preserved c =
    let node = c.args.node in let joins = c.join_nodes-join-items.result.now in let r = c.loop-join.join-index in
    let more = at_drop_more (λ (ds : List Node). takers node (map pair_of ds)) joins r blank c.loop-join-test.true in
    elim c.if-takes.branch [
      | then-takes w ↦
          let one : ◌≡◌ {A = ℕ} (cond (takes node (pair_of (at joins r))) 1 0) 1 = rw (sym c.takes.ensures ∙ w.if-takes.true) in
          (omega (arith, w.takers-is, c.loop-join.invariant.0), omega (arith, w.takers-is, c.loop-join.invariant.1, more, one))
      | else-takes w ↦
          let none : ◌≡◌ {A = ℕ} (cond (takes node (pair_of (at joins r))) 1 0) 0 = rw (sym c.takes.ensures ∙ w.if-takes.false) in
          (omega (arith, w.takers-is, c.loop-join.invariant.0), omega (arith, w.takers-is, c.loop-join.invariant.1, more, none))
    ]

pub returns : goal.returns
unfolding pairs_of
returns c =
    let node = c.args.node in let joins = c.join_nodes-join-items.result.now in
    let all = at_drop_all (λ (ds : List Node). takers node (map pair_of ds)) joins c.loop-join.join-index (omega (arith, c.loop-join-test.false)) in
    let sum : c.loop-join.takers ≡ takers node (map pair_of joins) = omega (arith, all, c.loop-join.invariant.1) in
    sum ∙ ap (λ (ds : List Node). takers node (map pair_of ds)) c.join_nodes-join-items.ensures

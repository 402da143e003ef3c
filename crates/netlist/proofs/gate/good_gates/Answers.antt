use Rattle.std.proofs.Common.{◌+◌, sym, arith}
use Rattle.std.proofs.lemmas.List.{at_drop_all}
use Rattle.netlist.specs.Gates.{good_from}
use Rattle.netlist.proofs.Rules.{good_yes, good_no}
use Rattle.netlist.proofs.gate.good_gates.Goals as goal

pub returns-then-not-is_good : goal.returns-then-not-is_good
returns-then-not-is_good c =
    let e = good_no c.args.m c.args.gates.now c.loop-k.k _ c.loop-k-test.true (sym c.if-not-is_good.ensures) in
    omega (arith, c.loop-k.invariant)

pub loop-k-preserved : goal.loop-k-preserved
loop-k-preserved c =
    let e = good_yes c.args.m c.args.gates.now c.loop-k.k _ c.loop-k-test.true (sym c.if-not-is_good.ensures) in
    omega (arith, c.loop-k.invariant)

pub returns : goal.returns
returns c =
    let e = at_drop_all (good_from (c.args.m + c.loop-k.k)) c.args.gates.now c.loop-k.k c.loop-k-test.false in
    omega (arith, c.loop-k.invariant)

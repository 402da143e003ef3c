use Rattle.std.proofs.Common.{length, arith, rules}
use Rattle.netlist.proofs.Rules.{good_at, good_reads}
use Rattle.netlist.proofs.Steps.{holds_none, holds_more, holds_all}
use Rattle.netlist.proofs.simulation.fill.Goals as goal

pub loop-k-init : goal.loop-k-init
loop-k-init c = holds_none c.args.inputs.now c.args.gates.now c.copy_from_slice.new.self _ c.copy_from_slice.ensures.after

pub bounds-values-gate : goal.bounds-values-gate
bounds-values-gate c =
    (good_reads (length c.args.inputs.now) c.args.gates.now c.requires.gates c.loop-k.k _ (omega arith) (search rules)).0

pub bounds-values-gate-in-loop-k : goal.bounds-values-gate-in-loop-k
bounds-values-gate-in-loop-k c =
    (good_reads (length c.args.inputs.now) c.args.gates.now c.requires.gates c.loop-k.k _ (omega arith) (search rules)).1

pub loop-k-preserved : goal.loop-k-preserved
loop-k-preserved c =
    holds_more c.args.inputs.now c.args.gates.now c.loop-k.values c.loop-k.k c.gate_value.result _
    (omega arith) (search rules)
    (good_at (length c.args.inputs.now) c.args.gates.now c.requires.gates c.loop-k.k _ (omega arith))
    c.loop-k.invariant c.gate_value.ensures

pub returns : goal.returns
returns c = holds_all c.args.inputs.now c.args.gates.now c.loop-k.values c.loop-k.k (search rules) (omega arith) c.loop-k.invariant

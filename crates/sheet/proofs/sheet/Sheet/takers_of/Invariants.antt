use Rattle.std.proofs.Common.{◌≡◌, ◌+◌, ◌≤◌, drop, map}
use Rattle.account.specs.Measure.{takers}
use Rattle.sheet.specs.Spans.{pair_of}
use Rattle.sheet.proofs.sheet.Sheet.takers_of.Given as goal

-- those counted and those among the joins to come are all
abbrev pub invariant-loop-join : goal.invariant-loop-join
invariant-loop-join l =
    (l.takers ≤ l.join-index)
    × (l.takers + takers l.node (map pair_of (drop l.join-index l.join-items)) ≡ takers l.node (map pair_of l.join-items))

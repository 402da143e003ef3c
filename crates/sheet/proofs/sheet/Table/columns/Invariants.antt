use Rattle.std.proofs.Common.{◌≡◌, ℕ, ◌<◌}
use Rattle.sheet.specs.Spans.{at, column}
use Rattle.sheet.proofs.sheet.Table.columns.Given as goal

abbrev pub invariant-loop-v : goal.invariant-loop-v
invariant-loop-v l = (k : ℕ) → k < l.v → at l.node-items k ≡ column k

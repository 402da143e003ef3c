use Rattle.std.proofs.Common.{ℕ, ◌<◌, get_or}
use Rattle.blocks.proofs.placing.fill_from.Given as goal

abbrev pub invariant-loop-k : goal.invariant-loop-k
invariant-loop-k g l = (k : ℕ) (d : _) → k < l.k → goal.F-post g l.f k (get_or l.slots k d)

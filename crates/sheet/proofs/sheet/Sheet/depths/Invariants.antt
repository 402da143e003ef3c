use Rattle.std.proofs.Common.{◌≡◌, ℕ, ◌+◌, ◌<◌, ◌≤◌, length, get_or}
use Rattle.account.specs.Measure.{depths}
use Rattle.sheet.specs.View.{account}
use Rattle.sheet.proofs.sheet.Sheet.depths.Given as goal

-- the nodes before join r have their depths, and the others 0
abbrev pub invariant-loop-r : goal.invariant-loop-r
invariant-loop-r l =
    (length l.depths ≡ 1088)
    × ((k : ℕ) → get_or l.depths k 0 ≤ l.self.columns + l.r)
    × ((k : ℕ) → k < l.self.columns + l.r → get_or l.depths k 0 ≡ get_or (depths l.self.columns (account l.self).joins) k 0)

use Rattle.std.proofs.Common.{◌≡◌, max, map, drop}
use Rattle.std.specs.List.{range_with_len}
use Rattle.account.specs.Account.{output_of}
use Rattle.account.specs.Families.{greatest}
use Rattle.account.specs.Measure.{depths, depth_at, depth_of}
use Rattle.sheet.specs.View.{account}
use Rattle.sheet.proofs.sheet.Sheet.depth.Given as goal

-- the outputs from c on decide what is deeper
abbrev pub invariant-loop-c : goal.invariant-loop-c
invariant-loop-c l =
    max l.deepest (greatest (map (λ c. depth_at (depths l.self.columns (account l.self).joins) (output_of (account l.self) c)) (drop l.c (range_with_len 0 l.self.columns))))
    ≡ depth_of (account l.self)

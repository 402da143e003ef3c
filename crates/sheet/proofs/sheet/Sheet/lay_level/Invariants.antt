use Rattle.std.proofs.Common.{◌≡◌, drop, fold}
use Rattle.std.specs.List.{range_with_len}
use Rattle.account.specs.Families.{lay_column, lay_level}
use Rattle.sheet.specs.Levels.{rule_of}
use Rattle.sheet.specs.View.{laying}
use Rattle.sheet.proofs.sheet.Sheet.lay_level.Given as goal

-- the columns from i on give the whole level
abbrev pub invariant-loop-i : goal.invariant-loop-i
invariant-loop-i l =
    let n = l.initial.self.columns in record {
      wide : l.self.columns ≡ n;
      rest : fold (lay_column n (rule_of l.level) l.before) (laying l.self l.current) (drop l.i (range_with_len 0 n))
          ≡ lay_level n (laying l.initial.self l.initial.current) (rule_of l.level);
    }

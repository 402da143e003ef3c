use Rattle.std.proofs.Common.{◌≡◌, length, take, fold}
use Rattle.account.specs.Families.{lay_level, family}
use Rattle.answers.specs.FamilyNumbers.{number_of}
use Rattle.sheet.specs.Levels.{rest}
use Rattle.sheet.specs.View.{laying}
use Rattle.sheet.proofs.sheet.Sheet.lay_levels.Given as goal

-- the levels still to come give the whole family
abbrev pub invariant-loop-level : goal.invariant-loop-level
invariant-loop-level l =
    let n = l.initial.self.columns in record {
      wide : l.self.columns ≡ n;
      long : length l.current ≡ 64;
      joins : (fold (lay_level n) (laying l.self (take n l.current)) (rest l.level-iterator)).joins ≡ family (number_of l.fn.family) n;
    }

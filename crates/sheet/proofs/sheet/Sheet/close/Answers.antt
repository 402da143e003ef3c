use Rattle.std.proofs.Common.{sym, arith}
use Rattle.account.proofs.Tying.{closes}
use Rattle.sheet.specs.View.{account}
use Rattle.sheet.proofs.Standing.{covered_where, refused_where}
use Rattle.sheet.proofs.sheet.Sheet.close.Goals as goal

pub invariant_of-result : goal.invariant_of-result
invariant_of-result c = record { covered = covered_where (account c.args.self.now) c.uncovered.result c.uncovered.ensures c.in-None.is }

pub returns-in-Some : goal.returns-in-Some
returns-in-Some c = refused_where (account c.args.self.now) c.uncovered.result c.in-Some.c c.uncovered.ensures c.in-Some.is

pub returns-in-None : goal.returns-in-None
returns-in-None c =
    let a = account c.args.self.now in
    sym (closes a 0 a.columns (covered_where a c.uncovered.result c.uncovered.ensures c.in-None.is) (omega arith))

use Rattle.std.proofs.Common.{arith, rules}
use Rattle.sheet.proofs.Standing.{count_is, span_is}
use Rattle.sheet.proofs.sheet.Sheet.span.Goals as goal

pub returns-clause-spells : goal.returns-clause-spells
returns-clause-spells c =
    let s = c.args.self.now in
    let r = c.in_ok-record.ensures in
    let is = span_is s c.args.node _ r.0 r.1 in
    (omega (arith, count_is s), search rules, search rules)

use Rattle.std.proofs.Common.{List, ap, arith}
use Rattle.account.specs.Account.{Account}
use Rattle.account.specs.Words.{Pair}
use Rattle.sheet.proofs.Keeping.{pairs_none, fresh}
use Rattle.sheet.proofs.sheet.Sheet.of_columns.Goals as goal

pub invariant_of-result : goal.invariant_of-result
invariant_of-result c = fresh c.args.n c.columns.result c.requires.0 c.requires.1 c.columns.ensures.counted c.columns.ensures.spans

pub returns : goal.returns
returns c =
    let t = c.columns.result in
    let of : List Pair → Account = λ ps. record { columns = c.args.n; joins = ps } in
    ap of (pairs_none c.args.n t.nodes t.count c.columns.ensures.counted (omega (arith, t.sized)))

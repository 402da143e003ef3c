use Rattle.std.proofs.Common.{List, length, ap, ◌∙◌}
use Rattle.account.specs.Words.{Pair}
use Rattle.account.specs.Account.{Account}
use Rattle.account.specs.Measure.{depth_of}
use Rattle.account.proofs.Tying.{family_stands_lem}
use Rattle.sheet.proofs.sheet.closed.ClosedSheet.measure.Goals as goal

pub returns-clause-formula : goal.returns-clause-formula
returns-clause-formula c = λ f l u e.
    let s = c.args.self.now.sheet.now in
    let stands = family_stands_lem f s.columns l u s.wide.0 s.wide.1 in
    let same : List Pair → Account = λ js. record { columns = s.columns; joins = js } in
    (c.joins.ensures.0 ∙ ap length e ∙ stands.sized, c.depth.ensures ∙ ap (λ (js : List Pair). depth_of (same js)) e ∙ stands.deep)

use Rattle.std.proofs.Common.{◌≡◌, ℕ, length, sym, ap, ◌∙◌, subst, arith}
use Rattle.account.specs.Account.{Account, closed, closed_sheet}
use Rattle.account.specs.Measure.{depth_of}
use Rattle.account.proofs.Answering.{lays}
use Rattle.account.proofs.Tying.{family_account, closes}
use Rattle.sheet.specs.View.{account}
use Rattle.sheet.proofs.Levels.{stands}
use Rattle.sheet.proofs.sheet.Sheet.lay.Goals as goal

pub returns : goal.returns
returns c =
    let s = c.args.self.now in let f = c.args.family in let n = s.columns in
    let chosen = c.in_ok-chosen.ensures in
    let made : account c.lay_levels.new.self ≡ family_account f n = c.lay_levels.ensures ∙ ap (λ (g : ℕ). family_account g n) chosen.1 in
    let known = stands c.in_ok-chosen.chosen f n chosen.1 s.wide.0 s.wide.1 in
    let size = c.joins.ensures.0 ∙ ap (λ (a : Account). length a.joins) made in
    let Closes : Account → Type 0 = λ a. closed a ≡ closed_sheet a in
    record {
      lays = lays (account s) _ f _ chosen.0 (omega arith) size made;
      covers = subst Closes (sym made) (closes (family_account f n) 0 n known.covered (omega arith));
      sized = size ∙ known.sized;
      deep = ap depth_of made ∙ known.deep;
    }

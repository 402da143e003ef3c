use Rattle.std.proofs.Common.{ap, ◌∙◌, rules, tests}
use Rattle.std.proofs.lemmas.Iterator.{YieldsList-from_slice}
use Rattle.std.proofs.lemmas.Iterator.Search.{position_from_yields_List}
use Rattle.account.specs.Account.{found}
use Rattle.sheet.specs.Spans.{standing_of, spells_to}
use Rattle.sheet.proofs.Standing.{output_is}
use Rattle.sheet.proofs.sheet.Sheet.output.Goals as goal

pub returns : goal.returns
returns c =
    let s = c.args.self.now in
    let e = position_from_yields_List (spells_to c.args.column) _ _ _ c.position.ensures.ran (YieldsList-from_slice (standing_of s.table.nodes s.table.count) cc) (λ x b q k. search (rules, tests)) ∙ output_is s c.args.column in
    record { node = e; answers = ap found e }

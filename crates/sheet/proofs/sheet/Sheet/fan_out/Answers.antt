use Rattle.std.proofs.Common.{ℕ, map, unwrap_or, sym, ap, ◌∙◌, rules, arith}
use Rattle.std.specs.List.{range_with_len}
use Rattle.std.proofs.lemmas.Iterator.{YieldsList-from_range, YieldsList-from_map}
use Rattle.std.proofs.lemmas.Iterator.Adapters.{option_map_id}
use Rattle.std.proofs.lemmas.Iterator.Consumers.{max_from_yields_List}
use Rattle.account.specs.Measure.{takers}
use Rattle.sheet.specs.View.{account}
use Rattle.sheet.proofs.Standing.{greatest_reduced, fan_out_is}
use Rattle.sheet.proofs.sheet.Sheet.fan_out.Goals as goal

pub returns : goal.returns
returns c =
    let s = c.args.self.now in
    let g : ℕ → ℕ = λ v. takers v (account s).joins in
    let most = max_from_yields_List _ c.max.result c.max.ensures.ran
    (YieldsList-from_map _ g (YieldsList-from_range 0 s.table.count s.table.count c.map.ensures.source (omega arith)) c.map.ensures.closure (λ x r q k. search rules)) in
    c.unwrap_or.ensures
    ∙ ap (λ o. unwrap_or o 0) (sym (option_map_id c.max.result) ∙ most)
    ∙ greatest_reduced (map g (range_with_len 0 s.table.count)) ∙ fan_out_is s

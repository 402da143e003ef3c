use Rattle.std.proofs.Common.{◌≡◌, ℕ, ◌+◌, ◌-◌, ◌<◌, List, length, take, ap, ◌∙◌, subst, arith}
use Rattle.std.proofs.lemmas.List.{length-take-le}
use Rattle.account.specs.Words.{Pair}
use Rattle.sheet.specs.View.{account}
use Rattle.sheet.specs.Spans.{pairs_of, Spelled}
use Rattle.sheet.proofs.Keeping.{spelled_pop}
use Rattle.sheet.proofs.Standing.{count_is, pairs_drop, bare, popped}
use Rattle.sheet.proofs.sheet.Sheet.undo.Goals as goal

pub returns-then-self : goal.returns-then-self
returns-then-self c = let s = c.args.self.now in bare (account s) (omega (arith, count_is s))

pub invariant_of-self : goal.invariant_of-self
invariant_of-self c =
    let s = c.args.self.now in
    let more : s.columns < s.table.count = omega arith in
    let e : s.table.count ≡ s.table.count - 1 + 1 = omega arith in
    let sp : Spelled s.columns s.table.nodes (s.table.count - 1 + 1) =
    subst (λ (k : ℕ). Spelled s.columns s.table.nodes k) e s.spelled in
    rw (c.remove.ensures.rows, c.remove.ensures.counted) record {
      wide = s.wide;
      room = (omega arith, omega arith);
      founded = λ v a b. s.founded v a (omega arith);
      upward = λ v h. s.upward v (omega arith);
      spelled = spelled_pop s.columns s.table.nodes (s.table.count - 1) (omega arith) (omega (arith, s.table.sized)) sp;
    }

pub returns : goal.returns
returns c =
    let s = c.args.self.now in
    let more : s.columns < s.table.count = omega arith in
    let e : pairs_of s.columns c.remove.new.self.nodes c.remove.new.self.count
    ≡ take (length (account s).joins - 1) (account s).joins =
    rw (c.remove.ensures.rows, c.remove.ensures.counted)
    (pairs_drop s.columns s.table.nodes s.table.count more (omega (arith, s.table.sized))) in
    popped (account s) _ _ (omega (arith, count_is s)) (c.joins.ensures.0 ∙ ap length e ∙ length-take-le (length (account s).joins - 1) (account s).joins (omega arith))
    (ap (λ (ps : List Pair). record { columns = s.columns; joins = ps }) e)

use Rattle.std.proofs.Common.{◌≡◌, ℕ, ◌+◌, ◌<◌, max, map, drop, Some, sym, ap, ◌∙◌, arith, rules}
use Rattle.std.specs.List.{range_with_len}
use Rattle.account.specs.Account.{output_of}
use Rattle.account.specs.Families.{greatest}
use Rattle.account.specs.Measure.{depths, depth_at, depth_of}
use Rattle.account.proofs.Measuring.{greatest_more, greatest_all, output_node}
use Rattle.sheet.specs.View.{account}
use Rattle.sheet.specs.declared.sheet.Sheet.{Sheet}
use Rattle.sheet.proofs.Standing.{count_is}
use Rattle.sheet.proofs.sheet.Sheet.depth.Goals as goal
use Rattle.sheet.proofs.sheet.Sheet.depth.Goals.{in-Some, in_default}

pub loop-c-init : goal.loop-c-init
unfolding depth_of
loop-c-init c = omega arith

-- an output's place is in the table
in_table : (s : Sheet) (c v : ℕ) → Some v ≡ output_of (account s) c → v < s.table.count
in_table s c v e = omega (arith, output_node (account s) c v (sym e), count_is s)

pub offset_bounds-depths-v : goal.offset_bounds-depths-v
offset_bounds-depths-v c =
    let s = c.args.self.now in
    let h : c.in-Some.v < 1088 = omega (arith, in_table s c.loop-c.c c.in-Some.v c.in-Some.ensures.node) in search rules

pub bounds-depths-v : goal.bounds-depths-v
bounds-depths-v c = let s = c.args.self.now in omega (arith, in_table s c.loop-c.c c.in-Some.v c.in-Some.ensures.node)

pub loop-c-preserved : goal.loop-c-preserved
loop-c-preserved c =
    let s = c.args.self.now in let i = c.loop-c.c in
    let D = depths s.columns (account s).joins in
    let g : ℕ → ℕ = λ k. depth_at D (output_of (account s) k) in
    let rest = greatest (map g (drop (i + 1) (range_with_len 0 s.columns))) in
    let more : c.match-output.deepest ≡ max c.loop-c.deepest (g i) =
    elim c.match-output.branch [
      | in-Some w ↦
          w.deepest-is ∙ w.max-deepest.ensures
          ∙ ap (max c.loop-c.deepest)
          (c.depths-depths.ensures w.in-Some.v (in_table s i w.in-Some.v w.in-Some.ensures.node) ∙ ap (depth_at D) w.in-Some.ensures.node)
      | in_default w ↦
          let same : c.loop-c.deepest ≡ max c.loop-c.deepest 0 = omega arith in
          w.deepest-is ∙ same ∙ ap (λ o. max c.loop-c.deepest (depth_at D o)) w.in_default.ensures.node
    ] in
    ap (λ (m : ℕ). max m rest) more ∙ sym (greatest_more g s.columns i c.loop-c.deepest c.loop-c-test.true) ∙ c.loop-c.invariant

pub returns : goal.returns
returns c =
    let s = c.args.self.now in
    let g : ℕ → ℕ = λ k. depth_at (depths s.columns (account s).joins) (output_of (account s) k) in
    sym (greatest_all g s.columns c.loop-c.c c.loop-c.deepest c.loop-c-test.false) ∙ c.loop-c.invariant

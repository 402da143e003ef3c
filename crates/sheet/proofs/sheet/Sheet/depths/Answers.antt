use Rattle.std.proofs.Common.{◌≡◌, ℕ, zero, suc, ◌+◌, ◌<◌, ◌≤◌, max, List, length, get_or, set, replicate, sym, refl, ap, ◌∙◌, subst, ⊎_elim, zero-le, arith, below_more}
use Rattle.std.proofs.lemmas.List.{length-set, get_or-set_same, get_or-set_other}
use Rattle.std.proofs.lemmas.Bool.{cases_eq}
use Rattle.account.specs.Measure.{depths}
use Rattle.account.proofs.Measuring.{depth_column}
use Rattle.sheet.specs.Spans.{at, joins_of}
use Rattle.sheet.specs.View.{account}
use Rattle.sheet.specs.declared.node.Node.{Node}
use Rattle.sheet.proofs.Standing.{join_at, joins_end, depth_is}
use Rattle.sheet.proofs.sheet.Sheet.depths.Goals as goal

zeros : (m k : ℕ) → ◌≡◌ {A = ℕ} (get_or (replicate m 0) k 0) 0
zeros zero k = refl
zeros (suc m) zero = refl
zeros (suc m) (suc k) = zeros m k

pub loop-r-init : goal.loop-r-init
loop-r-init c =
    let s = c.args.self.now in
    let P : ℕ → Type 0 = λ m. m ≤ s.columns + 0 in
    (refl, (λ k. subst P (sym (zeros 1088 k)) zero-le), (λ k h. zeros 1088 k ∙ sym (depth_column s.columns (account s).joins k (omega arith))))

pub loop-r-preserved : goal.loop-r-preserved
loop-r-preserved c =
    let s = c.args.self.now in let r = c.loop-r.r in let v : ℕ = s.columns + r in let xs = c.loop-r.depths in
    let d = at s.table.nodes v in let y : ℕ = 1 + c.max.result in
    let h : r < length (joins_of s.columns s.table.nodes s.table.count) = rw (← c.join_nodes-join-items.ensures) c.loop-r-test.true in
    let here = join_at s r h in
    let node = ap (λ (ds : List Node). at ds r) c.join_nodes-join-items.ensures ∙ here.1 in
    let lt : v < length xs = omega (arith, c.loop-r.invariant.0, here.0) in
    let below = s.founded v (omega arith) here.0 in
    let most : c.max.result ≡ max (get_or xs d.low 0) (get_or xs d.high 0) = c.max.ensures ∙ ap (λ (e : Node). max (get_or xs e.low 0) (get_or xs e.high 0)) node in
    let new : y ≡ get_or (depths s.columns (account s).joins) v 0 =
    ap (λ (m : ℕ). 1 + m) most
    ∙ depth_is s v _ _ (omega arith) here.0 (c.loop-r.invariant.2 d.low below.0) (c.loop-r.invariant.2 d.high below.1) in
    let bound : y ≤ v + 1 = omega (arith, most, c.loop-r.invariant.1 d.low, c.loop-r.invariant.1 d.high) in
    let next : s.columns + (r + 1) ≡ v + 1 = omega arith in (
      length-set xs v y ∙ c.loop-r.invariant.0,
      (λ k.
          ⊎_elim
          (λ (e : k ≡ v). let same : get_or (set xs v y) k 0 ≡ y = rw e (get_or-set_same xs v y 0 lt) in omega arith)
          (λ (ne : k ≡ v → ⊥). omega (arith, get_or-set_other xs v k y 0 ne, c.loop-r.invariant.1 k))
          (cases_eq k v)),
      (λ k a.
          below_more (λ k. get_or (set xs v y) k 0 ≡ get_or (depths s.columns (account s).joins) k 0) v
          (λ k h. get_or-set_other xs v k y 0 (omega arith) ∙ c.loop-r.invariant.2 k h)
          (get_or-set_same xs v y 0 lt ∙ new) k (omega arith)),
    )

pub returns : goal.returns
returns c = let s = c.args.self.now in λ v h. c.loop-r.invariant.2 v (omega (arith, joins_end s, ap length c.join_nodes-join-items.ensures, c.loop-r-test.false))

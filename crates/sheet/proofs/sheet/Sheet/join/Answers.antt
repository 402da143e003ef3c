use Rattle.std.proofs.Common.{◌≡◌, ℕ, ◌+◌, ◌<◌, ◌≤◌, true, false, List, [], ◌∷◌, ◌++◌, length, set, sym, refl, ap, ◌∙◌, arith, rules}
use Rattle.std.proofs.lemmas.Bool.{eq-eqb, ne_eqb}
use Rattle.account.specs.Words.{Pair}
use Rattle.account.specs.Account.{Account, Answer, refused, meets, joined}
use Rattle.account.proofs.Answering.{no_low, no_high, gap, full, accepted}
use Rattle.answers.specs.Refusals.{answer}
use Rattle.sheet.specs.Spans.{at, interval, pairs_of}
use Rattle.sheet.specs.View.{account}
use Rattle.sheet.specs.declared.node.Node.{Node}
use Rattle.sheet.specs.declared.sheet.Sheet.{Sheet}
use Rattle.sheet.proofs.Keeping.{spans_append, upward_push, spelled_push, founded_push, pairs_push}
use Rattle.sheet.proofs.Standing.{count_is, meets_is, gap_told}
use Rattle.sheet.proofs.sheet.Sheet.join.Goals as goal

pub returns-in_err-a : goal.returns-in_err-a
returns-in_err-a c =
    let s = c.args.self.now in
    let h = c.in_err-a.ensures in
    let e : answer c.from_residual.result ≡ refused 2 (c.args.low ∷ 0 ∷ []) = search rules in
    let j : ◌≡◌ {A = Answer × Account} (answer c.from_residual.result, account s) (joined (account s) c.args.low c.args.high) =
    ap (λ (r : Answer). (r, account s)) e ∙ no_low (account s) c.args.low c.args.high (omega (arith, count_is s)) in
    record { joins = j; gaps = gap_told s _ _ _ _ j }

pub returns-in_err-b : goal.returns-in_err-b
returns-in_err-b c =
    let s = c.args.self.now in
    let h = c.in_err-b.ensures in let i = c.in_ok-a.ensures in
    let e : answer c.from_residual-in_err-b.result ≡ refused 2 (c.args.high ∷ 1 ∷ []) = search rules in
    let j : ◌≡◌ {A = Answer × Account} (answer c.from_residual-in_err-b.result, account s) (joined (account s) c.args.low c.args.high) =
    ap (λ (r : Answer). (r, account s)) e ∙ no_high (account s) c.args.low c.args.high (omega (arith, count_is s)) (omega (arith, count_is s)) in
    record { joins = j; gaps = gap_told s _ _ _ _ j }

-- whether the operands' records meet, and whether their nodes do
apart : (s : Sheet) (l h : ℕ) (x y : Node) → (l < s.table.count) × (x ≡ at s.table.nodes l) → (h < s.table.count) × (y ≡ at s.table.nodes h) →
    (x.last + 1 ≡ y.first → ⊥) → meets (account s) l h ≡ false
apart s l h x y p q ne =
    meets_is s l h p.0 q.0
    ∙ ne_eqb _ _ (λ e. ne (ap (λ (d : Node). d.last + 1) p.1 ∙ e ∙ sym (ap (λ (d : Node). d.first) q.1)))

meet : (s : Sheet) (l h : ℕ) (x y : Node) → (l < s.table.count) × (x ≡ at s.table.nodes l) → (h < s.table.count) × (y ≡ at s.table.nodes h) →
    x.last + 1 ≡ y.first → meets (account s) l h ≡ true
meet s l h x y p q e =
    meets_is s l h p.0 q.0
    ∙ eq-eqb _ _ (sym (ap (λ (d : Node). d.last + 1) p.1) ∙ e ∙ ap (λ (d : Node). d.first) q.1)

pub returns-then-gap : goal.returns-then-gap
returns-then-gap c =
    let s = c.args.self.now in let l = c.args.low in let h = c.args.high in
    let p = c.in_ok-a.ensures in let q = c.in_ok-b.ensures in
    let j = gap (account s) l h (omega (arith, count_is s)) (omega (arith, count_is s)) (apart s l h _ _ p q c.if-gap.true) in
    record { joins = j; gaps = gap_told s _ _ _ _ j }

pub returns-then-full : goal.returns-then-full
returns-then-full c =
    let s = c.args.self.now in let l = c.args.low in let h = c.args.high in
    let p = c.in_ok-a.ensures in let q = c.in_ok-b.ensures in
    let j = full (account s) l h (omega (arith, count_is s)) (omega (arith, count_is s)) (meet s l h _ _ p q c.if-gap.false) (omega (arith, count_is s)) in
    record { joins = j; gaps = gap_told s _ _ _ _ j }

pub invariant_of-self : goal.invariant_of-self
invariant_of-self c =
    let s = c.args.self.now in let l = c.args.low in let h = c.args.high in
    let x = c.in_ok-a.a in let y = c.in_ok-b.b in
    let p = c.in_ok-a.ensures in let q = c.in_ok-b.ensures in
    let z : Node = record { low = l; high = h; first = x.first; last = y.last } in
    let lt : s.table.count < length s.table.nodes = omega (arith, s.table.sized) in
    let ux : (x.first ≤ x.last) × (x.last < s.columns) = rw p.1 (s.upward l p.0) in
    let uy : (y.first ≤ y.last) × (y.last < s.columns) = rw q.1 (s.upward h q.0) in
    let spells : interval (at s.table.nodes l) ++ interval (at s.table.nodes h) ≡ interval z =
    sym (ap (λ (d : Node). interval d ++ interval (at s.table.nodes h)) p.1) ∙ sym (ap (λ (d : Node). interval x ++ interval d) q.1)
    ∙ spans_append x y z ux.0 uy.0 c.if-gap.false refl refl in
    let rows = c.add.ensures.rows ∙ ap (set s.table.nodes s.table.count) c.joining.ensures in
    rw (rows, c.add.ensures.counted) record {
      wide = s.wide;
      room = (omega arith, omega arith);
      founded = founded_push s.columns s.table.nodes s.table.count z lt s.founded p.0 q.0;
      upward = upward_push s.columns s.table.nodes s.table.count z lt s.upward (omega (arith, ux, uy, c.if-gap.false)) uy.1;
      spelled = spelled_push s.columns s.table.nodes s.table.count z s.room.0 lt s.spelled p.0 q.0 spells;
    }

pub returns : goal.returns
returns c =
    let s = c.args.self.now in let l = c.args.low in let h = c.args.high in
    let p = c.in_ok-a.ensures in let q = c.in_ok-b.ensures in
    let lt : s.table.count < length s.table.nodes = omega (arith, s.table.sized) in
    let z : Node = record { low = l; high = h; first = c.in_ok-a.a.first; last = c.in_ok-b.b.last } in
    let e : pairs_of s.columns c.add.new.self.nodes c.add.new.self.count ≡ pairs_of s.columns s.table.nodes s.table.count ++ (l, h) ∷ [] =
    rw (c.add.ensures.rows ∙ ap (set s.table.nodes s.table.count) c.joining.ensures, c.add.ensures.counted) (pairs_push s.columns s.table.nodes s.table.count z s.room.0 lt) in
    let j = accepted (account s) _ l h s.table.count (omega (arith, count_is s)) (omega (arith, count_is s))
    (meet s l h _ _ p q c.if-gap.false) (omega (arith, count_is s)) (sym (count_is s))
    (ap (λ (ps : List Pair). record { columns = s.columns; joins = ps }) e) in
    record { joins = j; gaps = gap_told s _ _ _ _ j }

use Rattle.std.proofs.Common.{ℕ, get_or, sym, ap, ◌∙◌, subst, arith}
use Rattle.account.specs.Account.{Account, Answer}
use Rattle.account.specs.Families.{Laying}
use Rattle.account.specs.Sound.{Accepts, Sound}
use Rattle.account.proofs.Laying.{column_accepts, columns}
use Rattle.sheet.specs.Levels.{rule_of}
use Rattle.sheet.specs.View.{laying}
use Rattle.sheet.proofs.Standing.{is_number}
use Rattle.sheet.proofs.sheet.Sheet.lay_level.Goals.{in-Some, in_default}
use Rattle.sheet.proofs.sheet.Sheet.lay_level.Goals as goal

-- a sound join is not refused
pub unwrap-requires : goal.unwrap-requires
unwrap-requires c =
    let n = c.args.self.now.columns in let l = rule_of c.args.level in let b = c.args.before.now in
    let s = laying c.loop-i.self c.loop-i.current in let i = c.loop-i.i in let j = c.in-Some.j in
    let S : Laying → Type 0 = λ t. Sound n t.joins in
    let A : ℕ → Type 0 = λ m. Accepts m s.joins (get_or b j 0, get_or b i 0) in
    let accepts = column_accepts n l b s i j (omega arith) (sym c.in-Some.ensures.partner) (subst S (sym c.loop-i.invariant.rest) c.requires.sound) in
    is_number c.join.result _ (ap (λ (q : Answer × Account). q.0) (c.join.ensures.joins ∙ sym (subst A (sym c.loop-i.invariant.wide) accepts)))

pub loop-i-preserved : goal.loop-i-preserved
loop-i-preserved c =
    elim c.match-partner.branch [
      | in-Some w ↦ grind (arith, columns)
      | in_default w ↦ grind (arith, columns)
    ]

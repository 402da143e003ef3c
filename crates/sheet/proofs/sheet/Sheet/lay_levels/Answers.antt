use Rattle.std.proofs.Common.{◌≡◌, ℕ, take, ap, ◌∙◌, refl, arith, rules}
use Rattle.std.specs.List.{range_with_len}
use Rattle.std.proofs.lemmas.List.{map-id}
use Rattle.std.proofs.lemmas.List.FromFn.{fill_by_all, take-map-range_with_len}
use Rattle.account.specs.Families.{family}
use Rattle.sheet.specs.Levels.{rest, rule_of}
use Rattle.sheet.specs.View.{laying}
use Rattle.sheet.proofs.Levels.{next_sound}
use Rattle.sheet.proofs.sheet.Sheet.lay_levels.Goals as goal

pub loop-level-init : goal.loop-level-init
unfolding family
loop-level-init c =
    let n = c.args.self.now.columns in
    let own : take n c.from_fn-current.result ≡ range_with_len 0 n =
    ap (take n) (fill_by_all (λ (j : ℕ). j) c.from_fn-current.result 64 0 (omega arith) (λ j h. let k = (c.from_fn-current.ensures.items.at j 0 h).2 in search rules))
    ∙ take-map-range_with_len (λ (j : ℕ). j) 0 64 n (omega arith) ∙ map-id (range_with_len 0 n) in
    record { wide = refl; long = omega arith; joins = cc }

pub lay_level-requires-clause-sound : goal.lay_level-requires-clause-sound
lay_level-requires-clause-sound c =
    let n = c.args.self.now.columns in
    let s = laying c.loop-level.self (take n c.loop-level.current) in
    let sound = next_sound c.args.family n (rule_of c.in-Some.level) (rest c.loop-level.level-iterator) (rest c.next.new.self) s
    (omega arith) (omega arith) c.in-Some.ensures.steps c.loop-level.invariant.joins in
    grind (arith, sound)

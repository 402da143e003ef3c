-- What a level does, and the levels that are still to come.
use Rattle.std.specs.Prelude.{◌+◌, List, drop}
use Rattle.account.specs.Families.{Level as Rule, levels, sklansky, kogge_stone, brent_kung_up, brent_kung_down, han_carlson_first, han_carlson, han_carlson_last}
use Rattle.answers.specs.FamilyNumbers.{number_of}
use Rattle.sheet.specs.declared.sheet.families.Level.{Level}
use Rattle.sheet.specs.declared.sheet.families.Level.TheVariants.{Sklansky, KoggeStone, BrentKungUp, BrentKungDown, HanCarlsonFirst, HanCarlson, HanCarlsonLast}
use Rattle.sheet.specs.declared.sheet.families.Levels.{Levels}

-- The rule of a level, by the power of its step, or of half its step.
abbrev pub rule_of : Level → Rule
rule_of (Sklansky step) = sklansky step.power
rule_of (KoggeStone step) = kogge_stone step.power
rule_of (BrentKungUp half) = brent_kung_up (half.power + 1)
rule_of (BrentKungDown half) = brent_kung_down (half.power + 1)
rule_of HanCarlsonFirst = han_carlson_first
rule_of (HanCarlson step) = han_carlson step.power
rule_of HanCarlsonLast = han_carlson_last

-- The rules of all levels of a family, and of those that are still to come.
abbrev pub rules_of : Levels → List Rule
rules_of l = levels (number_of l.family) l.digits

abbrev pub rest : Levels → List Rule
rest l = drop l.turn (rules_of l)

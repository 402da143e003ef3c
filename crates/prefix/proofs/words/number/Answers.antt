use Rattle.std.proofs.Common.{rules}
use Rattle.prefix.proofs.Digits.{digits_pass}
use Rattle.prefix.proofs.words.number.Goals as goal
use Rattle.prefix.proofs.words.number.Goals.{then-is_empty-via-then-is_empty, then-is_empty-via-else-is_empty+then-not-all_digits}

pub returns-then-is_empty : goal.returns-then-is_empty
returns-then-is_empty c p =
    elim c.then-is_empty.branch [
      | then-is_empty-via-then-is_empty w ↦ let n = p.0.0 in let e = w.if-is_empty.ensures in search rules
      | then-is_empty-via-else-is_empty+then-not-all_digits w ↦
          let d = digits_pass c.args.word.now p.0.1 in let e = w.all_digits.ensures in let f = w.if-not-all_digits in cc
    ]

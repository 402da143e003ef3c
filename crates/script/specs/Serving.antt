-- What a call of a sheet script answers and leaves, by the account of the sheet and whether a closed sheet stands on it.
use Rattle.std.specs.Prelude.{ℕ, Bool, true, false, cond, Some, None, Ok, Err, Result}
use Rattle.account.specs.Account as accounts
use Rattle.account.specs.Account.{Account, number, none, done, closed_sheet, refused, opened, joined, undone, laid, output_of, found, closed}
use Rattle.answers.specs.Refusals.{refusal}
use Rattle.answers.specs.declared.measure.Measure.{Measure}
use Rattle.answers.specs.declared.refusal.Refusal.{Refusal}
use Rattle.sheet.specs.View.{account}
use Rattle.sheet.specs.Measured.{measured}
use Rattle.script.specs.declared.call.Call.{Call}
use Rattle.script.specs.declared.call.Call.TheVariants.{Open, Join, Undo, Lay, Output, Close, Reopen, Measure as MeasureCall}
use Rattle.script.specs.declared.answer.Answer as replies
use Rattle.script.specs.declared.answer.Answer.TheVariants.{Done, Number, Measured}
use Rattle.script.specs.declared.drawing.Drawing.{Drawing}

-- An answer: one of the account's, a measure, or that no closed sheet stands.
pub data Told : Type 0 where
  plain : accounts.Answer → Told
  measures : Measure → Told
  not_closed : Told

-- The number and values of each case of an answer or a refusal.
abbrev pub told : Result replies.Answer Refusal → Told
told (Ok Done) = plain done
told (Ok (Number o)) = plain (found o)
told (Ok (Measured (Some m))) = measures m
told (Ok (Measured None)) = not_closed
told (Err r) = plain (refusal r)

-- The sheet's account, and whether a closed sheet stands.
abbrev pub Standing : Type 0
Standing = Account × Bool

abbrev pub standing : Drawing → Standing
standing d = (account d.sheet, d.closed)

-- A call that ends a closed sheet, by the account's answer.
abbrev pub ended : accounts.Answer × Account → Told × Standing
ended q = (plain q.0, (q.1, false))

abbrev pub after_open : Account → ℕ → Told × Standing
after_open a n = ended (opened a n)

-- close: done and a closed sheet, or the refusal and none.
abbrev pub closed_by : Account → accounts.Answer → Told × Standing
closed_by a (closed_sheet b) = (plain done, (a, true))
closed_by a (refused k vs) = (plain (refused k vs), (a, false))
closed_by a (number v) = (plain (number v), (a, false))
closed_by a none = (plain none, (a, false))
closed_by a done = (plain done, (a, false))

abbrev pub after_close : Account → Told × Standing
after_close a = closed_by a (closed a)

abbrev pub after_measure : Standing → Told
after_measure s = cond s.1 (measures (measured s.0)) not_closed

abbrev pub served : Standing → Call → Told × Standing
served s (Open n) = after_open s.0 n
served s (Join low high) = ended (joined s.0 low high)
served s Undo = ended (undone s.0)
served s (Lay f) = ended (laid s.0 f)
served s (Output c) = (plain (found (output_of s.0 c)), s)
served s Close = after_close s.0
served s Reopen = (plain done, (s.0, false))
served s MeasureCall = (after_measure s, s)

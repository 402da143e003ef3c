-- A closed sheet as its account, and the answer of close.
use Rattle.account.specs.Account.{Account, Answer, closed_sheet}
use Rattle.sheet.specs.View.{account}
use Rattle.answers.specs.Refusals.{refusal}
use Rattle.sheet.specs.declared.sheet.closed.ClosedSheet.{ClosedSheet}
use Rattle.answers.specs.declared.refusal.Refusal.{Refusal}
use Rattle.std.specs.Prelude.{Ok, Err, Result}

abbrev pub account_of : ClosedSheet → Account
account_of k = account k.sheet.now

abbrev pub close_answer : Result ClosedSheet Refusal → Answer
close_answer (Ok k) = closed_sheet (account_of k)
close_answer (Err r) = refusal r

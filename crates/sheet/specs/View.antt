-- A sheet as its account.
use Rattle.std.specs.Prelude.{ℕ, List}
use Rattle.account.specs.Account.{Account}
use Rattle.account.specs.Families.{Laying}
use Rattle.sheet.specs.Spans.{pairs_of}
use Rattle.sheet.specs.declared.sheet.Sheet.{Sheet}

abbrev pub account : Sheet → Account
account s = record { columns = s.columns; joins = pairs_of s.columns s.table.nodes s.table.count }

-- The nodes current for the columns, with the joins of the sheet so far.
abbrev pub laying : Sheet → List ℕ → Laying
laying s current = record { current = current; joins = (account s).joins }

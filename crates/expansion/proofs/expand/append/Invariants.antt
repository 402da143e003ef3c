use Rattle.sheet.specs.Closing.{account_of}
use Rattle.expansion.proofs.Appending.{Laid}
use Rattle.expansion.proofs.expand.append.Given as goal

abbrev pub invariant-loop-r : goal.invariant-loop-r
invariant-loop-r g l = Laid g.K.Kind.gates g.K.Kind.results (account_of l.closed) l.m l.used l.initial.gates l.initial.nets l.gates l.nets l.r

use Rattle.sheet.specs.Closing.{account_of}
use Rattle.scan.proofs.Running.{Filled}
use Rattle.scan.proofs.run.fill.Given as goal

abbrev pub invariant-loop-r : goal.invariant-loop-r
invariant-loop-r g l = Filled g.K.Kind.times g.K.Kind.neutral l.elements (account_of l.closed).joins l.values l.r

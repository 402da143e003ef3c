use Rattle.std.proofs.Common.{◌≡◌, map, take}
use Rattle.expansion.specs.Expansion.{net, placed}
use Rattle.expansion.proofs.expand.Operands.place.Given as goal

abbrev pub invariant-loop-k : goal.invariant-loop-k
invariant-loop-k g l = take l.k l.gates ≡ map (placed l.self.low.now l.self.high.now l.self.base) (take l.k g.K.Kind.gates)

abbrev pub invariant-loop-b : goal.invariant-loop-b
invariant-loop-b g l = take l.b l.nets ≡ map (net l.self.low.now l.self.high.now l.self.base) (take l.b g.K.Kind.results)

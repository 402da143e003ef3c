use Rattle.std.proofs.Common.{◌≡◌, length, sym, subst, arith, rules}
use Rattle.netlist.specs.Gates.{good_from}
use Rattle.netlist.specs.Signals.{Settled}
use Rattle.netlist.proofs.Rules.{good_le}
use Rattle.netlist.proofs.Steps.{settles}
use Rattle.netlist.proofs.simulation.simulate.Goals as goal

pub fill-requires : goal.fill-requires
fill-requires c =
    let b = good_le (length c.args.inputs.now) c.args.gates.now in
    record { gates = omega arith; values = omega arith }

pub returns : goal.returns
returns c =
    let inputs = c.args.inputs.now in let gates = c.args.gates.now in
    let b = good_le (length inputs) gates in
    let all : good_from (length inputs) gates ≡ length gates = omega arith in
    record {
      answer = search rules;
      settled = λ _. subst (Settled inputs gates) (sym c.fill.ensures) (settles inputs gates all);
    }

use Rattle.std.proofs.Common.{◌≡◌, length, sym, subst, arith}
use Rattle.sheet.specs.Closing.{account_of}
use Rattle.scan.specs.Values.{Folds}
use Rattle.scan.proofs.Products.{folds}
use Rattle.scan.proofs.Outputs.{prefixes}
use Rattle.scan.proofs.Running.{run_done}
use Rattle.scan.proofs.run.run.Goals as goal

pub returns : goal.returns
returns g c =
    let a = account_of c.args.closed.now in
    let op = g.K.Kind.times in let u = g.K.Kind.neutral in
    let met = g.met.K.Kind in
    let xs = c.args.elements.now in
    let vs = c.fill.new.values in
    let n : length xs ≡ a.columns = omega arith in
    let all : Folds op u a xs vs =
    subst (λ ws. Folds op u a xs ws) (sym c.fill.ensures)
    (folds op u (record { assoc = met.associative; left = met.left; right = met.right }) a xs n) in
    record {
      answer = run_done op u a xs c.args.values.now vs n (omega arith) c.fill.ensures;
      folds = λ _. all;
      prefixes = λ _. prefixes op u a xs vs c.args.closed.now.covered n all;
    }

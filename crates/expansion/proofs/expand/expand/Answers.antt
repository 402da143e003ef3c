use Rattle.std.proofs.Common.{◌≡◌, ℕ, length, take, sym, ◌∙◌}
use Rattle.sheet.specs.Closing.{account_of}
use Rattle.sheet.proofs.Standing.{ordered_is}
use Rattle.netlist.specs.Signals.{signals}
use Rattle.netlist.specs.Refusals.{number}
use Rattle.scan.proofs.Products.{Monoid}
use Rattle.scan.proofs.Outputs.{at_outputs}
use Rattle.expansion.specs.Expansion.{admitted, nets_of, values}
use Rattle.expansion.proofs.Showing.{Templated}
use Rattle.expansion.proofs.Admitting.{computed, expanded_ok}
use Rattle.expansion.proofs.Keeping.{stands}
use Rattle.expansion.proofs.expand.expand.Goals as goal

pub returns : goal.returns
returns g c =
    let a = account_of c.args.closed.now in
    let t = g.K.Kind.gates in let rs = g.K.Kind.results in
    let op = g.K.Kind.times in let u = g.K.Kind.neutral in let bits = g.K.Kind.bits in
    let gates = c.args.gates.now in let nets = c.args.nets.now in
    let used = c.args.used in let m = c.args.m in
    let gs = c.append.new.gates in let ns = c.append.new.nets in
    let met = g.met.K.Kind in
    let laws : Monoid op u = record { assoc = met.associative; left = met.left; right = met.right } in
    let fits : Templated op bits t rs = record { wide = met.wide; template = met.template; formed = met.well_formed; reaching = met.reaching } in
    let ordered = ordered_is c.args.closed.now.sheet.now in
    let ok : number c.in_ok-grown.grown ≡ admitted t rs a m gates used nets = rw c.in_ok-grown.was at c.admit.ensures in
    let shown = λ (total : ℕ) (e : number c.in_ok-grown.grown ≡ number total). computed op u bits t rs laws fits a m gates used nets total gs ns ordered (sym e ∙ ok) c.append.ensures.gates c.append.ensures.nets in
    record {
      answer = expanded_ok t rs a m gates used nets c.in_ok-grown.grown gs ns ok c.append.ensures.gates c.append.ensures.nets;
      computes = shown;
      prefixes = λ total e inputs xs given.
          at_outputs op u a xs
          (λ v x. values (signals inputs (take total gs)) (nets_of (length rs) ns v) ≡ bits x)
          c.args.closed.now.covered given.wide (shown total e inputs xs given).1;
      stands = λ total e. stands op bits t rs fits a m gates used nets total gs ns ordered (sym e ∙ ok) c.append.ensures.gates c.append.ensures.nets;
    }

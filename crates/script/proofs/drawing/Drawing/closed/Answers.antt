use Rattle.script.proofs.Closing.{closes_again}
use Rattle.script.proofs.drawing.Drawing.closed.Goals as goal

pub returns-then-self : goal.returns-then-self
returns-then-self c =
    let d = c.args.self.now in
    rw c.ok.ensures.value (closes_again c.close.result _ d.closed c.if-self.true (d.covered c.if-self.true) c.close.ensures)

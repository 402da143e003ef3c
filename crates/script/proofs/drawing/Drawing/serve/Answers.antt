use Rattle.script.proofs.Closing.{covered_by}
use Rattle.script.proofs.drawing.Drawing.serve.Goals as goal

pub invariant_of-self-in-Close : goal.invariant_of-self-in-Close
invariant_of-self-in-Close c =
    let k = c.in_ok-close-in-Close in
    record { covered = λ t. covered_by _ k.field-0 k.ensures }

-- What the range laws of a kind give of each gate and each result pin of its template.
use Rattle.std.proofs.Common.{◌≡◌, ℕ, zero, suc, ◌+◌, ◌<◌, ◌≤◌, true, List, [], ◌∷◌, length, get_or, arith}
use Rattle.std.proofs.lemmas.Bool.{ltb-true, lt-ltb, and_parts}
use Rattle.std.proofs.lemmas.Bool.Decides.{nat_tests}
use Rattle.kinds.specs.declared.template.TemplateGate.{TemplateGate}
use Rattle.kinds.specs.declared.template.TemplateGate.TheVariants.{Zero, One, Two}
use Rattle.kinds.specs.declared.template.Pin.{Pin}
use Rattle.kinds.specs.declared.template.Pin.TheVariants.{Low, High, Inner}
use Rattle.kinds.specs.Template.{within, keeps, formed, reach}

-- what a good gate of one operand reads, and one of two
pub record ReadsOne (w k t : ℕ) (a : Pin) : Type 0 where
  pub table : t < 4
  pub first : within w k a ≡ true

pub record ReadsTwo (w k t : ℕ) (a b : Pin) : Type 0 where
  pub table : t < 16
  pub first : within w k a ≡ true
  pub second : within w k b ≡ true

pub reads_one : (w k t : ℕ) (a : Pin) → keeps w k (One t a) ≡ true → ReadsOne w k t a
reads_one w k t a e = record { table = grind (arith, nat_tests); first = grind (arith, nat_tests) }

pub reads_two : (w k t : ℕ) (a b : Pin) → keeps w k (Two t a b) ≡ true → ReadsTwo w k t a b
reads_two w k t a b e = record { table = grind (arith, nat_tests); first = grind (arith, nat_tests); second = grind (arith, nat_tests) }

within_more : (w k n : ℕ) (p : Pin) → k ≤ n → within w k p ≡ true → within w n p ≡ true
within_more w k n (Low j) h e = e
within_more w k n (High j) h e = e
within_more w k n (Inner j) h e = lt-ltb j n (omega (arith, ltb-true j k e))

keeps_more : (w k n : ℕ) (g : TemplateGate) → k ≤ n → keeps w k g ≡ true → keeps w n g ≡ true
keeps_more w k n Zero h e = e
keeps_more w k n (One t a) h e =
    let r = reads_one w k t a e in
    let x : within w n a ≡ true = within_more w k n a h r.first in
    grind (arith, nat_tests)
keeps_more w k n (Two t a b) h e =
    let r = reads_two w k t a b e in
    let x : within w n a ≡ true = within_more w k n a h r.first in
    let y : within w n b ≡ true = within_more w k n b h r.second in
    grind (arith, nat_tests)

-- each gate of a template reads what there is
pub formed_at : (w k n : ℕ) (gs : List TemplateGate) (i : ℕ) (d : TemplateGate) → formed w k gs ≡ true → i < length gs → k + length gs ≤ n → keeps w n (get_or gs i d) ≡ true
formed_at w k n [] i d o h m = absurd (omega arith)
formed_at w k n (g ∷ gs) zero d o h m = keeps_more w k n g (omega arith) (and_parts (keeps w k g) (formed w (k + 1) gs) o).0
formed_at w k n (g ∷ gs) (suc i) d o h m = formed_at w (k + 1) n gs i d (and_parts (keeps w k g) (formed w (k + 1) gs) o).1 (omega arith) (omega arith)

pub reach_at : (w k n : ℕ) (ps : List Pin) (i : ℕ) (d : Pin) → reach w k ps ≡ true → i < length ps → k ≤ n → within w n (get_or ps i d) ≡ true
reach_at w k n [] i d o h m = absurd (omega arith)
reach_at w k n (p ∷ ps) zero d o h m = within_more w k n p m (and_parts (within w k p) (reach w k ps) o).0
reach_at w k n (p ∷ ps) (suc i) d o h m = reach_at w k n ps i d (and_parts (within w k p) (reach w k ps) o).1 (omega arith) m

-- What an expansion that is accepted has passed, and what it then computes.
use Rattle.std.proofs.Common.{◌≡◌, ℕ, ◌+◌, ◌*◌, ◌<◌, ◌≤◌, Bool, true, false, cond, not, ◌||◌, eqb, ltb, List, ◌++◌, length, take, All, sym, refl, ap, ◌∙◌, subst, add-mul, arith}
use Rattle.std.specs.List.{prefix_len}
use Rattle.std.proofs.lemmas.List.{length-take-le}
use Rattle.std.proofs.lemmas.List.Sums.{prefix_len-le-length}
use Rattle.std.proofs.lemmas.Bool.{ltb-false, eqb-true, not-false, or_parts, le-ltb, eq-eqb}
use Rattle.account.specs.Words.{Ordered}
use Rattle.account.specs.Account.{Account, nodes}
use Rattle.netlist.specs.declared.gate.Gate.{Gate}
use Rattle.netlist.specs.Gates.{good_from}
use Rattle.netlist.specs.declared.refusal.Slots.TheVariants.{Gates}
use Rattle.netlist.specs.declared.refusal.Refusal.TheVariants.{Short}
use Rattle.netlist.specs.Refusals.{Answer, number, done, refused, refusal}
use Rattle.kinds.specs.declared.template.TemplateGate.{TemplateGate}
use Rattle.kinds.specs.declared.template.Pin.{Pin}
use Rattle.expansion.specs.Expansion.{appended, wired, written, column_nets, grown_to, admitted, tables, expanded, Computes}
use Rattle.scan.proofs.Products.{Monoid}
use Rattle.expansion.proofs.Showing.{Templated, leading_all, computes}
use Rattle.expansion.proofs.Appending.{length_appended, take_written}

pub record Admits (t : List TemplateGate) (rs : List Pin) (a : Account) (m : ℕ) (gates : List Gate) (used : ℕ) (nets : List ℕ) (total : ℕ) : Type 0 where
  pub inputs : m ≤ 1024
  pub slots : used ≤ length gates
  pub wide : length nets ≡ nodes a * length rs
  pub columns : a.columns * length rs ≤ length nets
  pub below : All (λ k. k < m + used) (column_nets rs a nets)
  pub kept : used ≤ good_from m (take used gates)
  pub room : grown_to t a used ≤ length gates
  pub few : grown_to t a used ≤ 1048576
  pub answered : total ≡ grown_to t a used

passed : (b : Bool) (k : ℕ) (vs : List ℕ) (n : ℕ) (rest : Answer) → number n ≡ cond b (refused k vs) rest → (b ≡ false) × (number n ≡ rest)
passed true k vs n rest e = absurd cc
passed false k vs n rest e = (refl, e)

pub admits : (t : List TemplateGate) (rs : List Pin) (a : Account) (m : ℕ) (gates : List Gate) (used : ℕ) (nets : List ℕ) (total : ℕ)
    → number total ≡ admitted t rs a m gates used nets → Admits t rs a m gates used nets total
admits t rs a m gates used nets total e =
    let one = passed (ltb 1024 m) _ _ total _ e in
    let two = passed (ltb (length gates) used || ltb 1048576 used) _ _ total _ one.1 in
    let three = passed (not (eqb (length nets) (nodes a * length rs))) _ _ total _ two.1 in
    let four = passed (ltb (good_from m (take used gates)) used) _ _ total _ three.1 in
    let five = passed (ltb (prefix_len (λ k. ltb k (m + used)) (column_nets rs a nets)) (a.columns * length rs)) _ _ total _ four.1 in
    let six = passed (ltb (length gates) (grown_to t a used) || ltb 1048576 (grown_to t a used)) _ _ total _ five.1 in
    let wide : length nets ≡ nodes a * length rs = eqb-true (length nets) (nodes a * length rs) (not-false (eqb (length nets) (nodes a * length rs)) three.0) in
    let cols : a.columns * length rs ≤ length nets = omega (arith, add-mul a.columns (length a.joins) (length rs)) in
    let here = ltb-false (prefix_len (λ k. ltb k (m + used)) (column_nets rs a nets)) (a.columns * length rs) five.0 in
    let long = length-take-le (a.columns * length rs) nets cols in
    let last = or_parts (ltb (length gates) (grown_to t a used)) (ltb 1048576 (grown_to t a used)) six.0 in
    record {
      inputs = ltb-false 1024 m one.0;
      slots = ltb-false (length gates) used (or_parts (ltb (length gates) used) (ltb 1048576 used) two.0).0;
      wide = wide;
      columns = cols;
      below = leading_all (m + used) (column_nets rs a nets) (omega (arith, prefix_len-le-length (λ k. ltb k (m + used)) (column_nets rs a nets)));
      kept = ltb-false (good_from m (take used gates)) used four.0;
      room = ltb-false (length gates) (grown_to t a used) last.0;
      few = ltb-false 1048576 (grown_to t a used) last.1;
      answered = cc (six.1);
    }

-- the gates after an accepted expansion
pub gates_after : (t : List TemplateGate) (rs : List Pin) (a : Account) (m : ℕ) (gates : List Gate) (used : ℕ) (nets : List ℕ) (total : ℕ) → Admits t rs a m gates used nets total
    → take total (written gates used (appended t rs (m + used) (column_nets rs a nets) a.joins)) ≡ take used gates ++ appended t rs (m + used) (column_nets rs a nets) a.joins
gates_after t rs a m gates used nets total y =
    take_written gates (appended t rs (m + used) (column_nets rs a nets) a.joins) used total y.slots
    (ap (λ n. used + n) (length_appended t rs (m + used) (column_nets rs a nets) a.joins) ∙ sym y.answered)

-- an accepted expansion computes the products over the words
pub computed : {E : Type 0} (op : E → E → E) (u : E) (bits : E → List ℕ) (t : List TemplateGate) (rs : List Pin) (l : Monoid op u) (k : Templated op bits t rs)
    (a : Account) (m : ℕ) (gates : List Gate) (used : ℕ) (nets : List ℕ) (total : ℕ) (gs : List Gate) (ns : List ℕ) → Ordered a.columns a.joins → number total ≡ admitted t rs a m gates used nets
    → gs ≡ written gates used (appended t rs (m + used) (column_nets rs a nets) a.joins) → ns ≡ wired t rs (m + used) (column_nets rs a nets) a.joins
    → Computes op u bits (length rs) a m (take used gates) nets (take total gs) ns
computed op u bits t rs l k a m gates used nets total gs ns o e f g =
    let y = admits t rs a m gates used nets total e in
    let cols : List ℕ = column_nets rs a nets in
    let size : length (take used gates) ≡ used = length-take-le used gates y.slots in
    let after : take total gs ≡ take used gates ++ appended t rs (m + used) cols a.joins = ap (take total) f ∙ gates_after t rs a m gates used nets total y in
    let main = computes op u bits t rs l k a m (take used gates) nets o y.columns (subst (λ n. All (λ k. k < m + n) cols) (sym size) y.below) in
    subst (λ z. Computes op u bits (length rs) a m (take used gates) nets z ns) (sym after)
    (subst (λ z. Computes op u bits (length rs) a m (take used gates) nets (take used gates ++ appended t rs (m + used) cols a.joins) z) (sym g)
    (subst (λ n. Computes op u bits (length rs) a m (take used gates) nets (take used gates ++ appended t rs (m + n) cols a.joins) (wired t rs (m + n) cols a.joins)) size main))

-- the last check refuses, where all others pass
pub admit_short : (t : List TemplateGate) (rs : List Pin) (a : Account) (m : ℕ) (gates : List Gate) (used : ℕ) (nets : List ℕ)
    → m ≤ 1024 → used ≤ length gates → used ≤ 1048576 → length nets ≡ nodes a * length rs → used ≤ good_from m (take used gates)
    → a.columns * length rs ≤ prefix_len (λ k. ltb k (m + used)) (column_nets rs a nets) → (ltb (length gates) (grown_to t a used) || ltb 1048576 (grown_to t a used)) ≡ true
    → refusal (Short Gates) ≡ admitted t rs a m gates used nets
admit_short t rs a m gates used nets c d e f g h i =
    rw (
      le-ltb 1024 m c,
      le-ltb (length gates) used d,
      le-ltb 1048576 used e,
      eq-eqb (length nets) (nodes a * length rs) f,
      le-ltb (good_from m (take used gates)) used g,
      le-ltb (prefix_len (λ k. ltb k (m + used)) (column_nets rs a nets)) (a.columns * length rs) h,
      i,
    )

pub expanded_ok : (t : List TemplateGate) (rs : List Pin) (a : Account) (m : ℕ) (gates : List Gate) (used : ℕ) (nets : List ℕ) (total : ℕ) (gs : List Gate) (ns : List ℕ)
    → number total ≡ admitted t rs a m gates used nets → gs ≡ written gates used (appended t rs (m + used) (column_nets rs a nets) a.joins)
    → ns ≡ wired t rs (m + used) (column_nets rs a nets) a.joins → (number total, gs, ns) ≡ expanded t rs a m gates used nets
expanded_ok t rs a m gates used nets total gs ns e f g =
    let new : List Gate × List ℕ = (written gates used (appended t rs (m + used) (column_nets rs a nets) a.joins), wired t rs (m + used) (column_nets rs a nets) a.joins) in
    let both : (number total, gs, ns) ≡ tables (number total) new (gates, nets) = cc in
    both ∙ ap (λ r. tables r new (gates, nets)) e

-- the tables after a number are the new ones
pub number_tables : (r : Answer) (new old : List Gate × List ℕ) (total : ℕ) (gs : List Gate) (ns : List ℕ) → tables r new old ≡ (number total, gs, ns)
    → (number total ≡ r) × (gs ≡ new.0) × (ns ≡ new.1)
number_tables (number n) new old total gs ns e =
    (sym (ap (λ (p : Answer × List Gate × List ℕ). p.0) e), sym (ap (λ (p : Answer × List Gate × List ℕ). p.1) e), sym (ap (λ (p : Answer × List Gate × List ℕ). p.2) e))
number_tables done new old total gs ns e =
    let f : done ≡ number total = ap (λ (p : Answer × List Gate × List ℕ). p.0) e in
    absurd cc
number_tables (refused k vs) new old total gs ns e =
    let f : refused k vs ≡ number total = ap (λ (p : Answer × List Gate × List ℕ). p.0) e in
    absurd cc

pub expansion_computes : {E : Type 0} (op : E → E → E) (u : E) (bits : E → List ℕ) (t : List TemplateGate) (rs : List Pin) (l : Monoid op u) (k : Templated op bits t rs)
    (a : Account) (m : ℕ) (gates : List Gate) (used : ℕ) (nets : List ℕ) (total : ℕ) (gs : List Gate) (ns : List ℕ) → Ordered a.columns a.joins
    → expanded t rs a m gates used nets ≡ (number total, gs, ns) → Computes op u bits (length rs) a m (take used gates) nets (take total gs) ns
expansion_computes op u bits t rs l k a m gates used nets total gs ns o e =
    let new : List Gate × List ℕ = (written gates used (appended t rs (m + used) (column_nets rs a nets) a.joins), wired t rs (m + used) (column_nets rs a nets) a.joins) in
    let p = number_tables (admitted t rs a m gates used nets) new (gates, nets) total gs ns e in
    computed op u bits t rs l k a m gates used nets total gs ns o p.0 p.1 p.2

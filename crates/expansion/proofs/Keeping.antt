-- The gates appended keep their rule, and the nets of all nodes stand.
use Rattle.std.proofs.Common.{◌≡◌, ℕ, ◌+◌, ◌*◌, ◌<◌, true, List, [], ◌∷◌, ◌++◌, map, length, take, All, sym, refl, ap, ◌∙◌, subst, add-zero, add_assoc, add-mul, arith}
use Rattle.std.proofs.lemmas.List.Elements.{All-append, All-weaker}
use Rattle.std.proofs.lemmas.List.{length-append, length-map, length-take-le}
use Rattle.std.proofs.lemmas.Bool.{false≢true, and_parts}
use Rattle.std.proofs.lemmas.Bool.Decides.{nat_tests}
use Rattle.account.specs.Words.{Pair, Ordered}
use Rattle.account.specs.Account.{Account}
use Rattle.netlist.specs.declared.gate.Gate.{Gate}
use Rattle.netlist.specs.Gates.{good, good_from}
use Rattle.netlist.specs.Refusals.{number}
use Rattle.netlist.proofs.Rules.{good_le, good_cons, good_append}
use Rattle.kinds.specs.declared.template.TemplateGate.{TemplateGate}
use Rattle.kinds.specs.declared.template.TemplateGate.TheVariants.{Zero, One, Two}
use Rattle.kinds.specs.declared.template.Pin.{Pin}
use Rattle.kinds.specs.Template.{keeps, formed}
use Rattle.expansion.specs.Expansion.{net, placed, nets_of, gates_for, nets_for, appended, wired, written, column_nets, admitted, Stands}
use Rattle.kinds.proofs.Ranges.{reads_one, reads_two}
use Rattle.expansion.proofs.Templates.{Under, Operands, net_under, results_under}
use Rattle.expansion.proofs.Showing.{Templated, operands, ordered_rest}
use Rattle.expansion.proofs.Appending.{length_appended}
use Rattle.expansion.proofs.Admitting.{admits, gates_after}

-- a gate of one or two operands that stand, with a table for them
good_one : (s : ℕ) (g : Gate) → g.arity ≡ 1 → g.table < 4 → g.a < s → g.b ≡ 0 → good s g ≡ true
unfolding good
good_one s g e h i j = grind (arith, nat_tests)

good_two : (s : ℕ) (g : Gate) → g.arity ≡ 2 → g.table < 16 → g.a < s → g.b < s → good s g ≡ true
unfolding good
good_two s g e h i j = grind (arith, nat_tests)

gate_good : (low high : List ℕ) (base w k : ℕ) (g : TemplateGate) → Operands base w low high → keeps w k g ≡ true
    → good (base + k) (placed low high base g) ≡ true
gate_good low high base w k Zero both o = absurd (false≢true o)
gate_good low high base w k (One t p) both o =
    let r = reads_one w k t p o in
    good_one (base + k) (placed low high base (One t p)) refl r.table (net_under low high base w k p both r.first) refl
gate_good low high base w k (Two t p q) both o =
    let r = reads_two w k t p q o in
    good_two (base + k) (placed low high base (Two t p q)) refl r.table
    (net_under low high base w k p both r.first) (net_under low high base w k q both r.second)

gates_good : (low high : List ℕ) (base w k : ℕ) (gs : List TemplateGate) → Operands base w low high → formed w k gs ≡ true
    → good_from (base + k) (map (placed low high base) gs) ≡ length (map (placed low high base) gs)
gates_good low high base w k [] both o = refl
gates_good low high base w k (g ∷ gs) both o =
    let q = and_parts (keeps w k g) (formed w (k + 1) gs) o in
    good_cons (base + k) (placed low high base g) (map (placed low high base) gs) (gate_good low high base w k g both q.0)
    (ap (λ n. good_from n (map (placed low high base) gs)) (add_assoc base k 1) ∙ gates_good low high base w (k + 1) gs both q.1)

pub stand_all : {E : Type 0} (op : E → E → E) (bits : E → List ℕ) (t : List TemplateGate) (rs : List Pin) (k : Templated op bits t rs) (base n : ℕ) (nets : List ℕ) (ps : List Pair)
    → length nets ≡ n * length rs → Under base nets → Ordered n ps
    → (good_from base (appended t rs base nets ps) ≡ length (appended t rs base nets ps)) × Under (base + length ps * length t) (wired t rs base nets ps)
stand_all op bits t rs k base n nets [] e u o = (refl, All-weaker (λ k. k < base) (λ k. k < base + 0 * length t) (λ k h. omega arith) nets u)
stand_all op bits t rs k base n nets (p ∷ ps) e u o =
    let w : ℕ = length rs in
    let first = o 0 (omega arith) in
    let low : List ℕ = nets_of w nets p.0 in let high : List ℕ = nets_of w nets p.1 in
    let both : Operands base w low high = operands base w n nets p e u (omega (arith, first.0)) (omega (arith, first.1)) in
    let G : List Gate = gates_for t rs base nets p in
    let N : List ℕ = nets_for rs base nets p in
    let G-long : length G ≡ length t = length-map t (placed low high base) in
    let N-long : length N ≡ w = length-map rs (net low high base) in
    let long : length (nets ++ N) ≡ (n + 1) * w = length-append nets N ∙ omega (arith, add-mul n 1 w) in
    let under : Under (base + length t) (nets ++ N) =
    All-append (λ k. k < base + length t) nets N (All-weaker (λ k. k < base) (λ k. k < base + length t) (λ k h. omega arith) nets u)
    (results_under low high base w (length t) rs both k.reaching) in
    let rest = stand_all op bits t rs k (base + length t) (n + 1) (nets ++ N) ps long under (ordered_rest n p ps o) in
    let here : good_from base G ≡ length G =
    ap (λ b. good_from b G) (sym (add-zero base)) ∙ gates_good low high base w 0 t both k.formed in
    let next : good_from (base + length G) (appended t rs (base + length t) (nets ++ N) ps) ≡ length (appended t rs (base + length t) (nets ++ N) ps) =
    ap (λ l. good_from (base + l) (appended t rs (base + length t) (nets ++ N) ps)) G-long ∙ rest.0 in (
      good_append base G (appended t rs (base + length t) (nets ++ N) ps) here next,
      All-weaker (λ k. k < base + length t + length ps * length t) (λ k. k < base + length (p ∷ ps) * length t)
          (λ k h. omega (arith, add-mul (length ps) 1 (length t))) (wired t rs (base + length t) (nets ++ N) ps) rest.1,
    )

-- an accepted expansion leaves gates that keep their rule, and nets that stand
pub stands : {E : Type 0} (op : E → E → E) (bits : E → List ℕ) (t : List TemplateGate) (rs : List Pin) (k : Templated op bits t rs)
    (a : Account) (m : ℕ) (gates : List Gate) (used : ℕ) (nets : List ℕ) (total : ℕ) (gs : List Gate) (ns : List ℕ) → Ordered a.columns a.joins → number total ≡ admitted t rs a m gates used nets
    → gs ≡ written gates used (appended t rs (m + used) (column_nets rs a nets) a.joins) → ns ≡ wired t rs (m + used) (column_nets rs a nets) a.joins → Stands m total gs ns
stands op bits t rs k a m gates used nets total gs ns o e f g =
    let cols : List ℕ = column_nets rs a nets in
    let app : List Gate = appended t rs (m + used) cols a.joins in
    let y = admits t rs a m gates used nets total e in
    let size : length (take used gates) ≡ used = length-take-le used gates y.slots in
    let more : length app ≡ length a.joins * length t = length_appended t rs (m + used) cols a.joins in
    let r = stand_all op bits t rs k (m + used) a.columns cols a.joins (length-take-le (a.columns * length rs) nets y.columns) y.below o in
    let before : good_from m (take used gates) ≡ length (take used gates) = omega (arith, y.kept, size, good_le m (take used gates)) in
    let all : good_from m (take used gates ++ app) ≡ length (take used gates ++ app) =
    good_append m (take used gates) app before (ap (λ n. good_from (m + n) app) size ∙ r.0) in
    record {
      gates = ap (good_from m) (ap (take total) f ∙ gates_after t rs a m gates used nets total y) ∙ all ∙ length-append (take used gates) app ∙ omega (arith, size, more, y.answered);
      nets = subst (λ z. All (λ k. k < m + total) z) (sym g)
          (All-weaker (λ k. k < m + used + length a.joins * length t) (λ k. k < m + total) (λ k h. omega (arith, y.answered)) (wired t rs (m + used) cols a.joins) r.1);
    }

-- A template placed over nets has the values that it has over the bits that the nets show.
use Rattle.std.proofs.Common.{◌≡◌, ℕ, ◌+◌, ◌<◌, true, List, [], ◌∷◌, ◌++◌, map, length, get_or, fold, All, sym, refl, ap, ◌∙◌, arith}
use Rattle.std.proofs.lemmas.List.Elements.{All-nil, All-cons, All-get_or}
use Rattle.std.proofs.lemmas.List.{append-nil, append_assoc, get_or_append_left, get_or-append-add, get_or-map, length_push}
use Rattle.std.proofs.lemmas.Bool.{false≢true, ltb-true, and_parts}
use Rattle.netlist.specs.Gates.{row_value}
use Rattle.netlist.specs.Signals.{signals}
use Rattle.netlist.specs.Signals as signal
use Rattle.kinds.specs.declared.template.TemplateGate.{TemplateGate}
use Rattle.kinds.specs.declared.template.TemplateGate.TheVariants.{Zero, One, Two}
use Rattle.kinds.specs.declared.template.Pin.{Pin}
use Rattle.kinds.specs.declared.template.Pin.TheVariants.{Low, High, Inner}
use Rattle.kinds.proofs.Ranges.{reads_one, reads_two}
use Rattle.kinds.specs.Template.{evaluated, pin, gate, next, within, keeps, formed, reach}
use Rattle.expansion.specs.Expansion.{net, placed, values}

-- nets below n
abbrev pub Under : ℕ → List ℕ → Type 0
Under n nets = All (λ k. k < n) nets

-- the nets of two operands: w each, below n
pub record Operands (n w : ℕ) (low high : List ℕ) : Type 0 where
  pub low_wide : length low ≡ w
  pub high_wide : length high ≡ w
  pub low_under : Under n low
  pub high_under : Under n high

reads_net : (s inner nets : List ℕ) (k : ℕ) → Under (length s) nets → k < length nets → get_or (s ++ inner) (get_or nets k 0) 0 ≡ get_or (values s nets) k 0
reads_net s inner nets k b h =
    get_or_append_left s inner 0 (get_or nets k 0) (All-get_or (λ k. k < length s) nets k 0 h b) ∙ sym (get_or-map (λ j. get_or s j 0) nets k 0 0 h)

reads_pin : (s inner low high : List ℕ) (w k : ℕ) (p : Pin) → Operands (length s) w low high → within w k p ≡ true
    → get_or (s ++ inner) (net low high (length s) p) 0 ≡ pin (values s low) (values s high) inner p
reads_pin s inner low high w k (Low j) both h = reads_net s inner low j both.low_under (omega (arith, ltb-true j w h))
reads_pin s inner low high w k (High j) both h = reads_net s inner high j both.high_under (omega (arith, ltb-true j w h))
reads_pin s inner low high w k (Inner j) both h = get_or-append-add s inner j 0

-- a placed gate shows what the template's gate does
reads_gate : (s inner low high : List ℕ) (w k : ℕ) (g : TemplateGate) → Operands (length s) w low high → keeps w k g ≡ true
    → signal.next (s ++ inner) (placed low high (length s) g) ≡ (s ++ inner) ++ gate (values s low) (values s high) inner g ∷ []
reads_gate s inner low high w k Zero both h = absurd (false≢true h)
reads_gate s inner low high w k (One t p) both h =
    ap (λ x. (s ++ inner) ++ row_value 1 t x 0 ∷ []) (reads_pin s inner low high w k p both (reads_one w k t p h).first)
reads_gate s inner low high w k (Two t p q) both h =
    let r = reads_two w k t p q h in
    ap (λ x. (s ++ inner) ++ row_value 2 t x (get_or (s ++ inner) (net low high (length s) q) 0) ∷ []) (reads_pin s inner low high w k p both r.first)
    ∙ ap (λ x. (s ++ inner) ++ row_value 2 t (pin (values s low) (values s high) inner p) x ∷ []) (reads_pin s inner low high w k q both r.second)

one_more : (s inner low high : List ℕ) (w k : ℕ) (g : TemplateGate) → Operands (length s) w low high → keeps w k g ≡ true
    → signal.next (s ++ inner) (placed low high (length s) g) ≡ s ++ next (values s low) (values s high) inner g
one_more s inner low high w k g both h = reads_gate s inner low high w k g both h ∙ append_assoc s inner _

from : (s inner low high : List ℕ) (gates : List TemplateGate) (w k : ℕ) → Operands (length s) w low high → formed w k gates ≡ true
    → fold signal.next (s ++ inner) (map (placed low high (length s)) gates) ≡ s ++ fold (next (values s low) (values s high)) inner gates
from s inner low high [] w k both o = refl
from s inner low high (g ∷ gs) w k both o =
    let q = and_parts (keeps w k g) (formed w (k + 1) gs) o in
    ap (λ t. fold signal.next t (map (placed low high (length s)) gs)) (one_more s inner low high w k g both q.0)
    ∙ from s (next (values s low) (values s high) inner g) low high gs w (k + 1) both q.1

-- the signals after a placed template
pub placed_stands : (s low high : List ℕ) (gates : List TemplateGate) (w : ℕ) → Operands (length s) w low high → formed w 0 gates ≡ true
    → signals s (map (placed low high (length s)) gates) ≡ s ++ evaluated gates (values s low) (values s high)
placed_stands s low high gates w both o =
    ap (λ t. signals t (map (placed low high (length s)) gates)) (sym (append-nil s)) ∙ from s [] low high gates w 0 both o

length_from : (low high inner : List ℕ) (gates : List TemplateGate) → length (fold (next low high) inner gates) ≡ length inner + length gates
length_from low high inner [] = omega arith
length_from low high inner (g ∷ gs) = omega (arith, length_from low high (next low high inner g) gs, length_push inner (gate low high inner g))

pub length_evaluated : (gates : List TemplateGate) (low high : List ℕ) → length (evaluated gates low high) ≡ length gates
length_evaluated gates low high = omega (arith, length_from low high [] gates)

-- the values of the result's nets are what the result's pins show
pub results_show : (s inner low high : List ℕ) (rs : List Pin) (w k : ℕ) → Operands (length s) w low high → reach w k rs ≡ true
    → values (s ++ inner) (map (net low high (length s)) rs) ≡ map (pin (values s low) (values s high) inner) rs
results_show s inner low high [] w k both o = refl
results_show s inner low high (p ∷ rs) w k both o =
    let q = and_parts (within w k p) (reach w k rs) o in
    let here = reads_pin s inner low high w k p both q.0 in
    let rest = results_show s inner low high rs w k both q.1 in cc

pub net_under : (low high : List ℕ) (base w k : ℕ) (p : Pin) → Operands base w low high → within w k p ≡ true → net low high base p < base + k
net_under low high base w k (Low j) both h = omega (arith, All-get_or (λ k. k < base) low j 0 (omega (arith, ltb-true j w h)) both.low_under)
net_under low high base w k (High j) both h = omega (arith, All-get_or (λ k. k < base) high j 0 (omega (arith, ltb-true j w h)) both.high_under)
net_under low high base w k (Inner j) both h = omega (arith, ltb-true j k h)

-- the result's nets are signals of the placed template or before it
pub results_under : (low high : List ℕ) (base w k : ℕ) (rs : List Pin) → Operands base w low high → reach w k rs ≡ true
    → Under (base + k) (map (net low high base) rs)
results_under low high base w k [] both o = All-nil (λ j. j < base + k)
results_under low high base w k (p ∷ rs) both o =
    let q = and_parts (within w k p) (reach w k rs) o in
    All-cons (λ j. j < base + k) (net low high base p) (map (net low high base) rs)
    (net_under low high base w k p both q.0) (results_under low high base w k rs both q.1)

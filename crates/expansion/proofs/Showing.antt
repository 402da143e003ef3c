-- Join by join, the nets show the values of the nodes.
use Rattle.std.proofs.Common.{◌≡◌, ℕ, suc, ◌+◌, ◌*◌, ◌<◌, ◌≤◌, true, ltb, List, [], ◌∷◌, ◌++◌, length, get_or, take, drop, All, sym, refl, ap, ◌∙◌, subst, ⊎_elim, mul-le-mul_right, add-mul, arith}
use Rattle.std.specs.List.{prefix_len}
use Rattle.std.proofs.lemmas.List.Elements.{All-from_get_or, All-head, All-tail, All-append, All-take, All-drop, All-weaker}
use Rattle.std.proofs.lemmas.List.{get_or_append_left, get_or_push, length-append, length_push, length-map, length-drop, length-take-le, take_all, take_at, take-append-le, drop_at, drop-append-le}
use Rattle.std.proofs.lemmas.Bool.{cases_eq, ltb-true}
use Rattle.std.proofs.lemmas.List.Sums.{prefix_len_passes}
use Rattle.account.specs.Words.{Pair, Ordered}
use Rattle.account.specs.Account.{Account}
use Rattle.netlist.specs.declared.gate.Gate.{Gate}
use Rattle.netlist.specs.Signals.{signals}
use Rattle.netlist.proofs.Steps.{signals_append, signals_kept, length_signals}
use Rattle.kinds.specs.declared.template.TemplateGate.{TemplateGate}
use Rattle.kinds.specs.declared.template.Pin.{Pin}
use Rattle.kinds.specs.Template.{evaluated, shown, formed, reach}
use Rattle.scan.specs.Values.{valued}
use Rattle.expansion.specs.Expansion.{nets_of, net, gates_for, nets_for, appended, wired, column_nets, values, Shows, Computes}
use Rattle.scan.proofs.Products.{Monoid, value_word}
use Rattle.expansion.proofs.Placing.{slots_take}
use Rattle.expansion.proofs.Templates.{Under, Operands, placed_stands, length_evaluated, results_show, results_under}

-- what a kind promises of its template
pub record Templated {E : Type 0} (op : E → E → E) (bits : E → List ℕ) (t : List TemplateGate) (rs : List Pin) : Type 0 where
  pub wide : (x : E) → length (bits x) ≡ length rs
  pub template : (l h : E) → shown t rs (bits l) (bits h) ≡ bits (op l h)
  pub formed : formed (length rs) 0 t ≡ true
  pub reaching : reach (length rs) (length t) rs ≡ true

-- node v's slots lie among those of n nodes
pub row_in : (v n w : ℕ) → v < n → v * w + w ≤ n * w
row_in v n w h =
    let le : v + 1 ≤ n = omega arith in
    omega (arith, mul-le-mul_right w le, add-mul v 1 w)

values_kept : (s more nets : List ℕ) → Under (length s) nets → values (s ++ more) nets ≡ values s nets
values_kept s more [] b = refl
values_kept s more (k ∷ ks) b =
    let here = get_or_append_left s more 0 k (All-head (λ j. j < length s) k ks b) in
    let rest = values_kept s more ks (All-tail (λ j. j < length s) k ks b) in cc

pub nets_before : (w v : ℕ) (nets more : List ℕ) → v * w + w ≤ length nets → nets_of w (nets ++ more) v ≡ nets_of w nets v
nets_before w v nets more h =
    ap (take w) (drop-append-le (v * w) nets more (omega arith))
    ∙ take-append-le w (drop (v * w) nets) more (omega (arith, length-drop (v * w) nets))

pub nets_new : (w v : ℕ) (nets more : List ℕ) → length nets ≡ v * w → length more ≡ w → nets_of w (nets ++ more) v ≡ more
nets_new w v nets more e f = ap (take w) (drop_at nets more (v * w) e) ∙ take_all w more (omega arith)

pub length_nets : (w v : ℕ) (nets : List ℕ) → v * w + w ≤ length nets → length (nets_of w nets v) ≡ w
length_nets w v nets h = length-take-le w (drop (v * w) nets) (omega (arith, length-drop (v * w) nets))

under_nets : (n w v : ℕ) (nets : List ℕ) → Under n nets → Under n (nets_of w nets v)
under_nets n w v nets u = All-take (λ k. k < n) w (drop (v * w) nets) (All-drop (λ k. k < n) (v * w) nets u)

-- the operands of a join, among the nets of the count nodes before it
pub operands : (n w count : ℕ) (nets : List ℕ) (p : Pair) → length nets ≡ count * w → Under n nets → p.0 < count → p.1 < count → Operands n w (nets_of w nets p.0) (nets_of w nets p.1)
operands n w count nets p e u a b = record {
  low_wide = length_nets w p.0 nets (omega (arith, row_in p.0 count w a));
  high_wide = length_nets w p.1 nets (omega (arith, row_in p.1 count w b));
  low_under = under_nets n w p.0 nets u;
  high_under = under_nets n w p.1 nets u;
}

-- the signals below nets show the elements xs, and the nets stand
pub record Carries {E : Type 0} (bits : E → List ℕ) (u : E) (w : ℕ) (s nets : List ℕ) (xs : List E) : Type 0 where
  pub long : length nets ≡ length xs * w
  pub below : Under (length s) nets
  pub shows : Shows bits u w s nets xs

pub carries_more : {E : Type 0} (op : E → E → E) (u : E) (bits : E → List ℕ) (t : List TemplateGate) (rs : List Pin) (k : Templated op bits t rs)
    (s nets : List ℕ) (xs : List E) (p : Pair) → Carries bits u (length rs) s nets xs → p.0 < length xs → p.1 < length xs
    → Carries bits u (length rs) (signals s (gates_for t rs (length s) nets p)) (nets ++ nets_for rs (length s) nets p) (xs ++ op (get_or xs p.0 u) (get_or xs p.1 u) ∷ [])
    × (length (signals s (gates_for t rs (length s) nets p)) ≡ length s + length t)
carries_more {E} op u bits t rs k s nets xs p was a b =
    let w : ℕ = length rs in
    let x : E = get_or xs p.0 u in let y : E = get_or xs p.1 u in
    let low : List ℕ = nets_of w nets p.0 in let high : List ℕ = nets_of w nets p.1 in
    let both : Operands (length s) w low high = operands (length s) w (length xs) nets p was.long was.below a b in
    let inner : List ℕ = evaluated t (values s low) (values s high) in
    let new : List ℕ = nets_for rs (length s) nets p in
    let stands : signals s (gates_for t rs (length s) nets p) ≡ s ++ inner = placed_stands s low high t w both k.formed in
    let size : length inner ≡ length t = length_evaluated t (values s low) (values s high) in
    let news : values (s ++ inner) new ≡ bits (op x y) =
    results_show s inner low high rs w (length t) both k.reaching
    ∙ ap (λ l. shown t rs l (values s high)) (was.shows p.0 a)
    ∙ ap (λ l. shown t rs (bits x) l) (was.shows p.1 b)
    ∙ k.template x y in
    let wide : length new ≡ w = length-map rs (net low high (length s)) in
    let sized : length s + length t ≡ length (s ++ inner) = omega (arith, length-append s inner) in
    let one : (length xs + 1) * w ≡ length xs * w + w = omega (arith, add-mul (length xs) 1 w) in
    let after : Carries bits u w (s ++ inner) (nets ++ new) (xs ++ op x y ∷ []) = record {
      long = length-append nets new ∙ omega (arith, was.long) ∙ sym one ∙ ap (λ n. n * w) (sym (length_push xs (op x y)));
      below = All-append (λ k. k < length (s ++ inner)) nets new
          (All-weaker (λ k. k < length s) (λ k. k < length (s ++ inner)) (λ k h. omega (arith, length-append s inner)) nets was.below)
          (subst (λ n. Under n new) sized (results_under low high (length s) w (length t) rs both k.reaching));
      shows = λ v h. ⊎_elim
          (λ (g : v ≡ length xs).
          ap (values (s ++ inner)) (nets_new w v nets new (was.long ∙ ap (λ n. n * w) (sym g)) wide)
          ∙ news
          ∙ ap bits (sym (get_or_push xs (op x y) u v (sym g))))
          (λ (g : v ≡ length xs → ⊥).
          let lt : v < length xs = omega (arith, length_push xs (op x y)) in
          ap (values (s ++ inner)) (nets_before w v nets new (omega (arith, row_in v (length xs) w lt, was.long)))
          ∙ values_kept s inner (nets_of w nets v) (under_nets (length s) w v nets was.below)
          ∙ was.shows v lt
          ∙ ap bits (sym (get_or_append_left xs (op x y ∷ []) u v lt)))
          (cases_eq v (length xs));
    } in (
      subst (λ z. Carries bits u w z (nets ++ new) (xs ++ op x y ∷ [])) (sym stands) after,
      ap length stands ∙ length-append s inner ∙ ap (λ n. length s + n) size,
    )

pub ordered_rest : (n : ℕ) (p : Pair) (ps : List Pair) → Ordered n (p ∷ ps) → Ordered (n + 1) ps
ordered_rest n p ps o r h =
    let q = o (suc r) (omega arith) in
    (omega (arith, q.0), omega (arith, q.1))

pub carries_all : {E : Type 0} (op : E → E → E) (u : E) (bits : E → List ℕ) (t : List TemplateGate) (rs : List Pin) (k : Templated op bits t rs)
    (s nets : List ℕ) (xs : List E) (base : ℕ) (ps : List Pair) → base ≡ length s → Carries bits u (length rs) s nets xs → Ordered (length xs) ps
    → Carries bits u (length rs) (signals s (appended t rs base nets ps)) (wired t rs base nets ps) (valued op u xs ps)
carries_all op u bits t rs k s nets xs base [] e was o = was
carries_all {E} op u bits t rs k s nets xs base (p ∷ ps) e was o =
    let first = o 0 (omega arith) in
    let z : E = op (get_or xs p.0 u) (get_or xs p.1 u) in
    let step = carries_more op u bits t rs k s nets xs p was (omega (arith, first.0)) (omega (arith, first.1)) in
    let here : List ℕ = signals s (gates_for t rs (length s) nets p) in
    let more : List ℕ = nets ++ nets_for rs (length s) nets p in
    let next : ℕ = length s + length t in
    let o' : Ordered (length (xs ++ z ∷ [])) ps = subst (λ n. Ordered n ps) (sym (length_push xs z)) (ordered_rest (length xs) p ps o) in
    let rest : Carries bits u (length rs) (signals here (appended t rs next more ps)) (wired t rs next more ps) (valued op u (xs ++ z ∷ []) ps) =
    carries_all op u bits t rs k here more (xs ++ z ∷ []) next ps (sym step.1) step.0 o' in
    let whole : Carries bits u (length rs) (signals s (appended t rs (length s) nets (p ∷ ps))) (wired t rs (length s) nets (p ∷ ps)) (valued op u xs (p ∷ ps)) =
    subst (λ l. Carries bits u (length rs) l (wired t rs next more ps) (valued op u (xs ++ z ∷ []) ps))
    (sym (signals_append s (gates_for t rs (length s) nets p) (appended t rs next more ps))) rest in
    subst (λ b. Carries bits u (length rs) (signals s (appended t rs b nets (p ∷ ps))) (wired t rs b nets (p ∷ ps)) (valued op u xs (p ∷ ps))) (sym e) whole

length_valued : {E : Type 0} (op : E → E → E) (u : E) (xs : List E) (ps : List Pair) → length (valued op u xs ps) ≡ length xs + length ps
length_valued op u xs [] = omega arith
length_valued op u xs (p ∷ ps) =
    let z = op (get_or xs p.0 u) (get_or xs p.1 u) in
    omega (arith, length_valued op u (xs ++ z ∷ []) ps, length_push xs z)

pub leading_all : (n : ℕ) (ks : List ℕ) → prefix_len (λ k. ltb k n) ks ≡ length ks → All (λ k. k < n) ks
leading_all n ks e = All-from_get_or (λ k. k < n) ks 0 (λ i h. ltb-true (get_or ks i 0) n (prefix_len_passes (λ k. ltb k n) ks i 0 (omega (arith, e))))

-- the gates appended compute the products over the words
pub computes : {E : Type 0} (op : E → E → E) (u : E) (bits : E → List ℕ) (t : List TemplateGate) (rs : List Pin) (l : Monoid op u) (k : Templated op bits t rs)
    (a : Account) (m : ℕ) (before : List Gate) (nets : List ℕ) → Ordered a.columns a.joins → a.columns * length rs ≤ length nets
    → All (λ k. k < m + length before) (column_nets rs a nets)
    → Computes op u bits (length rs) a m before nets
    (before ++ appended t rs (m + length before) (column_nets rs a nets) a.joins) (wired t rs (m + length before) (column_nets rs a nets) a.joins)
computes {E} op u bits t rs l k a m before nets o h b inputs xs given =
    let e : length inputs ≡ m = given.long in let f : length xs ≡ a.columns = given.wide in
    let s : List ℕ = signals inputs before in
    let cols : List ℕ = column_nets rs a nets in
    let base : ℕ = m + length before in
    let size : base ≡ length s = omega (arith, length_signals inputs before) in
    let app : List Gate = appended t rs base cols a.joins in
    let columns-kept : (v : ℕ) → v < length xs → nets_of (length rs) cols v ≡ nets_of (length rs) nets v =
    λ v lt. slots_take (length rs) (v * length rs) (a.columns * length rs) nets (row_in v a.columns (length rs) (omega arith)) in
    let start : Carries bits u (length rs) s cols xs = record {
      long = length-take-le (a.columns * length rs) nets h ∙ ap (λ n. n * length rs) (sym f);
      below = subst (λ n. All (λ k. k < n) cols) size b;
      shows = λ v lt. ap (values s) (columns-kept v lt) ∙ given.shows v lt;
    } in
    let end : Carries bits u (length rs) (signals s app) (wired t rs base cols a.joins) (valued op u xs a.joins) =
    carries_all op u bits t rs k s cols xs base a.joins size start (subst (λ n. Ordered n a.joins) (sym f) o) in
    let all : signals inputs (before ++ app) ≡ signals s app = signals_append inputs before app in
    let more = signals_kept s app in (
      ap (take base) (all ∙ more.1) ∙ take_at s more.0 base (sym size),
      λ v lt.
          ap (λ z. values z (nets_of (length rs) (wired t rs base cols a.joins) v)) all
          ∙ end.shows v (omega (arith, length_valued op u xs a.joins))
          ∙ ap bits (value_word op u l xs a.columns a.joins v f),
    )

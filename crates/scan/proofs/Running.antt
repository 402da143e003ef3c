-- One join more: the values so far, and the joins left, give all values.
use Rattle.std.proofs.Common.{◌≡◌, ℕ, ◌+◌, ◌<◌, ◌≤◌, List, [], ◌∷◌, ◌++◌, map, length, get_or, take, drop, set, sym, ap, ◌∙◌, add-zero, add_assoc, arith}
use Rattle.std.proofs.lemmas.List.{take_at, take_all, get_or-map, get_or-take, take_more_set, at_drop_more, at_drop_all}
use Rattle.std.proofs.lemmas.Bool.{eq-eqb}
use Rattle.account.specs.Words.{Pair}
use Rattle.account.specs.Account.{Account, nodes}
use Rattle.netlist.specs.Refusals.{done}
use Rattle.sheet.specs.Spans.{at, blank, pair_of}
use Rattle.sheet.specs.declared.node.Node.{Node}
use Rattle.scan.specs.Values.{valued, ran}

-- the operands of a join, by its node
pub pair_is : (ds : List Node) (ps : List Pair) (r : ℕ) → map pair_of ds ≡ ps → r < length ds → pair_of (at ds r) ≡ get_or ps r (0, 0)
pair_is ds ps r e h = sym (get_or-map pair_of ds r blank (0, 0) h) ∙ ap (λ (qs : List Pair). get_or qs r (0, 0)) e

-- the values vs of the first n + r nodes, with the joins from r on, give the values of all
abbrev pub Filled : {E : Type 0} → (E → E → E) → E → List E → List Pair → List E → ℕ → Type 0
Filled op u xs ps vs r = valued op u (take (length xs + r) vs) (drop r ps) ≡ valued op u xs ps

pub filled_none : {E : Type 0} (op : E → E → E) (u : E) (xs : List E) (ps : List Pair) (ys zs : List E) → ys ≡ xs → Filled op u xs ps (ys ++ zs) 0
filled_none op u xs ps ys zs e =
    ap (λ k. valued op u (take k (ys ++ zs)) ps) (add-zero (length xs))
    ∙ ap (λ l. valued op u l ps) (take_at ys zs (length xs) (ap length e) ∙ e)

pub filled_more : {E : Type 0} (op : E → E → E) (u : E) (xs : List E) (ps : List Pair) (vs : List E) (r : ℕ) (p : Pair) (x y z : E)
    → r < length ps → length xs + r < length vs → p ≡ get_or ps r (0, 0) → p.0 < length xs + r → p.1 < length xs + r
    → x ≡ get_or vs p.0 u → y ≡ get_or vs p.1 u → z ≡ op x y
    → Filled op u xs ps vs r → Filled op u xs ps (set vs (length xs + r) z) (r + 1)
filled_more op u xs ps vs r p x y z h room e a b f g i was =
    let n : ℕ = length xs + r in
    ap (λ k. valued op u (take k (set vs n z)) (drop (r + 1) ps)) (sym (add_assoc (length xs) r 1))
    ∙ ap (λ l. valued op u l (drop (r + 1) ps)) (take_more_set vs n z room)
    ∙ ap (λ t. valued op u (take n vs ++ t ∷ []) (drop (r + 1) ps)) i
    ∙ ap (λ z. valued op u (take n vs ++ op z y ∷ []) (drop (r + 1) ps)) (f ∙ sym (get_or-take n vs p.0 u a))
    ∙ ap (λ z. valued op u (take n vs ++ op (get_or (take n vs) p.0 u) z ∷ []) (drop (r + 1) ps)) (g ∙ sym (get_or-take n vs p.1 u b))
    ∙ ap (λ q. valued op u (take n vs) (q ∷ drop (r + 1) ps)) e
    ∙ sym (at_drop_more (λ l. valued op u (take n vs) l) ps r (0, 0) h)
    ∙ was

pub filled_all : {E : Type 0} (op : E → E → E) (u : E) (xs : List E) (ps : List Pair) (vs : List E) (r : ℕ)
    → length vs ≡ length xs + length ps → length ps ≤ r → Filled op u xs ps vs r → vs ≡ valued op u xs ps
filled_all op u xs ps vs r e h was =
    sym (take_all (length xs + r) vs (omega arith))
    ∙ sym (at_drop_all (λ l. valued op u (take (length xs + r) vs) l) ps r h)
    ∙ was

pub run_done : {E : Type 0} (op : E → E → E) (u : E) (a : Account) (xs vs ws : List E) → length xs ≡ a.columns → length vs ≡ nodes a
    → ws ≡ valued op u xs a.joins → (done, ws) ≡ ran op u a xs vs
run_done op u a xs vs ws e f g = rw (eq-eqb (length xs) a.columns e, eq-eqb (length vs) (nodes a) f, g)

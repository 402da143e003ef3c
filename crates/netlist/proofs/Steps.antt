-- One gate more: the values so far are the signals so far.
use Rattle.std.proofs.Common.{◌≡◌, ℕ, ◌+◌, ◌<◌, ◌≤◌, true, List, [], ◌∷◌, ◌++◌, length, get_or, take, drop, set, sym, refl, ap, ◌∙◌, add-zero, arith}
use Rattle.std.proofs.lemmas.List.{append-nil, append_assoc, length_push, length-take-le, get_or_push, take_at, take-append-drop, take_more_set, get_or-take, take_all}
use Rattle.std.proofs.lemmas.List.Sums.{fold_more}
use Rattle.netlist.specs.declared.gate.Gate.{Gate}
use Rattle.netlist.specs.Gates.{good, good_from, zero_gate}
use Rattle.netlist.specs.Signals.{value_over, next, signals, Settled}
use Rattle.netlist.proofs.Rules.{reads, value_same, good_at}

-- the values vs hold the signals below m + k
abbrev pub Holds : List ℕ → List Gate → List ℕ → ℕ → Type 0
Holds inputs gates vs k = take (length inputs + k) vs ≡ signals inputs (take k gates)

pub holds_none : (xs : List ℕ) (gates : List Gate) (ys zs : List ℕ) → ys ≡ xs → Holds xs gates (ys ++ zs) 0
holds_none xs gates ys zs e = rw add-zero (take_at ys zs (length xs) (ap length e) ∙ e)

-- a good gate has the same value over the signals below its own as over a list that begins with them
pub value_front : (n : ℕ) (vs : List ℕ) (g : Gate) → good n g ≡ true → value_over vs g ≡ value_over (take n vs) g
value_front n vs g s =
    let r = reads n g s in
    value_same g.arity g.table _ _ _ _ r.arity
    (λ z. sym (get_or-take n vs g.a 0 (r.first z)))
    (λ z. sym (get_or-take n vs g.b 0 (r.second z)))

pub holds_more :
    (inputs : List ℕ) (gates : List Gate) (vs : List ℕ) (k v : ℕ) (d : Gate)
    → k < length gates → length inputs + k < length vs
    → good (length inputs + k) (get_or gates k d) ≡ true
    → Holds inputs gates vs k
    → v ≡ value_over vs (get_or gates k d)
    → Holds inputs gates (set vs (length inputs + k) v) (k + 1)
holds_more inputs gates vs k v d h room s was e =
    let g : Gate = get_or gates k d in
    let n : ℕ = length inputs + k in
    let so : List ℕ = signals inputs (take k gates) in
    let one : length inputs + (k + 1) ≡ n + 1 = omega arith in
    ap (λ m. take m (set vs n v)) one
    ∙ take_more_set vs n v room
    ∙ ap (λ l. l ++ v ∷ []) was
    ∙ ap (λ x. so ++ x ∷ []) (e ∙ value_front n vs g s ∙ ap (λ l. value_over l g) was)
    ∙ sym (fold_more next inputs gates k d h)

pub holds_all : (inputs : List ℕ) (gates : List Gate) (vs : List ℕ) (k : ℕ) → length vs ≡ length inputs + length gates → k ≡ length gates → Holds inputs gates vs k → vs ≡ signals inputs gates
holds_all inputs gates vs k e f was =
    let a : length vs ≤ length inputs + k = omega arith in
    let b : length gates ≤ k = omega arith in
    sym (take_all (length inputs + k) vs a) ∙ was ∙ ap (signals inputs) (take_all k gates b)

pub signals_append : (s : List ℕ) (gs hs : List Gate) → signals s (gs ++ hs) ≡ signals (signals s gs) hs
signals_append s [] hs = refl
signals_append s (g ∷ gs) hs = signals_append (next s g) gs hs

-- more gates leave the signals before them
pub signals_kept : (s : List ℕ) (gs : List Gate) → (more : List ℕ) × (signals s gs ≡ s ++ more)
signals_kept s [] = ([], sym (append-nil s))
signals_kept s (g ∷ gs) =
    let x : ℕ = value_over s g in
    let r = signals_kept (s ++ x ∷ []) gs in
    (x ∷ r.0, r.1 ∙ append_assoc s (x ∷ []) r.0)

pub length_signals : (s : List ℕ) (gs : List Gate) → length (signals s gs) ≡ length s + length gs
length_signals s [] = omega arith
length_signals s (g ∷ gs) =
    let x : ℕ = value_over s g in
    omega (arith, length_signals (s ++ x ∷ []) gs, length_push s x)

signals_take : (inputs : List ℕ) (gates : List Gate) (k : ℕ) → k ≤ length gates → take (length inputs + k) (signals inputs gates) ≡ signals inputs (take k gates)
signals_take inputs gates k h =
    let so : List ℕ = signals inputs (take k gates) in
    let more = signals_kept so (drop k gates) in
    let size : length so ≡ length inputs + k = omega (arith, length_signals inputs (take k gates), length-take-le k gates h) in
    ap (λ gs. take (length inputs + k) (signals inputs gs)) (sym (take-append-drop k gates))
    ∙ ap (take (length inputs + k)) (signals_append inputs (take k gates) (drop k gates) ∙ more.1)
    ∙ take_at so more.0 (length inputs + k) size

-- the signals of good gates are settled
pub settles : (inputs : List ℕ) (gates : List Gate) → good_from (length inputs) gates ≡ length gates → Settled inputs gates (signals inputs gates)
settles inputs gates e = record {
  first = ap (λ n. take n (signals inputs gates)) (sym (add-zero (length inputs))) ∙ signals_take inputs gates 0 (omega arith);
  each = λ k h.
      let n : ℕ = length inputs + k in
      let all : List ℕ = signals inputs gates in
      let so : List ℕ = signals inputs (take k gates) in
      let g : Gate = get_or gates k zero_gate in
      let size : length so ≡ n = omega (arith, length_signals inputs (take k gates), length-take-le k gates (omega arith)) in
      let one : n + 1 ≡ length inputs + (k + 1) = omega arith in
      sym (get_or-take (n + 1) all n 0 (omega arith))
      ∙ ap (λ m. get_or (take m all) n 0) one
      ∙ ap (λ l. get_or l n 0) (signals_take inputs gates (k + 1) (omega arith) ∙ fold_more next inputs gates k zero_gate h)
      ∙ get_or_push so (value_over so g) 0 n size
      ∙ ap (λ l. value_over l g) (sym (signals_take inputs gates k (omega arith)))
      ∙ sym (value_front n all g (good_at (length inputs) gates e k zero_gate h));
}

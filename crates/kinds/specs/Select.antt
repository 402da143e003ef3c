-- Seven gates select one of four bits.
use Rattle.std.proofs.Common.{arith, rules, ◌∙◌}
use Rattle.std.specs.Prelude.{◌≡◌, ℕ, zero, suc, ◌<◌, List, ◌∷◌, refl}
use Rattle.netlist.specs.Gates.{row_value}
use Rattle.kinds.specs.Map.{entry_at, low_bit, high_bit}
use Rattle.kinds.specs.declared.elements.State.{State}
use Rattle.kinds.specs.declared.elements.State.TheVariants.{S0, S1, S2, S3}
use Rattle.kinds.specs.declared.elements.Map.{Map}

-- what holds of both bits holds of any
at_bit : (P : ℕ → Type 0) → P 0 → P 1 → (y : ℕ) → y < 2 → P y
at_bit P off on zero h = off
at_bit P off on (suc zero) h = on
at_bit P off on (suc (suc y)) h = absurd (omega arith)

and_off : (y : ℕ) → y < 2 → row_value 2 8 0 y ≡ 0
and_off = at_bit (λ y. row_value 2 8 0 y ≡ 0) refl refl

and_on : (y : ℕ) → y < 2 → row_value 2 8 1 y ≡ y
and_on = at_bit (λ y. row_value 2 8 1 y ≡ y) refl refl

or_left : (y : ℕ) → y < 2 → row_value 2 14 y 0 ≡ y
or_left = at_bit (λ y. row_value 2 14 y 0 ≡ y) refl refl

or_right : (y : ℕ) → y < 2 → row_value 2 14 0 y ≡ y
or_right = at_bit (λ y. row_value 2 14 0 y ≡ y) refl refl

abbrev any : ℕ → ℕ → ℕ → ℕ → ℕ
any p q r s = row_value 2 14 (row_value 2 14 (row_value 2 14 p q) r) s

abbrev select : ℕ → ℕ → ℕ → ℕ → ℕ → ℕ → ℕ
select u v a b c d =
    any (row_value 2 8 (row_value 2 8 (row_value 1 1 v 0) (row_value 1 1 u 0)) a)
    (row_value 2 8 (row_value 2 8 (row_value 1 1 v 0) u) b)
    (row_value 2 8 (row_value 2 8 v (row_value 1 1 u 0)) c)
    (row_value 2 8 (row_value 2 8 v u) d)

abbrev pick : State → ℕ → ℕ → ℕ → ℕ → ℕ
pick S0 a b c d = a
pick S1 a b c d = b
pick S2 a b c d = c
pick S3 a b c d = d

any_of : {p q r s p' q' r' s' : ℕ} → p ≡ p' → q ≡ q' → r ≡ r' → s ≡ s' → any p q r s ≡ any p' q' r' s'
any_of e f g h = cc

selects : (x : State) (a b c d : ℕ) → a < 2 → b < 2 → c < 2 → d < 2 → select (low_bit x) (high_bit x) a b c d ≡ pick x a b c d
selects S0 a b c d i j k l = simp (and_on, and_off, or_left)
selects S1 a b c d i j k l = simp (and_on, and_off, or_left, or_right)
selects S2 a b c d i j k l = simp (and_on, and_off, or_left, or_right)
selects S3 a b c d i j k l = simp (and_on, and_off, or_right)

pub low_small : (x : State) → low_bit x < 2
low_small x = search rules

pub high_small : (x : State) → high_bit x < 2
high_small x = search rules

low_pick : (x : State) (h : Map) → pick x (low_bit h.e0) (low_bit h.e1) (low_bit h.e2) (low_bit h.e3) ≡ low_bit (entry_at h x)
low_pick x h = search rules

high_pick : (x : State) (h : Map) → pick x (high_bit h.e0) (high_bit h.e1) (high_bit h.e2) (high_bit h.e3) ≡ high_bit (entry_at h x)
high_pick x h = search rules

pub selects_low : (x : State) (h : Map) → select (low_bit x) (high_bit x) (low_bit h.e0) (low_bit h.e1) (low_bit h.e2) (low_bit h.e3) ≡ low_bit (entry_at h x)
selects_low x h = selects x _ _ _ _ (low_small h.e0) (low_small h.e1) (low_small h.e2) (low_small h.e3) ∙ low_pick x h

pub selects_high : (x : State) (h : Map) → select (low_bit x) (high_bit x) (high_bit h.e0) (high_bit h.e1) (high_bit h.e2) (high_bit h.e3) ≡ high_bit (entry_at h x)
selects_high x h = selects x _ _ _ _ (high_small h.e0) (high_small h.e1) (high_small h.e2) (high_small h.e3) ∙ high_pick x h

pub and_then : {x y : ℕ} {xs ys : List ℕ} → x ≡ y → xs ≡ ys → (x ∷ xs) ≡ (y ∷ ys)
and_then e f = cc

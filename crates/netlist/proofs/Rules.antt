-- What a gate's rule gives, and how far the gates of a list keep it.
use Rattle.std.proofs.Common.{◌≡◌, ℕ, zero, suc, ◌+◌, ◌*◌, ◌/◌, ◌%◌, ◌^◌, ◌<◌, ◌≤◌, Bool, true, false, cond, List, [], ◌∷◌, ◌++◌, length, get_or, sym, refl, ap, ◌∙◌, add-zero, add_assoc, arith, pow_mono, drop}
use native.Mathlib.Nat.{div-eq_of_lt}
use Rattle.std.proofs.lemmas.List.{at_drop_more}
use Rattle.std.proofs.lemmas.Bool.Decides.{nat_tests}
use Rattle.netlist.specs.declared.gate.Gate.{Gate}
use Rattle.netlist.specs.Gates.{row_value, good, good_from}

-- A good gate reads signals below its own, and neither operand lies above it.
pub record Reads (s : ℕ) (g : Gate) : Type 0 where
  pub arity : g.arity ≤ 2
  pub first : 0 < g.arity → g.a < s
  pub second : 1 < g.arity → g.b < s
  pub within : (g.a ≤ s) × (g.b ≤ s)

pub reads : (s : ℕ) (g : Gate) → good s g ≡ true → Reads s g
unfolding good
reads s g e = record {
  arity = grind (arith, nat_tests);
  first = λ h. grind (arith, nat_tests);
  second = λ h. grind (arith, nat_tests);
  within = (grind (arith, nat_tests), grind (arith, nat_tests));
}

-- the same value where the operands in use are the same
pub value_same : (r t a b c d : ℕ) → r ≤ 2 → (0 < r → a ≡ c) → (1 < r → b ≡ d) → row_value r t a b ≡ row_value r t c d
value_same zero t a b c d h e f = refl
value_same (suc zero) t a b c d h e f = ap (λ n. (t / 2 ^ n) % 2) (e (omega arith))
value_same (suc (suc zero)) t a b c d h e f = ap (λ n. (t / 2 ^ (2 * n + b)) % 2) (e (omega arith)) ∙ ap (λ n. (t / 2 ^ (2 * c + n)) % 2) (f (omega arith))
value_same (suc (suc (suc r))) t a b c d h e f = absurd (omega arith)

pub good_yes : (s : ℕ) (gs : List Gate) (k : ℕ) (d : Gate) → k < length gs → good (s + k) (get_or gs k d) ≡ true → good_from (s + k) (drop k gs) ≡ 1 + good_from (s + (k + 1)) (drop (k + 1) gs)
good_yes s gs k d h e =
    at_drop_more (good_from (s + k)) gs k d h
    ∙ ap (λ b. cond b (1 + good_from ((s + k) + 1) (drop (k + 1) gs)) 0) e
    ∙ ap (λ n. 1 + good_from n (drop (k + 1) gs)) (add_assoc s k 1)

pub good_no : (s : ℕ) (gs : List Gate) (k : ℕ) (d : Gate) → k < length gs → good (s + k) (get_or gs k d) ≡ false → good_from (s + k) (drop k gs) ≡ 0
good_no s gs k d h e =
    at_drop_more (good_from (s + k)) gs k d h ∙ ap (λ b. cond b (1 + good_from ((s + k) + 1) (drop (k + 1) gs)) 0) e

pub good_le : (s : ℕ) (gs : List Gate) → good_from s gs ≤ length gs
good_le s [] = omega arith
good_le s (g ∷ gs) =
    elim (good s g) as (λ b. cond b (1 + good_from (s + 1) gs) 0 ≤ length (g ∷ gs)) [ true ↦ omega (arith, good_le (s + 1) gs) | false ↦ omega arith ]

pub all_cons : (b : Bool) (n m : ℕ) → n ≤ m → cond b (1 + n) 0 ≡ suc m → (b ≡ true) × (n ≡ m)
all_cons true n m h e = (refl, omega arith)
all_cons false n m h e = absurd (omega arith)

-- where all are good, each is
pub good_at : (s : ℕ) (gs : List Gate) → good_from s gs ≡ length gs → (k : ℕ) (d : Gate) → k < length gs → good (s + k) (get_or gs k d) ≡ true
good_at s [] e k d h = absurd (omega arith)
good_at s (g ∷ gs) e zero d h = rw add-zero (all_cons (good s g) (good_from (s + 1) gs) (length gs) (good_le (s + 1) gs) e).0
good_at s (g ∷ gs) e (suc k) d h =
    let r = good_at (s + 1) gs (all_cons (good s g) (good_from (s + 1) gs) (length gs) (good_le (s + 1) gs) e).1 k d (omega arith) in
    let n : s + suc k ≡ (s + 1) + k = omega arith in
    ap (λ m. good m (get_or gs k d)) n ∙ r

-- one good gate more, in front or behind
pub good_cons : (s : ℕ) (g : Gate) (gs : List Gate) → good s g ≡ true → good_from (s + 1) gs ≡ length gs → good_from s (g ∷ gs) ≡ length (g ∷ gs)
good_cons s g gs e f = ap (λ b. cond b (1 + good_from (s + 1) gs) 0) e ∙ omega arith

pub good_append : (s : ℕ) (gs hs : List Gate) → good_from s gs ≡ length gs → good_from (s + length gs) hs ≡ length hs → good_from s (gs ++ hs) ≡ length (gs ++ hs)
good_append s [] hs e f = ap (λ n. good_from n hs) (sym (add-zero s)) ∙ f
good_append s (g ∷ gs) hs e f =
    let q = all_cons (good s g) (good_from (s + 1) gs) (length gs) (good_le (s + 1) gs) e in
    let n : s + length (g ∷ gs) ≡ (s + 1) + length gs = omega arith in
    good_cons s g (gs ++ hs) q.0 (good_append (s + 1) gs hs q.1 (ap (λ k. good_from k hs) (sym n) ∙ f))

-- where all are good, the operands of each lie within a list of all signals
pub good_reads : (s : ℕ) (gs : List Gate) → good_from s gs ≡ length gs → (k : ℕ) (d : Gate) → k < length gs → {n : ℕ} → n ≡ s + length gs → ((get_or gs k d).a < n) × ((get_or gs k d).b < n)
good_reads s gs e k d h f = let r = reads (s + k) (get_or gs k d) (good_at s gs e k d h) in (omega arith, omega arith)

-- a table has eight bits
pub past_table : (t r : ℕ) → t < 256 → 8 ≤ r → (t / 2 ^ r) % 2 ≡ 0
past_table t r h i =
    let p : 256 ≤ 2 ^ r = pow_mono i in
    ap (λ n. n % 2) (div-eq_of_lt {n = t} {m = 2 ^ r} (omega arith))

-- Gray codes: a number's code by its lowest bit and the others, and that no other number has it.
use Rattle.std.proofs.Common.{◌≡◌, ℕ, zero, suc, ◌+◌, ◌*◌, ◌/◌, ◌%◌, ◌^◌, ◌<◌, ◌≤◌, Bool, sym, ap, ◌∙◌, arith, pow_mono}
use native.Mathlib.Nat.{pow-succ'}
use Rattle.std.proofs.lemmas.Bool.Decides.{nat_tests}
use lib.Bits.{bit_xor, xor_step, differ}
use Rattle.kinds.specs.Template.{bit_of}
use Rattle.kinds.specs.Parity.{parity_product}

abbrev pub gray : ℕ → ℕ
gray v = bit_xor v (v / 2)

-- a lowest bit more
pub gray_more : (x v : ℕ) → x < 2 → gray (x + 2 * v) ≡ gray v * 2 + differ x (v % 2)
gray_more x v h =
    let rest : (x + 2 * v) / 2 ≡ v = omega arith in
    let low : (x + 2 * v) % 2 ≡ x = omega arith in
    xor_step (x + 2 * v) ((x + 2 * v) / 2)
    ∙ ap (λ n. bit_xor n (n / 2) * 2 + differ ((x + 2 * v) % 2) (n % 2)) rest
    ∙ ap (λ n. gray v * 2 + differ n (v % 2)) low

pub differ_of : (p g : Bool) → differ (bit_of (parity_product p g)) (bit_of p) ≡ bit_of g
differ_of p g = grind arith

differ_small : (x p : ℕ) → x < 2 → p < 2 → differ x p < 2
differ_small x p h k = grind (arith, nat_tests)

differ_only : (p x y : ℕ) → x < 2 → y < 2 → p < 2 → differ x p ≡ differ y p → x ≡ y
differ_only p x y h j k e = grind (arith, nat_tests)

below_only : (k c d : ℕ) → c < 2 ^ k → d < 2 ^ k → gray c ≡ gray d → c ≡ d
below_only zero c d h j e = omega arith
below_only (suc k) c d h j e =
    let power : 2 ^ suc k ≡ 2 * 2 ^ k = pow-succ' 2 k in
    let both : gray (c / 2) * 2 + differ (c % 2) (c / 2 % 2) ≡ gray (d / 2) * 2 + differ (d % 2) (d / 2 % 2) = sym (xor_step c (c / 2)) ∙ e ∙ xor_step d (d / 2) in
    let x = differ_small (c % 2) (c / 2 % 2) (omega arith) (omega arith) in
    let y = differ_small (d % 2) (d / 2 % 2) (omega arith) (omega arith) in
    let high : c / 2 ≡ d / 2 = below_only k (c / 2) (d / 2) (omega (arith, power)) (omega (arith, power)) (omega (arith, both, x, y)) in
    let same : differ (c % 2) (c / 2 % 2) ≡ differ (d % 2) (c / 2 % 2) =
    omega (arith, both, ap gray high) ∙ ap (λ t. differ (d % 2) (t % 2)) (sym high) in
    let low : c % 2 ≡ d % 2 = differ_only (c / 2 % 2) (c % 2) (d % 2) (omega arith) (omega arith) (omega arith) same in
    omega arith

self_below : (n : ℕ) → n < 2 ^ n
self_below zero = omega arith
self_below (suc n) = omega (arith, self_below n, pow-succ' 2 n)

-- two numbers of one code are one number
pub gray_only : (c d : ℕ) → gray c ≡ gray d → c ≡ d
gray_only c d e =
    let p : 2 ^ c ≤ 2 ^ (c + d) = pow_mono (omega arith) in let q : 2 ^ d ≤ 2 ^ (c + d) = pow_mono (omega arith) in
    below_only (c + d) c d (omega (arith, self_below c, p)) (omega (arith, self_below d, q)) e

use Rattle.std.proofs.Common.{◌≡◌, ℕ, zero, suc, ◌+◌, ◌-◌, ◌/◌, ◌<◌, ◌≤◌, true, false, eqb, leb, refl, ap, ◌∙◌, arith}
use Rattle.std.specs.Int.Count.{count_leading_zeros}
use Rattle.std.specs.List.{range_with_len}
use Rattle.std.proofs.lemmas.Bool.{ne_eqb, leb-true}
use Rattle.account.specs.Families.{digits_in, digits}
use Rattle.account.proofs.Rows.{all_of}
use Rattle.account.proofs.Tying.{all_at}

-- one digit less
pub digits_more : (k v : ℕ) → 0 < v → k < 64 → k + digits_in (64 - k) v ≡ k + 1 + digits_in (64 - (k + 1)) (v / 2)
unfolding digits_in
digits_more k v h b =
    let e : 64 - k ≡ suc (64 - (k + 1)) = omega arith in
    let n : eqb v 0 ≡ false = ne_eqb v 0 (omega arith) in
    ap (λ (d : ℕ). k + digits_in d v) e ∙ rw (n, digits_in) (omega arith)

pub digits_none : (k : ℕ) → digits_in k 0 ≡ 0
unfolding digits_in
digits_none zero = refl
digits_none (suc k) = refl

-- a number's digits, and the zeros above them
digits_and_zeros : (k v : ℕ) → digits_in k v + count_leading_zeros k v ≡ k
unfolding digits_in count_leading_zeros
digits_and_zeros zero v = refl
digits_and_zeros (suc k) zero = omega arith
digits_and_zeros (suc k) (suc v) =
    let n : eqb (suc v) 0 ≡ false = ne_eqb (suc v) 0 (omega arith) in
    rw (digits_in, n) (omega (arith, digits_and_zeros k (suc v / 2)))

pub digits_counted : (v : ℕ) → 64 - count_leading_zeros 64 v ≡ digits v
digits_counted v = omega (arith, digits_and_zeros 64 v)

-- the digits of a column's number
few : all_of (λ m. leb (digits m) 6) (range_with_len 0 64) ≡ true
unfolding digits_in
few = refl

pub digits_few : (m : ℕ) → m < 64 → digits m ≤ 6
digits_few m h = leb-true _ _ (all_at (λ m. leb (digits m) 6) 0 64 m few (omega arith) (omega arith))

-- Numbers whose bits are made by their place.
use Rattle.std.proofs.Common.{◌≡◌, ℕ, zero, suc, ◌+◌, ◌*◌, ◌^◌, ◌<◌, ◌≤◌, List, [], ◌∷◌, ◌++◌, map, length, get_or, take, drop, sym, refl, ap, ◌∙◌, subst, mul_assoc, arith}
use native.Mathlib.Nat.{pow-succ'}
use Rattle.std.specs.List.{range_with_len}
use Rattle.std.proofs.lemmas.List.FromFn.{length-map-range_with_len, map-range_with_len_more, fill_by_all, get_or-map-range_with_len}
use Rattle.std.proofs.lemmas.List.{length-take-le, length-drop, length-map, get_or-take, get_or-drop, get_or-map}
use Rattle.kinds.specs.Template.{bit_of}
use Rattle.expansion.specs.Expansion.{nets_of, values, Shows}
use Rattle.expansion.proofs.Showing.{row_in, length_nets}
use Rattle.meaning.specs.Numbers.{value, Bits}
use Rattle.meaning.proofs.Signals.{is_set, set_bit}

value_push : (xs : List ℕ) (c : ℕ) → value (xs ++ c ∷ []) ≡ value xs + 2 ^ length xs * c
value_push [] c = omega arith
value_push (x ∷ xs) c =
    let power : 2 ^ length (x ∷ xs) * c ≡ 2 * (2 ^ length xs * c) = ap (λ p. p * c) (pow-succ' 2 (length xs)) ∙ mul_assoc 2 (2 ^ length xs) c in
    omega (arith, value_push xs c, power)

-- the number of bits 0 to k - 1
abbrev pub up_to : (ℕ → ℕ) → ℕ → ℕ
up_to f k = value (map f (range_with_len 0 k))

pub up_more : (f : ℕ → ℕ) (k : ℕ) → up_to f (k + 1) ≡ up_to f k + 2 ^ k * f k
up_more f k =
    ap value (map-range_with_len_more f 0 k k (omega arith))
    ∙ value_push (map f (range_with_len 0 k)) (f k)
    ∙ ap (λ n. up_to f k + 2 ^ n * f k) (length-map-range_with_len f 0 k)

-- the bits of inputs from place p on
abbrev pub bit_from : List ℕ → ℕ → ℕ → ℕ
bit_from xs p i = bit_of (is_set xs (p + i))

pub front_made : (xs : List ℕ) (n : ℕ) → Bits xs → n ≤ length xs → take n xs ≡ map (bit_from xs 0) (range_with_len 0 n)
front_made xs n b h =
    fill_by_all (bit_from xs 0) (take n xs) n 0 (length-take-le n xs h)
    (λ k lt. let z : k ≡ 0 + k = omega arith in get_or-take n xs k 0 lt ∙ ap (λ i. get_or xs i 0) z ∙ set_bit xs (0 + k) b)

pub rest_made : (xs : List ℕ) (n c : ℕ) → Bits xs → length xs ≡ n + c → drop n xs ≡ map (bit_from xs n) (range_with_len 0 c)
rest_made xs n c b h =
    fill_by_all (bit_from xs n) (drop n xs) c 0 (length-drop n xs ∙ omega arith) (λ k lt. get_or-drop n xs k 0 ∙ set_bit xs (n + k) b)

-- the nets of node v among nets made by their place
pub nets_made : (f : ℕ → ℕ) (n w v : ℕ) → v < n → nets_of w (map f (range_with_len 0 (n * w))) v ≡ map (λ j. f (v * w + j)) (range_with_len 0 w)
nets_made f n w v lt =
    let C : List ℕ = map f (range_with_len 0 (n * w)) in
    let room : v * w + w ≤ n * w = row_in v n w lt in
    let size : length C ≡ n * w = length-map-range_with_len f 0 (n * w) in
    fill_by_all (λ j. f (v * w + j)) (nets_of w C v) w 0 (length_nets w v C (omega arith))
    (λ k l. get_or-take w (drop (v * w) C) k 0 l ∙ get_or-drop (v * w) C k 0 ∙ get_or-map-range_with_len f 0 (n * w) (v * w + k) (v * w + k) 0 (omega arith) (omega arith))

-- k bits make a number below 2^k
pub up_small : (xs : List ℕ) (p k : ℕ) → up_to (bit_from xs p) k < 2 ^ k
up_small xs p zero = omega arith
up_small xs p (suc k) =
    let f : ℕ → ℕ = bit_from xs p in
    let up : suc k ≡ k + 1 = omega arith in
    let le : 2 ^ k * f k ≤ 2 ^ k = grind arith in
    let goal : up_to f (k + 1) < 2 ^ (suc k) = omega (arith, up_small xs p k, up_more f k, le, pow-succ' 2 k) in
    subst (λ t. up_to f t < 2 ^ (suc k)) (sym up) goal

-- nets made by their place show elements where each shows its bit
pub shows_made : {E : Type 0} (bits : E → List ℕ) (u : E) (f : ℕ → ℕ) (n w : ℕ) (s : List ℕ) (xs : List E) → length xs ≡ n
    → ((x : E) → length (bits x) ≡ w) → ((v j : ℕ) → v < n → j < w → get_or s (f (v * w + j)) 0 ≡ get_or (bits (get_or xs v u)) j 0)
    → Shows bits u w s (map f (range_with_len 0 (n * w))) xs
shows_made bits u f n w s xs e wide at v lt =
    let l : v < n = omega arith in
    let g : ℕ → ℕ = λ j. get_or (bits (get_or xs v u)) j 0 in
    let nets : List ℕ = map (λ j. f (v * w + j)) (range_with_len 0 w) in
    let size : length nets ≡ w = length-map-range_with_len (λ j. f (v * w + j)) 0 w in
    ap (values s) (nets_made f n w v l)
    ∙ fill_by_all g (values s nets) w 0 (length-map nets (λ k. get_or s k 0) ∙ size)
    (λ j h. get_or-map (λ k. get_or s k 0) nets j 0 0 (omega arith) ∙ ap (λ k. get_or s k 0) (get_or-map-range_with_len (λ j. f (v * w + j)) 0 w j j 0 h (omega arith)) ∙ at v j l h)
    ∙ sym (fill_by_all g (bits (get_or xs v u)) w 0 (wide (get_or xs v u)) (λ j h. refl))

-- What the parts of a netlist of good gates carry, read off the signals at its end.
use Rattle.std.proofs.Common.{◌≡◌, ℕ, zero, suc, ◌+◌, ◌<◌, Bool, true, not, ◌&&◌, eqb, List, [], ◌∷◌, ◌++◌, map, length, get_or, sym, refl, ap, ◌∙◌, arith}
use Rattle.std.specs.List.{range_with_len}
use Rattle.std.proofs.lemmas.List.FromFn.{length-map-range_with_len, get_or-map-range_with_len}
use Rattle.std.proofs.lemmas.List.Elements.{All-get_or, All-push}
use Rattle.std.proofs.lemmas.Bool.Decides.{nat_tests}
use Rattle.std.proofs.lemmas.Grind.{common_steps}
use Rattle.std.proofs.lemmas.List.{length-append, get_or_append_left, get_or-append-add}
use Rattle.netlist.specs.declared.gate.Gate.{Gate}
use Rattle.netlist.specs.Gates.{good, good_from, zero_gate, row_value, not_table, buffer_table, and_table, xor_table}
use Rattle.netlist.specs.Signals.{value_over, signals}
use Rattle.netlist.proofs.Rules.{good_cons}
use Rattle.netlist.proofs.Steps.{signals_append, signals_kept, length_signals, settles}
use Rattle.kinds.specs.Template.{bit_of}
use Rattle.kinds.specs.Parity.{parity_product}
use Rattle.meaning.specs.Numbers.{Bits}

-- gates made by their number are good where each is
good_map : (s a : ℕ) (f : ℕ → Gate) (c : ℕ) → ((k : ℕ) → k < c → good (s + k) (f (a + k)) ≡ true) → good_from s (map f (range_with_len a c)) ≡ length (map f (range_with_len a c))
good_map s a f zero h = refl
good_map s a f (suc c) h =
    let z : s + 0 ≡ s = omega arith in let y : a + 0 ≡ a = omega arith in
    let here : good s (f a) ≡ true = ap (λ k. good k (f a)) (sym z) ∙ ap (λ k. good (s + 0) (f k)) (sym y) ∙ h 0 (omega arith) in
    good_cons s (f a) (map f (range_with_len (a + 1) c)) here
    (good_map (s + 1) (a + 1) f c
    (λ k lt.
    let p : (s + 1) + k ≡ s + (k + 1) = omega arith in let q : (a + 1) + k ≡ a + (k + 1) = omega arith in
    ap (λ n. good n (f ((a + 1) + k))) p ∙ ap (λ n. good (s + (k + 1)) (f n)) q ∙ h (k + 1) (omega arith)))

pub good_made : (s : ℕ) (f : ℕ → Gate) (c : ℕ) → ((k : ℕ) → k < c → good (s + k) (f k) ≡ true) → good_from s (map f (range_with_len 0 c)) ≡ length (map f (range_with_len 0 c))
good_made s f c h = good_map s 0 f c (λ k lt. let z : 0 + k ≡ k = omega arith in ap (λ i. good (s + k) (f i)) z ∙ h k lt)

-- gate k of a part that is made by its number
pub part_value : (inputs : List ℕ) (gs front rest : List Gate) (f : ℕ → Gate) (c k p : ℕ) → gs ≡ front ++ (map f (range_with_len 0 c) ++ rest)
    → good_from (length inputs) gs ≡ length gs → k < c → p ≡ length inputs + length front + k → get_or (signals inputs gs) p 0 ≡ value_over (signals inputs gs) (f k)
part_value inputs gs front rest f c k p is g lt e =
    let size : length gs ≡ length front + (c + length rest) =
    ap length is ∙ length-append front (map f (range_with_len 0 c) ++ rest) ∙ omega (arith, length-append (map f (range_with_len 0 c)) rest, length-map-range_with_len f 0 c) in
    let at : p ≡ length inputs + (length front + k) = omega arith in
    ap (λ n. get_or (signals inputs gs) n 0) at
    ∙ (settles inputs gs g).each (length front + k) (omega arith)
    ∙ ap (value_over (signals inputs gs))
    (ap (λ z. get_or z (length front + k) zero_gate) is
    ∙ get_or-append-add front (map f (range_with_len 0 c) ++ rest) k zero_gate
    ∙ get_or_append_left (map f (range_with_len 0 c)) rest zero_gate k (omega (arith, length-map-range_with_len f 0 c))
    ∙ get_or-map-range_with_len f 0 c k k zero_gate lt (omega arith))

-- more gates keep the signals before them
pub front_kept : (inputs : List ℕ) (front rest : List Gate) (p : ℕ) → p < length inputs + length front → get_or (signals inputs (front ++ rest)) p 0 ≡ get_or (signals inputs front) p 0
front_kept inputs front rest p lt =
    let s : List ℕ = signals inputs front in
    let more = signals_kept s rest in
    ap (λ z. get_or z p 0) (signals_append inputs front rest ∙ more.1)
    ∙ get_or_append_left s more.0 0 p (omega (arith, length_signals inputs front))

pub input_kept : (inputs : List ℕ) (gs : List Gate) (i : ℕ) → i < length inputs → get_or (signals inputs gs) i 0 ≡ get_or inputs i 0
input_kept inputs gs i lt = front_kept inputs [] gs i (omega arith)

-- signals are zeros and ones
pub signals_bits : (inputs : List ℕ) (gs : List Gate) → Bits inputs → Bits (signals inputs gs)
signals_bits inputs [] b = b
signals_bits inputs (g ∷ gs) b = signals_bits (inputs ++ value_over inputs g ∷ []) gs (All-push (λ x. x < 2) inputs (value_over inputs g) b (omega arith))

pub small : (xs : List ℕ) (i : ℕ) → Bits xs → get_or xs i 0 < 2
small xs i b = grind (arith, common_steps, All-get_or (λ x. x < 2) xs i 0)

pub signal_small : (inputs : List ℕ) (gs : List Gate) (i : ℕ) → Bits inputs → get_or (signals inputs gs) i 0 < 2
signal_small inputs gs i b = small (signals inputs gs) i (signals_bits inputs gs b)

-- whether bit i of a list is set
abbrev pub is_set : List ℕ → ℕ → Bool
is_set xs i = eqb (get_or xs i 0) 1

pub bit_is : (x : ℕ) → x < 2 → x ≡ bit_of (eqb x 1)
bit_is x h = grind (arith, nat_tests)

pub set_bit : (xs : List ℕ) (i : ℕ) → Bits xs → get_or xs i 0 ≡ bit_of (is_set xs i)
set_bit xs i b = bit_is (get_or xs i 0) (small xs i b)

-- an input among the signals
pub input_bit : (inputs : List ℕ) (gs : List Gate) (k : ℕ) → Bits inputs → k < length inputs → get_or (signals inputs gs) k 0 ≡ bit_of (is_set inputs k)
input_bit inputs gs k b lt = input_kept inputs gs k lt ∙ set_bit inputs k b

-- the usual gates, on bits
pub pass_value : (x : ℕ) → x < 2 → row_value 1 buffer_table x 0 ≡ x
pass_value x h = grind (arith, nat_tests)

pub not_value : (a : Bool) (x : ℕ) → x ≡ bit_of a → row_value 1 not_table x 0 ≡ bit_of (not a)
not_value a x e = grind (arith, nat_tests)

pub and_value : (a b : Bool) (x y : ℕ) → x ≡ bit_of a → y ≡ bit_of b → row_value 2 and_table x y ≡ bit_of (a && b)
and_value a b x y e f = grind (arith, nat_tests)

pub xor_value : (a b : Bool) (x y : ℕ) → x ≡ bit_of a → y ≡ bit_of b → row_value 2 xor_table x y ≡ bit_of (parity_product a b)
xor_value a b x y e f = grind (arith, nat_tests)

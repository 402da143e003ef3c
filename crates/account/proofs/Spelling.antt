use Rattle.std.proofs.Common.{◌≡◌, ℕ, zero, suc, ◌+◌, ◌<◌, true, eqb, List, [], ◌∷◌, ◌++◌, map, length, get_or, sym, refl, ap, ◌∙◌, ⊎_elim, add-zero, zero-add, arith}
use Rattle.std.specs.List.{range_with_len}
use Rattle.std.proofs.lemmas.List.{length_push, get_or_append_left, get_or_push}
use Rattle.std.proofs.lemmas.List.FromFn.{length-map-range_with_len, get_or-map-range_with_len}
use Rattle.std.proofs.lemmas.Bool.{eq-eqb, ne_eqb, cases_eq}
use Rattle.account.specs.Words.{Pair, spelled, grown, words, word, rises, is_run, front, back, after}

grown_push : (ws : List (List ℕ)) (ps : List Pair) (p : Pair) → grown ws (ps ++ p ∷ []) ≡ grown ws ps ++ spelled (grown ws ps) p ∷ []
grown_push ws [] p = refl
grown_push ws (q ∷ ps) p = grown_push (ws ++ spelled ws q ∷ []) ps p

length_grown : (ws : List (List ℕ)) (ps : List Pair) → length (grown ws ps) ≡ length ws + length ps
length_grown ws [] = sym (add-zero (length ws))
length_grown ws (q ∷ ps) = omega (arith, length_grown (ws ++ spelled ws q ∷ []) ps, length_push ws (spelled ws q))

pub words_push : (n : ℕ) (ps : List Pair) (p : Pair) → words n (ps ++ p ∷ []) ≡ words n ps ++ (word n ps p.0 ++ word n ps p.1) ∷ []
unfolding words word
words_push n ps p = grown_push _ ps p

pub length_words : (n : ℕ) (ps : List Pair) → length (words n ps) ≡ n + length ps
unfolding words
length_words n ps = omega (arith, length_grown (map (λ i. i ∷ []) (range_with_len 0 n)) ps, length-map-range_with_len (λ (i : ℕ). i ∷ []) 0 n)

pub word_before : (n : ℕ) (ps : List Pair) (p : Pair) (v : ℕ) → v < n + length ps → word n (ps ++ p ∷ []) v ≡ word n ps v
unfolding word
word_before n ps p v h =
    ap (λ (ws : List (List ℕ)). get_or ws v []) (words_push n ps p)
    ∙ get_or_append_left (words n ps) _ [] v (omega (arith, length_words n ps))

pub word_new : (n : ℕ) (ps : List Pair) (p : Pair) (v : ℕ) → n + length ps ≡ v → word n (ps ++ p ∷ []) v ≡ word n ps p.0 ++ word n ps p.1
unfolding word
word_new n ps p v h =
    ap (λ (ws : List (List ℕ)). get_or ws v []) (words_push n ps p)
    ∙ get_or_push (words n ps) _ [] v (length_words n ps ∙ h)

pub counting_append : (a m b k : ℕ) → a + m ≡ b → range_with_len a m ++ range_with_len b k ≡ range_with_len a (m + k)
counting_append a zero b k h =
    let e : b ≡ a = omega arith in let f : zero + k ≡ k = omega arith in rw (e, f)
counting_append a (suc m) b k h =
    let f : suc m + k ≡ suc (m + k) = omega arith in rw f (ap (λ (xs : List ℕ). a ∷ xs) (counting_append (a + 1) m b k (omega arith)))

-- a run's end, and what may come after it
rises_counting : (a m : ℕ) → rises a (range_with_len (a + 1) m) ≡ true
rises_counting a zero = refl
rises_counting a (suc m) = rw (eq-eqb (a + 1) (a + 1) refl) (rises_counting (a + 1) m)

rises_joint : (a m b k : ℕ) → rises a (range_with_len (a + 1) m ++ range_with_len b (suc k)) ≡ eqb b (a + m + 1)
rises_joint a zero b k =
    let e : a + zero + 1 ≡ a + 1 = omega arith in
    rw e (⊎_elim (λ h. rw (eq-eqb b (a + 1) h) (rises_counting b k)) (λ h. rw (ne_eqb b (a + 1) h)) (cases_eq b (a + 1)))
rises_joint a (suc m) b k =
    let e : a + suc m + 1 ≡ (a + 1) + m + 1 = omega arith in
    rw (e, eq-eqb (a + 1) (a + 1) refl) (rises_joint (a + 1) m b k)

pub run_counting : (a m : ℕ) → is_run (range_with_len a (suc m)) ≡ true
unfolding is_run
run_counting a m = rises_counting a m

pub run_joint : (a m b k : ℕ) → is_run (range_with_len a (suc m) ++ range_with_len b (suc k)) ≡ eqb b (a + m + 1)
unfolding is_run
run_joint a m b k = rises_joint a m b k

pub front_counting : (a m : ℕ) → front (range_with_len a (suc m)) ≡ a
unfolding front
front_counting a m = refl

after_counting : (x a m : ℕ) → after x (range_with_len a (suc m)) ≡ a + m
after_counting x a zero = sym (add-zero a)
after_counting x a (suc m) = after_counting a (a + 1) m ∙ omega arith

pub back_counting : (a m : ℕ) → back (range_with_len a (suc m)) ≡ a + m
unfolding back
back_counting a m = after_counting 0 a m

pub word_column : (n v : ℕ) → v < n → word n [] v ≡ v ∷ []
unfolding word words
word_column n v h = get_or-map-range_with_len (λ (i : ℕ). i ∷ []) 0 n v v [] h (zero-add v)

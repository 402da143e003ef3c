-- A node's value is the product over its word, by associativity and the unit.
use Rattle.std.proofs.Common.{◌≡◌, ℕ, zero, suc, List, [], ◌∷◌, ◌++◌, map, length, get_or, fold, sym, refl, ap, ◌∙◌}
use Rattle.std.specs.List.{range_with_len}
use Rattle.std.proofs.lemmas.List.{map_push, map-append}
use Rattle.std.proofs.lemmas.List.FromFn.{fill_by_all}
use Rattle.account.specs.Words.{Pair, spelled, grown, words, word}
use Rattle.account.specs.Account.{Account}
use Rattle.scan.specs.Values.{valued, over, Folds}

-- The laws of a monoid.
pub record Monoid {E : Type 0} (op : E → E → E) (u : E) : Type 0 where
  pub assoc : (x y z : E) → op (op x y) z ≡ op x (op y z)
  pub left : (x : E) → op u x ≡ x
  pub right : (x : E) → op x u ≡ x

from_start : {E : Type 0} (op : E → E → E) (u : E) (l : Monoid op u) (x : E) (ys : List E) → fold op x ys ≡ op x (fold op u ys)
from_start op u l x [] = sym (l.right x)
from_start op u l x (y ∷ ys) =
    from_start op u l (op x y) ys
    ∙ l.assoc x y (fold op u ys)
    ∙ ap (op x) (sym (from_start op u l (op u y) ys ∙ ap (λ z. op z (fold op u ys)) (l.left y)))

in_two : {E : Type 0} (op : E → E → E) (x : E) (xs ys : List E) → fold op x (xs ++ ys) ≡ fold op (fold op x xs) ys
in_two op x [] ys = refl
in_two op x (z ∷ xs) ys = in_two op (op x z) xs ys

over_append : {E : Type 0} (op : E → E → E) (u : E) (l : Monoid op u) (xs : List E) (v w : List ℕ) → over op u xs (v ++ w) ≡ op (over op u xs v) (over op u xs w)
over_append op u l xs v w =
    ap (fold op u) (map-append (λ i. get_or xs i u) v w)
    ∙ in_two op u (map (λ i. get_or xs i u) v) (map (λ i. get_or xs i u) w)
    ∙ from_start op u l (over op u xs v) (map (λ i. get_or xs i u) w)

get_d_over : {A E : Type 0} (f : A → E) (d : A) (ws : List A) (v : ℕ) → get_or (map f ws) v (f d) ≡ f (get_or ws v d)
get_d_over f d [] v = refl
get_d_over f d (w ∷ ws) zero = refl
get_d_over f d (w ∷ ws) (suc v) = get_d_over f d ws v

valued_words : {E : Type 0} (op : E → E → E) (u : E) (l : Monoid op u) (xs : List E) (ws : List (List ℕ)) (ps : List Pair) →
    valued op u (map (over op u xs) ws) ps ≡ map (over op u xs) (grown ws ps)
valued_words op u l xs ws [] = refl
valued_words {E} op u l xs ws (p ∷ ps) =
    let f : List ℕ → E = over op u xs in
    let new : op (get_or (map f ws) p.0 u) (get_or (map f ws) p.1 u) ≡ f (spelled ws p) =
    ap (λ z. op z (get_or (map f ws) p.1 u)) (get_d_over f [] ws p.0)
    ∙ ap (op (f (get_or ws p.0 []))) (get_d_over f [] ws p.1)
    ∙ sym (over_append op u l xs (get_or ws p.0 []) (get_or ws p.1 [])) in
    ap (λ z. valued op u (map f ws ++ z ∷ []) ps) new
    ∙ ap (λ zs. valued op u zs ps) (sym (map_push f ws (spelled ws p)))
    ∙ valued_words op u l xs (ws ++ spelled ws p ∷ []) ps

map_map : {A B C : Type 0} (f : B → C) (g : A → B) (l : List A) → map f (map g l) ≡ map (λ x. f (g x)) l
map_map f g [] = refl
map_map f g (x ∷ l) = ap (λ ys. f (g x) ∷ ys) (map_map f g l)

columns_valued : {E : Type 0} (op : E → E → E) (u : E) (l : Monoid op u) (xs : List E) (n : ℕ) → length xs ≡ n →
    xs ≡ map (over op u xs) (map (λ (i : ℕ). i ∷ []) (range_with_len 0 n))
columns_valued op u l xs n h =
    fill_by_all (λ i. over op u xs (i ∷ [])) xs n u h (λ k lt. sym (l.left (get_or xs k u)))
    ∙ sym (map_map (over op u xs) (λ (i : ℕ). i ∷ []) (range_with_len 0 n))

pub value_word : {E : Type 0} (op : E → E → E) (u : E) (l : Monoid op u) (xs : List E) (n : ℕ) (ps : List Pair) (v : ℕ) → length xs ≡ n →
    get_or (valued op u xs ps) v u ≡ over op u xs (word n ps v)
unfolding words word
value_word op u l xs n ps v h =
    let ws : List (List ℕ) = map (λ (i : ℕ). i ∷ []) (range_with_len 0 n) in
    ap (λ zs. get_or (valued op u zs ps) v u) (columns_valued op u l xs n h)
    ∙ ap (λ zs. get_or zs v u) (valued_words op u l xs ws ps)
    ∙ get_d_over (over op u xs) [] (grown ws ps) v

pub folds : {E : Type 0} (op : E → E → E) (u : E) (l : Monoid op u) (a : Account) (xs : List E) → length xs ≡ a.columns → Folds op u a xs (valued op u xs a.joins)
folds op u l a xs h v lt = value_word op u l xs a.columns a.joins v h

-- An output spells the columns from 0 on, so what holds over words holds of outputs.
use Rattle.std.proofs.Common.{◌≡◌, ℕ, ◌+◌, ◌<◌, ◌≤◌, true, List, length, get_or, take, is_some, Some, None, fold, Option, sym, refl, ap, ◌∙◌, subst, arith}
use Rattle.std.specs.List.{range_with_len}
use Rattle.std.proofs.lemmas.List.{length-take-le, get_or-take}
use Rattle.std.proofs.lemmas.List.FromFn.{fill_by_all}
use Rattle.account.specs.Account.{Account, nodes, word_of, output_of, Covered}
use Rattle.account.proofs.Measuring.{output_node, output_word}
use Rattle.scan.specs.Values.{over, AtOutput, Folds, Prefixes}

over_first : {E : Type 0} (op : E → E → E) (u : E) (xs : List E) (c : ℕ) → c < length xs → over op u xs (range_with_len 0 (c + 1)) ≡ fold op u (take (c + 1) xs)
over_first op u xs c lt =
    let le : c + 1 ≤ length xs = omega arith in
    ap (fold op u) (sym (fill_by_all (λ i. get_or xs i u) (take (c + 1) xs) (c + 1) u (length-take-le (c + 1) xs le) (λ k kl. get_or-take (c + 1) xs k u kl)))

pub some_of : (o : Option ℕ) → is_some o ≡ true → (v : ℕ) × (o ≡ Some v)
some_of (Some v) e = (v, refl)
some_of None e = let z : ◌≡◌ {A = ℕ} 0 1 = cc in absurd (omega arith)

-- what the elements over the nodes' words have, the prefixes have at the outputs
pub at_outputs : {E : Type 0} (op : E → E → E) (u : E) (a : Account) (xs : List E) (P : ℕ → E → Type 0)
    → Covered a → length xs ≡ a.columns → ((v : ℕ) → v < nodes a → P v (over op u xs (word_of a v)))
    → (i : ℕ) → i < a.columns → AtOutput a i (λ v. P v (fold op u (take (i + 1) xs)))
at_outputs op u a xs P covers e holds i h =
    let o = some_of (output_of a i) (covers i h) in
    let v : ℕ = o.0 in
    let word = ap (over op u xs) (output_word a i v o.1) ∙ over_first op u xs i (omega arith) in
    (v, (o.1, subst (P v) word (holds v (output_node a i v o.1))))

pub prefixes : {E : Type 0} (op : E → E → E) (u : E) (a : Account) (xs vs : List E)
    → Covered a → length xs ≡ a.columns → Folds op u a xs vs → Prefixes op u a xs vs
prefixes op u a xs vs covers e holds = at_outputs op u a xs (λ v x. get_or vs v u ≡ x) covers e holds

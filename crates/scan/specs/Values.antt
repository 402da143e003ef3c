-- What a run leaves: the element of each node.
use Rattle.std.specs.Prelude.{◌≡◌, ℕ, ◌+◌, ◌<◌, cond, List, [], ◌∷◌, ◌++◌, map, length, get_or, take, Some, fold, ◌==◌, slice_index_or}
use Rattle.account.specs.Words.{Pair}
use Rattle.account.specs.Account.{Account, nodes, word_of, output_of}
use Rattle.netlist.specs.declared.refusal.Refusal.TheVariants.{Length}
use Rattle.netlist.specs.Refusals.{Answer, done, refusal}

-- The elements of all nodes: those vs of the first ones, then each join's product of low's and high's.
abbrev pub valued : {E : Type 0} → (E → E → E) → E → List E → List Pair → List E
valued op u vs [] = vs
valued op u vs (p ∷ ps) = valued op u (vs ++ op (slice_index_or vs p.0 u) (slice_index_or vs p.1 u) ∷ []) ps

-- The answer of a run over the elements xs, and what a value list vs then holds.
abbrev pub ran : {E : Type 0} → (E → E → E) → E → Account → List E → List E → Answer × List E
ran op u a xs vs =
    cond (length xs == a.columns)
    (cond (length vs == nodes a)
    (done, valued op u xs a.joins)
    (refusal (Length (length vs)), vs))
    (refusal (Length (length xs)), vs)

-- The product from the left of the elements at the columns of a word.
abbrev pub over : {E : Type 0} → (E → E → E) → E → List E → List ℕ → E
over op u xs w = fold op u (map (λ i. get_or xs i u) w)

-- Slot v holds the product of the elements over node v's word.
abbrev pub Folds : {E : Type 0} → (E → E → E) → E → Account → List E → List E → Type 0
Folds op u a xs vs = (v : ℕ) → v < nodes a → slice_index_or vs v u ≡ over op u xs (word_of a v)

-- Column i has an output, of which P holds.
abbrev pub AtOutput : Account → ℕ → (ℕ → Type 0) → Type 0
AtOutput a i P = (v : ℕ) × ((output_of a i ≡ Some v) × P v)

-- The slot of output i holds the product of the elements of columns 0 to i.
abbrev pub Prefixes : {E : Type 0} → (E → E → E) → E → Account → List E → List E → Type 0
Prefixes op u a xs vs = (i : ℕ) → i < a.columns → AtOutput a i (λ v. slice_index_or vs v u ≡ fold op u (take (i + 1) xs))

-- What places a join: slots that are filled one by one, gates that keep their rule, slots that stay, and a part of a table that is written.
use Rattle.std.proofs.Common.{◌≡◌, ℕ, ◌+◌, ◌<◌, ◌≤◌, true, List, [], ◌∷◌, ◌++◌, map, length, get_or, take, drop, set, sym, refl, ap, ◌∙◌, arith}
use Rattle.std.proofs.lemmas.List.{append_assoc, take_more_set, map_more, take_all, take-take, drop-take}
use Rattle.std.proofs.lemmas.Slice.{put_mid-paste}
use borrow.Rule.Slice.PartMut.{put_mid}
use Rattle.kinds.specs.declared.template.TemplateGate.{TemplateGate}
use Rattle.kinds.specs.Template.{blank, keeps, formed}
use Rattle.kinds.proofs.Ranges.{formed_at}
use Rattle.expansion.specs.Expansion.{slots, written}

-- one slot more of a table filled by f
pub laid_more : {X Y : Type 0} (f : X → Y) (ys : List Y) (xs : List X) (k : ℕ) (d : X) (v : Y) → k < length ys → k < length xs → v ≡ f (get_or xs k d)
    → take k ys ≡ map f (take k xs) → take (k + 1) (set ys k v) ≡ map f (take (k + 1) xs)
laid_more f ys xs k d v h i e was =
    take_more_set ys k v h ∙ ap (λ l. l ++ v ∷ []) was ∙ ap (λ z. map f (take k xs) ++ z ∷ []) e ∙ sym (map_more f xs k d i)

-- each gate of a template reads what there is
pub gate_keeps : (w n : ℕ) (gs : List TemplateGate) (i : ℕ) → formed w 0 gs ≡ true → i < length gs → length gs ≤ n → keeps w n (get_or gs i blank) ≡ true
gate_keeps w n gs i o h m = formed_at w 0 n gs i blank o h (omega arith)

-- slots before place n
pub slots_take : (w p n : ℕ) (xs : List ℕ) → p + w ≤ n → slots w (take n xs) p ≡ slots w xs p
slots_take w p n xs h = sym (drop-take p w (take n xs)) ∙ ap (drop p) (take-take (p + w) n xs h) ∙ drop-take p w xs

-- a part of a table, written whole
pub part_written : {X : Type 0} (a k : ℕ) (xs ys zs : List X) → ys ≡ zs → length zs ≡ k → put_mid a k xs ys ≡ written xs a zs
part_written a k xs ys zs e f =
    put_mid-paste a k xs ys zs (length zs) e f refl
    ∙ ap (λ l. (take a xs ++ l) ++ drop (a + length zs) xs) (take_all (length zs) zs (omega arith))
    ∙ append_assoc (take a xs) zs (drop (a + length zs) xs)

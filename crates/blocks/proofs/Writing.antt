-- Slots written one after another, and expansions that pass every check.
use Rattle.std.proofs.Common.{◌≡◌, ℕ, ◌+◌, ◌*◌, ◌<◌, ◌≤◌, ltb, List, [], ◌++◌, map, length, get_or, take, drop, All, ap, ◌∙◌, arith}
use Rattle.std.specs.List.{range_with_len, prefix_len}
use Rattle.std.proofs.lemmas.List.FromFn.{length-map-range_with_len, fill_by_all}
use Rattle.std.proofs.lemmas.List.{append_assoc, length-append, length-take-le, length-drop, take-append-drop, drop-drop}
use Rattle.std.proofs.lemmas.List.Elements.{All-get_or}
use Rattle.std.proofs.lemmas.List.Sums.{prefix_len_is}
use Rattle.std.proofs.lemmas.Bool.{lt-ltb}
use Rattle.std.proofs.lemmas.Bool.Decides.{nat_tests}
use Rattle.account.specs.Account.{Account, nodes}
use Rattle.netlist.specs.declared.gate.Gate.{Gate}
use Rattle.netlist.specs.Gates.{good_from}
use Rattle.netlist.specs.Refusals.{number}
use Rattle.kinds.specs.declared.template.TemplateGate.{TemplateGate}
use Rattle.kinds.specs.declared.template.Pin.{Pin}
use Rattle.expansion.specs.Expansion.{written, column_nets, grown_to, admitted, expanded, tables, appended, wired}
use Rattle.expansion.proofs.Appending.{take_written, drop_written}

pub written_none : {X : Type 0} (xs : List X) (at : ℕ) → written xs at [] ≡ xs
written_none xs at = ap (λ k. take at xs ++ drop k xs) (omega arith) ∙ take-append-drop at xs

-- n slots from slot at on, whose elements are now f 0, f 1, ..
pub filled : {X : Type 0} (f : ℕ → X) (xs ys : List X) (at m n : ℕ) → length ys ≡ length (take m (drop at xs)) → m ≡ n → at + n ≤ length xs → ((k : ℕ) (d : X) → k < length ys → get_or ys k d ≡ f k)
    → take at xs ++ (ys ++ drop m (drop at xs)) ≡ written xs at (map f (range_with_len 0 n))
filled f xs ys at m n long few room is =
    let size : length ys ≡ n = long ∙ length-take-le m (drop at xs) (omega (arith, length-drop at xs)) ∙ few in
    let all : ys ≡ map f (range_with_len 0 n) = fill_by_all f ys n (f 0) size (λ k h. is k (f 0) (omega arith)) in
    ap (λ z. take at xs ++ (z ++ drop m (drop at xs))) all
    ∙ ap (λ z. take at xs ++ (map f (range_with_len 0 n) ++ z)) (drop-drop m at xs ∙ ap (λ j. drop j xs) (omega (arith, length-map-range_with_len f 0 n)))

-- two lists written one after the other
pub written_both : {X : Type 0} (xs ys zs : List X) (at k : ℕ) → at ≤ length xs → at + length ys ≡ k → written (written xs at ys) k zs ≡ written xs at (ys ++ zs)
written_both xs ys zs at k h e =
    rw (take_written xs ys at k h e, drop_written xs ys at (k + length zs) h (omega arith))
    (simp append_assoc (ap (λ j. take at xs ++ (ys ++ (zs ++ drop j xs))) (omega (arith, length-append ys zs))))

pub length_written : {X : Type 0} (xs ys : List X) (at : ℕ) → at + length ys ≤ length xs → length (written xs at ys) ≡ length xs
length_written xs ys at h = simp (length-append, length-drop, length-take-le at xs (omega arith)) (omega arith)

all_leading : (n : ℕ) (ks : List ℕ) → All (λ k. k < n) ks → prefix_len (λ k. ltb k n) ks ≡ length ks
all_leading n ks b = prefix_len_is (λ k. ltb k n) ks (length ks) 0 (omega arith) (λ k h. lt-ltb _ n (All-get_or (λ j. j < n) ks k 0 h b)) (λ h. absurd (omega arith))

-- what an expansion needs to be accepted
pub record Fits (t : List TemplateGate) (rs : List Pin) (a : Account) (m : ℕ) (gates : List Gate) (used : ℕ) (nets : List ℕ) : Type 0 where
  pub inputs : m ≤ 1024
  pub wide : length nets ≡ nodes a * length rs
  pub kept : used ≤ good_from m (take used gates)
  pub below : All (λ k. k < m + used) (column_nets rs a nets)
  pub columns : length (column_nets rs a nets) ≡ a.columns * length rs
  pub room : grown_to t a used ≤ length gates
  pub few : grown_to t a used ≤ 1048576

pub fits_expand : (t : List TemplateGate) (rs : List Pin) (a : Account) (m : ℕ) (gates : List Gate) (used : ℕ) (nets : List ℕ) → Fits t rs a m gates used nets
    → expanded t rs a m gates used nets
    ≡ (number (grown_to t a used), written gates used (appended t rs (m + used) (column_nets rs a nets) a.joins), wired t rs (m + used) (column_nets rs a nets) a.joins)
fits_expand t rs a m gates used nets f =
    let new : List Gate × List ℕ = (written gates used (appended t rs (m + used) (column_nets rs a nets) a.joins), wired t rs (m + used) (column_nets rs a nets) a.joins) in
    let leading = all_leading (m + used) (column_nets rs a nets) f.below in
    let passes : admitted t rs a m gates used nets ≡ number (grown_to t a used) = grind (arith, nat_tests) in
    ap (λ r. tables r new (gates, nets)) passes

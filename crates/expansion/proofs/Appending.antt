-- Join by join, the gates and the nets that stand.
use Rattle.std.proofs.Common.{◌≡◌, ℕ, ◌+◌, ◌*◌, ◌-◌, ◌<◌, ◌≤◌, List, [], ◌∷◌, ◌++◌, map, length, get_or, take, drop, sym, refl, ap, ◌∙◌, add_assoc, add-mul, arith}
use Rattle.std.proofs.lemmas.List.{get_or-map, append_assoc, append-nil, take_at, take_more, take-take, length-append, length-take-le, length-map}
use Rattle.std.proofs.lemmas.Slice.{drop-append-drop}
use borrow.Rule.Slice.PartMut.{put_mid}
use Rattle.account.specs.Words.{Pair}
use Rattle.account.specs.Account.{Account, nodes}
use Rattle.sheet.specs.declared.node.Node.{Node}
use Rattle.sheet.specs.Spans.{blank, pair_of}
use Rattle.netlist.specs.declared.gate.Gate.{Gate}
use Rattle.kinds.specs.declared.template.TemplateGate.{TemplateGate}
use Rattle.kinds.specs.declared.template.Pin.{Pin}
use Rattle.expansion.proofs.Placing.{part_written}
use Rattle.expansion.specs.Expansion.{nets_of, net, placed, gates_for, nets_for, appended, wired, written, column_nets}

pub take_written : {X : Type 0} (xs ys : List X) (p k : ℕ) → p ≤ length xs → p + length ys ≡ k → take k (written xs p ys) ≡ take p xs ++ ys
take_written xs ys p k h e =
    ap (take k) (sym (append_assoc (take p xs) ys (drop (p + length ys) xs)))
    ∙ take_at (take p xs ++ ys) (drop (p + length ys) xs) k (length-append (take p xs) ys ∙ omega (arith, length-take-le p xs h))

pub drop_written : {X : Type 0} (xs ys : List X) (p k : ℕ) → p ≤ length xs → p + length ys ≤ k → drop k (written xs p ys) ≡ drop k xs
drop_written xs ys p k h e =
    ap (drop k) (sym (append_assoc (take p xs) ys (drop (p + length ys) xs)))
    ∙ drop-append-drop (p + length ys) xs (take p xs ++ ys) k e (length-append (take p xs) ys ∙ omega (arith, length-take-le p xs h))

-- what is written next, right behind
pub written_more : {X : Type 0} (xs ys zs : List X) (p k size : ℕ) → p ≤ length xs → k ≡ p + length ys → length zs ≡ size → put_mid k size (written xs p ys) zs ≡ written xs p (ys ++ zs)
written_more xs ys zs p k size h e f =
    part_written k size (written xs p ys) zs zs refl f
    ∙ ap (λ l. l ++ (zs ++ drop (k + length zs) (written xs p ys))) (take_written xs ys p k h (sym e))
    ∙ ap (λ l. (take p xs ++ ys) ++ (zs ++ l)) (drop_written xs ys p (k + length zs) h (omega arith))
    ∙ append_assoc (take p xs) ys (zs ++ drop (k + length zs) xs)
    ∙ ap (λ l. take p xs ++ l) (sym (append_assoc ys zs (drop (k + length zs) xs)))
    ∙ ap (λ n. take p xs ++ ((ys ++ zs) ++ drop n xs)) (omega (arith, length-append ys zs))

pub length_appended : (t : List TemplateGate) (rs : List Pin) (base : ℕ) (nets : List ℕ) (ps : List Pair) → length (appended t rs base nets ps) ≡ length ps * length t
length_appended t rs base nets [] = omega arith
length_appended t rs base nets (p ∷ ps) =
    length-append (gates_for t rs base nets p) (appended t rs (base + length t) (nets ++ nets_for rs base nets p) ps)
    ∙ omega (
      arith,
      length_appended t rs (base + length t) (nets ++ nets_for rs base nets p) ps,
      length-map t (placed (nets_of (length rs) nets p.0) (nets_of (length rs) nets p.1) base),
      add-mul (length ps) 1 (length t),
    )

length_wired : (t : List TemplateGate) (rs : List Pin) (base : ℕ) (nets : List ℕ) (ps : List Pair) → length (wired t rs base nets ps) ≡ length nets + length ps * length rs
length_wired t rs base nets [] = omega arith
length_wired t rs base nets (p ∷ ps) =
    length_wired t rs (base + length t) (nets ++ nets_for rs base nets p) ps
    ∙ omega (
      arith,
      length-append nets (nets_for rs base nets p),
      length-map rs (net (nets_of (length rs) nets p.0) (nets_of (length rs) nets p.1) base),
      add-mul (length ps) 1 (length rs),
    )

-- the gates and the nets of one join more
appended_more : (t : List TemplateGate) (rs : List Pin) (base : ℕ) (nets : List ℕ) (ps : List Pair) (p : Pair)
    → appended t rs base nets (ps ++ p ∷ []) ≡ appended t rs base nets ps ++ gates_for t rs (base + length ps * length t) (wired t rs base nets ps) p
appended_more t rs base nets [] p =
    append-nil (gates_for t rs base nets p) ∙ ap (λ b. gates_for t rs b nets p) (omega arith)
appended_more t rs base nets (q ∷ ps) p =
    let more : List ℕ = nets ++ nets_for rs base nets q in
    let start : base + length t + length ps * length t ≡ base + length (q ∷ ps) * length t = omega (arith, add-mul (length ps) 1 (length t)) in
    ap (λ l. gates_for t rs base nets q ++ l) (appended_more t rs (base + length t) more ps p)
    ∙ ap (λ b. gates_for t rs base nets q ++ (appended t rs (base + length t) more ps ++ gates_for t rs b (wired t rs (base + length t) more ps) p)) start
    ∙ sym (append_assoc (gates_for t rs base nets q) (appended t rs (base + length t) more ps) _)

wired_more : (t : List TemplateGate) (rs : List Pin) (base : ℕ) (nets : List ℕ) (ps : List Pair) (p : Pair)
    → wired t rs base nets (ps ++ p ∷ []) ≡ wired t rs base nets ps ++ nets_for rs (base + length ps * length t) (wired t rs base nets ps) p
wired_more t rs base nets [] p = ap (λ b. nets ++ nets_for rs b nets p) (omega arith)
wired_more t rs base nets (q ∷ ps) p =
    let more : List ℕ = nets ++ nets_for rs base nets q in
    let start : base + length t + length ps * length t ≡ base + length (q ∷ ps) * length t = omega (arith, add-mul (length ps) 1 (length t)) in
    wired_more t rs (base + length t) more ps p
    ∙ ap (λ b. wired t rs (base + length t) more ps ++ nets_for rs b (wired t rs (base + length t) more ps) p) start

-- the tables gs and ns, which held was and old, have the gates and nets of the first r joins
pub record Laid (t : List TemplateGate) (rs : List Pin) (a : Account) (m used : ℕ) (was : List Gate) (old : List ℕ) (gs : List Gate) (ns : List ℕ) (r : ℕ) : Type 0 where
  pub gates : gs ≡ written was used (appended t rs (m + used) (column_nets rs a old) (take r a.joins))
  pub nets : ns ≡ wired t rs (m + used) (column_nets rs a old) (take r a.joins) ++ drop ((a.columns + r) * length rs) old

-- the nets of the nodes before join r, as those of the nodes up to it begin
abbrev before_join : List Pin → Account → ℕ → List ℕ → List ℕ
before_join rs a r ns = take ((a.columns + r) * length rs) (take ((a.columns + r) * length rs + length rs) ns)

-- the tables after one join more
pub laid_more : (t : List TemplateGate) (rs : List Pin) (a : Account) (m used : ℕ) (was : List Gate) (old : List ℕ) (gs : List Gate) (ns : List ℕ) (joins : List Node) (r : ℕ) (new : List Gate) (front : List ℕ)
    → Laid t rs a m used was old gs ns r → map pair_of joins ≡ a.joins → r < length joins → length old ≡ nodes a * length rs → used ≤ length was
    → new ≡ gates_for t rs (m + (used + r * length t)) (before_join rs a r ns) (pair_of (get_or joins r blank))
    → front ≡ before_join rs a r ns ++ nets_for rs (m + (used + r * length t)) (before_join rs a r ns) (pair_of (get_or joins r blank))
    → Laid t rs a m used was old
    (put_mid (used + r * length t) (used + r * length t + length t - (used + r * length t)) gs new) (front ++ drop ((a.columns + r) * length rs + length rs) ns) (r + 1)
laid_more t rs a m used was old gs ns joins r new front l js lt wide in-was eg en =
    let slot : ℕ = used + r * length t in
    let at : ℕ = (a.columns + r) * length rs in
    let size : ℕ = slot + length t - slot in
    let p : Pair = pair_of (get_or joins r blank) in
    let h : r < length a.joins = omega (arith, length-map joins pair_of, ap length js) in
    let is : p ≡ get_or a.joins r (0, 0) = sym (get_or-map pair_of joins r blank (0, 0) lt) ∙ ap (λ l. get_or l r (0, 0)) js in
    let w : ℕ = length rs in
    let ps : List Pair = take r a.joins in
    let base : ℕ = m + used in
    let cols : List ℕ = column_nets rs a old in
    let app : List Gate = appended t rs base cols ps in
    let nets-so : List ℕ = wired t rs base cols ps in
    let in-old : a.columns * w ≤ length old = omega (arith, wide, add-mul a.columns (length a.joins) w) in
    let many : length ps ≡ r = length-take-le r a.joins (omega arith) in
    let many-gates : length app ≡ r * length t = length_appended t rs base cols ps ∙ ap (λ n. n * length t) many in
    let start : base + length ps * length t ≡ m + slot = omega (arith, many-gates, length_appended t rs base cols ps) in
    let end : length nets-so ≡ at =
    length_wired t rs base cols ps
    ∙ ap (λ n. length cols + n * w) many
    ∙ omega (arith, length-take-le (a.columns * w) old in-old, add-mul a.columns r w) in
    let front-is : before_join rs a r ns ≡ nets-so = take-take at (at + w) ns (omega arith) ∙ ap (take at) l.nets ∙ take_at nets-so _ at end in
    let one-more : take (r + 1) a.joins ≡ ps ++ p ∷ [] = take_more a.joins r (0, 0) h ∙ ap (λ q. ps ++ q ∷ []) (sym is) in
    let G : List Gate = gates_for t rs (m + slot) nets-so p in
    let N : List ℕ = nets_for rs (m + slot) nets-so p in
    let new-is : new ≡ G = eg ∙ ap (λ f. gates_for t rs (m + slot) f p) front-is in
    let whole : appended t rs base cols (take (r + 1) a.joins) ≡ app ++ G =
    ap (appended t rs base cols) one-more ∙ appended_more t rs base cols ps p ∙ ap (λ b. app ++ gates_for t rs b nets-so p) start in
    let whole-nets : wired t rs base cols (take (r + 1) a.joins) ≡ nets-so ++ N =
    ap (wired t rs base cols) one-more ∙ wired_more t rs base cols ps p ∙ ap (λ b. nets-so ++ nets_for rs b nets-so p) start in
    let past : drop (at + w) ns ≡ drop ((a.columns + (r + 1)) * w) old =
    ap (drop (at + w)) l.nets
    ∙ drop-append-drop at old nets-so (at + w) (omega arith) end
    ∙ ap (λ n. drop n old) (omega (arith, add-mul (a.columns + r) 1 w) ∙ ap (λ n. n * w) (add_assoc a.columns r 1)) in
    record {
      gates =
          ap (λ x. put_mid slot size x new) l.gates
          ∙ written_more was app new used slot size in-was (omega (arith, many-gates)) (ap length new-is ∙ length-map t (placed (nets_of w nets-so p.0) (nets_of w nets-so p.1) (m + slot)) ∙ omega arith)
          ∙ ap (λ z. written was used (app ++ z)) new-is
          ∙ ap (written was used) (sym whole);
      nets =
          ap (λ z. z ++ drop (at + w) ns) (en ∙ ap (λ f. f ++ nets_for rs (m + slot) f p) front-is)
          ∙ ap (λ z. (nets-so ++ N) ++ z) past
          ∙ ap (λ z. z ++ drop ((a.columns + (r + 1)) * w) old) (sym whole-nets);
    }

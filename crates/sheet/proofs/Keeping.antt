use Rattle.std.proofs.Common.{◌≡◌, ℕ, suc, ◌+◌, ◌-◌, ◌<◌, ◌≤◌, eqb, List, [], ◌∷◌, ◌++◌, map, length, get_or, take, drop, set, sym, ap, ◌∙◌, subst, below_more, arith}
use Rattle.std.proofs.lemmas.List.{drop_all, length-map, length-drop, length-take-le, map_push, take_more_set, take_more, drop-append-le, get_or-map, get_or-drop, get_or-take, get_or-set_same, get_or-set_other}
use Rattle.account.specs.Words.{Pair, word, is_run, front, back}
use Rattle.sheet.specs.Spans.{blank, column, at, pair_of, pairs_of, interval, Upward, Spelled, Founded}
use Rattle.sheet.specs.declared.node.Node.{Node}
use Rattle.sheet.specs.declared.sheet.Table.{Table}
use Rattle.account.proofs.Spelling.{word_column, word_before, word_new, counting_append, run_joint, front_counting, back_counting}

pub length_pairs : (n : ℕ) (xs : List Node) (count : ℕ) → count ≤ length xs → length (pairs_of n xs count) ≡ count - n
unfolding pairs_of
length_pairs n xs count h =
    length-map (drop n (take count xs)) pair_of ∙ length-drop n (take count xs) ∙ ap (λ (k : ℕ). k - n) (length-take-le count xs h)

pub pairs_push : (n : ℕ) (xs : List Node) (count : ℕ) (d : Node) → n ≤ count → count < length xs →
    pairs_of n (set xs count d) (count + 1) ≡ pairs_of n xs count ++ (d.low, d.high) ∷ []
unfolding pairs_of
pairs_push n xs count d le lt =
    ap (λ (ys : List Node). map pair_of (drop n ys)) (take_more_set xs count d lt)
    ∙ ap (map pair_of) (drop-append-le n (take count xs) (d ∷ []) (omega (arith, length-take-le count xs (omega arith))))
    ∙ map_push pair_of (drop n (take count xs)) d

pub pairs_pop : (n : ℕ) (xs : List Node) (count : ℕ) → n ≤ count → count < length xs →
    pairs_of n xs (count + 1) ≡ pairs_of n xs count ++ pair_of (at xs count) ∷ []
unfolding pairs_of
pairs_pop n xs count le lt =
    ap (λ (ys : List Node). map pair_of (drop n ys)) (take_more xs count blank lt)
    ∙ ap (map pair_of) (drop-append-le n (take count xs) (at xs count ∷ []) (omega (arith, length-take-le count xs (omega arith))))
    ∙ map_push pair_of (drop n (take count xs)) (at xs count)

pub nodes_count : (n : ℕ) (xs : List Node) (count : ℕ) → n ≤ count → count ≤ length xs → n + length (pairs_of n xs count) ≡ count
nodes_count n xs count le lt = omega (arith, length_pairs n xs count lt)

-- the operands of one join
pub pairs_at : (n : ℕ) (xs : List Node) (count v : ℕ) → n ≤ v → v < count → count ≤ length xs →
    get_or (pairs_of n xs count) (v - n) (0, 0) ≡ pair_of (at xs v)
unfolding pairs_of
pairs_at n xs count v a b h =
    let e : n + (v - n) ≡ v = omega arith in
    get_or-map pair_of (drop n (take count xs)) (v - n) blank (0, 0) (omega (arith, length-drop n (take count xs), length-take-le count xs h))
    ∙ ap pair_of (get_or-drop n (take count xs) (v - n) blank ∙ ap (λ (k : ℕ). get_or (take count xs) k blank) e ∙ get_or-take count xs v blank b)

-- an interval's numbers, counted
pub size : (d : Node) → d.first ≤ d.last → d.last + 1 - d.first ≡ suc (d.last - d.first)
size d h = omega arith

pub run_spans : (x y : Node) → x.first ≤ x.last → y.first ≤ y.last → is_run (interval x ++ interval y) ≡ eqb y.first (x.last + 1)
run_spans x y hx hy =
    let e : x.first + (x.last - x.first) + 1 ≡ x.last + 1 = omega arith in
    rw (size x hx, size y hy, run_joint x.first (x.last - x.first) y.first (y.last - y.first), e)

pub front_span : (d : Node) → d.first ≤ d.last → front (interval d) ≡ d.first
front_span d h = rw (size d h) (front_counting d.first (d.last - d.first))

pub back_span : (d : Node) → d.first ≤ d.last → back (interval d) ≡ d.last
back_span d h =
    let e : d.first + (d.last - d.first) ≡ d.last = omega arith in
    rw (size d h) (back_counting d.first (d.last - d.first) ∙ e)

pub spans_append : (x y z : Node) → x.first ≤ x.last → y.first ≤ y.last → x.last + 1 ≡ y.first → z.first ≡ x.first → z.last ≡ y.last →
    interval x ++ interval y ≡ interval z
spans_append x y z hx hy g f l =
    counting_append x.first (x.last + 1 - x.first) y.first (y.last + 1 - y.first) (omega arith)
    ∙ let e : (x.last + 1 - x.first) + (y.last + 1 - y.first) ≡ z.last + 1 - z.first = omega arith in
    let f' : x.first ≡ z.first = sym f in rw (e, f')

-- one more node, at the end: what holds of each node before it, and of it, holds of each
push_each : (P : ℕ → Node → Type 0) (xs : List Node) (count : ℕ) (d : Node) → count < length xs →
    ((v : ℕ) → v < count → P v (at xs v)) → P count d → (v : ℕ) → v < count + 1 → P v (at (set xs count d) v)
push_each P xs count d lt old new =
    below_more (λ v. P v (at (set xs count d) v)) count
    (λ v h. let ne : v ≡ count → ⊥ = omega arith in subst (P v) (sym (get_or-set_other xs count v d blank ne)) (old v h))
    (subst (P count) (sym (get_or-set_same xs count d blank lt)) new)

pub upward_push : (n : ℕ) (xs : List Node) (count : ℕ) (d : Node) → count < length xs → Upward n xs count →
    d.first ≤ d.last → d.last < n → Upward n (set xs count d) (count + 1)
upward_push n xs count d lt up a b = push_each (λ _ e. e.first ≤ e.last × e.last < n) xs count d lt up (a, b)

pub spelled_push : (n : ℕ) (xs : List Node) (count : ℕ) (d : Node) → n ≤ count → count < length xs → Spelled n xs count →
    (d.low < count) → (d.high < count) → interval (at xs d.low) ++ interval (at xs d.high) ≡ interval d →
    Spelled n (set xs count d) (count + 1)
spelled_push n xs count d le lt sp bl bh j =
    let all : n + length (pairs_of n xs count) ≡ count = nodes_count n xs count le (omega arith) in
    let push = pairs_push n xs count d le lt in
    push_each (λ v e. word n (pairs_of n (set xs count d) (count + 1)) v ≡ interval e) xs count d lt
    (λ v h. rw push (word_before n (pairs_of n xs count) (d.low, d.high) v (omega arith) ∙ sp v h))
    (rw push (word_new n (pairs_of n xs count) (d.low, d.high) count (omega arith) ∙ rw (sp d.low bl, sp d.high bh) j))

pub founded_push : (n : ℕ) (xs : List Node) (count : ℕ) (d : Node) → count < length xs → Founded n xs count →
    (d.low < count) → (d.high < count) → Founded n (set xs count d) (count + 1)
founded_push n xs count d lt fo l h v a b =
    push_each (λ v e. n ≤ v → (e.low < v) × (e.high < v)) xs count d lt (λ v b a. fo v a b) (λ _. (l, h)) v b a

-- one node less
pub spelled_pop : (n : ℕ) (xs : List Node) (count : ℕ) → n ≤ count → count < length xs → Spelled n xs (count + 1) → Spelled n xs count
spelled_pop n xs count le lt sp v h =
    let all : n + length (pairs_of n xs count) ≡ count = nodes_count n xs count le (omega arith) in
    sym (word_before n (pairs_of n xs count) (pair_of (at xs count)) v (omega arith))
    ∙ ap (λ (ps : List Pair). word n ps v) (sym (pairs_pop n xs count le lt))
    ∙ sp v (omega arith)

-- a table of columns alone
pub pairs_none : (n : ℕ) (xs : List Node) (count : ℕ) → count ≡ n → count ≤ length xs → pairs_of n xs count ≡ []
unfolding pairs_of
pairs_none n xs count e h = ap (map pair_of) (drop_all n (take count xs) (omega (arith, length-take-le count xs h)))

pub upward_columns : (n : ℕ) (xs : List Node) (count : ℕ) → count ≡ n → ((v : ℕ) → v < n → at xs v ≡ column v) → Upward n xs count
upward_columns n xs count e cs v h = let lt : v < n = omega arith in rw (cs v lt) (omega arith, lt)

pub spelled_columns : (n : ℕ) (xs : List Node) (count : ℕ) → count ≡ n → count ≤ length xs → ((v : ℕ) → v < n → at xs v ≡ column v) → Spelled n xs count
spelled_columns n xs count e le cs v h =
    let lt : v < n = omega arith in
    let one : v + 1 - v ≡ 1 = omega arith in
    rw (cs v lt, pairs_none n xs count e le, one) (word_column n v lt)

-- what a sheet of n columns owes of its table, and that a table of columns alone meets it
abbrev Owed : ℕ → Table → Type 0
Owed n t = record {
  wide : (1 ≤ n) × (n ≤ 64);
  room : (n ≤ t.count) × (t.count ≤ n + 1024);
  founded : Founded n t.nodes t.count;
  upward : Upward n t.nodes t.count;
  spelled : Spelled n t.nodes t.count;
}

pub fresh : (n : ℕ) (t : Table) → 1 ≤ n → n ≤ 64 → t.count ≡ n → ((v : ℕ) → v < n → at t.nodes v ≡ column v) → Owed n t
fresh n t low high e spans = record {
  wide = (low, high);
  room = (omega arith, omega arith);
  founded = λ v a b. absurd (omega arith);
  upward = upward_columns n t.nodes t.count e spans;
  spelled = spelled_columns n t.nodes t.count e (omega (arith, t.sized)) spans;
}

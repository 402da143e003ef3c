use Rattle.std.proofs.Common.{◌≡◌, ℕ, suc, ◌+◌, ◌-◌, ◌<◌, ◌≤◌, max, true, false, cond, eqb, List, [], ◌∷◌, ◌++◌, map, length, get_or, take, unwrap_or, fold, Result, Ok, Err, IsOk, sym, refl, ap, ◌∙◌, subst, ⊎_elim, arith, zero, is_some, Some, None, Option, MatchOption, add-zero}
use Rattle.std.specs.List.{range_with_len, count_by, position, position_from, reduce}
use Rattle.std.proofs.lemmas.List.{take_at, length-map, length-drop, length-take-le, get_or-map, get_or-drop, get_or-take}
use Rattle.std.proofs.lemmas.List.FromFn.{fill_by_all}
use Rattle.std.proofs.lemmas.List.Recursion.{is_sum_by}
use Rattle.std.proofs.lemmas.Iterator.Adapters.{position_from-zero}
use Rattle.std.proofs.lemmas.Bool.{cases_Bool, cases_eq, eq-eqb, eqb-true, ne_eqb, and_parts, and_from}
use Rattle.std.specs.Prelude.{is_none, find}
use Rattle.account.specs.Words.{Pair, Ordered, words, word, is_run}
use Rattle.account.specs.Account.{Account, Answer, number, refused, nodes, word_of, meets, joined, GapIsNoRun, undone, place_of, output_of, closing, closed, Covered}
use Rattle.sheet.specs.Spans.{at, blank, pair_of, pairs_of, joins_of, standing_of, spells_to, interval}
use Rattle.sheet.specs.View.{account}
use Rattle.answers.specs.Refusals.{answer}
use Rattle.answers.specs.declared.refusal.Refusal.{Refusal}
use Rattle.answers.specs.declared.refusal.Refusal.TheVariants.{Width, NoNode, Gap, Full, Bare, NotBare, NoFamily, Uncovered}
use Rattle.sheet.specs.declared.node.Node.{Node}
use Rattle.sheet.specs.declared.sheet.Sheet.{Sheet}
use Rattle.account.proofs.Answering.{gap_exactly}
use Rattle.account.proofs.Spelling.{run_counting, length_words}
use Rattle.account.specs.Families.{greatest}
use Rattle.account.specs.Measure.{depths, deeper, takes, takers, fan_out}
use Rattle.account.proofs.Tying.{span_out, span_other}
use Rattle.account.proofs.Measuring.{depth_join}
use Rattle.sheet.proofs.Keeping.{size, nodes_count, run_spans, front_span, back_span, length_pairs, pairs_pop, pairs_at}

-- the account has as many nodes as the table
pub count_is : (s : Sheet) → nodes (account s) ≡ s.table.count
count_is s = nodes_count s.columns s.table.nodes s.table.count s.room.0 (omega arith)

eqb_sym : (a b : ℕ) → eqb a b ≡ eqb b a
eqb_sym a b =
    ⊎_elim (λ (e : a ≡ b). eq-eqb a b e ∙ sym (eq-eqb b a (sym e))) (λ (n : a ≡ b → ⊥). ne_eqb a b n ∙ sym (ne_eqb b a (λ e. n (sym e)))) (cases_eq a b)

-- high starts where low ends
pub meets_is : (s : Sheet) (l h : ℕ) → l < s.table.count → h < s.table.count →
    meets (account s) l h ≡ eqb ((at s.table.nodes l).last + 1) (at s.table.nodes h).first
meets_is s l h p q =
    rw (s.spelled l p, s.spelled h q, back_span (at s.table.nodes l) (s.upward l p).0, front_span (at s.table.nodes h) (s.upward h q).0)

-- two standing nodes meet exactly if low's word followed by high's is a run
pub meets_run : (s : Sheet) (l h : ℕ) → l < s.table.count → h < s.table.count →
    meets (account s) l h ≡ is_run (word_of (account s) l ++ word_of (account s) h)
meets_run s l h p q =
    meets_is s l h p q ∙ eqb_sym ((at s.table.nodes l).last + 1) (at s.table.nodes h).first
    ∙ sym (rw (s.spelled l p, s.spelled h q)
    (run_spans (at s.table.nodes l) (at s.table.nodes h) (s.upward l p).0 (s.upward h q).0))

-- what join answers tells a gap exactly where the two words make no run
pub gap_told : (s : Sheet) (b : Account) (l h : ℕ) (r : Answer) → (r, b) ≡ joined (account s) l h → GapIsNoRun (account s) l h r
gap_told s b l h r e = gap_exactly (account s) b l h r e (λ p q. meets_run s l h (omega (arith, count_is s)) (omega (arith, count_is s)))

-- undo
pub pairs_drop : (n : ℕ) (xs : List Node) (count : ℕ) → n < count → count ≤ length xs →
    pairs_of n xs (count - 1) ≡ take (length (pairs_of n xs count) - 1) (pairs_of n xs count)
pairs_drop n xs count lt le =
    let e : count - 1 + 1 ≡ count = omega arith in
    let pop : pairs_of n xs count ≡ pairs_of n xs (count - 1) ++ pair_of (at xs (count - 1)) ∷ [] =
    subst (λ (k : ℕ). pairs_of n xs k ≡ pairs_of n xs (count - 1) ++ pair_of (at xs (count - 1)) ∷ []) e (pairs_pop n xs (count - 1) (omega arith) (omega arith)) in
    let len : length (pairs_of n xs (count - 1)) ≡ length (pairs_of n xs count) - 1 =
    omega (arith, length_pairs n xs (count - 1) (omega arith), length_pairs n xs count le) in
    sym (take_at (pairs_of n xs (count - 1)) (pair_of (at xs (count - 1)) ∷ []) (length (pairs_of n xs count) - 1) len)
    ∙ ap (take (length (pairs_of n xs count) - 1)) (sym pop)

pub bare : (a : Account) → length a.joins ≡ 0 → (refused 5 [], a) ≡ undone a
bare a h = rw (eq-eqb (length a.joins) 0 h)

pub popped : (a b : Account) (k : ℕ) → 0 < length a.joins → k ≡ length a.joins - 1 →
    b ≡ record { columns = a.columns; joins = take (length a.joins - 1) a.joins } → (number k, b) ≡ undone a
popped a b k h e f = rw (ne_eqb (length a.joins) 0 (omega arith), e, f)

abbrev pub words_of : Sheet → List (List ℕ)
words_of s = words (account s).columns (account s).joins

pub word_is : (s : Sheet) (v : ℕ) → v < s.table.count → get_or (words_of s) v [] ≡ interval (at s.table.nodes v)
unfolding word
word_is s v h = s.spelled v h

-- the words of the account are the spans of the standing nodes
words_are : (s : Sheet) → words_of s ≡ map interval (standing_of s.table.nodes s.table.count)
words_are s =
    let f : ℕ → List ℕ = λ k. interval (at s.table.nodes k) in
    let ds = standing_of s.table.nodes s.table.count in
    let long : length ds ≡ s.table.count = length-take-le s.table.count s.table.nodes (omega (arith, s.table.sized)) in
    fill_by_all f (words_of s) s.table.count [] (length_words (account s).columns (account s).joins ∙ count_is s) (λ k h. word_is s k h)
    ∙ sym (fill_by_all f (map interval ds) s.table.count [] (length-map ds interval ∙ long)
    (λ k h. get_or-map interval ds k blank [] (omega arith) ∙ ap interval (get_or-take s.table.count s.table.nodes k blank h)))

place_spans : (c : ℕ) (ds : List Node) (v : ℕ) → ((k : ℕ) → k < length ds → (at ds k).first ≤ (at ds k).last) →
    position_from (spells_to c) v ds ≡ place_of (range_with_len 0 (c + 1)) (map interval ds) v
place_spans c [] v up = refl
place_spans c (d ∷ ds) v up =
    let rest = place_spans c ds (v + 1) (λ k h. up (suc k) (omega arith)) in
    ⊎_elim
    (λ (t : spells_to c d ≡ true).
    let p = and_parts (eqb d.first 0) (eqb d.last c) t in
    sym (rw (span_out d.first d.last c (eqb-true _ _ p.0) (eqb-true _ _ p.1), t)))
    (λ (f : spells_to c d ≡ false).
    let never : d.first ≡ 0 → d.last ≡ c → ⊥ =
    λ a b. let y = and_from (eqb d.first 0) (eqb d.last c) (eq-eqb _ _ a) (eq-eqb _ _ b) in let z : ◌≡◌ {A = ℕ} 0 1 = cc in omega arith in
    rw (span_other d.first d.last c (up 0 (omega arith)) never, f) rest)
    (cases_Bool (spells_to c d))

-- the first node that spells the columns 0 to c is the output
pub output_is : (s : Sheet) (c : ℕ) → position (spells_to c) (standing_of s.table.nodes s.table.count) ≡ output_of (account s) c
unfolding output_of
output_is s c =
    let ds = standing_of s.table.nodes s.table.count in
    position_from-zero (spells_to c) ds
    ∙ place_spans c ds 0
    (λ k h.
    let lt : k < s.table.count = omega (arith, length-take-le s.table.count s.table.nodes (omega (arith, s.table.sized))) in
    rw (get_or-take s.table.count s.table.nodes k blank lt) (s.upward k lt).0)
    ∙ ap (λ (ws : List (List ℕ)). place_of (range_with_len 0 (c + 1)) ws 0) (sym (words_are s))

-- the joins that take a node
pub takers_are : (v : ℕ) (ds : List Node) → takers v (map pair_of ds) ≡ count_by (λ d. takes v (pair_of d)) ds
takers_are v ds = is_sum_by (λ ds. takers v (map pair_of ds)) (λ d. cond (takes v (pair_of d)) 1 0) refl (λ _ _. refl) ds

-- the greatest of a list, as `max` picks it
greatest_fold : (x : ℕ) (xs : List ℕ) → fold max x xs ≡ max x (greatest xs)
greatest_fold x [] = omega arith
greatest_fold x (y ∷ ys) = greatest_fold (max x y) ys ∙ omega arith

pub greatest_reduced : (xs : List ℕ) → unwrap_or (reduce max xs) 0 ≡ greatest xs
greatest_reduced [] = refl
greatest_reduced (x ∷ xs) = greatest_fold x xs

-- the nodes of the table decide the fan-out
pub fan_out_is : (s : Sheet) → greatest (map (λ v. takers v (account s).joins) (range_with_len 0 s.table.count)) ≡ fan_out (account s)
unfolding fan_out
fan_out_is s = ap (λ (m : ℕ). greatest (map (λ v. takers v (account s).joins) (range_with_len 0 m))) (sym (count_is s))

-- what a standing node spells
pub span_is : (s : Sheet) (v : ℕ) (d : Node) → v < s.table.count → d ≡ at s.table.nodes v → (d.first ≤ d.last) × (word_of (account s) v ≡ interval d)
span_is s v d h e = rw e ((s.upward v h).0, s.spelled v h)

-- every node of a sheet spells a run
pub all_runs : (s : Sheet) (v : ℕ) → v < nodes (account s) → is_run (word_of (account s) v) ≡ true
all_runs s v h =
    let lt : v < s.table.count = omega (arith, count_is s) in
    let d = at s.table.nodes v in
    rw (s.spelled v lt, size d (s.upward v lt).0) (run_counting d.first (d.last - d.first))

-- what answers a number is no refusal
pub is_number : (r : Result ℕ Refusal) (k : ℕ) → answer r ≡ number k → IsOk r
is_number (Ok v) k e = refl
is_number (Err (Width n)) k e = cc
is_number (Err (NoNode v s)) k e = cc
is_number (Err (Gap x y)) k e = cc
is_number (Err Full) k e = cc
is_number (Err Bare) k e = cc
is_number (Err (NotBare j)) k e = cc
is_number (Err (NoFamily f)) k e = cc
is_number (Err (Uncovered c)) k e = cc

-- a join's operands, in the account
pub operands_are : (s : Sheet) (v : ℕ) → s.columns ≤ v → v < s.table.count → get_or (account s).joins (v - s.columns) (0, 0) ≡ pair_of (at s.table.nodes v)
operands_are s v a b = pairs_at s.columns s.table.nodes s.table.count v a b (omega (arith, s.table.sized))

-- the nodes of the joins
pub joins_end : (s : Sheet) → s.columns + length (joins_of s.columns s.table.nodes s.table.count) ≡ s.table.count
joins_end s =
    omega (arith, length-drop s.columns (standing_of s.table.nodes s.table.count), length-take-le s.table.count s.table.nodes (omega (arith, s.table.sized)))

-- join r is the node behind the columns and r joins
pub join_at : (s : Sheet) (r : ℕ) → r < length (joins_of s.columns s.table.nodes s.table.count) →
    (s.columns + r < s.table.count) × (at (joins_of s.columns s.table.nodes s.table.count) r ≡ at s.table.nodes (s.columns + r))
join_at s r h =
    let xs = standing_of s.table.nodes s.table.count in
    let lt : s.columns + r < s.table.count = omega (arith, joins_end s) in
    (lt, get_or-drop s.columns xs r blank ∙ get_or-take s.table.count s.table.nodes (s.columns + r) blank lt)

-- each join takes nodes that stand before it
pub ordered_is : (s : Sheet) → Ordered s.columns (account s).joins
ordered_is s r h =
    let lt : s.columns + r < s.table.count = omega (arith, count_is s) in
    let k : s.columns + r - s.columns ≡ r = omega arith in
    let e = ap (λ (m : ℕ). get_or (account s).joins m (0, 0)) (sym k) ∙ operands_are s (s.columns + r) (omega arith) lt in
    rw e (s.founded (s.columns + r) (omega arith) lt)

-- a join is one deeper than the deeper of its operands
pub depth_is : (s : Sheet) (v x y : ℕ) → s.columns ≤ v → v < s.table.count →
    x ≡ get_or (depths s.columns (account s).joins) (at s.table.nodes v).low 0 →
    y ≡ get_or (depths s.columns (account s).joins) (at s.table.nodes v).high 0 →
    1 + max x y ≡ get_or (depths s.columns (account s).joins) v 0
depth_is s v x y a b p q =
    let o = operands_are s v a b in
    let below = s.founded v a b in
    let l : (get_or (account s).joins (v - s.columns) (0, 0)).0 < v = omega (arith, below.0, ap (λ (r : Pair). r.0) o) in
    let h : (get_or (account s).joins (v - s.columns) (0, 0)).1 < v = omega (arith, below.1, ap (λ (r : Pair). r.1) o) in
    sym (depth_join s.columns (account s).joins v a (omega (arith, count_is s)) l h
    ∙ ap (deeper (depths s.columns (account s).joins)) o
    ∙ rw (← p, ← q))

-- one column more that has an output
covered_more : (a : Account) (c k : ℕ) → is_some (output_of a c) ≡ true → ((j : ℕ) → j < k → is_some (output_of a ((c + 1) + j)) ≡ true) →
    (j : ℕ) → j < suc k → is_some (output_of a (c + j)) ≡ true
covered_more a c k f g zero h = rw add-zero f
covered_more a c k f g (suc j) h = let e : c + suc j ≡ (c + 1) + j = omega arith in ap (λ n. is_some (output_of a n)) e ∙ g j (omega arith)

kept : (o : Option ℕ) (P Q : Type 0) (R : ℕ → Type 0) → (P → Q) → MatchOption o P R → MatchOption o Q R
kept None P Q R f m = f m
kept (Some x) P Q R f m = m

-- the first of k columns from c that has no output is the one that closing refuses
first_uncovered : (a : Account) (c k : ℕ) →
    MatchOption (find (λ i. is_none (output_of a i)) (range_with_len c k)) ((j : ℕ) → j < k → is_some (output_of a (c + j)) ≡ true) (λ i. refused 8 (i ∷ []) ≡ closing a c k)
first_uncovered a c zero = λ j h. absurd (omega arith)
first_uncovered a c (suc k) =
    ⊎_elim
    (λ (f : is_some (output_of a c) ≡ true). rw f
    (kept (find (λ i. is_none (output_of a i)) (range_with_len (c + 1) k))
    ((j : ℕ) → j < k → is_some (output_of a ((c + 1) + j)) ≡ true) ((j : ℕ) → j < suc k → is_some (output_of a (c + j)) ≡ true)
    (λ i. refused 8 (i ∷ []) ≡ closing a (c + 1) k) (covered_more a c k f) (first_uncovered a (c + 1) k)))
    (λ (f : is_some (output_of a c) ≡ false). rw f refl)
    (cases_Bool (is_some (output_of a c)))

pub closes_or_not : (a : Account) → MatchOption (find (λ i. is_none (output_of a i)) (range_with_len 0 a.columns)) (Covered a) (λ i. refused 8 (i ∷ []) ≡ closed a)
closes_or_not a =
    kept (find (λ i. is_none (output_of a i)) (range_with_len 0 a.columns)) ((j : ℕ) → j < a.columns → is_some (output_of a (0 + j)) ≡ true) (Covered a)
    (λ i. refused 8 (i ∷ []) ≡ closed a)
    (λ g i h. let e : i ≡ 0 + i = omega arith in ap (λ n. is_some (output_of a n)) e ∙ g i h)
    (first_uncovered a 0 a.columns)

pub covered_where : (a : Account) (o : Option ℕ) → o ≡ find (λ i. is_none (output_of a i)) (range_with_len 0 a.columns) → o ≡ None → Covered a
covered_where a o e n = subst (λ q. MatchOption q (Covered a) (λ i. refused 8 (i ∷ []) ≡ closed a)) (sym e ∙ n) (closes_or_not a)

pub refused_where : (a : Account) (o : Option ℕ) (i : ℕ) → o ≡ find (λ i. is_none (output_of a i)) (range_with_len 0 a.columns) → o ≡ Some i → refused 8 (i ∷ []) ≡ closed a
refused_where a o i e n = subst (λ q. MatchOption q (Covered a) (λ i. refused 8 (i ∷ []) ≡ closed a)) (sym e ∙ n) (closes_or_not a)

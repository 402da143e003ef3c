-- The account of the calls: what each call answers, and what the account is after it.
use Rattle.std.specs.Prelude.{◌≡◌, ℕ, zero, suc, ◌+◌, ◌-◌, ◌<◌, Bool, true, false, cond, ◌&&◌, ◌||◌, List, [], ◌∷◌, ◌++◌, length, take, is_some, Some, None, Option, ◌==◌, nat_lt}
use Rattle.std.specs.List.{range_with_len}
use Rattle.account.specs.Words.{Pair, words, word, is_run, front, back}
use Rattle.account.specs.Families.{family}

-- The account of a sheet: its width, and the operands of its joins in order. Every answer is taken from these two alone.
pub record Account : Type 0 where
  pub columns : ℕ
  pub joins : List Pair

-- What a call answers: a number, nothing, that it is done, a closed sheet, or a refusal's number and values.
pub data Answer : Type 0 where
  number : ℕ → Answer
  none : Answer
  done : Answer
  closed_sheet : Account → Answer
  refused : ℕ → List ℕ → Answer

-- How many nodes there are, and the word of one.
abbrev pub nodes : Account → ℕ
nodes a = a.columns + length a.joins

abbrev pub word_of : Account → ℕ → List ℕ
word_of a v = word a.columns a.joins v

-- The account with one join more.
abbrev pub with_join : Account → ℕ → ℕ → Account
with_join a low high = record { columns = a.columns; joins = a.joins ++ (low, high) ∷ [] }

-- Every node spells a run.
abbrev pub AllRuns : Account → Type 0
AllRuns a = (v : ℕ) → v < nodes a → is_run (word_of a v) ≡ true

-- High's word starts where low's ends.
abbrev pub meets : Account → ℕ → ℕ → Bool
meets a low high = back (word_of a low) + 1 == front (word_of a high)

-- join: no such low, no such high, a gap, full; else the new node.
abbrev pub joined : Account → ℕ → ℕ → Answer × Account
joined a low high =
    cond (nat_lt low (nodes a))
    (cond (nat_lt high (nodes a))
    (cond (meets a low high)
    (cond (nat_lt (length a.joins) 1024)
    (number (nodes a), with_join a low high)
    (refused 4 [], a))
    (refused 3 (low ∷ high ∷ []), a))
    (refused 2 (high ∷ 1 ∷ []), a))
    (refused 2 (low ∷ 0 ∷ []), a)

-- Of two standing nodes, the answer is a gap exactly if low's word followed by high's is no run.
abbrev pub GapIsNoRun : Account → ℕ → ℕ → Answer → Type 0
GapIsNoRun a low high r =
    low < nodes a → high < nodes a →
    (r ≡ refused 3 (low ∷ high ∷ []) → is_run (word_of a low ++ word_of a high) ≡ false)
    × (is_run (word_of a low ++ word_of a high) ≡ false → r ≡ refused 3 (low ∷ high ∷ []))

-- undo: bare; else how many joins remain.
abbrev pub undone : Account → Answer × Account
undone a =
    cond (length a.joins == 0)
    (refused 5 [], a)
    (number (length a.joins - 1), record { columns = a.columns; joins = take (length a.joins - 1) a.joins })

-- lay: no such family, not bare; else how many joins were added.
abbrev pub is_family : ℕ → Bool
is_family f = nat_lt 0 f && nat_lt f 5

abbrev pub laid : Account → ℕ → Answer × Account
laid a f =
    cond (is_family f)
    (cond (length a.joins == 0)
    (number (length (family f a.columns)), record { columns = a.columns; joins = family f a.columns })
    (refused 6 (length a.joins ∷ []), a))
    (refused 7 (f ∷ []), a)

-- The words x and y are the same.
abbrev pub same : List ℕ → List ℕ → Bool
same [] [] = true
same [] (y ∷ ys) = false
same (x ∷ xs) [] = false
same (x ∷ xs) (y ∷ ys) = x == y && same xs ys

-- The place of the first of ws that is the word w, counted from v.
abbrev pub place_of : List ℕ → List (List ℕ) → ℕ → Option ℕ
place_of w [] v = None
place_of w (x ∷ xs) v = cond (same x w) (Some v) (place_of w xs (v + 1))

-- The lowest node that spells 0 to column.
unfoldable pub output_of : Account → ℕ → Option ℕ
output_of a column = place_of (range_with_len 0 (column + 1)) (words a.columns a.joins) 0

-- An optional node as an answer: none, or its number.
abbrev pub found : Option ℕ → Answer
found None = none
found (Some v) = number v

-- Every column has an output.
abbrev pub Covered : Account → Type 0
Covered a = (c : ℕ) → c < a.columns → is_some (output_of a c) ≡ true

-- The lowest of k columns from c that has no output is uncovered.
abbrev pub closing : Account → ℕ → ℕ → Answer
closing a c zero = closed_sheet a
closing a c (suc k) = cond (is_some (output_of a c)) (closing a (c + 1) k) (refused 8 (c ∷ []))

-- close: a closed sheet, or the lowest column that has no output.
abbrev pub closed : Account → Answer
closed a = closing a 0 a.columns

-- open: a width out of range leaves the sheet that stood there.
abbrev pub opened : Account → ℕ → Answer × Account
opened a n =
    cond (nat_lt n 1 || nat_lt 64 n)
    (refused 1 (n ∷ []), a)
    (done, record { columns = n; joins = [] })

-- A closed sheet that is reopened leaves the open one as it was.
abbrev pub reopened : Account → Answer × Account
reopened a = (done, a)

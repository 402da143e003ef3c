-- The number and the values of each refusal, and the answers that a call gives.
use Rattle.std.specs.Prelude.{ℕ, [], ◌∷◌, Ok, Err, Result}
use Rattle.account.specs.Account.{Answer, number, done, none, closed_sheet, refused}
use Rattle.answers.specs.declared.refusal.Refusal.{Refusal}
use Rattle.answers.specs.declared.refusal.Refusal.TheVariants.{Width, NoNode, Gap, Full, Bare, NotBare, NoFamily, Uncovered}
use Rattle.answers.specs.declared.refusal.Side.{Side}
use Rattle.answers.specs.declared.refusal.Side.TheVariants.{Low, High}

-- A side as a value: low 0, high 1.
abbrev pub side : Side → ℕ
side Low = 0
side High = 1

abbrev pub refusal : Refusal → Answer
refusal (Width n) = refused 1 (n ∷ [])
refusal (NoNode v s) = refused 2 (v ∷ side s ∷ [])
refusal (Gap low high) = refused 3 (low ∷ high ∷ [])
refusal Full = refused 4 []
refusal Bare = refused 5 []
refusal (NotBare joins) = refused 6 (joins ∷ [])
refusal (NoFamily f) = refused 7 (f ∷ [])
refusal (Uncovered column) = refused 8 (column ∷ [])

-- The number of a refusal; 0 for what is none.
abbrev pub number_of : Answer → ℕ
number_of (refused k vs) = k
number_of (number v) = 0
number_of none = 0
number_of done = 0
number_of (closed_sheet a) = 0

-- The answer of a call that gives a number.
abbrev pub answer : Result ℕ Refusal → Answer
answer (Ok v) = number v
answer (Err r) = refusal r

-- The answer of a call that gives nothing.
abbrev pub outcome : Result (Unit {0}) Refusal → Answer
outcome (Ok _) = done
outcome (Err r) = refusal r

-- The number and the values of each refusal, and the answer of a call that gives a count.
use Rattle.std.specs.Prelude.{ℕ, List, [], ◌∷◌, Ok, Err, Result}
use Rattle.netlist.specs.Refusals.{Answer, number, refused, slots_number}
use Rattle.blocks.specs.declared.refusal.Refusal.{Refusal}
use Rattle.blocks.specs.declared.refusal.Refusal.TheVariants.{Start, Short}

abbrev pub number_of : Refusal → ℕ
number_of (Start s) = 11
number_of (Short t) = 10

abbrev pub values_of : Refusal → List ℕ
values_of (Start s) = s ∷ []
values_of (Short t) = slots_number t ∷ []

abbrev pub refusal : Refusal → Answer
refusal e = refused (number_of e) (values_of e)

abbrev pub count : Result ℕ Refusal → Answer
count (Ok n) = number n
count (Err e) = refusal e

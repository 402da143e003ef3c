-- What a call answers: a number, that it is done, or a refusal's number and values.
use Rattle.std.specs.Prelude.{ℕ, List, [], ◌∷◌, Ok, Err, Result}
use Rattle.netlist.specs.declared.refusal.Slots.{Slots}
use Rattle.netlist.specs.declared.refusal.Slots.TheVariants.{Inputs, Gates, Names, Outputs, Text}
use Rattle.netlist.specs.declared.refusal.Refusal.{Refusal}
use Rattle.netlist.specs.declared.refusal.Refusal.TheVariants.{Length, Short, InputByte, BadGate, BadNet}

pub data Answer : Type 0 where
  number : ℕ → Answer
  done : Answer
  refused : ℕ → List ℕ → Answer

abbrev pub slots_number : Slots → ℕ
slots_number Inputs = 0
slots_number Gates = 1
slots_number Names = 2
slots_number Outputs = 3
slots_number Text = 4

abbrev pub number_of : Refusal → ℕ
number_of (Length n) = 9
number_of (Short t) = 10
number_of (InputByte i) = 12
number_of (BadGate k) = 13
number_of (BadNet i) = 13

abbrev pub values_of : Refusal → List ℕ
values_of (Length n) = n ∷ []
values_of (Short t) = slots_number t ∷ []
values_of (InputByte i) = i ∷ []
values_of (BadGate k) = k ∷ []
values_of (BadNet i) = i ∷ []

abbrev pub refusal : Refusal → Answer
refusal e = refused (number_of e) (values_of e)

-- The answer of a call that gives nothing but its success.
abbrev pub outcome : Result (Unit {0}) Refusal → Answer
outcome (Ok x) = done
outcome (Err e) = refusal e

-- The answer of a call that gives a count.
abbrev pub count : Result ℕ Refusal → Answer
count (Ok n) = number n
count (Err e) = refusal e

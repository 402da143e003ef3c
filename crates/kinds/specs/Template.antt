-- A template: gates over the bits of two elements, low and high, and the pins that show the product's bits.
use Rattle.std.specs.Prelude.{ℕ, ◌+◌, Bool, true, false, cond, ◌&&◌, List, [], ◌∷◌, ◌++◌, map, fold, nat_lt, slice_index}
use Rattle.kinds.specs.declared.template.TemplateGate.{TemplateGate}
use Rattle.kinds.specs.declared.template.TemplateGate.TheVariants.{Zero, One, Two}
use Rattle.kinds.specs.declared.template.Pin.{Pin}
use Rattle.kinds.specs.declared.template.Pin.TheVariants.{Low, High, Inner}
use Rattle.netlist.specs.Gates.{row_value}

abbrev pub bit_of : Bool → ℕ
bit_of b = cond b 1 0

-- A gate of one operand, and one of two.
abbrev pub one : ℕ → Pin → TemplateGate
one table a = One table a

abbrev pub two : ℕ → Pin → Pin → TemplateGate
two table a b = Two table a b

-- The gate that stands past a template's end.
abbrev pub blank : TemplateGate
blank = Zero

-- What a pin reads, where inner are the values of the earlier gates.
abbrev pub pin : List ℕ → List ℕ → List ℕ → Pin → ℕ
pin low high inner (Low k) = slice_index low k
pin low high inner (High k) = slice_index high k
pin low high inner (Inner k) = slice_index inner k

-- What a gate shows: the bit of its table at the row that its pins pick.
abbrev pub gate : List ℕ → List ℕ → List ℕ → TemplateGate → ℕ
gate low high inner Zero = 0
gate low high inner (One t a) = row_value 1 t (pin low high inner a) 0
gate low high inner (Two t a b) = row_value 2 t (pin low high inner a) (pin low high inner b)

abbrev pub next : List ℕ → List ℕ → List ℕ → TemplateGate → List ℕ
next low high inner g = inner ++ gate low high inner g ∷ []

-- The values of the template's gates.
abbrev pub evaluated : List TemplateGate → List ℕ → List ℕ → List ℕ
evaluated gates low high = fold (next low high) [] gates

-- The values that the result pins show.
abbrev pub shown : List TemplateGate → List Pin → List ℕ → List ℕ → List ℕ
shown gates results low high = map (pin low high (evaluated gates low high)) results

-- The pin reads one of w bits, or one of the first k gates.
abbrev pub within : ℕ → ℕ → Pin → Bool
within w k (Low j) = nat_lt j w
within w k (High j) = nat_lt j w
within w k (Inner j) = nat_lt j k

-- Gate k of a template over elements of w bits is good: it reads one or two pins within their range, and has a table for them.
abbrev pub keeps : ℕ → ℕ → TemplateGate → Bool
keeps w k Zero = false
keeps w k (One t a) = nat_lt t 4 && within w k a
keeps w k (Two t a b) = nat_lt t 16 && (within w k a && within w k b)

-- Each gate is good, the first being gate k.
abbrev pub formed : ℕ → ℕ → List TemplateGate → Bool
formed w k [] = true
formed w k (g ∷ gs) = keeps w k g && formed w (k + 1) gs

-- Each result pin is within its range.
abbrev pub reach : ℕ → ℕ → List Pin → Bool
reach w k [] = true
reach w k (p ∷ ps) = within w k p && reach w k ps

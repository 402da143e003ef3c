-- Gates: what one computes, and the rule that makes one good.
use Rattle.std.specs.Prelude.{ℕ, ◌+◌, ◌*◌, ◌/◌, ◌%◌, ◌^◌, Bool, false, cond, ◌&&◌, List, [], ◌∷◌, ◌==◌, nat_lt}
use Rattle.netlist.specs.declared.gate.Gate.{Gate}

-- The row of a table that the operands' values pick: row 0, row a, or row 2a + b by arity.
abbrev pub row : ℕ → ℕ → ℕ → ℕ
row arity a b = cond (arity == 0) 0 (cond (arity == 1) a (2 * a + b))

-- The bit of the table at that row.
abbrev pub row_value : ℕ → ℕ → ℕ → ℕ → ℕ
row_value arity table a b = (table / 2 ^ row arity a b) % 2

-- The tables of the usual gates.
abbrev pub not_table : ℕ
not_table = 1

abbrev pub buffer_table : ℕ
buffer_table = 2

abbrev pub and_table : ℕ
and_table = 8

abbrev pub or_table : ℕ
or_table = 14

abbrev pub xor_table : ℕ
xor_table = 6

-- Gates of no operand, of one and of two.
abbrev pub constant_gate : Bool → Gate
constant_gate v = record { arity = 0; a = 0; b = 0; table = cond v 1 0 }

abbrev pub one_gate : ℕ → ℕ → Gate
one_gate table a = record { arity = 1; a = a; b = 0; table = table }

abbrev pub two_gate : ℕ → ℕ → ℕ → Gate
two_gate table a b = record { arity = 2; a = a; b = b; table = table }

-- The constant 0, as which a list of gates reads past its end.
abbrev pub zero_gate : Gate
zero_gate = constant_gate false

-- The gate is good as signal s: it reads signals below s, its unused operands are 0, and its table has no bit past its rows.
unfoldable pub good : ℕ → Gate → Bool
good s g =
    cond (g.arity == 0) (nat_lt g.table 2 && g.a == 0 && g.b == 0)
    (cond (g.arity == 1) (nat_lt g.table 4 && nat_lt g.a s && g.b == 0)
    (g.arity == 2 && nat_lt g.table 16 && nat_lt g.a s && nat_lt g.b s))

-- How many gates are good, up to the first that is not; the first gate is signal s.
abbrev pub good_from : ℕ → List Gate → ℕ
good_from s [] = 0
good_from s (g ∷ gs) = cond (good s g) (1 + good_from (s + 1) gs) 0

-- What the table of nodes holds: the invariant of a sheet.
use Rattle.std.specs.Prelude.{◌≡◌, ℕ, ◌+◌, ◌-◌, ◌<◌, ◌≤◌, Bool, ◌&&◌, ◌==◌, List, map, take, drop, slice_index_or}
use Rattle.std.specs.List.{range_with_len}
use Rattle.account.specs.Words.{Pair, word}
use Rattle.sheet.specs.declared.node.Node.{Node}
use Rattle.sheet.specs.declared.node.Span.{Span}

abbrev pub blank : Node
blank = record { low = 0; high = 0; first = 0; last = 0 }

abbrev pub column : ℕ → Node
column v = record { low = 0; high = 0; first = v; last = v }

abbrev pub at : List Node → ℕ → Node
at nodes v = slice_index_or nodes v blank

abbrev pub pair_of : Node → Pair
pair_of d = (d.low, d.high)

-- The nodes that stand, the first count; the joins among them, those behind the n columns.
abbrev pub standing_of : List Node → ℕ → List Node
standing_of nodes count = take count nodes

abbrev pub joins_of : ℕ → List Node → ℕ → List Node
joins_of n nodes count = drop n (standing_of nodes count)

-- The operands of the joins among the first count nodes.
unfoldable pub pairs_of : ℕ → List Node → ℕ → List Pair
pairs_of n nodes count = map pair_of (joins_of n nodes count)

-- The columns from a node's first to its last, and those of a span.
abbrev pub interval : Node → List ℕ
interval d = range_with_len d.first (d.last + 1 - d.first)

abbrev pub columns_of : Span → List ℕ
columns_of s = range_with_len s.first (s.last + 1 - s.first)

-- The node spells the columns 0 to c.
abbrev pub spells_to : ℕ → Node → Bool
spells_to c d = d.first == 0 && d.last == c

-- Each node ends at a column, and not before it starts.
abbrev pub Upward : ℕ → List Node → ℕ → Type 0
Upward n nodes count = (v : ℕ) → v < count → (at nodes v).first ≤ (at nodes v).last × (at nodes v).last < n

-- Each node spells the columns from its first to its last.
abbrev pub Spelled : ℕ → List Node → ℕ → Type 0
Spelled n nodes count = (v : ℕ) → v < count → word n (pairs_of n nodes count) v ≡ interval (at nodes v)

-- A join's operands come before it.
abbrev pub Founded : ℕ → List Node → ℕ → Type 0
Founded n nodes count = (v : ℕ) → n ≤ v → v < count → ((at nodes v).low < v) × ((at nodes v).high < v)

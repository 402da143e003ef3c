-- What an expansion leaves: the gates of each join, placed over the nets of its operands, and the join's nets.
use Rattle.std.specs.Prelude.{◌≡◌, ℕ, ◌+◌, ◌*◌, ◌<◌, cond, false, not, ◌||◌, ltb, List, [], ◌∷◌, ◌++◌, map, length, take, drop, fold, All, ◌==◌, nat_lt, slice_index, slice_index_or}
use Rattle.std.specs.List.{prefix_len}
use Rattle.account.specs.Words.{Pair}
use Rattle.account.specs.Account.{Account, nodes, word_of}
use Rattle.netlist.specs.declared.gate.Gate.{Gate}
use Rattle.netlist.specs.Gates.{constant_gate, one_gate, two_gate, good_from}
use Rattle.netlist.specs.Signals.{signals}
use Rattle.netlist.specs.declared.refusal.Slots.TheVariants.{Gates}
use Rattle.netlist.specs.declared.refusal.Refusal.TheVariants.{Length, Short, BadGate, BadNet}
use Rattle.netlist.specs.Refusals.{Answer, number, done, refused, refusal}
use Rattle.kinds.specs.declared.template.TemplateGate.{TemplateGate}
use Rattle.kinds.specs.declared.template.TemplateGate.TheVariants.{Zero, One, Two}
use Rattle.kinds.specs.declared.template.Pin.{Pin}
use Rattle.kinds.specs.declared.template.Pin.TheVariants.{Low, High, Inner}
use Rattle.scan.specs.Values.{over, AtOutput}

-- The w slots from p on.
abbrev pub slots : ℕ → List ℕ → ℕ → List ℕ
slots w nets p = take w (drop p nets)

-- The nets of node v, w to a node.
abbrev pub nets_of : ℕ → List ℕ → ℕ → List ℕ
nets_of w nets v = slots w nets (v * w)

-- The signal that a pin reads, over the nets of low and high, where the template's first gate is signal base.
abbrev pub net : List ℕ → List ℕ → ℕ → Pin → ℕ
net low high base (Low k) = slice_index low k
net low high base (High k) = slice_index high k
net low high base (Inner k) = base + k

-- A template gate over those nets.
abbrev pub placed : List ℕ → List ℕ → ℕ → TemplateGate → Gate
placed low high base Zero = constant_gate false
placed low high base (One table a) = one_gate table (net low high base a)
placed low high base (Two table a b) = two_gate table (net low high base a) (net low high base b)

-- The gates of the template t, and the nets of its result pins rs, over the operands of p.
abbrev pub gates_for : List TemplateGate → List Pin → ℕ → List ℕ → Pair → List Gate
gates_for t rs base nets p = map (placed (nets_of (length rs) nets p.0) (nets_of (length rs) nets p.1) base) t

abbrev pub nets_for : List Pin → ℕ → List ℕ → Pair → List ℕ
nets_for rs base nets p = map (net (nets_of (length rs) nets p.0) (nets_of (length rs) nets p.1) base) rs

-- The gates of the joins ps, the first being signal base, where nets are those of the nodes before.
abbrev pub appended : List TemplateGate → List Pin → ℕ → List ℕ → List Pair → List Gate
appended t rs base nets [] = []
appended t rs base nets (p ∷ ps) = gates_for t rs base nets p ++ appended t rs (base + length t) (nets ++ nets_for rs base nets p) ps

-- The nets of all nodes.
abbrev pub wired : List TemplateGate → List Pin → ℕ → List ℕ → List Pair → List ℕ
wired t rs base nets [] = nets
wired t rs base nets (p ∷ ps) = wired t rs (base + length t) (nets ++ nets_for rs base nets p) ps

-- The slots xs with ys from slot p on.
abbrev pub written : {X : Type 0} → List X → ℕ → List X → List X
written xs p ys = take p xs ++ (ys ++ drop (p + length ys) xs)

-- The nets of the columns.
abbrev pub column_nets : List Pin → Account → List ℕ → List ℕ
column_nets rs a nets = take (a.columns * length rs) nets

-- The used count after the expansion.
abbrev pub grown_to : List TemplateGate → Account → ℕ → ℕ
grown_to t a used = used + length a.joins * length t

-- The used count after the expansion, or the first check that refuses it.
abbrev pub admitted : List TemplateGate → List Pin → Account → ℕ → List Gate → ℕ → List ℕ → Answer
admitted t rs a m gates used nets =
    cond (nat_lt 1024 m) (refusal (Length m))
    (cond (nat_lt (length gates) used || nat_lt 1048576 used) (refusal (Length used))
    (cond (not (length nets == nodes a * length rs)) (refusal (Length (length nets)))
    (cond (nat_lt (good_from m (take used gates)) used) (refusal (BadGate (good_from m (take used gates))))
    (cond (nat_lt (prefix_len (λ k. ltb k (m + used)) (column_nets rs a nets)) (a.columns * length rs)) (refusal (BadNet (prefix_len (λ k. ltb k (m + used)) (column_nets rs a nets))))
    (cond (nat_lt (length gates) (grown_to t a used) || nat_lt 1048576 (grown_to t a used)) (refusal (Short Gates))
    (number (grown_to t a used)))))))

-- What stands after an answer: the new tables where it is a number, else the old.
abbrev pub tables : Answer → List Gate × List ℕ → List Gate × List ℕ → Answer × List Gate × List ℕ
tables (number n) new old = (number n, new.0, new.1)
tables done new old = (done, old.0, old.1)
tables (refused k vs) new old = (refused k vs, old.0, old.1)

-- The answer of an expansion, and what the gate table and the net list then hold.
abbrev pub expanded : List TemplateGate → List Pin → Account → ℕ → List Gate → ℕ → List ℕ → Answer × List Gate × List ℕ
expanded t rs a m gates used nets =
    tables (admitted t rs a m gates used nets)
    (written gates used (appended t rs (m + used) (column_nets rs a nets) a.joins), wired t rs (m + used) (column_nets rs a nets) a.joins)
    (gates, nets)

-- The first total gates are good, and all nets are signals of the inputs or of those gates.
pub record Stands (m total : ℕ) (gs : List Gate) (ns : List ℕ) : Type 0 where
  pub gates : good_from m (take total gs) ≡ total
  pub nets : All (λ k. k < m + total) ns

-- What the nets carry, where s are the values of the signals.
abbrev pub values : List ℕ → List ℕ → List ℕ
values s nets = map (λ k. slice_index s k) nets

-- The nets show the elements xs, w nets to an element.
abbrev pub Shows : {E : Type 0} → (E → List ℕ) → E → ℕ → List ℕ → List ℕ → List E → Type 0
Shows bits u w s nets xs = (v : ℕ) → v < length xs → values s (nets_of w nets v) ≡ bits (slice_index_or xs v u)

-- The netlist before, of m inputs and the column nets of nets, shows the elements xs on these inputs.
pub record Given {E : Type 0} (bits : E → List ℕ) (u : E) (w : ℕ) (a : Account) (m : ℕ) (before : List Gate) (nets inputs : List ℕ) (xs : List E) : Type 0 where
  pub long : length inputs ≡ m
  pub wide : length xs ≡ a.columns
  pub shows : Shows bits u w (signals inputs before) nets xs

-- On all inputs at which the column nets show elements, the signals of the gates before keep their values among those of the gates
-- after, and there the nets of each node show the product of the elements over the node's word.
abbrev pub Computes : {E : Type 0} → (E → E → E) → E → (E → List ℕ) → ℕ → Account → ℕ → List Gate → List ℕ → List Gate → List ℕ → Type 0
Computes {E} op u bits w a m before nets after nets' =
    (inputs : List ℕ) (xs : List E) → Given bits u w a m before nets inputs xs →
    (take (m + length before) (signals inputs after) ≡ signals inputs before)
    × ((v : ℕ) → v < nodes a → values (signals inputs after) (nets_of w nets' v) ≡ bits (over op u xs (word_of a v)))

-- On all such inputs the nets of output i show the product of the elements of columns 0 to i.
abbrev pub Prefixes : {E : Type 0} → (E → E → E) → E → (E → List ℕ) → ℕ → Account → ℕ → List Gate → List ℕ → List Gate → List ℕ → Type 0
Prefixes {E} op u bits w a m before nets after nets' =
    (inputs : List ℕ) (xs : List E) → Given bits u w a m before nets inputs xs →
    (i : ℕ) → i < a.columns → AtOutput a i (λ v. values (signals inputs after) (nets_of w nets' v) ≡ bits (fold op u (take (i + 1) xs)))

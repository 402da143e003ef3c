-- The kind of each block, with the laws that expansions want.
use Rattle.std.proofs.Common.{◌≡◌, ℕ, Bool, List, length, refl, rules}
use Rattle.kinds.specs.Carry.{carry_unit, carry_product, carry_bits, carry_gates, carry_results}
use Rattle.kinds.specs.Parity.{parity_unit, parity_product, parity_bits, parity_gates, parity_results}
use Rattle.kinds.specs.Verdict.{verdict_unit, verdict_product, verdict_bits, verdict_gates, verdict_results}
use Rattle.kinds.specs.declared.template.TemplateGate.{TemplateGate}
use Rattle.kinds.specs.declared.template.Pin.{Pin}
use Rattle.kinds.specs.declared.elements.Carry.{Carry}
use Rattle.kinds.specs.declared.elements.Verdict.{Verdict}
use Rattle.kinds.specs.declared.elements.Map.{Map}
use Rattle.kinds.specs.Map.{map_unit, map_product, map_bits, map_gates, map_results}
use Rattle.kinds.specs.Laws.{carry_associative, carry_left, carry_right, carry_template, parity_associative, parity_right, parity_template, verdict_associative, verdict_left, verdict_template, map_associative, map_right, map_template}
use Rattle.scan.proofs.Products.{Monoid}
use Rattle.expansion.proofs.Showing.{Templated}
use Rattle.meaning.specs.declared.block.Block.{Block}
use Rattle.meaning.specs.declared.block.Block.TheVariants.{Adder, Comparator, GrayDecoder, Machine as MachineBlock}
use Rattle.meaning.specs.Layout.{template, results}

pub record KindOf (t : List TemplateGate) (rs : List Pin) : Type 1 where
  pub Element : Type 0
  pub op : Element → Element → Element
  pub unit : Element
  pub bits : Element → List ℕ
  pub laws : Monoid op unit
  pub fits : Templated op bits t rs

abbrev pub carries : KindOf carry_gates carry_results
carries = record {
  Element = Carry;
  op = carry_product;
  unit = carry_unit;
  bits = carry_bits;
  laws = record { assoc = carry_associative; left = carry_left; right = carry_right };
  fits = record { wide = λ x. refl; template = carry_template; formed = refl; reaching = refl };
}

abbrev pub parities : KindOf parity_gates parity_results
parities = record {
  Element = Bool;
  op = parity_product;
  unit = parity_unit;
  bits = parity_bits;
  laws = record { assoc = parity_associative; left = λ x. refl; right = parity_right };
  fits = record { wide = λ x. refl; template = parity_template; formed = refl; reaching = refl };
}

pub verdict_wide : (x : Verdict) → length (verdict_bits x) ≡ 2
verdict_wide x = search rules

abbrev pub verdicts : KindOf verdict_gates verdict_results
verdicts = record {
  Element = Verdict;
  op = verdict_product;
  unit = verdict_unit;
  bits = verdict_bits;
  laws = record { assoc = verdict_associative; left = verdict_left; right = λ x. refl };
  fits = record { wide = verdict_wide; template = verdict_template; formed = refl; reaching = refl };
}

abbrev pub maps : KindOf map_gates map_results
maps = record {
  Element = Map;
  op = map_product;
  unit = map_unit;
  bits = map_bits;
  laws = record { assoc = map_associative; left = λ x. refl; right = map_right };
  fits = record { wide = λ x. refl; template = map_template; formed = refl; reaching = refl };
}

abbrev pub kind_of : (b : Block) → KindOf (template b) (results b)
kind_of Adder = carries
kind_of Comparator = verdicts
kind_of GrayDecoder = parities
kind_of (MachineBlock m) = maps

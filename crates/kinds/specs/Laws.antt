-- The laws of the four kinds, for the proofs that speak of their definitions and hold no value of the kind.
use Rattle.std.proofs.Common.{rules}
use Rattle.std.specs.Prelude.{◌≡◌, Bool}
use Rattle.kinds.specs.Template.{shown}
use Rattle.kinds.specs.Carry.{carry_unit, carry_product, carry_bits, carry_gates, carry_results}
use Rattle.kinds.specs.Parity.{parity_unit, parity_product, parity_bits, parity_gates, parity_results}
use Rattle.kinds.specs.Verdict.{verdict_unit, verdict_product, verdict_bits, verdict_gates, verdict_results}
use Rattle.kinds.specs.Map.{map_unit, map_product, map_bits, map_gates, map_results}
use Rattle.kinds.specs.declared.elements.Carry.{Carry}
use Rattle.kinds.specs.declared.elements.Verdict.{Verdict}
use Rattle.kinds.specs.declared.elements.Map.{Map}
use Rattle.kinds.specs.Select.{selects_low, selects_high}

pub carry_associative : (x y z : Carry) → carry_product (carry_product x y) z ≡ carry_product x (carry_product y z)
carry_associative x y z = search rules

pub carry_left : (x : Carry) → carry_product carry_unit x ≡ x
carry_left x = search rules

pub carry_right : (x : Carry) → carry_product x carry_unit ≡ x
carry_right x = search rules

pub carry_template : (l h : Carry) → shown carry_gates carry_results (carry_bits l) (carry_bits h) ≡ carry_bits (carry_product l h)
carry_template l h = search rules

pub parity_associative : (x y z : Bool) → parity_product (parity_product x y) z ≡ parity_product x (parity_product y z)
parity_associative x y z = search rules

pub parity_right : (x : Bool) → parity_product x parity_unit ≡ x
parity_right x = search rules

pub parity_template : (l h : Bool) → shown parity_gates parity_results (parity_bits l) (parity_bits h) ≡ parity_bits (parity_product l h)
parity_template l h = search rules

pub verdict_associative : (x y z : Verdict) → verdict_product (verdict_product x y) z ≡ verdict_product x (verdict_product y z)
verdict_associative x y z = search rules

pub verdict_left : (x : Verdict) → verdict_product verdict_unit x ≡ x
verdict_left x = search rules

pub verdict_template : (l h : Verdict) → shown verdict_gates verdict_results (verdict_bits l) (verdict_bits h) ≡ verdict_bits (verdict_product l h)
verdict_template l h = search rules

pub map_associative : (x y z : Map) → map_product (map_product x y) z ≡ map_product x (map_product y z)
map_associative x y z = search rules

pub map_right : (x : Map) → map_product x map_unit ≡ x
map_right x = search rules

pub map_template : (l h : Map) → shown map_gates map_results (map_bits l) (map_bits h) ≡ map_bits (map_product l h)
map_template l h = simp (selects_low, selects_high)

use Rattle.std.proofs.Common.{sym, ◌∙◌, ap}
use Rattle.wat_value.specs.Order.{value_cmp, key_cmp, place_cmp}
use Rattle.wat_value.specs.OrderLaws.{value_cmp_total, value_cmp_level, value_cmp_refl, key_cmp_total, key_cmp_level, key_cmp_refl, place_cmp_total, place_cmp_level, place_cmp_refl}
use Rattle.wat_value.proofs.laws.order_laws.Goals as goal

pub returns-clause-total : goal.returns-clause-total
returns-clause-total c = value_cmp_total

pub returns-clause-level : goal.returns-clause-level
returns-clause-level c v w = (value_cmp_level v w, λ e. ap (value_cmp v) (sym e) ∙ value_cmp_refl v)

pub returns-clause-keys_total : goal.returns-clause-keys_total
returns-clause-keys_total c = key_cmp_total

pub returns-clause-keys_level : goal.returns-clause-keys_level
returns-clause-keys_level c a b = (key_cmp_level a b, λ e. ap (key_cmp a) (sym e) ∙ key_cmp_refl a)

pub returns-clause-places_total : goal.returns-clause-places_total
returns-clause-places_total c = place_cmp_total

pub returns-clause-places_level : goal.returns-clause-places_level
returns-clause-places_level c p q = (place_cmp_level p q, λ e. ap (place_cmp p) (sym e) ∙ place_cmp_refl p)

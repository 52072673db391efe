use Rattle.std.proofs.Common.{◌≡◌, map, drop}
use Rattle.wat_schema.specs.Catalog.{ascend}
use Rattle.wat_catalog_chain.proofs.reading.are_in_order.Given as goal

abbrev pub invariant-loop-def : goal.invariant-loop-def
invariant-loop-def l = (ascend 0 (map (λ def. def.number) l.defs) l.next ≡ ascend l.low (map (λ def. def.number) (drop l.def-index l.defs)) l.next)

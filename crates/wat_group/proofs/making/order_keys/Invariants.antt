use Rattle.std.proofs.Common.{◌≡◌, ◌++◌, map, drop}
use Rattle.wat_group.specs.Query.{has_error, order_outcome, order_key}
use Rattle.wat_group.specs.Private.{over_of}
use Rattle.wat_group.proofs.making.order_keys.Given as goal

abbrev pub invariant-loop-item : goal.invariant-loop-item
invariant-loop-item l = record {
  no_error : has_error (map (order_outcome l.query (over_of l.at)) (drop l.item-index l.item-items)) ≡ has_error (map (order_outcome l.query (over_of l.at)) l.item-items);
  keys : l.keys ++ map (order_key l.query (over_of l.at)) (drop l.item-index l.item-items) ≡ map (order_key l.query (over_of l.at)) l.item-items;
}

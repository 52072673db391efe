use Rattle.std.proofs.Common.{rules, not}
use Rattle.std.proofs.lemmas.List.Sorted.{IsPartitionPoint-from_clause}
use Rattle.wat_value.specs.Bounds.{is_above}
use Rattle.wat_index.proofs.SearchLemmas.{found_at, cut_first}
use Rattle.wat_index.proofs.vec_index.first_admitted.Goals as goal

pub returns : goal.returns
returns c =
    let from = c.args.from.now in
    let keys = c.args.keys.now in
    found_at (is_above from) keys c.partition_point.result (IsPartitionPoint-from_clause (λ key. not (is_above from key)) keys c.partition_point.result c.partition_point.ensures.partitioned (cut_first from keys c.requires) (λ a r f k. search rules))

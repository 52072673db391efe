use Rattle.std.proofs.Common.{map}
use Rattle.sqlite_keyed.proofs.SortLemmas.{IsPermutation-sort_by}
use Rattle.wat_value.specs.Indexes.{index_key}
use Rattle.wat_value.specs.Order.{key_cmp}
use Rattle.wat_value.specs.OrderLaws.{key_cmp_total}
use Rattle.wat_value.proofs.IndexLemmas.{keys_rise}
use Rattle.wat_value.proofs.laws.index_laws.Goals as goal

pub returns-clause-same : goal.returns-clause-same
returns-clause-same c def indexes index rows = IsPermutation-sort_by key_cmp key_cmp_total (map (index_key def indexes index) rows)

pub returns-clause-rising : goal.returns-clause-rising
returns-clause-rising c def indexes index rows one = keys_rise def indexes index rows one

-- What tables in memory with their indexes stand for is such as a source of rows stands for.
use Rattle.std.proofs.Common.{◌≡◌, List, [], subst}
use Rattle.wat_list.specs.Has.{Has}
use Rattle.wat_isolation.specs.Sql.{IndexName}
use Rattle.wat_index.specs.KeySets.{Key}
use Rattle.wat_scans.proofs.Found.{rows_fit}
use Rattle.wat_visits.specs.Sourced.{Sourced, IsSourced}
use Rattle.wat_indexed.specs.Indexed.{Indexed, StandsFor}

pub is_sourced : (x : Indexed) (s : Sourced) → StandsFor x s → IsSourced s
is_sourced x s h = record {
  fit = rows_fit s.schema s.rows x.tables h.of;
  wide = λ i key l here at. absurd (subst (λ (z : List (IndexName × Key)). Has (i, key) z) h.none here);
}

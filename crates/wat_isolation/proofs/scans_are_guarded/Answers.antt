-- Each clause is a field of what holds after every list of events.
use Rattle.wat_isolation.specs.Machine.{start, run}
use Rattle.wat_isolation.specs.Sql.{sql}
use Rattle.wat_isolation.proofs.Footprints.{footprint_same}
use Rattle.wat_isolation.proofs.Unchanged.{unchanged_within}
use Rattle.wat_isolation.proofs.Whole.{all_hold}
use Rattle.wat_isolation.proofs.scans_are_guarded.Goals as goal

pub returns-clause-guarded : goal.returns-clause-guarded
returns-clause-guarded c = λ g base es r d at h. (all_hold sql g base es r).kept.guarded d at h

pub returns-clause-footprints : goal.returns-clause-footprints
returns-clause-footprints c = λ g base es r e may d ne at h. footprint_same sql (run sql es (start sql g base)) (all_hold sql g base es r).kept e may d ne at h

pub returns-clause-unchanged : goal.returns-clause-unchanged
returns-clause-unchanged c = λ g base es runs d r after wants next may e ne at h x within key. unchanged_within sql (run sql es (start sql g base)) (all_hold sql g base es runs).kept d r after wants next may e ne at h x within key

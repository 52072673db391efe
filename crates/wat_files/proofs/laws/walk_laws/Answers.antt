use Rattle.wat_files.proofs.Walking.{never_both, fails_once, tables_once}
use Rattle.wat_files.proofs.laws.walk_laws.Goals as goal

pub returns : goal.returns
returns c = record { never_both = never_both; one_place = fails_once; opens_once = tables_once }

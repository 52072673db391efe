use Rattle.wat_files_worked.proofs.Agreeing.{is_sound}
use Rattle.wat_files_worked.proofs.Broken.{no_gate, no_header, no_catalog, no_rows, log_cut, log_short, record_bad}
use Rattle.wat_files_worked.proofs.Headed.{is_twice, place_wrong}
use Rattle.wat_files_worked.proofs.laws.worked_laws.Goals as goal

pub returns : goal.returns
returns c = record { whole = is_sound; gate = no_gate; header = no_header; catalog = no_catalog; twice = is_twice; rows = no_rows; log = log_cut; frames = log_short; place = place_wrong; record_ = record_bad }

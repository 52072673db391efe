use Rattle.wat_files.proofs.Lawful.{stands_lawful, now_lawful, formed_opens}
use Rattle.wat_files.proofs.laws.formed_laws.Goals as goal

pub returns : goal.returns
returns c = record { stands = stands_lawful; now = now_lawful; opens = formed_opens }

use Rattle.wat_log_record.proofs.Cancelling.{records, spelled_once, log_once, writable}
use Rattle.wat_log_record.proofs.laws.spelling_laws.Goals as goal

pub returns-clause-apart : goal.returns-clause-apart
returns-clause-apart c = records

pub returns-clause-body : goal.returns-clause-body
returns-clause-body c = spelled_once

pub returns-clause-log : goal.returns-clause-log
returns-clause-log c = log_once

pub returns-clause-writable : goal.returns-clause-writable
returns-clause-writable c = writable

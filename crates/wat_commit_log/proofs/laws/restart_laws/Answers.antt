use Rattle.wat_commit_log.proofs.Committing.{restarts_committed}
use Rattle.wat_commit_log.proofs.LogLaws.{restarts_once, restarts_empty, restarts_more}
use Rattle.wat_commit_log.proofs.laws.restart_laws.Goals as goal

pub returns : goal.returns
returns c = record { once = restarts_once; committed = restarts_committed; empty = restarts_empty; added = restarts_more }

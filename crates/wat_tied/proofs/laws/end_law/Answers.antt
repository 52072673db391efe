use Rattle.std.proofs.Common.{◌≢◌, [], ◌∷◌, inl, inr}
use Rattle.wat_steps.specs.Answering.{answered, rolled_back}
use Rattle.wat_steps.specs.Statements.{back_to, altered, answer_saying, next_number}
use Rattle.wat_steps.specs.Step.{closed}
use Rattle.wat_meaning.specs.Meaning.{meaning}
use Rattle.wat_tied.proofs.Altered.{altered_tied}
use Rattle.wat_tied.proofs.Backs.{back_tied}
use Rattle.wat_tied.proofs.Committing.{commit_tied}
use Rattle.wat_tied.proofs.Ended.{deadlock_tied, rollback_tied, closing_tied}
use Rattle.wat_conn.specs.declared.answer.Answer.TheVariants.{Given}
use Rattle.wat_conn.specs.declared.answer.Reply.TheVariants.{RolledBack}
use Rattle.wat_tied.proofs.Schemes.{IsMade, IsRefusedOrMade, schema_meant}
use Rattle.wat_tied.proofs.Refused.{same_tied}
use Rattle.wat_tied.proofs.laws.end_law.Goals as goal

pub returns-clause-commits : goal.returns-clause-commits
returns-clause-commits x e after c tied going resting o opened span more first written read moment same = commit_tied e after c tied going resting o opened span more first written read moment same

pub returns-clause-rolls_back : goal.returns-clause-rolls_back
returns-clause-rolls_back x e after c tied resting o opened span more first written read same =
    same_tied (answered c (rolled_back c e) (Given RolledBack) []) after (rollback_tied e tied.ghost tied.ties c resting o opened span more first written read) same

pub returns-clause-breaks_off : goal.returns-clause-breaks_off
returns-clause-breaks_off x e after c run tied going under cycle same = deadlock_tied e after c run tied going under cycle same

pub returns-clause-closes : goal.returns-clause-closes
returns-clause-closes x e after c tied resting o opened none_left same = same_tied (closed c e) after (closing_tied e tied.ghost tied.ties c resting o opened none_left) same

pub returns-clause-goes_back : goal.returns-clause-goes_back
returns-clause-goes_back x e after c tied going resting span more first written read opening save earlier same = same_tied (back_to c save.0 (save ∷ earlier) e) after (back_tied e tied.ghost tied.ties c going resting span more first save earlier written read opening) same

pub returns-clause-alters : goal.returns-clause-alters
returns-clause-alters x e after c tied going closed_all span more first written read schema acts moment t applies same =
    same_tied (altered c moment (answer_saying (next_number e) (meaning e.now written).answer) (meaning e.now written).acts t e) after
    (altered_tied e tied.ghost tied.ties c going closed_all span more first written read schema (only_made (schema_meant e.now written schema) acts) moment t applies) same
  where
    only_made : IsRefusedOrMade e.now written → ((meaning e.now written).acts ≢ []) → IsMade (meaning e.now written).answer
    only_made (inl m) some = absurd (some m.2)
    only_made (inr m) some = m.0

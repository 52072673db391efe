-- Each step of a statement under way leaves the core tied.
use Rattle.std.proofs.Common.{◌≡◌, ℕ, Bool, true, false, List, [], ◌∷◌, map, sym, Option, Some, None, refl, ap, ◌∙◌, subst, inl, inr}
use Rattle.wat_value.specs.declared.change.Change.{Change}
use Rattle.wat_value.specs.declared.change.Change.TheVariants as change
use Rattle.wat_value.specs.Changes.{changed_table, row_before}
use Rattle.wat_schema.specs.Catalog.{Listing, listing_at}
use Rattle.wat_schema.specs.Tables.{Row}
use Rattle.wat_expr.specs.Evaluation.{Combination}
use Rattle.wat_locks.specs.declared.want.Want.{Want}
use Rattle.wat_locks.specs.declared.held.Against.{Against}
use Rattle.wat_scans.specs.declared.scan.Scan.{Scan}
use Rattle.wat_scans.specs.declared.scan.Seen.{Seen}
use Rattle.wat_scans.specs.declared.scan.Taken.{Taken}
use Rattle.wat_scans.specs.Look.{look}
use Rattle.wat_scans.specs.Running.{Run, Next, Next.ToVisit, Next.ToChange, Next.ToRefuse, Next.ToReply, next, after_visit, row_changed}
use Rattle.wat_scans.specs.Scans.{Progress}
use Rattle.wat_steps.specs.State.{CoreState, Progressed, schema_of, Progressed.Moved}
use Rattle.wat_steps.specs.Answering.{IsSame}
use Rattle.wat_steps.specs.Asking.{IsBlocked, Asks}
use Rattle.wat_steps.specs.Making.{standing_row, IsChange, IsChangeAt, changed}
use Rattle.wat_steps.specs.Visiting.{IsVisit, visited, wants_of}
use Rattle.wat_steps.specs.Step.{GoesOn}
use Rattle.wat_tied.specs.Ready.{IsReadyFor}
use Rattle.wat_tied.specs.Tied.{MeetsWith, IsTied}
use Rattle.wat_tied.proofs.Changed.{change_tied}
use Rattle.wat_tied.proofs.Ended.{deadlock_tied}
use Rattle.wat_tied.proofs.Granted.{working, visit_tied}
use Rattle.wat_tied.proofs.Keys as keys
use Rattle.wat_tied.proofs.Refused.{refuse_tied, locked_tied, failed_tied, duplicate_tied}
use Rattle.wat_parse.specs.declared.script.Span.{Span}
use Rattle.wat_parse.specs.Parsing.{parsed_at}
use Rattle.wat_value.specs.declared.change.Act.TheVariants.{OnRow}
use Rattle.wat_meaning.specs.declared.reply.Reply.{Reply as Meant}
use Rattle.wat_history.specs.Plain.{Plain}
use Rattle.wat_steps.specs.Answering.{entry_at}
use Rattle.wat_steps.specs.Statements.{answer_saying}
use Rattle.wat_tied.proofs.Plainly.{reply_is_plain}
use Rattle.wat_tied.proofs.Readied.{ready_now}
use Rattle.wat_tied.proofs.Replying.{reply_tied}
use Rattle.wat_tied.proofs.Updated.{waiting_tied}
use Rattle.wat_level.specs.Change.{change_wants}
use Rattle.wat_locks.specs.Held.{AreFree}

-- a row that is to be inserted has its key free, and any other change finds its row
finds : (e : CoreState) (l : Listing) (ch : Change) → listing_at (schema_of e) (changed_table ch) ≡ Some l → IsReadyFor e ch → standing_row e l ch ≡ None → look e.now (row_changed (schema_of e) ch) ≡ row_before ch
finds e l (change.Insert n row) listing ready free = ap (look e.now) (keys.name (schema_of e) l (change.Insert n row) listing) ∙ free
finds e l (change.Update n old new) listing ready free = ready.stands old refl
finds e l (change.Delete n old) listing ready free = ready.stands old refl

-- the next change is ready
pub next_ready : (e : CoreState) (c : ℕ) (run : Run) → (tied : IsTied e) → e.stop ≡ None → (e.connections c).work ≡ Some run → (ch : Change) → next run ≡ ToChange ch → IsReadyFor e ch
next_ready e c run tied going under ch coming = ready_now e tied.ghost tied.ties c run (working e tied c run going under) (subst (MeetsWith tied.ghost.state c) under (tied.ties.meets going c)) ch coming

-- the reply is plain
pub reply_plain_now : (e : CoreState) (c : ℕ) (run : Run) → (tied : IsTied e) → e.stop ≡ None → (e.connections c).work ≡ Some run → (r : Meant) → next run ≡ ToReply r → (span : Span) (more : List Span) → (e.connections c).left ≡ span ∷ more
    → (least : ℕ) → Plain least (schema_of e) (record { read = parsed_at (e.connections c).script span; entry = entry_at span (e.connections c).level (answer_saying 0 r) (map OnRow run.made) })
reply_plain_now e c run tied going under r coming span more first least =
    let was = working e tied c run going under in
    let both : was.span ∷ was.more ≡ span ∷ more = sym was.first ∙ first in
    let same : was.span ≡ span = cc in
    subst (λ (z : Span). Plain least (schema_of e) (record { read = parsed_at (e.connections c).script z; entry = entry_at z (e.connections c).level (answer_saying 0 r) (map OnRow run.made) })) same
    (reply_is_plain e tied.ghost tied.ties c run was (subst (MeetsWith tied.ghost.state c) under (tied.ties.meets going c)) r coming least)

module _ (e after : CoreState) (c : ℕ) (a : Progressed) (run : Run) (tied : IsTied e) (going : e.stop ≡ None) (under : (e.connections c).work ≡ Some run) where
  blocked_tied : (wants : List Want) (against : Against) (blocking : Bool) → IsBlocked c e run wants against blocking a after → IsTied after
  blocked_tied wants against false h = locked_tied e after c run tied going under against h.1
  blocked_tied wants against true (inl h) = deadlock_tied e after c run tied going under h.0 h.3
  blocked_tied wants against true (inr h) = waiting_tied e after c wants tied h.2

  visits_tied : (scan : Scan) (ts : List Taken) (met : List Combination) → next run ≡ ToVisit scan ts met → IsVisit c e run scan ts met a after → IsTied after
  visits_tied scan ts met coming h = by h.2
    where
      seen : Seen
      seen = h.0

      made : (o : Option Progress) → (after_visit run scan ts met seen).progress ≡ o → AreFree e.held c (wants_of run scan ts seen) → IsSame (visited c e run scan ts met seen).1 after → IsTied after
      made None goes free same = failed_tied e after c run tied going under scan ts met coming seen h.1 free goes same
      made (Some w) goes free same = visit_tied e after c run tied going under scan ts met coming seen h.1 free w goes same

      by : Asks c e run (wants_of run scan ts seen) (λ b later. let r = visited c e run scan ts met seen in (b ≡ r.0) × IsSame r.1 later) a after → IsTied after
      by (inl p) = made (after_visit run scan ts met seen).progress refl p.0 p.1.1
      by (inr q) = blocked_tied (wants_of run scan ts seen) q.0 (e.connections c).blocking q.2

  changes_tied : (ch : Change) → next run ≡ ToChange ch → IsReadyFor e ch → IsChange c e run ch a after → IsTied after
  changes_tied ch coming ready h = by (standing_row e h.0 ch) refl h.2
    where
      by : (o : Option Row) → standing_row e h.0 ch ≡ o → IsChangeAt c e run ch h.0 o a after → IsTied after
      by None stands k = asked k.2
        where
          asked : Asks c e run (change_wants h.0.def ch k.0) (λ b later. (b ≡ Moved) × IsSame (changed c e run h.0 ch k.0) later) a after → IsTied after
          asked (inl p) = change_tied e after c run tied going under ch coming ready.formed (finds e h.0 ch h.1 ready stands) h.0 h.1 k.0 k.1 p.0 p.1.1
          asked (inr q) = blocked_tied (change_wants h.0.def ch k.0) q.0 (e.connections c).blocking q.2
      by (Some other) stands (inl p) = duplicate_tied e after c run tied going under ch coming h.0 h.1 other stands p.0 p.1.1
      by (Some other) stands (inr q) = blocked_tied (change_wants h.0.def ch []) q.0 (e.connections c).blocking q.2

  pub works_tied : GoesOn c e run (next run) a after → IsTied after
  works_tied = by (next run) refl
    where
      by : (n : Next) → next run ≡ n → GoesOn c e run n a after → IsTied after
      by (ToVisit scan ts met) coming h = visits_tied scan ts met coming h
      by (ToChange ch) coming h = changes_tied ch coming (next_ready e c run tied going under ch coming) h
      by (ToRefuse x) coming h = refuse_tied e after c run tied going under x coming h.1
      by (ToReply r) coming h = reply_tied e after c run tied going under r coming h.1

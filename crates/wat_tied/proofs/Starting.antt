-- Each statement that is answered at once, or begun, leaves the core tied.
use Rattle.std.proofs.Common.{◌≡◌, ℕ, true, false, is_some, List, [], ◌∷◌, unwrap_or, Option, Some, None, Result, Ok, Err, refl, sym, ap, ◌∙◌, subst, ◌≢◌, inl, inr, ⊎_elim}
use Rattle.wat_value.specs.Changes.{RowName}
use Rattle.wat_ast.specs.declared.statement.Statement.{Statement}
use Rattle.wat_ast.specs.declared.statement.Statement.TheVariants as s
use Rattle.wat_parse.specs.declared.script.Span.{Span}
use Rattle.wat_parse.specs.Parsing.{parsed_at}
use Rattle.wat_schema.specs.declared.refusal.Refusal.{Refusal}
use Rattle.wat_schema.specs.declared.refusal.Refusal.TheVariants.{Syntax, NoSavepoint}
use Rattle.wat_schema.specs.Catalog.{Catalog, Name}
use Rattle.wat_schema.specs.Tables.{Row, Tables}
use Rattle.wat_names.specs.Places.{placed_statement}
use Rattle.wat_names.specs.Refusals.{first, or_refused}
use Rattle.wat_rules.specs.Check.{check, refusals}
use Rattle.wat_meaning.specs.Meaning.{meaning, has_meaning}
use Rattle.wat_conn.specs.declared.answer.Answer.{Answer}
use Rattle.wat_conn.specs.declared.answer.Answer.TheVariants.{Given, Refused, OpenTransaction as TransactionIsOpen}
use Rattle.wat_conn.specs.declared.answer.Reply.TheVariants as reply
use Rattle.wat_history.specs.Serial.{Means, says}
use Rattle.wat_scans.specs.Look.{IsOf}
use Rattle.wat_scans.specs.Running.{Run}
use Rattle.wat_scans.specs.Told.{IsStepped}
use Rattle.wat_steps.specs.State.{OpenTransaction, ConnectionState, CoreState, Progressed, schema_of, with_connection}
use Rattle.wat_steps.specs.Answering.{IsSame, no_changes, transaction_of, with_transaction, opened, answered, with_answer, rolled_back, rolled_back_from}
use Rattle.wat_steps.specs.Statements.{IsOpen, with_savepoint, back_to, released, saves_from, committed, answer_saying, altered, next_number, Alters, IsSchemaStep, begun, Begins, with_level, with_blocking}
use Rattle.wat_steps.specs.Step.{Starts, IsRead, closed}
use Rattle.wat_tied.specs.Tied.{parts_in, stood_in, GoesWith, IsInside, MeetsWith, IsTied, AreStanding, IsIdle, standing_in}
use Rattle.wat_tied.proofs.Altered.{altered_tied}
use Rattle.wat_tied.proofs.Answered.{done, part_of}
use Rattle.wat_tied.proofs.Backs.{back_tied}
use Rattle.wat_tied.proofs.Begun.{here, begun_tied}
use Rattle.wat_tied.proofs.Committing.{commit_tied}
use Rattle.wat_tied.proofs.Ended.{rollback_tied, closing_tied}
use Rattle.wat_tied.proofs.Entered.{but_itself, entered_tied, says_nothing, no_meaning, check_refuses}
use Rattle.wat_tied.proofs.Granted.{there}
use Rattle.wat_tied.proofs.Quiet.{quiet_tied}
use Rattle.wat_tied.proofs.Refused.{same_tied}
use Rattle.wat_tied.proofs.Renewed.{has_work}
use Rattle.wat_tied.proofs.Schemes.{IsMade, opens_none, schema_meant}
use Rattle.wat_tied.proofs.Telling.{IsPlainAnswer, told_next, no_commit, told_joins, told_idles, told_stays, told_ended, none_open, unread_stays}
use Rattle.wat_tied.proofs.Updated.{with_tied}
use Rattle.wat_tied.specs.Told.{parts_told, stands_told, commits_told, IsTold}
use Rattle.wat_history.specs.Connection.{Part, Connection, opens, is_done}
use Rattle.wat_history.specs.History.{committed_by}
use Rattle.wat_history.specs.Plain.{IsPlainAnswer as IsPlainTold}
use Rattle.wat_rules.specs.Changes.{changes_schema}
use Rattle.wat_meaning.specs.declared.reply.Reply.{Reply as Meant}
use Rattle.wat_meaning.specs.declared.reply.Reply.TheVariants as meant

same_self : (e : CoreState) → IsSame e e
same_self e = record { held = λ h. (λ z. z, λ z. z); vacant = λ v. (λ z. z, λ z. z); others = refl }

stood_is : (t : Option OpenTransaction) → (unwrap_or t no_changes).standing ≡ stood_in t
stood_is None = refl
stood_is (Some t) = refl

placed_stepped : (c : Catalog) (x : Statement) → IsStepped x → IsStepped (placed_statement c x)
placed_stepped c (s.Insert a b d) h = tt
placed_stepped c (s.Update a b d) h = tt
placed_stepped c (s.Delete a b) h = tt
placed_stepped c (s.Select a) h = tt
placed_stepped c (s.CreateTable a b) h = absurd h
placed_stepped c (s.CreateIndex a b d) h = absurd h
placed_stepped c (s.DropTable a) h = absurd h
placed_stepped c s.Commit h = absurd h
placed_stepped c s.Rollback h = absurd h
placed_stepped c s.Checkpoint h = absurd h
placed_stepped c (s.Savepoint a) h = absurd h
placed_stepped c (s.RollbackTo a) h = absurd h
placed_stepped c (s.Release a) h = absurd h
placed_stepped c (s.SetLevel a) h = absurd h
placed_stepped c (s.SetBlocking a) h = absurd h

checked_kind : (x statement : Statement) (refusal : Option Refusal) → or_refused x refusal ≡ Ok statement → IsStepped x → IsStepped statement
checked_kind x statement None is stepped = let same : x ≡ statement = cc in subst IsStepped same stepped
checked_kind x statement (Some refusal) is stepped = absurd (cc)

checked_stepped : (c : Catalog) (written statement : Statement) → check c written ≡ Ok statement → IsStepped written → IsStepped statement
unfolding check
checked_stepped c written statement checked stepped = checked_kind (placed_statement c written) statement (first (refusals c written)) checked (placed_stepped c written stepped)

module _ (e after : CoreState) (c : ℕ) (tied : IsTied e) (going : e.stop ≡ None) (resting : (e.connections c).work ≡ None) where
  -- ---- the end of the script

  ends_quiet : (e.connections c).left ≡ [] → (t : Option OpenTransaction) → (e.connections c).transaction ≡ t → IsTied (closed c e)
  ends_quiet none_left (Some o) at = closing_tied e tied.ghost tied.ties c resting o at none_left
  ends_quiet none_left None at =
      let rolled : rolled_back c e ≡ e = ap (λ t. rolled_back_from c t e) at in
      subst (λ (z : CoreState). IsTied (with_connection c (record (z.connections c) { has_ended = true }) z)) (sym rolled) (record {
        ghost = tied.ghost;
        ties = with_tied e tied.ghost c (record (e.connections c) { has_ended = true }) tied.ties (record {
          standing = tied.ties.standing c;
          idle = tied.ties.idle c;
          works = λ on. subst (λ (w : Option Run). GoesWith (schema_of e) (record (e.connections c) { has_ended = true }) w (tied.ghost.work c)) (sym resting)
              (subst (λ (w : Option Run). GoesWith (schema_of e) (e.connections c) w (tied.ghost.work c)) resting (tied.ties.works on c));
          meets = λ on. tied.ties.meets on c;
          told = told_ended (e.connections c) (parts_in (tied.ghost.entries c)) none_left;
          commits = refl;
          adds = inl refl;
          outside = λ out. let is = tied.ties.outside c out in record { no_transaction = is.no_transaction; none_left = is.none_left };
        });
      })

  pub script_ends : (e.connections c).left ≡ [] → IsSame (closed c e) after → IsTied after
  script_ends none_left same = same_tied (closed c e) after (ends_quiet none_left (e.connections c).transaction refl) same

  module _ (span : Span) (more : List Span) (first_left : (e.connections c).left ≡ span ∷ more) where
    present : (IsInside e c → ⊥) → ⊥
    present = has_work e tied.ghost tied.ties c span more first_left

    -- ---- what the transcript tells

    abbrev parts : List Part
    parts = parts_in (tied.ghost.entries c)

    told : IsTold (e.connections c) parts
    told = tied.ties.told c

    running : (e.connections c).has_ended ≡ false
    running = told.goes span more first_left

    -- ---- an answer at once

    -- a text that is no statement
    unread : (answer : Answer) (at : ℕ) → parsed_at (e.connections c).script span ≡ Err at → ((d : Connection) (p : Part) → committed_by d p answer ≡ []) → ((d : Catalog) (p : Part) → IsPlainTold d p answer) → IsTied (answered c e answer [])
    unread answer at failed none tells = quiet_tied e c answer tied going resting span more first_left
        (told_stays (e.connections c) (done span more (e.connections c) answer []) span answer [] refl refl more first_left parts told refl (unread_stays (stands_told (e.connections c)) (part_of (e.connections c) span answer []) at failed) refl (λ w. resting))
        (no_commit (e.connections c) (done span more (e.connections c) answer []) span answer [] refl refl none)
        (inr (part_of (e.connections c) span answer [], told_next (e.connections c) (done span more (e.connections c) answer []) span answer [] refl refl, λ low. tells (schema_of e) (part_of (e.connections c) span answer [])))

    module _ (written : Statement) (read : parsed_at (e.connections c).script span ≡ Ok written) where
      -- no transaction is open, and none is opened
      quiet_none : (answer : Answer) → opens written ≡ false → is_done answer ≡ true → ((d : Connection) (p : Part) → committed_by d p answer ≡ []) → ((d : Catalog) (p : Part) → IsPlainTold d p answer) → (e.connections c).transaction ≡ None → IsTied (answered c e answer [])
      quiet_none answer opens_none is none tells at = quiet_tied e c answer tied going resting span more first_left
          (subst (λ z. IsTold (done span more (e.connections c) answer []) (parts_in z)) (sym (subst (IsIdle (tied.ghost.state.conns c) (tied.ghost.entries c) (tied.ghost.work c)) at (tied.ties.idle c)).1)
          (told_idles (e.connections c) (done span more (e.connections c) answer []) span answer [] refl refl more first_left parts told refl written read is opens_none (none_open (e.connections c) parts told running resting at) at))
          (no_commit (e.connections c) (done span more (e.connections c) answer []) span answer [] refl refl none)
          (inr (part_of (e.connections c) span answer [], told_next (e.connections c) (done span more (e.connections c) answer []) span answer [] refl refl, λ low. tells (schema_of e) (part_of (e.connections c) span answer [])))

      quiet : (answer : Answer) → opens written ≡ false → IsPlainAnswer answer → ((f : RowName → Option Row) (t : Tables) → IsOf (schema_of e) f t → Means 3 t (part_of (e.connections c) span answer [])) → IsTied (answered c e answer [])
      quiet answer opens_none plain means = by (e.connections c).transaction refl
        where
          by : (t : Option OpenTransaction) → (e.connections c).transaction ≡ t → IsTied (answered c e answer [])
          by None at = quiet_none answer opens_none plain.done plain.commits_none plain.tells at
          by (Some t) at = entered_tied e tied.ghost tied.ties c going resting e (e.connections c) (but_itself e c) t at (sym (ap stood_in at)) span more first_left present answer means
              (told_joins (e.connections c) (done span more (e.connections c) answer []) span answer [] refl refl more first_left parts told refl written read plain.done plain.lasts
              (inr (sym (told.opens running resting) ∙ ap is_some at)) (ap is_some at))
              (no_commit (e.connections c) (done span more (e.connections c) answer []) span answer [] refl refl plain.commits_none)
              (inr (part_of (e.connections c) span answer [], told_next (e.connections c) (done span more (e.connections c) answer []) span answer [] refl refl, λ low. plain.tells (schema_of e) (part_of (e.connections c) span answer [])))

      said_nothing : (answer : Answer) → opens written ≡ false → IsPlainAnswer answer → says answer ≡ None → IsTied (answered c e answer [])
      said_nothing answer opens_none plain none = quiet answer opens_none plain (λ f t is. says_nothing (e.connections c) span answer none t)

      -- ---- an entry of a transaction that is open then

      opens_one : (t : OpenTransaction) → t.standing ≡ (transaction_of c e).standing → (answer : Answer) → opens written ≡ true → IsPlainAnswer answer
          → ((f : RowName → Option Row) (tables : Tables) → IsOf (schema_of e) f tables → Means 3 tables (part_of (e.connections c) span answer [])) → IsTied (answered c (with_transaction c t e) answer [])
      opens_one t stands answer opening plain means =
          let before : ConnectionState = record (e.connections c) { transaction = Some t } in
          entered_tied e tied.ghost tied.ties c going resting (with_transaction c t e) before (record { here = here e c before; there = there e c before; rest = refl }) t refl (stands ∙ stood_is (e.connections c).transaction)
          span more first_left present answer means
          (told_joins (e.connections c) (done span more before answer []) span answer [] refl refl more first_left parts told refl written read plain.done plain.lasts (inl opening) refl)
          (no_commit (e.connections c) (done span more before answer []) span answer [] refl refl plain.commits_none)
          (inr (part_of (e.connections c) span answer [], told_next (e.connections c) (done span more before answer []) span answer [] refl refl, λ low. plain.tells (schema_of e) (part_of (e.connections c) span answer [])))

    -- ---- options

    answered_rests : (answer : Answer) → ((answered c e answer []).connections c).work ≡ None
    answered_rests answer = ap (λ (z : ConnectionState). z.work) (here e c (record (with_answer (e.connections c).left (e.connections c) answer []) { work = None; request = None }))

    keeps_option : (x : CoreState) (now : IsTied x) → (x.connections c).work ≡ None → (k : ConnectionState) → k.transaction ≡ (x.connections c).transaction → k.left ≡ (x.connections c).left → k.work ≡ (x.connections c).work
        → (IsTold (x.connections c) (parts_in (now.ghost.entries c)) → IsTold k (parts_in (now.ghost.entries c))) → commits_told k ≡ commits_told (x.connections c) → parts_told k ≡ parts_told (x.connections c) → IsTied (with_connection c k x)
    keeps_option x now rests k transaction left work tells commits same_parts = record {
      ghost = now.ghost;
      ties = with_tied x now.ghost c k now.ties (record {
        standing = stands_still;
        idle = idle_still;
        works = λ on. subst (λ (w : Option Run). GoesWith (schema_of x) k w (now.ghost.work c)) (sym (work ∙ rests))
            (subst (λ (w : Option Run). GoesWith (schema_of x) (x.connections c) w (now.ghost.work c)) rests (now.ties.works on c));
        meets = λ on. subst (MeetsWith now.ghost.state c) (sym work) (now.ties.meets on c);
        told = tells (now.ties.told c);
        commits = commits;
        adds = inl same_parts;
        outside = λ out. let is = now.ties.outside c out in record { no_transaction = transaction ∙ is.no_transaction; none_left = left ∙ is.none_left };
      });
    }
      where
        stands_still : AreStanding (schema_of x) (standing_in k.transaction k.work) (now.ghost.state.conns c).standing
        stands_still = subst (λ z. AreStanding (schema_of x) z (now.ghost.state.conns c).standing) (λ j. standing_in (sym transaction j) (sym work j)) (now.ties.standing c)

        idle_still : IsIdle (now.ghost.state.conns c) (now.ghost.entries c) (now.ghost.work c) k.transaction
        idle_still = subst (IsIdle (now.ghost.state.conns c) (now.ghost.entries c) (now.ghost.work c)) (sym transaction) (now.ties.idle c)

    -- ---- COMMIT and ROLLBACK

    commits : (moment : ℕ) (t : Option OpenTransaction) → parsed_at (e.connections c).script span ≡ Ok s.Commit → (e.connections c).transaction ≡ t → IsSame (committed c moment t e) after → IsTied after
    commits moment None read at same = same_tied (answered c e (Given reply.NothingToCommit) []) after (quiet_none s.Commit read (Given reply.NothingToCommit) refl refl (λ d p. refl) (λ d p. tt) at) same
    commits moment (Some o) read at same = commit_tied e after c tied going resting o at span more first_left s.Commit read moment same

    rolls_back : (t : Option OpenTransaction) → parsed_at (e.connections c).script span ≡ Ok s.Rollback → (e.connections c).transaction ≡ t → IsTied (answered c (rolled_back c e) (Given reply.RolledBack) [])
    rolls_back (Some o) read at = rollback_tied e tied.ghost tied.ties c resting o at span more first_left s.Rollback read
    rolls_back None read at = subst (λ (z : CoreState). IsTied (answered c z (Given reply.RolledBack) [])) (sym (ap (λ t. rolled_back_from c t e) at)) (quiet_none s.Rollback read (Given reply.RolledBack) refl refl (λ d p. refl) (λ d p. tt) at)

    -- ---- savepoints

    module _ (written : Statement) (read : parsed_at (e.connections c).script span ≡ Ok written) (opening : opens written ≡ true) where
      no_savepoint : (name : Name) → has_meaning written ≡ false → IsTied (answered c (opened c e) (Refused (NoSavepoint name)) [])
      no_savepoint name none = opens_one written read (transaction_of c e) refl (Refused (NoSavepoint name)) opening (record { done = refl; lasts = refl; commits_none = λ d p. refl; tells = λ d p. tt }) (λ f t is. no_meaning (e.connections c) span (Refused (NoSavepoint name)) written read none t)

      goes_back : (name : Name) → has_meaning written ≡ false → (saves : List (Name × ℕ)) → IsTied (back_to c name saves e)
      goes_back name none [] = no_savepoint name none
      goes_back name none (save ∷ earlier) = back_tied e tied.ghost tied.ties c going resting span more first_left save earlier written read opening

      releases : (name : Name) → has_meaning written ≡ false → (saves : List (Name × ℕ)) → IsTied (released c name saves e)
      releases name none [] = no_savepoint name none
      releases name none (save ∷ earlier) = opens_one written read (record (transaction_of c e) { savepoints = earlier }) refl (Given reply.Released) opening (record { done = refl; lasts = refl; commits_none = λ d p. refl; tells = λ d p. tt })
          (λ f t is. says_nothing (e.connections c) span (Given reply.Released) refl t)

      -- ---- statements on rows

      begins : IsStepped written → (a : Progressed) → Begins c e written a after → IsTied after
      begins stepped a h = by (check (schema_of e) written) refl h.1
        where
          by : (r : Result Statement Refusal) → check (schema_of e) written ≡ r → IsSame (begun c (opened c e) r).1 after → IsTied after
          by (Err refusal) at same = same_tied (answered c (opened c e) (Refused refusal) []) after
              (opens_one written read (transaction_of c e) refl (Refused refusal) opening (record { done = refl; lasts = refl; commits_none = λ d p. refl; tells = λ d p. tt }) (check_refuses (schema_of e) (e.connections c) span written refusal read at)) same
          by (Ok x) at same = begun_tied e after c tied resting span more first_left written read x at (checked_stepped (schema_of e) written x at stepped) same

    -- ---- schema statements

    none_some : (o : OpenTransaction) (t : Option OpenTransaction) → t ≡ None → t ≡ Some o → ⊥
    none_some o t a b = cc

    all_closed : ((d : ℕ) → IsOpen e d → ⊥) → (d : ℕ) → (e.connections d).transaction ≡ None
    all_closed none d = by (e.connections d).transaction refl
      where
        by : (t : Option OpenTransaction) → (e.connections d).transaction ≡ t → (e.connections d).transaction ≡ None
        by None at = at
        by (Some t) at = absurd (none_some t (e.connections d).transaction (tied.ties.outside d (λ i. none d (record { from_one = i.from_one; within = i.within; has_transaction = ap is_some at }))).no_transaction at)

    module _ (written : Statement) (read : parsed_at (e.connections c).script span ≡ Ok written) (schema : changes_schema written ≡ true) where
      refused_none : (refusal : Refusal) (r : Meant) → r ≡ meant.Refused refusal → (e.connections c).transaction ≡ None → IsTied (answered c e (answer_saying 0 r) [])
      refused_none refusal r is at = subst (λ z. IsTied (answered c e (answer_saying 0 z) [])) (sym is) (quiet_none written read (Refused refusal) (opens_none written schema) refl (λ d p. refl) (λ d p. tt) at)

      alters : ((d : ℕ) → IsOpen e d → ⊥) → Alters c e written after → IsTied after
      alters none (inl h) = ⊎_elim
          (λ (m : (refusal : Refusal) × ((meaning e.now written).answer ≡ meant.Refused refusal) × ((meaning e.now written).acts ≡ [])).
          same_tied (answered c e (answer_saying 0 (meaning e.now written).answer) []) after (refused_none m.0 (meaning e.now written).answer m.1 (all_closed none c)) h.1)
          (λ (m : IsMade (meaning e.now written).answer × ((meaning e.now written).acts ≢ [])). absurd (m.1 h.0))
          (schema_meant e.now written schema)
      alters none (inr h) = ⊎_elim
          (λ (m : (refusal : Refusal) × ((meaning e.now written).answer ≡ meant.Refused refusal) × ((meaning e.now written).acts ≡ [])). absurd (h.2 m.2))
          (λ (m : IsMade (meaning e.now written).answer × ((meaning e.now written).acts ≢ [])).
          same_tied (altered c h.1 (answer_saying (next_number e) (meaning e.now written).answer) (meaning e.now written).acts h.0 e) after
          (altered_tied e tied.ghost tied.ties c going (all_closed none) span more first_left written read schema m.0 h.1 h.0 h.3) h.4)
          (schema_meant e.now written schema)

      schema_step : IsSchemaStep c e written after → IsTied after
      schema_step (inl h) = same_tied (answered c e (TransactionIsOpen h.0) []) after (said_nothing written read (TransactionIsOpen h.0) (opens_none written schema) (record { done = refl; lasts = refl; commits_none = λ d p. refl; tells = λ d p. tt }) refl) h.2
      schema_step (inr h) = alters h.0 h.1

    option_set : (written : Statement) → parsed_at (e.connections c).script span ≡ Ok written → opens written ≡ false → IsTied (answered c e (Given reply.OptionSet) [])
    option_set written read opens_none = said_nothing written read (Given reply.OptionSet) opens_none (record { done = refl; lasts = refl; commits_none = λ d p. refl; tells = λ d p. tt }) refl

    -- ---- all of them

    starts : (x : Statement) → parsed_at (e.connections c).script span ≡ Ok x → (a : Progressed) → Starts c e x a after → IsTied after
    starts (s.SetLevel level) read a h = same_tied (with_level c level (answered c e (Given reply.OptionSet) [])) after
        (keeps_option (answered c e (Given reply.OptionSet) []) (option_set (s.SetLevel level) read refl) (answered_rests (Given reply.OptionSet)) (record ((answered c e (Given reply.OptionSet) []).connections c) { level = level }) refl refl refl
        (λ t. record { goes = t.goes; open_parts = t.open_parts; opens = t.opens }) refl refl) h.1
    starts (s.SetBlocking on) read a h = same_tied (with_blocking c on (answered c e (Given reply.OptionSet) [])) after
        (keeps_option (answered c e (Given reply.OptionSet) []) (option_set (s.SetBlocking on) read refl) (answered_rests (Given reply.OptionSet)) (record ((answered c e (Given reply.OptionSet) []).connections c) { blocking = on }) refl refl refl
        (λ t. record { goes = t.goes; open_parts = t.open_parts; opens = t.opens }) refl refl) h.1
    starts s.Checkpoint read a h = same_tied (answered c e (Given reply.Checkpointed) []) after (said_nothing s.Checkpoint read (Given reply.Checkpointed) refl (record { done = refl; lasts = refl; commits_none = λ d p. refl; tells = λ d p. tt }) refl) h.1
    starts s.Commit read a h = commits h.1 (e.connections c).transaction read refl h.2
    starts s.Rollback read a h = same_tied (answered c (rolled_back c e) (Given reply.RolledBack) []) after (rolls_back (e.connections c).transaction read refl) h.1
    starts (s.Savepoint name) read a h = same_tied (answered c (with_transaction c (with_savepoint name (transaction_of c e)) e) (Given reply.Savepoint) []) after
        (opens_one (s.Savepoint name) read (with_savepoint name (transaction_of c e)) refl (Given reply.Savepoint) refl (record { done = refl; lasts = refl; commits_none = λ d p. refl; tells = λ d p. tt }) (λ f t is. says_nothing (e.connections c) span (Given reply.Savepoint) refl t)) h.1
    starts (s.RollbackTo name) read a h = same_tied (back_to c name (saves_from c name e) e) after (goes_back (s.RollbackTo name) read refl name refl (saves_from c name e)) h.1
    starts (s.Release name) read a h = same_tied (released c name (saves_from c name e) e) after (releases (s.Release name) read refl name refl (saves_from c name e)) h.1
    starts (s.CreateTable name elements) read a h = schema_step (s.CreateTable name elements) read refl h.1
    starts (s.CreateIndex name table columns) read a h = schema_step (s.CreateIndex name table columns) read refl h.1
    starts (s.DropTable name) read a h = schema_step (s.DropTable name) read refl h.1
    starts (s.Insert table columns source) read a h = begins (s.Insert table columns source) read refl tt a h
    starts (s.Update table sets filter) read a h = begins (s.Update table sets filter) read refl tt a h
    starts (s.Delete table filter) read a h = begins (s.Delete table filter) read refl tt a h
    starts (s.Select query) read a h = begins (s.Select query) read refl tt a h

    pub reads : (a : Progressed) → IsRead c e (parsed_at (e.connections c).script span) a after → IsTied after
    reads a = by (parsed_at (e.connections c).script span) refl
      where
        by : (r : Result Statement ℕ) → parsed_at (e.connections c).script span ≡ r → IsRead c e r a after → IsTied after
        by (Err at) failed h = same_tied (answered c e (Refused (Syntax at)) []) after (unread (Refused (Syntax at)) at failed (λ d p. refl) (λ d p. tt)) h.1
        by (Ok x) read h = starts x read a h

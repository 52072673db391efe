-- A statement that is answered its reply leaves the core tied: its changes stand.
use Rattle.std.proofs.Common.{◌≡◌, ℕ, true, false, is_some, unwrap_or, List, [], ◌∷◌, ◌++◌, map, reverse, Option, Some, None, refl, sym, ap, ◌∙◌, subst, inl, inr, ⊎_elim}
use Rattle.std.proofs.lemmas.Bool.{both_ways}
use Rattle.std.proofs.lemmas.List.{append-nil}
use Rattle.wat_list.specs.Has.{Has}
use Rattle.wat_list.proofs.Members.{has_right}
use Rattle.wat_value.specs.declared.change.Act.{Act}
use Rattle.wat_value.specs.declared.change.Act.TheVariants.{OnRow}
use Rattle.wat_value.specs.Changes.{RowName}
use Rattle.wat_schema.specs.Catalog.{Catalog}
use Rattle.wat_schema.specs.Tables.{Row, Tables, apply_all}
use Rattle.wat_meaning.specs.declared.reply.Reply.{Reply as Meant}
use Rattle.wat_meaning.specs.declared.reply.Reply.TheVariants as meant_reply
use Rattle.wat_isolation.specs.Logs.{Alone, view}
use Rattle.wat_isolation.specs.Naming.{scheme_of}
use Rattle.wat_isolation.specs.Sql.{sql}
use Rattle.wat_conn.specs.declared.answer.Answer.{Answer}
use Rattle.wat_history.specs.Serial.{says}
use Rattle.wat_scans.specs.Look.{IsOf}
use Rattle.wat_scans.specs.Running.{Run, Next.ToReply, next, items_of}
use Rattle.wat_scans.proofs.Applied.{apply_each}
use Rattle.wat_scans.proofs.Said.{said}
use Rattle.wat_steps.specs.State.{OpenTransaction, ConnectionState, CoreState, schema_of}
use Rattle.wat_steps.specs.Answering.{IsSame, no_changes, with_transaction, transaction_of}
use Rattle.wat_steps.specs.Statements.{answer_saying}
use Rattle.wat_steps.specs.Step.{replied}
use Rattle.wat_tied.specs.Tied.{AreStanding, RecordedPart, IsDetermined, parts_in, stood_in, standing_in, IsGoing, MeetsWith, Ghost, Ties, IsTied}
use Rattle.wat_tied.proofs.Answered.{done, done_here, done_there, answered_relates, part_of, opens_written, meant}
use Rattle.wat_tied.proofs.Begun.{here}
use Rattle.wat_tied.proofs.Granted.{there, working}
use Rattle.wat_tied.proofs.Recorded.{view_of_reads, all_fit, reversed_has}
use Rattle.wat_tied.proofs.Plainly.{reply_is_plain}
use Rattle.wat_tied.proofs.Renewed.{renewed, renewal, has_work}
use Rattle.wat_tied.proofs.Replies.{reply_plain}
use Rattle.wat_tied.proofs.Same.{same_ties}
use Rattle.wat_tied.proofs.Telling.{IsReplyAnswer, told_next, no_commit, told_joins}

-- the answer says the reply
says_it : (r other : Meant) → says (answer_saying 0 r) ≡ Some other → r ≡ other
says_it (meant_reply.Rows rows) other h = cc
says_it (meant_reply.Inserted n) other h = cc
says_it (meant_reply.Updated n) other h = cc
says_it (meant_reply.Deleted n) other h = cc
says_it meant_reply.Created other h = cc
says_it meant_reply.Dropped other h = cc
says_it (meant_reply.Refused refusal) other h = cc

stands_open : (t : Option OpenTransaction) → is_some t ≡ true → (unwrap_or t no_changes).standing ≡ stood_in t
stands_open None h = absurd (both_ways false refl h)
stands_open (Some t) h = refl

module _ (e : CoreState) (g : Ghost) (ties : Ties e g) (c : ℕ) (run : Run) (under : (e.connections c).work ≡ Some run) (was : IsGoing (schema_of e) (e.connections c) run (g.work c)) (meets : MeetsWith g.state c (Some run)) (r : Meant) (coming : next run ≡ ToReply r) where
  abbrev cat : Catalog
  cat = schema_of e

  abbrev acts : List Act
  acts = map OnRow run.made

  abbrev open_then : OpenTransaction
  open_then = record (transaction_of c e) { standing = (transaction_of c e).standing ++ run.made }

  abbrev with_changes : ConnectionState
  with_changes = record (e.connections c) { transaction = Some open_then }

  abbrev answer : Answer
  answer = answer_saying 0 r

  abbrev k : ConnectionState
  k = done was.span was.more with_changes answer acts

  abbrev recorded : RecordedPart
  recorded = record { part = part_of (e.connections c) was.span answer acts; items = g.work c }

  abbrev mid : CoreState
  mid = with_transaction c open_then e

  plain : IsReplyAnswer answer
  plain = reply_plain run r coming

  old : AreStanding cat (reverse (stood_in (e.connections c).transaction ++ run.made)) (g.state.conns c).standing
  old = subst (λ (z : Option Run). AreStanding cat (standing_in (e.connections c).transaction z) (g.state.conns c).standing) under (ties.standing c)

  -- the changes make of any tables what was recorded
  makes : (f : RowName → Option Row) (t : Tables) → IsOf cat f t → Alone sql (scheme_of cat) f (g.work c) → (after : Tables) × (apply_all acts t ≡ Some after) × IsOf cat (view sql f (g.work c)) after
  makes f t is alone =
      let base : IsOf cat (view sql f was.reads) t = subst (λ z. IsOf cat z t) (sym (view_of_reads f was.reads was.reading)) is in
      let a = apply_each cat f run.made was.reads t base
      (all_fit cat run.made (λ ch has. old.formed ch (reversed_has ch (stood_in (e.connections c).transaction ++ run.made) (has_right ch (stood_in (e.connections c).transaction) run.made has))))
      (subst (Alone sql (scheme_of cat) f) was.recorded alone) in
      (a.after, a.applies, subst (λ z. IsOf cat (view sql f z) a.after) (sym was.recorded) a.is)

  determined : IsDetermined cat recorded
  determined = record {
    means = meant cat (e.connections c) run (g.work c) (g.work c) was answer acts (λ f t other h says is alone.
        let same : r ≡ other = says_it r other says in
        let at : Alone sql (scheme_of cat) f (items_of cat run.made was.visits) = subst (λ z. Alone sql (scheme_of cat) f (items_of cat run.made z)) (was.at_three h) (subst (Alone sql (scheme_of cat) f) was.recorded alone) in
        (said cat was.statement was.stepped (was.written, was.checked) run was.visits was.going f t is at).replies r coming ∙ λ j. record { answer = same j; acts = acts });
    effect = makes;
  }

  pub reply_ties : Ties (replied c e run r) (renewal g c g.state (recorded ∷ g.entries c) [] g.history)
  reply_ties = renewed e (replied c e run r) g ties c g.state k (recorded ∷ g.entries c) [] g.history (record {
    kept = ties.kept;
    relates = answered_relates c mid g.state answer acts (record { scheme = ties.relates.scheme; now = ties.relates.now; base = ties.relates.base; locks = ties.relates.locks; vacant = ties.relates.vacant });
    same = refl;
    stop = refl;
    count = refl;
    outside = λ out. absurd (has_work e g ties c was.span was.more was.first out);
    here = done_here c mid with_changes was.span was.more answer acts (here e c with_changes) was.first;
    there = λ d ne. done_there c d mid answer acts ne ∙ there e c with_changes d ne;
    others = λ d ne. refl;
    rows = λ d ne r h. refl;
    log = ties.log c;
    standing = subst (λ z. AreStanding cat z (g.state.conns c).standing)
        (ap (λ z. reverse (z ++ run.made)) (sym (stands_open (e.connections c).transaction was.has_transaction)) ∙ ap reverse (sym (append-nil ((transaction_of c e).standing ++ run.made)))) old;
    idle = tt;
    works = λ going. refl;
    meets = λ going. tt;
    parts = λ p m. ⊎_elim (λ (h : recorded ≡ p). subst (IsDetermined cat) h determined) (λ (h : Has p (g.entries c)). ties.parts c p h) m;
    serial = ties.serial;
    told = told_joins (e.connections c) k was.span answer acts refl refl was.more was.first (parts_in (g.entries c)) (ties.told c) refl was.written was.read plain.done plain.lasts
        (inl (opens_written cat was.written was.statement was.checked was.stepped)) refl;
    based = refl;
    adds = inr (recorded.part, told_next (e.connections c) k was.span answer acts refl refl, reply_is_plain e g ties c run was meets r coming 3);
    commits = inl (no_commit (e.connections c) k was.span answer acts refl refl plain.commits_none, refl, refl);
  })

pub reply_tied : (e after : CoreState) (c : ℕ) (run : Run) → IsTied e → e.stop ≡ None → (e.connections c).work ≡ Some run → (r : Meant) → next run ≡ ToReply r → IsSame (replied c e run r) after → IsTied after
reply_tied e after c run tied going under r coming same =
    let g : Ghost = tied.ghost in
    let was : IsGoing (schema_of e) (e.connections c) run (g.work c) = working e tied c run going under in
    let t : Ghost = renewal g c g.state (record { part = part_of (e.connections c) was.span (answer_saying 0 r) (map OnRow run.made); items = g.work c } ∷ g.entries c) [] g.history in
    record { ghost = t; ties = same_ties (replied c e run r) after t same (reply_ties e g tied.ties c run under was (subst (MeetsWith g.state c) under (tied.ties.meets going c)) r coming) }

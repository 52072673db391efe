-- A statement that is refused, or answered Locked, leaves the core tied: what it changed is undone.
use Rattle.std.proofs.Common.{◌≡◌, ℕ, nat_le, true, List, [], ◌∷◌, ◌++◌, reverse, Option, Some, refl, sym, ap, ◌∙◌, subst, inl, inr, ⊎_elim}
use Rattle.std.proofs.lemmas.List.{reverse-append, append-nil, append_assoc}
use Rattle.wat_list.specs.Has.{Has}
use Rattle.wat_value.specs.declared.change.Change.{Change}
use Rattle.wat_value.specs.Changes.{RowName}
use Rattle.wat_schema.specs.Catalog.{Catalog}
use Rattle.wat_schema.specs.Tables.{Row, Tables}
use Rattle.wat_meaning.specs.declared.reply.Reply.{Reply as Meant}
use Rattle.wat_meaning.specs.Meaning.{meaning_checked}
use Rattle.wat_isolation.specs.Logs.{Item, Alone, view}
use Rattle.wat_isolation.specs.Machine as law
use Rattle.wat_isolation.specs.Kept.{Kept}
use Rattle.wat_isolation.specs.Naming.{scheme_of}
use Rattle.wat_isolation.specs.Sql.{sql}
use Rattle.wat_isolation.proofs.Statements.{view_parts, alone_parts}
use Rattle.wat_locks.specs.declared.held.Held.{Held}
use Rattle.wat_conn.specs.declared.answer.Answer.{Answer}
use Rattle.wat_history.specs.Serial.{says, Serial}
use Rattle.wat_scans.specs.Look.{IsOf}
use Rattle.wat_scans.specs.Running.{Run, items_of}
use Rattle.wat_steps.specs.State.{ConnectionState, CoreState, schema_of}
use Rattle.wat_steps.specs.Changing.{undone}
use Rattle.wat_steps.specs.Asking.{refused}
use Rattle.wat_tied.specs.Tied.{Relates, AreStanding, RecordedPart, IsDetermined, items_in, parts_in, stood_in, standing_in, IsGoing, Ghost, Ties, IsTied}
use Rattle.wat_tied.proofs.Answered.{done, done_here, done_there, answered_relates, part_of, opens_written, meant}
use Rattle.wat_tied.proofs.Granted.{not_idle}
use Rattle.wat_tied.proofs.Recorded.{view_of_reads, did_items, did_is, undone_view}
use Rattle.wat_tied.proofs.Renewed.{rows_stay, renewed, renewal, has_work}
use Rattle.wat_tied.proofs.Telling.{IsPlainAnswer, told_next, no_commit, told_joins}
use Rattle.wat_tied.proofs.Undone.{undo_items, IsUndone, undo_all}

-- The statement is refused in a step in which its connection got other locks, and in which what is in `extra` was read.
module _ (e : CoreState) (g : Ghost) (ties : Ties e g) (c : ℕ) (run : Run) (under : (e.connections c).work ≡ Some run) (was : IsGoing (schema_of e) (e.connections c) run (g.work c))
    (held : List Held) (s : law.State sql) (extra : List (Item sql)) (relates : Relates (record e { held = held }) s) (kept : Kept sql s) (log : (s.conns c).log ≡ extra ++ (g.state.conns c).log)
    (standing : (s.conns c).standing ≡ (g.state.conns c).standing) (others : (d : ℕ) → (d ≡ c → ⊥) → s.conns d ≡ g.state.conns d) (base : s.base ≡ g.state.base) (quiet : (f : RowName → Option Row) → view sql f extra ≡ f)
    (answer : Answer) (plain : IsPlainAnswer answer)
    (told : (f : RowName → Option Row) (t : Tables) (r : Meant) → nat_le 3 run.level ≡ true → says answer ≡ Some r → IsOf (schema_of e) f t
    → Alone sql (scheme_of (schema_of e)) f (extra ++ items_of (schema_of e) run.made was.visits) → meaning_checked t was.statement ≡ record { answer = r; acts = [] }) where
  abbrev cat : Catalog
  cat = schema_of e

  abbrev mid : CoreState
  mid = record e { held = held }

  abbrev after : CoreState
  after = refused c mid run answer

  abbrev k : ConnectionState
  k = done was.span was.more (e.connections c) answer []

  abbrev stood : List Change
  stood = stood_in (e.connections c).transaction

  all : AreStanding cat (reverse run.made ++ reverse stood) (s.conns c).standing
  all = subst (AreStanding cat (reverse run.made ++ reverse stood)) (sym standing)
      (subst (λ z. AreStanding cat z (g.state.conns c).standing) (reverse-append stood run.made)
      (subst (λ (z : Option Run). AreStanding cat (standing_in (e.connections c).transaction z) (g.state.conns c).standing) under (ties.standing c)))

  abbrev items : List (Item sql)
  items = undo_items cat (reverse run.made) ++ (extra ++ g.work c)

  abbrev recorded : RecordedPart
  recorded = record { part = part_of (e.connections c) was.span answer []; items = items }

  did : g.work c ≡ did_items cat (reverse run.made) was.reads
  did = was.recorded ∙ did_is cat run.made was.reads

  parts_alone : (f : RowName → Option Row) → Alone sql (scheme_of cat) f items → Alone sql (scheme_of cat) f (extra ++ g.work c)
  parts_alone f h = (alone_parts sql (scheme_of cat) f (undo_items cat (reverse run.made)) (extra ++ g.work c) h).0

  unchanged : (f : RowName → Option Row) → Alone sql (scheme_of cat) f items → (r : RowName) → view sql f items r ≡ f r
  unchanged f h r =
      let changes : List Change = reverse run.made in
      let w = (alone_parts sql (scheme_of cat) f extra (g.work c) (parts_alone f h)).0 in
      let d : Alone sql (scheme_of cat) f (did_items cat changes was.reads) = subst (Alone sql (scheme_of cat) f) did w in
      ap (λ z. z r) (view_parts sql f (undo_items cat changes) (extra ++ g.work c))
      ∙ (ap (λ z. view sql z (undo_items cat changes) r) (view_parts sql f extra (g.work c) ∙ quiet (view sql f (g.work c)))
      ∙ (ap (λ z. view sql (view sql f z) (undo_items cat changes) r) did
      ∙ (ap (λ z. z r) (sym (view_parts sql f (undo_items cat changes) (did_items cat changes was.reads)))
      ∙ (undone_view cat f changes was.reads d r ∙ ap (λ z. z r) (view_of_reads f was.reads was.reading)))))

  alone_at : (f : RowName → Option Row) → nat_le 3 run.level ≡ true → Alone sql (scheme_of cat) f items → Alone sql (scheme_of cat) f (extra ++ items_of cat run.made was.visits)
  alone_at f h m = subst (λ z. Alone sql (scheme_of cat) f (extra ++ items_of cat run.made z)) (was.at_three h) (subst (λ z. Alone sql (scheme_of cat) f (extra ++ z)) was.recorded (parts_alone f m))

  determined : IsDetermined cat recorded
  determined = record {
    means = meant cat (e.connections c) run (g.work c) items was answer [] (λ f t r h said is m. told f t r h said is (alone_at f h m));
    effect = λ f t is m. (t, refl, record { tables = is.tables; schema = is.schema; rows = λ r. is.rows r ∙ sym (unchanged f m r) });
  }

  finish : (t : law.State sql) → IsUndone mid (undone c run.made mid) s t c (reverse run.made) (reverse stood) → IsTied after
  finish t b =
      let u : CoreState = undone c run.made mid in
      let connections : u.connections ≡ e.connections = sym (ap (λ (z : CoreState). z.connections) b.others_same) in
      record {
        ghost = renewal g c t (recorded ∷ g.entries c) [] g.history;
        ties = renewed e after g ties c t k (recorded ∷ g.entries c) [] g.history (record {
          kept = b.kept;
          relates = answered_relates c u t answer [] b.relates;
          same = b.same;
          stop = sym (ap (λ (z : CoreState). z.stop) b.others_same);
          count = sym (ap (λ (z : CoreState). z.count) b.others_same);
          outside = λ out. absurd (has_work e g ties c was.span was.more was.first out);
          here = done_here c u (e.connections c) was.span was.more answer [] (ap (λ f. f c) connections) was.first;
          there = λ d ne. done_there c d u answer [] ne ∙ ap (λ f. f d) connections;
          others = λ d ne. b.others d ne ∙ others d ne;
          rows = λ d ne. rows_stay g.state t ties.kept b.kept (b.base ∙ base) d (b.others d ne ∙ others d ne);
          log = b.log ∙ (ap (λ z. undo_items cat (reverse run.made) ++ z) (log ∙ (ap (λ z. extra ++ z) (ties.log c) ∙ sym (append_assoc extra (g.work c) (items_in (g.entries c)))))
              ∙ sym (append_assoc (undo_items cat (reverse run.made)) (extra ++ g.work c) (items_in (g.entries c))));
          standing = subst (λ z. AreStanding cat z (t.conns c).standing) (ap reverse (sym (append-nil stood))) b.standing;
          idle = not_idle (t.conns c) (recorded ∷ g.entries c) [] (e.connections c).transaction was.has_transaction;
          works = λ going. refl;
          meets = λ going. tt;
          parts = λ p m. ⊎_elim (λ (h : recorded ≡ p). subst (IsDetermined cat) h determined) (λ (h : Has p (g.entries c)). ties.parts c p h) m;
          serial = subst (λ (z : CoreState). Serial 3 z.base g.history z.committed) b.others_same ties.serial;
          told = told_joins (e.connections c) k was.span answer [] refl refl was.more was.first (parts_in (g.entries c)) (ties.told c) refl was.written was.read plain.done plain.lasts
              (inl (opens_written cat was.written was.statement was.checked was.stepped)) was.has_transaction;
          based = sym (ap (λ (z : CoreState). z.base) b.others_same);
          adds = inr (recorded.part, told_next (e.connections c) k was.span answer [] refl refl, λ low. plain.tells cat recorded.part);
          commits = inl (no_commit (e.connections c) k was.span answer [] refl refl plain.commits_none, refl, sym (ap (λ (z : CoreState). z.moments) b.others_same));
        });
      }

  pub refused_tied : IsTied after
  refused_tied = let r = undo_all c (reverse run.made) (reverse stood) mid s relates kept all in finish r.0 r.1

-- CREATE and DROP leave the core tied: while no transaction is open, they are committed at once.
use Rattle.std.proofs.Common.{◌≡◌, ℕ, true, is_some, List, [], ◌∷◌, ◌++◌, reverse, Option, Some, None, Ok, refl, sym, ap, ◌∙◌, subst, inr, ⊎_elim}
use Rattle.std.proofs.lemmas.Bool.{both_ways, cases_eq}
use Rattle.wat_list.specs.Has.{Has}
use Rattle.wat_value.specs.declared.change.Act.{Act}
use Rattle.wat_value.specs.Changes.{RowName}
use Rattle.wat_ast.specs.declared.statement.Statement.{Statement}
use Rattle.wat_parse.specs.declared.script.Span.{Span}
use Rattle.wat_parse.specs.Parsing.{parsed_at}
use Rattle.wat_schema.specs.Tables.{Tables, IsTables, catalog_of, apply_all}
use Rattle.wat_schema.proofs.Database.{all_acts_hold}
use Rattle.wat_isolation.specs.Logs.{Version}
use Rattle.wat_isolation.specs.Machine as law
use Rattle.wat_isolation.specs.Naming.{scheme_of}
use Rattle.wat_isolation.specs.Sql.{sql}
use Rattle.wat_isolation.proofs.Whole.{event_keeps}
use Rattle.wat_rules.specs.Changes.{changes_schema}
use Rattle.wat_meaning.specs.declared.reply.Reply.{Reply as Meant}
use Rattle.wat_meaning.specs.declared.reply.Reply.TheVariants as meant_reply
use Rattle.wat_meaning.specs.Meaning.{meaning}
use Rattle.wat_conn.specs.declared.answer.Answer.{Answer}
use Rattle.wat_history.specs.Connection.{Part}
use Rattle.wat_history.specs.History.{Commit}
use Rattle.wat_history.specs.Serial.{says, Means, Serial}
use Rattle.wat_history.proofs.SerialLemmas.{grows}
use Rattle.wat_scans.specs.Look.{look, IsOf}
use Rattle.wat_scans.specs.Running.{Run}
use Rattle.wat_steps.specs.State.{ConnectionState, CoreState, schema_of}
use Rattle.wat_steps.specs.Statements.{answer_saying, next_number, altered}
use Rattle.wat_tied.specs.Tied.{AreStanding, parts_in, stood_in, made_in, standing_in, GoesWith, IsIdle, IsInside, IsAbsent, MeetsWith, Ghost, Ties, IsTied}
use Rattle.wat_tied.specs.Told.{stands_told, commits_told, IsTold, IsHistoryTold}
use Rattle.wat_tied.proofs.Alike.{alike}
use Rattle.wat_tied.proofs.Schemes.{IsMade, opens_none, made_commits, made_done, made_plain_told}
use Rattle.wat_tied.proofs.Telling.{IsContinued, AddsPlain, told_next, plain_goes_on, commits_next, told_idles, none_open, history_goes_on}
use Rattle.wat_tied.proofs.Renewed.{catalog_now, has_work}
use Rattle.wat_tied.proofs.Answered.{done, done_here, done_there, part_of}

says_it : (number : ℕ) (r other : Meant) → says (answer_saying number r) ≡ Some other → r ≡ other
says_it number (meant_reply.Rows rows) other h = cc
says_it number (meant_reply.Inserted n) other h = cc
says_it number (meant_reply.Updated n) other h = cc
says_it number (meant_reply.Deleted n) other h = cc
says_it number meant_reply.Created other h = cc
says_it number meant_reply.Dropped other h = cc
says_it number (meant_reply.Refused refusal) other h = cc

module _ (e : CoreState) (g : Ghost) (ties : Ties e g) (c : ℕ) (going : e.stop ≡ None) (closed : (d : ℕ) → (e.connections d).transaction ≡ None) (span : Span) (more : List Span) (first : (e.connections c).left ≡ span ∷ more)
    (written : Statement) (read : parsed_at (e.connections c).script span ≡ Ok written) (schema : changes_schema written ≡ true) (made : IsMade (meaning e.now written).answer) (moment : ℕ) (t : Tables) (applies : apply_all (meaning e.now written).acts e.now ≡ Some t) where
  abbrev s : law.State sql
  s = g.state

  abbrev acts : List Act
  acts = (meaning e.now written).acts

  abbrev number : ℕ
  number = next_number e

  abbrev answer : Answer
  answer = answer_saying number (meaning e.now written).answer

  abbrev mid : CoreState
  mid = record e { committed = t; now = t; moments = e.moments ++ moment ∷ [] }

  abbrev after : CoreState
  after = altered c moment answer acts t e

  abbrev then_law : law.State sql
  then_law = law.happens sql s (law.Event.Alter (scheme_of (catalog_of t)) (λ f. look t))

  abbrev k : ConnectionState
  k = done span more (e.connections c) answer acts

  idle : (d : ℕ) → s.conns d ≡ law.idle sql
  idle d = (subst (IsIdle (s.conns d) (g.entries d) (g.work d)) (closed d) (ties.idle d)).0

  tables : IsTables t
  tables = all_acts_hold acts e.now t ties.relates.now.tables applies

  is : IsOf (catalog_of t) (look t) t
  is = record { tables = tables; schema = refl; rows = λ r. refl }

  -- with no transaction open the tables now are the committed ones
  unlocked : (r : RowName) → s.now r ≡ s.base r
  unlocked r = ⊎_elim (λ h. h) (λ (h : (d : ℕ) × Has (law.Lock.Write r) (s.conns d).locks). absurd (subst (λ (z : law.Connection sql). Has (law.Lock.Write r) z.locks) (idle h.0) h.1)) (ties.kept.still r)

  now_committed : e.now ≡ e.committed
  now_committed = alike (schema_of e) s.base e.now e.committed (record { tables = ties.relates.now.tables; schema = ties.relates.now.schema; rows = λ r. ties.relates.now.rows r ∙ unlocked r }) ties.relates.base

  abbrev part : Part
  part = part_of (e.connections c) span answer acts

  means : Means 3 e.committed part
  means = λ y r at has serial said.
      let one : Ok written ≡ Ok y = sym read ∙ at in
      let same : written ≡ y = cc in
      let reply : (meaning e.now written).answer ≡ r = says_it number (meaning e.now written).answer r said in
      (λ j. meaning (sym now_committed j) (sym same j)) ∙ λ j. record { answer = reply j; acts = acts }

  abbrev commit : Commit
  commit = record { number = number; parts = part ∷ [] }

  serial : Serial 3 e.base (g.history ++ commit ∷ []) t
  serial = grows 3 e.base e.committed t g.history commit ties.serial (means, t, ap (apply_all acts) (sym now_committed) ∙ applies, refl)

  rests : (d : ℕ) → (e.connections d).work ≡ None
  rests d = by (e.connections d).work refl (ties.works going d)
    where
      by : (o : Option Run) → (e.connections d).work ≡ o → GoesWith (schema_of e) (e.connections d) (e.connections d).work (g.work d) → (e.connections d).work ≡ None
      by None h w = h
      by (Some run) h w = absurd (both_ways (is_some (e.connections d).transaction) (ap is_some (closed d)) (subst (λ (z : Option Run). GoesWith (schema_of e) (e.connections d) z (g.work d)) h w).has_transaction)

  at_each : (P : ConnectionState → Type 0) → ((d : ℕ) → P (e.connections d)) → P k → (d : ℕ) → P (after.connections d)
  at_each P others here d = ⊎_elim
      (λ (m : d ≡ c). subst (λ n. P (after.connections n)) (sym m) (subst P (sym (done_here c mid (e.connections c) span more answer acts refl first)) here))
      (λ (ne : d ≡ c → ⊥). subst P (sym (done_there c d mid answer acts ne)) (others d))
      (cases_eq d c)

  closed_then : (d : ℕ) → (after.connections d).transaction ≡ None
  closed_then = at_each (λ z. z.transaction ≡ None) closed (closed c)

  rests_then : (d : ℕ) → (after.connections d).work ≡ None
  rests_then = at_each (λ z. z.work ≡ None) rests refl

  none_stands : (d : ℕ) → standing_in (after.connections d).transaction (after.connections d).work ≡ []
  none_stands d = λ j. reverse (stood_in (closed_then d j) ++ made_in (rests_then d j))

  absent_then : (d : ℕ) → (IsInside e d → ⊥) → IsAbsent (after.connections d)
  absent_then d out = ⊎_elim
      (λ (m : d ≡ c). absurd (has_work e g ties c span more first (subst (λ n. IsInside e n → ⊥) m out)))
      (λ (ne : d ≡ c → ⊥). subst IsAbsent (sym (done_there c d mid answer acts ne)) (ties.outside d out))
      (cases_eq d c)

  -- ---- what the transcripts tell

  here_is : after.connections c ≡ k
  here_is = done_here c mid (e.connections c) span more answer acts refl first

  told_k : IsTold k []
  told_k = told_idles (e.connections c) k span answer acts refl refl more first (parts_in (g.entries c)) (ties.told c) refl written read (made_done number (meaning e.now written).answer made) (opens_none written schema)
      (none_open (e.connections c) (parts_in (g.entries c)) (ties.told c) ((ties.told c).goes span more first) (rests c) (closed c)) (closed c)

  told_each : (d : ℕ) → IsTold (after.connections d) []
  told_each d = ⊎_elim
      (λ (m : d ≡ c). subst (λ n. IsTold (after.connections n) []) (sym m) (subst (λ (z : ConnectionState). IsTold z []) (sym here_is) told_k))
      (λ (ne : d ≡ c → ⊥). subst (λ (z : ConnectionState). IsTold z []) (sym (done_there c d mid answer acts ne))
      (subst (λ z. IsTold (e.connections d) (parts_in z)) (subst (IsIdle (s.conns d) (g.entries d) (g.work d)) (closed d) (ties.idle d)).1 (ties.told d)))
      (cases_eq d c)

  goes_on : IsContinued e after c (commits_told (e.connections c)) (commits_told (after.connections c)) g.history (g.history ++ commit ∷ [])
  goes_on =
      inr (
        commit,
        moment,
        ap commits_told here_is ∙ (commits_next (e.connections c) k span answer acts refl refl ∙ ap (λ z. commits_told (e.connections c) ++ z) (made_commits number (meaning e.now written).answer made (stands_told (e.connections c)) part)),
        refl,
        refl,
        refl,
        λ out. has_work e g ties c span more first (λ i. out (i.from_one, i.within)),
      )

  told_history : IsHistoryTold after (g.history ++ commit ∷ [])
  told_history = history_goes_on e after c refl (λ d ne. done_there c d mid answer acts ne) g.history (g.history ++ commit ∷ []) goes_on ties.history

  pub altered_tied : IsTied after
  altered_tied = record {
    ghost = record { state = then_law; entries = λ d. []; work = λ d. []; history = g.history ++ commit ∷ [] };
    ties = record {
      schema = tables.catalog;
      kept = event_keeps sql s (law.Event.Alter (scheme_of (catalog_of t)) (λ f. look t)) ties.kept idle;
      relates = record {
        scheme = refl;
        now = is;
        base = is;
        locks = λ d m h. absurd (subst (λ (z : law.Connection sql). Has m z.locks) (idle d) h);
        vacant = record {
          sound = λ o h. let w = ties.relates.vacant.sound o h in absurd (subst (λ (z : law.Connection sql). Version sql (s.scheme.row_of o.index o.key) w.0 z.log) (idle o.by) w.1);
          full = λ d i y w h. absurd (subst (λ (z : law.Connection sql). Version sql ((scheme_of (catalog_of t)).row_of i y) w z.log) (idle d) h);
        };
      };
      log = λ d. ap (λ (z : law.Connection sql). z.log) (idle d);
      standing = λ d. subst (λ z. AreStanding (catalog_of t) z (s.conns d).standing) (sym (none_stands d)) (record { formed = λ ch has. absurd has; same = ap (λ (z : law.Connection sql). z.standing) (idle d) });
      idle = λ d. subst (IsIdle (s.conns d) [] []) (sym (closed_then d)) (idle d, refl, refl);
      parts = λ d p m. absurd m;
      serial = serial;
      told = told_each;
      history = told_history;
      plain = plain_goes_on e after c (schema_of e) g.history (g.history ++ commit ∷ []) refl (λ d ne. done_there c d mid answer acts ne) (catalog_now e g ties)
          (subst (AddsPlain (schema_of e) (e.connections c)) (sym here_is) (inr (part, told_next (e.connections c) k span answer acts refl refl, λ low. made_plain_told number (meaning e.now written).answer made (schema_of e) part)))
          goes_on ties.plain;
      outside = λ d out. absent_then d (λ i. out (record { from_one = i.from_one; within = i.within }));
      works = λ on d. subst (λ (z : Option Run). GoesWith (catalog_of t) (after.connections d) z []) (sym (rests_then d)) refl;
      meets = λ on d. subst (MeetsWith then_law d) (sym (rests_then d)) tt;
    };
  }

-- Each turn is one statement more.
use Rattle.std.proofs.Common.{◌≡◌, ◌≢◌, ◌+◌, ◌<◌, ◌≤◌, ◌++◌, ℕ, List, [], ◌∷◌, map, length, get_or, drop, All, ⊎_elim, Err, None, Some, Result, refl, sym, ◌∙◌, ap, subst, arith}
use Rattle.std.proofs.lemmas.List.{drop_more}
use Rattle.std.proofs.lemmas.List.Concat.{flat_map-append}
use Rattle.wat_value.specs.declared.change.Act.{Act}
use Rattle.wat_ast.specs.declared.statement.Statement.{Statement}
use Rattle.wat_parse.specs.declared.script.Span.{Span}
use Rattle.wat_parse.specs.Parsing.{parsed_at}
use Rattle.wat_parse.specs.Statements.{statements_of}
use Rattle.wat_disk.specs.Disk.{IsSynced, InFile, SameOthers, EachStop}
use Rattle.wat_gate.specs.Bodies.{bodies, IsWhole}
use Rattle.wat_gate.specs.GateLog.{file_of}
use Rattle.wat_schema.specs.Tables.{IsTables, Tables, apply_all, no_tables}
use Rattle.wat_schema.proofs.Database.{all_acts_hold, no_tables_hold}
use Rattle.std.specs.List.{fold}
use Rattle.wat_history.specs.Naming.{after_act, names_of}
use Rattle.wat_conn.specs.declared.answer.Reason.{Reason}
use Rattle.wat_conn.specs.declared.answer.Reason.TheVariants.{DiskFault, Memory}
use Rattle.wat_commit_log.specs.Logged.{Transaction, acts_of, all_acts, body_of, IsFramed, Restarts}
use Rattle.wat_alone.specs.Alone.{State, begun, made, turn}
use Rattle.wat_alone.specs.Committing.{committed_by, saved}
use Rattle.wat_alone.proofs.MakingLemmas.{made_is, made-append}
use Rattle.wat_stops.specs.Commits.{KeepsCommits}
use Rattle.wat_stops.proofs.CommitsLemmas.{KeepsAll, keeps_commits}
use Rattle.wat_turns.proofs.Standing as standing
use Rattle.wat_turns.proofs.Standing.{Stands, steps}
use Rattle.wat_session.specs.Saving.{KeepsOrSaves}
use Rattle.wat_session.specs.Session.{HasCommitted, acts_in, commits_on, committed_next, cut_by, tables_after, transactions_of}
use Rattle.wat_session.proofs.Restarting.{few_committed, restarts_more}
use Rattle.wat_session.proofs.Committing.{begins, goes_on, stops_here, under_way}
use Rattle.wat_session.proofs.Stopping.{keeps_begins, keeps_goes_on, keeps_stopped}
use Rattle.wat_session.proofs.Entries.{AreEntries, entries_end, entry_more, few_commits, names_more, no_entries, transactions_more}
use Rattle.wat_session.proofs.playing.answer_until_stop.Goals as goal

-- what restarts are the tables of a database
good_base : (content : List ℕ) (t : Tables) → Restarts content t → IsTables t
good_base content t restarts = all_acts_hold (all_acts restarts.transactions) no_tables t no_tables_hold restarts.is

-- the tables after one statement's transaction more
after_more : (base : Tables) (history more : List Transaction) (u : Tables) → apply_all (all_acts more) (tables_after base history) ≡ Some u → u ≡ tables_after base (history ++ more)
after_more base history more u makes =
    sym (made_is (all_acts more) (tables_after base history) u makes) ∙ sym (made-append (all_acts history) (all_acts more) base)
    ∙ ap (λ (acts : List Act). made acts base) (sym (flat_map-append acts_of history more))

-- What a statement commits over what stands, and what stands then.
record Goes (base : Tables) (history : List Transaction) (st : State) (read : Result Statement ℕ) : Type 0 where
  makes : apply_all (all_acts (committed_by (turn st read))) (tables_after base history) ≡ Some (tables_after base (history ++ committed_by (turn st read)))
  stands : Stands (tables_after base (history ++ committed_by (turn st read))) (turn st read).next

goes : (base : Tables) (history : List Transaction) (st : State) (read : Result Statement ℕ) → Stands (tables_after base history) st → Goes base history st read
goes base history st read stands =
    let step = steps (tables_after base history) st read stands in
    let same = after_more base history (committed_by (turn st read)) step.after step.applies in
    record { makes = step.applies ∙ ap Some same; stands = subst (λ (t : Tables). Stands t (turn st read).next) same step.stands }

pub loop-span-init : goal.loop-span-init
loop-span-init g c =
    let base = c.args.player.now.connection.tables in
    let entry = g.D.Disk.told c.args.disk.now in
    let file = file_of c.args.player.now.log in
    let restarts = c.requires.restarts in
    let over = under_way g.D.Disk.tells_content entry file base entry in
    record {
      file = refl;
      known = c.requires.known;
      entries = subst (λ l. AreEntries base c.args.script.now 0 l c.args.player.now.connection) (sym c.requires.none) (subst (λ st. AreEntries base c.args.script.now 0 [] st) (sym c.requires.begun) (no_entries base c.args.script.now));
      few = omega (arith, ap (λ (st : State). st.commits) c.requires.begun);
      names = c.requires.names ∙ ap (λ l. names_of base (acts_in l)) (sym c.requires.none);
      entry_room = let room : length c.args.spans.now ≤ c.args.entries.now.spare = c.requires.entry_room in omega (arith, room);
      moment_room = let room : length c.args.spans.now ≤ c.args.player.now.moments.spare = c.requires.moment_room in omega (arith, room);
      later = omega arith;
      stands = λ tells. subst (λ l. Stands (tables_after base (transactions_of base c.args.script.now l)) c.args.player.now.connection) (sym c.requires.none)
          (subst (λ st. Stands base st) (sym c.requires.begun) (standing.begins base (good_base (entry.content file) base (restarts tells))));
      leaves = subst (λ l. HasCommitted over (transactions_of base c.args.script.now l) [] None c.args.player.now.moments.items) (sym c.requires.none)
          (subst (λ m. HasCommitted over [] [] None m) (sym c.requires.no_moments) (begins g.D.Disk.tells_content entry file base restarts));
      synced = λ tells synced. synced;
      stops = λ tells synced. subst (λ l. KeepsAll (commits_on over (transactions_of base c.args.script.now l) [] c.args.player.now.moments.items)) (sym c.requires.none)
          (subst (λ m. KeepsAll (commits_on over [] [] m)) (sym c.requires.no_moments) (keeps_begins g.D.Disk.tells_content entry file base synced (restarts tells)));
    }

pub answer_at-requires-clause-commits : goal.answer_at-requires-clause-commits
answer_at-requires-clause-commits g c = omega (arith, c.loop-span.invariant.few, c.loop-span-test.true, c.requires.count)

pub loop-span-preserved : goal.loop-span-preserved
loop-span-preserved g c =
    let inv = c.loop-span.invariant in
    let tells = g.D.Disk.tells_content in
    let entry = g.D.Disk.told c.args.disk.now in
    let mid = g.D.Disk.told c.loop-span.disk in
    let new = g.D.Disk.told c.answer_at.new.disk in
    let base = c.args.player.now.connection.tables in
    let text = c.args.script.now in
    let i = c.loop-span.span-index in
    let file = file_of c.args.player.now.log in
    let none : Span = record { from = 0; to = 0 } in
    let span : Span = get_or c.args.spans.now i none in
    let here : i < length (statements_of text) = omega (arith, ap length c.requires.spans, c.loop-span-test.true) in
    let is : get_or (statements_of text) i none ≡ span = ap (λ (l : List Span). get_or l i none) (sym c.requires.spans) in
    let st = c.loop-span.player.connection in
    let read = parsed_at text span in
    let more = committed_by (turn st read) in
    let old = c.loop-span.entries.items in
    let now = c.push.new.self.items in
    let history = transactions_of base text old in
    let few : length more ≤ 1 = few_committed (turn st read).commits (turn st read).acts in
    let grown : transactions_of base text now ≡ history ++ more = transactions_more base text i old st span none c.in-Ok.answered.answer c.in-Ok.answered.acts now here is inv.entries c.in-Ok.ensures.answer c.in-Ok.ensures.acts c.push.ensures.items in
    let go : tells → Goes base history st read = λ t. goes base history st read (inv.stands t) in
    let new_file : file_of c.answer_at.new.player.log ≡ file = c.answer_at.ensures.file ∙ inv.file in
    let synced : IsSynced mid file → IsSynced new file = subst (λ (f : ℕ). IsSynced mid f → IsSynced new f) inv.file c.in-Ok.ensures.synced in
    let call_stops : tells → IsSynced mid file → EachStop mid new (InFile file (KeepsOrSaves (saved more))) = λ t.
    subst (λ (f : ℕ). IsSynced mid f → EachStop mid new (InFile f (KeepsOrSaves (saved more)))) inv.file (c.answer_at.ensures.stops t) in
    let framed : All IsFramed (saved more) = c.answer_at.ensures.framed (λ e. let ok = c.in-Ok.is in cc) in
    let whole : tells → IsWhole (new.content file) = λ t. subst (λ (f : ℕ). IsWhole (new.content f)) new_file (c.in-Ok.ensures.known t).whole in
    let added : tells → bodies (new.content file) ≡ bodies (mid.content file) ++ map body_of (saved more) = λ t.
    ap (λ (f : ℕ). bodies (new.content f)) (sym new_file) ∙ c.in-Ok.ensures.saved t ∙ ap (λ (f : ℕ). bodies (mid.content f) ++ map body_of (saved more)) inv.file in
    let restarts : tells → Restarts (new.content file) (tables_after base (history ++ more)) = λ t.
    restarts_more (mid.content file) (new.content file) (tables_after base history) (tables_after base (history ++ more)) more (inv.leaves.kept t refl) framed (whole t) (added t) (go t).makes in
    let moments = c.loop-span.player.moments.items in
    let new_moments = c.answer_at.new.player.moments.items in
    let leaves : HasCommitted (under_way tells entry file base new) (history ++ more) [] None new_moments =
    goes_on tells entry file base mid new history more _ moments new_moments few inv.leaves inv.later c.answer_at.ensures.calls_at_most.later c.answer_at.ensures.cause (λ e. let ok = c.in-Ok.is in cc)
    (subst (λ (f : ℕ). SameOthers f mid.content new.content) inv.file c.answer_at.ensures.others) c.in-Ok.ensures.moments restarts c.in-Ok.ensures.calls in
    record {
      file = new_file;
      known = λ t. c.in-Ok.ensures.known t;
      entries = subst (λ (x : State). AreEntries base text (i + 1) now x) (sym c.in-Ok.ensures.next)
          (entry_more base text i old st span none c.in-Ok.answered.answer c.in-Ok.answered.acts now here is inv.entries c.in-Ok.ensures.answer c.in-Ok.ensures.acts c.push.ensures.items);
      few = omega (arith, inv.few, few_commits st read, ap (λ (x : State). x.commits) c.in-Ok.ensures.next);
      names = names_more base text i old st span none c.in-Ok.answered.answer c.in-Ok.answered.acts now here is inv.entries c.in-Ok.ensures.answer c.in-Ok.ensures.acts c.push.ensures.items
          c.loop-span.player.names c.answer_at.new.player.names inv.names (c.in-Ok.ensures.names ∙ ap (fold after_act c.loop-span.player.names) (sym c.in-Ok.ensures.acts));
      entry_room = omega (arith, inv.entry_room, c.push.ensures.spare);
      moment_room = omega (arith, inv.moment_room, c.answer_at.ensures.room);
      later = omega (arith, inv.later, c.answer_at.ensures.calls_at_most.later);
      stands = λ t. subst (λ (x : State). Stands (tables_after base (transactions_of base text now)) x) (sym c.in-Ok.ensures.next)
          (subst (λ (h : List Transaction). Stands (tables_after base h) (turn st read).next) (sym grown) (go t).stands);
      leaves = subst (λ (h : List Transaction). HasCommitted (under_way tells entry file base new) h [] None new_moments) (sym grown) leaves;
      synced = λ t begun. synced (inv.synced t begun);
      stops = λ t begun. subst (λ (h : List Transaction). KeepsAll (commits_on (under_way tells entry file base new) h [] new_moments)) (sym grown)
          (keeps_goes_on tells entry mid new file base history more moments (inv.synced t begun) (inv.leaves.kept t refl) (go t).makes framed (call_stops t (inv.synced t begun))
          (inv.stops t begun) inv.leaves.order inv.leaves.commits new_moments few c.in-Ok.ensures.moments (synced (inv.synced t begun)) (restarts t));
    }

-- Where the session stops, the next statement's transaction is the one that a fault may have cut.
pub returns-in-Err-clause-played : goal.returns-in-Err-clause-played
returns-in-Err-clause-played g c =
    let inv = c.loop-span.invariant in
    let tells = g.D.Disk.tells_content in
    let entry = g.D.Disk.told c.args.disk.now in
    let mid = g.D.Disk.told c.loop-span.disk in
    let new = g.D.Disk.told c.answer_at.new.disk in
    let base = c.args.player.now.connection.tables in
    let text = c.args.script.now in
    let i = c.loop-span.span-index in
    let file = file_of c.args.player.now.log in
    let none : Span = record { from = 0; to = 0 } in
    let span : Span = get_or c.args.spans.now i none in
    let here : i < length (statements_of text) = omega (arith, ap length c.requires.spans, c.loop-span-test.true) in
    let is : get_or (statements_of text) i none ≡ span = ap (λ (l : List Span). get_or l i none) (sym c.requires.spans) in
    let st = c.loop-span.player.connection in
    let read = parsed_at text span in
    let more = committed_by (turn st read) in
    let entries = c.loop-span.entries.items in
    let history = transactions_of base text entries in
    let moments = c.loop-span.player.moments.items in
    let reason = c.in-Err.reason in
    let few : length more ≤ 1 = few_committed (turn st read).commits (turn st read).acts in
    let left : drop (length entries) (statements_of text) ≡ span ∷ drop (i + 1) (statements_of text) =
    ap (λ (n : ℕ). drop n (statements_of text)) inv.entries.count ∙ drop_more (statements_of text) i none here ∙ ap (λ (s : Span). s ∷ drop (i + 1) (statements_of text)) is in
    let cut : reason ≡ DiskFault → cut_by (Some reason) st text (drop (length entries) (statements_of text)) ≡ more = λ fault.
    ap (λ (r : Reason). cut_by (Some r) st text (drop (length entries) (statements_of text))) fault ∙ ap (committed_next st text) left in
    let no_cut : reason ≡ Memory → cut_by (Some reason) st text (drop (length entries) (statements_of text)) ≡ [] = λ memory.
    ap (λ (r : Reason). cut_by (Some r) st text (drop (length entries) (statements_of text))) memory in
    let now_moments : c.answer_at.new.player.moments.items ≡ moments = ap (λ r. r.items) c.in-Err.ensures.moments_stay in
    let some : reason ≡ DiskFault → saved more ≢ [] = λ fault. c.answer_at.ensures.fault (c.in-Err.is ∙ ap Err fault) in
    record {
      last = st;
      turns = entries_end base text i entries st (Some reason) inv.entries (omega (arith, here)) (λ none. cc);
      named = c.in-Err.ensures.names_stay ∙ inv.names;
      leaves = stops_here tells entry file base mid new history (cut_by (Some reason) st text (drop (length entries) (statements_of text))) reason _ moments c.answer_at.new.player.moments.items c.in-Err.ensures.may
          inv.leaves c.answer_at.ensures.calls_at_most c.answer_at.ensures.cause (λ fault. c.in-Err.is ∙ ap Err fault) (λ e. let err = c.in-Err.is in cc)
          (λ memory. ap (λ d. (g.D.Disk.told d).moment) (c.answer_at.ensures.memory (c.in-Err.is ∙ ap Err memory)))
          (subst (λ (f : ℕ). SameOthers f mid.content new.content) inv.file c.answer_at.ensures.others) now_moments
          (λ fault none_cut. some fault (ap saved (sym (cut fault)) ∙ none_cut));
      stops = λ t begun.
          let keeps : KeepsCommits (commits_on (under_way tells entry file base new) history (cut_by (Some reason) st text (drop (length entries) (statements_of text))) moments) =
          ⊎_elim
          (λ (fault : reason ≡ DiskFault). subst (λ (m : List Transaction). KeepsCommits (commits_on (under_way tells entry file base new) history m moments)) (sym (cut fault))
          (keeps_stopped tells entry mid new file base history more moments (inv.synced t begun) (inv.leaves.kept t refl) (goes base history st read (inv.stands t)).makes
          (c.answer_at.ensures.framed (λ e. let err = c.in-Err.is in cc))
          (subst (λ (f : ℕ). IsSynced mid f → EachStop mid new (InFile f (KeepsOrSaves (saved more)))) inv.file (c.answer_at.ensures.stops t) (inv.synced t begun))
          (inv.stops t begun) inv.leaves.order inv.leaves.commits few (some fault)))
          (λ (memory : reason ≡ Memory). subst (λ (m : List Transaction). KeepsCommits (commits_on (under_way tells entry file base new) history m moments)) (sym (no_cut memory))
          (subst (λ d. KeepsCommits (commits_on (under_way tells entry file base (g.D.Disk.told d)) history [] moments)) (sym (c.answer_at.ensures.memory (c.in-Err.is ∙ ap Err memory)))
          (keeps_commits (commits_on (under_way tells entry file base mid) history [] moments) (inv.stops t begun))))
          c.in-Err.ensures.may in
          subst (λ (m : List ℕ). KeepsCommits (commits_on (under_way tells entry file base new) history (cut_by (Some reason) st text (drop (length entries) (statements_of text))) m)) (sym now_moments) keeps;
    }

pub returns-clause-played : goal.returns-clause-played
returns-clause-played g c =
    let inv = c.loop-span.invariant in
    let base = c.args.player.now.connection.tables in
    let text = c.args.script.now in
    let i = c.loop-span.span-index in
    let many : i ≡ length (statements_of text) = omega (arith, ap length c.requires.spans, c.loop-span-test.false, c.loop-span.auto.span-index-end) in
    record {
      last = c.loop-span.player.connection;
      turns = entries_end base text i c.loop-span.entries.items c.loop-span.player.connection None inv.entries (omega (arith, many)) (λ none. many);
      named = inv.names;
      leaves = inv.leaves;
      stops = λ t begun. keeps_commits (commits_on (under_way g.D.Disk.tells_content (g.D.Disk.told c.args.disk.now) (file_of c.args.player.now.log) base (g.D.Disk.told c.loop-span.disk)) _ [] c.loop-span.player.moments.items) (inv.stops t begun);
    }

-- The session of one script is one history, and stops leave prefixes of it.
use Rattle.std.proofs.Common.{◌≡◌, ⊎_elim, inl, inr, ℕ, ◌+◌, List, [], ◌∷◌, ◌++◌, length, map, take, drop, Option, Some, None, option_to_list, refl, sym, ◌∙◌, ap, subst, arith, append-nil, unwrap_or, zip, slice_index_or}
use Rattle.std.specs.List.{Any, flat_map, fold}
use Rattle.std.proofs.lemmas.List.{length-map, map-append, take-append-drop, take-map}
use Rattle.std.proofs.lemmas.List.Concat.{flat_map-append}
use Rattle.wat_value.specs.declared.change.Act.{Act}
use Rattle.wat_list.specs.Reservation.{Reservation}
use Rattle.wat_disk.specs.Disk.{Image}
use Rattle.wat_stops.specs.Commits.{Commits, KeepsCommits, RestartsBetween, RestartsWithCut}
use Rattle.wat_parse.specs.declared.script.Span.{Span}
use Rattle.wat_parse.specs.Parsing.{parsed_at}
use Rattle.wat_parse.specs.Statements.{statements_of}
use Rattle.wat_schema.specs.Tables.{IsTables, Tables, apply_all}
use Rattle.wat_conn.specs.declared.answer.Reason.{Reason}
use Rattle.wat_conn.specs.declared.answer.Reason.TheVariants as reason
use Rattle.wat_conn.specs.declared.session.Entry.{Entry}
use Rattle.wat_conn.specs.declared.session.Session.{Session}
use Rattle.wat_history.specs.Connection.{Connection, Part, connection_after, new_connection, next, part_of, parts_of, span_of}
use Rattle.wat_history.specs.Cut.{cuts, cuts_by, first_stopped, read_cut, stopped_cut, with_cut}
use Rattle.wat_history.specs.Fits.{AreAnswered, Fits}
use Rattle.wat_history.specs.History.{Commit, commits_from, connections_of, effect, effects, entries_of, open_parts, open_transactions}
use Rattle.wat_history.specs.Naming.{names_of}
use Rattle.wat_history.specs.Serial.{OpenSerial, after}
use Rattle.wat_history.specs.Sessions.{IsSerialSession}
use Rattle.wat_history.specs.Single.{IsAlone, Stage}
use Rattle.wat_history.proofs.SerialLemmas.{applied_both, prefix_after, serial_makes}
use Rattle.wat_history.proofs.SingleLemmas.{open_alone}
use Rattle.wat_history.proofs.WholeLemmas as whole
use Rattle.wat_commit_log.specs.Logged.{Transaction as Committed, Restarts, acts_of, all_acts}
use Rattle.wat_alone.specs.Alone.{begun, turn}
use Rattle.wat_alone.proofs.MakingLemmas.{made_is}
use Rattle.wat_turns.proofs.Standing.{Steps, begins, steps}
use Rattle.wat_session.specs.Session.{IsSession, Setting, commits_on, committed_next, cut_by, acts_in, stopped_at, tables_after, transactions_of, unanswered}
use Rattle.wat_one_history.specs.OneHistory.{IsOneHistory, history_on}
use Rattle.wat_one_history.proofs.Turning.{CutAs, conn_at, effects_of, stage_at, told}
use Rattle.wat_one_history.proofs.Leading.{Led, acts_of_parts, commits-append, led, stopped_alone, stopped_answered, stopped_commit_none}

-- ---- lists

-- these acts are the same, in pieces or as one
abbrev join : List (List Act) → List Act
join all = flat_map (λ (acts : List Act). acts) all

joined : {A : Type 0} (f : A → List Act) (xs : List A) → flat_map f xs ≡ join (map f xs)
joined f [] = refl
joined f (x ∷ xs) = ap (λ (l : List Act). f x ++ l) (joined f xs)

all_acts_of : (transactions : List Committed) (h : List Commit) → map acts_of transactions ≡ effects_of h → all_acts transactions ≡ effects h
all_acts_of transactions h same = joined acts_of transactions ∙ ap join same ∙ sym (joined (λ (commit : Commit). effect commit.parts) h)

-- the first few are the same too
first_same : (transactions : List Committed) (h : List Commit) (j : ℕ) → map acts_of transactions ≡ effects_of h → map acts_of (take j transactions) ≡ effects_of (take j h)
first_same transactions h j same = sym (take-map acts_of j transactions) ∙ ap (take j) same ∙ take-map (λ (commit : Commit). effect commit.parts) j h

same_count : (transactions : List Committed) (h : List Commit) → map acts_of transactions ≡ effects_of h → length transactions ≡ length h
same_count transactions h same = sym (length-map transactions acts_of) ∙ ap length same ∙ length-map h (λ (commit : Commit). effect commit.parts)

-- what is told of the entries is told of their parts
acts_parted : (text : List ℕ) (entries : List Entry) → acts_in entries ≡ acts_of_parts (parts_of text entries)
acts_parted text [] = refl
acts_parted text (e ∷ entries) = ap (λ (l : List Act). e.acts ++ l) (acts_parted text entries)

stopped_spans : (stop : Option Reason) (spans : List Span) → (stop ≡ None → spans ≡ []) → map span_of (unanswered stop spans) ≡ spans
stopped_spans None spans none = sym (none refl)
stopped_spans (Some why) spans none = same spans
  where
    same : (spans : List Span) → map span_of (map (stopped_at why) spans) ≡ spans
    same [] = refl
    same (span ∷ spans) = ap (λ (l : List Span). span ∷ l) (same spans)

drop_all : (xs : List Span) (n : ℕ) → n ≡ length xs → drop n xs ≡ []
drop_all xs n is = ap (λ (m : ℕ). drop m xs) is ∙ all xs
  where
    all : (xs : List Span) → drop (length xs) xs ≡ []
    all [] = refl
    all (x ∷ xs) = all xs

-- ---- stops

-- What a stop cuts: of the turns, and of the history.
record CutSame (last : Tables) (cut : List Committed) (theirs : List (List Act)) : Type 0 where
  cut_there : Option (List Act)
  is : theirs ≡ option_to_list cut_there
  fit : CutAs cut cut_there
  applies : (one : Committed) → cut ≡ one ∷ [] → (u : Tables) × (apply_all (acts_of one) last ≡ Some u)

cuts_none : (last : Tables) → CutSame last [] []
cuts_none last = record { cut_there = None; is = refl; fit = tt; applies = λ one is. cc }

-- what holds of a state with the one cut holds of one with the other
any_cut : (f : Committed → Tables) (g : List Act → Tables) (P : Tables → Type 0) (cut : List Committed) (o : Option (List Act)) → CutAs cut o → ((one : Committed) → cut ≡ one ∷ [] → f one ≡ g (acts_of one)) → Any P (map f cut) → Any P (map g (option_to_list o))
any_cut f g P [] o fit same any = absurd (omega (arith, any.2))
any_cut f g P (one ∷ []) o fit same any =
    let first : any.0 ≡ 0 = omega (arith, any.2) in
    let is : f one ≡ any.1 = sym (ap (λ (k : ℕ). slice_index_or (f one ∷ []) k any.1) first) ∙ any.3 in
    subst (λ (q : Option (List Act)). Any P (map g (option_to_list q))) (sym fit) (0, g (acts_of one), omega arith, refl, subst P (sym is ∙ same one refl) any.4)
any_cut f g P (one ∷ two ∷ more) o fit same any = absurd fit

-- ---- the session

module _ (s : Setting) (texts : List (List ℕ)) (session : Session) (good : IsTables s.base) (h : IsSession s texts session) where
  abbrev text : List ℕ
  text = h.text

  abbrev left : List Span
  left = drop (length h.answered) (statements_of text)

  abbrev entries : List Entry
  entries = h.answered ++ unanswered session.stop left

  abbrev parts : List Part
  parts = parts_of text entries

  abbrev first : List Part
  first = parts_of text h.answered

  abbrev rest : List Part
  rest = parts_of text (unanswered session.stop left)

  abbrev transactions : List Committed
  transactions = transactions_of s.base text h.answered

  abbrev history : List Commit
  history = commits_from new_connection parts

  parted : parts ≡ first ++ rest
  parted = map-append (part_of text) h.answered (unanswered session.stop left)

  all : Led None s.base (begun s.base) h.last first
  all = led None s.base (begun s.base) h.last first h.turns.turns tt (begins s.base good)

  abbrev end : Tables
  end = all.committed

  abbrev stage : Stage
  stage = stage_at end h.last

  texts_are : session.scripts ≡ text ∷ []
  texts_are = h.scripts ∙ h.one_text

  own : entries_of session ≡ entries ∷ []
  own = ap (λ (l : List (Reservation Entry)). map (λ (t : Reservation Entry). t.items) l) h.one_transcript ∙ ap (λ (l : List Entry). l ∷ []) h.entries

  connections : connections_of session ≡ parts ∷ []
  connections = ap (λ (x : List (List ℕ) × List (List Entry)). map (λ (y : List ℕ × List Entry). parts_of y.0 y.1) (zip x.0 x.1)) (λ j. (texts_are j, own j))

  fits : Fits text entries session.stop
  fits = record {
    spans = map-append span_of h.answered (unanswered session.stop left)
        ∙ (λ j. h.turns.spans j ++ stopped_spans session.stop left (λ none. drop_all (statements_of text) (length h.answered) (h.turns.whole none)) j)
        ∙ take-append-drop (length h.answered) (statements_of text);
    answers = subst (λ (l : List Part). AreAnswered session.stop new_connection l) (sym parted) (all.answered session.stop rest (stopped_answered text session.stop all.then_open left));
  }

  alone : IsAlone (stage_at s.base (begun s.base)) parts stage
  alone = subst (λ (l : List Part). IsAlone (stage_at s.base (begun s.base)) l stage) (sym parted) (all.alone rest stage (stopped_alone text session.stop left stage))

  history_is : history ≡ commits_from new_connection first
  history_is = ap (commits_from new_connection) parted ∙ commits-append new_connection first rest
      ∙ ap (λ (l : List Commit). commits_from new_connection first ++ l) (stopped_commit_none text session.stop (fold next new_connection first) left) ∙ append-nil (commits_from new_connection first)

  same : map acts_of transactions ≡ effects_of history
  same = all.same ∙ ap effects_of (sym history_is)

  named : session.names ≡ names_of s.base (effects history)
  named = h.names ∙ ap (names_of s.base) (acts_parted text h.answered) ∙ all.names (names_of s.base []) ∙ ap (names_of s.base) (all_acts_of transactions history same)

  serial : IsSerialSession 0 s.base session history end
  serial = whole.whole session s.base text entries stage texts_are own fits alone (h.leaves.commits ∙ same_count transactions history same) named

  -- ---- where the history stands

  makes : apply_all (all_acts transactions) s.base ≡ Some end
  makes = ap (λ (l : List Act). apply_all l s.base) (all_acts_of transactions history same) ∙ serial_makes 0 s.base end history serial.serial

  tables_are : tables_after s.base transactions ≡ end
  tables_are = made_is (all_acts transactions) s.base end makes

  after_same : (j : ℕ) → tables_after s.base (take j transactions) ≡ after s.base history j
  after_same j = made_is (all_acts (take j transactions)) s.base (after s.base history j)
      (ap (λ (l : List Act). apply_all l s.base) (all_acts_of (take j transactions) (take j history) (first_same transactions history j same))
      ∙ serial_makes 0 s.base (after s.base history j) (take j history) (prefix_after 0 s.base end history j serial.serial))

  -- ---- what a stop cuts

  cut_at : (spans : List Span) → CutSame end (committed_next h.last text spans) (option_to_list (stopped_cut end (first_stopped (conn_at all.then_open) (parts_of text (unanswered (Some reason.DiskFault) spans)))) ++ [])
  cut_at [] = cuts_none end
  cut_at (span ∷ spans) =
      let read = parsed_at text span in
      let step : Steps end (turn h.last read) = steps end h.last read all.stands in
      record {
        cut_there = read_cut end (conn_at all.then_open) read;
        is = append-nil (option_to_list (read_cut end (conn_at all.then_open) read));
        fit = (told all.then_open end h.last read 0 0 all.opening all.stands).cut;
        applies = λ one is. (step.after, ap (λ (l : List Act). apply_all l end) (sym (append-nil (acts_of one))) ∙ ap (λ (l : List Committed). apply_all (all_acts l) end) (sym is) ∙ step.applies);
      }

  cut_by_fault : (stop : Option Reason) → stop ≡ session.stop → CutSame end (cut_by stop h.last text left) (cuts_by stop end (parts ∷ []))
  cut_by_fault None is = cuts_none end
  cut_by_fault (Some reason.DiskFault) is =
      let stopped : first_stopped new_connection parts ≡ first_stopped (conn_at all.then_open) (parts_of text (unanswered (Some reason.DiskFault) left)) =
      ap (first_stopped new_connection) parted ∙ all.unstopped rest ∙ ap (λ (stop : Option Reason). first_stopped (conn_at all.then_open) (parts_of text (unanswered stop left))) (sym is) in
      subst (λ (o : Option (Connection × Part)). CutSame end (committed_next h.last text left) (option_to_list (stopped_cut end o) ++ [])) (sym stopped) (cut_at left)
  cut_by_fault (Some reason.Memory) is = cuts_none end
  cut_by_fault (Some (reason.PageLimit count limit)) is = cuts_none end
  cut_by_fault (Some (reason.Damaged file at)) is = cuts_none end

  cut : CutSame end (cut_by session.stop h.last text left) (cuts session end)
  cut = subst (λ (all : List (List Part)). CutSame end (cut_by session.stop h.last text left) (cuts_by session.stop end all)) (sym connections) (cut_by_fault session.stop refl)

  cut_state : (one : Committed) → cut_by session.stop h.last text left ≡ one ∷ [] → tables_after s.base (transactions ++ one ∷ []) ≡ with_cut end (acts_of one)
  cut_state one is =
      let applied = cut.applies one is in
      made_is (all_acts (transactions ++ one ∷ [])) s.base applied.0
      (ap (λ (l : List Act). apply_all l s.base) (flat_map-append acts_of transactions (one ∷ []) ∙ ap (λ (l : List Act). all_acts transactions ++ l) (append-nil (acts_of one)))
      ∙ applied_both (all_acts transactions) (acts_of one) s.base end applied.0 makes applied.1)
      ∙ sym (ap (λ (o : Option Tables). unwrap_or o end) applied.1)

  -- ---- stops

  abbrev theirs : Commits Tables
  theirs = commits_on s transactions (cut_by session.stop h.last text left) session.moments.items

  abbrev ours : Commits Tables
  ours = history_on s session history end

  between : (low high : ℕ) (image : Image) → RestartsBetween theirs low high image → RestartsBetween ours low high image
  between low high image r = record { j = r.j; at_least = r.at_least; at_most = r.at_most; restarts = subst (λ (t : Tables). Restarts (image s.file) t) (after_same r.j) r.restarts }

  with_cuts : (image : Image) → RestartsWithCut theirs image → RestartsWithCut ours image
  with_cuts image r = subst (λ (all : List (List Act)). Any (λ (t : Tables). Restarts (image s.file) t) (map (with_cut end) all)) (sym cut.is)
      (any_cut (λ one. tables_after s.base (transactions ++ one ∷ [])) (with_cut end) (λ (t : Tables). Restarts (image s.file) t) (cut_by session.stop h.last text left) cut.cut_there cut.fit cut_state r)

  keeps : KeepsCommits theirs → KeepsCommits ours
  keeps k = record {
    past = k.past;
    every = λ image left_so. ⊎_elim (λ b. inl (between 0 (length session.moments.items) image b)) (λ w. inr (with_cuts image w)) (k.every image left_so);
    since = λ i here image left_so. ⊎_elim (λ b. inl (between (i + 1) (length session.moments.items) image b)) (λ w. inr (with_cuts image w)) (k.since i here image left_so);
    until = λ i here image left_so. between 0 (i + 1) image (k.until i here image left_so);
  }

  open_so : OpenSerial 0 end (open_transactions session)
  open_so = subst (λ (all : List (List Part)). OpenSerial 0 end (map (λ (parts : List Part). open_parts (connection_after parts)) all)) (sym connections)
      ((h.last.tables, open_alone session.stop s.base parts stage fits.answers alone), tt)

  pub one_history : IsOneHistory s session
  one_history = record {
    history = history;
    last = end;
    serial = serial;
    open_one = open_so;
    stops = λ tells synced. keeps (h.stops tells synced);
    kept = λ tells none. subst (λ (t : Tables). Restarts (s.now.content s.file) t) tables_are (h.leaves.kept tells none);
  }

-- A change that is granted leaves the core tied.
use Rattle.std.proofs.Common.{◌≡◌, ℕ, List, [], ◌∷◌, ◌++◌, map, reverse, Option, Some, None, nat_eq, refl, sym, ap, ◌∙◌, subst, inl, ⊎_elim}
use Rattle.std.specs.List.{fold}
use Rattle.std.proofs.lemmas.List.{reverse-append, append_assoc}
use Rattle.wat_list.specs.Has.{Has}
use Rattle.wat_list.proofs.Members.{has_right}
use Rattle.wat_value.specs.declared.change.Change.{Change}
use Rattle.wat_value.specs.Changes.{RowName, changed_table, row_before, row_after}
use Rattle.wat_value.specs.Indexes.{index_numbers}
use Rattle.wat_schema.specs.Catalog.{Listing, listing_at}
use Rattle.wat_schema.specs.Tables.{Row}
use Rattle.wat_isolation.specs.Logs.{Item, Item.Did, Version}
use Rattle.wat_isolation.specs.Machine as law
use Rattle.wat_isolation.specs.Sql.{sql}
use Rattle.wat_isolation.proofs.Basics.{nat_same, put-same, put-other}
use Rattle.wat_isolation.proofs.Whole.{event_keeps}
use Rattle.wat_locks.specs.declared.want.Want.{Want}
use Rattle.wat_locks.specs.Held.{AreFree, entry}
use Rattle.wat_level.specs.declared.change.Spot.{Spot}
use Rattle.wat_level.specs.Change.{change_wants}
use Rattle.wat_protocol.specs.Locked.{long_locks}
use Rattle.wat_protocol.specs.Moves.{next_in}
use Rattle.wat_protocol.proofs.HeldLemmas.{granted}
use Rattle.wat_protocol.proofs.MoveLemmas.{change_may}
use Rattle.wat_scans.specs.Look.{look}
use Rattle.wat_scans.specs.Running.{Run, Next.ToChange, next, row_changed, change_item, after_change}
use Rattle.wat_scans.proofs.Going.{change_goes}
use Rattle.wat_steps.specs.State.{ConnectionState, CoreState, schema_of}
use Rattle.wat_steps.specs.Answering.{IsSame}
use Rattle.wat_steps.specs.Asking.{with_locks, going_on}
use Rattle.wat_steps.specs.Changing.{made}
use Rattle.wat_steps.specs.Making.{AreSpots, changed}
use Rattle.wat_tied.specs.Tied.{Relates, IsFormed, standing_as, AreStanding, parts_in, stood_in, standing_in, IsGoing, MeetsWith, Ghost, Ties, IsTied}
use Rattle.wat_tied.proofs.Aims.{meets_changed}
use Rattle.wat_tied.proofs.Begun.{here}
use Rattle.wat_tied.proofs.Granted.{there, not_idle, working}
use Rattle.wat_tied.proofs.Keys as keys
use Rattle.wat_tied.proofs.Moved.{row_given, moved}
use Rattle.wat_tied.proofs.Reading.{adds}
use Rattle.wat_tied.proofs.Renewed.{rows_stay, renewed, renewal, has_work}
use Rattle.wat_tied.proofs.Same.{same_ties}
use Rattle.wat_tied.proofs.Telling.{told_working}
use Rattle.wat_tied.proofs.Spots.{change_of, spots_right}

pub fold_append : {A B : Type 0} (f : B → A → B) (b : B) (xs ys : List A) → fold f b (xs ++ ys) ≡ fold f (fold f b xs) ys
fold_append f b [] ys = refl
fold_append f b (x ∷ xs) ys = fold_append f (f b x) xs ys

-- the last of all that stand
last : (ch : Change) (xs ys : List Change) → reverse (xs ++ (ys ++ ch ∷ [])) ≡ ch ∷ reverse (xs ++ ys)
last ch xs ys = ap reverse (sym (append_assoc xs ys (ch ∷ []))) ∙ reverse-append (xs ++ ys) (ch ∷ [])

module _ (e : CoreState) (g : Ghost) (ties : Ties e g) (c : ℕ) (run : Run) (under : (e.connections c).work ≡ Some run) (was : IsGoing (schema_of e) (e.connections c) run (g.work c))
    (ch : Change) (coming : next run ≡ ToChange ch) (formed : IsFormed (schema_of e) ch) (stands : look e.now (row_changed (schema_of e) ch) ≡ row_before ch)
    (l : Listing) (listing : listing_at (schema_of e) (changed_table ch) ≡ Some l) (spots : List Spot) (are : AreSpots e c l ch (index_numbers l.indexes) spots) (free : AreFree e.held c (change_wants l.def ch spots)) where
  abbrev s : law.State sql
  s = g.state

  abbrev r : RowName
  r = row_changed (schema_of e) ch

  before : s.now r ≡ row_before ch
  before = sym (ties.relates.now.rows r) ∙ stands

  abbrev wants : List Want
  wants = change_wants l.def ch spots

  abbrev later : Run
  later = after_change run ch

  abbrev k : ConnectionState
  k = record (e.connections c) { work = Some later; request = None }

  abbrev item : Item sql
  item = change_item (schema_of e) ch

  abbrev after : CoreState
  after = going_on c later (made c (with_locks c wants e) ch)

  abbrev event : law.Event sql
  event = law.Event.Change c r (row_after ch) (long_locks wants) (next_in spots)

  may : law.May sql s event
  may = subst (λ (q : RowName). law.May sql s (law.Event.Change c q (row_after ch) (long_locks wants) (next_in spots))) (sym (keys.name (schema_of e) l ch listing))
      (change_may (schema_of e) s e.held c l ch spots ties.relates.locks (change_of e s ties.relates c l ch formed listing before) (spots_right e s ties.relates c l ch formed listing spots are) free)

  abbrev standing : List (law.Standing sql)
  standing = record { row = r; was = s.now r; became = row_after ch } ∷ (s.conns c).standing

  abbrev t : law.State sql
  t = row_given s c r (row_after ch) standing (long_locks wants)

  abbrev new : law.Connection sql
  new = law.grown sql s c (Did r (s.now r) (row_after ch) ∷ (s.conns c).log) standing (long_locks wants)

  there_is : t.conns c ≡ new
  there_is = put-same nat_eq nat_same s.conns c new

  sole : (d : ℕ) (v : Option Row) → Version sql r v (s.conns d).log → d ≡ c
  sole d v h = sym (may.1 (law.Lock.Write r) may.0.write d (law.Lock.Write r) (ties.kept.touched d r v h) refl)

  related : Relates after t × (schema_of after ≡ schema_of e)
  related = moved e s ties.relates c ch formed before sole standing (long_locks wants) (e.held ++ map (entry c) wants)
      (granted s e.held (e.held ++ map (entry c) wants) c wants event ties.relates.locks (adds e.held c wants) refl refl) after refl refl refl refl

  goes_on : IsGoing (schema_of e) k later (item ∷ g.work c)
  goes_on = record {
    span = was.span;
    more = was.more;
    first = was.first;
    written = was.written;
    read = was.read;
    statement = was.statement;
    checked = was.checked;
    stepped = was.stepped;
    level = was.level;
    visits = was.visits;
    going = change_goes (schema_of e) was.statement run was.visits was.going ch coming;
    placed = was.placed;
    reads = was.reads;
    reading = was.reading;
    at_three = was.at_three;
    recorded = ap (λ z. item ∷ z) was.recorded ∙ sym (fold_append (λ items x. change_item (schema_of e) x ∷ items) was.reads run.made (ch ∷ []));
    has_transaction = was.has_transaction;
  }

  old : AreStanding (schema_of e) (reverse (stood_in (e.connections c).transaction ++ run.made)) (s.conns c).standing
  old = subst (λ (z : Option Run). AreStanding (schema_of e) (standing_in (e.connections c).transaction z) (s.conns c).standing) under (ties.standing c)

  stood : AreStanding (schema_of e) (ch ∷ reverse (stood_in (e.connections c).transaction ++ run.made)) (t.conns c).standing
  stood = record {
    formed = λ other has. ⊎_elim (λ (same : ch ≡ other). subst (IsFormed (schema_of e)) same formed) (λ (deeper : Has other (reverse (stood_in (e.connections c).transaction ++ run.made))). old.formed other deeper) has;
    same = ap (λ (z : law.Connection sql). z.standing) there_is ∙ ((λ j. record { row = r; was = before j; became = row_after ch } ∷ (s.conns c).standing) ∙ ap (λ z. standing_as (schema_of e) ch ∷ z) old.same);
  }

  pub change_ties : Ties after (renewal g c t (g.entries c) (item ∷ g.work c) g.history)
  change_ties = renewed e after g ties c t k (g.entries c) (item ∷ g.work c) g.history (record {
    kept = event_keeps sql s event ties.kept may;
    relates = related.0;
    same = related.1;
    stop = refl;
    count = refl;
    outside = λ out. absurd (has_work e g ties c was.span was.more was.first out);
    here = here e c k;
    there = there e c k;
    others = λ d ne. put-other nat_eq nat_same s.conns c new d ne;
    rows = λ d ne. rows_stay s t ties.kept (event_keeps sql s event ties.kept may) refl d (put-other nat_eq nat_same s.conns c new d ne);
    log = ap (λ (z : law.Connection sql). z.log) there_is ∙ ((λ j. Did r (before j) (row_after ch) ∷ (s.conns c).log) ∙ ap (λ z. item ∷ z) (ties.log c));
    standing = subst (λ z. AreStanding (schema_of e) z (t.conns c).standing) (sym (last ch (stood_in (e.connections c).transaction) run.made)) stood;
    idle = not_idle (t.conns c) (g.entries c) (item ∷ g.work c) (e.connections c).transaction was.has_transaction;
    works = λ going. goes_on;
    meets = λ on. meets_changed s t c r ch (row_after ch) refl (λ m h. subst (λ (z : law.Connection sql). Has m z.locks) (sym there_is) (has_right m (long_locks wants) (s.conns c).locks h)) before run
        (subst (MeetsWith s c) under (ties.meets on c));
    parts = ties.parts c;
    serial = ties.serial;
    told = told_working (e.connections c) later (parts_in (g.entries c)) (ties.told c);
    commits = inl (refl, refl, refl);
    based = refl;
    adds = inl refl;
  })

pub change_tied : (e after : CoreState) (c : ℕ) (run : Run) → IsTied e → e.stop ≡ None → (e.connections c).work ≡ Some run
    → (ch : Change) → next run ≡ ToChange ch → IsFormed (schema_of e) ch → look e.now (row_changed (schema_of e) ch) ≡ row_before ch
    → (l : Listing) → listing_at (schema_of e) (changed_table ch) ≡ Some l → (spots : List Spot) → AreSpots e c l ch (index_numbers l.indexes) spots → AreFree e.held c (change_wants l.def ch spots)
    → IsSame (changed c e run l ch spots) after → IsTied after
change_tied e after c run tied going under ch coming formed stands l listing spots are free same =
    let g : Ghost = tied.ghost in
    let r : RowName = row_changed (schema_of e) ch in
    let t : law.State sql = row_given g.state c r (row_after ch) (record { row = r; was = g.state.now r; became = row_after ch } ∷ (g.state.conns c).standing) (long_locks (change_wants l.def ch spots)) in
    let next : Ghost = renewal g c t (g.entries c) (change_item (schema_of e) ch ∷ g.work c) g.history in
    record {
      ghost = next;
      ties = same_ties (changed c e run l ch spots) after next same (change_ties e g tied.ties c run under (working e tied c run going under) ch coming formed stands l listing spots are free);
    }

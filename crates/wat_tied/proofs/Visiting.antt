-- A visit at level 3 that is granted, as two events of the law of isolation.
use Rattle.std.proofs.Common.{◌≡◌, ℕ, ◌==◌, nat_le, Bool, true, false, not, ◌||◌, if◌then◌else◌, List, [], ◌∷◌, ◌++◌, map, drop, Option, Some, None, nat_eq, refl, sym, ap, ◌∙◌, subst, ⊎_elim}
use Rattle.std.proofs.lemmas.Bool.{both_ways, eqb-true}
use Rattle.wat_list.specs.Has.{Has}
use Rattle.wat_list.proofs.Members.{has_left, has_right}
use Rattle.wat_value.specs.declared.value.Value.{Value}
use Rattle.wat_value.specs.declared.place.Place.{Place}
use Rattle.wat_value.specs.declared.place.Place.TheVariants.{At, End}
use Rattle.wat_value.specs.Bounds.{is_above, is_below}
use Rattle.wat_value.specs.Changes.{RowName}
use Rattle.wat_schema.specs.Catalog.{Catalog, listing_at}
use Rattle.wat_schema.specs.Tables.{Row}
use Rattle.wat_isolation.specs.Rows.{Scheme}
use Rattle.wat_isolation.specs.World.{put}
use Rattle.wat_isolation.specs.Logs as logs
use Rattle.wat_isolation.specs.Machine as law
use Rattle.wat_isolation.specs.Kept.{Kept}
use Rattle.wat_isolation.specs.Naming.{owner_in, width_before}
use Rattle.wat_isolation.specs.Sql.{sql, IndexName}
use Rattle.wat_isolation.proofs.Basics.{nat_same, put-same, put-other}
use Rattle.wat_isolation.proofs.Whole.{event_keeps}
use Rattle.wat_locks.specs.declared.held.Held.{Held}
use Rattle.wat_locks.specs.declared.want.Want.{Want}
use Rattle.wat_locks.specs.Held.{AreFree, entry}
use Rattle.wat_level.specs.declared.visit.Visit.{Visit}
use Rattle.wat_level.specs.Wanted.{short_want, long_want, read_lock, phantom_lock}
use Rattle.wat_level.specs.Visit.{read_wants, write_wants, row_wants, place_wants, visit_wants}
use Rattle.wat_plan.specs.declared.choice.PlanStep.{PlanStep}
use Rattle.wat_plan.specs.Plans.{ScanPlan, listing_of_step}
use Rattle.wat_protocol.specs.Locked.{place_of, position_of, long_locks, AreHeld}
use Rattle.wat_protocol.specs.Visited.{IsVisitOf, IsVisitPast}
use Rattle.wat_protocol.specs.Finds.{FindsPosition, FindsEnd}
use Rattle.wat_protocol.proofs.LockLemmas.{place_back}
use Rattle.wat_protocol.proofs.VisitLemmas.{visit_may, past_may}
use Rattle.wat_protocol.proofs.HeldLemmas.{granted}
use Rattle.wat_scans.specs.declared.scan.Scan.{Scan}
use Rattle.wat_scans.specs.declared.scan.Seen.{Seen}
use Rattle.wat_scans.specs.declared.scan.Taken.{Taken}
use Rattle.wat_scans.specs.Look.{look}
use Rattle.wat_scans.specs.Recorded.{index_of_step, cut_below, cut_within, listed, part_inside, part_past, part_at, part_of}
use Rattle.wat_scans.specs.Scans.{is_inside}
use Rattle.wat_scans.specs.Sources.{IsRowAt}
use Rattle.wat_visits.specs.Asked.{visit_of, primary_in}
use Rattle.wat_steps.specs.State.{CoreState, schema_of, IsFirstFrom}
use Rattle.wat_steps.specs.Visiting.{IsSeen}
use Rattle.wat_tied.specs.Tied.{left_of, Relates}
use Rattle.wat_tied.proofs.Places as places
use Rattle.wat_tied.proofs.Reading.{IsReadIn, begun_reading, read_vacant, adds, adds_none}

-- ---- the locks wanted at level 3 and above are the same

same_read : (level : ℕ) → nat_le 3 level ≡ true → (scan table : ℕ) (key : List Value) → read_wants level scan table key ≡ long_want (read_lock table key) ∷ []
same_read level h scan table key = by (level == 0) (level == 1) refl refl
  where
    by : (a b : Bool) → (level == 0) ≡ a → (level == 1) ≡ b → (if a then [] else (if b then short_want scan (read_lock table key) ∷ [] else long_want (read_lock table key) ∷ [])) ≡ long_want (read_lock table key) ∷ []
    by true b e f = absurd (both_ways false refl (subst (λ n. nat_le 3 n ≡ true) (eqb-true level 0 e) h))
    by false true e f = absurd (both_ways false refl (subst (λ n. nat_le 3 n ≡ true) (eqb-true level 1 f) h))
    by false false e f = refl

same_row : (level : ℕ) → nat_le 3 level ≡ true → (visit : Visit) (row : Option (List Value)) → row_wants level visit row ≡ row_wants 3 visit row
same_row level h visit None = refl
same_row level h visit (Some key) = ap (λ z. z ++ write_wants visit.writes visit.table key) (same_read level h visit.scan visit.table key)

pub same_wants : (level : ℕ) → nat_le 3 level ≡ true → (visit : Visit) → visit_wants level visit ≡ visit_wants 3 visit
same_wants level h visit =
    (λ j. (if visit.past then [] else same_row level h visit visit.row j) ++ place_wants level visit)
    ∙ ap (λ b. (if visit.past then [] else row_wants 3 visit visit.row) ++ (if b then long_want (phantom_lock visit.table visit.index visit.place) ∷ [] else [])) h

-- ---- the visit's row

pub primary_is : (c : Catalog) (p : ScanPlan) (step : PlanStep) → listing_at c (listing_of_step p step).def.number ≡ Some (listing_of_step p step) → (key : List Value) → primary_in p step key ≡ (owner_in c (index_of_step p step) key).key
unfolding owner_in
primary_is c p step at key = ap (λ o. drop (width_before (index_of_step p step) o) key) (sym at)

module _ (e : CoreState) (s : law.State sql) (k : Relates e s) (kept : Kept sql s) (c : ℕ) (p : ScanPlan) (writes : Bool) (scan : Scan) (ts : List Taken) (held : List Held) (fewer : AreHeld s held)
    (listing : listing_at (schema_of e) (listing_of_step p scan.step).def.number ≡ Some (listing_of_step p scan.step)) where
  abbrev i : IndexName
  i = index_of_step p scan.step

  abbrev part : logs.Scan sql
  part = record { index = i; lo = cut_below scan.from; hi = cut_below scan.from; done = false; rows = [] }

  abbrev begun : law.State sql
  begun = law.happens sql s (law.Event.Begin_scan c i (cut_below scan.from))

  reading : IsReadIn e s begun c (logs.Item.Saw part) [] e.held
  reading = begun_reading e s k kept c i (cut_below scan.from) (places.is_cut_below scan.from)

  fewer_begun : AreHeld begun held
  fewer_begun = granted s held held c [] (law.Event.Begin_scan c i (cut_below scan.from)) fewer (adds_none held c) refl refl

  -- the second event, with its part of the scan in place of the first one's
  second : (wants : List Want) (item : logs.Item sql) (event : law.Event sql)
      → law.happens sql begun event ≡ law.with_conn sql begun c (law.grown sql begun c (item ∷ (s.conns c).log) (begun.conns c).standing (long_locks wants))
      → ((r : RowName) (o : Option Row) → logs.Version sql r o (item ∷ (s.conns c).log) ≡ logs.Version sql r o (s.conns c).log)
      → law.May sql begun event → AreHeld (law.happens sql begun event) (held ++ map (entry c) wants)
      → IsReadIn e s (law.happens sql begun event) c item wants (held ++ map (entry c) wants)
  second wants item event is same may locks = subst (λ (t : law.State sql). IsReadIn e s t c item wants (held ++ map (entry c) wants)) (sym is) (record {
    kept = subst (Kept sql) is (event_keeps sql begun event reading.kept may);
    relates = record {
      scheme = reading.relates.scheme;
      now = reading.relates.now;
      base = reading.relates.base;
      locks = subst (λ (t : law.State sql). AreHeld t (held ++ map (entry c) wants)) is locks;
      vacant = read_vacant begun c (item ∷ (s.conns c).log) (begun.conns c).standing (long_locks wants) (map left_of e.vacant)
          (λ r o h. subst (logs.Version sql r o) (sym reading.log) (subst (λ (z : Type 0). z) (same r o) h))
          (λ r o h. subst (λ (z : Type 0). z) (sym (same r o)) (subst (logs.Version sql r o) reading.log h))
          reading.relates.vacant;
    };
    log = ap (λ (z : law.Connection sql). z.log) here;
    standing = ap (λ (z : law.Connection sql). z.standing) here ∙ reading.standing;
    others = λ d ne. put-other nat_eq nat_same begun.conns c new d ne ∙ reading.others d ne;
    now = reading.now;
    base = reading.base;
    locks = λ m h. subst (λ (z : law.Connection sql). Has m z.locks) (sym here) (has_right m (long_locks wants) (begun.conns c).locks (reading.locks m h));
    gets = λ m h. subst (λ (z : law.Connection sql). Has m z.locks) (sym here) (has_left m (long_locks wants) (begun.conns c).locks h);
  })
    where
      new : law.Connection sql
      new = law.grown sql begun c (item ∷ (s.conns c).log) (begun.conns c).standing (long_locks wants)

      here : put nat_eq begun.conns c new c ≡ new
      here = put-same nat_eq nat_same begun.conns c new

  -- a position of the interval
  inside : (visit : Visit) (key : List Value) (row : Option Row) → AreFree e.held c (visit_wants 3 visit) → visit.table ≡ i.table → visit.index ≡ i.index → visit.place ≡ At key → visit.row ≡ Some (primary_in p scan.step key) → visit.past ≡ false
      → IsFirstFrom e i scan.from (At key) → IsRowAt (schema_of e) (look e.now) i (At key) row
      → (t : law.State sql) × IsReadIn e s t c (logs.Item.Saw (part_inside p scan key row)) (visit_wants 3 visit) (held ++ map (entry c) (visit_wants 3 visit))
  inside visit key row free table index place at past first here =
      let event : law.Event sql = law.Event.Visit c part (s.conns c).log key (listed key row) (long_locks (visit_wants 3 visit)) in
      let finds : FindsPosition begun c part (s.conns c).log key (listed key row) = record {
        head = reading.log;
        is_pos = places.position_from e begun reading.relates i key first.1;
        further = ap not first.0;
        least = λ y off less pos. first.2 y (places.not_false (is_above scan.from y) off) less (places.position_to e begun reading.relates i y pos);
        takes = places.taken_is e begun reading.relates i key row here;
      } in
      let of : IsVisitOf begun i key visit = record {
        table = table;
        index = index;
        place = place;
        row = at ∙ ap Some (primary_is (schema_of e) p scan.step listing key ∙ ap (λ (g : Scheme sql). (g.row_of i key).key) (sym reading.relates.scheme));
        past = past;
      } in
      let may : law.May sql begun event = visit_may (schema_of e) begun e.held c part (s.conns c).log key (listed key row) visit reading.relates.locks reading.relates.scheme finds of free in (
        law.happens sql begun event,
        second (visit_wants 3 visit) (logs.Item.Saw (part_inside p scan key row)) event refl (λ r o. refl) may
            (granted begun held (held ++ map (entry c) (visit_wants 3 visit)) c (visit_wants 3 visit) event fewer_begun (adds held c (visit_wants 3 visit)) refl refl),
      )

  -- past the interval
  outside : (visit : Visit) (place : Place) → AreFree e.held c (visit_wants 3 visit) → visit.table ≡ i.table → visit.index ≡ i.index → visit.place ≡ place → visit.past ≡ true
      → IsFirstFrom e i scan.from place → is_inside scan place ≡ false
      → (t : law.State sql) × IsReadIn e s t c (logs.Item.Saw (part_past p scan)) (visit_wants 3 visit) (held ++ map (entry c) (visit_wants 3 visit))
  outside visit place free table index at past first out =
      let q : law.Place sql = position_of place in
      let first_q : IsFirstFrom e i scan.from (place_of q) = subst (IsFirstFrom e i scan.from) (sym (place_back place)) first in
      let out_q : is_inside scan (place_of q) ≡ false = ap (is_inside scan) (place_back place) ∙ out in
      let event : law.Event sql = law.Event.Past c part (s.conns c).log (cut_within scan) q (long_locks (visit_wants 3 visit)) in
      let finds : FindsEnd begun c part (s.conns c).log (cut_within scan) q = record {
        head = reading.log;
        cut = places.is_cut_within scan;
        further = λ y h. ap (λ (b : Bool). b || is_below scan.interval.upper y) h;
        none_left = λ y off within pos.
            let up : is_above scan.from y ≡ true = places.not_false (is_above scan.from y) off in
            places.none_left e begun reading.relates i scan q first_q out_q y up
            (⊎_elim (λ (a : cut_below scan.from y ≡ true). absurd (both_ways (is_above scan.from y) (places.not_true (is_above scan.from y) a) up)) (λ a. a) (places.or_cases (cut_below scan.from y) (is_below scan.interval.upper y) within))
            pos;
        first = places.first_within e begun reading.relates i scan q first_q out_q;
      } in
      let of : IsVisitPast i q visit = record { table = table; index = index; place = at ∙ sym (place_back place); past = past } in
      let may : law.May sql begun event = past_may begun e.held c part (s.conns c).log (cut_within scan) q visit reading.relates.locks finds of free in (
        law.happens sql begun event,
        second (visit_wants 3 visit) (logs.Item.Saw (part_past p scan)) event refl (λ r o. refl) may
            (granted begun held (held ++ map (entry c) (visit_wants 3 visit)) c (visit_wants 3 visit) event fewer_begun (adds held c (visit_wants 3 visit)) refl refl),
      )

  abbrev visit_at : Option Row → Place → Visit
  visit_at row place = visit_of p writes scan ts (record { place = place; row = row })

  visited_at : (row : Option Row) (key : List Value) (b : Bool) → is_below scan.interval.upper key ≡ b → IsFirstFrom e i scan.from (At key) → (b ≡ true → IsRowAt (schema_of e) (look e.now) i (At key) row) → AreFree e.held c (visit_wants 3 (visit_at row (At key)))
      → (t : law.State sql) × IsReadIn e s t c (logs.Item.Saw (if b then part_inside p scan key row else part_past p scan)) (visit_wants 3 (visit_at row (At key))) (held ++ map (entry c) (visit_wants 3 (visit_at row (At key))))
  visited_at row key true low first here free = inside (visit_at row (At key)) key row free refl refl refl refl (ap not low) first (here refl)
  visited_at row key false low first here free = outside (visit_at row (At key)) (At key) free refl refl refl (ap not low) first low

  by_place : (row : Option Row) (place : Place) → IsFirstFrom e i scan.from place → (is_inside scan place ≡ true → IsRowAt (schema_of e) (look e.now) i place row) → AreFree e.held c (visit_wants 3 (visit_at row place))
      → (t : law.State sql) × IsReadIn e s t c (logs.Item.Saw (part_at p scan row place)) (visit_wants 3 (visit_at row place)) (held ++ map (entry c) (visit_wants 3 (visit_at row place)))
  by_place row End first here free = outside (visit_at row End) End free refl refl refl refl first refl
  by_place row (At key) first here free = visited_at row key (is_below scan.interval.upper key) refl first here free

  pub visit_read : (seen : Seen) → IsSeen e i scan seen → AreFree e.held c (visit_wants 3 (visit_of p writes scan ts seen))
      → (t : law.State sql) × IsReadIn e s t c (logs.Item.Saw (part_of p scan seen)) (visit_wants 3 (visit_of p writes scan ts seen)) (held ++ map (entry c) (visit_wants 3 (visit_of p writes scan ts seen)))
  unfolding part_of
  visit_read seen sees free = by_place seen.row seen.place sees.first sees.row free

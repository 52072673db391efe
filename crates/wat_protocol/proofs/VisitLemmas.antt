-- What a visit at level 3 asks.
use Rattle.std.proofs.Common.{◌≡◌, ℕ, false, List, [], ◌++◌, Some, refl, sym, ap, ◌∙◌, subst, inl, if◌then◌else◌}
use Rattle.wat_list.specs.Has.{Has}
use Rattle.wat_list.proofs.Members.{has_right}
use Rattle.wat_value.specs.declared.value.Value.{Value}
use Rattle.wat_value.specs.Changes.{RowName}
use Rattle.wat_schema.specs.Catalog.{Catalog}
use Rattle.wat_isolation.specs.Rows.{Scheme, Cut}
use Rattle.wat_isolation.specs.Logs.{Scan, Item}
use Rattle.wat_isolation.specs.Machine as machine
use Rattle.wat_isolation.specs.Sql.{sql, IndexName}
use Rattle.wat_isolation.specs.Naming.{scheme_of, owner_in}
use Rattle.wat_locks.specs.declared.lock.Lock.{Lock}
use Rattle.wat_locks.specs.declared.want.Want.{Want}
use Rattle.wat_locks.specs.declared.held.Held.{Held}
use Rattle.wat_locks.specs.Held.{AreFree}
use Rattle.wat_level.specs.declared.visit.Visit.{Visit}
use Rattle.wat_level.specs.Wanted.{IsWanted, long_want, read_lock, phantom_lock}
use Rattle.wat_level.specs.Visit.{row_wants, place_wants, visit_wants}
use Rattle.wat_protocol.specs.Locked.{lock_of, long_locks, AreHeld}
use Rattle.wat_protocol.specs.Visited.{IsVisitOf, IsVisitPast}
use Rattle.wat_protocol.specs.Finds.{FindsPosition, FindsEnd}
use Rattle.wat_protocol.proofs.LockLemmas.{has_long, all_free}

owner_table : (cat : Catalog) (i : IndexName) (key : List Value) → (owner_in cat i key).table ≡ i.table
unfolding owner_in
owner_table cat i key = refl

row_table : (cat : Catalog) (g : Scheme sql) (i : IndexName) (key : List Value) → g ≡ scheme_of cat → (g.row_of i key).table ≡ i.table
row_table cat g i key e = ap (λ (z : Scheme sql). (z.row_of i key).table) e ∙ owner_table cat i key

-- Read on the row
wants_read : (visit : Visit) (key : List Value) → visit.past ≡ false → visit.row ≡ Some key → Has (long_want (read_lock visit.table key)) (visit_wants 3 visit)
wants_read visit key past row =
    let is : visit_wants 3 visit ≡ row_wants 3 visit (Some key) ++ place_wants 3 visit = λ j. (if past j then [] else row_wants 3 visit (row j)) ++ place_wants 3 visit in
    subst (λ (ws : List Want). Has (long_want (read_lock visit.table key)) ws) (sym is) (inl refl)

-- Phantom on the place
wants_phantom : (visit : Visit) → Has (long_want (phantom_lock visit.table visit.index visit.place)) (visit_wants 3 visit)
wants_phantom visit = has_right (long_want (phantom_lock visit.table visit.index visit.place)) (if visit.past then [] else row_wants 3 visit visit.row) (place_wants 3 visit) (inl refl)

module _ (cat : Catalog) (s : machine.State sql) (i : IndexName) (key : List Value) (visit : Visit) (scheme : s.scheme ≡ scheme_of cat) (of : IsVisitOf s i key visit) where
  read_there : Has (long_want (lock_of (machine.Lock.Read (s.scheme.row_of i key)))) (visit_wants 3 visit)
  read_there =
      let r : RowName = s.scheme.row_of i key in
      let table : visit.table ≡ r.table = of.table ∙ sym (row_table cat s.scheme i key scheme) in
      subst (λ (t : ℕ). Has (long_want (read_lock t r.key)) (visit_wants 3 visit)) table (wants_read visit r.key of.past of.row)

  phantom_there : Has (long_want (lock_of (machine.Lock.Phantom i (machine.Place.At key)))) (visit_wants 3 visit)
  phantom_there = subst (λ (l : Lock). Has (long_want l) (visit_wants 3 visit)) (λ j. phantom_lock (of.table j) (of.index j) (of.place j)) (wants_phantom visit)

  pub position_has : (locks : List (machine.Lock sql)) → ((lock : machine.Lock sql) → IsWanted (lock_of lock) (visit_wants 3 visit) → Has lock locks)
      → Has (machine.Lock.Read (s.scheme.row_of i key)) locks × Has (machine.Lock.Phantom i (machine.Place.At key)) locks
  position_has locks has = (
    has (machine.Lock.Read (s.scheme.row_of i key)) (long_want (lock_of (machine.Lock.Read (s.scheme.row_of i key))), read_there, refl),
    has (machine.Lock.Phantom i (machine.Place.At key)) (long_want (lock_of (machine.Lock.Phantom i (machine.Place.At key))), phantom_there, refl),
  )

  pub position_read : Has (machine.Lock.Read (s.scheme.row_of i key)) (long_locks (visit_wants 3 visit))
  position_read = has_long (visit_wants 3 visit) (machine.Lock.Read (s.scheme.row_of i key)) read_there

  pub position_phantom : Has (machine.Lock.Phantom i (machine.Place.At key)) (long_locks (visit_wants 3 visit))
  position_phantom = has_long (visit_wants 3 visit) (machine.Lock.Phantom i (machine.Place.At key)) phantom_there

module _ (i : IndexName) (q : machine.Place sql) (visit : Visit) (of : IsVisitPast i q visit) where
  end_there : Has (long_want (lock_of (machine.Lock.Phantom i q))) (visit_wants 3 visit)
  end_there = subst (λ (l : Lock). Has (long_want l) (visit_wants 3 visit)) (λ j. phantom_lock (of.table j) (of.index j) (of.place j)) (wants_phantom visit)

  pub past_has : (locks : List (machine.Lock sql)) → ((lock : machine.Lock sql) → IsWanted (lock_of lock) (visit_wants 3 visit) → Has lock locks) → Has (machine.Lock.Phantom i q) locks
  past_has locks has = has (machine.Lock.Phantom i q) (long_want (lock_of (machine.Lock.Phantom i q)), end_there, refl)

  pub past_phantom : Has (machine.Lock.Phantom i q) (long_locks (visit_wants 3 visit))
  past_phantom = has_long (visit_wants 3 visit) (machine.Lock.Phantom i q) end_there

pub visit_may : (cat : Catalog) (s : machine.State sql) (held : List Held) (c : ℕ) (at : Scan sql) (rest : List (Item sql)) (key : List Value) (found : List (List Value × List Value)) (visit : Visit)
    → AreHeld s held → s.scheme ≡ scheme_of cat → FindsPosition s c at rest key found → IsVisitOf s at.index key visit → AreFree held c (visit_wants 3 visit)
    → machine.May sql s (machine.Event.Visit c at rest key found (long_locks (visit_wants 3 visit)))
visit_may cat s held c at rest key found visit are scheme finds of free = record {
  head = finds.head;
  is_pos = finds.is_pos;
  further = finds.further;
  least = finds.least;
  takes = finds.takes;
  read = position_read cat s at.index key visit scheme of;
  phantom = position_phantom cat s at.index key visit scheme of;
  free = all_free s held c (visit_wants 3 visit) are free;
}

pub past_may : (s : machine.State sql) (held : List Held) (c : ℕ) (at : Scan sql) (rest : List (Item sql)) (hi : Cut sql) (q : machine.Place sql) (visit : Visit)
    → AreHeld s held → FindsEnd s c at rest hi q → IsVisitPast at.index q visit → AreFree held c (visit_wants 3 visit)
    → machine.May sql s (machine.Event.Past c at rest hi q (long_locks (visit_wants 3 visit)))
past_may s held c at rest hi q visit are finds of free = record {
  head = finds.head;
  cut = finds.cut;
  further = finds.further;
  none_left = finds.none_left;
  first = finds.first;
  phantom = past_phantom at.index q visit of;
  free = all_free s held c (visit_wants 3 visit) are free;
}

-- The end of a transaction in the law of isolation: its changes that stand become part of the committed tables, or nothing stands; its locks and
-- vacant keys go.
use Rattle.std.proofs.Common.{◌≡◌, ℕ, ◌==◌, Bool, true, false, not, List, [], ◌∷◌, map, reverse, Option, refl, sym, ap, ◌∙◌, subst, inl, inr, unwrap_or}
use Rattle.std.specs.List.{fold, filter}
use Rattle.std.proofs.lemmas.Bool.{both_ways, eqb-true, eq-eqb}
use Rattle.std.proofs.lemmas.List.{reverse-append}
use Rattle.wat_list.specs.Has.{Has}
use Rattle.wat_list.proofs.Members.{has_map, map_has, has_filter, filter_has}
use Rattle.wat_value.specs.declared.change.Change.{Change}
use Rattle.wat_value.specs.Changes.{RowName, row_after}
use Rattle.wat_schema.specs.Catalog.{Catalog}
use Rattle.wat_schema.specs.Tables.{Row, Tables}
use Rattle.wat_isolation.specs.Rows.{set_row}
use Rattle.wat_isolation.specs.Logs.{Committed, view}
use Rattle.wat_isolation.specs.Machine as law
use Rattle.wat_isolation.specs.Kept.{Kept, Stand, Was, redo}
use Rattle.wat_isolation.specs.Vacant as vacancy
use Rattle.wat_isolation.specs.Sql.{sql}
use Rattle.wat_isolation.proofs.Growing.{at_conn}
use Rattle.wat_isolation.proofs.Views.{alone_applies}
use Rattle.wat_isolation.proofs.Vacant.{end_vacant}
use Rattle.wat_locks.specs.declared.held.Held.{Held}
use Rattle.wat_locks.specs.Held.{entry}
use Rattle.wat_level.specs.Wanted.{long_want}
use Rattle.wat_meaning.specs.Meaning.{after_change}
use Rattle.wat_protocol.specs.Locked.{lock_of}
use Rattle.wat_scans.specs.Look.{IsOf}
use Rattle.wat_scans.specs.Running.{row_changed}
use Rattle.wat_scans.proofs.Applied.{AppliedOne, apply_one}
use Rattle.wat_steps.specs.State.{VacantKey, CoreState, schema_of}
use Rattle.wat_tied.specs.Tied.{left_of, IsFormed, standing_as, AreStanding, Relates}
use Rattle.wat_tied.proofs.Changed.{fold_append}

fold_last : {A B : Type 0} (f : B → A → B) (b : B) (x : A) (xs : List A) → fold f b (reverse (x ∷ xs)) ≡ f (fold f b (reverse xs)) x
fold_last f b x xs = ap (fold f b) (reverse-append (x ∷ []) xs) ∙ fold_append f b (reverse xs) (x ∷ [])

-- the tables with the changes that stand, as lists
redone : (c : Catalog) (f : RowName → Option Row) (t : Tables) → IsOf c f t → (changes : List Change) → ((ch : Change) → Has ch changes → IsFormed c ch) → Was sql (map (standing_as c) changes) f
    → IsOf c (redo sql (map (standing_as c) changes) f) (fold after_change t (reverse changes))
redone c f t is [] formed was = is
redone c f t is (ch ∷ changes) formed was =
    let before : RowName → Option Row = redo sql (map (standing_as c) changes) f in
    let deeper : IsOf c before (fold after_change t (reverse changes)) = redone c f t is changes (λ x has. formed x (inr has)) was.1 in
    let a : AppliedOne c before (fold after_change t (reverse changes)) ch = apply_one c before (fold after_change t (reverse changes)) deeper ch (formed ch (inl refl)).after was.0 in
    let end : fold after_change t (reverse (ch ∷ changes)) ≡ a.after = fold_last after_change t ch changes ∙ ap (λ o. unwrap_or o (fold after_change t (reverse changes))) a.applies in
    subst (IsOf c (set_row sql before (row_changed c ch) (row_after ch))) (sym end) a.is

-- what a transaction sees, as lists
pub seen_by : (e : CoreState) (s : law.State sql) → Relates e s → Kept sql s → (c : ℕ) (changes : List Change) → AreStanding (schema_of e) changes (s.conns c).standing
    → IsOf (schema_of e) (view sql s.base (s.conns c).log) (fold after_change e.committed (reverse changes))
seen_by e s k kept c changes are =
    let stand : Stand sql s.base (s.conns c).standing (view sql s.base (s.conns c).log) = kept.stands c s.base (alone_applies sql s.scheme s.base (s.conns c).log (kept.open_serial c)) in
    let o = redone (schema_of e) s.base e.committed k.base changes are.formed (subst (λ z. Was sql z s.base) are.same stand.was) in
    record { tables = o.tables; schema = o.schema; rows = λ r. o.rows r ∙ (ap (λ z. redo sql z s.base r) (sym are.same) ∙ sym (stand.sees r)) }

not_me : (c d : ℕ) → (d ≡ c → ⊥) → not (d == c) ≡ true
not_me c d ne = by (d == c) refl
  where
    by : (b : Bool) → (d == c) ≡ b → not b ≡ true
    by true e = absurd (ne (eqb-true d c e))
    by false e = refl

is_not_me : (c d : ℕ) → not (d == c) ≡ true → d ≡ c → ⊥
is_not_me c d h e = both_ways (not (d == c)) (ap not (eq-eqb d c e)) h

-- the law's state after the end of the connection's transaction
abbrev pub left_with : law.State sql → ℕ → (RowName → Option Row) → List (Committed sql) → law.State sql
left_with s c base history = record { scheme = s.scheme; base = base; now = s.now; conns = law.set_conn sql s.conns c (law.idle sql); history = history }

-- the core's state without the connection's locks and vacant keys, and with these tables committed
abbrev pub freed : ℕ → Tables → CoreState → CoreState
freed c committed e = record e { committed = committed; held = filter (λ (h : Held). not (h.conn == c)) e.held; vacant = filter (λ (v : VacantKey). not (v.conn == c)) e.vacant }

pub freed_relates : (e : CoreState) (s : law.State sql) → Relates e s → (c : ℕ) (base : RowName → Option Row) (history : List (Committed sql)) (committed : Tables) → IsOf (schema_of e) base committed
    → Relates (freed c committed e) (left_with s c base history)
freed_relates e s k c base history committed is = record {
  scheme = k.scheme;
  now = k.now;
  base = is;
  locks = λ d m. at_conn sql s.conns c (law.idle sql) (λ n z. Has m z.locks → Has (entry n (long_want (lock_of m))) (filter (λ (h : Held). not (h.conn == c)) e.held)) (λ h. absurd h)
      (λ n ne h. filter_has (λ (x : Held). not (x.conn == c)) (entry n (long_want (lock_of m))) e.held (k.locks n m h) (not_me c n ne)) d;
  vacant = end_vacant sql s c base history (map left_of e.vacant) (map left_of (filter (λ (l : VacantKey). not (l.conn == c)) e.vacant)) k.vacant drops;
}
  where
    drops : vacancy.DropsOf sql c (map left_of e.vacant) (map left_of (filter (λ (l : VacantKey). not (l.conn == c)) e.vacant))
    drops = record {
      keep = λ o h ne. let r = has_map left_of o e.vacant h in
          subst (λ z. Has z (map left_of (filter (λ (l : VacantKey). not (l.conn == c)) e.vacant))) r.2
          (map_has left_of r.0 (filter (λ (l : VacantKey). not (l.conn == c)) e.vacant) (filter_has (λ (l : VacantKey). not (l.conn == c)) r.0 e.vacant r.1 (not_me c r.0.conn (λ e. ne (sym (ap (λ (z : vacancy.VacantKey sql). z.by) r.2) ∙ e)))));
      no_more = λ o h. let r = has_map left_of o (filter (λ (l : VacantKey). not (l.conn == c)) e.vacant) h in
          let f = has_filter (λ (l : VacantKey). not (l.conn == c)) r.0 e.vacant r.1 in
          (subst (λ z. Has z (map left_of e.vacant)) r.2 (map_has left_of r.0 e.vacant f.0), λ e. is_not_me c r.0.conn f.1 (ap (λ (z : vacancy.VacantKey sql). z.by) r.2 ∙ e));
    }

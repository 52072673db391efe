-- Undoing the last change that stands keeps the invariant. It asks no lock, and no position comes or goes.
use Rattle.std.proofs.Common.{◌≡◌, ℕ, List, [], ◌∷◌, ◌⊎◌, Option, Some, refl, sym, ap, ◌∙◌, subst, inl, inr, ⊎_elim}
use Rattle.wat_isolation.specs.World.{World}
use Rattle.wat_list.specs.Has.{Has}
use Rattle.wat_isolation.specs.Rows.{Tables, set_row, key_at}
use Rattle.wat_isolation.specs.Logs.{Scan, Item, Item.Did, view, Alone, ChangesApply, Version, Scanned, LookedUp}
use Rattle.wat_isolation.specs.Machine.{Place.At, Lock, Lock.Read, Lock.Write, Lock.Anti, Standing, Connection, State, IsPos, grown, set_conn, May, happens, Event.Undo}
use Rattle.wat_isolation.specs.Kept.{KeepsRow, Guarded, Stand, redo, Kept, SameAt}
use Rattle.wat_isolation.proofs.Basics.{row_same, put_cases, put-same, put-other}
use Rattle.wat_isolation.proofs.Positions.{version_now}
use Rattle.wat_isolation.proofs.Growing.{at_conn, locks_to, compatible_more, keeps_more, covers_same}

module _ (w : World) (s : State w) (k : Kept w s) (c : ℕ) (last : Standing w) (rest : List (Standing w)) (is : (s.conns c).standing ≡ last ∷ rest) where
  abbrev log' : List (Item w)
  log' = Did last.row (s.now last.row) last.was ∷ (s.conns c).log

  abbrev new : Connection w
  new = grown w s c log' rest []

  abbrev t : State w
  t = record { scheme = s.scheme; base = s.base; now = set_row w s.now last.row last.was; conns = set_conn w s.conns c new; history = s.history }

  abbrev row : w.Index → w.Key → w.Row
  row i x = s.scheme.row_of i x

  was_version : Version w last.row last.was (s.conns c).log
  was_version = k.standing c last (subst (Has last) (sym is) (inl refl))

  now_version : Version w last.row (s.now last.row) (s.conns c).log
  now_version = version_now w s k c last.row last.was was_version

  writes : Has (Write last.row) (s.conns c).locks
  writes = k.touched c last.row last.was was_version

  mine : s.now last.row ≡ view w s.base (s.conns c).log last.row
  mine = k.own c last.row writes

  held_in : (d : ℕ) (l : Lock w) → Has l (s.conns d).locks → Has l (t.conns d).locks
  held_in d l h = locks_to w s c log' rest [] d l h

  back_here : (q : w.Row) (v : Option w.Content) → Version w q v log' → Version w q v (s.conns c).log
  back_here q v (inl u) = subst (λ z. Version w z v (s.conns c).log) u.0 (subst (λ z. Version w last.row z (s.conns c).log) u.1 now_version)
  back_here q v (inr (inl u)) = subst (λ z. Version w z v (s.conns c).log) u.0 (subst (λ z. Version w last.row z (s.conns c).log) u.1 was_version)
  back_here q v (inr (inr h)) = h

  version_to : (d : ℕ) (q : w.Row) (v : Option w.Content) → Version w q v (s.conns d).log → Version w q v (t.conns d).log
  version_to d q v = at_conn w s.conns c new (λ e z. Version w q v (s.conns e).log → Version w q v z.log) (λ h. inr (inr h)) (λ e ne h. h) d

  version_back : (d : ℕ) (q : w.Row) (v : Option w.Content) → Version w q v (t.conns d).log → Version w q v (s.conns d).log
  version_back d q v = at_conn w s.conns c new (λ e z. Version w q v z.log → Version w q v (s.conns e).log) (back_here q v) (λ e ne h. h) d

  set_cases : (f : Tables w) (q : w.Row) → ((q ≡ last.row) × (set_row w f last.row last.was q ≡ last.was)) ⊎ ((q ≡ last.row → ⊥) × (set_row w f last.row last.was q ≡ f q))
  set_cases f q = put_cases w.same (row_same w) f last.row last.was q

  pos_to : (i : w.Index) (x : w.Key) → IsPos w s i x → IsPos w t i x
  pos_to i x (inr h) = inr (h.0, h.1, version_to h.0 (row i x) h.1 h.2, h.3)
  pos_to i x (inl h) =
      ⊎_elim
      (λ (u : (row i x ≡ last.row) × (set_row w s.now last.row last.was (row i x) ≡ last.was)).
      inr (c, s.now (row i x), version_to c (row i x) (s.now (row i x)) (subst (λ z. Version w z (s.now z) (s.conns c).log) (sym u.0) now_version), h))
      (λ (u : (row i x ≡ last.row → ⊥) × (set_row w s.now last.row last.was (row i x) ≡ s.now (row i x))). inl (ap (key_at w s.scheme i (row i x)) u.1 ∙ h))
      (set_cases s.now (row i x))

  pos_back : (i : w.Index) (x : w.Key) → IsPos w t i x → IsPos w s i x
  pos_back i x (inr h) = inr (h.0, h.1, version_back h.0 (row i x) h.1 h.2, h.3)
  pos_back i x (inl h) =
      ⊎_elim
      (λ (u : (row i x ≡ last.row) × (set_row w s.now last.row last.was (row i x) ≡ last.was)).
      inr (c, last.was, subst (λ z. Version w z last.was (s.conns c).log) (sym u.0) was_version, ap (key_at w s.scheme i (row i x)) (sym u.1) ∙ h))
      (λ (u : (row i x ≡ last.row → ⊥) × (set_row w s.now last.row last.was (row i x) ≡ s.now (row i x))). inl (ap (key_at w s.scheme i (row i x)) (sym u.1) ∙ h))
      (set_cases s.now (row i x))

  guarded_stays : (d : ℕ) (at : Scan w) → Guarded w s d at → Guarded w t d at
  guarded_stays d at h = record {
    gaps = λ x a. covers_same w s t d at.index (pos_to at.index) (pos_back at.index) (held_in d) (λ y. w.less y x) (h.gaps x a);
    rows = λ x a pos. keeps_more w s t d (row at.index x) (held_in d) (h.rows x a (pos_back at.index x pos));
    past = λ e. covers_same w s t d at.index (pos_to at.index) (pos_back at.index) (held_in d) at.hi (h.past e);
  }

  pub undo_same : (d : ℕ) (at : Scan w) → (c ≡ d → ⊥) → Guarded w s d at → SameAt w s t at
  undo_same d at ne h = record {
    stay = λ x a. pos_to at.index x;
    none_new = λ x a. pos_back at.index x;
    rows = λ x a pos. sym (put-other w.same (row_same w) s.now last.row last.was (row at.index x) (λ (e : row at.index x ≡ last.row). ⊎_elim
        (λ (m : Has (Read (row at.index x)) (s.conns d).locks). ne (k.compatible c d (Write last.row) (Read (row at.index x)) writes m (sym e)))
        (λ (m : Has (Write (row at.index x)) (s.conns d).locks). ne (k.compatible c d (Write last.row) (Write (row at.index x)) writes m (sym e)))
        (h.rows x a pos)));
  }

  own_here : (q : w.Row) → Has (Write q) (s.conns c).locks → set_row w s.now last.row last.was q ≡ set_row w (view w s.base (s.conns c).log) last.row last.was q
  own_here q h =
      ⊎_elim
      (λ (u : (q ≡ last.row) × (set_row w s.now last.row last.was q ≡ last.was)). u.1 ∙ sym (subst (λ z. set_row w (view w s.base (s.conns c).log) last.row last.was z ≡ last.was) (sym u.0) (put-same w.same (row_same w) (view w s.base (s.conns c).log) last.row last.was)))
      (λ (u : (q ≡ last.row → ⊥) × (set_row w s.now last.row last.was q ≡ s.now q)). u.1 ∙ (k.own c q h ∙ sym (put-other w.same (row_same w) (view w s.base (s.conns c).log) last.row last.was q u.0)))
      (set_cases s.now q)

  own_there : (d : ℕ) (q : w.Row) → (d ≡ c → ⊥) → Has (Write q) (s.conns d).locks → set_row w s.now last.row last.was q ≡ view w s.base (s.conns d).log q
  own_there d q ne h =
      put-other w.same (row_same w) s.now last.row last.was q (λ (e : q ≡ last.row). ne (k.compatible d c (Write q) (Write last.row) h writes e)) ∙ k.own d q h

  -- the row is again as it was below what stands
  stand_here : (base : Tables w) → Stand w base (last ∷ rest) (view w base (s.conns c).log) → Stand w base rest (set_row w (view w base (s.conns c).log) last.row last.was)
  stand_here base o = record {
    sees = λ q. ⊎_elim
        (λ (u : (q ≡ last.row) × (set_row w (view w base (s.conns c).log) last.row last.was q ≡ last.was)). u.1 ∙ (sym o.was.0 ∙ ap (redo w rest base) (sym u.0)))
        (λ (u : (q ≡ last.row → ⊥) × (set_row w (view w base (s.conns c).log) last.row last.was q ≡ view w base (s.conns c).log q)).
        u.1 ∙ (o.sees q ∙ put-other w.same (row_same w) (redo w rest base) last.row last.became q u.0))
        (set_cases (view w base (s.conns c).log) q);
    was = o.was.1;
  }

  undo_kept : Kept w t
  undo_kept = record {
    compatible = compatible_more w s c log' rest [] k.compatible (λ l h. absurd h);
    own = λ d q. at_conn w s.conns c new (λ e z. Has (Write q) z.locks → set_row w s.now last.row last.was q ≡ view w s.base z.log q) (own_here q) (λ e ne h. own_there e q ne h) d;
    still = λ q. ⊎_elim
        (λ (u : (q ≡ last.row) × (set_row w s.now last.row last.was q ≡ last.was)). inr (c, held_in c (Write q) (subst (λ z. Has (Write z) (s.conns c).locks) (sym u.0) writes)))
        (λ (u : (q ≡ last.row → ⊥) × (set_row w s.now last.row last.was q ≡ s.now q)). ⊎_elim (λ e. inl (u.1 ∙ e)) (λ (o : (e : ℕ) × Has (Write q) (s.conns e).locks). inr (o.0, held_in o.0 (Write q) o.1)) (k.still q))
        (set_cases s.now q);
    touched = λ d q v. at_conn w s.conns c new (λ e z. Version w q v z.log → Has (Write q) z.locks) (λ h. k.touched c q v (back_here q v h)) (λ e ne h. k.touched e q v h) d;
    moved = λ d i x q v u. at_conn w s.conns c new (λ e z. Version w q v z.log → Version w q u z.log → key_at w s.scheme i q v ≡ Some x → (key_at w s.scheme i q u ≡ Some x → ⊥) → Has (Anti i (At x)) z.locks)
        (λ h h' a b. k.moved c i x q v u (back_here q v h) (back_here q u h') a b) (λ e ne h h' a b. k.moved e i x q v u h h' a b) d;
    looked = λ d q. at_conn w s.conns c new (λ e z. LookedUp w q z.log → KeepsRow w t e q) (λ h. keeps_more w s t c q (held_in c) (k.looked c q h)) (λ e ne h. keeps_more w s t e q (held_in e) (k.looked e q h)) d;
    open_serial = λ d. at_conn w s.conns c new (λ e z. Alone w s.scheme s.base z.log) (k.open_serial c, sym mine) (λ e ne. k.open_serial e) d;
    guarded = λ d. at_conn w s.conns c new (λ e z. (at : Scan w) → Scanned w at z.log → Guarded w t e at)
        (λ at h. guarded_stays c at (k.guarded c at h)) (λ e ne at h. guarded_stays e at (k.guarded e at h)) d;
    stands = λ d. at_conn w s.conns c new (λ e z. (base : Tables w) → ChangesApply w base z.log → Stand w base z.standing (view w base z.log))
        (λ base h. stand_here base (subst (λ z. Stand w base z (view w base (s.conns c).log)) is (k.stands c base h.0)))
        (λ e ne. k.stands e) d;
    standing = λ d u. at_conn w s.conns c new (λ e z. Has u z.standing → Version w u.row u.was z.log)
        (λ h. inr (inr (k.standing c u (subst (Has u) (sym is) (inr h))))) (λ e ne h. k.standing e u h) d;
  }

pub undo_keeps : (w : World) (s : State w) (c : ℕ) (last : Standing w) (rest : List (Standing w)) → Kept w s → May w s (Undo c last rest) → Kept w (happens w s (Undo c last rest))
undo_keeps w s c last rest k may = undo_kept w s k c last rest may

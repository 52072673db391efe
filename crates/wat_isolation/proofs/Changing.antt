-- A change of a row, whether insert, update or delete, keeps the invariant.
use Rattle.std.proofs.Common.{◌≡◌, ℕ, List, [], ◌∷◌, ◌⊎◌, Option, Some, None, nat_eq, refl, sym, ap, ◌∙◌, subst, inl, inr, ⊎_elim}
use Rattle.wat_isolation.specs.World.{World}
use Rattle.wat_list.specs.Has.{Has}
use Rattle.wat_isolation.specs.Rows.{Scheme, Tables, set_row, key_at, Cut, IsCut, before, upto}
use Rattle.wat_isolation.specs.Logs.{Scan, Item, Item.Saw, Item.Did, Item.Looked, Item.Peeked, view, Alone, ChangesApply, Version, Scanned, LookedUp}
use Rattle.wat_isolation.specs.Machine.{Place, Place.At, Lock, Lock.Read, Lock.Write, Lock.Phantom, Lock.Anti, Standing, Connection, State, IsPos, IsFirst, AllFree, AsksForChange, grown, set_conn, May, happens, Event.Change}
use Rattle.wat_isolation.specs.Kept.{GuardsGap, KeepsRow, Guarded, Stand, redo, Kept, SameAt}
use Rattle.wat_isolation.proofs.Basics.{nat_same, row_same, cases_same, put_cases, put-same, put-other, has_cases, has_left, has_right, cases_some, some_same}
use Rattle.wat_isolation.proofs.Orders.{cases_key, is_before}
use Rattle.wat_isolation.proofs.Views.{set_at}
use Rattle.wat_isolation.proofs.Positions.{now_is_view, version_now, first_same, first_once, insert_first, first_here}
use Rattle.wat_isolation.proofs.Growing.{at_conn, locks_to, wants_in, compatible_more, keeps_more}

-- a key belongs to the row that has it
pub key_row : (w : World) (g : Scheme w) (i : w.Index) (r : w.Row) (o : Option w.Content) (x : w.Key) → key_at w g i r o ≡ Some x → g.row_of i x ≡ r
key_row w g i r None x e = absurd (cc)
key_row w g i r (Some v) x e = g.owned i r v x e

-- a scan in a log read up to a cut
pub scanned_cut : (w : World) (g : Scheme w) (f : Tables w) (l : List (Item w)) (at : Scan w) → Alone w g f l → Scanned w at l → IsCut w at.hi
scanned_cut w g f [] at h n = absurd n
scanned_cut w g f (Saw s ∷ l) at h (inl e) = subst (λ (z : Scan w). IsCut w z.hi) e h.1.cut
scanned_cut w g f (Saw s ∷ l) at h (inr n) = scanned_cut w g f l at h.0 n
scanned_cut w g f (Did r b a ∷ l) at h n = scanned_cut w g f l at h.0 n
scanned_cut w g f (Looked r v ∷ l) at h n = scanned_cut w g f l at h.0 n
scanned_cut w g f (Peeked r v ∷ l) at h n = scanned_cut w g f l at h n

module _ (w : World) (s : State w) (k : Kept w s) (c : ℕ) (r : w.Row) (after : Option w.Content) (wants : List (Lock w)) (next : w.Index → Place w) (asks : AsksForChange w s c r after wants next) (free : AllFree w s c wants) where
  abbrev log' : List (Item w)
  log' = Did r (s.now r) after ∷ (s.conns c).log

  abbrev standing' : List (Standing w)
  standing' = record { row = r; was = s.now r; became = after } ∷ (s.conns c).standing

  abbrev new : Connection w
  new = grown w s c log' standing' wants

  abbrev t : State w
  t = record { scheme = s.scheme; base = s.base; now = set_row w s.now r after; conns = set_conn w s.conns c new; history = s.history }

  abbrev key : w.Index → w.Row → Option w.Content → Option w.Key
  key i q o = key_at w s.scheme i q o

  abbrev row : w.Index → w.Key → w.Row
  row i x = s.scheme.row_of i x

  -- the key comes to the row with this change
  abbrev Comes : w.Index → w.Key → Type 0
  Comes i x = (key i r after ≡ Some x) × (key i r (s.now r) ≡ Some x → ⊥)

  mine : s.now r ≡ view w s.base (s.conns c).log r
  mine = now_is_view w s k c r (λ d h. free (Write r) asks.write d (Write r) h refl)

  sole : (d : ℕ) → (d ≡ c → ⊥) → Has (Write r) (s.conns d).locks → ⊥
  sole d ne h = ne (sym (free (Write r) asks.write d (Write r) h refl))

  want_in : (l : Lock w) → Has l wants → Has l (t.conns c).locks
  want_in l h = wants_in w s c log' standing' wants l h

  held_in : (d : ℕ) (l : Lock w) → Has l (s.conns d).locks → Has l (t.conns d).locks
  held_in d l h = locks_to w s c log' standing' wants d l h

  version_to : (d : ℕ) (q : w.Row) (v : Option w.Content) → Version w q v (s.conns d).log → Version w q v (t.conns d).log
  version_to d q v = at_conn w s.conns c new (λ e z. Version w q v (s.conns e).log → Version w q v z.log) (λ h. inr (inr h)) (λ e ne h. h) d

  version_back : (d : ℕ) (q : w.Row) (v : Option w.Content) → Version w q v (t.conns d).log → ((r ≡ q) × (s.now r ≡ v)) ⊎ (((r ≡ q) × (after ≡ v)) ⊎ Version w q v (s.conns d).log)
  version_back d q v = at_conn w s.conns c new (λ e z. Version w q v z.log → ((r ≡ q) × (s.now r ≡ v)) ⊎ (((r ≡ q) × (after ≡ v)) ⊎ Version w q v (s.conns e).log)) (λ h. h) (λ e ne h. inr (inr h)) d

  set_cases : (f : Tables w) (q : w.Row) → ((q ≡ r) × (set_row w f r after q ≡ after)) ⊎ ((q ≡ r → ⊥) × (set_row w f r after q ≡ f q))
  set_cases f q = put_cases w.same (row_same w) f r after q

  pos_to : (i : w.Index) (x : w.Key) → IsPos w s i x → IsPos w t i x
  pos_to i x (inr h) = inr (h.0, h.1, version_to h.0 (row i x) h.1 h.2, h.3)
  pos_to i x (inl h) =
      ⊎_elim
      (λ (u : (row i x ≡ r) × (set_row w s.now r after (row i x) ≡ after)).
      inr (c, s.now (row i x), subst (λ (z : Connection w). Version w (row i x) (s.now (row i x)) z.log) (sym (put-same nat_eq nat_same s.conns c new)) (inl (sym u.0, ap s.now (sym u.0))), h))
      (λ (u : (row i x ≡ r → ⊥) × (set_row w s.now r after (row i x) ≡ s.now (row i x))). inl (ap (key i (row i x)) u.1 ∙ h))
      (set_cases s.now (row i x))

  -- a key of the row after the change, that is no key of it before, comes; else it was a position
  at_after : (i : w.Index) (x : w.Key) → row i x ≡ r → key i (row i x) after ≡ Some x → IsPos w s i x ⊎ Comes i x
  at_after i x e h =
      ⊎_elim
      (λ (y : key i r (s.now r) ≡ Some x). inl (inl (subst (λ q. key i q (s.now q) ≡ Some x) (sym e) y)))
      (λ (n : key i r (s.now r) ≡ Some x → ⊥). inr (subst (λ q. key i q after ≡ Some x) e h, n))
      (cases_key w (key i r (s.now r)) x)

  pos_back : (i : w.Index) (x : w.Key) → IsPos w t i x → IsPos w s i x ⊎ Comes i x
  pos_back i x (inl h) =
      ⊎_elim
      (λ (u : (row i x ≡ r) × (set_row w s.now r after (row i x) ≡ after)). at_after i x u.0 (ap (key i (row i x)) (sym u.1) ∙ h))
      (λ (u : (row i x ≡ r → ⊥) × (set_row w s.now r after (row i x) ≡ s.now (row i x))). inl (inl (ap (key i (row i x)) (sym u.1) ∙ h)))
      (set_cases s.now (row i x))
  pos_back i x (inr h) =
      ⊎_elim
      (λ (u : (r ≡ row i x) × (s.now r ≡ h.1)). inl (inl (ap (key i (row i x)) (ap s.now (sym u.0) ∙ u.1) ∙ h.3)))
      (λ o. ⊎_elim
      (λ (u : (r ≡ row i x) × (after ≡ h.1)). at_after i x (sym u.0) (ap (key i (row i x)) u.1 ∙ h.3))
      (λ (v : Version w (row i x) h.1 (s.conns h.0).log). inl (inr (h.0, h.1, v, h.3)))
      o)
      (version_back h.0 (row i x) h.1 h.2)

  comes_pos : (i : w.Index) (x : w.Key) → Comes i x → IsPos w t i x
  comes_pos i x h =
      let e : row i x ≡ r = key_row w s.scheme i r after x h.0 in
      inl (subst (λ q. key i q (set_row w s.now r after q) ≡ Some x) (sym e) (ap (key i r) (put-same w.same (row_same w) s.now r after) ∙ h.0))

  -- who holds Phantom on the position past a key that comes is the connection itself
  by_own : (d : ℕ) (i : w.Index) (x : w.Key) (q : Place w) → Comes i x → IsFirst w s i (upto w x) q → Has (Phantom i q) (s.conns d).locks → (c ≡ d) × (next i ≡ q)
  by_own d i x q h first ph =
      let e : next i ≡ q = first_once w s i (upto w x) (next i) q (asks.is_next i x h.0 h.1) first in
      (free (Anti i (next i)) (asks.past i x h.0 h.1) d (Phantom i q) ph (refl, e), e)

  -- nothing comes but at one key
  stays : (d : ℕ) (i : w.Index) (cut : Cut w) → ((x : w.Key) → Comes i x → ⊥) → GuardsGap w s d i cut → GuardsGap w t d i cut
  stays d i cut none h =
      (h.0, first_same w s t i cut h.0 (pos_to i) (λ z pos. ⊎_elim (λ o. o) (λ (n : Comes i z). absurd (none z n)) (pos_back i z pos)) h.1, held_in d (Phantom i h.0) h.2)

  covers_stay : (d : ℕ) (i : w.Index) (cut : Cut w) → IsCut w cut → GuardsGap w s d i cut → GuardsGap w t d i cut
  covers_stay d i cut is_cut h =
      ⊎_elim
      (λ (m : (n : w.Key) × (key i r after ≡ Some n)). ⊎_elim
      (λ (y : key i r (s.now r) ≡ Some m.0). stays d i cut (λ x n. n.1 (y ∙ (sym m.1 ∙ n.0))) h)
      (λ (y : key i r (s.now r) ≡ Some m.0 → ⊥). ⊎_elim
      (λ (n : IsFirst w t i cut h.0). (h.0, n, held_in d (Phantom i h.0) h.2))
      (λ (n : IsFirst w s i (upto w m.0) h.0 × IsFirst w t i cut (At m.0)).
      let o : (c ≡ d) × (next i ≡ h.0) = by_own d i m.0 h.0 (m.1, y) n.0 h.2 in
      let has : Has (Phantom i (next i)) (s.conns c).locks = subst (λ z. Has (Phantom i z) (s.conns c).locks) (sym o.1) (subst (λ z. Has (Phantom i h.0) (s.conns z).locks) (sym o.0) h.2) in
      (At m.0, n.1, subst (λ z. Has (Phantom i (At m.0)) (t.conns z).locks) o.0 (want_in (Phantom i (At m.0)) (asks.inherits i m.0 m.1 y has))))
      (insert_first w s t i cut m.0 h.0 is_cut (pos_to i)
      (λ z pos. ⊎_elim (λ o. inl o) (λ (n : Comes i z). inr (some_same z m.0 (sym n.0 ∙ m.1))) (pos_back i z pos))
      (comes_pos i m.0 (m.1, y)) h.1))
      (cases_key w (key i r (s.now r)) m.0))
      (λ (none : (n : w.Key) → key i r after ≡ Some n → ⊥). stays d i cut (λ x n. none x n.0) h)
      (cases_some (key i r after))

  guarded_stays : (d : ℕ) (at : Scan w) → IsCut w at.hi → Guarded w s d at → Guarded w t d at
  guarded_stays d at is_cut h = record {
    gaps = λ x a. covers_stay d at.index (before w x) (is_before w x) (h.gaps x a);
    rows = λ x a pos. ⊎_elim
        (λ (o : IsPos w s at.index x). keeps_more w s t d (row at.index x) (held_in d) (h.rows x a o))
        (λ (n : Comes at.index x).
        let cov : GuardsGap w s d at.index (before w x) = h.gaps x a in
        ⊎_elim
        (λ (o : IsPos w s at.index x). keeps_more w s t d (row at.index x) (held_in d) (h.rows x a o))
        (λ (first : IsFirst w s at.index (upto w x) cov.0).
        let o : (c ≡ d) × (next at.index ≡ cov.0) = by_own d at.index x cov.0 n first cov.2 in
        let e : row at.index x ≡ r = key_row w s.scheme at.index r after x n.0 in
        inr (subst (λ z. Has (Write (row at.index x)) (t.conns z).locks) o.0 (want_in (Write (row at.index x)) (subst (λ z. Has (Write z) wants) (sym e) asks.write))))
        (first_here w s at.index x cov.0 cov.1))
        (pos_back at.index x pos);
    past = λ e. covers_stay d at.index at.hi is_cut (h.past e);
  }

  -- another connection's scan keeps its positions and rows
  pub change_same : (d : ℕ) (at : Scan w) → (c ≡ d → ⊥) → Guarded w s d at → SameAt w s t at
  change_same d at ne h = record {
    stay = λ x a. pos_to at.index x;
    none_new = λ x a pos. ⊎_elim
        (λ o. o)
        (λ (n : Comes at.index x).
        let cov : GuardsGap w s d at.index (before w x) = h.gaps x a in
        ⊎_elim (λ o. o) (λ (first : IsFirst w s at.index (upto w x) cov.0). absurd (ne (by_own d at.index x cov.0 n first cov.2).0)) (first_here w s at.index x cov.0 cov.1))
        (pos_back at.index x pos);
    rows = λ x a pos. sym (put-other w.same (row_same w) s.now r after (row at.index x) (λ (e : row at.index x ≡ r). ⊎_elim
        (λ (m : Has (Read (row at.index x)) (s.conns d).locks). ne (free (Write r) asks.write d (Read (row at.index x)) m (sym e)))
        (λ (m : Has (Write (row at.index x)) (s.conns d).locks). ne (free (Write r) asks.write d (Write (row at.index x)) m (sym e)))
        (h.rows x a pos)));
  }

  -- a key that some version of the row has and its content now has not
  to_old : (i : w.Index) (x : w.Key) (v : Option w.Content) → Version w r v log' → key i r v ≡ Some x → (key i r (s.now r) ≡ Some x → ⊥) → Has (Anti i (At x)) new.locks
  to_old i x v (inl u) a b = absurd (b (ap (key i r) u.1 ∙ a))
  to_old i x v (inr (inl u)) a b = has_left (Anti i (At x)) wants (s.conns c).locks (asks.comes i x (ap (key i r) u.1 ∙ a) b)
  to_old i x v (inr (inr h)) a b = has_right (Anti i (At x)) wants (s.conns c).locks (k.moved c i x r v (s.now r) h (version_now w s k c r v h) a b)

  from_old : (i : w.Index) (x : w.Key) (u : Option w.Content) → Version w r u log' → key i r (s.now r) ≡ Some x → (key i r u ≡ Some x → ⊥) → Has (Anti i (At x)) new.locks
  from_old i x u (inl m) a b = absurd (b (ap (key i r) (sym m.1) ∙ a))
  from_old i x u (inr (inl m)) a b = has_left (Anti i (At x)) wants (s.conns c).locks (asks.leaves i x a (λ e. b (ap (key i r) (sym m.1) ∙ e)))
  from_old i x u (inr (inr h)) a b = has_right (Anti i (At x)) wants (s.conns c).locks (k.moved c i x r (s.now r) u (version_now w s k c r u h) h a b)

  other_row : (q : w.Row) (v : Option w.Content) → (q ≡ r → ⊥) → Version w q v log' → Version w q v (s.conns c).log
  other_row q v ne (inl u) = absurd (ne (sym u.0))
  other_row q v ne (inr (inl u)) = absurd (ne (sym u.0))
  other_row q v ne (inr (inr h)) = h

  moved_here : (i : w.Index) (x : w.Key) (q : w.Row) (v u : Option w.Content) → Version w q v log' → Version w q u log' → key i q v ≡ Some x → (key i q u ≡ Some x → ⊥) → Has (Anti i (At x)) new.locks
  moved_here i x q v u h h' a b =
      ⊎_elim
      (λ (e : q ≡ r).
      let hv : Version w r v log' = subst (λ z. Version w z v log') e h in
      let hu : Version w r u log' = subst (λ z. Version w z u log') e h' in
      let ha : key i r v ≡ Some x = subst (λ z. key i z v ≡ Some x) e a in
      let hb : key i r u ≡ Some x → ⊥ = subst (λ z. key i z u ≡ Some x → ⊥) e b in
      ⊎_elim (λ y. from_old i x u hu y hb) (λ y. to_old i x v hv ha y) (cases_key w (key i r (s.now r)) x))
      (λ (ne : q ≡ r → ⊥). has_right (Anti i (At x)) wants (s.conns c).locks (k.moved c i x q v u (other_row q v ne h) (other_row q u ne h') a b))
      (cases_same w.same (row_same w) q r)

  touched_here : (q : w.Row) (v : Option w.Content) → Version w q v log' → Has (Write q) new.locks
  touched_here q v (inl u) = has_left (Write q) wants (s.conns c).locks (subst (λ z. Has (Write z) wants) u.0 asks.write)
  touched_here q v (inr (inl u)) = has_left (Write q) wants (s.conns c).locks (subst (λ z. Has (Write z) wants) u.0 asks.write)
  touched_here q v (inr (inr h)) = has_right (Write q) wants (s.conns c).locks (k.touched c q v h)

  own_here : (q : w.Row) → Has (Write q) new.locks → set_row w s.now r after q ≡ set_row w (view w s.base (s.conns c).log) r after q
  own_here q h =
      ⊎_elim
      (λ (u : (q ≡ r) × (set_row w s.now r after q ≡ after)). u.1 ∙ sym (subst (λ z. set_row w (view w s.base (s.conns c).log) r after z ≡ after) (sym u.0) (put-same w.same (row_same w) (view w s.base (s.conns c).log) r after)))
      (λ (u : (q ≡ r → ⊥) × (set_row w s.now r after q ≡ s.now q)). u.1 ∙ (
      ⊎_elim
      (λ (n : Has (Write q) wants). now_is_view w s k c q (λ e h'. free (Write q) n e (Write q) h' refl))
      (λ (o : Has (Write q) (s.conns c).locks). k.own c q o)
      (has_cases (Write q) wants (s.conns c).locks h) ∙ sym (put-other w.same (row_same w) (view w s.base (s.conns c).log) r after q u.0)))
      (set_cases s.now q)

  own_there : (d : ℕ) (q : w.Row) → (d ≡ c → ⊥) → Has (Write q) (s.conns d).locks → set_row w s.now r after q ≡ view w s.base (s.conns d).log q
  own_there d q ne h =
      put-other w.same (row_same w) s.now r after q (λ (e : q ≡ r). sole d ne (subst (λ z. Has (Write z) (s.conns d).locks) e h)) ∙ k.own d q h

  standing_here : (u : Standing w) → Has u standing' → Version w u.row u.was log'
  standing_here u (inl e) = inl (ap (λ (z : Standing w). z.row) e, ap (λ (z : Standing w). z.was) e)
  standing_here u (inr h) = inr (inr (k.standing c u h))

  change_kept : Kept w t
  change_kept = record {
    compatible = compatible_more w s c log' standing' wants k.compatible free;
    own = λ d q. at_conn w s.conns c new (λ e z. Has (Write q) z.locks → set_row w s.now r after q ≡ view w s.base z.log q) (own_here q) (λ e ne h. own_there e q ne h) d;
    still = λ q. ⊎_elim
        (λ (u : (q ≡ r) × (set_row w s.now r after q ≡ after)). inr (c, subst (λ z. Has (Write z) (t.conns c).locks) (sym u.0) (want_in (Write r) asks.write)))
        (λ (u : (q ≡ r → ⊥) × (set_row w s.now r after q ≡ s.now q)). ⊎_elim (λ e. inl (u.1 ∙ e)) (λ (o : (e : ℕ) × Has (Write q) (s.conns e).locks). inr (o.0, held_in o.0 (Write q) o.1)) (k.still q))
        (set_cases s.now q);
    touched = λ d q v. at_conn w s.conns c new (λ e z. Version w q v z.log → Has (Write q) z.locks) (touched_here q v) (λ e ne h. k.touched e q v h) d;
    moved = λ d i x q v u. at_conn w s.conns c new (λ e z. Version w q v z.log → Version w q u z.log → key i q v ≡ Some x → (key i q u ≡ Some x → ⊥) → Has (Anti i (At x)) z.locks)
        (moved_here i x q v u) (λ e ne h h' a b. k.moved e i x q v u h h' a b) d;
    looked = λ d q. at_conn w s.conns c new (λ e z. LookedUp w q z.log → KeepsRow w t e q) (λ h. keeps_more w s t c q (held_in c) (k.looked c q h)) (λ e ne h. keeps_more w s t e q (held_in e) (k.looked e q h)) d;
    open_serial = λ d. at_conn w s.conns c new (λ e z. Alone w s.scheme s.base z.log) (k.open_serial c, sym mine) (λ e ne. k.open_serial e) d;
    guarded = λ d. at_conn w s.conns c new (λ e z. (at : Scan w) → Scanned w at z.log → Guarded w t e at)
        (λ at h. guarded_stays c at (scanned_cut w s.scheme s.base (s.conns c).log at (k.open_serial c) h) (k.guarded c at h))
        (λ e ne at h. guarded_stays e at (scanned_cut w s.scheme s.base (s.conns e).log at (k.open_serial e) h) (k.guarded e at h)) d;
    stands = λ d. at_conn w s.conns c new (λ e z. (base : Tables w) → ChangesApply w base z.log → Stand w base z.standing (view w base z.log))
        (λ base h. let o = k.stands c base h.0 in record {
          sees = λ q. set_at w (view w base (s.conns c).log) (redo w (s.conns c).standing base) r after q (o.sees q);
          was = (sym (o.sees r) ∙ h.1, o.was);
        })
        (λ e ne. k.stands e) d;
    standing = λ d u. at_conn w s.conns c new (λ e z. Has u z.standing → Version w u.row u.was z.log) (standing_here u) (λ e ne h. k.standing e u h) d;
  }

pub change_keeps : (w : World) (s : State w) (c : ℕ) (r : w.Row) (after : Option w.Content) (wants : List (Lock w)) (next : w.Index → Place w) → Kept w s → May w s (Change c r after wants next) → Kept w (happens w s (Change c r after wants next))
change_keeps w s c r after wants next k may = change_kept w s k c r after wants next may.0 may.1

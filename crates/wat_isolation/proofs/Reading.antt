-- The events that read keep the invariant.
use Rattle.std.proofs.Common.{◌≡◌, ℕ, true, false, List, [], ◌∷◌, Some, refl, sym, ap, ◌∙◌, subst, inl, inr, ⊎_elim}
use Rattle.std.proofs.lemmas.Bool.{cases_Bool, both_ways, true≢false}
use Rattle.wat_isolation.specs.World.{World}
use Rattle.wat_list.specs.Has.{Has}
use Rattle.wat_isolation.specs.Rows.{Tables, key_at, IsLive, Lookup, Cut, IsCut, before, upto, Within, Rising}
use Rattle.wat_isolation.specs.Logs.{Scan, Item, Item.Saw, Item.Looked, Item.Peeked, view, IsPlainScan, Alone, Scanned, LookedUp}
use Rattle.wat_isolation.specs.Machine.{Place, Place.At, Place.End, Lock, Lock.Read, Lock.Write, Lock.Phantom, State, IsPos, IsFirst, AllFree, Takes, grown, with_conn, visited, finished, May, MayVisit, happens, Event.Begin_scan, Event.Visit, Event.Past, Event.Look, Event.Peek}
use Rattle.wat_isolation.specs.Kept.{KeepsRow, Guarded, Kept}
use Rattle.wat_isolation.proofs.Basics.{has_cases, has_left, has_right}
use Rattle.wat_isolation.proofs.Orders.{less_false, not_true, from_false, le_cases, is_upto, below, not_before, rising_append}
use Rattle.wat_isolation.proofs.Views.{lookup_stands, lookup_at}
use Rattle.wat_isolation.proofs.Positions.{now_is_view, view_pos, first_same}
use Rattle.wat_isolation.proofs.Growing.{wants_in, keeps_more, SameChanges, read_locks, read_to, read_back, guarded_same, reads_keep}

pub same_head : (w : World) (log rest : List (Item w)) (at at' : Scan w) → log ≡ Saw at ∷ rest → SameChanges w log (Saw at' ∷ rest)
same_head w log rest at at' e =
    subst (λ z. SameChanges w z (Saw at' ∷ rest)) (sym e) (record { sees = λ f r. refl; to = λ r v h. h; back = λ r v h. h; applies = λ f h. h })

-- the first position past hi is the first not before any key from the scan's cut to hi, where none lies between
first_earlier : (w : World) (s : State w) (i : w.Index) (at hi : Cut w) (x : w.Key) (q : Place w) → IsCut w at → IsCut w hi → at x ≡ false → hi x ≡ true → ((y : w.Key) → at y ≡ false → hi y ≡ true → IsPos w s i y → ⊥) → IsFirst w s i hi q → IsFirst w s i (before w x) q
first_earlier w s i at hi x End cut cut' a b none h =
    λ y m pos. ⊎_elim
    (λ (t : hi y ≡ true). none y (not_before w at cut x y a m) t pos)
    (λ (f : hi y ≡ false). h y f pos)
    (cases_Bool (hi y))
first_earlier w s i at hi x (At p) cut cut' a b none h = (
  less_false w x p (below w hi cut' x p b h.0),
  h.1,
  λ y m l pos. ⊎_elim
      (λ (t : hi y ≡ true). none y (not_before w at cut x y a m) t pos)
      (λ (f : hi y ≡ false). h.2 y f l pos)
      (cases_Bool (hi y)),
)

module _ (w : World) (s : State w) (k : Kept w s) (c : ℕ) (at : Scan w) (rest : List (Item w)) (head : (s.conns c).log ≡ Saw at ∷ rest) where
  pub was : Alone w s.scheme s.base rest × IsPlainScan w s.scheme (view w s.base rest) at
  was = subst (Alone w s.scheme s.base) head (k.open_serial c)

  pub old_guard : Guarded w s c at
  old_guard = k.guarded c at (subst (Scanned w at) (sym head) (inl refl))

  pub sees : (r : w.Row) → view w s.base (s.conns c).log r ≡ view w s.base rest r
  sees r = ap (λ z. view w s.base z r) head

  -- no key of the view lies where no position is
  pub view_none : (x : w.Key) → (IsPos w s at.index x → ⊥) → IsLive w s.scheme at.index (view w s.base rest) x → ⊥
  view_none x off h = off (view_pos w s k c at.index x (ap (key_at w s.scheme at.index (s.scheme.row_of at.index x)) (sees (s.scheme.row_of at.index x)) ∙ h))

  -- the guards of the scans of a log whose first item is given anew
  pub guards_rest : (at' : Scan w) (wants : List (Lock w)) (free : AllFree w s c wants) → Guarded w (with_conn w s c (grown w s c (Saw at' ∷ rest) (s.conns c).standing wants)) c at'
      → (one : Scan w) → Scanned w one (Saw at' ∷ rest) → Guarded w (with_conn w s c (grown w s c (Saw at' ∷ rest) (s.conns c).standing wants)) c one
  guards_rest at' wants free new one (inl e) = subst (λ z. Guarded w (with_conn w s c (grown w s c (Saw at' ∷ rest) (s.conns c).standing wants)) c z) e new
  guards_rest at' wants free new one (inr h) =
      guarded_same w s k c (Saw at' ∷ rest) wants free (same_head w (s.conns c).log rest at at' head) c one (k.guarded c one (subst (Scanned w one) (sym head) (inr h)))

  pub looks_rest : (at' : Scan w) (wants : List (Lock w)) (free : AllFree w s c wants) → (r : w.Row) → LookedUp w r (Saw at' ∷ rest) → KeepsRow w (with_conn w s c (grown w s c (Saw at' ∷ rest) (s.conns c).standing wants)) c r
  looks_rest at' wants free r h =
      keeps_more w s (with_conn w s c (grown w s c (Saw at' ∷ rest) (s.conns c).standing wants)) c r
      (read_locks w s k c (Saw at' ∷ rest) wants free (same_head w (s.conns c).log rest at at' head) c)
      (k.looked c r (subst (LookedUp w r) (sym head) h))

module _ (w : World) (s : State w) (k : Kept w s) (c : ℕ) (at : Scan w) (rest : List (Item w)) (p : w.Key) (found : List (w.Key × w.Content)) (wants : List (Lock w)) (may : MayVisit w s c at rest p found wants) where
  abbrev new : Scan w
  new = visited w at p found

  abbrev t : State w
  t = with_conn w s c (grown w s c (Saw new ∷ rest) (s.conns c).standing wants)

  abbrev f : Tables w
  f = view w s.base rest

  same : SameChanges w (s.conns c).log (Saw new ∷ rest)
  same = same_head w (s.conns c).log rest at new may.head

  old : IsPlainScan w s.scheme f at
  old = (was w s k c at rest may.head).1

  -- a key up to p that was not read yet is p, or there is none
  only : (x : w.Key) → at.hi x ≡ false → upto w p x ≡ true → IsPos w s at.index x → x ≡ p
  only x a b pos =
      ⊎_elim (λ e. e) (λ (l : w.less x p ≡ true). absurd (may.least x a l pos)) (le_cases w x p (not_true (w.less p x) b))

  here : s.now (s.scheme.row_of at.index p) ≡ f (s.scheme.row_of at.index p)
  here =
      now_is_view w s k c (s.scheme.row_of at.index p) (λ d h. may.free (Read (s.scheme.row_of at.index p)) may.read d (Write (s.scheme.row_of at.index p)) h refl)
      ∙ sees w s k c at rest may.head (s.scheme.row_of at.index p)

  grows : (x : w.Key) → at.hi x ≡ true → upto w p x ≡ true
  grows x a = from_false (w.less p x) (less_false w x p (below w at.hi old.cut x p a may.further))

  low : at.lo p ≡ false
  low = ⊎_elim (λ (t : at.lo p ≡ true). absurd (both_ways (at.hi p) may.further (old.up p t))) (λ f. f) (cases_Bool (at.lo p))

  high : upto w p p ≡ true
  high = from_false (w.less p p) (w.less_self p)

  within_new : (x : w.Key) → Within w at.lo at.hi x → Within w at.lo (upto w p) x
  within_new x h = (h.0, grows x h.1)

  taken_sound : Takes w s.scheme at.index s.now p found → (x : w.Key) (v : w.Content) → Has (x, v) found → (x ≡ p) × Lookup w s.scheme at.index f x v
  taken_sound (inl u) x v h = absurd (subst (Has (x, v)) u.0 h)
  taken_sound (inr u) x v h =
      ⊎_elim
      (λ (e : (p, u.0) ≡ (x, v)).
      let e0 : p ≡ x = ap (λ (z : w.Key × w.Content). z.0) e in
      let e1 : u.0 ≡ v = ap (λ (z : w.Key × w.Content). z.1) e in
      let there : Lookup w s.scheme at.index f p u.0 = lookup_at w s.scheme at.index s.now f p u.0 here u.1 in
      (sym e0, subst (λ z. Lookup w s.scheme at.index f z v) e0 (subst (λ z. Lookup w s.scheme at.index f p z) e1 there)))
      (λ h. absurd h)
      (subst (Has (x, v)) u.2 h)

  taken_full : Takes w s.scheme at.index s.now p found → (v : w.Content) → Lookup w s.scheme at.index f p v → Has (p, v) found
  taken_full (inl u) v h = absurd (u.1 (lookup_stands w s.scheme at.index s.now p v (lookup_at w s.scheme at.index f s.now p v (sym here) h)))
  taken_full (inr u) v h =
      let mine : Lookup w s.scheme at.index f p u.0 = lookup_at w s.scheme at.index s.now f p u.0 here u.1 in
      let some : Some u.0 ≡ Some v = sym mine.0 ∙ h.0 in
      let e : u.0 ≡ v = cc in
      subst (Has (p, v)) (sym u.2) (inl (ap (λ z. (p, z)) e))

  taken_rising : Takes w s.scheme at.index s.now p found → Rising w found
  taken_rising (inl u) = subst (Rising w) (sym u.0) tt
  taken_rising (inr u) = subst (Rising w) (sym u.2) ((λ d h. absurd h), tt)

  answers : IsPlainScan w s.scheme f new
  answers = record {
    cut = is_upto w p;
    up = λ x a. grows x (old.up x a);
    rising = rising_append w at.rows found old.rising (taken_rising may.takes)
        (λ x y a b. subst (λ z. w.less x.0 z ≡ true) (sym (taken_sound may.takes y.0 y.1 b).0) (below w at.hi old.cut x.0 p (old.sound x.0 x.1 a).0.1 may.further));
    sound = λ x v h. ⊎_elim
        (λ (a : Has (x, v) at.rows). (within_new x (old.sound x v a).0, (old.sound x v a).1))
        (λ (a : Has (x, v) found).
        let o : (x ≡ p) × Lookup w s.scheme at.index f x v = taken_sound may.takes x v a in
        (subst (λ z. Within w at.lo (upto w p) z) (sym o.0) (low, high), o.1))
        (has_cases (x, v) at.rows found h);
    full = λ x v a h. ⊎_elim
        (λ (b : at.hi x ≡ true). has_left (x, v) at.rows found (old.full x v (a.0, b) h))
        (λ (b : at.hi x ≡ false).
        let e : x ≡ p = only x b a.1 (view_pos w s k c at.index x (ap (key_at w s.scheme at.index (s.scheme.row_of at.index x)) (sees w s k c at rest may.head (s.scheme.row_of at.index x)) ∙ lookup_stands w s.scheme at.index f x v h)) in
        has_right (x, v) at.rows found (subst (λ z. Has (z, v) found) (sym e) (taken_full may.takes v (subst (λ z. Lookup w s.scheme at.index f z v) e h))))
        (cases_Bool (at.hi x));
  }

  kept_old : Guarded w t c at
  kept_old = guarded_same w s k c (Saw new ∷ rest) wants may.free same c at (old_guard w s k c at rest may.head)

  to : (x : w.Key) → IsPos w s at.index x → IsPos w t at.index x
  to x = read_to w s k c (Saw new ∷ rest) wants may.free same at.index x

  back : (x : w.Key) → IsPos w t at.index x → IsPos w s at.index x
  back x = read_back w s k c (Saw new ∷ rest) wants may.free same at.index x

  first : (x : w.Key) → at.hi x ≡ false → upto w p x ≡ true → IsFirst w t at.index (before w x) (At p)
  first x a b = (not_true (w.less p x) b, to p may.is_pos, λ y m l pos. may.least y (not_before w at.hi old.cut x y a m) l (back y pos))

  guard : Guarded w t c new
  guard = record {
    gaps = λ x a. ⊎_elim
        (λ (b : at.hi x ≡ true). kept_old.gaps x (a.0, b))
        (λ (b : at.hi x ≡ false). (At p, first x b a.1, wants_in w s c (Saw new ∷ rest) (s.conns c).standing wants (Phantom at.index (At p)) may.phantom))
        (cases_Bool (at.hi x));
    rows = λ x a pos. ⊎_elim
        (λ (b : at.hi x ≡ true). kept_old.rows x (a.0, b) pos)
        (λ (b : at.hi x ≡ false).
        inl (subst (λ z. Has (Read (s.scheme.row_of at.index z)) (t.conns c).locks) (sym (only x b a.1 (back x pos))) (wants_in w s c (Saw new ∷ rest) (s.conns c).standing wants (Read (s.scheme.row_of at.index p)) may.read)))
        (cases_Bool (at.hi x));
    past = λ (e : false ≡ true). absurd (true≢false (sym e));
  }

  visit_kept : Kept w t
  visit_kept = reads_keep w s k c (Saw new ∷ rest) wants may.free same ((was w s k c at rest may.head).0, answers)
      (looks_rest w s k c at rest may.head new wants may.free)
      (guards_rest w s k c at rest may.head new wants may.free guard)

pub visit_keeps : (w : World) (s : State w) (c : ℕ) (at : Scan w) (rest : List (Item w)) (p : w.Key) (found : List (w.Key × w.Content)) (wants : List (Lock w)) → Kept w s → May w s (Visit c at rest p found wants) → Kept w (happens w s (Visit c at rest p found wants))
visit_keeps w s c at rest p found wants k may = visit_kept w s k c at rest p found wants may

pub past_keeps : (w : World) (s : State w) (c : ℕ) (at : Scan w) (rest : List (Item w)) (hi : Cut w) (q : Place w) (wants : List (Lock w)) → Kept w s → May w s (Past c at rest hi q wants) → Kept w (happens w s (Past c at rest hi q wants))
past_keeps w s c at rest hi q wants k may =
    let new : Scan w = finished w at hi in
    let log : List (Item w) = Saw new ∷ rest in
    let t : State w = with_conn w s c (grown w s c log (s.conns c).standing wants) in
    let f : Tables w = view w s.base rest in
    let same : SameChanges w (s.conns c).log log = same_head w (s.conns c).log rest at new may.head in
    let old : IsPlainScan w s.scheme f at = (was w s k c at rest may.head).1 in
    let to : (x : w.Key) → IsPos w s at.index x → IsPos w t at.index x = read_to w s k c log wants may.free same at.index in
    let back : (x : w.Key) → IsPos w t at.index x → IsPos w s at.index x = read_back w s k c log wants may.free same at.index in
    let kept_old : Guarded w t c at = guarded_same w s k c log wants may.free same c at (old_guard w s k c at rest may.head) in
    let phantom_in : Has (Phantom at.index q) (t.conns c).locks = wants_in w s c log (s.conns c).standing wants (Phantom at.index q) may.phantom in
    let answers : IsPlainScan w s.scheme f new = record {
      cut = may.cut;
      up = λ x a. may.further x (old.up x a);
      rising = old.rising;
      sound = λ x v h. let o = old.sound x v h in ((o.0.0, may.further x o.0.1), o.1);
      full = λ x v a h. ⊎_elim
          (λ (b : at.hi x ≡ true). old.full x v (a.0, b) h)
          (λ (b : at.hi x ≡ false). absurd (view_none w s k c at rest may.head x (may.none_left x b a.1) (lookup_stands w s.scheme at.index f x v h)))
          (cases_Bool (at.hi x));
    } in
    let guard : Guarded w t c new = record {
      gaps = λ x a. ⊎_elim
          (λ (b : at.hi x ≡ true). kept_old.gaps x (a.0, b))
          (λ (b : at.hi x ≡ false). (q, first_same w s t at.index (before w x) q to back (first_earlier w s at.index at.hi hi x q old.cut may.cut b a.1 may.none_left may.first), phantom_in))
          (cases_Bool (at.hi x));
      rows = λ x a pos. ⊎_elim
          (λ (b : at.hi x ≡ true). kept_old.rows x (a.0, b) pos)
          (λ (b : at.hi x ≡ false). absurd (may.none_left x b a.1 (back x pos)))
          (cases_Bool (at.hi x));
      past = λ e. (q, first_same w s t at.index hi q to back may.first, phantom_in);
    } in
    reads_keep w s k c log wants may.free same ((was w s k c at rest may.head).0, answers)
    (looks_rest w s k c at rest may.head new wants may.free)
    (guards_rest w s k c at rest may.head new wants may.free guard)

pub no_wants : (w : World) (s : State w) (c : ℕ) → AllFree w s c []
no_wants w s c l h = absurd h

pub begin_keeps : (w : World) (s : State w) (c : ℕ) (i : w.Index) (lo : Cut w) → Kept w s → IsCut w lo → Kept w (happens w s (Begin_scan c i lo))
begin_keeps w s c i lo k cut =
    let new : Scan w = record { index = i; lo = lo; hi = lo; done = false; rows = [] } in
    let log : List (Item w) = Saw new ∷ (s.conns c).log in
    let t : State w = with_conn w s c (grown w s c log (s.conns c).standing []) in
    let same : SameChanges w (s.conns c).log log = record { sees = λ f r. refl; to = λ r v h. h; back = λ r v h. h; applies = λ f h. h } in
    let guard : Guarded w t c new = record {
      gaps = λ x a. absurd (both_ways (lo x) a.0 a.1);
      rows = λ x a pos. absurd (both_ways (lo x) a.0 a.1);
      past = λ (e : false ≡ true). absurd (true≢false (sym e));
    } in
    let answers : IsPlainScan w s.scheme (view w s.base (s.conns c).log) new = record {
      cut = cut;
      up = λ x a. a;
      rising = tt;
      sound = λ x v h. absurd h;
      full = λ x v a h. absurd (both_ways (lo x) a.0 a.1);
    } in
    reads_keep w s k c log [] (no_wants w s c) same (k.open_serial c, answers)
    (λ r h. keeps_more w s t c r (read_locks w s k c log [] (no_wants w s c) same c) (k.looked c r h))
    (λ one h. ⊎_elim
    (λ (e : new ≡ one). subst (λ z. Guarded w t c z) e guard)
    (λ (h : Scanned w one (s.conns c).log). guarded_same w s k c log [] (no_wants w s c) same c one (k.guarded c one h))
    h)

pub look_keeps : (w : World) (s : State w) (c : ℕ) (r : w.Row) (wants : List (Lock w)) → Kept w s → May w s (Look c r wants) → Kept w (happens w s (Look c r wants))
look_keeps w s c r wants k may =
    let log : List (Item w) = Looked r (s.now r) ∷ (s.conns c).log in
    let t : State w = with_conn w s c (grown w s c log (s.conns c).standing wants) in
    let same : SameChanges w (s.conns c).log log = record { sees = λ f q. refl; to = λ q v h. h; back = λ q v h. h; applies = λ f h. h } in
    let alone : (d : ℕ) → Has (Write r) (s.conns d).locks → c ≡ d = λ d h. ⊎_elim
    (λ (n : Has (Read r) wants). may.1 (Read r) n d (Write r) h refl)
    (λ (n : Has (Write r) wants). may.1 (Write r) n d (Write r) h refl) may.0 in
    let held : KeepsRow w t c r = ⊎_elim
    (λ n. inl (wants_in w s c log (s.conns c).standing wants (Read r) n))
    (λ n. inr (wants_in w s c log (s.conns c).standing wants (Write r) n)) may.0 in
    reads_keep w s k c log wants may.1 same (k.open_serial c, sym (now_is_view w s k c r alone))
    (λ q h. ⊎_elim
    (λ (e : r ≡ q). subst (λ z. KeepsRow w t c z) e held)
    (λ (h : LookedUp w q (s.conns c).log). keeps_more w s t c q (read_locks w s k c log wants may.1 same c) (k.looked c q h))
    h)
    (λ one h. guarded_same w s k c log wants may.1 same c one (k.guarded c one h))

pub peek_keeps : (w : World) (s : State w) (c : ℕ) (r : w.Row) (wants : List (Lock w)) → Kept w s → May w s (Peek c r wants) → Kept w (happens w s (Peek c r wants))
peek_keeps w s c r wants k may =
    let log : List (Item w) = Peeked r (s.now r) ∷ (s.conns c).log in
    let t : State w = with_conn w s c (grown w s c log (s.conns c).standing wants) in
    let same : SameChanges w (s.conns c).log log = record { sees = λ f q. refl; to = λ q v h. h; back = λ q v h. h; applies = λ f h. h } in
    reads_keep w s k c log wants may same (k.open_serial c)
    (λ q h. keeps_more w s t c q (read_locks w s k c log wants may same c) (k.looked c q h))
    (λ one h. guarded_same w s k c log wants may same c one (k.guarded c one h))

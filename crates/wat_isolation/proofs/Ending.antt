-- The end of a transaction, by a commit or with everything undone, keeps the invariant.
use Rattle.std.proofs.Common.{◌≡◌, ℕ, List, [], ◌∷◌, ◌⊎◌, Option, Some, nat_eq, refl, sym, ap, ◌∙◌, subst, inl, inr, ⊎_elim}
use Rattle.wat_isolation.specs.World.{World}
use Rattle.wat_list.specs.Has.{Has}
use Rattle.wat_isolation.specs.Rows.{Scheme, Tables, key_at, IsLive, Lookup, Cut, before, Within}
use Rattle.wat_isolation.specs.Logs.{Scan, Item, Item.Saw, Item.Did, Item.Looked, Item.Peeked, Committed, Committed.Ran, view, Alone, ChangesApply, Version, Scanned, LookedUp}
use Rattle.wat_isolation.specs.Machine.{Place, Place.At, Place.End, Lock, Lock.Read, Lock.Write, Lock.Phantom, Lock.Anti, Connection, State, IsPos, IsFirst, set_conn, idle, May, happens, Event.Commit, Event.Leave}
use Rattle.wat_isolation.specs.Kept.{GuardsGap, KeepsRow, Guarded, Stand, redo, Kept, SameAt}
use Rattle.wat_isolation.proofs.Basics.{nat_same, cases_same, put-other}
use Rattle.wat_isolation.proofs.Orders.{cases_key}
use Rattle.wat_isolation.proofs.Views.{view_at, view_untouched, alone_applies, lookup_at, lookup_stands, Untouched, BothVersions}
use Rattle.wat_isolation.proofs.Positions.{sole_writer, open_versions, version_now, base_pos, first_once, first_at}
use Rattle.wat_isolation.proofs.Growing.{at_conn}

-- The other tables are as these at the row; or the transaction never changed the row, and neither has the key.
abbrev pub Apart : (w : World) → Scheme w → Tables w → Tables w → List (Item w) → w.Index → w.Key → Type 0
Apart w g f h l i x = (f (g.row_of i x) ≡ h (g.row_of i x)) ⊎ (((v : Option w.Content) → Version w (g.row_of i x) v l → ⊥) × (IsLive w g i f x → ⊥) × (IsLive w g i h x → ⊥))

apart_back : (w : World) (g : Scheme w) (f h : Tables w) (l : List (Item w)) (i : w.Index) (x : w.Key) → Apart w g f h l i x → Apart w g h f l i x
apart_back w g f h l i x (inl e) = inl (sym e)
apart_back w g f h l i x (inr u) = inr (u.0, u.2, u.1)

lookup_apart : (w : World) (g : Scheme w) (f h : Tables w) (l : List (Item w)) (i : w.Index) (x : w.Key) (v : w.Content) → Apart w g f h l i x → Lookup w g i (view w f l) x v → Lookup w g i (view w h l) x v
lookup_apart w g f h l i x v (inl e) k = lookup_at w g i (view w f l) (view w h l) x v (view_at w f h l (g.row_of i x) e) k
lookup_apart w g f h l i x v (inr u) k =
    absurd (u.1 (ap (key_at w g i (g.row_of i x)) (sym (view_untouched w f l (g.row_of i x) u.0)) ∙ lookup_stands w g i (view w f l) x v k))

-- What a transaction did, it does on any tables that agree on its scans' keys, on the rows that it looked up and on those that it changed.
pub alone_moved : (w : World) (g : Scheme w) (f h : Tables w) (l : List (Item w)) → ((q : w.Row) (v : Option w.Content) → Version w q v l → f q ≡ h q) → ((q : w.Row) → LookedUp w q l → f q ≡ h q) → ((at : Scan w) → Scanned w at l → (x : w.Key) → Within w at.lo at.hi x → Apart w g f h l at.index x) → Alone w g f l → Alone w g h l
alone_moved w g f h [] same looks apart a = tt
alone_moved w g f h (Peeked q v ∷ l) same looks apart a = alone_moved w g f h l same looks apart a
alone_moved w g f h (Looked q v ∷ l) same looks apart a =
    (alone_moved w g f h l same (λ p m. looks p (inr m)) apart a.0, sym (view_at w f h l q (looks q (inl refl))) ∙ a.1)
alone_moved w g f h (Did q b c ∷ l) same looks apart a = (
  alone_moved w g f h l (λ p v u. same p v (inr (inr u))) looks
      (λ at n x m. ⊎_elim (λ e. inl e) (λ (u : ((v : Option w.Content) → Version w (g.row_of at.index x) v (Did q b c ∷ l) → ⊥) × (IsLive w g at.index f x → ⊥) × (IsLive w g at.index h x → ⊥)). inr ((λ v o. u.0 v (inr (inr o))), u.1, u.2)) (apart at n x m))
      a.0,
  sym (view_at w f h l q (same q b (inl (refl, refl)))) ∙ a.1,
)
alone_moved w g f h (Saw s ∷ l) same looks apart a = (
  alone_moved w g f h l same looks (λ at n. apart at (inr n)) a.0,
  record {
    cut = a.1.cut;
    up = a.1.up;
    rising = a.1.rising;
    sound = λ x v n. let o = a.1.sound x v n in (o.0, lookup_apart w g f h l s.index x v (apart s (inl refl) x o.0) o.1);
    full = λ x v m n. a.1.full x v m (lookup_apart w g h f l s.index x v (apart_back w g f h l s.index x (apart s (inl refl) x m)) n);
  },
)

module _ (w : World) (s : State w) (k : Kept w s) (c : ℕ) (base' : Tables w) (history' : List (Committed w)) (is_after : (r : w.Row) → base' r ≡ view w s.base (s.conns c).log r) where
  abbrev t : State w
  t = record { scheme = s.scheme; base = base'; now = s.now; conns = set_conn w s.conns c (idle w); history = history' }

  abbrev row : w.Index → w.Key → w.Row
  row i x = s.scheme.row_of i x

  locks_back : (d : ℕ) (l : Lock w) → Has l (t.conns d).locks → Has l (s.conns d).locks
  locks_back d l = at_conn w s.conns c (idle w) (λ e z. Has l z.locks → Has l (s.conns e).locks) (λ h. absurd h) (λ e ne h. h) d

  locks_to : (d : ℕ) (l : Lock w) → (d ≡ c → ⊥) → Has l (s.conns d).locks → Has l (t.conns d).locks
  locks_to d l ne h = subst (λ (z : Connection w). Has l z.locks) (sym (put-other nat_eq nat_same s.conns c (idle w) d ne)) h

  keeps_to : (d : ℕ) (q : w.Row) → (d ≡ c → ⊥) → KeepsRow w s d q → KeepsRow w t d q
  keeps_to d q ne (inl h) = inl (locks_to d (Read q) ne h)
  keeps_to d q ne (inr h) = inr (locks_to d (Write q) ne h)

  version_back : (d : ℕ) (q : w.Row) (v : Option w.Content) → Version w q v (t.conns d).log → Version w q v (s.conns d).log
  version_back d q v = at_conn w s.conns c (idle w) (λ e z. Version w q v z.log → Version w q v (s.conns e).log) (λ h. absurd h) (λ e ne h. h) d

  pos_back : (i : w.Index) (x : w.Key) → IsPos w t i x → IsPos w s i x
  pos_back i x (inl h) = inl h
  pos_back i x (inr h) = inr (h.0, h.1, version_back h.0 (row i x) h.1 h.2, h.3)

  -- a position that goes has the ended transaction's AntiPhantom
  pos_to : (i : w.Index) (x : w.Key) → IsPos w s i x → IsPos w t i x ⊎ Has (Anti i (At x)) (s.conns c).locks
  pos_to i x (inl h) = inl (inl h)
  pos_to i x (inr h) =
      ⊎_elim
      (λ (e : h.0 ≡ c).
      let v : Version w (row i x) h.1 (s.conns c).log = subst (λ z. Version w (row i x) h.1 (s.conns z).log) e h.2 in
      ⊎_elim
      (λ (y : key_at w s.scheme i (row i x) (s.now (row i x)) ≡ Some x). inl (inl y))
      (λ (n : key_at w s.scheme i (row i x) (s.now (row i x)) ≡ Some x → ⊥). inr (k.moved c i x (row i x) h.1 (s.now (row i x)) v (version_now w s k c (row i x) h.1 v) h.3 n))
      (cases_key w (key_at w s.scheme i (row i x) (s.now (row i x))) x))
      (λ (ne : h.0 ≡ c → ⊥). inl (inr (h.0, h.1, subst (λ (z : Connection w). Version w (row i x) h.1 z.log) (sym (put-other nat_eq nat_same s.conns c (idle w) h.0 ne)) h.2, h.3)))
      (cases_same nat_eq nat_same h.0 c)

  -- the end leaves a committed row as it was, or the ended transaction has both as versions
  same_or : (q : w.Row) → (s.base q ≡ base' q) ⊎ (Version w q (s.base q) (s.conns c).log × Version w q (base' q) (s.conns c).log)
  same_or q =
      ⊎_elim
      (λ (u : Untouched w s.base (s.conns c).log q). inl (sym u.0 ∙ sym (is_after q)))
      (λ (u : BothVersions w s.base (s.conns c).log q). inr (u.0, subst (λ z. Version w q z (s.conns c).log) (sym (is_after q)) u.1))
      (open_versions w s k c q)

  -- a row that another keeps was not changed by the ended transaction
  not_kept : (d : ℕ) (q : w.Row) → (d ≡ c → ⊥) → Has (Write q) (s.conns c).locks → KeepsRow w s d q → ⊥
  not_kept d q ne h (inl m) = ne (k.compatible d c (Read q) (Write q) m h refl)
  not_kept d q ne h (inr m) = ne (k.compatible d c (Write q) (Write q) m h refl)

  kept_at : (d : ℕ) (q : w.Row) → (d ≡ c → ⊥) → KeepsRow w s d q → s.base q ≡ base' q
  kept_at d q ne h =
      ⊎_elim
      (λ e. e)
      (λ (u : Version w q (s.base q) (s.conns c).log × Version w q (base' q) (s.conns c).log). absurd (not_kept d q ne (k.touched c q (s.base q) u.0) h))
      (same_or q)

  apart_at : (d : ℕ) → (d ≡ c → ⊥) → (at : Scan w) → Scanned w at (s.conns d).log → (x : w.Key) → Within w at.lo at.hi x → Apart w s.scheme s.base base' (s.conns d).log at.index x
  apart_at d ne at n x a =
      let q : w.Row = row at.index x in
      ⊎_elim
      (λ e. inl e)
      (λ (u : Version w q (s.base q) (s.conns c).log × Version w q (base' q) (s.conns c).log).
      let held : Has (Write q) (s.conns c).locks = k.touched c q (s.base q) u.0 in
      let off : IsPos w s at.index x → ⊥ = λ pos. not_kept d q ne held ((k.guarded d at n).rows x a pos) in
      inr (
        (λ v h. ne (sole_writer w s k d c q (k.touched d q v h) held)),
        (λ h. off (base_pos w s k at.index x h)),
        (λ h. off (inr (c, base' q, u.1, h))),
      ))
      (same_or q)

  shrink : (d : ℕ) (i : w.Index) (cut : Cut w) (q : Place w) → (d ≡ c → ⊥) → Has (Phantom i q) (s.conns d).locks → IsFirst w s i cut q → IsFirst w t i cut q
  shrink d i cut End ne ph h = λ y a pos. h y a (pos_back i y pos)
  shrink d i cut (At p) ne ph h = (
    h.0,
    ⊎_elim (λ o. o) (λ (anti : Has (Anti i (At p)) (s.conns c).locks). absurd (ne (k.compatible d c (Phantom i (At p)) (Anti i (At p)) ph anti (refl, refl)))) (pos_to i p h.1),
    λ y a b pos. h.2 y a b (pos_back i y pos),
  )

  covers_there : (d : ℕ) (i : w.Index) (cut : Cut w) → (d ≡ c → ⊥) → GuardsGap w s d i cut → GuardsGap w t d i cut
  covers_there d i cut ne o = (o.0, shrink d i cut o.0 ne o.2 o.1, locks_to d (Phantom i o.0) ne o.2)

  guarded_there : (d : ℕ) (at : Scan w) → (d ≡ c → ⊥) → Guarded w s d at → Guarded w t d at
  guarded_there d at ne h = record {
    gaps = λ x a. covers_there d at.index (λ y. w.less y x) ne (h.gaps x a);
    rows = λ x a pos. keeps_to d (row at.index x) ne (h.rows x a (pos_back at.index x pos));
    past = λ e. covers_there d at.index at.hi ne (h.past e);
  }

  pub end_same : (d : ℕ) (at : Scan w) → (d ≡ c → ⊥) → Guarded w s d at → SameAt w s t at
  end_same d at ne h = record {
    stay = λ x a pos. ⊎_elim
        (λ o. o)
        (λ (anti : Has (Anti at.index (At x)) (s.conns c).locks).
        let cov : GuardsGap w s d at.index (before w x) = h.gaps x a in
        let e : cov.0 ≡ At x = first_once w s at.index (before w x) cov.0 (At x) cov.1 (first_at w s at.index x pos) in
        let ph : Has (Phantom at.index (At x)) (s.conns d).locks = subst (λ z. Has (Phantom at.index z) (s.conns d).locks) e cov.2 in
        absurd (ne (k.compatible d c (Phantom at.index (At x)) (Anti at.index (At x)) ph anti (refl, refl))))
        (pos_to at.index x pos);
    none_new = λ x a. pos_back at.index x;
    rows = λ x a pos. refl;
  }

  still_at : (q : w.Row) → (s.now q ≡ base' q) ⊎ ((d : ℕ) × Has (Write q) (t.conns d).locks)
  still_at q =
      ⊎_elim
      (λ (e : s.now q ≡ s.base q). ⊎_elim
      (λ e'. inl (e ∙ e'))
      (λ (u : Version w q (s.base q) (s.conns c).log × Version w q (base' q) (s.conns c).log). inl (k.own c q (k.touched c q (s.base q) u.0) ∙ sym (is_after q)))
      (same_or q))
      (λ (o : (d : ℕ) × Has (Write q) (s.conns d).locks). ⊎_elim
      (λ (e : o.0 ≡ c). inl (k.own c q (subst (λ z. Has (Write q) (s.conns z).locks) e o.1) ∙ sym (is_after q)))
      (λ (ne : o.0 ≡ c → ⊥). inr (o.0, locks_to o.0 (Write q) ne o.1))
      (cases_same nat_eq nat_same o.0 c))
      (k.still q)

  end_kept : Kept w t
  end_kept = record {
    compatible = λ a b l m hl hm. k.compatible a b l m (locks_back a l hl) (locks_back b m hm);
    own = λ d q. at_conn w s.conns c (idle w) (λ e z. Has (Write q) z.locks → s.now q ≡ view w base' z.log q) (λ h. absurd h)
        (λ e ne h. k.own e q h ∙ view_at w s.base base' (s.conns e).log q (kept_at e q ne (inr h))) d;
    still = still_at;
    touched = λ d q v. at_conn w s.conns c (idle w) (λ e z. Version w q v z.log → Has (Write q) z.locks) (λ h. absurd h) (λ e ne h. k.touched e q v h) d;
    moved = λ d i x q v u. at_conn w s.conns c (idle w) (λ e z. Version w q v z.log → Version w q u z.log → key_at w s.scheme i q v ≡ Some x → (key_at w s.scheme i q u ≡ Some x → ⊥) → Has (Anti i (At x)) z.locks)
        (λ h h' a b. absurd h) (λ e ne h h' a b. k.moved e i x q v u h h' a b) d;
    looked = λ d q. at_conn w s.conns c (idle w) (λ e z. LookedUp w q z.log → KeepsRow w t e q) (λ h. absurd h) (λ e ne h. keeps_to e q ne (k.looked e q h)) d;
    open_serial = λ d. at_conn w s.conns c (idle w) (λ e z. Alone w s.scheme base' z.log) tt
        (λ e ne. alone_moved w s.scheme s.base base' (s.conns e).log (λ q v h. kept_at e q ne (inr (k.touched e q v h))) (λ q h. kept_at e q ne (k.looked e q h)) (apart_at e ne) (k.open_serial e)) d;
    guarded = λ d. at_conn w s.conns c (idle w) (λ e z. (at : Scan w) → Scanned w at z.log → Guarded w t e at) (λ at h. absurd h) (λ e ne at h. guarded_there e at ne (k.guarded e at h)) d;
    stands = λ d. at_conn w s.conns c (idle w) (λ e z. (base : Tables w) → ChangesApply w base z.log → Stand w base z.standing (view w base z.log)) (λ base h. record { sees = λ q. refl; was = tt }) (λ e ne. k.stands e) d;
    standing = λ d u. at_conn w s.conns c (idle w) (λ e z. Has u z.standing → Version w u.row u.was z.log) (λ h. absurd h) (λ e ne h. k.standing e u h) d;
  }

pub commit_keeps : (w : World) (s : State w) (c : ℕ) → Kept w s → Kept w (happens w s (Commit c))
commit_keeps w s c k = end_kept w s k c (view w s.base (s.conns c).log) (Ran s.scheme (s.conns c).log ∷ s.history) (λ r. refl)

-- where nothing stands, the transaction sees the tables as the commits left them
pub nothing_stands : (w : World) (s : State w) (k : Kept w s) (c : ℕ) → (s.conns c).standing ≡ [] → (r : w.Row) → s.base r ≡ view w s.base (s.conns c).log r
nothing_stands w s k c is r =
    let o : Stand w s.base (s.conns c).standing (view w s.base (s.conns c).log) = k.stands c s.base (alone_applies w s.scheme s.base (s.conns c).log (k.open_serial c)) in
    sym (o.sees r ∙ ap (λ z. redo w z s.base r) is)

pub leave_keeps : (w : World) (s : State w) (c : ℕ) → Kept w s → May w s (Leave c) → Kept w (happens w s (Leave c))
leave_keeps w s c k may =
    end_kept w s k c s.base s.history
    (nothing_stands w s k c may)

-- What holds of a connection after its locks grew, and reading keeps the invariant.
use Rattle.std.proofs.Common.{◌≡◌, ℕ, Bool, List, ◌⊎◌, Option, Some, nat_eq, refl, sym, ◌∙◌, subst, inl, inr, ⊎_elim}
use Rattle.wat_isolation.specs.World.{World}
use Rattle.wat_list.specs.Has.{Has}
use Rattle.wat_isolation.specs.Rows.{Tables, key_at}
use Rattle.wat_isolation.specs.Logs.{Scan, Item, view, Alone, ChangesApply, Version, Scanned, LookedUp}
use Rattle.wat_isolation.specs.Machine.{Place.At, Lock, Lock.Read, Lock.Write, Lock.Phantom, Lock.Anti, Conflict, Standing, Connection, State, IsPos, AllFree, grown, set_conn, with_conn}
use Rattle.wat_isolation.specs.Kept.{GuardsGap, KeepsRow, Guarded, Stand, Kept, SameAt}
use Rattle.wat_isolation.proofs.Basics.{nat_same, put_cases, put-same, has_cases, has_left, has_right}
use Rattle.wat_isolation.proofs.Positions.{now_is_view, first_same}

-- a fact of each connection, after one was given anew
pub at_conn : (w : World) (f : ℕ → Connection w) (c : ℕ) (k : Connection w) (P : ℕ → Connection w → Type 0) → P c k → ((d : ℕ) → (d ≡ c → ⊥) → P d (f d)) → (d : ℕ) → P d (set_conn w f c k d)
at_conn w f c k P here there d =
    ⊎_elim
    (λ (u : (d ≡ c) × (set_conn w f c k d ≡ k)). subst (λ z. P d z) (sym u.1) (subst (λ y. P y k) (sym u.0) here))
    (λ (u : (d ≡ c → ⊥) × (set_conn w f c k d ≡ f d)). subst (λ z. P d z) (sym u.1) (there d u.0))
    (put_cases nat_eq nat_same f c k d)

pub conflict_sym : (w : World) (l m : Lock w) → Conflict w l m → Conflict w m l
conflict_sym w (Read r) (Write q) h = sym h
conflict_sym w (Write r) (Read q) h = sym h
conflict_sym w (Write r) (Write q) h = sym h
conflict_sym w (Phantom i p) (Anti j q) h = (sym h.0, sym h.1)
conflict_sym w (Anti i p) (Phantom j q) h = (sym h.0, sym h.1)
conflict_sym w (Read r) (Read q) h = absurd h
conflict_sym w (Read r) (Phantom j q) h = absurd h
conflict_sym w (Read r) (Anti j q) h = absurd h
conflict_sym w (Write r) (Phantom j q) h = absurd h
conflict_sym w (Write r) (Anti j q) h = absurd h
conflict_sym w (Phantom i p) (Read q) h = absurd h
conflict_sym w (Phantom i p) (Write q) h = absurd h
conflict_sym w (Phantom i p) (Phantom j q) h = absurd h
conflict_sym w (Anti i p) (Read q) h = absurd h
conflict_sym w (Anti i p) (Write q) h = absurd h
conflict_sym w (Anti i p) (Anti j q) h = absurd h

abbrev pub Compatible : (w : World) → (ℕ → Connection w) → Type 0
Compatible w f = (c d : ℕ) (l m : Lock w) → Has l (f c).locks → Has m (f d).locks → Conflict w l m → c ≡ d

pub locks_to : (w : World) (s : State w) (c : ℕ) (log : List (Item w)) (standing : List (Standing w)) (wants : List (Lock w)) (d : ℕ) (l : Lock w) → Has l (s.conns d).locks → Has l (set_conn w s.conns c (grown w s c log standing wants) d).locks
locks_to w s c log standing wants d l =
    at_conn w s.conns c (grown w s c log standing wants) (λ e z. Has l (s.conns e).locks → Has l z.locks) (λ h. has_right l wants (s.conns c).locks h) (λ e ne h. h) d

pub locks_back : (w : World) (s : State w) (c : ℕ) (log : List (Item w)) (standing : List (Standing w)) (wants : List (Lock w)) (d : ℕ) (l : Lock w) → Has l (set_conn w s.conns c (grown w s c log standing wants) d).locks → Has l (s.conns d).locks ⊎ ((d ≡ c) × Has l wants)
locks_back w s c log standing wants d l =
    at_conn w s.conns c (grown w s c log standing wants) (λ e z. Has l z.locks → Has l (s.conns e).locks ⊎ ((e ≡ c) × Has l wants))
    (λ h. ⊎_elim (λ n. inr (refl, n)) (λ o. inl o) (has_cases l wants (s.conns c).locks h)) (λ e ne h. inl h) d

pub wants_in : (w : World) (s : State w) (c : ℕ) (log : List (Item w)) (standing : List (Standing w)) (wants : List (Lock w)) (l : Lock w) → Has l wants → Has l (set_conn w s.conns c (grown w s c log standing wants) c).locks
wants_in w s c log standing wants l h = subst (λ (z : Connection w). Has l z.locks) (sym (put-same nat_eq nat_same s.conns c (grown w s c log standing wants))) (has_left l wants (s.conns c).locks h)

-- locks that conflict with no other connection's keep locks compatible
pub compatible_more : (w : World) (s : State w) (c : ℕ) (log : List (Item w)) (standing : List (Standing w)) (wants : List (Lock w)) → Compatible w s.conns → AllFree w s c wants → Compatible w (set_conn w s.conns c (grown w s c log standing wants))
compatible_more w s c log standing wants k free a b l m hl hm conflict =
    ⊎_elim
    (λ (old : Has l (s.conns a).locks). ⊎_elim
    (λ (old' : Has m (s.conns b).locks). k a b l m old old' conflict)
    (λ (new' : (b ≡ c) × Has m wants). sym (free m new'.1 a l old (conflict_sym w l m conflict)) ∙ sym new'.0)
    (locks_back w s c log standing wants b m hm))
    (λ (new : (a ≡ c) × Has l wants). ⊎_elim
    (λ (old' : Has m (s.conns b).locks). new.0 ∙ free l new.1 b m old' conflict)
    (λ (new' : (b ≡ c) × Has m wants). new.0 ∙ sym new'.0)
    (locks_back w s c log standing wants b m hm))
    (locks_back w s c log standing wants a l hl)

pub keeps_more : (w : World) (s t : State w) (d : ℕ) (r : w.Row) → ((l : Lock w) → Has l (s.conns d).locks → Has l (t.conns d).locks) → KeepsRow w s d r → KeepsRow w t d r
keeps_more w s t d r more (inl h) = inl (more (Read r) h)
keeps_more w s t d r more (inr h) = inr (more (Write r) h)

pub covers_same : (w : World) (s t : State w) (d : ℕ) (i : w.Index) → ((x : w.Key) → IsPos w s i x → IsPos w t i x) → ((x : w.Key) → IsPos w t i x → IsPos w s i x) → ((l : Lock w) → Has l (s.conns d).locks → Has l (t.conns d).locks) → (cut : w.Key → Bool) → GuardsGap w s d i cut → GuardsGap w t d i cut
covers_same w s t d i to back more cut h = (h.0, first_same w s t i cut h.0 to back h.1, more (Phantom i h.0) h.2)

-- a log that sees the same and has the same versions: reading alone
pub record SameChanges (w : World) (log log' : List (Item w)) : Type 0 where
  pub sees : (f : Tables w) (r : w.Row) → view w f log' r ≡ view w f log r
  pub to : (r : w.Row) (v : Option w.Content) → Version w r v log → Version w r v log'
  pub back : (r : w.Row) (v : Option w.Content) → Version w r v log' → Version w r v log
  pub applies : (f : Tables w) → ChangesApply w f log' → ChangesApply w f log

module _ (w : World) (s : State w) (k : Kept w s) (c : ℕ) (log : List (Item w)) (wants : List (Lock w)) (free : AllFree w s c wants) (same : SameChanges w (s.conns c).log log) where
  abbrev new : Connection w
  new = grown w s c log (s.conns c).standing wants

  abbrev pub after_read : State w
  after_read = with_conn w s c new

  pub read_locks : (d : ℕ) (l : Lock w) → Has l (s.conns d).locks → Has l (after_read.conns d).locks
  read_locks d l = locks_to w s c log (s.conns c).standing wants d l

  pub read_to : (i : w.Index) (x : w.Key) → IsPos w s i x → IsPos w after_read i x
  read_to i x (inl h) = inl h
  read_to i x (inr h) = inr (h.0, h.1, at_conn w s.conns c new (λ e z. Version w (s.scheme.row_of i x) h.1 (s.conns e).log → Version w (s.scheme.row_of i x) h.1 z.log) (same.to (s.scheme.row_of i x) h.1) (λ e ne v. v) h.0 h.2, h.3)

  pub read_back : (i : w.Index) (x : w.Key) → IsPos w after_read i x → IsPos w s i x
  read_back i x (inl h) = inl h
  read_back i x (inr h) = inr (h.0, h.1, at_conn w s.conns c new (λ e z. Version w (s.scheme.row_of i x) h.1 z.log → Version w (s.scheme.row_of i x) h.1 (s.conns e).log) (same.back (s.scheme.row_of i x) h.1) (λ e ne v. v) h.0 h.2, h.3)

  pub guarded_same : (d : ℕ) (at : Scan w) → Guarded w s d at → Guarded w after_read d at
  guarded_same d at h = record {
    gaps = λ x a. covers_same w s after_read d at.index (read_to at.index) (read_back at.index) (read_locks d) (λ y. w.less y x) (h.gaps x a);
    rows = λ x a pos. keeps_more w s after_read d (s.scheme.row_of at.index x) (read_locks d) (h.rows x a (read_back at.index x pos));
    past = λ e. covers_same w s after_read d at.index (read_to at.index) (read_back at.index) (read_locks d) at.hi (h.past e);
  }

  pub read_same : (at : Scan w) → SameAt w s after_read at
  read_same at = record { stay = λ x a. read_to at.index x; none_new = λ x a. read_back at.index x; rows = λ x a pos. refl }

  pub reads_keep : Alone w s.scheme s.base log → ((r : w.Row) → LookedUp w r log → KeepsRow w after_read c r) → ((at : Scan w) → Scanned w at log → Guarded w after_read c at) → Kept w after_read
  reads_keep serial looks guards = record {
    compatible = compatible_more w s c log (s.conns c).standing wants k.compatible free;
    own = λ d r. at_conn w s.conns c new (λ e z. Has (Write r) z.locks → s.now r ≡ view w s.base z.log r)
        (λ h. ⊎_elim
        (λ (n : Has (Write r) wants). now_is_view w s k c r (λ e h'. free (Write r) n e (Write r) h' refl) ∙ sym (same.sees s.base r))
        (λ (o : Has (Write r) (s.conns c).locks). k.own c r o ∙ sym (same.sees s.base r))
        (has_cases (Write r) wants (s.conns c).locks h))
        (λ e ne h. k.own e r h) d;
    still = λ r. ⊎_elim (λ e. inl e) (λ (o : (e : ℕ) × Has (Write r) (s.conns e).locks). inr (o.0, read_locks o.0 (Write r) o.1)) (k.still r);
    touched = λ d r v. at_conn w s.conns c new (λ e z. Version w r v z.log → Has (Write r) z.locks)
        (λ h. has_right (Write r) wants (s.conns c).locks (k.touched c r v (same.back r v h))) (λ e ne h. k.touched e r v h) d;
    moved = λ d i x r v u. at_conn w s.conns c new (λ e z. Version w r v z.log → Version w r u z.log → key_at w s.scheme i r v ≡ Some x → (key_at w s.scheme i r u ≡ Some x → ⊥) → Has (Anti i (At x)) z.locks)
        (λ h h' a b. has_right (Anti i (At x)) wants (s.conns c).locks (k.moved c i x r v u (same.back r v h) (same.back r u h') a b)) (λ e ne h h' a b. k.moved e i x r v u h h' a b) d;
    looked = λ d r. at_conn w s.conns c new (λ e z. LookedUp w r z.log → KeepsRow w after_read e r) (looks r) (λ e ne h. keeps_more w s after_read e r (read_locks e) (k.looked e r h)) d;
    open_serial = λ d. at_conn w s.conns c new (λ e z. Alone w s.scheme s.base z.log) serial (λ e ne. k.open_serial e) d;
    guarded = λ d. at_conn w s.conns c new (λ e z. (at : Scan w) → Scanned w at z.log → Guarded w after_read e at) guards (λ e ne at h. guarded_same e at (k.guarded e at h)) d;
    stands = λ d. at_conn w s.conns c new (λ e z. (base : Tables w) → ChangesApply w base z.log → Stand w base z.standing (view w base z.log))
        (λ base h. let o = k.stands c base (same.applies base h) in record { sees = λ r. same.sees base r ∙ o.sees r; was = o.was })
        (λ e ne. k.stands e) d;
    standing = λ d u. at_conn w s.conns c new (λ e z. Has u z.standing → Version w u.row u.was z.log)
        (λ h. same.to u.row u.was (k.standing c u h)) (λ e ne h. k.standing e u h) d;
  }

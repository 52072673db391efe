-- Wants that are added one by one, and taken back where memory is wanted.
use Rattle.std.proofs.Common.{◌≡◌, ℕ, ◌+◌, take, slice_get, Bool, true, false, List, [], ◌∷◌, ◌++◌, map, filter, refl, sym, ◌∙◌, ap, subst, inl, inr, ⊎_elim, ◌⊎◌, Some, None}
use Rattle.std.specs.Prelude.{◌↔◌, ◌==◌, ◌&&◌}
use Rattle.std.specs.List.{list_any}
use Rattle.std.proofs.lemmas.Bool.{and_parts, eqb-true, eq-eqb}
use Rattle.std.proofs.lemmas.List.{take_more}
use Rattle.std.proofs.lemmas.Option.{slice_get_within, get_or_from_slice_get}
use Rattle.wat_list.specs.Has.{Has, HasSame, IsOnce}
use Rattle.wat_list.proofs.Members.{has_left, has_right, has_cases, has_map, map_has, has_flat_map, flat_map_has, any_has, has_any}
use Rattle.wat_list.proofs.Once.{once_push}
use Rattle.wat_locks.specs.declared.lock.Lock.{Lock}
use Rattle.wat_locks.specs.declared.want.Want.{Want}
use Rattle.wat_locks.specs.declared.held.Held.{Held}
use Rattle.wat_locks.specs.declared.table.Holder.{Holder}
use Rattle.wat_locks.specs.declared.table.Table.{Table}
use Rattle.wat_locks.specs.Held.{Adds, Frees, Holds, entry}
use Rattle.wat_locks.specs.Order.{kind_rank, resource_eq}
use Rattle.wat_locks.specs.OrderLaws.{kind_level}
use Rattle.wat_locks.specs.Tables.{held_by, held_in, all_held, holders, is_of, is_lock_of, AreTables, Puts, FreesIf}
use Rattle.wat_locks.proofs.TableLemmas.{found_has, has_found, and_both}

-- no want is left
pub adds_none : (old : List Held) (conn : ℕ) → Adds old old conn []
adds_none old conn h = (λ r. has_left h old [] r, λ r. ⊎_elim (λ p. p) (λ n. absurd n) (has_cases h old [] r))

-- one want more, and then the others
pub adds_more : (old mid new : List Held) (conn : ℕ) (w : Want) (ws : List Want) (fresh : Bool) → Puts old mid (entry conn w) fresh → Adds mid new conn ws → Adds old new conn (w ∷ ws)
adds_more old mid new conn w ws fresh puts adds h = (
  λ r. ⊎_elim
      (λ p. ⊎_elim (λ q. has_left h old (map (entry conn) (w ∷ ws)) q) (λ (e : entry conn w ≡ h). has_right h old (map (entry conn) (w ∷ ws)) (inl e)) (forth fresh puts p))
      (λ p. has_right h old (map (entry conn) (w ∷ ws)) (inr p))
      (has_cases h mid (map (entry conn) ws) ((adds h).0 r)),
  λ r. (adds h).1 (⊎_elim
      (λ p. has_left h mid (map (entry conn) ws) (back fresh puts (inl p)))
      (λ p. ⊎_elim (λ (e : entry conn w ≡ h). has_left h mid (map (entry conn) ws) (back fresh puts (inr e))) (λ q. has_right h mid (map (entry conn) ws) q) p)
      (has_cases h old (map (entry conn) (w ∷ ws)) r)),
)
  where
    forth : (b : Bool) → Puts old mid (entry conn w) b → Has h mid → Has h old ⊎ (entry conn w ≡ h)
    forth true p m = (p.1 h).0 m
    forth false p m = inl ((p.1 h).0 m)

    back : (b : Bool) → Puts old mid (entry conn w) b → Has h old ⊎ (entry conn w ≡ h) → Has h mid
    back true p m = (p.1 h).1 m
    back false p m = ⊎_elim (λ q. (p.1 h).1 q) (λ (e : entry conn w ≡ h). (p.1 h).1 (subst (λ (x : Held). Has x old) e p.0)) m

-- the others found no memory, and the new one is taken back
pub taken_back : (old mid late new : List Held) (e : Held) → Puts old mid e true → HasSame late mid → Frees late new (λ h. h ≡ e) → HasSame new old
taken_back old mid late new e puts same frees h = (
  λ r. let both = (frees h).0 r in ⊎_elim (λ p. p) (λ (s : e ≡ h). absurd (both.1 (sym s))) ((puts.1 h).0 ((same h).0 both.0)),
  λ r. (frees h).1 ((same h).1 ((puts.1 h).1 (inl r)), λ s. puts.0 (subst (λ (x : Held). Has x old) s r)),
)

-- there was nothing new to take back
pub nothing_back : (old mid late : List Held) (e : Held) → Puts old mid e false → HasSame late mid → HasSame late old
nothing_back old mid late e puts same h = (λ r. (puts.1 h).0 ((same h).0 r), λ r. (same h).1 ((puts.1 h).1 r))

pub put_there_then : (old mid late : List Held) (e : Held) → Puts old mid e true → HasSame late mid → Has e late
put_there_then old mid late e puts same = (same e).1 ((puts.1 e).1 (inr refl))

-- seen as a whole, no lock is left out
pub of_any : (held : List Held) → filter (λ (h : Held). is_of None h.conn) held ≡ held
of_any [] = refl
of_any (h ∷ hs) = ap (λ (xs : List Held). h ∷ xs) (of_any hs)

-- a new table has no locks yet
all_append : (ts us : List Table) → all_held (ts ++ us) ≡ all_held ts ++ all_held us
all_append [] us = refl
all_append (t ∷ ts) us = ap (λ (hs : List Held). held_in t ++ hs) (all_append ts us) ∙ sym (assoc (held_in t) (all_held ts) (all_held us))
  where
    assoc : (xs ys zs : List Held) → (xs ++ ys) ++ zs ≡ xs ++ (ys ++ zs)
    assoc [] ys zs = refl
    assoc (x ∷ xs) ys zs = ap (λ (hs : List Held). x ∷ hs) (assoc xs ys zs)

append-nil : (xs : List Held) → xs ++ [] ≡ xs
append-nil [] = refl
append-nil (x ∷ xs) = ap (λ (ys : List Held). x ∷ ys) (append-nil xs)

holders_push : (ts : List Table) (t : Table) → holders (ts ++ t ∷ []) ≡ holders ts ++ t.by ∷ []
holders_push [] t = refl
holders_push (u ∷ ts) t = ap (λ (hs : List Holder). u.by ∷ hs) (holders_push ts t)

pub empty_same : (ts : List Table) (t : Table) → t.resources.keys ≡ [] → all_held (ts ++ t ∷ []) ≡ all_held ts
empty_same ts t none =
    all_append ts (t ∷ []) ∙ ap (λ (hs : List Held). all_held ts ++ hs) (append-nil (held_in t) ∙ ap (map (held_by t.by)) none) ∙ append-nil (all_held ts)

pub empty_tables : (ts : List Table) (t : Table) → t.resources.keys ≡ [] → (Has t.by (holders ts) → ⊥) → AreTables ts → AreTables (ts ++ t ∷ [])
empty_tables ts t none new are = (
  subst (λ (hs : List Holder). IsOnce hs) (sym (holders_push ts t)) (once_push t.by (holders ts) are.0 new),
  subst (λ (hs : List Held). IsOnce hs) (sym (empty_same ts t none)) are.1,
)

-- a lock of a connection is found in one of the tables
pub holding_is : (ts : List Table) (conn : ℕ) (lock : Lock) → (list_any (is_lock_of conn lock) ts ≡ true) ↔ Holds (all_held ts) conn lock
holding_is ts conn lock = (
  λ yes.
      let found = any_has (is_lock_of conn lock) ts yes in
      let t = found.0 in
      let a = and_parts ((t.by.conn == conn) && (kind_rank t.by.kind == kind_rank lock.kind)) (list_any (resource_eq lock.resource) t.resources.keys) found.2 in
      let b = and_parts (t.by.conn == conn) (kind_rank t.by.kind == kind_rank lock.kind) a.0 in
      let kind = kind_level t.by.kind lock.kind (eqb-true (kind_rank t.by.kind) (kind_rank lock.kind) b.1) in
      (held_by t.by lock.resource, flat_map_has held_in (held_by t.by lock.resource) t ts found.1 (map_has (held_by t.by) lock.resource t.resources.keys (found_has lock.resource t.resources.keys a.1)), eqb-true t.by.conn conn b.0, λ i. record { kind = kind i; resource = lock.resource }),
  λ holds.
      let of = has_flat_map held_in holds.0 ts holds.1 in
      let made = has_map (held_by of.0.by) holds.0 of.0.resources.keys of.2 in
      let conn_is : of.0.by.conn ≡ conn = ap (λ (h : Held). h.conn) made.2 ∙ holds.2 in
      let kind_is : of.0.by.kind ≡ lock.kind = ap (λ (h : Held). h.lock.kind) made.2 ∙ ap (λ (l : Lock). l.kind) holds.3 in
      let resource_is : made.0 ≡ lock.resource = ap (λ (h : Held). h.lock.resource) made.2 ∙ ap (λ (l : Lock). l.resource) holds.3 in
      has_any (is_lock_of conn lock) of.0 ts of.1
      (and_both ((of.0.by.conn == conn) && (kind_rank of.0.by.kind == kind_rank lock.kind)) (list_any (resource_eq lock.resource) of.0.resources.keys)
      (and_both (of.0.by.conn == conn) (kind_rank of.0.by.kind == kind_rank lock.kind) (eq-eqb of.0.by.conn conn conn_is) (eq-eqb (kind_rank of.0.by.kind) (kind_rank lock.kind) (ap kind_rank kind_is)))
      (subst (λ r. list_any (resource_eq r) of.0.resources.keys ≡ true) resource_is (has_found made.0 of.0.resources.keys made.1))),
)

-- after the others found no memory
pub undone : (old mid late new : List Held) (e : Held) (fresh : Bool) → Puts old mid e fresh → HasSame late mid → FreesIf fresh late new e → HasSame new old
undone old mid late new e true puts same frees = taken_back old mid late new e puts same frees
undone old mid late new e false puts same frees = λ h. (λ r. (nothing_back old mid late e puts same h).0 ((frees h).0 r), λ r. (frees h).1 ((nothing_back old mid late e puts same h).1 r))

pub to_take_back : (old mid late : List Held) (e : Held) (fresh : Bool) → Puts old mid e fresh → HasSame late mid → fresh ≡ true → Has e late
to_take_back old mid late e true puts same is = put_there_then old mid late e puts same
to_take_back old mid late e false puts same is = absurd (cc)

-- the tables before this one are other holders'
pub not_yet : (ts : List Table) (i : ℕ) (t : Table) (by : Holder) → slice_get ts i ≡ Some t → (Has by (holders (take i ts)) → ⊥) → (t.by ≡ by → ⊥) → Has by (holders (take (i + 1) ts)) → ⊥
not_yet ts i t by at before other there =
    let front : take (i + 1) ts ≡ take i ts ++ t ∷ [] = take_more ts i t (slice_get_within ts i t at) ∙ ap (λ (x : Table). take i ts ++ x ∷ []) (get_or_from_slice_get ts i t t at) in
    ⊎_elim (λ p. before p) (λ q. ⊎_elim (λ e. other e) (λ n. n) q)
    (has_cases by (holders (take i ts)) (t.by ∷ []) (subst (λ (hs : List Holder). Has by hs) (ap holders front ∙ holders_push (take i ts) t) there))

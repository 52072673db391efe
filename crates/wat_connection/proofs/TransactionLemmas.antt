-- What a transaction is after a savepoint is gone back to or released, and after changes more.
use Rattle.std.proofs.Common.{◌≡◌, ℕ, zero, suc, ◌+◌, ◌-◌, ◌^◌, ◌<◌, ◌≤◌, true, List, [], ◌∷◌, ◌++◌, length, map, take, drop, reverse, get_or, Option, Some, None, Bool, refl, sym, ap, ◌∙◌, subst, arith, length-take-le, length-append}
use Rattle.std.proofs.lemmas.List.{reverse-append, drop-append-le, take-append-le}
use Rattle.std.specs.Prelude.{Result, Ok, Err, IfOk, is_ok, if◌then◌else◌}
use Rattle.std.specs.declared.alloc.AllocError.{AllocError}
use Rattle.wat_value.specs.declared.change.Change.{Change}
use Rattle.wat_value.specs.declared.change.Act.{Act}
use Rattle.wat_value.specs.declared.change.Act.TheVariants.{OnRow}
use Rattle.wat_schema.specs.Catalog.{Name}
use Rattle.wat_schema.specs.Tables.{inverse}
use Rattle.wat_history.specs.Connection.{back_from}
use Rattle.wat_steps.specs.State.{ConnectionState, OpenTransaction}
use Rattle.wat_connection.specs.declared.savepoints.Savepoint.{Savepoint}
use Rattle.wat_connection.specs.Savepoints.{save_of, saves_of, IsNewest, AreNested}
use Rattle.wat_connection.specs.declared.transaction.Undone.{Undone}
use Rattle.wat_connection.specs.Transactions.{GoesBack, GoesBackIn, Releases, ReleasesIn, transaction_in, with_open}
use Rattle.wat_connection.proofs.SavepointLemmas.{saves_up_to, nested_back, nested_more}

abbrev pub undo : Change → Act
undo change = OnRow (inverse change)

-- the last change is taken back
pub one_back : (xs : List Change) (x : Change) (left : ℕ) (acts : List Act) → left ≤ length xs
    → acts ++ map undo (reverse (drop left (xs ++ x ∷ []))) ≡ (acts ++ undo x ∷ []) ++ map undo (reverse (drop left xs))
one_back xs x left acts h =
    ap (λ (ys : List Change). acts ++ map undo (reverse ys)) (drop-append-le left xs (x ∷ []) h)
    ∙ ap (λ (ys : List Change). acts ++ map undo ys) (reverse-append (drop left xs) (x ∷ []))
    ∙ sym (append_one acts (undo x) (map undo (reverse (drop left xs))))
  where
    append_one : (front : List Act) (a : Act) (bs : List Act) → (front ++ a ∷ []) ++ bs ≡ front ++ (a ∷ bs)
    append_one [] a bs = refl
    append_one (y ∷ ys) a bs = ap (λ (zs : List Act). y ∷ zs) (append_one ys a bs)

-- the newest of the name and those before it
pub newest_is : (sp : List Savepoint) (name : Name) (n : ℕ) (x : Savepoint) → IsNewest sp name n → x ≡ get_or sp (n - 1) x → back_from name (saves_of sp) ≡ save_of x ∷ saves_of (take (n - 1) sp)
newest_is sp name n x newest is =
    let some = newest.some in
    let within = newest.within in
    let on : (n - 1) + 1 ≡ n = omega (arith, some) in
    newest.newest ∙ ap (λ (k : ℕ). saves_of (take k sp)) (sym on) ∙ saves_up_to sp (n - 1) x (omega (arith, some, within)) is

-- no more changes stood at it than stand now
pub newest_nested : (sp : List Savepoint) (name : Name) (n standing : ℕ) (x : Savepoint) → IsNewest sp name n → x ≡ get_or sp (n - 1) x → AreNested standing (saves_of sp)
    → AreNested standing (save_of x ∷ saves_of (take (n - 1) sp))
newest_nested sp name n standing x newest is nested =
    subst (λ (saves : List (Name × ℕ)). AreNested standing saves) (newest_is sp name n x newest is) (nested_back name standing (saves_of sp) nested)

pub goes_back : (standing left : List Change) (sp kept : List Savepoint) (name : Name) (n : ℕ) (x : Savepoint) (acts : List Act)
    → IsNewest sp name n → x ≡ get_or sp (n - 1) x → AreNested (length standing) (saves_of sp)
    → acts ≡ map undo (reverse (drop x.standing standing)) → left ≡ take x.standing standing → kept ≡ take n sp
    → GoesBack (back_from name (saves_of sp)) (record { standing = standing; savepoints = saves_of sp }) (record { standing = left; savepoints = saves_of kept }) (Some (record { left = x.standing; acts = acts }))
goes_back standing left sp kept name n x acts newest is nested undone taken cut =
    let there = newest_is sp name n x newest is in
    subst (λ (saves : List (Name × ℕ)). GoesBack saves (record { standing = standing; savepoints = saves_of sp }) (record { standing = left; savepoints = saves_of kept }) (Some (record { left = x.standing; acts = acts }))) (sym there) (
      (newest_nested sp name n (length standing) x newest is nested).0,
      ap (λ (all : List Act). Some (record { left = x.standing; acts = all })) undone,
      λ i. record { standing = taken i; savepoints = (ap saves_of cut ∙ sym newest.newest ∙ there) i },
    )

-- the savepoints that are left are nested in the changes that are left
pub back_nested : (standing left : List Change) (sp kept : List Savepoint) (name : Name) (n : ℕ) (x : Savepoint)
    → IsNewest sp name n → x ≡ get_or sp (n - 1) x → AreNested (length standing) (saves_of sp) → left ≡ take x.standing standing → kept ≡ take n sp
    → (length left ≤ length standing) × AreNested (length left) (saves_of kept)
back_nested standing left sp kept name n x newest is nested taken cut =
    let there = newest_is sp name n x newest is in
    let all = newest_nested sp name n (length standing) x newest is nested in
    let count : length left ≡ x.standing = ap length taken ∙ length-take-le x.standing standing all.0 in
    let saves : saves_of kept ≡ save_of x ∷ saves_of (take (n - 1) sp) = ap saves_of cut ∙ sym newest.newest ∙ there in
    let within = all.0 in (
      omega (arith, within, count),
      subst (λ (k : ℕ). AreNested k (saves_of kept)) (sym count)
          (subst (λ (ss : List (Name × ℕ)). AreNested x.standing ss) (sym saves) (omega arith, all.1)),
    )

pub releases : (standing : List Change) (sp kept : List Savepoint) (name : Name) (n : ℕ) (x : Savepoint)
    → IsNewest sp name n → x ≡ get_or sp (n - 1) x → kept ≡ take (n - 1) sp
    → Releases (back_from name (saves_of sp)) (record { standing = standing; savepoints = saves_of sp }) (record { standing = standing; savepoints = saves_of kept }) true
releases standing sp kept name n x newest is cut =
    subst (λ (saves : List (Name × ℕ)). Releases saves (record { standing = standing; savepoints = saves_of sp }) (record { standing = standing; savepoints = saves_of kept }) true)
    (sym (newest_is sp name n x newest is)) (refl, λ i. record { standing = standing; savepoints = saves_of (cut i) })

pub released_nested : (standing : ℕ) (sp kept : List Savepoint) (name : Name) (n : ℕ) (x : Savepoint)
    → IsNewest sp name n → x ≡ get_or sp (n - 1) x → AreNested standing (saves_of sp) → kept ≡ take (n - 1) sp → AreNested standing (saves_of kept)
released_nested standing sp kept name n x newest is nested cut =
    let all = newest_nested sp name n standing x newest is nested in
    subst (λ (xs : List Savepoint). AreNested standing (saves_of xs)) (sym cut) (nested_more x.standing standing (saves_of (take (n - 1) sp)) all.0 all.1)

-- one savepoint more
pub set_nested : (standing : ℕ) (sp : List Savepoint) (x : Savepoint) → x.standing ≡ standing → AreNested standing (saves_of sp) → AreNested standing (save_of x ∷ saves_of sp)
set_nested standing sp x here nested = (omega (arith, here), subst (λ (k : ℕ). AreNested k (saves_of sp)) (sym here) nested)

-- the savepoint at a place, whatever stands for one that isn't there
pub got : {X : Type 0} → (xs : List X) (i : ℕ) (d : X) → i < length xs → get_or xs i d ≡ get_or xs i (get_or xs i d)
got [] i d h = absurd (omega arith)
got (y ∷ ys) zero d h = refl
got (y ∷ ys) (suc i) d h = let low : i < length ys = omega arith in got ys i d low

-- changes that come where there is room for them
pub noted_fits : {X Y : Type 0} (r : Result X Y) (old more new : List Change) (saves : List (Name × ℕ)) → new ≡ (if is_ok r then old ++ more else old) → length old < 2 ^ 32 → length old + length more < 2 ^ 32
    → AreNested (length old) saves → (length new < 2 ^ 32) × AreNested (length new) saves
noted_fits (Ok x) old more new saves is few room nested =
    let count : length new ≡ length old + length more = ap length is ∙ length-append old more in
    (omega (arith, count), nested_more (length old) (length new) saves (omega (arith, count)) nested)
noted_fits (Err y) old more new saves is few room nested =
    let count : length new ≡ length old = ap length is in
    (omega (arith, count), subst (λ (n : ℕ). AreNested n saves) (sym count) nested)

-- ---- in a connection

abbrev without : ConnectionState → ConnectionState
without k = record k { transaction = None }

pub back_in : (name : Name) (old mid new : ConnectionState) (before after : OpenTransaction) (r : Result (Option Undone) AllocError) → before ≡ transaction_in old → mid ≡ without old → new ≡ with_open mid after
    → IfOk r (GoesBack (back_from name before.savepoints) before after) → IfOk r (GoesBackIn (back_from name (transaction_in old).savepoints) old new)
back_in name old mid new before after (Ok undone) held taken put back = (
  after,
  subst (λ (t : OpenTransaction). GoesBack (back_from name t.savepoints) t after undone) held back,
  put ∙ ap (λ (k : ConnectionState). with_open k after) taken,
)
back_in name old mid new before after (Err e) held taken put back = tt

pub release_in : (name : Name) (old mid new : ConnectionState) (before after : OpenTransaction) (found : Bool) → before ≡ transaction_in old → mid ≡ without old → new ≡ with_open mid after
    → Releases (back_from name before.savepoints) before after found → ReleasesIn (back_from name (transaction_in old).savepoints) old new found
release_in name old mid new before after found held taken put released = (
  after,
  subst (λ (t : OpenTransaction). Releases (back_from name t.savepoints) t after found) held released,
  put ∙ ap (λ (k : ConnectionState). with_open k after) taken,
)

-- The worked cases: the scan runs, and none of the other lists of events runs to its end.
use Rattle.std.proofs.Common.{◌≡◌, ℕ, ◌≤◌, Bool, true, false, cond, not, nat_eq, nat_lt, List, [], ◌∷◌, ◌++◌, ◌⊎◌, Option, Some, None, refl, ap, subst, inl, inr, arith, eqb-true}
use Rattle.std.proofs.lemmas.Bool.{ltb-false, le-ltb, true≢false}
use Rattle.wat_list.specs.Has.{Has}
use Rattle.wat_isolation.specs.World.{World, put}
use Rattle.wat_isolation.specs.Rows.{key_at, IsLive, before, upto}
use Rattle.wat_isolation.specs.Logs.{Item, Item.Saw, Item.Did, Version}
use Rattle.wat_isolation.specs.Machine.{Place, Place.At, Lock, Lock.Read, Lock.Write, Lock.Phantom, Lock.Anti, Connection, State, IsPos, start, grown, set_conn, happens, run, Runs, finished, Event, Event.Begin_scan, Event.Visit, Event.Past, Event.Undo}
use Rattle.wat_isolation.specs.Small.{numbers, primary, nat_trans}
use Rattle.wat_isolation.specs.Cases.{three_rows, begun, come_to_thirty, scan, insert, update, delete, forty}
use Rattle.wat_isolation.proofs.Basics.{nat_same, put-same, has_left}
use Rattle.wat_isolation.proofs.Growing.{at_conn}
use Rattle.wat_isolation.proofs.Orders.{is_upto, from_false, not_true}
use Rattle.wat_isolation.proofs.Unchanged.{unchanged_within}
use Rattle.wat_isolation.proofs.Whole.{all_hold}

runs_split : (w : World) (es fs : List (Event w)) (s : State w) → Runs w (es ++ fs) s → Runs w es s × Runs w fs (run w es s)
runs_split w [] fs s r = (tt, r)
runs_split w (e ∷ es) fs s r = let h = runs_split w es fs (happens w s e) r.1 in ((r.0, h.0), h.1)

abbrev s0 : State numbers
s0 = start numbers primary three_rows

apart : ◌≡◌ {A = ℕ} 1 2 → ⊥
apart e = cc

other : ◌≡◌ {A = ℕ} 2 1 → ⊥
other e = cc

-- ---- what another connection does after the scan

pub insert_past : (wants : List (Lock numbers)) (next : ℕ → Place numbers) → Runs numbers (scan 1 [] 39 (At 50) ++ insert 2 35 wants next ∷ []) s0 → ⊥
unfolding put
insert_past wants next r =
    let h = runs_split numbers (scan 1 [] 39 (At 50)) (insert 2 35 wants next ∷ []) s0 r in
    no (unchanged_within numbers (run numbers (scan 1 [] 39 (At 50)) s0) (all_hold numbers primary three_rows (scan 1 [] 39 (At 50)) h.0).kept 2 35 (Some 35) wants next h.1.0 1 other (finished numbers come_to_thirty (upto numbers 39)) (inl refl) 35 (refl, refl) (inl refl))
  where
    no : ◌≡◌ {A = Option ℕ} (Some 35) None → ⊥
    no e = cc

pub insert_before : (wants : List (Lock numbers)) (next : ℕ → Place numbers) → Runs numbers (scan 1 [] 39 (At 50) ++ insert 2 25 wants next ∷ []) s0 → ⊥
unfolding put
insert_before wants next r =
    let h = runs_split numbers (scan 1 [] 39 (At 50)) (insert 2 25 wants next ∷ []) s0 r in
    no (unchanged_within numbers (run numbers (scan 1 [] 39 (At 50)) s0) (all_hold numbers primary three_rows (scan 1 [] 39 (At 50)) h.0).kept 2 25 (Some 25) wants next h.1.0 1 other (finished numbers come_to_thirty (upto numbers 39)) (inl refl) 25 (refl, refl) (inl refl))
  where
    no : ◌≡◌ {A = Option ℕ} (Some 25) None → ⊥
    no e = cc

pub update_read : (wants : List (Lock numbers)) (next : ℕ → Place numbers) → Runs numbers (scan 1 [] 39 (At 50) ++ update 2 30 31 wants next ∷ []) s0 → ⊥
unfolding put
update_read wants next r =
    let h = runs_split numbers (scan 1 [] 39 (At 50)) (update 2 30 31 wants next ∷ []) s0 r in
    no (unchanged_within numbers (run numbers (scan 1 [] 39 (At 50)) s0) (all_hold numbers primary three_rows (scan 1 [] 39 (At 50)) h.0).kept 2 30 (Some 31) wants next h.1.0 1 other (finished numbers come_to_thirty (upto numbers 39)) (inl refl) 30 (refl, refl) (inl refl))
  where
    no : ◌≡◌ {A = Option ℕ} (Some 31) (Some 30) → ⊥
    no e = cc

pub delete_read : (wants : List (Lock numbers)) (next : ℕ → Place numbers) → Runs numbers (scan 1 [] 39 (At 50) ++ delete 2 30 wants next ∷ []) s0 → ⊥
unfolding put
delete_read wants next r =
    let h = runs_split numbers (scan 1 [] 39 (At 50)) (delete 2 30 wants next ∷ []) s0 r in
    no (unchanged_within numbers (run numbers (scan 1 [] 39 (At 50)) s0) (all_hold numbers primary three_rows (scan 1 [] 39 (At 50)) h.0).kept 2 30 None wants next h.1.0 1 other (finished numbers come_to_thirty (upto numbers 39)) (inl refl) 30 (refl, refl) (inr refl))
  where
    no : ◌≡◌ {A = Option ℕ} None (Some 30) → ⊥
    no e = cc

pub insert_before_own : (wants wants' : List (Lock numbers)) (next next' : ℕ → Place numbers) → Runs numbers ((scan 1 [] 49 (At 50) ++ insert 1 40 wants next ∷ []) ++ insert 2 35 wants' next' ∷ []) s0 → ⊥
unfolding put
insert_before_own wants wants' next next' r =
    let es : List (Event numbers) = scan 1 [] 49 (At 50) ++ insert 1 40 wants next ∷ [] in
    let h = runs_split numbers es (insert 2 35 wants' next' ∷ []) s0 r in
    no (unchanged_within numbers (run numbers es s0) (all_hold numbers primary three_rows es h.0).kept 2 35 (Some 35) wants' next' h.1.0 1 other (finished numbers come_to_thirty (upto numbers 49)) (inl refl) 35 (refl, refl) (inl refl))
  where
    no : ◌≡◌ {A = Option ℕ} (Some 35) None → ⊥
    no e = cc

pub insert_before_undone : (wants wants' : List (Lock numbers)) (next next' : ℕ → Place numbers)
    → Runs numbers ((insert 1 40 wants next ∷ scan 1 (Did 40 None (Some 40) ∷ []) 39 (At 40) ++ Undo 1 forty [] ∷ []) ++ insert 2 35 wants' next' ∷ []) s0 → ⊥
unfolding put
insert_before_undone wants wants' next next' r =
    let es : List (Event numbers) = insert 1 40 wants next ∷ scan 1 (Did 40 None (Some 40) ∷ []) 39 (At 40) ++ Undo 1 forty [] ∷ [] in
    let h = runs_split numbers es (insert 2 35 wants' next' ∷ []) s0 r in
    no (unchanged_within numbers (run numbers es s0) (all_hold numbers primary three_rows es h.0).kept 2 35 (Some 35) wants' next' h.1.0 1 other (finished numbers come_to_thirty (upto numbers 39)) (inl refl) 35 (refl, refl) (inl refl))
  where
    no : ◌≡◌ {A = Option ℕ} (Some 35) None → ⊥
    no e = cc

-- ---- the scan beside what another connection has changed

pub scan_beside_insert : (wants : List (Lock numbers)) (next : ℕ → Place numbers) → Runs numbers (insert 2 40 wants next ∷ scan 1 [] 39 (At 40)) s0 → ⊥
unfolding put
scan_beside_insert wants next r =
    apart (r.1.1.1.0.free (Phantom 0 (At 40)) (inl refl) 2 (Anti 0 (At 40)) (has_left (Anti 0 (At 40)) wants [] (r.0.0.comes 0 40 refl (λ e. cc))) (refl, refl))

pub scan_beside_delete : (wants : List (Lock numbers)) (next : ℕ → Place numbers) → Runs numbers (delete 2 50 wants next ∷ scan 1 [] 39 (At 50)) s0 → ⊥
unfolding put
scan_beside_delete wants next r =
    apart (r.1.1.1.0.free (Phantom 0 (At 50)) (inl refl) 2 (Anti 0 (At 50)) (has_left (Anti 0 (At 50)) wants [] (r.0.0.leaves 0 50 refl (λ e. cc))) (refl, refl))

pub visit_beside_update : (wants : List (Lock numbers)) (next : ℕ → Place numbers) (found : List (ℕ × ℕ))
    → Runs numbers (update 2 30 31 wants next ∷ Begin_scan 1 0 (before numbers 20) ∷ Visit 1 begun [] 30 found (Read 30 ∷ Phantom 0 (At 30) ∷ []) ∷ []) s0 → ⊥
unfolding put
visit_beside_update wants next found r = apart (r.1.1.0.free (Read 30) (inl refl) 2 (Write 30) (has_left (Write 30) wants [] r.0.0.write) refl)

pub scan_over_vacant : (wants wants' : List (Lock numbers)) (next : ℕ → Place numbers) (past : Place numbers)
    → Runs numbers (delete 2 30 wants next ∷ Begin_scan 1 0 (before numbers 20) ∷ Past 1 begun [] (upto numbers 39) past wants' ∷ []) s0 → ⊥
unfolding put
scan_over_vacant wants wants' next past r = r.1.1.0.none_left 30 refl refl (inr (2, Some 30, inl (refl, refl), refl))

-- ---- the scan itself runs

abbrev Known : ℕ → Type 0
Known x = (x ≡ 10) ⊎ ((x ≡ 30) ⊎ (x ≡ 50))

live_known : (x : ℕ) → IsLive numbers primary 0 three_rows x → Known x
live_known x h = at_ten (nat_eq x 10) refl h
  where
    at_fifty : (b : Bool) → nat_eq x 50 ≡ b → key_at numbers primary 0 x (cond b (Some 50) None) ≡ Some x → Known x
    at_fifty true e k = inr (inr (eqb-true x 50 e))
    at_fifty false e k = absurd (cc)

    at_thirty : (b : Bool) → nat_eq x 30 ≡ b → key_at numbers primary 0 x (cond b (Some 30) (cond (nat_eq x 50) (Some 50) None)) ≡ Some x → Known x
    at_thirty true e k = inr (inl (eqb-true x 30 e))
    at_thirty false e k = at_fifty (nat_eq x 50) refl k

    at_ten : (b : Bool) → nat_eq x 10 ≡ b → key_at numbers primary 0 x (cond b (Some 10) (cond (nat_eq x 30) (Some 30) (cond (nat_eq x 50) (Some 50) None))) ≡ Some x → Known x
    at_ten true e k = inl (eqb-true x 10 e)
    at_ten false e k = at_thirty (nat_eq x 30) refl k

abbrev s1 : State numbers
s1 = happens numbers s0 (Begin_scan 1 0 (before numbers 20))

abbrev s2 : State numbers
s2 = happens numbers s1 (Visit 1 begun [] 30 ((30, 30) ∷ []) (Read 30 ∷ Phantom 0 (At 30) ∷ []))

no_version : (s : State numbers) (c : ℕ) (log : List (Item numbers)) (wants : List (Lock numbers)) (r : ℕ) (v : Option ℕ) → (Version numbers r v log → ⊥) → ((d : ℕ) → Version numbers r v (s.conns d).log → ⊥) → (d : ℕ) → Version numbers r v (set_conn numbers s.conns c (grown numbers s c log (s.conns c).standing wants) d).log → ⊥
no_version s c log wants r v here there d = at_conn numbers s.conns c (grown numbers s c log (s.conns c).standing wants) (λ e z. Version numbers r v z.log → ⊥) here (λ e ne. there e) d

none1 : (r : ℕ) (v : Option ℕ) (d : ℕ) → Version numbers r v (s1.conns d).log → ⊥
none1 r v d = no_version s0 1 (Saw begun ∷ []) [] r v (λ h. h) (λ e h. h) d

none2 : (r : ℕ) (v : Option ℕ) (d : ℕ) → Version numbers r v (s2.conns d).log → ⊥
none2 r v d = no_version s1 1 (Saw come_to_thirty ∷ []) (Read 30 ∷ Phantom 0 (At 30) ∷ []) r v (λ h. h) (λ e h. none1 r v e h) d

known1 : (x : ℕ) → IsPos numbers s1 0 x → Known x
known1 x (inl h) = live_known x h
known1 x (inr h) = absurd (none1 x h.1 h.0 h.2)

known2 : (x : ℕ) → IsPos numbers s2 0 x → Known x
known2 x (inl h) = live_known x h
known2 x (inr h) = absurd (none2 x h.1 h.0 h.2)

-- nobody holds a lock but connection 1
alone1 : (d : ℕ) (l : Lock numbers) → Has l (s1.conns d).locks → 1 ≡ d
alone1 d l = at_conn numbers s0.conns 1 (grown numbers s0 1 (Saw begun ∷ []) [] []) (λ e z. Has l z.locks → 1 ≡ e) (λ h. absurd h) (λ e ne h. absurd h) d

alone2 : (d : ℕ) (l : Lock numbers) → Has l (s2.conns d).locks → 1 ≡ d
alone2 d l = at_conn numbers s1.conns 1 (grown numbers s1 1 (Saw come_to_thirty ∷ []) (s1.conns 1).standing (Read 30 ∷ Phantom 0 (At 30) ∷ [])) (λ e z. Has l z.locks → 1 ≡ e) (λ h. refl) (λ e ne h. alone1 e l h) d

-- none of the three keys lies from one number up to below another
none_from : (low high : ℕ) → nat_lt 10 low ≡ true → nat_lt 30 low ≡ true ⊎ (nat_lt 30 high ≡ false) → nat_lt 50 high ≡ false → (y : ℕ) → nat_lt y low ≡ false → nat_lt y high ≡ true → Known y → ⊥
none_from low high ten thirty fifty y a b (inl e) = true≢false (subst (λ z. true ≡ z) (subst (λ z. nat_lt z low ≡ false) e a) (Rattle.std.proofs.Common.sym ten))
none_from low high ten (inl t) fifty y a b (inr (inl e)) = true≢false (subst (λ z. true ≡ z) (subst (λ z. nat_lt z low ≡ false) e a) (Rattle.std.proofs.Common.sym t))
none_from low high ten (inr t) fifty y a b (inr (inl e)) = true≢false (subst (λ z. z ≡ false) (subst (λ z. nat_lt z high ≡ true) e b) t)
none_from low high ten thirty fifty y a b (inr (inr e)) = true≢false (subst (λ z. z ≡ false) (subst (λ z. nat_lt z high ≡ true) e b) fifty)

pub scan_runs : Runs numbers (scan 1 [] 39 (At 50)) s0
scan_runs = (
  (λ x y l h. nat_trans x y 20 l h),
  (
    record {
      head = ap (λ (z : Connection numbers). z.log) (put-same nat_eq nat_same s0.conns 1 (grown numbers s0 1 (Saw begun ∷ []) [] []));
      is_pos = inl refl;
      further = refl;
      least = λ y a b pos. none_from 20 30 refl (inr refl) refl y a b (known1 y pos);
      takes = inr (30, (refl, refl), refl);
      read = inl refl;
      phantom = inr (inl refl);
      free = λ l h d m n conflict. alone1 d m n;
    },
    (
      record {
        head = ap (λ (z : Connection numbers). z.log) (put-same nat_eq nat_same s1.conns 1 (grown numbers s1 1 (Saw come_to_thirty ∷ []) (s1.conns 1).standing (Read 30 ∷ Phantom 0 (At 30) ∷ [])));
        cut = is_upto numbers 39;
        further = λ y h. wider y h;
        none_left = λ y a b pos. none_from 31 40 refl (inl refl) refl y (after_thirty y a) (up_to_39 y b) (known2 y pos);
        first = (refl, inl refl, λ y a l pos. none_from 40 50 refl (inl refl) refl y (after_39 y a) l (known2 y pos));
        phantom = inl refl;
        free = λ l h d m n conflict. alone2 d m n;
      },
      tt,
    ),
  ),
)
  where
    small : (y : ℕ) → y ≤ 30 → y ≤ 39
    small y l = omega arith

    wider : (y : ℕ) → not (nat_lt 30 y) ≡ true → not (nat_lt 39 y) ≡ true
    wider y h = from_false (nat_lt 39 y) (le-ltb 39 y (small y (ltb-false 30 y (not_true (nat_lt 30 y) h))))

    after_thirty : (y : ℕ) → not (nat_lt 30 y) ≡ false → nat_lt y 31 ≡ false
    after_thirty y h = grind arith

    up_to_39 : (y : ℕ) → not (nat_lt 39 y) ≡ true → nat_lt y 40 ≡ true
    up_to_39 y h = grind arith

    after_39 : (y : ℕ) → not (nat_lt 39 y) ≡ false → nat_lt y 40 ≡ false
    after_39 y h = grind arith

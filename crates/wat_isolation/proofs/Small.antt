-- The machine moves: the scan runs. And it refuses: then another connection can insert no row 2, and no row 4 (its successor is the end), whatever it asks.
use Rattle.std.proofs.Common.{◌≡◌, ℕ, ◌<◌, ◌≤◌, Bool, true, false, cond, not, nat_eq, nat_lt, List, [], ◌∷◌, Option, Some, None, refl, sym, ap, subst, inl, inr, arith, ltb-true, eqb-true}
use Rattle.std.proofs.lemmas.Bool.{ltb-false, cases_Bool, true≢false}
use Rattle.wat_list.specs.Has.{Has}
use Rattle.wat_isolation.specs.Rows.{Scheme, Tables, IsLive, Cut, before, upto}
use Rattle.wat_isolation.specs.Logs.{Scan, Item, Item.Saw, Version, Scanned}
use Rattle.wat_isolation.specs.Machine.{Place, Place.At, Place.End, Lock, Lock.Read, Lock.Write, Lock.Phantom, Lock.Anti, Connection, State, IsPos, IsFirst, AllFree, start, happens, run, Runs, May, MayVisit, MayPast, grown, set_conn, idle, visited, finished, Event, Event.Change}
use Rattle.wat_isolation.specs.Kept.{Kept}
use Rattle.wat_isolation.specs.Small.{numbers, primary, row_three, begun, come_to_three, the_scan}
use Rattle.wat_isolation.proofs.Basics.{nat_same, put-same}
use Rattle.wat_isolation.proofs.Growing.{at_conn}
use Rattle.wat_isolation.proofs.Whole.{all_hold}
use Rattle.wat_isolation.proofs.Changing.{change_same}

-- the only row is row 3
only_three : (x : ℕ) → IsLive numbers primary 0 row_three x → x ≡ 3
only_three x h = at_test (nat_eq x 3) refl h
  where
    at_test : (b : Bool) → nat_eq x 3 ≡ b → Rattle.wat_isolation.specs.Rows.key_at numbers primary 0 x (cond b (Some 30) None) ≡ Some x → x ≡ 3
    at_test true e k = eqb-true x 3 e
    at_test false e k = absurd (cc)

abbrev s0 : State numbers
s0 = start numbers primary row_three

abbrev s1 : State numbers
s1 = happens numbers s0 (Rattle.wat_isolation.specs.Machine.Event.Begin_scan 1 0 (before numbers 2))

abbrev s2 : State numbers
s2 = happens numbers s1 (Rattle.wat_isolation.specs.Machine.Event.Visit 1 begun [] 3 ((3, 30) ∷ []) (Read 3 ∷ Phantom 0 (At 3) ∷ []))

no_version : (s : State numbers) (c : ℕ) (log : List (Item numbers)) (wants : List (Lock numbers)) (r : ℕ) (v : Option ℕ) → (Version numbers r v log → ⊥) → ((d : ℕ) → Version numbers r v (s.conns d).log → ⊥) → (d : ℕ) → Version numbers r v (set_conn numbers s.conns c (grown numbers s c log (s.conns c).standing wants) d).log → ⊥
no_version s c log wants r v here there d = at_conn numbers s.conns c (grown numbers s c log (s.conns c).standing wants) (λ e z. Version numbers r v z.log → ⊥) here (λ e ne. there e) d

none1 : (r : ℕ) (v : Option ℕ) (d : ℕ) → Version numbers r v (s1.conns d).log → ⊥
none1 r v d = no_version s0 1 (Saw begun ∷ []) [] r v (λ h. h) (λ e h. h) d

none2 : (r : ℕ) (v : Option ℕ) (d : ℕ) → Version numbers r v (s2.conns d).log → ⊥
none2 r v d = no_version s1 1 (Saw come_to_three ∷ []) (Read 3 ∷ Phantom 0 (At 3) ∷ []) r v (λ h. h) (λ e h. none1 r v e h) d

pos1 : (x : ℕ) → IsPos numbers s1 0 x → x ≡ 3
pos1 x (inl h) = only_three x h
pos1 x (inr h) = absurd (none1 x h.1 h.0 h.2)

pos2 : (x : ℕ) → IsPos numbers s2 0 x → x ≡ 3
pos2 x (inl h) = only_three x h
pos2 x (inr h) = absurd (none2 x h.1 h.0 h.2)

-- nobody holds a lock but connection 1
alone1 : (d : ℕ) (l : Lock numbers) → Has l (s1.conns d).locks → 1 ≡ d
alone1 d l = at_conn numbers s0.conns 1 (grown numbers s0 1 (Saw begun ∷ []) [] []) (λ e z. Has l z.locks → 1 ≡ e) (λ h. absurd h) (λ e ne h. absurd h) d

alone2 : (d : ℕ) (l : Lock numbers) → Has l (s2.conns d).locks → 1 ≡ d
alone2 d l = at_conn numbers s1.conns 1 (grown numbers s1 1 (Saw come_to_three ∷ []) (s1.conns 1).standing (Read 3 ∷ Phantom 0 (At 3) ∷ [])) (λ e z. Has l z.locks → 1 ≡ e) (λ h. refl) (λ e ne h. alone1 e l h) d

scan_runs : Runs numbers the_scan s0
scan_runs = (
  (λ x y l h. Rattle.wat_isolation.specs.Small.nat_trans x y 2 l h),
  (
    record {
      head = ap (λ (z : Connection numbers). z.log) (put-same nat_eq nat_same s0.conns 1 (grown numbers s0 1 (Saw begun ∷ []) [] []));
      is_pos = inl refl;
      further = refl;
      least = λ y a b pos. absurd (apart y (ltb-true y 3 b) (pos1 y pos));
      takes = inr (30, (refl, refl), refl);
      read = inl refl;
      phantom = inr (inl refl);
      free = λ l h d m n conflict. alone1 d m n;
    },
    (
      record {
        head = ap (λ (z : Connection numbers). z.log) (put-same nat_eq nat_same s1.conns 1 (grown numbers s1 1 (Saw come_to_three ∷ []) (s1.conns 1).standing (Read 3 ∷ Phantom 0 (At 3) ∷ [])));
        cut = Rattle.wat_isolation.proofs.Orders.is_upto numbers 4;
        further = λ y h. wider y h;
        none_left = λ y a b pos. true≢false (subst (λ z. upto numbers 3 z ≡ false) (pos2 y pos) a);
        first = λ y a pos. true≢false (subst (λ z. upto numbers 4 z ≡ false) (pos2 y pos) a);
        phantom = inl refl;
        free = λ l h d m n conflict. alone2 d m n;
      },
      tt,
    ),
  ),
)
  where
    apart : (y : ℕ) → y < 3 → y ≡ 3 → ⊥
    apart y l e = omega arith

    small : (y : ℕ) → y ≤ 3 → y ≤ 4
    small y l = omega arith

    wider : (y : ℕ) → not (nat_lt 3 y) ≡ true → not (nat_lt 4 y) ≡ true
    wider y h = Rattle.wat_isolation.proofs.Orders.from_false (nat_lt 4 y) (Rattle.std.proofs.lemmas.Bool.le-ltb 4 y (small y (ltb-false 3 y (Rattle.wat_isolation.proofs.Orders.not_true (nat_lt 3 y) h))))

abbrev s3 : State numbers
s3 = run numbers the_scan s0

kept3 : Kept numbers s3
kept3 = (all_hold numbers primary row_three the_scan scan_runs).kept

one_two : (a b : ℕ) → a ≡ 1 → b ≡ 2 → b ≡ a → ⊥
one_two a b e f h = omega arith

-- then row x, from 2 to 4 but 3, can be inserted by no other connection
pub no_phantom : (x v : ℕ) (wants : List (Lock numbers)) (next : ℕ → Place numbers) → nat_lt x 2 ≡ false → upto numbers 4 x ≡ true → (x ≡ 3 → ⊥) → May numbers s3 (Change 2 x (Some v) wants next) → ⊥
no_phantom x v wants next lo hi ne may =
    let at : Scan numbers = finished numbers come_to_three (upto numbers 4) in
    let scanned : Scanned numbers at (s3.conns 1).log = subst (λ (z : Connection numbers). Scanned numbers at z.log) (sym (put-same nat_eq nat_same s2.conns 1 (grown numbers s2 1 (Saw at ∷ []) (s2.conns 1).standing (Phantom 0 End ∷ [])))) (inl refl) in
    let same = change_same numbers s3 kept3 2 x (Some v) wants next may.0 may.1 1 at (λ e. one_two 1 2 refl refl e) (kept3.guarded 1 at scanned) in
    let came : IsPos numbers (happens numbers s3 (Change 2 x (Some v) wants next)) 0 x = inl (ap (Rattle.wat_isolation.specs.Rows.key_at numbers primary 0 x) (put-same nat_eq nat_same s3.now x (Some v))) in
    ne (pos3 x (same.none_new x (lo, hi) came))
  where
    none3 : (r : ℕ) (u : Option ℕ) (d : ℕ) → Version numbers r u (s3.conns d).log → ⊥
    none3 r u d = no_version s2 1 (Saw (finished numbers come_to_three (upto numbers 4)) ∷ []) (Phantom 0 End ∷ []) r u (λ h. h) (λ e h. none2 r u e h) d

    pos3 : (y : ℕ) → IsPos numbers s3 0 y → y ≡ 3
    pos3 y (inl h) = only_three y h
    pos3 y (inr h) = absurd (none3 y h.1 h.0 h.2)

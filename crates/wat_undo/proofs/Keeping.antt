-- Lists of changes in a map by connections.
use Rattle.std.proofs.Common.{◌≡◌, ◌≢◌, ◌⊎◌, inl, inr, ⊎_elim, ℕ, ◌+◌, ◌<◌, ◌≤◌, ◌^◌, ◌==◌, ◌&&◌, not, Bool, true, false, cond, if◌then◌else◌, List, [], ◌∷◌, ◌++◌, length, Option, Some, None, refl, sym, ap, ap₂, ◌∙◌, subst, arith, length-append}
use Rattle.std.specs.Prelude.{nat_eq, unwrap_or, IsSome}
use Rattle.std.specs.List.{AllByRecursion, filter}
use Rattle.std.specs.List.Sorted.{IsStrictlySortedBy}
use Rattle.std.specs.Ordering.{nat_cmp, match_ordering, is_le}
use Rattle.std.specs.declared.ops.Bound.TheVariants.{Included, Unbounded}
use Rattle.std.specs.BTreeMap.Range.{range_contains}
use Rattle.std.specs.declared.cmp.Ordering.{Ordering}
use Rattle.std.specs.declared.cmp.Ordering.TheVariants.{Less, Equal, Greater}
use Rattle.std.specs.BTreeMap.{BTreeMap, get, is_at, insert_entry}
use Rattle.std.specs.Map.{lookup, keys_of, set_value, remove_entry}
use Rattle.std.proofs.lemmas.Bool.{cases_eq, cases_lt, eq-eqb, eqb-true, ne_eqb}
use Rattle.std.proofs.lemmas.Map.Keys.{sorted_head, sorted_tail}
use Rattle.std.proofs.lemmas.Grind.{common_steps}
use Rattle.wat_value.specs.declared.change.Change.{Change}
use Rattle.wat_log_record.specs.Encoding.{IsWritableChange}
use Rattle.wat_replay.specs.State.{Lists, with_list}
use Rattle.wat_recover.specs.Goes.{Popped}
use Rattle.wat_recover.specs.Listed.{IsLeastFrom}
use Rattle.wat_undo.specs.Kept.{lists_of, IsOpen, AreOpen}

bridge : (page q : ℕ) → is_at (nat_cmp page) q ≡ nat_eq page q
bridge page q = grind (arith, common_steps)

abbrev pub Entries : Type 0
Entries = List (ℕ × List Change)

pub get_is : (m : BTreeMap ℕ (List Change)) (conn : ℕ) → get nat_cmp m conn ≡ lookup (nat_eq conn) m.entries
get_is m conn i = lookup (λ q. bridge conn q i) m.entries

list_from : (o : Option (List Change)) (list : List Change) → o ≡ Some list → unwrap_or o [] ≡ list
list_from o list is = ap (λ x. unwrap_or x []) is

pub found_list : (entries : Entries) (conn : ℕ) (list : List Change) → lookup (nat_eq conn) entries ≡ Some list → lists_of entries conn ≡ list
found_list entries conn list is = list_from (lookup (nat_eq conn) entries) list is

pub no_list : (entries : Entries) (conn : ℕ) → lookup (nat_eq conn) entries ≡ None → lists_of entries conn ≡ []
no_list entries conn is = ap (λ x. unwrap_or x []) is

-- ---- one list becomes another

choose : (b : Bool) (list : List Change) (o : Option (List Change)) → unwrap_or (cond b (Some list) o) [] ≡ (if b then list else unwrap_or o [])
choose true list o = refl
choose false list o = refl

pub updated_lists : (old new : BTreeMap ℕ (List Change)) (conn : ℕ) (list : List Change) → ((q : ℕ) → get nat_cmp new q ≡ cond (is_at (nat_cmp conn) q) (Some list) (get nat_cmp old q)) → lists_of new.entries ≡ with_list conn list (lists_of old.entries)
updated_lists old new conn list updates = λ i q. each q i
  where
    each : (q : ℕ) → lists_of new.entries q ≡ with_list conn list (lists_of old.entries) q
    each q =
        ap (λ o. unwrap_or o []) (sym (get_is new q) ∙ updates q ∙ (λ i. cond (bridge conn q i) (Some list) (get_is old q i))) ∙ choose (nat_eq conn q) list (lookup (nat_eq q) old.entries)

choose_none : (b : Bool) (o : Option (List Change)) → unwrap_or (cond b None o) [] ≡ (if b then [] else unwrap_or o [])
choose_none true o = refl
choose_none false o = refl

pub removed_lists : (old new : BTreeMap ℕ (List Change)) (conn : ℕ) → ((q : ℕ) → get nat_cmp new q ≡ cond (is_at (nat_cmp conn) q) None (get nat_cmp old q)) → lists_of new.entries ≡ with_list conn [] (lists_of old.entries)
removed_lists old new conn updates = λ i q. each q i
  where
    each : (q : ℕ) → lists_of new.entries q ≡ with_list conn [] (lists_of old.entries) q
    each q =
        ap (λ o. unwrap_or o []) (sym (get_is new q) ∙ updates q ∙ (λ i. cond (bridge conn q i) None (get_is old q i))) ∙ choose_none (nat_eq conn q) (lookup (nat_eq q) old.entries)

-- a list in its own place
pub with_own : (lists : Lists) (conn : ℕ) (list : List Change) → lists conn ≡ list → with_list conn list lists ≡ lists
with_own lists conn list is = λ i q. each q i
  where
    each : (q : ℕ) → with_list conn list lists q ≡ lists q
    each q = elim (cases_eq conn q) [
      | inl same ↦ ap (λ b. if b then list else lists q) (eq-eqb conn q same) ∙ sym is ∙ ap lists same
      | inr apart ↦ ap (λ b. if b then list else lists q) (ne_eqb conn q apart)
    ]

pub with_twice : (lists : Lists) (conn : ℕ) (a b : List Change) → with_list conn b (with_list conn a lists) ≡ with_list conn b lists
with_twice lists conn a b = λ i q. each (conn == q) q i
  where
    each : (t : Bool) (q : ℕ) → (if t then b else (if t then a else lists q)) ≡ (if t then b else lists q)
    each true q = refl
    each false q = refl

-- ---- the entries stay sound

pub open_insert : (entries : Entries) (conn : ℕ) (list : List Change) → AllByRecursion IsOpen entries → IsOpen (conn, list) → AllByRecursion IsOpen (insert_entry nat_cmp entries conn list)
open_insert [] conn list all one = (one, tt)
open_insert (entry ∷ entries) conn list all one = at (nat_cmp conn entry.0) (insert_entry nat_cmp entries conn list) (open_insert entries conn list all.1 one)
  where
    at : (o : Ordering) (rest : Entries) → AllByRecursion IsOpen rest → AllByRecursion IsOpen (match_ordering o ((conn, list) ∷ entry ∷ entries) ((entry.0, list) ∷ entries) (entry ∷ rest))
    at Less rest more = (one, all)
    at Equal rest more = (record { conn = all.0.conn; some = one.some; few = one.few; writable = one.writable }, all.1)
    at Greater rest more = (all.0, more)

pub open_set : (test : ℕ → Bool) (entries : Entries) (list : List Change) → AllByRecursion IsOpen entries → list ≢ [] → length list < 2 ^ 32 → AllByRecursion IsWritableChange list → AllByRecursion IsOpen (set_value test entries list)
open_set test [] list all some few writable = tt
open_set test (entry ∷ entries) list all some few writable = at (test entry.0) (set_value test entries list) (open_set test entries list all.1 some few writable)
  where
    at : (b : Bool) (rest : Entries) → AllByRecursion IsOpen rest → AllByRecursion IsOpen (cond b ((entry.0, list) ∷ entries) (entry ∷ rest))
    at true rest more = (record { conn = all.0.conn; some = some; few = few; writable = writable }, all.1)
    at false rest more = (all.0, more)

pub open_cut : (test : ℕ → Bool) (entries : Entries) (list : List Change) → AllByRecursion IsOpen entries → AllByRecursion IsOpen (remove_entry test (set_value test entries list))
open_cut test [] list all = tt
open_cut test (entry ∷ entries) list all = at (test entry.0) refl (open_cut test entries list all.1)
  where
    at : (b : Bool) → test entry.0 ≡ b → AllByRecursion IsOpen (remove_entry test (set_value test entries list)) → AllByRecursion IsOpen (remove_entry test (cond b ((entry.0, list) ∷ entries) (entry ∷ set_value test entries list)))
    at true is more = subst (λ (b : Bool). AllByRecursion IsOpen (cond b entries ((entry.0, list) ∷ remove_entry test entries))) (sym is) all.1
    at false is more = subst (λ (b : Bool). AllByRecursion IsOpen (cond b (set_value test entries list) (entry ∷ remove_entry test (set_value test entries list)))) (sym is) (all.0, more)

pub open_at : (entries : Entries) (conn : ℕ) (list : List Change) → AllByRecursion IsOpen entries → lookup (nat_eq conn) entries ≡ Some list → IsOpen (conn, list)
open_at [] conn list all is = absurd (let no : None ≡ Some list = is in cc)
open_at (entry ∷ entries) conn list all is = at (nat_eq conn entry.0) refl (λ e. open_at entries conn list all.1 e) is
  where
    at : (b : Bool) → nat_eq conn entry.0 ≡ b → (lookup (nat_eq conn) entries ≡ Some list → IsOpen (conn, list)) → cond b (Some entry.1) (lookup (nat_eq conn) entries) ≡ Some list → IsOpen (conn, list)
    at true key behind e =
        let same : conn ≡ entry.0 = eqb-true conn entry.0 key in
        let value : entry.1 ≡ list = cc in
        record {
          conn = subst (λ k. k < 2 ^ 16) (sym same) all.0.conn;
          some = λ none. all.0.some (value ∙ none);
          few = subst (λ (l : List Change). length l < 2 ^ 32) value all.0.few;
          writable = subst (AllByRecursion IsWritableChange) value all.0.writable;
        }
    at false key behind e = behind e

pub writable_more : (list : List Change) (change : Change) → AllByRecursion IsWritableChange list → IsWritableChange change → AllByRecursion IsWritableChange (list ++ change ∷ [])
writable_more [] change all one = (one, tt)
writable_more (x ∷ list) change all one = (all.0, writable_more list change all.1 one)

pub writable_less : (list : List Change) (change : Change) → AllByRecursion IsWritableChange (list ++ change ∷ []) → AllByRecursion IsWritableChange list
writable_less [] change all = tt
writable_less (x ∷ list) change all = (all.0, writable_less list change all.1)

pub some_more : (list : List Change) (change : Change) → list ++ change ∷ [] ≢ []
some_more [] change e = let no : change ∷ [] ≡ [] = e in cc
some_more (x ∷ list) change e = let no : x ∷ (list ++ change ∷ []) ≡ [] = e in cc

greater : (a b : ℕ) → b < a → nat_cmp a b ≡ Greater
greater a b less = grind (arith, common_steps)

-- ---- a connection behind all others

pub insert_last : (entries : Entries) (conn : ℕ) (list : List Change) → AllByRecursion (λ (k : ℕ). k < conn) (keys_of entries) → insert_entry nat_cmp entries conn list ≡ entries ++ (conn, list) ∷ []
insert_last [] conn list below = refl
insert_last (entry ∷ entries) conn list below =
    ap (λ o. match_ordering o ((conn, list) ∷ entry ∷ entries) ((entry.0, list) ∷ entries) (entry ∷ insert_entry nat_cmp entries conn list)) (greater conn entry.0 below.0) ∙ ap (λ l. entry ∷ l) (insert_last entries conn list below.1)

-- ---- a list is never empty in the map

pub open_is_some : (entries : Entries) (conn : ℕ) (list : List Change) → AllByRecursion IsOpen entries → lookup (nat_eq conn) entries ≡ Some list → lists_of entries conn ≢ []
open_is_some entries conn list all is none = (open_at entries conn list all is).some (sym (found_list entries conn list is) ∙ none)

absent : (entries : Entries) (conn : ℕ) → AllByRecursion (λ (k : ℕ). k < conn) (keys_of entries) → lookup (nat_eq conn) entries ≡ None
absent [] conn below = refl
absent (entry ∷ entries) conn below = ap (λ b. cond b (Some entry.1) (lookup (nat_eq conn) entries)) (ne_eqb conn entry.0 (let less = below.0 in omega (arith, less))) ∙ absent entries conn below.1

last_there : (entries : Entries) (conn : ℕ) (list : List Change) → lookup (nat_eq conn) entries ≡ None → lookup (nat_eq conn) (entries ++ (conn, list) ∷ []) ≡ Some list
last_there [] conn list none = ap (λ b. cond b (Some list) None) (eq-eqb conn conn refl)
last_there (entry ∷ entries) conn list none = at (nat_eq conn entry.0) refl (λ e. last_there entries conn list e) none
  where
    at : (b : Bool) → nat_eq conn entry.0 ≡ b → (lookup (nat_eq conn) entries ≡ None → lookup (nat_eq conn) (entries ++ (conn, list) ∷ []) ≡ Some list) → cond b (Some entry.1) (lookup (nat_eq conn) entries) ≡ None
        → lookup (nat_eq conn) ((entry ∷ entries) ++ (conn, list) ∷ []) ≡ Some list
    at true is behind e = absurd (let bad : Some entry.1 ≡ None = e in cc)
    at false is behind e = ap (λ b. cond b (Some entry.1) (lookup (nat_eq conn) (entries ++ (conn, list) ∷ []))) is ∙ behind e

last_apart : (entries : Entries) (conn q : ℕ) (list : List Change) → q ≢ conn → lookup (nat_eq q) (entries ++ (conn, list) ∷ []) ≡ lookup (nat_eq q) entries
last_apart [] conn q list apart = ap (λ b. cond b (Some list) None) (ne_eqb q conn apart)
last_apart (entry ∷ entries) conn q list apart = ap (λ o. cond (nat_eq q entry.0) (Some entry.1) o) (last_apart entries conn q list apart)

pub append_lists : (entries : Entries) (conn : ℕ) (list : List Change) → AllByRecursion (λ (k : ℕ). k < conn) (keys_of entries) → lists_of (entries ++ (conn, list) ∷ []) ≡ with_list conn list (lists_of entries)
append_lists entries conn list below = λ i q. each q i
  where
    each : (q : ℕ) → lists_of (entries ++ (conn, list) ∷ []) q ≡ with_list conn list (lists_of entries) q
    each q = elim (cases_eq conn q) [
      | inl same ↦ ap (lists_of (entries ++ (conn, list) ∷ [])) (sym same) ∙ ap (λ o. unwrap_or o []) (last_there entries conn list (absent entries conn below)) ∙ sym (ap (λ b. if b then list else lists_of entries q) (eq-eqb conn q same))
      | inr apart ↦ ap (λ o. unwrap_or o []) (last_apart entries conn q list (λ e. apart (sym e))) ∙ sym (ap (λ b. if b then list else lists_of entries q) (ne_eqb conn q apart))
    ]

-- a connection without changes in the bytes is none in the lists
pub empty_behind : (entries : Entries) (conn : ℕ) (list : List Change) → AllByRecursion (λ (k : ℕ). k < conn) (keys_of entries) → list ≡ [] → lists_of entries ≡ with_list conn list (lists_of entries)
empty_behind entries conn list below none = sym (with_own (lists_of entries) conn list (no_list entries conn (absent entries conn below) ∙ sym none))

-- ---- the map after a write

pub sorted_none : IsStrictlySortedBy nat_cmp []
unfolding IsStrictlySortedBy
sorted_none = tt

pub none_open : AreOpen []
none_open = record { each = tt; ascend = sorted_none }

pub open_begun : (old new : Entries) (conn : ℕ) (change : Change) → AreOpen old → conn < 2 ^ 16 → IsWritableChange change → new ≡ insert_entry nat_cmp old conn (change ∷ []) → IsStrictlySortedBy nat_cmp (keys_of new) → AreOpen new
open_begun old new conn change are number writable is sorted = record {
  each = subst (AllByRecursion IsOpen) (sym is)
      (open_insert old conn (change ∷ []) are.each (record { conn = number; some = λ e. let no : change ∷ [] ≡ [] = e in cc; few = omega arith; writable = (writable, tt) }));
  ascend = sorted;
}

pub open_written : (test : ℕ → Bool) (old new : Entries) (list : List Change) → AreOpen old → new ≡ set_value test old list → IsStrictlySortedBy nat_cmp (keys_of new) → list ≢ [] → length list < 2 ^ 32 → AllByRecursion IsWritableChange list → AreOpen new
open_written test old new list are is sorted some few writable = record {
  each = subst (AllByRecursion IsOpen) (sym is) (open_set test old list are.each some few writable);
  ascend = sorted;
}

pub open_removed : (test : ℕ → Bool) (old mid new : Entries) (list : List Change) → AreOpen old → mid ≡ set_value test old list → new ≡ remove_entry test mid → IsStrictlySortedBy nat_cmp (keys_of new) → AreOpen new
open_removed test old mid new list are one two sorted = record {
  each = subst (AllByRecursion IsOpen) (sym (two ∙ ap (remove_entry test) one)) (open_cut test old list are.each);
  ascend = sorted;
}

pub open_append : (entries new : Entries) (conn : ℕ) (list : List Change) → AreOpen entries → IsOpen (conn, list) → new ≡ insert_entry nat_cmp entries conn list → IsStrictlySortedBy nat_cmp (keys_of new) → AreOpen new
open_append entries new conn list are one is sorted = record {
  each = subst (AllByRecursion IsOpen) (sym is) (open_insert entries conn list are.each one);
  ascend = sorted;
}

pub few_there : (m : BTreeMap ℕ (List Change)) (conn : ℕ) (list : List Change) → AreOpen m.entries → Some list ≡ get nat_cmp m conn → length list < 2 ^ 32
few_there m conn list are there = (open_at m.entries conn list are.each (sym (get_is m conn) ∙ sym there)).few

-- ---- what a change of a list makes of the lists

module _ (old : BTreeMap ℕ (List Change)) (conn : ℕ) (list : List Change) (there : Some list ≡ get nat_cmp old conn) where
  pub is_there : lookup (nat_eq conn) old.entries ≡ Some list
  is_there = sym (get_is old conn) ∙ sym there

  pub some_there : IsSome (get nat_cmp old conn)
  some_there = subst IsSome there refl

  pub was_list : lists_of old.entries conn ≡ list
  was_list = found_list old.entries conn list is_there

  pub pushed_lists : (new : BTreeMap ℕ (List Change)) (longer : List Change) (change : Change) → ((q : ℕ) → get nat_cmp new q ≡ cond (is_at (nat_cmp conn) q) (Some longer) (get nat_cmp old q)) → longer ≡ list ++ change ∷ []
      → lists_of new.entries ≡ with_list conn (lists_of old.entries conn ++ change ∷ []) (lists_of old.entries)
  pushed_lists new longer change updates is =
      updated_lists old new conn longer updates ∙ ap (λ l. with_list conn l (lists_of old.entries)) (is ∙ ap (λ l. l ++ change ∷ []) (sym was_list))

  pub same_lists : (new : BTreeMap ℕ (List Change)) (again : List Change) → ((q : ℕ) → get nat_cmp new q ≡ cond (is_at (nat_cmp conn) q) (Some again) (get nat_cmp old q)) → again ≡ list → lists_of new.entries ≡ lists_of old.entries
  same_lists new again updates is = updated_lists old new conn again updates ∙ with_own (lists_of old.entries) conn again (was_list ∙ sym is)

  pub popped_lists : (new : BTreeMap ℕ (List Change)) (rest : List Change) (change : Change) → ((q : ℕ) → get nat_cmp new q ≡ cond (is_at (nat_cmp conn) q) (Some rest) (get nat_cmp old q)) → list ≡ rest ++ change ∷ [] → Popped conn change (lists_of old.entries) (lists_of new.entries)
  popped_lists new rest change updates is = record { rest = rest; was = was_list ∙ is; is = updated_lists old new conn rest updates }

  pub emptied_lists : (mid new : BTreeMap ℕ (List Change)) (rest : List Change) (change : Change) → ((q : ℕ) → get nat_cmp mid q ≡ cond (is_at (nat_cmp conn) q) (Some rest) (get nat_cmp old q))
      → ((q : ℕ) → get nat_cmp new q ≡ cond (is_at (nat_cmp conn) q) None (get nat_cmp mid q)) → rest ≡ [] → list ≡ rest ++ change ∷ [] → Popped conn change (lists_of old.entries) (lists_of new.entries)
  emptied_lists mid new rest change one two none is = record {
    rest = rest;
    was = was_list ∙ is;
    is = removed_lists mid new conn two ∙ ap (with_list conn []) (updated_lists old mid conn rest one) ∙ with_twice (lists_of old.entries) conn rest [] ∙ ap (λ l. with_list conn l (lists_of old.entries)) (sym none);
  }

  pub writable_there : AreOpen old.entries → AllByRecursion IsWritableChange list
  writable_there are = (open_at old.entries conn list are.each is_there).writable

  pub not_empty : AreOpen old.entries → list ≢ []
  not_empty are = (open_at old.entries conn list are.each is_there).some

  pub open_pushed : (new : BTreeMap ℕ (List Change)) (longer : List Change) (change : Change) → AreOpen old.entries → new.entries ≡ set_value (is_at (nat_cmp conn)) old.entries longer → IsStrictlySortedBy nat_cmp (keys_of new.entries)
      → longer ≡ list ++ change ∷ [] → length longer < 2 ^ 32 → IsWritableChange change → AreOpen new.entries
  open_pushed new longer change are written sorted is few writable =
      open_written (is_at (nat_cmp conn)) old.entries new.entries longer are written sorted (λ none. some_more list change (sym is ∙ none)) few
      (subst (AllByRecursion IsWritableChange) (sym is) (writable_more list change (writable_there are) writable))

  pub open_same : (new : BTreeMap ℕ (List Change)) (again : List Change) → AreOpen old.entries → new.entries ≡ set_value (is_at (nat_cmp conn)) old.entries again → IsStrictlySortedBy nat_cmp (keys_of new.entries) → again ≡ list → AreOpen new.entries
  open_same new again are written sorted is =
      open_written (is_at (nat_cmp conn)) old.entries new.entries again are written sorted (λ none. not_empty are (sym is ∙ none)) (subst (λ (l : List Change). length l < 2 ^ 32) (sym is) (open_at old.entries conn list are.each is_there).few)
      (subst (AllByRecursion IsWritableChange) (sym is) (writable_there are))

  pub open_popped : (new : BTreeMap ℕ (List Change)) (rest : List Change) (change : Change) → AreOpen old.entries → new.entries ≡ set_value (is_at (nat_cmp conn)) old.entries rest → IsStrictlySortedBy nat_cmp (keys_of new.entries)
      → list ≡ rest ++ change ∷ [] → rest ≢ [] → AreOpen new.entries
  open_popped new rest change are written sorted is some =
      let few = (open_at old.entries conn list are.each is_there).few in
      open_written (is_at (nat_cmp conn)) old.entries new.entries rest are written sorted some (omega (arith, few, ap length is, length-append rest (change ∷ [])))
      (writable_less rest change (subst (AllByRecursion IsWritableChange) is (writable_there are)))

pub not_there : (old : BTreeMap ℕ (List Change)) (conn : ℕ) → None ≡ get nat_cmp old conn → lists_of old.entries conn ≡ []
not_there old conn none = no_list old.entries conn (sym (get_is old conn) ∙ sym none)

-- ---- the first connection from a number on

abbrev pub inside : ℕ → ℕ × List Change → Bool
inside from entry = range_contains nat_cmp (Included from) Unbounded entry.0

inside_true : (from : ℕ) (entry : ℕ × List Change) → inside from entry ≡ true → from ≤ entry.0
inside_true from entry is = ⊎_elim
    (λ (less : entry.0 < from). absurd (let no : false ≡ true = sym (ap (λ o. is_le o && not false) (greater from entry.0 less)) ∙ is in cc))
    (λ more. more)
    (cases_lt entry.0 from)

inside_false : (from : ℕ) (entry : ℕ × List Change) → inside from entry ≡ false → entry.0 < from
inside_false from entry isnt = ⊎_elim
    (λ less. less)
    (λ (more : from ≤ entry.0). absurd (let no : true ≡ false = sym (at_most from entry.0 more) ∙ isnt in cc))
    (cases_lt entry.0 from)
  where
    at_most : (a b : ℕ) → a ≤ b → (is_le (nat_cmp a b) && not false) ≡ true
    at_most a b h = grind (arith, common_steps)

pub none_from : (entries : Entries) (from : ℕ) → filter (inside from) entries ≡ [] → (other : ℕ) → from ≤ other → lookup (nat_eq other) entries ≡ None
none_from [] from none other above = refl
none_from (entry ∷ entries) from none other above = at (inside from entry) refl (λ e. none_from entries from e other above) none
  where
    at : (b : Bool) → inside from entry ≡ b → (filter (inside from) entries ≡ [] → lookup (nat_eq other) entries ≡ None) → cond b (entry ∷ filter (inside from) entries) (filter (inside from) entries) ≡ [] → lookup (nat_eq other) (entry ∷ entries) ≡ None
    at true is behind e = absurd (let bad : entry ∷ filter (inside from) entries ≡ [] = e in cc)
    at false is behind e =
        let less = inside_false from entry is in
        ap (λ b. cond b (Some entry.1) (lookup (nat_eq other) entries)) (ne_eqb other entry.0 (omega (arith, less, above))) ∙ behind e

none_under : (entries : Entries) (low other : ℕ) → AllByRecursion (λ (k : ℕ). nat_cmp low k ≡ Less) (keys_of entries) → other < low → lookup (nat_eq other) entries ≡ None
none_under [] low other all h = refl
none_under (entry ∷ entries) low other all h = ap (λ b. cond b (Some entry.1) (lookup (nat_eq other) entries)) (ne_eqb other entry.0 (λ e. apart e)) ∙ none_under entries low other all.1 h
  where
    apart : other ≡ entry.0 → ⊥
    apart e = let no : Greater ≡ Less = sym (greater low entry.0 (omega (arith, e, h))) ∙ all.0 in cc

-- The first of them is the least.
pub record IsFirst (entries : Entries) (from conn : ℕ) (list : List Change) : Type 0 where
  pub above : from ≤ conn
  pub there : lookup (nat_eq conn) entries ≡ Some list
  pub least : (other : ℕ) → from ≤ other → other < conn → lookup (nat_eq other) entries ≡ None

pub first_is : (entries : Entries) (from conn : ℕ) (list : List Change) (rest : Entries) → IsStrictlySortedBy nat_cmp (keys_of entries) → filter (inside from) entries ≡ (conn, list) ∷ rest → IsFirst entries from conn list
first_is [] from conn list rest sorted is = absurd (let no : [] ≡ (conn, list) ∷ rest = is in cc)
first_is (entry ∷ entries) from conn list rest sorted is = at (inside from entry) refl (λ e. first_is entries from conn list rest (sorted_tail nat_cmp entry.0 (keys_of entries) sorted) e) is
  where
    at : (b : Bool) → inside from entry ≡ b → (filter (inside from) entries ≡ (conn, list) ∷ rest → IsFirst entries from conn list) → cond b (entry ∷ filter (inside from) entries) (filter (inside from) entries) ≡ (conn, list) ∷ rest
        → IsFirst (entry ∷ entries) from conn list
    at true in_range behind e =
        let same : entry ≡ (conn, list) = cc in
        let key : entry.0 ≡ conn = ap (λ (x : ℕ × List Change). x.0) same in
        let value : entry.1 ≡ list = ap (λ (x : ℕ × List Change). x.1) same in
        record {
          above = let low = inside_true from entry in_range in omega (arith, low, key);
          there = ap (λ b. cond b (Some entry.1) (lookup (nat_eq conn) entries)) (eq-eqb conn entry.0 (sym key)) ∙ ap Some value;
          least = λ other above below.
              ap (λ b. cond b (Some entry.1) (lookup (nat_eq other) entries)) (ne_eqb other entry.0 (omega (arith, below, key)))
              ∙ none_under entries entry.0 other (sorted_head nat_cmp entry.0 (keys_of entries) sorted) (omega (arith, below, key));
        }
    at false out behind e =
        let less = inside_false from entry out in
        let r = behind e in
        record {
          above = r.above;
          there = ap (λ b. cond b (Some entry.1) (lookup (nat_eq conn) entries)) (ne_eqb conn entry.0 (omega (arith, less, r.above))) ∙ r.there;
          least = λ other above below. ap (λ b. cond b (Some entry.1) (lookup (nat_eq other) entries)) (ne_eqb other entry.0 (omega (arith, less, above))) ∙ r.least other above below;
        }

-- no connection is past the last number
pub none_past : (entries : Entries) (other : ℕ) → AllByRecursion IsOpen entries → 2 ^ 16 ≤ other → lookup (nat_eq other) entries ≡ None
none_past [] other all past = refl
none_past (entry ∷ entries) other all past =
    ap (λ b. cond b (Some entry.1) (lookup (nat_eq other) entries)) (ne_eqb other entry.0 (let less = all.0.conn in omega (arith, less, past))) ∙ none_past entries other all.1 past

pub none_open_past : (entries : Entries) (from : ℕ) → AreOpen entries → 65535 < from → IsLeastFrom from (lists_of entries) None
none_open_past entries from are far other above = no_list entries other (none_past entries other are.each (omega (arith, far, above)))

pub none_open_from : (entries range : Entries) (from : ℕ) → range ≡ filter (inside from) entries → range ≡ [] → IsLeastFrom from (lists_of entries) None
none_open_from entries range from is none other above = no_list entries other (none_from entries from (sym is ∙ none) other above)

pub least_open : (entries range : Entries) (from conn : ℕ) (list : List Change) (rest : Entries) → AreOpen entries → range ≡ filter (inside from) entries → range ≡ (conn, list) ∷ rest → IsLeastFrom from (lists_of entries) (Some conn)
least_open entries range from conn list rest are is begins =
    let f = first_is entries from conn list rest are.ascend (sym is ∙ begins) in
    (f.above, open_is_some entries conn list are.each f.there, λ other above below. no_list entries other (f.least other above below))

-- Bytes spell one list of connections with their changes.
use Rattle.std.proofs.Common.{◌≡◌, ◌≢◌, ℕ, ◌+◌, ◌<◌, ◌≤◌, ◌^◌, Some, Bor, List, [], ◌∷◌, ◌++◌, length, refl, sym, ◌∙◌, ap, subst, arith, append_assoc, length-append}
use Rattle.std.specs.List.{flat_map, AllByRecursion}
use Rattle.std.specs.List.Sorted.{IsStrictlySortedBy}
use Rattle.std.specs.Ordering.{nat_cmp}
use Rattle.std.specs.declared.cmp.Ordering.TheVariants.{Less}
use Rattle.std.specs.Map.{keys_of}
use Rattle.std.proofs.lemmas.Grind.{common_steps}
use Rattle.std.proofs.lemmas.List.{append-nil}
use Rattle.std.proofs.lemmas.Map.Keys.{sorted_head, sorted_tail, below_from_sorted}
use Rattle.wat_value.specs.declared.change.Change.{Change}
use Rattle.wat_value.specs.Encoding.{count_bytes}
use Rattle.wat_log_record.specs.declared.log_record.LogRecord.TheVariants.{Changed}
use Rattle.wat_log_record.specs.Encoding.{number_bytes, change_bytes, IsCount, IsNumber, IsEncodableChange, IsWritableChange}
use Rattle.wat_log_record.specs.Reading.{Begins, BeginsNone}
use Rattle.wat_log_record.proofs.Parts.{Cancels, items_cancel, stuck, item_more}
use Rattle.wat_log_record.proofs.Cancelling.{counts, numbers, changes, writable}
use Rattle.wat_replay.specs.State.{Lists, with_list}
use Rattle.wat_undo.specs.Kept.{lists_of, IsOpen, AreOpen}
use Rattle.wat_undo.specs.Payload.{AreChanges, entry_bytes, rollback_bytes, payload_of, IsEncodableEntry, AreEntries, AreAscending, BeginsLists, SpellsLists}
use Rattle.wat_undo.proofs.Keeping.{append_lists, empty_behind, sorted_none}

-- no change comes where another is wanted
pub no_changes : (bytes d : List ℕ) (xs : List Change) (count : ℕ) → bytes ≡ flat_map change_bytes xs ++ d → AllByRecursion IsEncodableChange xs → length xs < count
    → BeginsNone change_bytes IsEncodableChange d → BeginsNone (flat_map change_bytes) (AreChanges count) bytes
no_changes bytes d xs count is can few none ys all rest e =
    stuck change_bytes IsEncodableChange changes xs ys d rest can all.each (omega (arith, few, all.many)) (sym is ∙ e) none

-- so many changes, whatever stands behind them
pub changes_cancel : (count : ℕ) → Cancels (flat_map change_bytes) (AreChanges count)
changes_cancel count a b s t pa pb e = items_cancel change_bytes IsEncodableChange changes a b s t pa.each pb.each (pa.many ∙ sym pb.many) e

-- ---- a connection and its changes

pub no_entry_conn : (bytes : List ℕ) → BeginsNone count_bytes IsCount bytes → BeginsNone entry_bytes IsEncodableEntry bytes
no_entry_conn bytes none entry can rest e = none entry.0 can.conn ((number_bytes (length entry.1) ++ flat_map change_bytes entry.1) ++ rest) (e ∙ append_assoc (count_bytes entry.0) (number_bytes (length entry.1) ++ flat_map change_bytes entry.1) rest)

-- what stands behind the connection's number
behind_conn : (bytes r : List ℕ) (conn : ℕ) (entry : ℕ × List Change) (rest : List ℕ) → Begins count_bytes IsCount bytes conn r → IsEncodableEntry entry → bytes ≡ entry_bytes entry ++ rest
    → (conn ≡ entry.0) × (r ≡ number_bytes (length entry.1) ++ (flat_map change_bytes entry.1 ++ rest))
behind_conn bytes r conn entry rest a can e =
    let behind = number_bytes (length entry.1) ++ flat_map change_bytes entry.1 in
    let same = counts conn entry.0 r (behind ++ rest) a.can can.conn (sym a.spelled ∙ e ∙ append_assoc (count_bytes entry.0) behind rest) in
    (same.0, same.1 ∙ append_assoc (number_bytes (length entry.1)) (flat_map change_bytes entry.1) rest)

pub no_entry_count : (bytes r : List ℕ) (conn : ℕ) → Begins count_bytes IsCount bytes conn r → BeginsNone number_bytes IsNumber r → BeginsNone entry_bytes IsEncodableEntry bytes
no_entry_count bytes r conn a none entry can rest e =
    none (length entry.1) can.few (flat_map change_bytes entry.1 ++ rest) (behind_conn bytes r conn entry rest a can e).1

behind_count : (bytes r s : List ℕ) (conn count : ℕ) (entry : ℕ × List Change) (rest : List ℕ) → Begins count_bytes IsCount bytes conn r → Begins number_bytes IsNumber r count s → IsEncodableEntry entry → bytes ≡ entry_bytes entry ++ rest
    → (count ≡ length entry.1) × (s ≡ flat_map change_bytes entry.1 ++ rest)
behind_count bytes r s conn count entry rest a b can e =
    numbers count (length entry.1) s (flat_map change_bytes entry.1 ++ rest) b.can can.few (sym b.spelled ∙ (behind_conn bytes r conn entry rest a can e).1)

pub no_entry_changes : (bytes r s : List ℕ) (conn count : ℕ) → Begins count_bytes IsCount bytes conn r → Begins number_bytes IsNumber r count s → BeginsNone (flat_map change_bytes) (AreChanges count) s
    → BeginsNone entry_bytes IsEncodableEntry bytes
no_entry_changes bytes r s conn count a b none entry can rest e =
    let at = behind_count bytes r s conn count entry rest a b can e in
    none entry.1 (record { many = sym at.0; each = can.each }) rest at.1

pub entry_begins : (bytes r s t : List ℕ) (conn count : ℕ) (xs : List Change) → Begins count_bytes IsCount bytes conn r → Begins number_bytes IsNumber r count s → Begins (flat_map change_bytes) (AreChanges count) s xs t
    → Begins entry_bytes IsEncodableEntry bytes (conn, xs) t
entry_begins bytes r s t conn count xs a b c = record {
  spelled =
      a.spelled ∙ ap (λ l. count_bytes conn ++ l) (b.spelled ∙ ap (λ l. number_bytes count ++ l) c.spelled ∙ sym (append_assoc (number_bytes count) (flat_map change_bytes xs) t) ∙ ap (λ n. (number_bytes n ++ flat_map change_bytes xs) ++ t) (sym c.can.many))
      ∙ sym (append_assoc (count_bytes conn) (number_bytes (length xs) ++ flat_map change_bytes xs) t);
  can = record { conn = a.can; few = subst IsNumber (sym c.can.many) b.can; each = c.can.each };
}

pub entries_cancel : Cancels entry_bytes IsEncodableEntry
entries_cancel x y s t px py e =
    let xs = flat_map change_bytes x.1 ++ s in
    let conn = counts x.0 y.0 ((number_bytes (length x.1) ++ flat_map change_bytes x.1) ++ s) ((number_bytes (length y.1) ++ flat_map change_bytes y.1) ++ t) px.conn py.conn
    (sym (append_assoc (count_bytes x.0) (number_bytes (length x.1) ++ flat_map change_bytes x.1) s) ∙ e ∙ append_assoc (count_bytes y.0) (number_bytes (length y.1) ++ flat_map change_bytes y.1) t) in
    let count = numbers (length x.1) (length y.1) xs (flat_map change_bytes y.1 ++ t) px.few py.few
    (sym (append_assoc (number_bytes (length x.1)) (flat_map change_bytes x.1) s) ∙ conn.1 ∙ append_assoc (number_bytes (length y.1)) (flat_map change_bytes y.1) t) in
    let all = items_cancel change_bytes IsEncodableChange changes x.1 y.1 s t px.each py.each count.0 count.1 in
    ((λ i. (conn.0 i, all.0 i)), all.1)

-- ---- what was read can be written

change_writable : (change : Change) → IsEncodableChange change → IsWritableChange change
change_writable change can = writable (Changed 0 change) (omega arith, can)

all_writable : (xs : List Change) → AllByRecursion IsEncodableChange xs → AllByRecursion IsWritableChange xs
all_writable [] can = tt
all_writable (x ∷ xs) can = (change_writable x can.0, all_writable xs can.1)

-- what was read as one has one list
pub same_list : {B : Type 0} (a b : (ℕ × List Change) × B) → Some a ≡ Some b → a.0.1 ≡ b.0.1
same_list {B} a b e = let same : a ≡ b = cc in ap (λ (x : (ℕ × List Change) × B). x.0.1) same

pub same_rest : (a b : (ℕ × List Change) × Bor (List ℕ)) → Some a ≡ Some b → a.1.now ≡ b.1.now
same_rest a b e = let same : a ≡ b = cc in ap (λ (x : (ℕ × List Change) × Bor (List ℕ)). x.1.now) same

-- `list` and `kept` are two names of one list
pub open_read : (conn : ℕ) (list kept : List Change) → IsEncodableEntry (conn, list) → kept ≢ [] → list ≡ kept → IsOpen (conn, kept)
open_read conn list kept can some same =
    let P : List Change → Type 0 = λ l. IsOpen (conn, l) in
    subst P same (record { conn = can.conn; some = λ none. some (sym same ∙ none); few = can.few; writable = all_writable list can.each })

-- ---- connections with their changes, one behind another

abbrev pub Entries : Type 0
Entries = List (ℕ × List Change)

-- What stands where one more comes.
record Longer (xs ys : Entries) (d rest : List ℕ) : Type 0 where
  entry : ℕ × List Change
  more : Entries
  is : ys ≡ xs ++ entry ∷ more
  can : IsEncodableEntry entry
  next : d ≡ entry_bytes entry ++ (flat_map entry_bytes more ++ rest)

longer : (xs ys : Entries) (d rest : List ℕ) → AllByRecursion IsEncodableEntry xs → AllByRecursion IsEncodableEntry ys → length xs < length ys → flat_map entry_bytes xs ++ d ≡ flat_map entry_bytes ys ++ rest → Longer xs ys d rest
longer xs [] d rest px py less e = absurd (omega (arith, less))
longer [] (y ∷ ys) d rest px py less e = record { entry = y; more = ys; is = refl; can = py.0; next = e ∙ append_assoc (entry_bytes y) (flat_map entry_bytes ys) rest }
longer (x ∷ xs) (y ∷ ys) d rest px py less e =
    let first = entries_cancel x y (flat_map entry_bytes xs ++ d) (flat_map entry_bytes ys ++ rest) px.0 py.0
    (sym (append_assoc (entry_bytes x) (flat_map entry_bytes xs) d) ∙ e ∙ append_assoc (entry_bytes y) (flat_map entry_bytes ys) rest) in
    let l = longer xs ys d rest px.1 py.1 (omega (arith, less)) first.1 in
    record { entry = l.entry; more = l.more; is = (λ i. sym first.0 i ∷ l.is i); can = l.can; next = l.next }

-- What was read so far: so many entries, of connections below the next number; none below it may come behind them.
pub record ReadsLists (bytes : List ℕ) (lists : Lists) (rest : List ℕ) (next many : ℕ) : Type 0 where
  pub entries : Entries
  pub spelled : bytes ≡ flat_map entry_bytes entries ++ rest
  pub are : AreAscending many entries
  pub below : AllByRecursion (λ (k : ℕ). k < next) (keys_of entries)
  pub reached : (entry : ℕ × List Change) (more : Entries) → entry.0 < next → IsStrictlySortedBy nat_cmp (keys_of (entries ++ entry ∷ more)) → ⊥
  pub lists_are : lists ≡ lists_of entries

pub reads_none : (bytes : List ℕ) (lists : Lists) → lists ≡ lists_of [] → ReadsLists bytes lists bytes 0 0
reads_none bytes lists is = record {
  entries = [];
  spelled = refl;
  are = record { many = refl; each = tt; ascend = sorted_none };
  below = tt;
  reached = λ entry more less sorted. omega (arith, less);
  lists_are = is;
}

less : (a b : ℕ) → a < b → nat_cmp a b ≡ Less
less a b h = grind (arith, common_steps)

less_all : (k : ℕ) (ks : List ℕ) (top : ℕ) → AllByRecursion (λ (y : ℕ). nat_cmp k y ≡ Less) ks → k < top → AllByRecursion (λ (y : ℕ). nat_cmp k y ≡ Less) (ks ++ top ∷ [])
less_all k [] top all h = (less k top h, tt)
less_all k (x ∷ ks) top all h = (all.0, less_all k ks top all.1 h)

sorted_push : (ks : List ℕ) (top : ℕ) → IsStrictlySortedBy nat_cmp ks → AllByRecursion (λ (k : ℕ). k < top) ks → IsStrictlySortedBy nat_cmp (ks ++ top ∷ [])
unfolding IsStrictlySortedBy
sorted_push [] top sorted below = (tt, tt)
sorted_push (k ∷ ks) top sorted below = (less_all k ks top (sorted_head nat_cmp k ks sorted) below.0, sorted_push ks top (sorted_tail nat_cmp k ks sorted) below.1)

below_more : (ks : List ℕ) (a b : ℕ) → a ≤ b → AllByRecursion (λ (k : ℕ). k < a) ks → AllByRecursion (λ (k : ℕ). k < b) ks
below_more [] a b h all = tt
below_more (k ∷ ks) a b h all = (let here = all.0 in omega (arith, here, h), below_more ks a b h all.1)

below_push : (ks : List ℕ) (top : ℕ) → AllByRecursion (λ (k : ℕ). k < top) ks → AllByRecursion (λ (k : ℕ). k < top + 1) (ks ++ top ∷ [])
below_push [] top all = (omega arith, tt)
below_push (k ∷ ks) top all = (let here = all.0 in omega (arith, here), below_push ks top all.1)

keys_append : (xs : Entries) (entry : ℕ × List Change) → keys_of (xs ++ entry ∷ []) ≡ keys_of xs ++ entry.0 ∷ []
keys_append [] entry = refl
keys_append (x ∷ xs) entry = ap (λ ks. x.0 ∷ ks) (keys_append xs entry)

-- of two connections next to each other the second is above
rises : (xs : Entries) (a b : ℕ × List Change) (more : Entries) → IsStrictlySortedBy nat_cmp (keys_of ((xs ++ a ∷ []) ++ b ∷ more)) → a.0 < b.0
rises [] a b more sorted = below_from_sorted (a.0 ∷ b.0 ∷ keys_of more) 0 1 0 sorted (omega arith) (omega arith)
rises (x ∷ xs) a b more sorted = rises xs a b more (sorted_tail nat_cmp x.0 (keys_of ((xs ++ a ∷ []) ++ b ∷ more)) sorted)

each_more : (xs : Entries) (entry : ℕ × List Change) → AllByRecursion IsEncodableEntry xs → IsEncodableEntry entry → AllByRecursion IsEncodableEntry (xs ++ entry ∷ [])
each_more [] entry all one = (one, tt)
each_more (x ∷ xs) entry all one = (all.0, each_more xs entry all.1 one)

pub reads_more : (bytes : List ℕ) (old new : Lists) (d rest : List ℕ) (next many : ℕ) (entry : ℕ × List Change) → ReadsLists bytes old d next many → Begins entry_bytes IsEncodableEntry d entry rest → next ≤ entry.0 → new ≡ with_list entry.0 entry.1 old
    → ReadsLists bytes new rest (entry.0 + 1) (many + 1)
reads_more bytes old new d rest next many entry r b above is = record {
  entries = r.entries ++ entry ∷ [];
  spelled = item_more entry_bytes IsEncodableEntry entries_cancel bytes r.entries entry d rest r.spelled b.spelled;
  are = record {
    many = omega (arith, r.are.many, length-append r.entries (entry ∷ []));
    each = each_more r.entries entry r.are.each b.can;
    ascend = subst (IsStrictlySortedBy nat_cmp) (sym (keys_append r.entries entry)) (sorted_push (keys_of r.entries) entry.0 r.are.ascend under);
  };
  below = subst (AllByRecursion (λ (k : ℕ). k < entry.0 + 1)) (sym (keys_append r.entries entry)) (below_push (keys_of r.entries) entry.0 under);
  reached = λ other more smaller sorted. let rise = rises r.entries entry other more sorted in omega (arith, smaller, rise);
  lists_are = is ∙ ap (with_list entry.0 entry.1) r.lists_are ∙ sym (append_lists r.entries entry.0 entry.1 under);
}
  where
    under : AllByRecursion (λ (k : ℕ). k < entry.0) (keys_of r.entries)
    under = below_more (keys_of r.entries) next entry.0 above r.below

-- no connection comes where another is wanted
pub reads_no_more : (bytes : List ℕ) (lists : Lists) (d : List ℕ) (next many count : ℕ) → ReadsLists bytes lists d next many → many < count → BeginsNone entry_bytes IsEncodableEntry d → BeginsNone (flat_map entry_bytes) (AreAscending count) bytes
reads_no_more bytes lists d next many count r few none ys all rest e =
    stuck entry_bytes IsEncodableEntry entries_cancel r.entries ys d rest r.are.each all.each (omega (arith, few, all.many, r.are.many)) (sym r.spelled ∙ e) none

-- or one that isn't above
pub reads_no_rise : (bytes : List ℕ) (lists : Lists) (d rest : List ℕ) (next many count : ℕ) (entry : ℕ × List Change) → ReadsLists bytes lists d next many → many < count → Begins entry_bytes IsEncodableEntry d entry rest → entry.0 < next
    → BeginsNone (flat_map entry_bytes) (AreAscending count) bytes
reads_no_rise bytes lists d rest next many count entry r few b small ys all behind e =
    let l = longer r.entries ys d behind r.are.each all.each (omega (arith, few, all.many, r.are.many)) (sym r.spelled ∙ e) in
    let same = entries_cancel entry l.entry rest (flat_map entry_bytes l.more ++ behind) b.can l.can (sym b.spelled ∙ l.next) in
    r.reached l.entry l.more (subst (λ (x : ℕ × List Change). x.0 < next) same.0 small) (subst (λ (zs : Entries). IsStrictlySortedBy nat_cmp (keys_of zs)) l.is all.ascend)

pub reads_all : (bytes : List ℕ) (lists : Lists) (rest : List ℕ) (next many count : ℕ) → ReadsLists bytes lists rest next many → many ≡ count → BeginsLists count bytes lists rest
reads_all bytes lists rest next many count r is = record {
  entries = r.entries;
  begins = record { spelled = r.spelled; can = record { many = r.are.many ∙ is; each = r.are.each; ascend = r.are.ascend } };
  lists_are = r.lists_are;
}

-- ---- the whole payload

pub spells_lists : (payload r rest : List ℕ) (count : ℕ) (lists : Lists) → Begins count_bytes IsCount payload count r → BeginsLists count r lists rest → rest ≡ [] → SpellsLists payload lists
spells_lists payload r rest count lists a b none = record {
  entries = b.entries;
  are = record { few = subst IsCount (sym b.begins.can.many) a.can; each = b.begins.can.each; ascend = b.begins.can.ascend };
  bytes = a.spelled ∙ ap (λ l. count_bytes count ++ l) (b.begins.spelled ∙ ap (λ l. flat_map entry_bytes b.entries ++ l) none ∙ append-nil (flat_map entry_bytes b.entries)) ∙ ap (λ n. count_bytes n ++ flat_map entry_bytes b.entries) (sym b.begins.can.many);
  lists_are = b.lists_are;
}

pub none_without_count : (payload : List ℕ) → BeginsNone count_bytes IsCount payload → (lists : Lists) → SpellsLists payload lists → ⊥
none_without_count payload none lists s = none (length s.entries) s.are.few (flat_map entry_bytes s.entries) s.bytes

behind : (payload r : List ℕ) (count : ℕ) (lists : Lists) → Begins count_bytes IsCount payload count r → (s : SpellsLists payload lists) → (count ≡ length s.entries) × (r ≡ flat_map entry_bytes s.entries)
behind payload r count lists a s = counts count (length s.entries) r (flat_map entry_bytes s.entries) a.can s.are.few (sym a.spelled ∙ s.bytes)

pub none_behind : (payload r : List ℕ) (count : ℕ) → Begins count_bytes IsCount payload count r → BeginsNone (flat_map entry_bytes) (AreAscending count) r → (lists : Lists) → SpellsLists payload lists → ⊥
none_behind payload r count a none lists s =
    let at = behind payload r count lists a s in
    none s.entries (record { many = sym at.0; each = s.are.each; ascend = s.are.ascend }) [] (at.1 ∙ sym (append-nil (flat_map entry_bytes s.entries)))

pub none_longer : (payload r rest : List ℕ) (count : ℕ) (found : Lists) → Begins count_bytes IsCount payload count r → BeginsLists count r found rest → (rest ≡ [] → ⊥) → (lists : Lists) → SpellsLists payload lists → ⊥
none_longer payload r rest count found a b some lists s =
    let at = behind payload r count lists a s in
    some ((items_cancel entry_bytes IsEncodableEntry entries_cancel b.entries s.entries rest [] b.begins.can.each s.are.each (b.begins.can.many ∙ at.0) (sym b.begins.spelled ∙ at.1 ∙ sym (append-nil (flat_map entry_bytes s.entries)))).1)

-- where a connection comes without changes, the lists stay
pub same_when_empty : (bytes : List ℕ) (lists : Lists) (d : List ℕ) (next many conn : ℕ) (list : List Change) → ReadsLists bytes lists d next many → next ≤ conn → list ≡ [] → lists ≡ with_list conn list lists
same_when_empty bytes lists d next many conn list r above none =
    r.lists_are ∙ empty_behind r.entries conn list (below_more (keys_of r.entries) next conn above r.below) none ∙ ap (with_list conn list) (sym r.lists_are)

-- ---- the lists that are kept while a payload is read

-- What was read so far is kept: the lists that are not empty.
pub record ReadsTo (bytes : List ℕ) (undo : Entries) (rest : List ℕ) (next many : ℕ) : Type 0 where
  pub reads : ReadsLists bytes (lists_of undo) rest next many
  pub below : AllByRecursion (λ (k : ℕ). k < next) (keys_of undo)

pub starts : (bytes : List ℕ) (undo : Entries) → undo ≡ [] → ReadsTo bytes undo bytes 0 0
starts bytes undo none = record {
  reads = reads_none bytes (lists_of undo) (ap (λ (es : Entries). lists_of es) none);
  below = subst (λ (es : Entries). AllByRecursion (λ (k : ℕ). k < 0) (keys_of es)) (sym none) tt;
}

pub last_of_all : (undo : Entries) (next conn : ℕ) → AllByRecursion (λ (k : ℕ). k < next) (keys_of undo) → next ≤ conn → AllByRecursion (λ (k : ℕ). k < conn) (keys_of undo)
last_of_all undo next conn below above = below_more (keys_of undo) next conn above below

pub appends : (bytes : List ℕ) (old new : Entries) (d rest : List ℕ) (next after many conn : ℕ) (list kept : List Change) → ReadsTo bytes old d next many → Begins entry_bytes IsEncodableEntry d (conn, list) rest → next ≤ conn → after ≡ conn + 1
    → new ≡ old ++ (conn, kept) ∷ [] → list ≡ kept → ReadsTo bytes new rest after (many + 1)
appends bytes old new d rest next after many conn list kept r b above behind is same =
    let under = last_of_all old next conn r.below above in
    let added : new ≡ old ++ (conn, list) ∷ [] = is ∙ ap (λ (l : List Change). old ++ (conn, l) ∷ []) (sym same) in
    let P : ℕ → Type 0 = λ n. ReadsTo bytes new rest n (many + 1) in
    subst P (sym behind) (record {
      reads = reads_more bytes (lists_of old) (lists_of new) d rest next many (conn, list) r.reads b above (ap (λ (es : Entries). lists_of es) added ∙ append_lists old conn list under);
      below = subst (AllByRecursion (λ (k : ℕ). k < conn + 1)) (sym (ap (λ (es : Entries). keys_of es) added ∙ keys_append old (conn, list))) (below_push (keys_of old) conn under);
    })

-- a connection without changes
pub passes : (bytes : List ℕ) (old new : Entries) (d rest : List ℕ) (next after many conn : ℕ) (list kept : List Change) → ReadsTo bytes old d next many → Begins entry_bytes IsEncodableEntry d (conn, list) rest → next ≤ conn → after ≡ conn + 1 → kept ≡ [] → new ≡ old → list ≡ kept
    → ReadsTo bytes new rest after (many + 1)
passes bytes old new d rest next after many conn list kept r b above behind none is same = let P : ℕ → Type 0 = λ n. ReadsTo bytes new rest n (many + 1) in subst P (sym behind) (record {
  reads = reads_more bytes (lists_of old) (lists_of new) d rest next many (conn, list) r.reads b above
      (ap (λ (es : Entries). lists_of es) is ∙ same_when_empty bytes (lists_of old) d next many conn list r.reads above (same ∙ none));
  below = subst (λ (es : Entries). AllByRecursion (λ (k : ℕ). k < conn + 1) (keys_of es)) (sym is) (below_more (keys_of old) next (conn + 1) (omega (arith, above)) r.below);
})

-- ---- the payload that is written

-- What was written so far, and what is left of the entries.
pub record Writes (entries : Entries) (out : List ℕ) (rest : Entries) : Type 0 where
  pub spelled : out ++ flat_map entry_bytes rest ≡ rollback_bytes entries
  pub left : AllByRecursion IsOpen rest
  pub encodable : AllByRecursion IsEncodableEntry rest → AllByRecursion IsEncodableEntry entries

pub writes_none : (entries : Entries) (out : List ℕ) (rest : Entries) → out ≡ count_bytes (length entries) → rest ≡ entries → AllByRecursion IsOpen entries → Writes entries out rest
writes_none entries out rest is all are = record {
  spelled = ap (λ o. o ++ flat_map entry_bytes rest) is ∙ ap (λ (es : Entries). count_bytes (length entries) ++ flat_map entry_bytes es) all;
  left = subst (AllByRecursion IsOpen) (sym all) are;
  encodable = λ can. subst (AllByRecursion IsEncodableEntry) all can;
}

pub next_open : (entries : Entries) (out : List ℕ) (rest more : Entries) (x : ℕ × List Change) → Writes entries out rest → rest ≡ x ∷ more → IsOpen x
next_open entries out rest more x w is = (subst (AllByRecursion IsOpen) is w.left).0

pub writes_more : (entries : Entries) (out longer : List ℕ) (rest more : Entries) (x : ℕ × List Change) → Writes entries out rest → rest ≡ x ∷ more → longer ≡ out ++ entry_bytes x → IsEncodableEntry x → Writes entries longer more
writes_more entries out longer rest more x w is added can = record {
  spelled = ap (λ o. o ++ flat_map entry_bytes more) added ∙ append_assoc out (entry_bytes x) (flat_map entry_bytes more) ∙ ap (λ (es : Entries). out ++ flat_map entry_bytes es) (sym is) ∙ w.spelled;
  left = (subst (AllByRecursion IsOpen) is w.left).1;
  encodable = λ all. w.encodable (subst (AllByRecursion IsEncodableEntry) (sym is) (can, all));
}

some_payload : (entries : Entries) → entries ≢ [] → rollback_bytes entries ≡ payload_of entries
some_payload [] some = absurd (some refl)
some_payload (entry ∷ entries) some = refl

pub writes_all : (entries : Entries) (out : List ℕ) (rest : Entries) → Writes entries out rest → rest ≡ [] → entries ≢ [] → out ≡ payload_of entries
writes_all entries out rest w none some = sym (append-nil out) ∙ ap (λ (es : Entries). out ++ flat_map entry_bytes es) (sym none) ∙ w.spelled ∙ some_payload entries some

pub entries_are : (entries : Entries) (out : List ℕ) (rest : Entries) → Writes entries out rest → rest ≡ [] → length entries < 2 ^ 16 → AreOpen entries → AreEntries entries
entries_are entries out rest w none few are = record { few = few; each = w.encodable (subst (AllByRecursion IsEncodableEntry) (sym none) tt); ascend = are.ascend }

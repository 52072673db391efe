-- How the record of a disk in memory goes on.
use Rattle.std.proofs.Common.{◌≡◌, ◌≢◌, ◌⊎◌, inl, inr, ⊎_elim, ℕ, zero, suc, ◌+◌, ◌<◌, ◌≤◌, Bool, true, nat_le, List, [], ◌∷◌, ◌++◌, length, drop, set, get_or, refl, sym, ◌∙◌, ap, subst, arith, length-drop, length-append}
use Rattle.std.specs.Prelude.{◌==◌, if◌then◌else◌, ◌↔◌, Vec, All, Result, Ok, Err, IfOk}
use Rattle.std.specs.List.{AllByRecursion}
use Rattle.std.specs.declared.alloc.Global.{Global}
use Rattle.std.proofs.lemmas.Bool.{cases_eq, cases_lt, cases_order, le-leb, lt-leb, eq-eqb, ne_eqb, MatchBool-at_true, MatchBool-at_false}
use Rattle.std.proofs.lemmas.List.{take-append-le, drop-append-le}
use Rattle.std.proofs.lemmas.List.Elements.{recursion_from_All, All-from_recursion, All-push}
use Rattle.wat_disk.specs.declared.memory.Entry.{Entry}
use Rattle.wat_disk.specs.declared.memory.Deed.{Deed}
use Rattle.wat_disk.specs.declared.memory.Deed.TheVariants.{Write, Sync}
use Rattle.wat_disk.specs.Acts.{Act, Wrote, Synced, content_after, LeftAfter}
use Rattle.wat_disk.specs.LeftProofs.{content_is_left}
use Rattle.wat_disk.specs.Bytes.{written, Torn}
use Rattle.wat_disk.specs.Disk.{Image, Told, Leaves, InFile, SameFiles, EachStop, StillLeaves, IsSynced}
use Rattle.wat_disk.proofs.Writes.{torn_same}
use Rattle.wat_disk.proofs.Stops.{weaker}
use Rattle.wat_disk.specs.Memory.{bytes_at, count_of, act_of, acts_until, told_by}
use Rattle.wat_disk.specs.Kept.{count_all, IsUsable, IsRecord}

pub bytes_at-set_same : (files : List (Vec ℕ Global)) (i : ℕ) (held : Vec ℕ Global) → i < length files → bytes_at (set files i held) i ≡ held.items
bytes_at-set_same [] i held short = absurd (omega arith)
bytes_at-set_same (file ∷ files) zero held short = refl
bytes_at-set_same (file ∷ files) (suc i) held short = bytes_at-set_same files i held (omega arith)

pub bytes_at-set_other : (files : List (Vec ℕ Global)) (i f : ℕ) (held : Vec ℕ Global) → f ≢ i → bytes_at (set files i held) f ≡ bytes_at files f
bytes_at-set_other [] i f held not_it = refl
bytes_at-set_other (file ∷ files) zero zero held not_it = absurd (not_it refl)
bytes_at-set_other (file ∷ files) zero (suc f) held not_it = refl
bytes_at-set_other (file ∷ files) (suc i) zero held not_it = refl
bytes_at-set_other (file ∷ files) (suc i) (suc f) held not_it = bytes_at-set_other files i f held (λ (same : f ≡ i). not_it (ap (λ (n : ℕ). suc n) same))

-- the act that was written first is not touched by more bytes
act_of-append : (file : ℕ) (deed : Deed) (bytes more : List ℕ) → count_of deed ≤ length bytes → act_of file deed (bytes ++ more) ≡ act_of file deed bytes
act_of-append file (Write at count) bytes more within = ap (λ (l : List ℕ). Wrote file at l) (take-append-le count bytes more within)
act_of-append file Sync bytes more within = refl

-- An act of a later moment is none of those up to this one.
pub until_before : (t : ℕ) (earlier : List Act) (entries : List Entry) (entry : Entry) (bytes more : List ℕ) → t < entry.moment → length bytes ≡ count_all entries
    → acts_until t earlier (entries ++ entry ∷ []) (bytes ++ more) ≡ acts_until t earlier entries bytes
until_before t earlier [] entry bytes more later kept =
    ap (λ (b : Bool). if b then act_of entry.file entry.deed (bytes ++ more) ∷ earlier else earlier) (lt-leb entry.moment t later)
until_before t earlier (first ∷ entries) entry bytes more later kept =
    let count = count_of first.deed in
    let within : count ≤ length bytes = omega arith in
    let head : act_of first.file first.deed (bytes ++ more) ≡ act_of first.file first.deed bytes = act_of-append first.file first.deed bytes more within in
    let rest : drop count (bytes ++ more) ≡ drop count bytes ++ more = drop-append-le count bytes more within in
    (λ i. acts_until t (if nat_le first.moment t then head i ∷ earlier else earlier) (entries ++ entry ∷ []) (rest i))
    ∙ until_before t (if nat_le first.moment t then act_of first.file first.deed bytes ∷ earlier else earlier) entries entry (drop count bytes) more later (omega (arith, length-drop count bytes))

-- the newest act is the first
pub until_now : (t : ℕ) (earlier : List Act) (entries : List Entry) (entry : Entry) (bytes more : List ℕ) → entry.moment ≤ t → length bytes ≡ count_all entries
    → acts_until t earlier (entries ++ entry ∷ []) (bytes ++ more) ≡ act_of entry.file entry.deed more ∷ acts_until t earlier entries bytes
until_now t earlier [] entry [] more past kept =
    ap (λ (b : Bool). if b then act_of entry.file entry.deed more ∷ earlier else earlier) (le-leb entry.moment t past)
until_now t earlier [] entry (byte ∷ bytes) more past kept = absurd (omega arith)
until_now t earlier (first ∷ entries) entry bytes more past kept =
    let count = count_of first.deed in
    let within : count ≤ length bytes = omega arith in
    let head : act_of first.file first.deed (bytes ++ more) ≡ act_of first.file first.deed bytes = act_of-append first.file first.deed bytes more within in
    let rest : drop count (bytes ++ more) ≡ drop count bytes ++ more = drop-append-le count bytes more within in
    (λ i. acts_until t (if nat_le first.moment t then head i ∷ earlier else earlier) (entries ++ entry ∷ []) (rest i))
    ∙ until_now t (if nat_le first.moment t then act_of first.file first.deed bytes ∷ earlier else earlier) entries entry (drop count bytes) more past (omega (arith, length-drop count bytes))

-- After the last act nothing changes.
until_same : (t m : ℕ) (earlier : List Act) (entries : List Entry) (bytes : List ℕ) → AllByRecursion (λ (entry : Entry). entry.moment ≤ m) entries → m ≤ t
    → acts_until t earlier entries bytes ≡ acts_until m earlier entries bytes
until_same t m earlier [] bytes past later = refl
until_same t m earlier (first ∷ entries) bytes past later =
    let newer = act_of first.file first.deed bytes ∷ earlier in
    let at_t : nat_le first.moment t ≡ true = le-leb first.moment t (omega (arith, past.0, later)) in
    let at_m : nat_le first.moment m ≡ true = le-leb first.moment m past.0 in
    ap (λ (b : Bool). acts_until t (if b then newer else earlier) entries (drop (count_of first.deed) bytes)) at_t
    ∙ until_same t m newer entries (drop (count_of first.deed) bytes) past.1 later
    ∙ ap (λ (b : Bool). acts_until m (if b then newer else earlier) entries (drop (count_of first.deed) bytes)) (sym at_m)

pub until_later : (t m : ℕ) (entries : List Entry) (bytes : List ℕ) → All (λ (entry : Entry). entry.moment ≤ m) entries → m ≤ t → acts_until t [] entries bytes ≡ acts_until m [] entries bytes
until_later t m entries bytes past later = until_same t m [] entries bytes (recursion_from_All (λ (entry : Entry). entry.moment ≤ m) entries past) later

pub bytes_at-read : (files : List (Vec ℕ Global)) (i : ℕ) (held : Vec ℕ Global) → i < length files → held ≡ get_or files i held → bytes_at files i ≡ held.items
bytes_at-read [] i held short is = absurd (omega arith)
bytes_at-read (file ∷ files) zero held short is = ap (λ (v : Vec ℕ Global). v.items) (sym is)
bytes_at-read (file ∷ files) (suc i) held short is = bytes_at-read files i held (omega arith) is

-- a write to one file, by whether it is the file that is looked at
pub bytes_at-set : (files : List (Vec ℕ Global)) (i : ℕ) (held : Vec ℕ Global) (new : ℕ → List ℕ) → i < length files → held.items ≡ new i → (f : ℕ) → bytes_at (set files i held) f ≡ (if f == i then new f else bytes_at files f)
bytes_at-set files i held new short is f = ⊎_elim
    (λ (same : f ≡ i). ap (bytes_at (set files i held)) same ∙ bytes_at-set_same files i held short ∙ is ∙ ap new (sym same) ∙ ap (λ (b : Bool). if b then new f else bytes_at files f) (sym (eq-eqb f i same)))
    (λ (other : f ≢ i). bytes_at-set_other files i f held other ∙ ap (λ (b : Bool). if b then new f else bytes_at files f) (sym (ne_eqb f i other)))
    (cases_eq f i)

pub if_ok-more : {T E : Type 0} (P Q : T → Type 0) (r : Result T E) → ((x : T) → P x → Q x) → IfOk r P → IfOk r Q
if_ok-more P Q (Ok x) more is = more x is
if_ok-more P Q (Err e) more is = tt

-- the step of a call is told of the record
module _ (base : List (Vec ℕ Global)) (entries : List Entry) (bytes : List ℕ) (moment : ℕ) (past : All (λ (entry : Entry). entry.moment ≤ moment) entries) where
  -- a call that does nothing
  pub counts_on : (files same : List (Vec ℕ Global)) (faults more : ℕ) → EachStop (told_by base files entries bytes moment faults) (told_by base same entries bytes (moment + 1) more) SameFiles
  counts_on files same faults more = record {
    later = omega arith;
    past = λ t image to. (λ left. left, λ left. left);
    each = λ t image from to left.
        (image, (λ file. subst (λ (acts : List Act). LeftAfter (bytes_at base) acts file (image file)) (until_later t moment entries bytes past from) (left file)), (λ file. refl));
  }

  -- a call that isn't made any more
  pub stays_on : (files same : List (Vec ℕ Global)) (faults more : ℕ) → EachStop (told_by base files entries bytes moment faults) (told_by base same entries bytes moment more) SameFiles
  stays_on files same faults more = record {
    later = omega arith;
    past = λ t image to. (λ left. left, λ left. left);
    each = λ t image from to left.
        (image, (λ file. subst (λ (acts : List Act). LeftAfter (bytes_at base) acts file (image file)) (until_later t moment entries bytes past from) (left file)), (λ file. refl));
  }

  -- such a call leaves what may be left
  pub still_left : (files same : List (Vec ℕ Global)) (faults more later : ℕ) → moment ≤ later → StillLeaves (told_by base files entries bytes moment faults) (told_by base same entries bytes later more)
  still_left files same faults more later le image left file =
      subst (λ (acts : List Act). LeftAfter (bytes_at base) acts file (image file)) (sym (until_later later moment entries bytes past le)) (left file)

  module _ (kept : length bytes ≡ count_all entries) (more : List ℕ) (new_entry : Entry) (stamp : new_entry.moment ≡ moment + 1) (files new_files : List (Vec ℕ Global)) (faults new_faults : ℕ) where
    -- up to the call all is as it was
    as_it_was : (t : ℕ) → t ≤ moment → acts_until t [] (entries ++ new_entry ∷ []) (bytes ++ more) ≡ acts_until t [] entries bytes
    as_it_was t to = until_before t [] entries new_entry bytes more (omega (arith, stamp, to)) kept

    newest : (t : ℕ) → moment < t → acts_until t [] (entries ++ new_entry ∷ []) (bytes ++ more) ≡ act_of new_entry.file new_entry.deed more ∷ acts_until moment [] entries bytes
    newest t from =
        until_now t [] entries new_entry bytes more (omega (arith, stamp, from)) kept
        ∙ ap (λ (acts : List Act). act_of new_entry.file new_entry.deed more ∷ acts) (until_later t moment entries bytes past (omega arith))

    abbrev old : Told
    old = told_by base files entries bytes moment faults

    abbrev new : Told
    new = told_by base new_files (entries ++ new_entry ∷ []) (bytes ++ more) (moment + 1) new_faults

    abbrev acts : List Act
    acts = acts_until moment [] entries bytes

    past_stays : (t : ℕ) (image : Image) → t ≤ moment → new.left_at t image ↔ old.left_at t image
    past_stays t image to = (
      λ left f. subst (λ (a : List Act). LeftAfter (bytes_at base) a f (image f)) (as_it_was t to) (left f),
      λ left f. subst (λ (a : List Act). LeftAfter (bytes_at base) a f (image f)) (sym (as_it_was t to)) (left f),
    )

    -- the moments of the call are the one before it and the one after it
    two : (t : ℕ) → moment ≤ t → (t ≡ moment) ⊎ (moment < t)
    two t from = ⊎_elim (λ same. inl same) (λ other. ⊎_elim (λ less. absurd (omega arith)) (λ more_than. inr more_than) other) (cases_order t moment)

    first_moment : (t : ℕ) (image : Image) → t ≡ moment → new.left_at t image → Leaves old image
    first_moment t image same left = subst (λ (s : ℕ). old.left_at s image) same ((past_stays t image (omega arith)).0 left)

    newest_left : (a : Act) → act_of new_entry.file new_entry.deed more ≡ a → (t : ℕ) (image : Image) → moment < t → new.left_at t image → (f : ℕ) → LeftAfter (bytes_at base) (a ∷ acts) f (image f)
    newest_left a is t image now left f = subst (λ (l : List Act). LeftAfter (bytes_at base) l f (image f)) (newest t now ∙ ap (λ (b : Act). b ∷ acts) is) (left f)

    pub write_stops : (file at : ℕ) → act_of new_entry.file new_entry.deed more ≡ Wrote file at more → EachStop old new (InFile file (Torn at (length more)))
    write_stops file at is = record {
      later = omega arith;
      past = past_stays;
      each = λ t image from to left. ⊎_elim
          (λ (same : t ≡ moment). (image, first_moment t image same left, record { changed = torn_same at (length more) (image file); others = λ other not_it. refl }))
          (λ (now : moment < t).
          let step = newest_left (Wrote file at more) is t image now left in
          let here = MatchBool-at_true _ _ (eq-eqb file file refl) (step file) in (
            λ f. if f == file then here.0 else image f,
            λ f. ⊎_elim
                (λ (it : f ≡ file).
                subst (λ (b : Bool). LeftAfter (bytes_at base) acts f (if b then here.0 else image f)) (sym (eq-eqb f file it))
                (subst (λ (g : ℕ). LeftAfter (bytes_at base) acts g here.0) (sym it) here.1))
                (λ (other : f ≢ file).
                subst (λ (b : Bool). LeftAfter (bytes_at base) acts f (if b then here.0 else image f)) (sym (ne_eqb f file other))
                (MatchBool-at_false _ _ (ne_eqb f file other) (step f)))
                (cases_eq f file),
            record {
              changed = subst (λ (b : Bool). Torn at (length more) (if b then here.0 else image file) (image file)) (sym (eq-eqb file file refl)) here.2;
              others = λ other not_it. ap (λ (b : Bool). if b then here.0 else image other) (sym (ne_eqb other file not_it));
            },
          ))
          (two t from);
    }

    pub sync_stops : (file : ℕ) → act_of new_entry.file new_entry.deed more ≡ Synced file → EachStop old new SameFiles
    sync_stops file is = record {
      later = omega arith;
      past = past_stays;
      each = λ t image from to left. ⊎_elim
          (λ (same : t ≡ moment). (image, first_moment t image same left, (λ f. refl)))
          (λ (now : moment < t).
          let step = newest_left (Synced file) is t image now left in (
            image,
            λ f. ⊎_elim
                (λ (it : f ≡ file). subst (LeftAfter (bytes_at base) acts f) (sym (MatchBool-at_true _ _ (eq-eqb f file it) (step f))) (content_is_left (bytes_at base) acts f))
                (λ (other : f ≢ file). MatchBool-at_false _ _ (ne_eqb f file other) (step f))
                (cases_eq f file),
            λ f. refl,
          ))
          (two t from);
    }

    pub is_synced : (file : ℕ) → act_of new_entry.file new_entry.deed more ≡ Synced file → bytes_at new_files file ≡ content_after (bytes_at base) acts file → IsSynced new file
    is_synced file is replayed image left =
        MatchBool-at_true _ _ (eq-eqb file file refl) (newest_left (Synced file) is (moment + 1) image (omega arith) left file) ∙ sym replayed

count_all-push : (entries : List Entry) (entry : Entry) → count_all (entries ++ entry ∷ []) ≡ count_all entries + count_of entry.deed
count_all-push [] entry = omega arith
count_all-push (first ∷ entries) entry = omega (arith, count_all-push entries entry)

later_too : (entries : List Entry) (m : ℕ) → AllByRecursion (λ (entry : Entry). entry.moment ≤ m) entries → AllByRecursion (λ (entry : Entry). entry.moment ≤ m + 1) entries
later_too [] m all = tt
later_too (first ∷ entries) m all = (omega (arith, all.0), later_too entries m all.1)

-- the acts up to the next moment are past then
past_later : (entries : List Entry) (m : ℕ) → All (λ (entry : Entry). entry.moment ≤ m) entries → All (λ (entry : Entry). entry.moment ≤ m + 1) entries
past_later entries m all = All-from_recursion (λ (entry : Entry). entry.moment ≤ m + 1) entries (later_too entries m (recursion_from_All (λ (entry : Entry). entry.moment ≤ m) entries all))

pub record_counts : (base files : List (Vec ℕ Global)) (entries : List Entry) (bytes : List ℕ) (moment : ℕ) → IsRecord base files entries bytes moment → IsRecord base files entries bytes (moment + 1)
record_counts base files entries bytes moment is = record {
  past = past_later entries moment is.past;
  usable = is.usable;
  kept = is.kept;
  replayed = λ f. is.replayed f ∙ ap (λ (acts : List Act). content_after (bytes_at base) acts f) (sym (until_later (moment + 1) moment entries bytes is.past (omega arith)));
  eight = is.eight;
  base_eight = is.base_eight;
}

-- A call that adds an entry.
module _ (base files new_files : List (Vec ℕ Global)) (entries new_entries : List Entry) (bytes more new_bytes : List ℕ) (moment faults : ℕ) (is : IsRecord base files entries bytes moment)
    (entry : Entry) (stamp : entry.moment ≡ moment + 1) (entries_are : new_entries ≡ entries ++ entry ∷ []) (bytes_are : new_bytes ≡ bytes ++ more) where
  abbrev before : List Act
  before = acts_until moment [] entries bytes

  abbrev told : List Entry → List ℕ → Told
  told es bs = told_by base new_files es bs (moment + 1) faults

  pub record_adds : IsUsable entry → length more ≡ count_of entry.deed → length new_files ≡ 8 → ((f : ℕ) → bytes_at new_files f ≡ content_after (bytes_at base) (act_of entry.file entry.deed more ∷ before) f) → IsRecord base new_files new_entries new_bytes (moment + 1)
  record_adds can_use long eight replays =
      subst (λ (es : List Entry). IsRecord base new_files es new_bytes (moment + 1)) (sym entries_are)
      (subst (λ (bs : List ℕ). IsRecord base new_files (entries ++ entry ∷ []) bs (moment + 1)) (sym bytes_are)
      (record {
        past = All-push (λ (e : Entry). e.moment ≤ moment + 1) entries entry (past_later entries moment is.past) (omega (arith, stamp));
        usable = All-push IsUsable entries entry is.usable can_use;
        kept = omega (arith, length-append bytes more, is.kept, long, count_all-push entries entry);
        replayed = λ f. replays f ∙ ap (λ (acts : List Act). content_after (bytes_at base) acts f)
            (sym (until_now (moment + 1) [] entries entry bytes more (omega (arith, stamp)) is.kept
            ∙ ap (λ (acts : List Act). act_of entry.file entry.deed more ∷ acts) (until_later (moment + 1) moment entries bytes is.past (omega arith))));
        eight = eight;
        base_eight = is.base_eight;
      }))

  pub write_adds : (file at : ℕ) → act_of entry.file entry.deed more ≡ Wrote file at more
      → EachStop (told_by base files entries bytes moment faults) (told_by base new_files new_entries new_bytes (moment + 1) faults) (InFile file (Torn at (length more)))
  write_adds file at wrote =
      subst (λ (es : List Entry). EachStop (told_by base files entries bytes moment faults) (told es new_bytes) (InFile file (Torn at (length more)))) (sym entries_are)
      (subst (λ (bs : List ℕ). EachStop (told_by base files entries bytes moment faults) (told (entries ++ entry ∷ []) bs) (InFile file (Torn at (length more)))) (sym bytes_are)
      (write_stops base entries bytes moment is.past is.kept more entry stamp files new_files faults faults file at wrote))

  pub sync_adds : (file : ℕ) → act_of entry.file entry.deed more ≡ Synced file
      → EachStop (told_by base files entries bytes moment faults) (told_by base new_files new_entries new_bytes (moment + 1) faults) SameFiles
  sync_adds file synced =
      subst (λ (es : List Entry). EachStop (told_by base files entries bytes moment faults) (told es new_bytes) SameFiles) (sym entries_are)
      (subst (λ (bs : List ℕ). EachStop (told_by base files entries bytes moment faults) (told (entries ++ entry ∷ []) bs) SameFiles) (sym bytes_are)
      (sync_stops base entries bytes moment is.past is.kept more entry stamp files new_files faults faults file synced))

  pub sync_is_synced : (file : ℕ) → act_of entry.file entry.deed more ≡ Synced file → bytes_at new_files file ≡ bytes_at files file → IsSynced (told_by base new_files new_entries new_bytes (moment + 1) faults) file
  sync_is_synced file synced same =
      subst (λ (es : List Entry). IsSynced (told es new_bytes) file) (sym entries_are)
      (subst (λ (bs : List ℕ). IsSynced (told (entries ++ entry ∷ []) bs) file) (sym bytes_are)
      (is_synced base entries bytes moment is.past is.kept more entry stamp files new_files faults faults file synced (same ∙ is.replayed file)))

-- what a write makes of the record's files
pub replays_write : (base files new_files : List (Vec ℕ Global)) (so_far : List Act) (file at : ℕ) (more : List ℕ) → ((f : ℕ) → bytes_at files f ≡ content_after (bytes_at base) so_far f)
    → ((f : ℕ) → bytes_at new_files f ≡ (if f == file then written (bytes_at files f) at more else bytes_at files f))
    → (f : ℕ) → bytes_at new_files f ≡ content_after (bytes_at base) (Wrote file at more ∷ so_far) f
replays_write base files new_files so_far file at more were are f = are f ∙ (λ i. if f == file then written (were f i) at more else were f i)

-- A write that has failed and changed nothing is one that was cut short.
pub same_in_file : (file at n : ℕ) (old new : Told) → EachStop old new SameFiles → EachStop old new (InFile file (Torn at n))
same_in_file file at n old new stops = weaker old new SameFiles (InFile file (Torn at n)) stops
    (λ before image left same. record { changed = subst (Torn at n (before file)) (sym (same file)) (torn_same at n (before file)); others = λ other not_it. same other })

pub bytes_at-past : (files : List (Vec ℕ Global)) (f : ℕ) → length files ≤ f → bytes_at files f ≡ []
bytes_at-past [] f past = refl
bytes_at-past (file ∷ files) zero past = absurd (omega arith)
bytes_at-past (file ∷ files) (suc f) past = bytes_at-past files f (omega arith)

bytes_at-push_left : (files : List (Vec ℕ Global)) (held : Vec ℕ Global) (f : ℕ) → f < length files → bytes_at (files ++ held ∷ []) f ≡ bytes_at files f
bytes_at-push_left [] held f short = absurd (omega arith)
bytes_at-push_left (file ∷ files) held zero short = refl
bytes_at-push_left (file ∷ files) held (suc f) short = bytes_at-push_left files held f (omega arith)

bytes_at-push_last : (files : List (Vec ℕ Global)) (held : Vec ℕ Global) (f : ℕ) → f ≡ length files → bytes_at (files ++ held ∷ []) f ≡ held.items
bytes_at-push_last [] held zero is = refl
bytes_at-push_last [] held (suc f) is = absurd (omega arith)
bytes_at-push_last (file ∷ files) held zero is = absurd (omega arith)
bytes_at-push_last (file ∷ files) held (suc f) is = bytes_at-push_last files held f (omega arith)

-- one copy more
pub copies_more : (files copies new : List (Vec ℕ Global)) (held : Vec ℕ Global) (i : ℕ) → new ≡ copies ++ held ∷ [] → length copies ≡ i → held.items ≡ bytes_at files i
    → ((f : ℕ) → f < i → bytes_at copies f ≡ bytes_at files f) → (f : ℕ) → f < i + 1 → bytes_at new f ≡ bytes_at files f
copies_more files copies new held i is count same so_far f below =
    ap (λ (l : List (Vec ℕ Global)). bytes_at l f) is ∙ ⊎_elim
    (λ (here : f ≡ i). bytes_at-push_last copies held f (here ∙ sym count) ∙ same ∙ ap (bytes_at files) (sym here))
    (λ (other : f ≢ i). bytes_at-push_left copies held f (omega (arith, other, below, count)) ∙ so_far f (omega (arith, other, below)))
    (cases_eq f i)

pub copies_all : (files copies : List (Vec ℕ Global)) → length files ≤ 8 → length copies ≡ 8 → ((f : ℕ) → f < 8 → bytes_at copies f ≡ bytes_at files f) → (f : ℕ) → bytes_at copies f ≡ bytes_at files f
copies_all files copies few eight same f = ⊎_elim (same f) (λ (past : 8 ≤ f). bytes_at-past copies f (omega arith) ∙ sym (bytes_at-past files f (omega arith))) (cases_lt f 8)

-- The pages now, as they are read, and as the next checkpoint has them.
use Rattle.std.proofs.Common.{◌≡◌, ◌≢◌, inl, inr, ⊎_elim, ℕ, ◌+◌, ◌*◌, ◌<◌, ◌≤◌, Bool, true, false, List, [], ◌∷◌, ◌++◌, length, take, drop, Option, Some, None, refl, sym, ◌∙◌, ap, subst, arith, length-drop}
use Rattle.std.specs.Prelude.{nat_eq, nat_lt, ◌==◌, ◌&&◌, if◌then◌else◌, cond, MatchOption, IsSome, ◌||◌, unwrap_or, Result, Ok, Err, OnOk, OnErr}
use Rattle.std.specs.List.{flat_map, list_any, AllByRecursion, IsDistinct}
use Rattle.std.specs.List.Sorted.{IsStrictlySortedBy}
use Rattle.std.specs.Ordering.{nat_cmp, match_ordering}
use Rattle.std.specs.declared.cmp.Ordering.{Ordering}
use Rattle.std.specs.declared.cmp.Ordering.TheVariants.{Less, Equal, Greater}
use Rattle.std.specs.BTreeMap.{BTreeMap, get, insert_entry, Updates}
use Rattle.std.specs.Cmp.{nat_eq_equiv}
use Rattle.std.specs.Map.{lookup, keys_of}
use Rattle.std.proofs.lemmas.Bool.{cases_eq, cases_lt, eq-eqb, ne_eqb}
use Rattle.std.proofs.lemmas.List.{map-append, length-take}
use Rattle.std.proofs.lemmas.List.Elements.{recursion_from_All, All-from_recursion}
use Rattle.std.proofs.lemmas.Map.Keys.{IsDistinct-push}
use Rattle.wat_disk.specs.Disk.{Image, Told, Leaves, SameFiles, EachStop}
use Rattle.wat_disk.proofs.Stops.{weaker, goes_on, synced_same}
use Rattle.wat_gate.specs.Bodies.{bodies, IsWhole}
use Rattle.wat_gate.specs.GateLog.{file_of, frames_of, IsLogOf}
use Rattle.wat_gate.specs.declared.gate_log.GateLog.{GateLog}
use Rattle.wat_restore.specs.Head.{Head, head_bytes}
use Rattle.wat_restore.specs.Images.{AllWhole}
use Rattle.wat_restore.specs.Opening.{IsMissing, IsHeadIn}
use Rattle.wat_restore.specs.Restored.{page_at, HasPage, laid, images_of, images_in, image_of, StandsIn, stored_page, Checkpoint, IsCovered}
use Rattle.wat_restore.specs.Safe.{IsSafe, Covers, CoversEither, HasPages}
use Rattle.wat_restore.proofs.Laid.{laid_page}
use Rattle.wat_restore.proofs.Covering.{whole-append, covered_same}
use Rattle.wat_restore.proofs.Heads.{stands_is}
use Rattle.wat_images.specs.Reading.{SameImages}
use Rattle.wat_images.specs.Refusal.{IfDamaged}
use Rattle.wat_images.specs.declared.refusal.PageRefusal.{PageRefusal}
use Rattle.wat_images.proofs.Maps.{get_is, updates_is, whole_insert}
use Rattle.wat_images.proofs.Sequence.{distinct_sorted}
use Rattle.wat_images.proofs.Writing.{if_damaged, stands_imaged, stands_main}
use Rattle.wat_book.specs.Book.{Book, Owners, nobody, section, next_in, IsFreePage, IsFreeChain}
use borrow.Author.Tests.{ltb-true}
use Rattle.wat_pages.specs.declared.pages.Pages.{Pages}
use Rattle.wat_pages.specs.declared.header.Header.{Header}
use Rattle.wat_pages.specs.Held.{AreChanged}
use Rattle.wat_pages.specs.Pages.{page_in, next_head, next_checkpoint}

last_other : (page q : ℕ) (h : List ℕ) (entries : List (ℕ × List ℕ)) → page ≢ q → lookup (nat_eq page) (entries ++ (q, h) ∷ []) ≡ lookup (nat_eq page) entries
last_other page q h [] other = ap (λ (b : Bool). cond b (Some h) None) (ne_eqb page q other)
last_other page q h (entry ∷ entries) other = ap (λ (o : Option (List ℕ)). cond (nat_eq page entry.0) (Some entry.1) o) (last_other page q h entries other)

both_false : (b c : Bool) → (b || c) ≡ false → (b ≡ false) × (c ≡ false)
both_false true c is = cc
both_false false c is = (refl, is)

last_same : (page : ℕ) (h : List ℕ) (entries : List (ℕ × List ℕ)) → list_any (nat_eq page) (keys_of entries) ≡ false → lookup (nat_eq page) (entries ++ (page, h) ∷ []) ≡ Some h
last_same page h [] none = ap (λ (b : Bool). cond b (Some h) None) (eq-eqb page page refl)
last_same page h (entry ∷ entries) none =
    let tests = both_false (nat_eq page entry.0) (list_any (nat_eq page) (keys_of entries)) none in
    ap (λ (b : Bool). cond b (Some entry.1) (lookup (nat_eq page) (entries ++ (page, h) ∷ []))) tests.0 ∙ last_same page h entries tests.1

there_now : (page : ℕ) (main : List ℕ) (o : Option (List ℕ)) → (o ≡ None → 4096 * page + 4096 ≤ length main)
    → MatchOption o (HasPage main page (unwrap_or o (page_at main page))) (λ image. image ≡ unwrap_or o (page_at main page))
there_now page main None whole = record { whole = whole refl; is = refl }
there_now page main (Some bytes) whole = refl

none_some : (o : Option (List ℕ)) → o ≡ None → IsSome o → ⊥
none_some None is some = cc
none_some (Some bytes) is some = cc

-- ---- the bytes of a page now

-- pages with the same changes have the same bytes
pub page_by : (told : Told) (a b : Pages) → b.changed.entries ≡ a.changed.entries → (page : ℕ) → page_in told b page ≡ page_in told a page
unfolding page_in
page_by told a b same page = ap (λ entries. unwrap_or (lookup (nat_eq page) entries) (stored_page told.content page)) same

same_stored : (old new : Image) → SameFiles old new → (page : ℕ) → stored_page new page ≡ stored_page old page
same_stored old new same page i = unwrap_or (lookup (nat_eq page) (images_in (same 1 i))) (page_at (same 0 i) page)

-- and so while the files read as before
pub page_same : (old new : Told) (a b : Pages) → SameFiles old.content new.content → b.changed.entries ≡ a.changed.entries → (page : ℕ) → page_in new b page ≡ page_in old a page
unfolding page_in
page_same old new a b files same page i = unwrap_or (lookup (nat_eq page) (same i)) (same_stored old.content new.content files page i)

-- a page that isn't changed is the stored one
pub absent_in : (told : Told) (pages : Pages) (page : ℕ) → None ≡ get nat_cmp pages.changed page → page_in told pages page ≡ stored_page told.content page
unfolding page_in
absent_in told pages page none = ap (λ o. unwrap_or o (stored_page told.content page)) (sym (get_is pages.changed page) ∙ sym none)

pub changed_in : (told : Told) (pages : Pages) (page : ℕ) (bytes : List ℕ) → Some bytes ≡ get nat_cmp pages.changed page → page_in told pages page ≡ bytes
unfolding page_in
changed_in told pages page bytes some = ap (λ o. unwrap_or o (stored_page told.content page)) (sym (get_is pages.changed page) ∙ sym some)

-- a page that isn't in the files is cut: they have fewer bytes of it
pub missing_cut : (told : Told) (pages : Pages) (page file at : ℕ) → None ≡ get nat_cmp pages.changed page → IsMissing told.content page file at → length (page_in told pages page) ≢ 4096
missing_cut told pages page file at none missing long = by (image_of told.content page) refl (sym (ap length (absent_in told pages page none)) ∙ long)
  where
    by : (o : Option (List ℕ)) → image_of told.content page ≡ o → length (stored_page told.content page) ≡ 4096 → ⊥
    by (Some image) is whole = missing.none image (stands_imaged told.content page image image is refl)
    by None is whole =
        let main = told.content 0 in
        let same : stored_page told.content page ≡ page_at main page = ap (λ o. unwrap_or o (page_at main page)) is in
        let size : length (take 4096 (drop (4096 * page) main)) ≡ 4096 = sym (ap length same) ∙ whole in
        missing.none (page_at main page)
        (stands_main told.content page (page_at main page) is (record { whole = omega (arith, size, length-take 4096 (drop (4096 * page) main), length-drop (4096 * page) main); is = refl }))

-- a page that isn't changed was there at the last checkpoint
pub was_stored : (pages : Pages) (page : ℕ) → AreChanged pages.changed.entries pages.stored pages.count → page < pages.count → None ≡ get nat_cmp pages.changed page → page < pages.stored
was_stored pages page are below none = ⊎_elim
    (λ (old : page < pages.stored). old)
    (λ (new : pages.stored ≤ page). absurd (none_some (lookup (nat_eq page) pages.changed.entries) (sym (get_is pages.changed page) ∙ sym none) (are.new page new below)))
    (cases_lt page pages.stored)

-- a page of the last checkpoint isn't missing
pub not_missing : (refusal : PageRefusal) (told : Told) (saved : Checkpoint) (page stored : ℕ) → Leaves told told.content → IsSafe saved told → saved.count ≡ stored
    → IfDamaged refusal (λ file at. (page < stored) × IsMissing told.content page file at) → IfDamaged refusal (λ file at. ⊥)
not_missing refusal told saved page stored left safe count is = if_damaged refusal (λ file at. (page < stored) × IsMissing told.content page file at) (λ file at. ⊥)
    (λ file at missing. missing.1.none (saved.page page) ((safe.covered told.content left).pages page (omega (arith, missing.0, count)))) is

-- what is saved has all pages of the next checkpoint
plain : (told : Told) (pages : Pages) (page : ℕ) → bodies (told.content 1) ≡ [] → page_in told pages page ≡ unwrap_or (lookup (nat_eq page) pages.changed.entries) (page_at (told.content 0) page)
unfolding page_in
plain told pages page none = ap (λ (l : List (List ℕ)). unwrap_or (lookup (nat_eq page) pages.changed.entries) (unwrap_or (lookup (nat_eq page) (flat_map images_of l)) (page_at (told.content 0) page))) none

pub next_has : (saved : Checkpoint) (told : Told) (pages : Pages) (header : Header) (h : List ℕ) → Leaves told told.content → IsSafe saved told → saved.count ≡ pages.stored → bodies (told.content 1) ≡ []
    → AreChanged pages.changed.entries pages.stored pages.count → IsStrictlySortedBy nat_cmp (keys_of pages.changed.entries) → h ≡ head_bytes (next_head pages header) → length h ≡ 4096
    → HasPages (laid (told.content 0) (pages.changed.entries ++ (0, h) ∷ [])) (next_checkpoint told pages header)
next_has saved told pages header h left safe count none are sorted is long page below = laid_page all main bytes page whole once (⊎_elim here there (cases_eq page 0))
  where
    entries : List (ℕ × List ℕ)
    entries = pages.changed.entries

    main : List ℕ
    main = told.content 0

    all : List (ℕ × List ℕ)
    all = entries ++ (0, h) ∷ []

    bytes : List ℕ
    bytes = (next_checkpoint told pages header).page page

    whole : AllByRecursion (λ (image : ℕ × List ℕ). length image.1 ≡ 4096) all
    whole = whole-append entries ((0, h) ∷ []) (recursion_from_All (λ (entry : ℕ × List ℕ). length entry.1 ≡ 4096) entries are.whole) (long, tt)

    once : IsDistinct nat_eq (keys_of all)
    once = subst (IsDistinct nat_eq) (sym (map-append (λ (entry : ℕ × List ℕ). entry.0) entries ((0, h) ∷ []))) (IsDistinct-push nat_eq_equiv (keys_of entries) 0 (distinct_sorted (keys_of entries) sorted) are.not_header)

    stands : lookup (nat_eq page) entries ≡ None → 4096 * page + 4096 ≤ length main
    stands absent = ⊎_elim
        (λ (old : page < pages.stored).
        (subst (λ (l : List (List ℕ)). MatchOption (lookup (nat_eq page) (flat_map images_of l)) (HasPage main page (saved.page page)) (λ image. image ≡ saved.page page)) none
        ((safe.covered told.content left).pages page (omega arith))).whole)
        (λ (new : pages.stored ≤ page). absurd (none_some (lookup (nat_eq page) entries) absent (are.new page new below)))
        (cases_lt page pages.stored)

    there : page ≢ 0 → MatchOption (lookup (nat_eq page) all) (HasPage main page bytes) (λ image. image ≡ bytes)
    there other =
        let same : bytes ≡ unwrap_or (lookup (nat_eq page) entries) (page_at main page) =
        ap (λ (b : Bool). cond b (head_bytes (next_head pages header)) (page_in told pages page)) (ne_eqb page 0 other) ∙ plain told pages page none in
        subst (λ (o : Option (List ℕ)). MatchOption o (HasPage main page bytes) (λ image. image ≡ bytes)) (sym (last_other page 0 h entries other))
        (subst (λ (b : List ℕ). MatchOption (lookup (nat_eq page) entries) (HasPage main page b) (λ image. image ≡ b)) (sym same) (there_now page main (lookup (nat_eq page) entries) stands))

    here : page ≡ 0 → MatchOption (lookup (nat_eq page) all) (HasPage main page bytes) (λ image. image ≡ bytes)
    here first =
        let same : bytes ≡ h = ap (λ (b : Bool). cond b (head_bytes (next_head pages header)) (page_in told pages page)) (eq-eqb page 0 first) ∙ sym is in
        let found : lookup (nat_eq page) all ≡ Some h = subst (λ (p : ℕ). lookup (nat_eq p) all ≡ Some h) (sym first) (last_same 0 h entries are.not_header) in
        subst (λ (o : Option (List ℕ)). MatchOption o (HasPage main page bytes) (λ image. image ≡ bytes)) (sym found) (sym same)

-- ---- pages that change

not_header_insert : (entries : List (ℕ × List ℕ)) (page : ℕ) (bytes : List ℕ) → list_any (nat_eq 0) (keys_of entries) ≡ false → nat_eq 0 page ≡ false → list_any (nat_eq 0) (keys_of (insert_entry nat_cmp entries page bytes)) ≡ false
not_header_insert [] page bytes none apart = ap (λ (b : Bool). b || false) apart
not_header_insert (entry ∷ entries) page bytes none apart =
    at (nat_cmp page entry.0) (insert_entry nat_cmp entries page bytes) (not_header_insert entries page bytes (both_false (nat_eq 0 entry.0) (list_any (nat_eq 0) (keys_of entries)) none).1 apart)
  where
    at : (o : Ordering) (rest : List (ℕ × List ℕ)) → list_any (nat_eq 0) (keys_of rest) ≡ false
        → list_any (nat_eq 0) (keys_of (match_ordering o ((page, bytes) ∷ entry ∷ entries) ((entry.0, bytes) ∷ entries) (entry ∷ rest))) ≡ false
    at Less rest all = (λ i. apart i || list_any (nat_eq 0) (keys_of (entry ∷ entries))) ∙ none
    at Equal rest all = none
    at Greater rest all = (λ i. nat_eq 0 entry.0 || all i) ∙ (λ i. (both_false (nat_eq 0 entry.0) (list_any (nat_eq 0) (keys_of entries)) none).0 i || false)

some_or : (b : Bool) (bytes : List ℕ) (o : Option (List ℕ)) → IsSome o → IsSome (cond b (Some bytes) o)
some_or true bytes o some = refl
some_or false bytes o some = some

pub changed_insert : (old new : BTreeMap ℕ (List ℕ)) (page : ℕ) (bytes : List ℕ) (stored count : ℕ) → AreChanged old.entries stored count → 1 ≤ page → length bytes ≡ 4096
    → new.entries ≡ insert_entry nat_cmp old.entries page bytes → Updates nat_cmp old new page (Some bytes) → AreChanged new.entries stored count
changed_insert old new page bytes stored count are not_header long is updates = record {
  whole = All-from_recursion (λ (entry : ℕ × List ℕ). length entry.1 ≡ 4096) new.entries
      (subst AllWhole (sym is) (whole_insert old.entries page bytes (recursion_from_All (λ (entry : ℕ × List ℕ). length entry.1 ≡ 4096) old.entries are.whole) long));
  not_header = subst (λ (l : List (ℕ × List ℕ)). list_any (nat_eq 0) (keys_of l) ≡ false) (sym is) (not_header_insert old.entries page bytes are.not_header (ne_eqb 0 page (omega arith)));
  new = λ q low high. subst IsSome (sym (updates_is old new page bytes updates q)) (some_or (nat_eq page q) bytes (lookup (nat_eq q) old.entries) (are.new q low high));
  some = are.some;
  more = are.more;
}

pub page_written : (old new : BTreeMap ℕ (List ℕ)) (stored : List ℕ) (page q : ℕ) (bytes : List ℕ) → Updates nat_cmp old new page (Some bytes)
    → unwrap_or (lookup (nat_eq q) new.entries) stored ≡ cond (nat_eq q page) bytes (unwrap_or (lookup (nat_eq q) old.entries) stored)
page_written old new stored page q bytes updates =
    let was = lookup (nat_eq q) old.entries in
    let now : (b c : Bool) → nat_eq page q ≡ b → nat_eq q page ≡ c → b ≡ c → unwrap_or (lookup (nat_eq q) new.entries) stored ≡ cond (nat_eq q page) bytes (unwrap_or was stored) = λ b c is back same.
    ap (λ (o : Option (List ℕ)). unwrap_or o stored) (updates_is old new page bytes updates q ∙ ap (λ (t : Bool). cond t (Some bytes) was) (is ∙ same)) ∙ choose c was ∙ ap (λ (t : Bool). cond t bytes (unwrap_or was stored)) (sym back) in
    ⊎_elim (λ (here : q ≡ page). now true true (eq-eqb page q (sym here)) (eq-eqb q page here) refl) (λ (other : q ≢ page). now false false (ne_eqb page q (λ same. other (sym same))) (ne_eqb q page other) refl) (cases_eq q page)
  where
    choose : (c : Bool) (was : Option (List ℕ)) → unwrap_or (cond c (Some bytes) was) stored ≡ cond c bytes (unwrap_or was stored)
    choose true was = refl
    choose false was = refl

-- a page is written, and another is not
pub written_is : (told : Told) (old new : Pages) (page : ℕ) (bytes : List ℕ) → Updates nat_cmp old.changed new.changed page (Some bytes) → page_in told new page ≡ bytes
unfolding page_in
written_is told old new page bytes updates =
    page_written old.changed new.changed (stored_page told.content page) page page bytes updates ∙ ap (λ b. cond b bytes (unwrap_or (lookup (nat_eq page) old.changed.entries) (stored_page told.content page))) (eq-eqb page page refl)

pub written_other : (told : Told) (old new : Pages) (page q : ℕ) (bytes : List ℕ) → Updates nat_cmp old.changed new.changed page (Some bytes) → q ≢ page → page_in told new q ≡ page_in told old q
unfolding page_in
written_other told old new page q bytes updates other =
    page_written old.changed new.changed (stored_page told.content q) page q bytes updates ∙ ap (λ b. cond b bytes (unwrap_or (lookup (nat_eq q) old.changed.entries) (stored_page told.content q))) (ne_eqb q page other)

-- a page that is freed
pub kind_by : (told : Told) (a b : Pages) (page : ℕ) (freed : List ℕ) → b.changed.entries ≡ a.changed.entries → page_in told a page ≡ freed → take 1 freed ≡ 4 ∷ [] → take 1 (page_in told b page) ≡ 4 ∷ []
kind_by told a b page freed same is kind = ap (take 1) (page_by told a b same page ∙ is) ∙ kind

pub next_by : (told : Told) (a b : Pages) (page next : ℕ) (freed : List ℕ) → b.changed.entries ≡ a.changed.entries → page_in told a page ≡ freed → next_in freed ≡ next → next_in (page_in told b page) ≡ next
next_by told a b page next freed same is tells = ap (λ bytes. next_in bytes) (page_by told a b same page ∙ is) ∙ tells

-- the first free page is below the count
pub first_below : (book : Book) (owners : Owners) (free : List ℕ) → IsFreeChain (section book owners nobody) book.first_free free → 0 < book.first_free → book.first_free < book.count
first_below book owners [] chain some = absurd (omega (arith, chain, some))
first_below book owners (here ∷ rest) chain some = at (nat_lt here book.count) refl chain.3
  where
    at : (b : Bool) → nat_lt here book.count ≡ b → IsFreePage (if b && (owners here == nobody) then Some (book.page here) else None) chain.2 → book.first_free < book.count
    at true is page = omega (arith, ltb-true here book.count is, chain.0)
    at false is page = absurd page

-- ---- reads
pub stand_same : (old new : Image) (page : ℕ) (bytes : List ℕ) → SameFiles old new → StandsIn old page bytes → StandsIn new page bytes
stand_same old new page bytes same stands =
    subst (λ (l : List ℕ). MatchOption (lookup (nat_eq page) (images_in l)) (HasPage (new 0) page bytes) (λ image. image ≡ bytes)) (sym (same 1))
    (subst (λ (l : List ℕ). MatchOption (lookup (nat_eq page) (images_in (old 1))) (HasPage l page bytes) (λ image. image ≡ bytes)) (sym (same 0)) stands)

pub images_same : (entries : List (ℕ × List ℕ)) (old new : Image) → SameFiles old new → SameImages entries (images_in (old 1)) → SameImages entries (images_in (new 1))
images_same entries old new same has page = has page ∙ ap (λ (l : List ℕ). lookup (nat_eq page) (images_in l)) (sym (same 1))

pub reads_cover : (saved : Checkpoint) (old new : Told) → IsSafe saved old → EachStop old new SameFiles → EachStop old new (Covers saved)
reads_cover saved old new safe reads = weaker old new SameFiles (Covers saved) reads (λ before image was step. record {
  covered = same_files saved before image (safe.covered before was) step;
  others = λ file other. step file;
})
  where
    same_files : (saved : Checkpoint) (before image : Image) → IsCovered saved before → SameFiles before image → IsCovered saved image
    same_files saved before image covered same = covered_same saved before image covered (same 0) (subst IsWhole (sym (same 1)) covered.log.whole) (ap bodies (same 1))

pub reads_safe : (saved : Checkpoint) (old new : Told) → IsSafe saved old → SameFiles old.content new.content → EachStop old new SameFiles → IsSafe saved new
reads_safe saved old new safe same reads = record {
  before = synced_same 1 old new safe.before same reads;
  covered = λ image now. let found = (reads_cover saved old new safe reads).each new.moment image reads.later (omega arith) now in found.2.covered;
}

-- the pages that were read still stand in the files
pub read_more : (old new : BTreeMap ℕ (List ℕ)) (files now : Image) (page : ℕ) (held : List ℕ) → SameFiles files now → ((q : ℕ) (bytes : List ℕ) → lookup (nat_eq q) old.entries ≡ Some bytes → StandsIn files q bytes) → StandsIn files page held
    → Updates nat_cmp old new page (Some held) → (q : ℕ) (bytes : List ℕ) → lookup (nat_eq q) new.entries ≡ Some bytes → StandsIn now q bytes
read_more old new files now page held same were has updates q bytes found = stand_same files now q bytes same (at (nat_eq page q) refl (sym (updates_is old new page held updates q) ∙ found))
  where
    at : (b : Bool) → nat_eq page q ≡ b → cond b (Some held) (lookup (nat_eq q) old.entries) ≡ Some bytes → StandsIn files q bytes
    at true here is =
        let key : page ≡ q = ⊎_elim (λ same. same) (λ other. let no : true ≡ false = sym here ∙ ne_eqb page q other in cc) (cases_eq page q) in
        let value : held ≡ bytes = cc in
        subst (λ (p : ℕ). StandsIn files p bytes) key (subst (StandsIn files page) value has)
    at false other is = were q bytes is

-- whether or not the page was inserted
pub changed_either : {T E : Type 0} (result : Result T E) (old new : BTreeMap ℕ (List ℕ)) (page : ℕ) (bytes : List ℕ) (stored count : ℕ) → AreChanged old.entries stored count → 1 ≤ page → length bytes ≡ 4096
    → OnOk result (new.entries ≡ insert_entry nat_cmp old.entries page bytes) → OnOk result (Updates nat_cmp old new page (Some bytes)) → OnErr result (new.entries ≡ old.entries) → AreChanged new.entries stored count
changed_either (Ok x) old new page bytes stored count are not_header long is updates same = changed_insert old new page bytes stored count are not_header long is updates
changed_either (Err e) old new page bytes stored count are not_header long is updates same = subst (λ (l : List (ℕ × List ℕ)). AreChanged l stored count) (sym same) are

-- a page more, behind all others
pub changed_more : (old new : BTreeMap ℕ (List ℕ)) (bytes : List ℕ) (stored count : ℕ) → AreChanged old.entries stored count → length bytes ≡ 4096
    → new.entries ≡ insert_entry nat_cmp old.entries count bytes → Updates nat_cmp old new count (Some bytes) → AreChanged new.entries stored (count + 1)
changed_more old new bytes stored count are long is updates =
    let more = changed_insert old new count bytes stored count are (omega (arith, are.some, are.more)) long is updates in
    record {
      whole = more.whole;
      not_header = more.not_header;
      new = λ q low high. ⊎_elim (λ (here : q ≡ count). subst IsSome (sym (updates_is old new count bytes updates q ∙ ap (λ (b : Bool). cond b (Some bytes) (lookup (nat_eq q) old.entries)) (eq-eqb count q (sym here)))) refl)
          (λ (other : q ≢ count). more.new q low (omega arith)) (cases_eq q count);
      some = are.some;
      more = omega (arith, are.more);
    }

pub others_stay : (old new : BTreeMap ℕ (List ℕ)) (bytes : List ℕ) (count : ℕ) → Updates nat_cmp old new count (Some bytes) → (page : ℕ) → page < count → lookup (nat_eq page) new.entries ≡ lookup (nat_eq page) old.entries
others_stay old new bytes count updates page below =
    updates_is old new count bytes updates page ∙ ap (λ (b : Bool). cond b (Some bytes) (lookup (nat_eq page) old.entries)) (ne_eqb count page (omega arith))

-- ---- images that a stop has left
no_list : (l : List (List ℕ)) → length l ≡ 0 → l ≡ []
no_list [] none = refl
no_list (x ∷ l) none = absurd (omega (arith, none))

pub no_frames : (told : Told) (log : GateLog) → IsLogOf told log → file_of log ≡ 1 → frames_of log ≡ 0 → bodies (told.content 1) ≡ []
no_frames told log known file none = subst (λ (f : ℕ). bodies (told.content f) ≡ []) file (no_list (bodies (told.content (file_of log))) (sym known.frames ∙ none))

-- where no frame is left, no page has an image
pub no_images : (entries : List (ℕ × List ℕ)) (files new : Image) → bodies (files 1) ≡ [] → bodies (new 1) ≡ [] → SameImages entries (images_in (files 1)) → SameImages entries (images_in (new 1))
no_images entries files new none still same page = same page ∙ ap (λ (l : List (List ℕ)). lookup (nat_eq page) (flat_map images_of l)) (none ∙ sym still)

pub cleared_images : (entries : List (ℕ × List ℕ)) (files : Image) → entries ≡ [] → bodies (files 1) ≡ [] → SameImages entries (images_in (files 1))
cleared_images entries files empty none page = ap (λ (l : List (ℕ × List ℕ)). lookup (nat_eq page) l) empty ∙ ap (λ (l : List (List ℕ)). lookup (nat_eq page) (flat_map images_of l)) (sym none)

pub nothing_read : (entries : List (ℕ × List ℕ)) (files : Image) → entries ≡ [] → (page : ℕ) (bytes : List ℕ) → lookup (nat_eq page) entries ≡ Some bytes → StandsIn files page bytes
nothing_read entries files empty page bytes found = let no : None ≡ Some bytes = sym (ap (λ (l : List (ℕ × List ℕ)). lookup (nat_eq page) l) empty) ∙ found in cc

-- the pages read as before, where both files have the last checkpoint
pub still_in : (saved : Checkpoint) (old new : Told) (a b : Pages) → Leaves old old.content → Leaves new new.content → IsSafe saved old → IsSafe saved new → saved.count ≡ a.stored → AreChanged a.changed.entries a.stored a.count
    → b.changed.entries ≡ a.changed.entries → (page : ℕ) → page < a.count → page_in new b page ≡ page_in old a page
unfolding page_in
still_in saved old new a b left now safe after count are same page below =
    ap (λ entries. unwrap_or (lookup (nat_eq page) entries) (stored_page new.content page)) same ∙ at (lookup (nat_eq page) a.changed.entries) refl
  where
    stored : page < a.stored → stored_page new.content page ≡ stored_page old.content page
    stored there =
        stands_is new.content page (saved.page page) ((after.covered new.content now).pages page (omega (arith, there, count)))
        ∙ sym (stands_is old.content page (saved.page page) ((safe.covered old.content left).pages page (omega (arith, there, count))))

    at : (o : Option (List ℕ)) → lookup (nat_eq page) a.changed.entries ≡ o → unwrap_or o (stored_page new.content page) ≡ unwrap_or o (stored_page old.content page)
    at (Some bytes) is = refl
    at None is = ⊎_elim
        (λ (there : page < a.stored). stored there)
        (λ (past : a.stored ≤ page). absurd (none_some (lookup (nat_eq page) a.changed.entries) is (are.new page past below)))
        (cases_lt page a.stored)

-- ---- two checkpoints of the same pages
pub covered_alike : (a b : Checkpoint) (files : Image) → a.count ≡ b.count → ((page : ℕ) → page < a.count → a.page page ≡ b.page page) → IsCovered a files → IsCovered b files
covered_alike a b files count same covered = record {
  log = covered.log;
  pages = λ page below. subst (StandsIn files page) (same page (omega (arith, below, count))) (covered.pages page (omega (arith, below, count)));
}

pub safe_alike : (a b : Checkpoint) (told : Told) → a.count ≡ b.count → ((page : ℕ) → page < a.count → a.page page ≡ b.page page) → IsSafe a told → IsSafe b told
safe_alike a b told count same safe = record { before = safe.before; covered = λ image left. covered_alike a b image count same (safe.covered image left) }

pub either_alike : (saved a b : Checkpoint) (old new : Told) → a.count ≡ b.count → ((page : ℕ) → page < a.count → a.page page ≡ b.page page) → EachStop old new (CoversEither saved a) → EachStop old new (CoversEither saved b)
either_alike saved a b old new count same stops = weaker old new (CoversEither saved a) (CoversEither saved b) stops (λ before image was step. record {
  covered = ⊎_elim (λ (one : IsCovered saved image). inl one) (λ (two : IsCovered a image). inr (covered_alike a b image count same two)) step.covered;
  others = step.others;
})

-- the checkpoint of pages that read as before is the same
pub next_alike : (old new : Told) (a b : Pages) (header : Header) → b.count ≡ a.count → b.limit ≡ a.limit → b.first_free ≡ a.first_free → ((page : ℕ) → page < a.count → page_in new b page ≡ page_in old a page)
    → (page : ℕ) → page < b.count → (next_checkpoint new b header).page page ≡ (next_checkpoint old a header).page page
next_alike old new a b header count limit free same page below i =
    cond (nat_eq page 0) (head_bytes (record {
      limit = limit i;
      count = count i;
      frames = header.frames;
      place = header.place;
      catalog = header.catalog;
      rollback = header.rollback;
      free = free i;
      next_table = header.next_table;
    })) (same page (omega (arith, below, count)) i)

-- ---- after a checkpoint
pub cleared_page : (told : Told) (pages : Pages) (page : ℕ) → pages.changed.entries ≡ [] → bodies (told.content 1) ≡ [] → page_in told pages page ≡ page_at (told.content 0) page
cleared_page told pages page empty none = plain told pages page none ∙ ap (λ (l : List (ℕ × List ℕ)). unwrap_or (lookup (nat_eq page) l) (page_at (told.content 0) page)) empty

pub none_changed : (entries : List (ℕ × List ℕ)) (count : ℕ) → entries ≡ [] → 0 < count → AreChanged entries count count
none_changed entries count empty some = subst (λ (l : List (ℕ × List ℕ)). AreChanged l count count) (sym empty) (record {
  whole = All-from_recursion (λ (entry : ℕ × List ℕ). length entry.1 ≡ 4096) [] tt;
  not_header = refl;
  new = λ page low high. absurd (omega (arith, low, high));
  some = some;
  more = omega arith;
})

-- a step that keeps the last checkpoint, and then one that leaves it or another
pub stops_on : (saved next : Checkpoint) (old mid new : Told) → EachStop old mid (Covers saved) → EachStop mid new (CoversEither saved next) → EachStop old new (CoversEither saved next)
stops_on saved next old mid new first second = goes_on old mid new (CoversEither saved next) (CoversEither saved next)
    (weaker old mid (Covers saved) (CoversEither saved next) first (λ before image was step. record { covered = inl step.covered; others = step.others })) second
    (λ before image after was now one two. record { covered = two.covered; others = λ file other. two.others file other ∙ one.others file other })

-- ---- at the opening
pub fresh_in : (told : Told) (pages : Pages) (page : ℕ) (bytes : List ℕ) → pages.changed.entries ≡ [] → StandsIn told.content page bytes → page_in told pages page ≡ bytes
unfolding page_in
fresh_in told pages page bytes empty stands =
    ap (λ (l : List (ℕ × List ℕ)). unwrap_or (lookup (nat_eq page) l) (stored_page told.content page)) empty ∙ stands_is told.content page bytes stands

-- a page that no call has changed
pub stored_in : (told : Told) (files : Image) (pages : Pages) (page : ℕ) → pages.changed.entries ≡ [] → SameFiles files told.content → page_in told pages page ≡ stored_page files page
unfolding page_in
stored_in told files pages page empty same =
    ap (λ (l : List (ℕ × List ℕ)). unwrap_or (lookup (nat_eq page) l) (stored_page told.content page)) empty
    ∙ ap (λ (l : List ℕ). unwrap_or (lookup (nat_eq page) (images_in l)) (page_at (told.content 0) page)) (same 1)
    ∙ ap (λ (l : List ℕ). unwrap_or (lookup (nat_eq page) (images_in (files 1))) (page_at l page)) (same 0)

pub head_same : (old new : Image) (head : Head) → SameFiles old new → IsHeadIn old head → IsHeadIn new head
head_same old new head same is = record { page = is.page; stands = stand_same old new 0 is.page same is.stands; is = is.is }

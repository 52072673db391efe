-- The images of pages are saved, frame by frame.
use Rattle.std.proofs.Common.{◌≡◌, ◌≢◌, ⊎_elim, ℕ, ◌+◌, ◌-◌, ◌*◌, ◌<◌, ◌≤◌, ◌^◌, Bool, true, false, List, [], ◌∷◌, ◌++◌, length, take, drop, Option, Some, None, refl, sym, ◌∙◌, ap, subst, arith, append_assoc, length-drop, take-append-drop}
use Rattle.std.specs.Prelude.{nat_eq, cond, MatchOption, ◌||◌}
use Rattle.std.specs.List.{flat_map, list_any, AllByRecursion, IsDistinct}
use Rattle.std.specs.Map.{lookup, keys_of}
use Rattle.std.proofs.lemmas.Bool.{cases_eq, eq-eqb, ne_eqb}
use Rattle.std.proofs.lemmas.List.{map-append, append-nil, length-take-le}
use Rattle.std.proofs.Math.Seq.{take-add}
use Rattle.std.proofs.lemmas.List.Folds.{list_any-append}
use Rattle.std.proofs.lemmas.Map.Keys.{IsDistinct-head, IsDistinct-tail, IsDistinct-cons}
use Rattle.wat_disk.specs.Disk.{Image, Told, Leaves, IsSynced, InFile, EachStop}
use Rattle.wat_disk.proofs.Stops.{stays, goes_on}
use Rattle.wat_gate.specs.Bodies.{bodies, KeepsOrAdds}
use Rattle.wat_restore.specs.Restored.{page_at, HasPage, images_of, images_in, Checkpoint, IsCovered}
use Rattle.wat_restore.specs.Images.{AllWhole, encoded, pages_of}
use Rattle.wat_restore.specs.Safe.{IsSafe, Covers, CanSave, HasSaved}
use Rattle.wat_restore.proofs.Covering.{images_of-encoded, encoded_whole, covered_added, covered_same, images_in-push}

-- ---- pages as images
pub keys_of-pages_of : (main pages : List ℕ) → keys_of (pages_of main pages) ≡ pages
keys_of-pages_of main [] = refl
keys_of-pages_of main (page ∷ pages) = ap (λ (l : List ℕ). page ∷ l) (keys_of-pages_of main pages)

by_test : (b : Bool) (page q : ℕ) (main : List ℕ) (pages : List ℕ) (R : List ℕ → Type 0) → (b ≡ true → page ≡ q) → ((b || list_any (nat_eq page) pages) ≡ true → R (page_at main page))
    → MatchOption (lookup (nat_eq page) (pages_of main pages)) (Unit {0}) R → MatchOption (cond b (Some (page_at main q)) (lookup (nat_eq page) (pages_of main pages))) (Unit {0}) R
by_test true page q main pages R same has rest = subst (λ (p : ℕ). R (page_at main p)) (same refl) (has refl)
by_test false page q main pages R same has rest = rest

only_true : (b c : Bool) → c ≡ true → (b || c) ≡ true
only_true true c is = refl
only_true false c is = is

middle_true : (a b c : Bool) → b ≡ true → ((a || b) || c) ≡ true
middle_true true b c is = refl
middle_true false true c is = refl
middle_true false false c is = cc

pub lookup-pages_of : (page : ℕ) (main pages : List ℕ) (R : List ℕ → Type 0) → (list_any (nat_eq page) pages ≡ true → R (page_at main page)) → MatchOption (lookup (nat_eq page) (pages_of main pages)) (Unit {0}) R
lookup-pages_of page main [] R has = tt
lookup-pages_of page main (q ∷ pages) R has =
    by_test (nat_eq page q) page q main pages R (λ is. ⊎_elim (λ same. same) (λ other. let no : true ≡ false = sym is ∙ ne_eqb page q other in cc) (cases_eq page q)) has
    (lookup-pages_of page main pages R (λ is. has (only_true (nat_eq page q) (list_any (nat_eq page) pages) is)))

-- each of these pages stands in main
abbrev pub AreThere : Checkpoint → List ℕ → List ℕ → Type 0
AreThere saved main pages = (page : ℕ) → list_any (nat_eq page) pages ≡ true → HasPage main page (saved.page page)

own : (page : ℕ) (pages : List ℕ) → list_any (nat_eq page) (page ∷ pages) ≡ true
own page pages = ap (λ (b : Bool). b || list_any (nat_eq page) pages) (eq-eqb page page refl)

long_page : (main bytes : List ℕ) (page : ℕ) → HasPage main page bytes → length (page_at main page) ≡ 4096
long_page main bytes page has = length-take-le 4096 (drop (4096 * page) main) (omega (arith, has.whole, length-drop (4096 * page) main))

pub whole-pages_of : (saved : Checkpoint) (main pages : List ℕ) → AreThere saved main pages → AllWhole (pages_of main pages)
whole-pages_of saved main [] there = tt
whole-pages_of saved main (page ∷ pages) there =
    (long_page main (saved.page page) page (there page (own page pages)), whole-pages_of saved main pages (λ q is. there q (only_true (nat_eq q page) (list_any (nat_eq q) pages) is)))

pub small-pages_of : (main pages : List ℕ) → ((page : ℕ) → list_any (nat_eq page) pages ≡ true → page < 2 ^ 32) → AllByRecursion (λ (image : ℕ × List ℕ). image.0 < 2 ^ 32) (pages_of main pages)
small-pages_of main [] small = tt
small-pages_of main (page ∷ pages) small = (small page (own page pages), small-pages_of main pages (λ q is. small q (only_true (nat_eq q page) (list_any (nat_eq q) pages) is)))

-- ---- lists of keys without repeats
apart_front : (q : ℕ) (xs ys : List ℕ) → AllByRecursion (λ (y : ℕ). nat_eq q y ≡ false) (xs ++ ys) → AllByRecursion (λ (y : ℕ). nat_eq q y ≡ false) xs
apart_front q [] ys all = tt
apart_front q (x ∷ xs) ys all = (all.0, apart_front q xs ys all.1)

none_twice : IsDistinct nat_eq []
unfolding IsDistinct
none_twice = tt

pub distinct_front : (xs ys : List ℕ) → IsDistinct nat_eq (xs ++ ys) → IsDistinct nat_eq xs
distinct_front [] ys once = none_twice
distinct_front (x ∷ xs) ys once = IsDistinct-cons nat_eq x xs (apart_front x xs ys (IsDistinct-head nat_eq x (xs ++ ys) once)) (distinct_front xs ys (IsDistinct-tail nat_eq x (xs ++ ys) once))

apart_from : (q page : ℕ) (xs ys : List ℕ) → AllByRecursion (λ (y : ℕ). nat_eq q y ≡ false) (xs ++ ys) → list_any (nat_eq page) ys ≡ true → page ≢ q
apart_from q page (x ∷ xs) ys all among same = apart_from q page xs ys all.1 among same
apart_from q page [] [] all among same = cc
apart_from q page [] (y ∷ ys) all among same =
    let test : nat_eq page y ≡ false = subst (λ (p : ℕ). nat_eq p y ≡ false) (sym same) all.0 in
    apart_from q page [] ys all.1 (ap (λ (b : Bool). b || list_any (nat_eq page) ys) (sym test) ∙ among) same

pub no_image : (page : ℕ) (images : List (ℕ × List ℕ)) (pages : List ℕ) → IsDistinct nat_eq (keys_of images ++ pages) → list_any (nat_eq page) pages ≡ true → lookup (nat_eq page) images ≡ None
no_image page [] pages once among = refl
no_image page (image ∷ images) pages once among =
    ap (λ (b : Bool). cond b (Some image.1) (lookup (nat_eq page) images)) (ne_eqb page image.0 (apart_from image.0 page (keys_of images) pages (IsDistinct-head nat_eq image.0 (keys_of images ++ pages) once) among))
    ∙ no_image page images pages (IsDistinct-tail nat_eq image.0 (keys_of images ++ pages) once) among

-- ---- what stands in main, where nothing has its image yet
pub stands : (saved : Checkpoint) (files : Image) (pages : List ℕ) → IsCovered saved files → CanSave saved (files 1) pages → AreThere saved (files 0) pages
stands saved files pages covered can page among =
    subst (λ (o : Option (List ℕ)). MatchOption o (HasPage (files 0) page (saved.page page)) (λ image. image ≡ saved.page page)) (no_image page (images_in (files 1)) pages can.once among) (covered.pages page (can.below page among))

-- One frame more: the images of a chunk of the pages, behind those of the ones that are done.
module _ (saved : Checkpoint) (entry mid new : Told) (pages done chunk rest : List ℕ) (split : pages ≡ done ++ chunk ++ rest) (safe : IsSafe saved entry) (can : CanSave saved (entry.content 1) pages)
    (there : AreThere saved (entry.content 0) pages) (main : mid.content 0 ≡ entry.content 0) (synced : IsSynced mid 1) (images : images_in (mid.content 1) ≡ images_in (entry.content 1) ++ pages_of (entry.content 0) done) where
  abbrev content : List ℕ
  content = entry.content 0

  abbrev added : List (ℕ × List ℕ)
  added = pages_of content chunk

  in_chunk : (page : ℕ) → list_any (nat_eq page) chunk ≡ true → list_any (nat_eq page) pages ≡ true
  in_chunk page among =
      ap (list_any (nat_eq page)) split ∙ list_any-append (nat_eq page) (done ++ chunk) rest ∙ ap (λ (b : Bool). b || list_any (nat_eq page) rest) (list_any-append (nat_eq page) done chunk)
      ∙ middle_true (list_any (nat_eq page) done) (list_any (nat_eq page) chunk) (list_any (nat_eq page) rest) among

  chunk_there : AreThere saved content chunk
  chunk_there page among = there page (in_chunk page among)

  whole : AllWhole added
  whole = whole-pages_of saved content chunk chunk_there

  small : AllByRecursion (λ (image : ℕ × List ℕ). image.0 < 2 ^ 32) added
  small = small-pages_of content chunk (λ page among. omega (arith, can.below page (in_chunk page among), can.small))

  pub decoded : images_of (encoded added) ≡ added
  decoded = images_of-encoded added whole small

  keys : keys_of (images_in (mid.content 1) ++ added) ≡ keys_of (images_in (entry.content 1)) ++ (done ++ chunk)
  keys =
      let key : ℕ × List ℕ → ℕ = λ image. image.0 in
      let old = keys_of (images_in (entry.content 1)) in
      map-append key (images_in (mid.content 1)) added
      ∙ (λ i. keys_of (images i) ++ keys_of-pages_of content chunk i)
      ∙ ap (λ (l : List ℕ). l ++ chunk) (map-append key (images_in (entry.content 1)) (pages_of content done) ∙ ap (λ (l : List ℕ). old ++ l) (keys_of-pages_of content done))
      ∙ append_assoc old done chunk

  once : IsDistinct nat_eq (keys_of (images_in (mid.content 1) ++ added))
  once =
      let old = keys_of (images_in (entry.content 1)) in
      subst (IsDistinct nat_eq) (sym keys)
      (distinct_front (old ++ (done ++ chunk)) rest (subst (IsDistinct nat_eq) (ap (λ (l : List ℕ). old ++ l) split ∙ sym (append_assoc old (done ++ chunk) rest)) can.once))

  right : (page : ℕ) → page < saved.count → MatchOption (lookup (nat_eq page) added) (Unit {0}) (λ image. image ≡ saved.page page)
  right page below = lookup-pages_of page content chunk (λ image. image ≡ saved.page page) (λ among. (chunk_there page among).is)

  -- a stop leaves the images so far, with those of the chunk or without
  pub frame_stops : EachStop entry mid (Covers saved) → EachStop mid new (InFile 1 (KeepsOrAdds (encoded (pages_of (mid.content 0) chunk)))) → EachStop entry new (Covers saved)
  frame_stops so_far append = goes_on entry mid new (Covers saved) (InFile 1 (KeepsOrAdds (encoded (pages_of (mid.content 0) chunk)))) so_far append both
    where
      both : (before image after : Image) → Leaves entry before → Leaves mid image → Covers saved before image → InFile 1 (KeepsOrAdds (encoded (pages_of (mid.content 0) chunk))) image after → Covers saved before after
      both before image after was now step next =
          let log : image 1 ≡ mid.content 1 = synced image now in
          let body : encoded (pages_of (mid.content 0) chunk) ≡ encoded added = ap (λ (m : List ℕ). encoded (pages_of m chunk)) main in
          let same_main : after 0 ≡ image 0 = next.others 0 (omega arith) in
          record {
            covered = ⊎_elim
                (λ (same : bodies (after 1) ≡ bodies (image 1)). covered_same saved image after step.covered same_main next.changed.whole same)
                (λ (more : bodies (after 1) ≡ bodies (image 1) ++ encoded (pages_of (mid.content 0) chunk) ∷ []).
                covered_added saved image after (encoded added) added step.covered same_main next.changed.whole (more ∙ ap (λ (b : List ℕ). bodies (image 1) ++ b ∷ []) body) (encoded_whole added whole) decoded
                (subst (λ (l : List ℕ). IsDistinct nat_eq (keys_of (images_in l ++ added))) (sym log) once) right)
                next.changed.either;
            others = λ file other. next.others file (omega arith) ∙ step.others file other;
          }

  pub frame_saves : IsSynced new 1 → bodies (new.content 1) ≡ bodies (mid.content 1) ++ encoded (pages_of (mid.content 0) chunk) ∷ [] → HasSaved saved entry new (done ++ chunk)
  frame_saves new_synced is = record {
    before = new_synced;
    images =
        ap (flat_map images_of) (is ∙ ap (λ (m : List ℕ). bodies (mid.content 1) ++ encoded (pages_of m chunk) ∷ []) main) ∙ images_in-push (bodies (mid.content 1)) (encoded added) added decoded
        ∙ ap (λ (l : List (ℕ × List ℕ)). l ++ added) images ∙ append_assoc (images_in (entry.content 1)) (pages_of content done) added
        ∙ ap (λ (l : List (ℕ × List ℕ)). images_in (entry.content 1) ++ l) (sym (map-append (λ (page : ℕ). (page, page_at content page)) done chunk));
  }

-- the pages from one place to another are the next chunk
module _ (pages : List ℕ) (at end : ℕ) (order : at ≤ end) where
  abbrev next_chunk : List ℕ
  next_chunk = take (end - at) (drop at pages)

  pub up_to : take at pages ++ next_chunk ≡ take end pages
  up_to = let count : at + (end - at) ≡ end = omega arith in sym (take-add at (end - at) pages) ∙ ap (λ (n : ℕ). take n pages) count

  pub chunks : pages ≡ take at pages ++ next_chunk ++ drop end pages
  chunks = sym (take-append-drop end pages) ∙ ap (λ (l : List ℕ). l ++ drop end pages) (sym up_to)

  pub chunk_among : (page : ℕ) → list_any (nat_eq page) next_chunk ≡ true → list_any (nat_eq page) pages ≡ true
  chunk_among page among =
      ap (list_any (nat_eq page)) chunks ∙ list_any-append (nat_eq page) (take at pages ++ next_chunk) (drop end pages) ∙ ap (λ (b : Bool). b || list_any (nat_eq page) (drop end pages)) (list_any-append (nat_eq page) (take at pages) next_chunk)
      ∙ middle_true (list_any (nat_eq page) (take at pages)) (list_any (nat_eq page) next_chunk) (list_any (nat_eq page) (drop end pages)) among

  module _ (saved : Checkpoint) (entry mid new : Told) (left : Leaves entry entry.content) (safe : IsSafe saved entry) (can : CanSave saved (entry.content 1) pages) (main : mid.content 0 ≡ entry.content 0)
      (so_far : HasSaved saved entry mid (take at pages)) where
    there : AreThere saved (entry.content 0) pages
    there = stands saved entry.content pages (safe.covered entry.content left) can

    pub chunk_stops : EachStop entry mid (Covers saved) → (IsSynced mid 1 → EachStop mid new (InFile 1 (KeepsOrAdds (encoded (pages_of (mid.content 0) next_chunk))))) → EachStop entry new (Covers saved)
    chunk_stops stops append = frame_stops saved entry mid new pages (take at pages) next_chunk (drop end pages) chunks safe can there main so_far.before so_far.images stops (append so_far.before)

    pub chunk_saves : IsSynced new 1 → bodies (new.content 1) ≡ bodies (mid.content 1) ++ encoded (pages_of (mid.content 0) next_chunk) ∷ [] → HasSaved saved entry new (take end pages)
    chunk_saves synced is =
        subst (HasSaved saved entry new) up_to (frame_saves saved entry mid new pages (take at pages) next_chunk (drop end pages) chunks safe can there main so_far.before so_far.images synced is)

-- before the first frame
module _ (saved : Checkpoint) (entry : Told) (safe : IsSafe saved entry) where
  pub none_saved : HasSaved saved entry entry []
  none_saved = record { before = safe.before; images = sym (append-nil (images_in (entry.content 1))) }

  pub stays_covered : EachStop entry entry (Covers saved)
  stays_covered = stays entry (Covers saved) (λ image left. record { covered = safe.covered image left; others = λ file other. refl })

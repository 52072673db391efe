-- A checkpoint: images, pages, sync, clear. Each stop leaves the old checkpoint or the new one.
use Rattle.std.proofs.Common.{◌≡◌, ◌≢◌, ◌⊎◌, inl, inr, ⊎_elim, ℕ, ◌<◌, ◌^◌, ◌%◌, Bool, true, false, List, [], ◌∷◌, ◌++◌, length, get_or, Option, Some, refl, sym, ◌∙◌, ap, subst, arith}
use Rattle.std.specs.Prelude.{nat_eq, nat_lt, cond, MatchOption, IsSome, All, ◌||◌, filter}
use Rattle.std.specs.List.{flat_map, list_any, AllByRecursion, IsDistinct}
use Rattle.std.specs.List.Sorted.{IsStrictlySortedBy}
use Rattle.std.specs.Ordering.{nat_cmp}
use Rattle.std.specs.Cmp.{nat_eq_equiv}
use Rattle.std.specs.Map.{lookup, keys_of}
use Rattle.std.proofs.lemmas.Bool.{cases_eq, eq-eqb, ne_eqb, lt-ltb}
use borrow.Author.Tests.{ltb-true}
use Rattle.std.proofs.lemmas.List.Elements.{All-from_recursion}
use Rattle.std.proofs.lemmas.List.Folds.{list_any-append}
use Rattle.std.proofs.lemmas.Map.Keys.{below_from_sorted, IsDistinct-from_apart, IsDistinct-head, IsDistinct-tail, IsDistinct-cons, IsDistinct-push}
use Rattle.wat_disk.specs.Disk.{Image, Told, Leaves, IsSynced, InFile, SameOthers, EachStop}
use Rattle.wat_disk.proofs.Stops.{weaker, goes_on}
use Rattle.wat_gate.specs.Bodies.{bodies, IsWhole, KeepsOrClears}
use Rattle.wat_restore.specs.Restored.{page_at, HasPage, images_of, images_in, Checkpoint, IsCovered, KeepsPagesBut}
use Rattle.wat_restore.specs.Images.{pages_of}
use Rattle.wat_restore.specs.Safe.{IsSafe, Covers, CoversEither, CanSave, HasSaved, HasPages}
use Rattle.wat_restore.proofs.Covering.{covered_written, covered_same}

none_twice : IsDistinct nat_eq []
unfolding IsDistinct
none_twice = tt

-- a checkpoint without images
pub covered_clear : (saved : Checkpoint) (files : Image) → IsWhole (files 1) → bodies (files 1) ≡ [] → HasPages (files 0) saved → IsCovered saved files
covered_clear saved files whole none has = record {
  log = record {
    whole = whole;
    images = subst (All (λ (b : List ℕ). length b % 4100 ≡ 0)) (sym none) (All-from_recursion (λ (b : List ℕ). length b % 4100 ≡ 0) [] tt);
    once = subst (λ (l : List (List ℕ)). IsDistinct nat_eq (keys_of (flat_map images_of l))) (sym none) none_twice;
  };
  pages = λ page below.
      subst (λ (l : List (List ℕ)). MatchOption (lookup (nat_eq page) (flat_map images_of l)) (HasPage (files 0) page (saved.page page)) (λ image. image ≡ saved.page page)) (sym none) (has page below);
}

-- ---- the pages to save
pub distinct_sorted : (keys : List ℕ) → IsStrictlySortedBy nat_cmp keys → IsDistinct nat_eq keys
distinct_sorted keys sorted = IsDistinct-from_apart nat_eq keys (λ i j d order within. ne_eqb (get_or keys i d) (get_or keys j d) (let less = below_from_sorted keys i j d sorted order within in omega arith))

apart_filter : (test : ℕ → Bool) (q : ℕ) (keys : List ℕ) → AllByRecursion (λ (y : ℕ). nat_eq q y ≡ false) keys → AllByRecursion (λ (y : ℕ). nat_eq q y ≡ false) (filter test keys)
apart_filter test q [] all = tt
apart_filter test q (key ∷ keys) all = at (test key) (filter test keys) all.0 (apart_filter test q keys all.1)
  where
    at : (b : Bool) (l : List ℕ) → nat_eq q key ≡ false → AllByRecursion (λ (y : ℕ). nat_eq q y ≡ false) l → AllByRecursion (λ (y : ℕ). nat_eq q y ≡ false) (cond b (key ∷ l) l)
    at true l first rest = (first, rest)
    at false l first rest = rest

distinct_filter : (test : ℕ → Bool) (keys : List ℕ) → IsDistinct nat_eq keys → IsDistinct nat_eq (filter test keys)
distinct_filter test [] once = once
distinct_filter test (key ∷ keys) once =
    at (test key) (filter test keys) (apart_filter test key keys (IsDistinct-head nat_eq key keys once)) (distinct_filter test keys (IsDistinct-tail nat_eq key keys once))
  where
    at : (b : Bool) (l : List ℕ) → AllByRecursion (λ (y : ℕ). nat_eq key y ≡ false) l → IsDistinct nat_eq l → IsDistinct nat_eq (cond b (key ∷ l) l)
    at true l first rest = IsDistinct-cons nat_eq key l first rest
    at false l first rest = rest

true_or : (b c : Bool) → (b || c) ≡ true → (b ≡ true) ⊎ (c ≡ true)
true_or true c is = inl refl
true_or false c is = inr is

left_or : (b c : Bool) → b ≡ true → (b || c) ≡ true
left_or true c is = refl
left_or false c is = cc

right_or : (b c : Bool) → c ≡ true → (b || c) ≡ true
right_or true c is = refl
right_or false c is = is

same_key : (page q : ℕ) → nat_eq page q ≡ true → page ≡ q
same_key page q is = ⊎_elim (λ same. same) (λ other. let no : true ≡ false = sym is ∙ ne_eqb page q other in cc) (cases_eq page q)

-- among the filtered: among them all, and passing
any_filter : (test : ℕ → Bool) (page : ℕ) (keys : List ℕ) → list_any (nat_eq page) (filter test keys) ≡ true → (list_any (nat_eq page) keys ≡ true) × (test page ≡ true)
any_filter test page [] is = cc
any_filter test page (key ∷ keys) is = at (test key) refl is (any_filter test page keys)
  where
    at : (b : Bool) → test key ≡ b → list_any (nat_eq page) (cond b (key ∷ filter test keys) (filter test keys)) ≡ true
        → (list_any (nat_eq page) (filter test keys) ≡ true → (list_any (nat_eq page) keys ≡ true) × (test page ≡ true)) → (list_any (nat_eq page) (key ∷ keys) ≡ true) × (test page ≡ true)
    at true passes is rest = ⊎_elim
        (λ (here : nat_eq page key ≡ true). (left_or (nat_eq page key) (list_any (nat_eq page) keys) here, ap test (same_key page key here) ∙ passes))
        (λ (later : list_any (nat_eq page) (filter test keys) ≡ true). (right_or (nat_eq page key) (list_any (nat_eq page) keys) (rest later).0, (rest later).1))
        (true_or (nat_eq page key) (list_any (nat_eq page) (filter test keys)) is)
    at false fails is rest = (right_or (nat_eq page key) (list_any (nat_eq page) keys) (rest is).0, (rest is).1)

filter_any : (test : ℕ → Bool) (page : ℕ) (keys : List ℕ) → list_any (nat_eq page) keys ≡ true → test page ≡ true → list_any (nat_eq page) (filter test keys) ≡ true
filter_any test page [] is passes = is
filter_any test page (key ∷ keys) is passes = at (test key) refl (true_or (nat_eq page key) (list_any (nat_eq page) keys) is) (λ later. filter_any test page keys later passes)
  where
    at : (b : Bool) → test key ≡ b → (nat_eq page key ≡ true) ⊎ (list_any (nat_eq page) keys ≡ true) → (list_any (nat_eq page) keys ≡ true → list_any (nat_eq page) (filter test keys) ≡ true)
        → list_any (nat_eq page) (cond b (key ∷ filter test keys) (filter test keys)) ≡ true
    at true same_test or rest = ⊎_elim
        (λ (here : nat_eq page key ≡ true). left_or (nat_eq page key) (list_any (nat_eq page) (filter test keys)) here)
        (λ (later : list_any (nat_eq page) keys ≡ true). right_or (nat_eq page key) (list_any (nat_eq page) (filter test keys)) (rest later))
        or
    at false fails or rest = ⊎_elim
        (λ (here : nat_eq page key ≡ true). let no : true ≡ false = sym passes ∙ ap test (same_key page key here) ∙ fails in cc)
        (λ (later : list_any (nat_eq page) keys ≡ true). rest later)
        or

or_last : (page q : ℕ) (keys : List ℕ) → list_any (nat_eq page) (keys ++ q ∷ []) ≡ true → (list_any (nat_eq page) keys ≡ true) ⊎ (page ≡ q)
or_last page q keys is = ⊎_elim
    (λ (first : list_any (nat_eq page) keys ≡ true). inl first)
    (λ (last : (nat_eq page q || false) ≡ true). inr (⊎_elim (λ (here : nat_eq page q ≡ true). same_key page q here) (λ (no : false ≡ true). cc) (true_or (nat_eq page q) false last)))
    (true_or (list_any (nat_eq page) keys) (nat_eq page q || false) (sym (list_any-append (nat_eq page) keys (q ∷ [])) ∙ is))

among_first : (page q : ℕ) (keys : List ℕ) → list_any (nat_eq page) keys ≡ true → list_any (nat_eq page) (keys ++ q ∷ []) ≡ true
among_first page q keys is = list_any-append (nat_eq page) keys (q ∷ []) ∙ left_or (list_any (nat_eq page) keys) (nat_eq page q || false) is

among_last : (page q : ℕ) (keys : List ℕ) → page ≡ q → list_any (nat_eq page) (keys ++ q ∷ []) ≡ true
among_last page q keys same =
    list_any-append (nat_eq page) keys (q ∷ []) ∙ right_or (list_any (nat_eq page) keys) (nat_eq page q || false) (left_or (nat_eq page q) false (eq-eqb page q same))

not_true : (b : Bool) → (b ≡ true → ⊥) → b ≡ false
not_true true never = absurd (never refl)
not_true false never = refl

module _ (keys : List ℕ) (count : ℕ) (sorted : IsStrictlySortedBy nat_cmp keys) (not_header : list_any (nat_eq 0) keys ≡ false) (some : 0 < count) where
  abbrev below : List ℕ
  below = filter (λ page. nat_lt page count) keys

  old_once : IsDistinct nat_eq (below ++ 0 ∷ [])
  old_once = IsDistinct-push nat_eq_equiv below 0 (distinct_filter (λ page. nat_lt page count) keys (distinct_sorted keys sorted))
      (not_true (list_any (nat_eq 0) below) (λ here. let no : false ≡ true = sym not_header ∙ (any_filter (λ page. nat_lt page count) 0 keys here).0 in cc))

  old_below : (page : ℕ) → list_any (nat_eq page) (below ++ 0 ∷ []) ≡ true → page < count
  old_below page among = ⊎_elim
      (λ (here : list_any (nat_eq page) below ≡ true). ltb-true page count (any_filter (λ p. nat_lt p count) page keys here).1)
      (λ (last : page ≡ 0). omega arith)
      (or_last page 0 below among)

  pub old_all : (page : ℕ) → page < count → list_any (nat_eq page) (keys ++ 0 ∷ []) ≡ true → list_any (nat_eq page) (below ++ 0 ∷ []) ≡ true
  old_all page small among = ⊎_elim
      (λ (here : list_any (nat_eq page) keys ≡ true). among_first page 0 below (filter_any (λ p. nat_lt p count) page keys here (lt-ltb page count small)))
      (λ (last : page ≡ 0). among_last page 0 below last)
      (or_last page 0 keys among)

  -- where nothing has an image yet
  pub can_save : (saved : Checkpoint) (before old : List ℕ) → bodies before ≡ [] → old ≡ below ++ 0 ∷ [] → saved.count ≡ count → count < 2 ^ 32 → CanSave saved before old
  can_save saved before old none is same small = record {
    once = subst (λ (l : List (List ℕ)). IsDistinct nat_eq (keys_of (flat_map images_of l) ++ old)) (sym none) (subst (IsDistinct nat_eq) (sym is) old_once);
    below = λ page among. let under = old_below page (ap (list_any (nat_eq page)) (sym is) ∙ among) in omega arith;
    small = omega arith;
  }

-- ---- the steps
some_first : (b : Bool) (x : List ℕ) (o : Option (List ℕ)) → (b ≡ true) ⊎ IsSome o → IsSome (cond b (Some x) o)
some_first true x o either = refl
some_first false x o either = ⊎_elim (λ (no : false ≡ true). cc) (λ some. some) either

some_page : (page : ℕ) (main pages : List ℕ) → list_any (nat_eq page) pages ≡ true → IsSome (lookup (nat_eq page) (pages_of main pages))
some_page page main [] is = cc
some_page page main (q ∷ pages) is = some_first (nat_eq page q) (page_at main q) (lookup (nat_eq page) (pages_of main pages))
    (⊎_elim (λ (here : nat_eq page q ≡ true). inl here) (λ (later : list_any (nat_eq page) pages ≡ true). inr (some_page page main pages later)) (true_or (nat_eq page q) (list_any (nat_eq page) pages) is))

some_image : (page : ℕ) (images : List (ℕ × List ℕ)) (main pages : List ℕ) → list_any (nat_eq page) pages ≡ true → IsSome (lookup (nat_eq page) (images ++ pages_of main pages))
some_image page [] main pages is = some_page page main pages is
some_image page (image ∷ images) main pages is = some_first (nat_eq page image.0) image.1 (lookup (nat_eq page) (images ++ pages_of main pages)) (inr (some_image page images main pages is))

-- a file that is not written stays synced
pub synced_other : (file other : ℕ) (old new : Told) (Step : List ℕ → List ℕ → Type 0) → other ≢ file → IsSynced old other → SameOthers file old.content new.content → EachStop old new (InFile file Step) → IsSynced new other
synced_other file other old new Step not_it synced same stops image now =
    let found = stops.each new.moment image stops.later (omega arith) now in
    found.2.others other not_it ∙ synced found.0 found.1 ∙ sym (same other not_it)

module _ (saved : Checkpoint) (entry mid new : Told) (so_far : EachStop entry mid (Covers saved)) where
  covered_now : (image : Image) → Leaves mid image → IsCovered saved image
  covered_now image now = (so_far.each mid.moment image so_far.later (omega arith) now).2.covered

  -- pages are written that have their images
  pub write_stops : (pages old : List ℕ) → HasSaved saved entry mid old → ((page : ℕ) → page < saved.count → list_any (nat_eq page) pages ≡ true → list_any (nat_eq page) old ≡ true)
      → EachStop mid new (InFile 0 (KeepsPagesBut pages)) → EachStop entry new (Covers saved)
  write_stops pages old has all write = goes_on entry mid new (Covers saved) (InFile 0 (KeepsPagesBut pages)) so_far write (λ before image after was now step next.
      let log : images_in (image 1) ≡ images_in (entry.content 1) ++ pages_of (entry.content 0) old = ap (λ (l : List ℕ). images_in l) (has.before image now) ∙ has.images in
      record {
        covered = covered_written saved image after pages step.covered (next.others 1 (omega arith)) next.changed
            (λ page below among. subst (λ (l : List (ℕ × List ℕ)). IsSome (lookup (nat_eq page) l)) (sym log) (some_image page (images_in (entry.content 1)) (entry.content 0) old (all page below among)));
        others = λ file other. next.others file (omega arith) ∙ step.others file other;
      })

  module _ (next : Checkpoint) where
    pub either_stops : EachStop entry mid (CoversEither saved next)
    either_stops = weaker entry mid (Covers saved) (CoversEither saved next) so_far (λ before image was step. record { covered = inl step.covered; others = step.others })

    -- the images are taken away
    pub clear_stops : IsSynced mid 0 → HasPages (mid.content 0) next → EachStop mid new (InFile 1 KeepsOrClears) → EachStop entry new (CoversEither saved next)
    clear_stops synced has clear = goes_on entry mid new (CoversEither saved next) (InFile 1 KeepsOrClears) either_stops clear (λ before image after was now step then. record {
      covered = ⊎_elim
          (λ (same : bodies (after 1) ≡ bodies (image 1)). inl (covered_same saved image after (covered_now image now) (then.others 0 (omega arith)) then.changed.whole same))
          (λ (none : bodies (after 1) ≡ []). inr (covered_clear next after then.changed.whole none (subst (λ (l : List ℕ). HasPages l next) (sym (then.others 0 (omega arith) ∙ synced image now)) has)))
          then.changed.either;
      others = λ file other. then.others file (omega arith) ∙ step.others file other;
    })

-- after the checkpoint
pub safe_after : (next : Checkpoint) (new : Told) → IsSynced new 0 → IsSynced new 1 → IsWhole (new.content 1) → bodies (new.content 1) ≡ [] → HasPages (new.content 0) next → IsSafe next new
safe_after next new main before whole none has = record {
  before = before;
  covered = λ image now. covered_clear next image (subst IsWhole (sym (before image now)) whole) (ap bodies (before image now) ∙ none) (subst (λ (l : List ℕ). HasPages l next) (sym (main image now)) has);
}

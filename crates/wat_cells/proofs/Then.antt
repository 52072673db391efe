-- One call of pages behind another.
use Rattle.std.proofs.Common.{◌≡◌, ◌≢◌, ℕ, ◌+◌, ◌*◌, ◌<◌, ◌≤◌, List, length, Option, Some, None, Result, Ok, Err, refl, sym, ◌∙◌, ap, subst, arith}
use Rattle.std.specs.Prelude.{IfSome, MatchOption, OnOk, IfOk}
use Rattle.wat_disk.specs.Disk.{Image, Told, Leaves, EachStop}
use Rattle.wat_disk.proofs.Stops.{goes_on, stays}
use Rattle.wat_restore.specs.Opening.{IsMissing}
use Rattle.wat_restore.specs.Restored.{Checkpoint, OnlyPages}
use Rattle.wat_restore.specs.Safe.{IsSafe, Covers}
use Rattle.wat_slot.specs.Cells.{IsCellPage}
use Rattle.wat_book.specs.Book.{Book, Writes, SameBook}
use Rattle.wat_images.specs.declared.refusal.PageRefusal.{PageRefusal}
use Rattle.wat_images.specs.declared.refusal.PageRefusal.TheVariants.{DiskFault, Damaged, PageLimit, Memory}
use Rattle.wat_images.specs.Refusal.{IfDamaged, IfPageLimit}
use Rattle.wat_pages.specs.declared.pages.Pages.{Pages}
use Rattle.wat_pages.specs.Pages.{limit_of, stored_of, header_of, IsPagesOf, SameHead}
use Rattle.wat_cells.specs.Going.{Goes, Keeps}
use Rattle.wat_cells.specs.Wrote.{WroteCells}

pub covers_then : (saved : Checkpoint) (old mid new : Told) → EachStop old mid (Covers saved) → EachStop mid new (Covers saved) → EachStop old new (Covers saved)
covers_then saved old mid new one two = goes_on old mid new (Covers saved) (Covers saved) one two
    (λ before image after was left first second. record { covered = second.covered; others = λ file from. second.others file from ∙ first.others file from })

pub goes_then : (old mid new : Told) (a b c : Pages) → Goes old mid a b → Keeps old mid b → Goes mid new b c → Goes old new a c
goes_then old mid new a b c one kept two = record {
  others = λ file from. two.others file from ∙ one.others file from;
  limit = two.limit ∙ one.limit;
  stored = two.stored ∙ one.stored;
  header = two.header ∙ one.header;
  stops = λ saved safe. covers_then saved old mid new (one.stops saved safe) (two.stops saved (kept.safe saved safe));
}

pub keeps_then : (old mid new : Told) (b c : Pages) → Keeps old mid b → Keeps mid new c → Keeps old new c
keeps_then old mid new b c one two = record { known = two.known; safe = λ saved safe. two.safe saved (one.safe saved safe) }

pub some_of : {A : Type 0} (P : A → Type 0) (o : Option A) (x : A) → o ≡ Some x → IfSome o P → P x
some_of P o x is there = let at : IfSome (Some x) P = subst (λ y. IfSome y P) is there in at

pub some_to : {A : Type 0} (o : Option A) (P Q : A → Type 0) → ((x : A) → P x → Q x) → IfSome o P → IfSome o Q
some_to None P Q f is = tt
some_to (Some x) P Q f is = f x is

pub match_some : {A : Type 0} (N : Type 0) (P : A → Type 0) (o : Option A) (x : A) → o ≡ Some x → MatchOption o N P → P x
match_some N P o x is there = let at : MatchOption (Some x) N P = subst (λ y. MatchOption y N P) is there in at

pub match_none : {A : Type 0} (N : Type 0) (P : A → Type 0) (o : Option A) → o ≡ None → MatchOption o N P → N
match_none N P o is there = let at : MatchOption None N P = subst (λ y. MatchOption y N P) is there in at

-- a page was written, behind a call that changed none
pub wrote_then : (page : ℕ) (cells : List (List ℕ)) (a b c : Book) → page < a.count → SameBook a b → WroteCells page cells b c → WroteCells page cells a c
wrote_then page cells a b c below same w = record {
  bytes = w.bytes;
  are = w.are;
  writes = record {
    others = λ p less apart. w.writes.others p (omega (arith, less, same.count)) apart ∙ same.pages p less;
    is = w.writes.is;
    count = w.writes.count ∙ same.count;
    first = w.writes.first ∙ same.first;
  };
}

pub same_then : (a b c : Book) → SameBook a b → SameBook b c → SameBook a c
same_then a b c one two = record {
  pages = λ p less. two.pages p (omega (arith, less, one.count)) ∙ one.pages p less;
  count = two.count ∙ one.count;
  first = two.first ∙ one.first;
}

pub ok_from : {T E : Type 0} (r : Result T E) (Q : Type 0) → ((x : T) → r ≡ Ok x → Q) → OnOk r Q
ok_from (Ok x) Q f = f x refl
ok_from (Err e) Q f = tt

pub ok_at : {T E : Type 0} (r : Result T E) (Q : Type 0) (x : T) → r ≡ Ok x → OnOk r Q → Q
ok_at (Ok y) Q x is there = there
ok_at (Err e) Q x is there = absurd (let no : Err e ≡ Ok x = is in cc)

pub damaged_to : (refusal : PageRefusal) (P Q : ℕ → ℕ → Type 0) → ((file at : ℕ) → P file at → Q file at) → IfDamaged refusal P → IfDamaged refusal Q
damaged_to DiskFault P Q f is = tt
damaged_to (Damaged file at) P Q f is = f file.0 at is
damaged_to (PageLimit count limit) P Q f is = tt
damaged_to Memory P Q f is = tt

pub limit_to : (refusal : PageRefusal) (P Q : ℕ → ℕ → Type 0) → ((count limit : ℕ) → P count limit → Q count limit) → IfPageLimit refusal P → IfPageLimit refusal Q
limit_to DiskFault P Q f is = tt
limit_to (Damaged file at) P Q f is = tt
limit_to (PageLimit count limit) P Q f is = f count limit is
limit_to Memory P Q f is = tt

-- ---- no call, and one

pub goes_nowhere : (told : Told) (pages : Pages) → Goes told told pages pages
goes_nowhere told pages = record {
  others = λ file from. refl;
  limit = refl;
  stored = refl;
  header = refl;
  stops = λ saved safe. stays told (Covers saved) (λ image left. record { covered = safe.covered image left; others = λ file from. refl });
}

pub keeps_still : (told : Told) (pages : Pages) → IsPagesOf told pages → Keeps told told pages
keeps_still told pages known = record { known = known; safe = λ saved safe. safe }

pub goes_by : (old new : Told) (a b : Pages) → OnlyPages old.content new.content → SameHead a b → ((saved : Checkpoint) → IsSafe saved old → EachStop old new (Covers saved)) → Goes old new a b
goes_by old new a b others head stops = record { others = others; limit = head.limit; stored = head.stored; header = head.header; stops = stops }

pub goes_all : (old new : Told) (a b : Pages) → OnlyPages old.content new.content → limit_of b ≡ limit_of a → stored_of b ≡ stored_of a → header_of b ≡ header_of a → ((saved : Checkpoint) → IsSafe saved old → EachStop old new (Covers saved)) → Goes old new a b
goes_all old new a b others limit stored header stops = record { others = others; limit = limit; stored = stored; header = header; stops = stops }

pub keeps_by : (old new : Told) (b : Pages) → IsPagesOf new b → ((saved : Checkpoint) → IsSafe saved old → IsSafe saved new) → Keeps old new b
keeps_by old new b known safe = record { known = known; safe = safe }

-- a page that isn't in the files is no row page
pub cut_short : (refusal : PageRefusal) (files : Image) (page stored : ℕ) (bytes : List ℕ) → IfDamaged refusal (λ file at. (page < stored) × IsMissing files page file at) → IfDamaged refusal (λ file at. length bytes ≢ 4096)
    → IfDamaged refusal (λ file at. (file ≡ 0) × (at ≡ 4096 * page) × ((cells : List (List ℕ)) → IsCellPage bytes cells → ⊥))
cut_short DiskFault files page stored bytes missing cut = tt
cut_short (Damaged file at) files page stored bytes missing cut = (missing.1.in_main, missing.1.place, λ cells is. cut is.whole)
cut_short (PageLimit count limit) files page stored bytes missing cut = tt
cut_short Memory files page stored bytes missing cut = tt

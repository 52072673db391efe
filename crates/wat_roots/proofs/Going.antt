-- One call that reads behind another.
use Rattle.std.proofs.Common.{◌≡◌, ℕ, ◌*◌, ◌<◌, List, refl, ◌∙◌}
use Rattle.wat_disk.specs.Disk.{Told, EachStop}
use Rattle.wat_restore.specs.Restored.{Checkpoint, OnlyPages}
use Rattle.wat_restore.specs.Safe.{IsSafe, Covers}
use Rattle.wat_book.specs.Book.{Book, SameBook}
use Rattle.wat_images.specs.declared.refusal.PageRefusal.{PageRefusal}
use Rattle.wat_images.specs.Refusal.{IfDamaged}
use Rattle.wat_images.proofs.Writing.{if_damaged}
use Rattle.wat_pages.specs.declared.pages.Pages.{Pages}
use Rattle.wat_pages.specs.Pages.{IsPagesOf, SameHead, book_of}
use Rattle.wat_cells.specs.Going.{Goes, Keeps}
use Rattle.wat_cells.proofs.Then.{goes_nowhere, keeps_still, goes_by, keeps_by, goes_then, keeps_then, same_then}
use Rattle.wat_files.specs.Formed.{IsAtPage}
use Rattle.wat_roots.specs.Went.{Went, Stays}

pub head_same : (a : Pages) → SameHead a a
head_same a = record { count = refl; limit = refl; free = refl; stored = refl; header = refl }

pub head_then : (a b c : Pages) → SameHead a b → SameHead b c → SameHead a c
head_then a b c one two = record {
  count = two.count ∙ one.count;
  limit = two.limit ∙ one.limit;
  free = two.free ∙ one.free;
  stored = two.stored ∙ one.stored;
  header = two.header ∙ one.header;
}

pub book_same : (a : Book) → SameBook a a
book_same a = record { pages = λ page below. refl; count = refl; first = refl }

pub went_nowhere : (told : Told) (pages : Pages) → Went told told pages pages
went_nowhere told pages = record { head = head_same pages; goes = goes_nowhere told pages }

pub stays_still : (told : Told) (pages : Pages) → IsPagesOf told pages → Stays told told pages pages
stays_still told pages known = record { pages = book_same (book_of told pages); keeps = keeps_still told pages known }

pub went_then : (old mid new : Told) (a b c : Pages) → Went old mid a b → Stays old mid a b → Went mid new b c → Went old new a c
went_then old mid new a b c one stayed two = record {
  head = head_then a b c one.head two.head;
  goes = goes_then old mid new a b c one.goes stayed.keeps two.goes;
}

pub stays_then : (old mid new : Told) (a b c : Pages) → Stays old mid a b → Stays mid new b c → Stays old new a c
stays_then old mid new a b c one two = record {
  pages = same_then (book_of old a) (book_of mid b) (book_of new c) one.pages two.pages;
  keeps = keeps_then old mid new b c one.keeps two.keeps;
}

pub went_by : (old new : Told) (a b : Pages) → OnlyPages old.content new.content → SameHead a b → ((saved : Checkpoint) → IsSafe saved old → EachStop old new (Covers saved)) → Went old new a b
went_by old new a b others head stops = record { head = head; goes = goes_by old new a b others head stops }

pub stays_by : (old new : Told) (a b : Pages) → SameBook (book_of old a) (book_of new b) → IsPagesOf new b → ((saved : Checkpoint) → IsSafe saved old → IsSafe saved new) → Stays old new a b
stays_by old new a b same known safe = record { pages = same; keeps = keeps_by old new b known safe }

-- a place that is told as that of a page
pub at_page : (refusal : PageRefusal) (P Q : ℕ → Type 0) → ((page : ℕ) → P page → Q page) → IfDamaged refusal (λ file at. (file ≡ 0) × (here : ℕ) × (at ≡ 4096 * here) × P here) → IfDamaged refusal (λ file at. IsAtPage file at Q)
at_page refusal P Q says = if_damaged refusal (λ file at. (file ≡ 0) × (here : ℕ) × (at ≡ 4096 * here) × P here) (λ file at. IsAtPage file at Q)
    (λ file at is. record { page = is.1; stops = says is.1 is.3; in_main = is.0; place = is.2 })

pub page_to : (refusal : PageRefusal) (P Q : ℕ → Type 0) → ((page : ℕ) → P page → Q page) → IfDamaged refusal (λ file at. IsAtPage file at P) → IfDamaged refusal (λ file at. IsAtPage file at Q)
page_to refusal P Q says = if_damaged refusal (λ file at. IsAtPage file at P) (λ file at. IsAtPage file at Q)
    (λ file at is. record { page = is.page; stops = says is.page is.stops; in_main = is.in_main; place = is.place })

-- the first page of all
pub at_first : (refusal : PageRefusal) (Q : ℕ → Type 0) → Q 0 → IfDamaged refusal (λ file at. (file ≡ 0) × (at ≡ 0)) → IfDamaged refusal (λ file at. IsAtPage file at Q)
at_first refusal Q is = if_damaged refusal (λ file at. (file ≡ 0) × (at ≡ 0)) (λ file at. IsAtPage file at Q)
    (λ file at there. record { page = 0; stops = is; in_main = there.0; place = there.1 })

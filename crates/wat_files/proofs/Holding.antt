-- A page is in the files with its bytes, and with no others.
use Rattle.std.proofs.Common.{◌≡◌, ℕ, ◌+◌, ◌*◌, ◌≤◌, Bool, true, false, List, length, Option, Some, None, refl, ◌∙◌, ap, if◌then◌else◌}
use Rattle.std.specs.Prelude.{nat_le, MatchOption}
use Rattle.std.specs.Option.{option_or}
use Rattle.std.proofs.lemmas.Bool.{le-leb, leb-true}
use Rattle.wat_disk.specs.Disk.{Image}
use Rattle.wat_restore.specs.Restored.{HasPage, StandsIn, page_at, image_of}
use Rattle.wat_files.specs.Pages.{page_in, page_of}

stands_at : (main bytes : List ℕ) (page : ℕ) (image : Option (List ℕ)) → MatchOption image (HasPage main page bytes) (λ i. i ≡ bytes) → option_or image (page_in main page) ≡ Some bytes
stands_at main bytes page None has = ap (λ b. if b then Some (page_at main page) else None) (le-leb (4096 * page + 4096) (length main) has.whole) ∙ ap Some has.is
stands_at main bytes page (Some image) same = ap Some same

pub page_stands : (files : Image) (page : ℕ) (bytes : List ℕ) → StandsIn files page bytes → page_of files page ≡ Some bytes
page_stands files page bytes stands = stands_at (files 0) bytes page (image_of files page) stands

same_bytes : (a b : List ℕ) → Some a ≡ Some b → a ≡ b
same_bytes a b e = cc

in_main : (main bytes : List ℕ) (page : ℕ) (b : Bool) → nat_le (4096 * page + 4096) (length main) ≡ b → (if b then Some (page_at main page) else None) ≡ Some bytes → HasPage main page bytes
in_main main bytes page true is e = record { whole = leb-true (4096 * page + 4096) (length main) is; is = same_bytes (page_at main page) bytes e }
in_main main bytes page false is e = cc

at_stands : (main bytes : List ℕ) (page : ℕ) (image : Option (List ℕ)) → option_or image (page_in main page) ≡ Some bytes → MatchOption image (HasPage main page bytes) (λ i. i ≡ bytes)
at_stands main bytes page None e = in_main main bytes page (nat_le (4096 * page + 4096) (length main)) refl e
at_stands main bytes page (Some image) e = same_bytes image bytes e

pub stands_page : (files : Image) (page : ℕ) (bytes : List ℕ) → page_of files page ≡ Some bytes → StandsIn files page bytes
stands_page files page bytes e = at_stands (files 0) bytes page (image_of files page) e

-- Whole pages are the pages of files.
use Rattle.std.proofs.Common.{◌≡◌, inl, inr, ℕ, ◌+◌, ◌*◌, ◌==◌, ◌&&◌, Bool, true, false, List, [], ◌∷◌, length, drop, Option, Some, None, refl, sym, ◌∙◌, ap, arith, length-drop, if◌then◌else◌}
use Rattle.std.specs.Prelude.{nat_eq, nat_lt, nat_le, unwrap_or, cond}
use Rattle.std.specs.Option.{option_or}
use Rattle.std.specs.Map.{lookup}
use Rattle.std.proofs.lemmas.Bool.{cases_Bool, leb-true, leb-false, eq-eqb, ne_eqb}
use Rattle.std.proofs.lemmas.List.{length-take, length-take-le}
use Rattle.wat_disk.specs.Disk.{Image}
use Rattle.wat_gate.specs.Bodies.{bodies}
use Rattle.wat_restore.specs.Images.{AllWhole}
use Rattle.wat_restore.specs.Restored.{page_at, image_of, images_in, stored_page}
use Rattle.wat_restore.proofs.Covering.{all_whole}
use Rattle.wat_book.specs.Book.{Book}
use Rattle.wat_files.specs.Pages.{page_in, page_of, first_pages}
use Rattle.wat_free_list.specs.Whole.{whole_pages}

image_whole : (images : List (ℕ × List ℕ)) (page : ℕ) (image : List ℕ) → AllWhole images → lookup (nat_eq page) images ≡ Some image → length image ≡ 4096
image_whole [] page image all is = absurd (let no : None ≡ Some image = is in cc)
image_whole (x ∷ images) page image all is = by (image_whole images page image all.1) (nat_eq page x.0) is
  where
    by : (lookup (nat_eq page) images ≡ Some image → length image ≡ 4096) → (b : Bool) → cond b (Some x.1) (lookup (nat_eq page) images) ≡ Some image → length image ≡ 4096
    by rest true here = let same : x.1 ≡ image = let is : Some x.1 ≡ Some image = here in cc in sym (ap length same) ∙ all.0
    by rest false later = rest later

in_main : (main : List ℕ) (page : ℕ) → (if length (page_at main page) == 4096 then Some (page_at main page) else None) ≡ page_in main page
in_main main page = elim (cases_Bool (nat_le (4096 * page + 4096) (length main))) [
  | inl is ↦
      let long = leb-true (4096 * page + 4096) (length main) is in
      let whole : length (page_at main page) ≡ 4096 = length-take-le 4096 (drop (4096 * page) main) (omega (arith, long, length-drop (4096 * page) main)) in
      ap (λ b. if b then Some (page_at main page) else None) (eq-eqb (length (page_at main page)) 4096 whole) ∙ sym (ap (λ b. if b then Some (page_at main page) else None) is)
  | inr is ↦
      let short = leb-false (4096 * page + 4096) (length main) is in
      ap (λ b. if b then Some (page_at main page) else None)
      (ne_eqb (length (page_at main page)) 4096 (λ whole. absurd (omega (arith, short, whole, length-take 4096 (drop (4096 * page) main), length-drop (4096 * page) main))))
      ∙ sym (ap (λ b. if b then Some (page_at main page) else None) is)
]

stored_whole : (files : Image) (page : ℕ) → (if length (stored_page files page) == 4096 then Some (stored_page files page) else None) ≡ page_of files page
stored_whole files page = by (image_of files page) refl
  where
    by : (o : Option (List ℕ)) → image_of files page ≡ o
        → (if length (unwrap_or o (page_at (files 0) page)) == 4096 then Some (unwrap_or o (page_at (files 0) page)) else None) ≡ option_or o (page_in (files 0) page)
    by None is = in_main (files 0) page
    by (Some image) is = ap (λ b. if b then Some image else None) (eq-eqb (length image) 4096 (image_whole (images_in (files 1)) page image (all_whole (bodies (files 1))) is))

pub whole_first : (book : Book) (files : Image) → ((page : ℕ) → book.page page ≡ stored_page files page) → whole_pages book ≡ first_pages files book.count
whole_first book files stored = λ i page. each page i
  where
    at : (page : ℕ) (b : Bool) → (if b && (length (book.page page) == 4096) then Some (book.page page) else None) ≡ (if b then page_of files page else None)
    at page true = ap (λ (bytes : List ℕ). if length bytes == 4096 then Some bytes else None) (stored page) ∙ stored_whole files page
    at page false = refl

    each : (page : ℕ) → whole_pages book page ≡ first_pages files book.count page
    each page = at page (nat_lt page book.count)

-- Pages that are whole, and lists of free pages.
use Rattle.std.proofs.Common.{◌≡◌, ◌≢◌, inl, inr, ℕ, ◌*◌, ◌<◌, ◌≤◌, ◌==◌, ◌&&◌, Bool, true, false, List, [], ◌∷◌, ◌++◌, length, Option, refl, sym, ◌∙◌, ap, subst, arith}
use Rattle.std.specs.Prelude.{nat_eq, nat_lt, Some, None, if◌then◌else◌}
use Rattle.std.specs.List.{list_any, IsDistinct}
use Rattle.std.proofs.lemmas.Bool.{cases_Bool, ltb-true, lt-ltb, le-ltb, eq-eqb, ne_eqb}
use Rattle.wat_disk.specs.Disk.{Image}
use Rattle.wat_restore.specs.Opening.{IsMissing}
use Rattle.wat_book.specs.Book.{Book, Section, IsFreePage, IsFreeChain, SameBook}
use Rattle.wat_images.specs.declared.refusal.PageRefusal.{PageRefusal}
use Rattle.wat_images.specs.declared.refusal.PageRefusal.TheVariants.{DiskFault, Damaged, PageLimit, Memory}
use Rattle.wat_images.specs.Refusal.{IfDamaged}
use Rattle.wat_images.proofs.Writing.{if_damaged}
use Rattle.wat_files.specs.Chains.{BeginsFree, FreeBreaksAt}
use Rattle.wat_free_list.specs.Whole.{whole_pages}

-- ---- lists

pub free_longer : (pages : Section) (first here next : ℕ) (list : List ℕ) → BeginsFree pages first list here → 0 < here → IsFreePage (pages here) next → BeginsFree pages first (list ++ here ∷ []) next
free_longer pages first here next [] begins some free = (begins, some, next, free, refl)
free_longer pages first here next (page ∷ rest) begins some free = (begins.0, begins.1, begins.2, begins.3, free_longer pages begins.2 here next rest begins.4 some free)

pub free_ends : (pages : Section) (first : ℕ) (list : List ℕ) → BeginsFree pages first list 0 → IsFreeChain pages first list
free_ends pages first [] begins = begins
free_ends pages first (page ∷ rest) begins = (begins.0, begins.1, begins.2, begins.3, free_ends pages begins.2 rest begins.4)

-- ---- pages

-- no free page is here
abbrev pub IsNoneFree : Option (List ℕ) → Type 0
IsNoneFree page = (next : ℕ) → IsFreePage page next → ⊥

pub whole_is : (book : Book) (page : ℕ) → page < book.count → length (book.page page) ≡ 4096 → whole_pages book page ≡ Some (book.page page)
whole_is book page below whole =
    ap (λ b. if b && (length (book.page page) == 4096) then Some (book.page page) else None) (lt-ltb page book.count below)
    ∙ ap (λ b. if b then Some (book.page page) else None) (eq-eqb (length (book.page page)) 4096 whole)

pub whole_past : (book : Book) (page : ℕ) → book.count ≤ page → whole_pages book page ≡ None
whole_past book page far = ap (λ b. if b && (length (book.page page) == 4096) then Some (book.page page) else None) (le-ltb page book.count far)

pub whole_cut : (book : Book) (page : ℕ) → page < book.count → length (book.page page) ≢ 4096 → whole_pages book page ≡ None
whole_cut book page below cut =
    ap (λ b. if b && (length (book.page page) == 4096) then Some (book.page page) else None) (lt-ltb page book.count below)
    ∙ ap (λ b. if b then Some (book.page page) else None) (ne_eqb (length (book.page page)) 4096 cut)

pub whole_same : (a b : Book) → SameBook a b → (page : ℕ) → whole_pages b page ≡ whole_pages a page
whole_same a b same page = elim (cases_Bool (nat_lt page a.count)) [
  | inl within ↦ (λ i. if nat_lt page (same.count i) && (length (same.pages page (ltb-true page a.count within) i) == 4096) then Some (same.pages page (ltb-true page a.count within) i) else None)
  | inr out ↦
      ap (λ n. if nat_lt page n && (length (b.page page) == 4096) then Some (b.page page) else None) same.count
      ∙ ap (λ v. if v && (length (b.page page) == 4096) then Some (b.page page) else None) out
      ∙ sym (ap (λ v. if v && (length (a.page page) == 4096) then Some (a.page page) else None) out)
]

-- ---- a page that is read

pub free_read : (book : Book) (page : ℕ) (bytes : List ℕ) (next : ℕ) → page < book.count → bytes ≡ book.page page → length bytes ≡ 4096 → IsFreePage (Some bytes) next → IsFreePage (whole_pages book page) next
free_read book page bytes next below is whole = subst (λ o. IsFreePage o next) (ap Some is ∙ sym (whole_is book page below (ap length (sym is) ∙ whole)))

pub none_read : (book : Book) (page : ℕ) (bytes : List ℕ) → page < book.count → bytes ≡ book.page page → length bytes ≡ 4096 → IsNoneFree (Some bytes) → IsNoneFree (whole_pages book page)
none_read book page bytes below is whole = subst (λ o. IsNoneFree o) (ap Some is ∙ sym (whole_is book page below (ap length (sym is) ∙ whole)))

none_at : (o : Option (List ℕ)) → o ≡ None → IsNoneFree o
none_at o is = subst (λ p. IsNoneFree p) (sym is) (λ next free. free)

-- what a refusal at one page says
abbrev pub Refuses : Section → ℕ → PageRefusal → Type 0
Refuses pages page refusal = IfDamaged refusal (λ file at. (file ≡ 0) × (at ≡ 4096 * page) × IsNoneFree (pages page))

pub refused_none : (refusal : PageRefusal) (book : Book) (page : ℕ) → IfDamaged refusal (λ file at. (file ≡ 0) × (at ≡ 4096 * page)) → IsNoneFree (whole_pages book page) → Refuses (whole_pages book) page refusal
refused_none refusal book page place none =
    if_damaged refusal (λ file at. (file ≡ 0) × (at ≡ 4096 * page)) (λ file at. (file ≡ 0) × (at ≡ 4096 * page) × IsNoneFree (whole_pages book page)) (λ file at is. (is.0, is.1, none)) place

pub refused_past : (refusal : PageRefusal) (book : Book) (page : ℕ) → IfDamaged refusal (λ file at. (file ≡ 0) × (at ≡ 4096 * page)) → book.count ≤ page → Refuses (whole_pages book) page refusal
refused_past refusal book page place far = refused_none refusal book page place (none_at (whole_pages book page) (whole_past book page far))

both_damaged : (refusal : PageRefusal) (P Q R : ℕ → ℕ → Type 0) → ((file at : ℕ) → P file at → Q file at → R file at) → IfDamaged refusal P → IfDamaged refusal Q → IfDamaged refusal R
both_damaged DiskFault P Q R says one two = tt
both_damaged (Damaged file at) P Q R says one two = says file.0 at one two
both_damaged (PageLimit count limit) P Q R says one two = tt
both_damaged Memory P Q R says one two = tt

-- a page that isn't in the files
pub refused_missing : (refusal : PageRefusal) (book : Book) (files : Image) (page stored : ℕ) → page < book.count → IfDamaged refusal (λ file at. (page < stored) × IsMissing files page file at)
    → IfDamaged refusal (λ file at. length (book.page page) ≢ 4096) → Refuses (whole_pages book) page refusal
refused_missing refusal book files page stored below missing cut =
    both_damaged refusal (λ file at. (page < stored) × IsMissing files page file at) (λ file at. length (book.page page) ≢ 4096) (λ file at. (file ≡ 0) × (at ≡ 4096 * page) × IsNoneFree (whole_pages book page))
    (λ file at m c. (m.1.in_main, m.1.place, none_at (whole_pages book page) (whole_cut book page below c))) missing cut

-- ---- a list that breaks

abbrev pub Breaks : Section → List ℕ → ℕ → PageRefusal → Type 0
Breaks pages met first refusal = IfDamaged refusal (λ file at. (file ≡ 0) × (here : ℕ) × (at ≡ 4096 * here) × FreeBreaksAt pages met first here)

-- at a page that isn't free
pub breaks_here : (refusal : PageRefusal) (old now : Book) (met list : List ℕ) (first here : ℕ) → SameBook old now → BeginsFree (whole_pages old) first list here → IsDistinct nat_eq (met ++ list) → 0 < here
    → Refuses (whole_pages now) here refusal → Breaks (whole_pages old) met first refusal
breaks_here refusal old now met list first here same begins once some =
    if_damaged refusal (λ file at. (file ≡ 0) × (at ≡ 4096 * here) × IsNoneFree (whole_pages now here)) (λ file at. (file ≡ 0) × (page : ℕ) × (at ≡ 4096 * page) × FreeBreaksAt (whole_pages old) met first page)
    (λ file at is. (is.0, here, is.1, record { list = list; begins = begins; once = once; some = some; broken = inr (subst (λ o. IsNoneFree o) (whole_same old now same here) is.2) }))

-- at a page that came before
pub breaks_again : (refusal : PageRefusal) (old : Book) (met list : List ℕ) (first here : ℕ) → BeginsFree (whole_pages old) first list here → IsDistinct nat_eq (met ++ list) → 0 < here → list_any (nat_eq here) (met ++ list) ≡ true
    → IfDamaged refusal (λ file at. (file ≡ 0) × (at ≡ 4096 * here)) → Breaks (whole_pages old) met first refusal
breaks_again refusal old met list first here begins once some came =
    if_damaged refusal (λ file at. (file ≡ 0) × (at ≡ 4096 * here)) (λ file at. (file ≡ 0) × (page : ℕ) × (at ≡ 4096 * page) × FreeBreaksAt (whole_pages old) met first page)
    (λ file at is. (is.0, here, is.1, record { list = list; begins = begins; once = once; some = some; broken = inl came }))

-- one page more
pub free_on : (old now : Book) (first here next : ℕ) (list : List ℕ) → SameBook old now → BeginsFree (whole_pages old) first list here → 0 < here → IsFreePage (whole_pages now here) next → BeginsFree (whole_pages old) first (list ++ here ∷ []) next
free_on old now first here next list same begins some free =
    free_longer (whole_pages old) first here next list begins some (subst (λ o. IsFreePage o next) (whole_same old now same here) free)

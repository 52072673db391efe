-- One call of pages behind another, and what a page that is read says of a chain.
use Rattle.std.proofs.Common.{◌≡◌, ◌≢◌, inl, inr, ℕ, ◌*◌, ◌<◌, ◌≤◌, true, List, [], ◌∷◌, ◌++◌, length, refl, sym, ◌∙◌, ap, subst, arith}
use Rattle.std.specs.Prelude.{nat_eq, nat_lt, Some, None, if◌then◌else◌}
use Rattle.std.specs.List.{list_any, IsDistinct}
use Rattle.std.proofs.lemmas.Bool.{cases_Bool, ltb-true}
use Rattle.wat_disk.specs.Disk.{Image, Told, EachStop}
use Rattle.wat_disk.proofs.Stops.{stays, goes_on}
use Rattle.wat_restore.specs.Opening.{IsMissing}
use Rattle.wat_restore.specs.Restored.{Checkpoint}
use Rattle.wat_restore.specs.Safe.{IsSafe, Covers}
use Rattle.wat_book.specs.Book.{Book, Section, SameBook}
use Rattle.wat_book.specs.Chains.{IsChainPage, IsLink, IsNoLink, BeginsChain, IsChain, all_pages, BreaksAt}
use Rattle.wat_book.proofs.Chaining.{in_all, sound, chain_longer}
use Rattle.wat_images.specs.declared.refusal.PageRefusal.{PageRefusal}
use Rattle.wat_images.specs.declared.refusal.PageRefusal.TheVariants.{DiskFault, Damaged, PageLimit, Memory}
use Rattle.wat_images.specs.Refusal.{IfDamaged, IfPageLimit}
use Rattle.wat_images.proofs.Writing.{if_damaged}

pub covers_none : (saved : Checkpoint) (told : Told) → IsSafe saved told → EachStop told told (Covers saved)
covers_none saved told safe = stays told (Covers saved) (λ image left. record { covered = safe.covered image left; others = λ file from. refl })

pub covers_then : (saved : Checkpoint) (old mid new : Told) → EachStop old mid (Covers saved) → EachStop mid new (Covers saved) → EachStop old new (Covers saved)
covers_then saved old mid new one two = goes_on old mid new (Covers saved) (Covers saved) one two
    (λ before image after was left first second. record { covered = second.covered; others = λ file from. second.others file from ∙ first.others file from })

pub if_page_limit : (refusal : PageRefusal) (P Q : ℕ → ℕ → Type 0) → ((count limit : ℕ) → P count limit → Q count limit) → IfPageLimit refusal P → IfPageLimit refusal Q
if_page_limit DiskFault P Q says is = tt
if_page_limit (Damaged file at) P Q says is = tt
if_page_limit (PageLimit count limit) P Q says is = says count limit is
if_page_limit Memory P Q says is = tt

-- ---- pages that have not changed

pub same_then : (a b c : Book) → SameBook a b → SameBook b c → SameBook a c
same_then a b c one two = record {
  pages = λ page below. two.pages page (omega (arith, below, one.count)) ∙ one.pages page below;
  count = two.count ∙ one.count;
  first = two.first ∙ one.first;
}

pub all_same : (a b : Book) → SameBook a b → (page : ℕ) → all_pages b page ≡ all_pages a page
all_same a b same page = elim (cases_Bool (nat_lt page a.count)) [
  | inl within ↦ (λ i. if nat_lt page (same.count i) then Some (same.pages page (ltb-true page a.count within) i) else None)
  | inr out ↦ ap (λ n. if nat_lt page n then Some (b.page page) else None) same.count ∙ ap (λ v. if v then Some (b.page page) else None) out ∙ sym (ap (λ v. if v then Some (a.page page) else None) out)
]

pub link_before : (a b : Book) (page next : ℕ) (part : List ℕ) → SameBook a b → IsLink (all_pages b page) next part → IsLink (all_pages a page) next part
link_before a b page next part same = subst (λ o. IsLink o next part) (all_same a b same page)

pub no_link_before : (a b : Book) (page : ℕ) → SameBook a b → IsNoLink (all_pages b page) → IsNoLink (all_pages a page)
no_link_before a b page same = subst (λ o. IsNoLink o) (all_same a b same page)

-- ---- a page that is read

both_damaged : (refusal : PageRefusal) (P Q R : ℕ → ℕ → Type 0) → ((file at : ℕ) → P file at → Q file at → R file at) → IfDamaged refusal P → IfDamaged refusal Q → IfDamaged refusal R
both_damaged DiskFault P Q R says one two = tt
both_damaged (Damaged file at) P Q R says one two = says file.0 at one two
both_damaged (PageLimit count limit) P Q R says one two = tt
both_damaged Memory P Q R says one two = tt

module _ (book : Book) (page : ℕ) where
  pub no_link_past : book.count ≤ page → IsNoLink (all_pages book page)
  no_link_past far = subst (λ o. IsNoLink o) (sym none) (λ next part link. link)
    where
      none : all_pages book page ≡ None
      none = elim (cases_Bool (nat_lt page book.count)) [
        | inl within ↦ absurd (let less = ltb-true page book.count within in omega (arith, less, far))
        | inr out ↦ ap (λ b. if b then Some (book.page page) else None) out
      ]

  module _ (below : page < book.count) where
    pub no_link_cut : length (book.page page) ≢ 4096 → IsNoLink (all_pages book page)
    no_link_cut cut = subst (λ o. IsNoLink o) (sym (in_all book page below)) (λ next part link. cut link.whole)

    pub no_link_read : (bytes : List ℕ) → bytes ≡ book.page page → ((next : ℕ) (part : List ℕ) → IsChainPage bytes next part → ⊥) → IsNoLink (all_pages book page)
    no_link_read bytes is none = subst (λ o. IsNoLink o) (ap Some is ∙ sym (in_all book page below)) none

    pub link_read : (bytes part : List ℕ) (next : ℕ) → bytes ≡ book.page page → IsChainPage bytes next part → IsLink (all_pages book page) next part
    link_read bytes part next is link = subst (λ o. IsLink o next part) (ap Some is ∙ sym (in_all book page below)) link

-- a page that isn't in the files
pub no_link_missing : (refusal : PageRefusal) (book : Book) (files : Image) (page stored : ℕ) → page < book.count → IfDamaged refusal (λ file at. (page < stored) × IsMissing files page file at) → IfDamaged refusal (λ file at. length (book.page page) ≢ 4096)
    → IfDamaged refusal (λ file at. (file ≡ 0) × (at ≡ 4096 * page) × IsNoLink (all_pages book page))
no_link_missing refusal book files page stored below missing cut =
    both_damaged refusal (λ file at. (page < stored) × IsMissing files page file at) (λ file at. length (book.page page) ≢ 4096) (λ file at. (file ≡ 0) × (at ≡ 4096 * page) × IsNoLink (all_pages book page))
    (λ file at m c. (m.1.in_main, m.1.place, no_link_cut book page below c)) missing cut

pub damaged_here : (refusal : PageRefusal) (book : Book) (page : ℕ) → IfDamaged refusal (λ file at. (file ≡ 0) × (at ≡ 4096 * page)) → IsNoLink (all_pages book page) → IfDamaged refusal (λ file at. (file ≡ 0) × (at ≡ 4096 * page) × IsNoLink (all_pages book page))
damaged_here refusal book page place none = if_damaged refusal (λ file at. (file ≡ 0) × (at ≡ 4096 * page)) (λ file at. (file ≡ 0) × (at ≡ 4096 * page) × IsNoLink (all_pages book page)) (λ file at is. (is.0, is.1, none)) place

-- ---- a chain that breaks

-- what a refusal of a chain says
abbrev pub Breaks : Section → List ℕ → ℕ → PageRefusal → Type 0
Breaks pages met first refusal = IfDamaged refusal (λ file at. (file ≡ 0) × (here : ℕ) × (at ≡ 4096 * here) × BreaksAt pages met first here)

-- at a page that is no page of a chain
pub breaks_here : (refusal : PageRefusal) (old now : Book) (met list payload : List ℕ) (first here : ℕ) → SameBook old now → BeginsChain (all_pages old) first list payload here → IsDistinct nat_eq (met ++ list) → 0 < here
    → IfDamaged refusal (λ file at. (file ≡ 0) × (at ≡ 4096 * here) × IsNoLink (all_pages now here)) → Breaks (all_pages old) met first refusal
breaks_here refusal old now met list payload first here same begins once some =
    if_damaged refusal (λ file at. (file ≡ 0) × (at ≡ 4096 * here) × IsNoLink (all_pages now here)) (λ file at. (file ≡ 0) × (here : ℕ) × (at ≡ 4096 * here) × BreaksAt (all_pages old) met first here)
    (λ file at is. (is.0, here, is.1, record { list = list; payload = payload; begins = begins; once = once; some = some; broken = inr (no_link_before old now here same is.2) }))

-- at a page that came before
pub breaks_again : (refusal : PageRefusal) (old : Book) (met list payload : List ℕ) (first here : ℕ) → BeginsChain (all_pages old) first list payload here → IsDistinct nat_eq (met ++ list) → 0 < here → list_any (nat_eq here) (met ++ list) ≡ true
    → IfDamaged refusal (λ file at. (file ≡ 0) × (at ≡ 4096 * here)) → Breaks (all_pages old) met first refusal
breaks_again refusal old met list payload first here begins once some came =
    if_damaged refusal (λ file at. (file ≡ 0) × (at ≡ 4096 * here)) (λ file at. (file ≡ 0) × (here : ℕ) × (at ≡ 4096 * here) × BreaksAt (all_pages old) met first here)
    (λ file at is. (is.0, here, is.1, record { list = list; payload = payload; begins = begins; once = once; some = some; broken = inl came }))

-- a chain breaks nowhere
pub breaks_none : (refusal : PageRefusal) (pages : Section) (first : ℕ) (met list payload : List ℕ) → IsChain pages first list payload → met ≡ [] → Breaks pages met first refusal → IfDamaged refusal (λ file at. ⊥)
breaks_none refusal pages first met list payload chain none =
    if_damaged refusal (λ file at. (file ≡ 0) × (here : ℕ) × (at ≡ 4096 * here) × BreaksAt pages met first here) (λ file at. ⊥)
    (λ file at is. sound pages first is.1 list payload chain (subst (λ (m : List ℕ). BreaksAt pages m first is.1) none is.3))

-- one page more of a chain
pub links_on : (old now : Book) (first here next : ℕ) (list payload longer : List ℕ) → SameBook old now → BeginsChain (all_pages old) first list payload here → 0 < here
    → (part : List ℕ) × IsLink (all_pages now here) next part × (longer ≡ payload ++ part) → BeginsChain (all_pages old) first (list ++ here ∷ []) longer next
links_on old now first here next list payload longer same begins some link =
    subst (λ l. BeginsChain (all_pages old) first (list ++ here ∷ []) l next) (sym link.2) (chain_longer (all_pages old) first here next list payload link.0 begins some (link_before old now here next link.0 same link.1))

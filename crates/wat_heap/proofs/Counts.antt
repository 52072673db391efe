-- How many row pages there are then, and where a row stands.
use Rattle.std.proofs.Common.{◌≡◌, ◌⊎◌, inl, inr, ◌↔◌, ℕ, ◌+◌, ◌*◌, ◌<◌, ◌≤◌, ◌==◌, ◌&&◌, Bool, true, false, if◌then◌else◌, List, [], ◌∷◌, Option, Some, None, Result, Ok, Err, refl, sym, ap, subst, ◌∙◌, arith, length, length-append}
use Rattle.std.specs.Prelude.{is_some, IsSome, OnOk, IfErr}
use Rattle.std.specs.Int.{w32, to_be_bytes}
use Rattle.std.proofs.lemmas.Bool.{eq-eqb}
use Rattle.wat_images.specs.declared.refusal.PageRefusal.{PageRefusal}
use Rattle.wat_images.specs.Refusal.{IfPageLimit}
use Rattle.wat_value.specs.Order.{key_eq}
use Rattle.wat_value.specs.Encoding.{row_bytes}
use Rattle.wat_book.specs.Book.{Section}
use Rattle.wat_rows.specs.declared.name.RowName.{RowName}
use Rattle.wat_rows.specs.Rows.{Row, RowMap, Defs, row_cell, size_of}
use Rattle.wat_rows.proofs.Cells.{length-number}
use Rattle.wat_rows.proofs.Lists.{named_itself}
use Rattle.wat_rows.proofs.Stepping.{no_place, no_row}
use Rattle.wat_directory.specs.declared.row_page.RowPage.{RowPage}
use Rattle.wat_directory.specs.declared.directory.Directory.{Directory}
use Rattle.wat_directory.specs.Known.{page_at, place_at, row_pages, own_on, Holds, NoRoomFor}
use Rattle.wat_directory.specs.Steps.{SetsPage, SetsPlace}
use Rattle.wat_pages.specs.declared.pages.Pages.{Pages}
use Rattle.wat_pages.specs.declared.within.Within.{Within}
use Rattle.wat_pages.specs.declared.within.Within.TheVariants.{Limit, Any}
use Rattle.wat_pages.specs.Pages.{limit_of}
use Rattle.wat_pages.specs.Within.{bound_of}
use Rattle.wat_cells.proofs.Then.{limit_to}

pub same_count : (n m : ℕ) (o : Option RowPage) → n ≡ m + (if is_some o then 0 else 1) → IsSome o → n ≡ m
same_count n m None is some = absurd (let no : false ≡ true = some in cc)
same_count n m (Some x) is some = omega (arith, is)

pub more_count : (n m : ℕ) (o : Option RowPage) → n ≡ m + (if is_some o then 0 else 1) → o ≡ None → n ≡ m + 1
more_count n m None is none = is
more_count n m (Some x) is none = absurd (let no : Some x ≡ None = none in cc)

pub less_count : (n m : ℕ) (o : Option RowPage) → n + (if is_some o then 1 else 0) ≡ m → IsSome o → n + 1 ≡ m
less_count n m None is some = absurd (let no : false ≡ true = some in cc)
less_count n m (Some x) is some = is

pub some_page : (d : Directory) (page : ℕ) (entry : RowPage) → page_at d page ≡ Some entry → IsSome (page_at d page)
some_page d page entry is = ap is_some is

pub known_here : (page : ℕ) (entry : RowPage) (d after : Directory) → SetsPage page (Some entry) d after → IsSome (page_at after page)
known_here page entry d after sets = ap is_some (sets.pages page ∙ ap (λ b. if b then Some entry else page_at d page) (eq-eqb page page refl))

pub placed_here : (name : RowName) (at : Option ℕ) (d after : Directory) → SetsPlace name.table name.key at d after → place_at after name.table name.key ≡ at
placed_here name at d after sets = sets name.table name.key ∙ ap (λ b. if b then at else place_at d name.table name.key) (named_itself name)

both_some : (a : Option ℕ) (b : Option Row) → (a ≡ None → b ≡ None) → (b ≡ None → a ≡ None) → IsSome a ↔ IsSome b
both_some None None f g = (λ s. s, λ s. s)
both_some None (Some x) f g = absurd (let no : Some x ≡ None = f refl in cc)
both_some (Some x) None f g = absurd (let no : Some x ≡ None = g refl in cc)
both_some (Some x) (Some y) f g = (λ s. refl, λ s. refl)

-- a row is there where it stands on a page
pub stands_where : (d : Directory) (pages : Section) (defs : Defs) (rows : RowMap) → Holds d pages defs rows → (table : ℕ) (key : Row) → IsSome (place_at d table key) ↔ IsSome (rows table key)
stands_where d pages defs rows h table key = both_some (place_at d table key) (rows table key)
    (λ none. no_row defs h.on h.place rows h.named table key (sym (h.knows.places table key) ∙ none))
    (λ none. h.knows.places table key ∙ no_place defs h.on h.place rows h.named table key none)

pub cell_size : (table : ℕ) (row : Row) → size_of (row_cell table row) ≡ 6 + length (row_bytes row)
cell_size table row = omega (arith, length-append (to_be_bytes w32 table) (row_bytes row), length-number table)

-- ---- what follows of a page that is taken

pub on_ok : {T E : Type 0} (r : Result T E) (P Q : Type 0) → (P → Q) → OnOk r P → OnOk r Q
on_ok (Ok x) P Q f is = f is
on_ok (Err e) P Q f is = tt

pub both_ok : {T E : Type 0} (r : Result T E) (P Q : Type 0) → OnOk r P → OnOk r Q → OnOk r (P × Q)
both_ok (Ok x) P Q a b = (a, b)
both_ok (Err e) P Q a b = tt

pub to_limit : {T : Type 0} (r : Result T PageRefusal) (P Q : ℕ → ℕ → Type 0) → ((count limit : ℕ) → P count limit → Q count limit) → IfErr r (λ refusal. IfPageLimit refusal P) → IfErr r (λ refusal. IfPageLimit refusal Q)
to_limit (Ok x) P Q f is = tt
to_limit (Err refusal) P Q f is = limit_to refusal P Q f is

pub bound_same : (within : Within) (a b : Pages) → limit_of b ≡ limit_of a → bound_of within b ≡ bound_of within a
bound_same Limit a b is = is
bound_same Any a b is = refl

pub filled_of : (d : Directory) (rows : RowMap) (table : ℕ) (key : Row) (size : ℕ) → size ≤ 3506 → NoRoomFor d rows table key size → (page : ℕ) (entry : RowPage) → page_at d page ≡ Some entry → 500 < entry.used
filled_of d rows table key size small none page entry is = much (own_on d rows table key page) (none page entry is)
  where
    much : (own : ℕ) → 4080 + own < entry.used + size → 500 < entry.used
    much own h = omega (arith, h, small)

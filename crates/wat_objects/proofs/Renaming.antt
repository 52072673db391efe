-- The rows that stand, by other names of the same maps: their definitions and the rows themselves are told by other functions.
use Rattle.std.proofs.Common.{◌≡◌, ℕ, ◌+◌, ◌≤◌, ◌==◌, ◌⊎◌, inl, inr, Bool, true, false, if◌then◌else◌, List, [], ◌∷◌, Option, Some, None, refl, sym, ◌∙◌, ap, subst, arith}
use Rattle.std.specs.List.{AllByRecursion}
use Rattle.std.proofs.lemmas.Bool.{eqb-true}
use Rattle.wat_list.specs.Has.{Has}
use Rattle.wat_book.specs.Book.{Section}
use Rattle.wat_rows.specs.Rows.{Row, Defs, RowMap, NamedRow, IsRowOf, names_of, times, row_named, name_is}
use Rattle.wat_rows.specs.Pages.{Layout, PlaceMap, AreNamed, rows_on, row_where, is_at}
use Rattle.wat_rows.proofs.Lists.{once_found, named_itself}
use Rattle.wat_directory.specs.Known as directory
use Rattle.wat_directory.specs.declared.directory.Directory.{Directory}

all_through : {A : Type 0} (P Q : A → Type 0) (xs : List A) → ((x : A) → Has x xs → P x → Q x) → AllByRecursion P xs → AllByRecursion Q xs
all_through P Q [] f all = tt
all_through P Q (x ∷ xs) f all = (f x (inl refl) all.0, all_through P Q xs (λ y there. f y (inr there)) all.1)

-- the name of a row in the list stands there
named_once : (it : NamedRow) (xs : List NamedRow) → Has it xs → 1 ≤ times it.name.table it.name.key (names_of xs)
named_once it [] none = elim none [ ]
named_once it (x ∷ xs) (inl same) =
    let is : name_is it.name.table it.name.key x.name ≡ true = ap (λ (y : NamedRow). name_is it.name.table it.name.key y.name) same ∙ named_itself it.name in
    let one : times it.name.table it.name.key (names_of (x ∷ xs)) ≡ 1 + times it.name.table it.name.key (names_of xs) = ap (λ b. (if b then 1 else 0) + times it.name.table it.name.key (names_of xs)) is in
    omega (arith, one)
named_once it (x ∷ xs) (inr there) = more (if name_is it.name.table it.name.key x.name then 1 else 0) (times it.name.table it.name.key (names_of xs)) (named_once it xs there)
  where
    more : (a b : ℕ) → 1 ≤ b → 1 ≤ a + b
    more a b h = omega (arith, h)

module _ (defs next : Defs) (on : Layout) (place : PlaceMap) (rows : RowMap) (n : AreNamed defs on place rows) (stay : (table : ℕ) (key : Row) (row : Row) → rows table key ≡ Some row → next table ≡ defs table) where
  -- the table of a row that stands on a page has its definition still
  table_stays : (page table : ℕ) (key : Row) → 1 ≤ times table key (names_of (rows_on on page)) → next table ≡ defs table
  table_stays page table key some = by (place table key) refl
    where
      by : (o : Option ℕ) → place table key ≡ o → next table ≡ defs table
      by None e =
          let none : times table key (names_of (rows_on on page)) ≡ 0 = n.once page table key ∙ ap (λ p. if is_at page p then 1 else 0) e in
          absurd (omega (arith, some, none))
      by (Some at) e = here (at == page) refl
        where
          here : (b : Bool) → (at == page) ≡ b → next table ≡ defs table
          here false there =
              let none : times table key (names_of (rows_on on page)) ≡ 0 = n.once page table key ∙ ap (λ p. if is_at page p then 1 else 0) e ∙ ap (λ b. if b then 1 else 0) there in
              absurd (omega (arith, some, none))
          here true there = found (row_named table key (rows_on on page)) refl
            where
              once : times table key (names_of (rows_on on page)) ≡ 1
              once = n.once page table key ∙ ap (λ p. if is_at page p then 1 else 0) e ∙ ap (λ b. if b then 1 else 0) there

              found : (o : Option Row) → row_named table key (rows_on on page) ≡ o → next table ≡ defs table
              found None is = absurd (once_found table key (rows_on on page) once is)
              found (Some row) is = stay table key row (n.found table key ∙ ap (row_where on table key) e ∙ ap (λ p. row_named table key (rows_on on p)) (eqb-true at page there) ∙ is)

  pub renamed : (after : RowMap) → ((table : ℕ) (key : Row) → after table key ≡ rows table key) → AreNamed next on place after
  renamed after same = record {
    allowed = λ page. all_through (IsRowOf defs) (IsRowOf next) (rows_on on page) (λ it there is. record {
      number = is.number;
      encodable = is.encodable;
      def = is.def;
      stands = table_stays page it.name.table it.name.key (named_once it (rows_on on page) there) ∙ is.stands;
      fits = is.fits;
      key = is.key;
    }) (n.allowed page);
    once = n.once;
    found = λ table key. same table key ∙ n.found table key;
  }

pub held_again : (d : Directory) (pages : Section) (defs next : Defs) (rows after : RowMap) → directory.Holds d pages defs rows → ((table : ℕ) (key : Row) → after table key ≡ rows table key)
    → ((table : ℕ) (key : Row) (row : Row) → rows table key ≡ Some row → next table ≡ defs table) → directory.Holds d pages next after
held_again d pages defs next rows after h same stay = record {
  on = h.on;
  place = h.place;
  stand = h.stand;
  named = renamed defs next h.on h.place rows h.named stay after same;
  knows = h.knows;
}

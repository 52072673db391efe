-- The pages in ascending order, one after another.
use Rattle.std.proofs.Common.{◌≡◌, ℕ, zero, suc, ◌+◌, ◌-◌, ◌<◌, ◌≤◌, Bool, true, false, not, List, [], ◌∷◌, ◌++◌, refl, sym, ◌∙◌, ap, subst, arith, if◌then◌else◌, inl, inr}
use Rattle.std.specs.Prelude.{nat_eq}
use Rattle.std.specs.List.{list_any, filter, range_with_len}
use Rattle.std.proofs.lemmas.List.Elements.{filter-append}
use Rattle.wat_book.specs.Book.{Section}
use Rattle.wat_schema.specs.Tables.{Tables}
use Rattle.wat_files.specs.Rows.{AddsPage, AddsPages, RowsStop, pages_but}

range_append : (from a b : ℕ) → range_with_len from (a + b) ≡ range_with_len from a ++ range_with_len (from + a) b
range_append from zero b =
    let z : 0 + b ≡ b = omega arith in
    let e : from ≡ from + 0 = omega arith in
    ap (range_with_len from) z ∙ ap (λ n. range_with_len n b) e
range_append from (suc a) b =
    let z : suc a + b ≡ suc (a + b) = omega arith in
    let e : from + 1 + a ≡ from + suc a = omega arith in
    ap (range_with_len from) z ∙ ap (λ (l : List ℕ). from ∷ l) (range_append (from + 1) a b ∙ ap (λ n. range_with_len (from + 1) a ++ range_with_len n b) e)

pub but_append : (listed : List ℕ) (from a b : ℕ) → pages_but listed from (a + b) ≡ pages_but listed from a ++ pages_but listed (from + a) b
but_append listed from a b =
    ap (filter (λ page. not (list_any (nat_eq page) listed))) (range_append from a b) ∙ filter-append (λ page. not (list_any (nat_eq page) listed)) (range_with_len from a) (range_with_len (from + a) b)

-- one page, and those behind it
but_first : (listed : List ℕ) (page many : ℕ) (b : Bool) → list_any (nat_eq page) listed ≡ b → pages_but listed page (suc many) ≡ (if b then pages_but listed (page + 1) many else page ∷ pages_but listed (page + 1) many)
but_first listed page many true is = ap (λ b. if not b then page ∷ pages_but listed (page + 1) many else pages_but listed (page + 1) many) is
but_first listed page many false is = ap (λ b. if not b then page ∷ pages_but listed (page + 1) many else pages_but listed (page + 1) many) is

-- the pages up to one and that one
pub but_here : (listed : List ℕ) (page : ℕ) → 1 ≤ page → list_any (nat_eq page) listed ≡ false → pages_but listed 1 (page + 1 - 1) ≡ pages_but listed 1 (page - 1) ++ page ∷ []
but_here listed page some is =
    let e : page + 1 - 1 ≡ page - 1 + 1 = omega (arith, some) in
    let f : 1 + (page - 1) ≡ page = omega (arith, some) in
    ap (pages_but listed 1) e ∙ but_append listed 1 (page - 1) 1 ∙ ap (λ n. pages_but listed 1 (page - 1) ++ pages_but listed n 1) f
    ∙ ap (λ l. pages_but listed 1 (page - 1) ++ l) (but_first listed page 0 false is)

pub but_past : (listed : List ℕ) (page : ℕ) → 1 ≤ page → list_any (nat_eq page) listed ≡ true → pages_but listed 1 (page + 1 - 1) ≡ pages_but listed 1 (page - 1) ++ []
but_past listed page some is =
    let e : page + 1 - 1 ≡ page - 1 + 1 = omega (arith, some) in
    let f : 1 + (page - 1) ≡ page = omega (arith, some) in
    ap (pages_but listed 1) e ∙ but_append listed 1 (page - 1) 1 ∙ ap (λ n. pages_but listed 1 (page - 1) ++ pages_but listed n 1) f
    ∙ ap (λ l. pages_but listed 1 (page - 1) ++ l) (but_first listed page 0 true is)

-- all pages, where one of them stands
pub but_split : (listed : List ℕ) (page count : ℕ) → 1 ≤ page → page < count → list_any (nat_eq page) listed ≡ false
    → pages_but listed 1 (count - 1) ≡ pages_but listed 1 (page - 1) ++ page ∷ pages_but listed (page + 1) (count - page - 1)
but_split listed page count some below is =
    let e : count - 1 ≡ page - 1 + suc (count - page - 1) = omega (arith, some, below) in
    let f : 1 + (page - 1) ≡ page = omega (arith, some) in
    ap (pages_but listed 1) e ∙ but_append listed 1 (page - 1) (suc (count - page - 1)) ∙ ap (λ n. pages_but listed 1 (page - 1) ++ pages_but listed n (suc (count - page - 1))) f
    ∙ ap (λ l. pages_but listed 1 (page - 1) ++ l) (but_first listed page (count - page - 1) false is)

-- ---- rows of page after page

pub adds_more : (pages : Section) (list : List ℕ) (page : ℕ) (t u v : Tables) → AddsPages pages list t u → AddsPage pages page u v → AddsPages pages (list ++ page ∷ []) t v
adds_more pages [] page t u v same one = (v, subst (λ (s : Tables). AddsPage pages page s v) (sym same) one, refl)
adds_more pages (p ∷ list) page t u v adds one = (adds.0, adds.1, adds_more pages list page adds.0 u v adds.2 one)

pub adds_none : (pages : Section) (list : List ℕ) (t u : Tables) → AddsPages pages list t u → AddsPages pages (list ++ []) t u
adds_none pages [] t u same = same
adds_none pages (p ∷ list) t u adds = (adds.0, adds.1, adds_none pages list adds.0 u adds.2)

pub stops_there : (pages : Section) (list more : List ℕ) (page : ℕ) (t u : Tables) → AddsPages pages list t u → ((next : Tables) → AddsPage pages page u next → ⊥) → RowsStop pages (list ++ page ∷ more) t page
stops_there pages [] more page t u same none = inl (refl, λ next adds. none next (subst (λ (s : Tables). AddsPage pages page s next) same adds))
stops_there pages (p ∷ list) more page t u adds none = inr (adds.0, adds.1, stops_there pages list more page adds.0 u adds.2 none)

-- The pages that the header leads to, one after another: two chains, and the list of the free pages.
use Rattle.std.specs.Prelude.{◌≡◌, ◌⊎◌, ℕ, ◌<◌, nat_eq, true, List, [], ◌∷◌, ◌++◌}
use Rattle.std.specs.List.{list_any, IsDistinct}
use Rattle.wat_restore.specs.Head.{Head}
use Rattle.wat_book.specs.Book.{Section, IsFreePage, IsFreeChain}
use Rattle.wat_book.specs.Chains.{IsReadChain, BreaksAt}

-- ---- the list of the free pages

-- These pages are free, from the first of them on: each tells the next, and the last of them tells `end`.
abbrev pub BeginsFree : Section → ℕ → List ℕ → ℕ → Type 0
BeginsFree pages first [] end = first ≡ end
BeginsFree pages first (here ∷ rest) end = (first ≡ here) × (0 < here) × (next : ℕ) × IsFreePage (pages here) next × BeginsFree pages next rest end

-- The pages from the first on are free. None of them comes twice, or was met before.
pub record IsFreeList (pages : Section) (met : List ℕ) (first : ℕ) (list : List ℕ) : Type 0 where
  pub chain : IsFreeChain pages first list
  pub once : IsDistinct nat_eq (met ++ list)

-- This is the first page from there on that breaks the rules: it comes twice or was met before, or it isn't free.
pub record FreeBreaksAt (pages : Section) (met : List ℕ) (first here : ℕ) : Type 0 where
  pub list : List ℕ
  pub begins : BeginsFree pages first list here
  pub once : IsDistinct nat_eq (met ++ list)
  pub some : 0 < here
  pub broken : (list_any (nat_eq here) (met ++ list) ≡ true) ⊎ ((next : ℕ) → IsFreePage (pages here) next → ⊥)

-- ---- all that the header leads to

-- The pages of the catalog with their payload, those of the changes to roll back with theirs, and the free ones.
pub record Chains : Type 0 where
  pub catalog : List ℕ
  pub schema : List ℕ
  pub rollback : List ℕ
  pub changes : List ℕ
  pub free : List ℕ

-- the pages of both chains
abbrev pub in_chains : Chains → List ℕ
in_chains chains = chains.catalog ++ chains.rollback

-- these and the free ones
abbrev pub listed : Chains → List ℕ
listed chains = in_chains chains ++ chains.free

-- The header leads to these pages, and no page comes twice.
pub record HasChains (pages : Section) (head : Head) (chains : Chains) : Type 0 where
  -- the catalog has a page, and the others may have none
  pub some : 0 < head.catalog
  pub catalog : IsReadChain pages [] head.catalog chains.catalog chains.schema
  pub rollback : IsReadChain pages chains.catalog head.rollback chains.rollback chains.changes
  pub free : IsFreeList pages (in_chains chains) head.free chains.free

-- The catalog's chain fails at this page: at page 0, where the header names none.
abbrev pub CatalogStops : Section → Head → ℕ → Type 0
CatalogStops pages head page = ((head.catalog ≡ 0) × (page ≡ 0)) ⊎ ((0 < head.catalog) × BreaksAt pages [] head.catalog page)

-- The catalog's chain is whole, and the chain of the changes to roll back fails at this page.
pub record RollbackStops (pages : Section) (head : Head) (page : ℕ) : Type 0 where
  pub some : 0 < head.catalog
  pub list : List ℕ
  pub payload : List ℕ
  pub catalog : IsReadChain pages [] head.catalog list payload
  pub stops : BreaksAt pages list head.rollback page

-- Both chains are whole, and the list of the free pages fails at this page.
pub record FreeStops (pages : Section) (head : Head) (page : ℕ) : Type 0 where
  pub some : 0 < head.catalog
  pub list : List ℕ
  pub payload : List ℕ
  pub catalog : IsReadChain pages [] head.catalog list payload
  pub second : List ℕ
  pub changes : List ℕ
  pub rollback : IsReadChain pages list head.rollback second changes
  pub stops : FreeBreaksAt pages (list ++ second) head.free page

-- The first page that fails, chain by chain.
abbrev pub ChainsStop : Section → Head → ℕ → Type 0
ChainsStop pages head page = CatalogStops pages head page ⊎ (RollbackStops pages head page ⊎ FreeStops pages head page)

-- What the header leads to, as it is read.
use Rattle.std.specs.Prelude.{◌≡◌, ℕ, ◌*◌}
use Rattle.wat_restore.specs.Head.{Head}
use Rattle.wat_book.specs.Book.{Section}
use Rattle.wat_pages.specs.declared.pages.Pages.{Pages}
use Rattle.wat_pages.specs.Pages.{header_of, next_head}
use Rattle.wat_files.specs.Chains.{Chains, listed, HasChains}
use Rattle.wat_roots.specs.declared.roots.Roots.{Roots}

-- the header of the pages now
abbrev pub head_now : Pages → Head
head_now pages = next_head pages (header_of pages)

-- The header leads to two chains and a list of free pages: these are their payloads, and all their pages.
pub record HasRoots (pages : Section) (head : Head) (roots : Roots) : Type 0 where
  pub chains : Chains
  pub has : HasChains pages head chains
  pub schema : chains.schema ≡ roots.schema.items
  pub changes : chains.changes ≡ roots.changes.items
  pub listed : listed chains ≡ roots.listed.items

-- What the writing of the changes to roll back, and a checkpoint behind it, leave of what the objects hold.
use Rattle.std.proofs.Common.{◌≡◌, ◌≢◌, ℕ, ◌<◌, ◌≤◌, List, refl, sym, ◌∙◌, ap, subst, arith}
use Rattle.wat_disk.specs.Disk.{Told}
use Rattle.wat_book.specs.Book.{Book, Owners, Section, section, header, IsOwned, Works, Worked, SameButHeader}
use Rattle.wat_book.specs.Chains.{HoldsPayload}
use Rattle.wat_book.proofs.Working.{same_section, section_saved, saved_owned}
use Rattle.wat_pages.specs.Pages.{header_of, book_of, next_head, IsPagesOf}
use Rattle.wat_pages.specs.declared.header.Header.{Header}
use Rattle.wat_rows.specs.Pages.{of_rows}
use Rattle.wat_directory.specs.Known as directory
use Rattle.wat_heap.specs.Heaps.{directory_of}
use Rattle.wat_heap.specs.declared.heap.Heap.{Heap}
use Rattle.wat_schema.specs.Catalog.{Catalog, def_at}
use Rattle.wat_schema.specs.Tables.{catalog_of, row_at}
use Rattle.wat_spelled.specs.Changes.{TellsLists}
use Rattle.wat_undo.specs.Payload.{HoldsLists}
use Rattle.wat_replay.specs.State.{State, Lists, IsLawful}
use Rattle.wat_held.specs.Held.{in_catalog, in_rollback, AreKnown}
use Rattle.wat_objects.specs.declared.objects.Objects.{Objects}
use Rattle.wat_objects.specs.declared.chains.Roots.{Roots}
use Rattle.wat_objects.specs.Objects.{pages_of, heap_of, schema_of, catalog_page_of, lists_of, undo_of, HoldsSchemaChain, HoldsChain, HoldsOn, Holds}
use Rattle.wat_objects.specs.Chains.{HoldsRoots}
use Rattle.wat_objects.proofs.Holding.{known_after}

-- What beside the pages the objects have is as before.
pub record SameObjects (x y : Objects) : Type 0 where
  pub heap : heap_of y ≡ heap_of x
  pub schema : schema_of y ≡ schema_of x
  pub catalog : catalog_page_of y ≡ catalog_page_of x
  pub lists : lists_of y ≡ lists_of x

-- The changes to roll back are written on their chain.
pub lists_written : (old new : Told) (x y : Objects) (roots : Roots) (s : State) → (h : Holds old x s) → IsLawful s → SameObjects x y
    → Worked in_rollback (book_of old (pages_of x)) h.on.owners (book_of new (pages_of y)) (λ mine. HoldsLists mine roots.rollback (lists_of x))
    → roots.catalog ≡ catalog_page_of x → roots.next_table ≡ (schema_of x).next → HoldsRoots new y roots s
lists_written old new x y roots s h lawful same w catalog next =
    let before = book_of old (pages_of x) in
    let after = book_of new (pages_of y) in
    let catalogs = same_section in_rollback in_catalog before after h.on.owners w.next (omega arith) (omega arith) w.works in
    let rows = same_section in_rollback of_rows before after h.on.owners w.next (omega arith) (omega arith) w.works in
    let stand : directory.Holds (directory_of (heap_of x)) (section after w.next of_rows) (def_at (catalog_of s.tables)) (row_at s.tables) =
    subst (λ (p : Section). directory.Holds (directory_of (heap_of x)) p (def_at (catalog_of s.tables)) (row_at s.tables)) (sym rows) h.on.rows in
    record {
      owners = w.next;
      free = w.free;
      holds = λ frames place. record {
        owned = w.owned;
        known = known_after in_rollback before after h.on.owners w.next (omega arith) (omega arith) h.on.are_known w.works;
        catalog = record {
          payload = h.on.catalog.payload;
          chain = subst (λ (p : Section). HoldsPayload p roots.catalog h.on.catalog.payload) (sym catalogs)
              (subst (λ n. HoldsPayload (section before h.on.owners in_catalog) n h.on.catalog.payload) (sym catalog) h.on.catalog.chain);
          is = record { spells = h.on.catalog.spells; next = sym (next ∙ ap (λ (c : Catalog). c.next) h.on.schema) };
        };
        changes = record {
          payload = w.holds.payload;
          chain = w.holds.holds.holds;
          tells = subst (TellsLists roots.rollback w.holds.payload) h.on.lists w.holds.tells;
        };
        tables = record { rows = row_at s.tables; hold = record { on = stand.on; place = stand.place; stand = stand.stand; named = stand.named }; same = λ table key. refl };
        lawful = lawful;
      };
      catalog = catalog ∙ sym same.catalog;
      schema = same.schema ∙ h.on.schema;
      rows = subst (λ (z : Heap). directory.Holds (directory_of z) (section after w.next of_rows) (def_at (catalog_of s.tables)) (row_at s.tables)) (sym same.heap) stand;
      lists = same.lists ∙ h.on.lists;
    }

-- The checkpoint with these roots is made.
pub checkpoint_made : (old new : Told) (x y : Objects) (head : Header) (roots : Roots) (s : State) → HoldsRoots old x roots s → SameObjects x y → IsPagesOf new (pages_of y)
    → SameButHeader (book_of old (pages_of x)) (book_of new (pages_of y)) → header_of (pages_of y) ≡ head → head.rollback ≡ roots.rollback → Holds new y s
checkpoint_made old new x y head roots s h same known pages is rollback =
    let before = book_of old (pages_of x) in
    let after = book_of new (pages_of y) in
    let held = h.holds 0 0 in
    let first = held.owned.first in
    let catalogs = section_saved before after h.owners pages first in_catalog (omega arith) in
    let rollbacks = section_saved before after h.owners pages first in_rollback (omega arith) in
    let rows = section_saved before after h.owners pages first of_rows (omega arith) in
    record {
      known = known;
      on = record {
        owners = h.owners;
        free = h.free;
        owned = saved_owned before after h.owners h.free pages held.owned;
        are_known = λ page below. held.known page (omega (arith, below, pages.count));
        schema = same.schema ∙ h.schema;
        catalog = record {
          payload = held.catalog.payload;
          chain = subst (λ (p : Section). HoldsPayload p (catalog_page_of y) held.catalog.payload) (sym catalogs)
              (subst (λ n. HoldsPayload (section before h.owners in_catalog) n held.catalog.payload) (h.catalog ∙ sym same.catalog) held.catalog.chain);
          spells = held.catalog.is.spells;
        };
        rollback = record {
          payload = held.changes.payload;
          chain = subst (λ (p : Section). HoldsPayload p (header_of (pages_of y)).rollback held.changes.payload) (sym rollbacks)
              (subst (λ n. HoldsPayload (section before h.owners in_rollback) n held.changes.payload) (sym (ap (λ (z : Header). z.rollback) is ∙ rollback)) held.changes.chain);
        };
        rows = subst (λ (p : Section). directory.Holds (directory_of (heap_of y)) p (def_at (catalog_of s.tables)) (row_at s.tables)) (sym rows)
            (subst (λ (z : Heap). directory.Holds (directory_of z) (section before h.owners of_rows) (def_at (catalog_of s.tables)) (row_at s.tables)) (sym same.heap) h.rows);
        lists = same.lists ∙ h.lists;
        tables = held.lawful.tables;
      };
    }

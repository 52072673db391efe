-- The steps together.
use Rattle.std.proofs.Common.{◌≡◌, inl, inr, ℕ, ◌<◌, List, [], refl, sym, ◌∙◌, ap, subst}
use Rattle.wat_disk.specs.Disk.{Image, Told, SameFiles, EachStop}
use Rattle.wat_gate.specs.GateLog.{file_of}
use Rattle.wat_gate.proofs.Logs.{log_same}
use Rattle.wat_restore.specs.Head.{Head}
use Rattle.wat_book.specs.Book.{Book, Section, section, SameBook}
use Rattle.wat_book.specs.Chains.{HoldsPayload}
use Rattle.wat_images.specs.declared.refusal.PageRefusal.{PageRefusal}
use Rattle.wat_images.specs.Refusal.{IfDamaged}
use Rattle.wat_images.proofs.Writing.{if_damaged}
use Rattle.wat_pages.specs.declared.header.Header.{Header}
use Rattle.wat_pages.specs.declared.pages.Pages.{Pages}
use Rattle.wat_pages.specs.Pages.{SameHead, IsPagesOf, book_of, count_of, stored_of, header_of}
use Rattle.wat_pages.proofs.Changed.{reads_cover, reads_safe, page_same, images_same, stand_same}
use Rattle.wat_schema.specs.Catalog.{Catalog, def_at}
use Rattle.wat_schema.specs.Tables.{Tables, catalog_of, row_at}
use Rattle.wat_replay.specs.State.{State, Lists}
use Rattle.wat_directory.specs.declared.directory.Directory.{Directory}
use Rattle.wat_directory.specs.Known.{Holds}
use Rattle.wat_heap.specs.declared.heap.Heap.{Heap}
use Rattle.wat_heap.specs.Heaps.{IsHeld, directory_of}
use Rattle.wat_heap.proofs.Doing.{still_held}
use Rattle.wat_undo.specs.Kept.{lists_of}
use Rattle.wat_spelled.specs.Schema.{SpellsSchema}
use Rattle.wat_log.specs.Log.{IsOpenLog, noted_bytes}
use Rattle.wat_restore.specs.Restored.{stored_page}
use Rattle.wat_files.specs.Pages.{first_pages}
use Rattle.wat_files.proofs.Lawful.{stands_lawful}
use Rattle.wat_files.specs.Chains.{Chains, HasChains}
use Rattle.wat_files.specs.Formed.{HasHeader, FailsAt, HoldsRows, CanUndo, LogStops, state_of, Stands, FailsInRows, FailsInCatalog, FailsInChains}
use Rattle.wat_free_list.specs.Whole.{whole_pages}
use Rattle.wat_held.specs.Held.{in_catalog, in_rollback}
use Rattle.wat_held.specs.Owning.{owners_by, AreOwned}
use Rattle.wat_rows.specs.Rows.{RowMap}
use Rattle.wat_rows.specs.Pages.{of_rows}
use Rattle.wat_objects.specs.declared.objects.Objects.{Objects}
use Rattle.wat_objects.specs.Objects.{pages_of, heap_of, undo_of, schema_of, catalog_page_of, HoldsOn}
use Rattle.wat_roots.specs.declared.roots.Roots.{Roots}
use Rattle.wat_roots.specs.Roots.{HasRoots, head_now}
use Rattle.wat_roots.specs.Went.{Went, Stays}
use Rattle.wat_roots.proofs.Going.{head_same}
use Rattle.wat_roots.proofs.Reading.{whole_path, head_path}
use Rattle.wat_loading.specs.declared.loading.Rest.{Rest}
use Rattle.wat_loading.specs.Loaded.{HoldsRest, IsLoaded}
use Rattle.wat_loading.specs.Parts.{TellParts, HasRowsOf}
use Rattle.wat_loading.proofs.Others.{owned}
use Rattle.wat_loading.proofs.Whole.{whole_first}

-- the same roots by pages and a header that are the same
abbrev pub roots_at : (w v : Section) (h k : Head) → w ≡ v → h ≡ k → (roots : Roots) → HasRoots w h roots → HasRoots v k roots
roots_at w v h k pages heads roots has = record {
  chains = has.chains;
  has = subst (λ (x : Section). HasChains x k has.chains) pages (subst (λ (x : Head). HasChains w x has.chains) heads has.has);
  schema = has.schema;
  changes = has.changes;
  listed = has.listed;
}

-- the pages and the header as they were
module _ (a b : Book) (p q : Pages) (same : SameBook a b) (head : SameHead p q) where
  back : SameBook b a
  back = record { pages = λ page below. sym (same.pages page (subst (λ (n : ℕ). page < n) same.count below)); count = sym same.count; first = sym same.first }

  pub parts_back : (chains : Chains) (schema : Catalog) (lists : Lists) → TellParts (head_now q) chains schema lists → TellParts (head_now p) chains schema lists
  parts_back chains schema lists = subst (λ (h : Head). TellParts h chains schema lists) (head_path p q head)

  pub rows_back : (chains : Chains) (schema : Catalog) (lists : Lists) (d : Directory) → HasRowsOf b (head_now q) chains schema lists d → HasRowsOf a (head_now p) chains schema lists d
  rows_back chains schema lists d has = subst (λ (h : Head). HasRowsOf a h chains schema lists d) (head_path p q head) (record {
    t = has.t;
    rows = subst (λ (w : Section). HoldsRows w (head_now q) chains schema has.t) (whole_path a b same) has.rows;
    tables = has.tables;
    is = has.is;
    map = has.map;
    at = has.at;
    held = still_held d b a (owners_by chains) chains.free (def_at schema) has.map has.held back;
    can = has.can;
  })

-- ---- where the steps fail

module _ (w : Section) (log : List ℕ) (head : Head) (chains : Chains) (has : HasChains w head chains) where
  pub in_payloads : (refusal : PageRefusal) → IfDamaged refusal (FailsInCatalog w log head chains) → IfDamaged refusal (FailsInChains w log head)
  in_payloads refusal = if_damaged refusal (FailsInCatalog w log head chains) (FailsInChains w log head) (λ file at fails. inr (chains, has, fails))

  module _ (schema : Catalog) (lists : Lists) (parts : TellParts head chains schema lists) where
    pub in_rows : (refusal : PageRefusal) → IfDamaged refusal (FailsInRows w log head chains schema lists) → IfDamaged refusal (FailsInChains w log head)
    in_rows refusal = if_damaged refusal (FailsInRows w log head chains schema lists) (FailsInChains w log head)
        (λ file at fails. inr (chains, has, inr (schema, parts.holds, inr (lists, parts.tells, inr (parts.catalog, fails)))))

    -- behind the rows: `rows` has HoldsRows, `can` CanUndo
    pub in_log : (refusal : PageRefusal) (t : Tables) → HoldsRows w head chains schema t → CanUndo (state_of t lists) → IfDamaged refusal (λ file at. (file ≡ 2) × LogStops log head at) → IfDamaged refusal (FailsInChains w log head)
    in_log refusal t rows can = if_damaged refusal (λ file at. (file ≡ 2) × LogStops log head at) (FailsInChains w log head)
        (λ file at fails. inr (chains, has, inr (schema, parts.holds, inr (lists, parts.tells, inr (parts.catalog, inr (t, rows, inr (can, inl fails)))))))

    -- all steps went well
    pub stands : (t : Tables) → HoldsRows w head chains schema t → CanUndo (state_of t lists) → Stands w head (state_of t lists)
    stands t rows can = record { chains = chains; has = has; schema = schema; holds = parts.holds; lists = parts.tells; catalog = parts.catalog; rows = rows; undoes = can }

-- ---- calls that change no file

pub went_files : (old new : Told) (pages : Pages) → SameFiles old.content new.content → EachStop old new SameFiles → Went old new pages pages
went_files old new pages same stops = record {
  head = head_same pages;
  goes = record { others = λ file from. same file; limit = refl; stored = refl; header = refl; stops = λ saved safe. reads_cover saved old new safe stops };
}

pub stays_files : (old new : Told) (pages : Pages) → SameFiles old.content new.content → EachStop old new SameFiles → IsPagesOf old pages → Stays old new pages pages
stays_files old new pages same stops known = record {
  pages = record { pages = λ page below. page_same old new pages pages same refl page; count = refl; first = refl };
  keeps = record {
    known = record {
      log = log_same old new pages.before (same (file_of pages.before)) known.log;
      images = images_same pages.images.entries old.content new.content same known.images;
      read = λ page bytes found. stand_same old.content new.content page bytes same (known.read page bytes found);
    };
    safe = λ saved safe. reads_safe saved old new safe same stops;
  };
}

-- ---- from pages to files

pub fails_there : (refusal : PageRefusal) (files : Image) (head real : Head) (w : Section) → HasHeader files real → head ≡ real → w ≡ first_pages files real.count → IfDamaged refusal (FailsInChains w (files 2) head) → IfDamaged refusal (FailsAt files)
fails_there refusal files head real w header heads pages = if_damaged refusal (FailsInChains w (files 2) head) (FailsAt files)
    (λ file at fails. inr (real, header, subst (λ (x : Section). FailsInChains x (files 2) real file at) pages (subst (λ (h : Head). FailsInChains w (files 2) h file at) heads fails)))

module _ (files : Image) (told : Told) (book : Book) (pages final : Pages) (rest : Rest) (same : SameBook book (book_of told final)) (heads : SameHead pages final) (some : 0 < book.count) (counted : (head_now pages).count ≡ book.count) (free : (head_now pages).free ≡ book.first_free)
    (stored : (page : ℕ) → book.page page ≡ stored_page files page) (header : HasHeader files (head_now pages)) (holds : HoldsRest book (head_now pages) (files 2) rest) where
  abbrev Now : Book
  Now = book_of told final

  abbrev chains : Chains
  chains = holds.chains

  there : whole_pages book ≡ first_pages files (head_now pages).count
  there = whole_first book files stored ∙ ap (first_pages files) (sym counted)

  abbrev saved : State
  saved = state_of holds.rows.t (lists_of rest.undo)

  stands_there : Stands (first_pages files (head_now pages).count) (head_now pages) saved
  stands_there = subst (λ (w : Section). Stands w (head_now pages) saved) there
      (stands (whole_pages book) (files 2) (head_now pages) chains holds.has rest.schema (lists_of rest.undo) holds.parts holds.rows.t holds.rows.rows holds.rows.can)

  owners_now : AreOwned Now (head_now pages) chains
  owners_now = owned Now (head_now pages) chains (subst (λ (w : Section). HasChains w (head_now pages) chains) (sym (whole_path book Now same)) holds.has) (subst (λ (n : ℕ). 0 < n) (sym same.count) some) (free ∙ sym same.first) (counted ∙ sym same.count)

  module _ (x : Objects) (pages_are : pages_of x ≡ final) (heap_is : heap_of x ≡ rest.heap) (undo_is : undo_of x ≡ rest.undo) (schema_is : schema_of x ≡ rest.schema) (catalog_is : catalog_page_of x ≡ (header_of final).catalog) where
    header_is : header_of (pages_of x) ≡ header_of pages
    header_is = ap header_of pages_are ∙ heads.header

    catalog_now : catalog_page_of x ≡ (head_now pages).catalog
    catalog_now = catalog_is ∙ ap (λ (h : Header). h.catalog) heads.header

    rows_are : holds.rows.map ≡ row_at holds.rows.t
    rows_are = λ i table key. holds.rows.at table key i

    held_now : IsHeld (directory_of rest.heap) Now (owners_by chains) chains.free (def_at (catalog_of holds.rows.t)) holds.rows.map
    held_now = subst (λ (c : Catalog). IsHeld (directory_of rest.heap) Now (owners_by chains) chains.free (def_at c) holds.rows.map) (sym holds.rows.is)
        (still_held (directory_of rest.heap) book Now (owners_by chains) chains.free (def_at rest.schema) holds.rows.map holds.rows.held same)

    holds_on : HoldsOn Now x saved
    holds_on = record {
      owners = owners_by chains;
      free = chains.free;
      owned = owners_now.owned;
      are_known = owners_now.known;
      schema = schema_is ∙ sym holds.rows.is;
      catalog = record {
        payload = chains.schema;
        chain = subst (λ (page : ℕ). HoldsPayload (section Now (owners_by chains) in_catalog) page chains.schema) (sym catalog_now) owners_now.catalog;
        spells = subst (SpellsSchema chains.schema) (sym holds.rows.is) holds.parts.holds.spells;
      };
      rollback = record {
        payload = chains.changes;
        chain = subst (λ (h : Header). HoldsPayload (section Now (owners_by chains) in_rollback) h.rollback chains.changes) (sym header_is) owners_now.rollback;
      };
      rows = subst (λ (heap : Heap). Holds (directory_of heap) (section Now (owners_by chains) of_rows) (def_at (catalog_of holds.rows.t)) (row_at holds.rows.t)) (sym heap_is)
          (subst (λ (rows : RowMap). Holds (directory_of rest.heap) (section Now (owners_by chains) of_rows) (def_at (catalog_of holds.rows.t)) rows) rows_are held_now.holds);
      lists = ap lists_of undo_is;
      tables = holds.rows.tables;
    }

    pub is_loaded : stored_of final ≡ count_of final → IsPagesOf told final → IsOpenLog told rest.log → noted_bytes rest.log ≡ [] → IsLoaded files told (record { objects = x; log = rest.log })
    is_loaded unchanged known opened noted = record {
      head = head_now pages;
      saved = saved;
      header = header;
      stands = stands_there;
      log = holds.logged;
      lawful = stands_lawful (first_pages files (head_now pages).count) (head_now pages) saved stands_there;
      tells = ap head_now pages_are ∙ head_path pages final heads;
      unchanged = ap stored_of pages_are ∙ unchanged ∙ sym (ap count_of pages_are);
      holds = record {
        known = subst (IsPagesOf told) (sym pages_are) known;
        on = subst (λ (p : Pages). HoldsOn (book_of told p) x saved) (sym pages_are) holds_on;
      };
      opened = opened;
      noted = noted;
    }

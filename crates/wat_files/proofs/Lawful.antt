-- What formed files stand for is lawful, and so they open.
use Rattle.std.proofs.Common.{◌≡◌, ℕ, true, List, [], ◌∷◌, map, refl, ◌∙◌, ap, sym, subst}
use Rattle.std.specs.List.{list_all}
use Rattle.wat_disk.specs.Disk.{Image}
use Rattle.wat_gate.specs.Bodies.{bodies}
use Rattle.wat_restore.specs.Head.{Head}
use Rattle.wat_book.specs.Book.{Section}
use Rattle.wat_schema.specs.Catalog.{Catalog, Listing}
use Rattle.wat_schema.specs.Stored.{IsCatalog}
use Rattle.wat_schema.specs.Tables.{Tables, IsTables, listing_of, catalog_of, is_table}
use Rattle.wat_schema.proofs.Database.{all_acts_hold}
use Rattle.wat_replay.specs.State.{State, IsLawful, undone}
use Rattle.wat_replay.proofs.Replaying.{all_stay_lawful, Undone, undone_of}
use Rattle.wat_files.specs.Pages.{first_pages}
use Rattle.wat_files.specs.Chains.{listed}
use Rattle.wat_files.specs.Rows.{emptied, inserts, AddsPages, other_pages}
use Rattle.wat_files.specs.Formed.{Stands, IsFormed, Opens, later_bodies}
use Rattle.wat_files.proofs.Replaying.{leads}

-- ---- the schema without rows

same_listings : (xs : List Listing) → map listing_of (map (λ (x : Listing). record { def = x.def; indexes = x.indexes; rows = [] }) xs) ≡ xs
same_listings [] = refl
same_listings (x ∷ xs) = ap (λ (rest : List Listing). x ∷ rest) (same_listings xs)

pub none_wrong : (xs : List Listing) → list_all is_table (map (λ (x : Listing). record { def = x.def; indexes = x.indexes; rows = [] }) xs) ≡ true
none_wrong [] = refl
none_wrong (x ∷ xs) = none_wrong xs

pub emptied_schema : (schema : Catalog) → catalog_of (emptied schema) ≡ schema
emptied_schema schema = ap (λ (tables : List Listing). record { tables = tables; next = schema.next }) (same_listings schema.tables)

emptied_holds : (schema : Catalog) → IsCatalog schema → IsTables (emptied schema)
emptied_holds schema is = record { catalog = subst IsCatalog (sym (emptied_schema schema)) is; rows = none_wrong schema.tables }

-- ---- what pages stand for

pages_hold : (pages : Section) (list : List ℕ) (t u : Tables) → AddsPages pages list t u → IsTables t → IsTables u
pages_hold pages [] t u adds hold = subst IsTables adds hold
pages_hold pages (page ∷ list) t u adds hold = pages_hold pages list adds.0 u adds.2 (all_acts_hold (inserts adds.1.rows) t adds.0 hold adds.1.added)

pub stands_lawful : (pages : Section) (head : Head) (s : State) → Stands pages head s → IsLawful s
stands_lawful pages head s stands = record {
  tables = pages_hold pages (other_pages head.count (listed stands.chains)) (emptied stands.schema) s.tables stands.rows (emptied_holds stands.schema stands.catalog);
  apart = stands.undoes.apart;
  undoes = stands.undoes.undoes;
}

pub now_lawful : (files : Image) (formed : IsFormed files) → IsLawful formed.now
now_lawful files formed =
    let later = leads (later_bodies (files 2) formed.head) formed.saved formed.now formed.later in
    all_stay_lawful later.entries formed.saved formed.now (stands_lawful (first_pages files formed.head.count) formed.head formed.saved formed.stands) later.applied

pub formed_opens : (files : Image) → IsFormed files → (t : Tables) × Opens files t
formed_opens files formed = let to : Undone formed.now = undone_of formed.now (now_lawful files formed) in (to.to, record { formed = formed; undone = to.is })

-- The worked files are sound.
use Rattle.std.proofs.Common.{◌≡◌, ◌≢◌, ℕ, ℤ, pos, zero, suc, ◌+◌, ◌*◌, ◌<◌, ◌≤◌, ◌^◌, ◌==◌, true, false, List, [], ◌∷◌, ◌++◌, length, take, drop, map, Option, Some, IsSome, refl, subst, sym, ◌∙◌, ap, arith, rules}
use Rattle.std.specs.Prelude.{nat_eq}
use Rattle.std.specs.List.{IsDistinct}
use Rattle.std.proofs.lemmas.Map.Keys.{IsDistinct-cons}
use Rattle.wat_disk.specs.Disk.{Image}
use Rattle.wat_gate.specs.Bodies.{bodies, body_of, IsWhole}
use Rattle.wat_restore.specs.Head.{Head, IsHead, head_bytes}
use Rattle.wat_restore.specs.Restored.{StandsIn}
use Rattle.wat_restore.specs.Opening.{IsHeadIn}
use Rattle.wat_slot.specs.Cells.{IsCellPage}
use Rattle.wat_value.specs.Encoding.{count_bytes, int_bytes, IsEncodable}
use Rattle.wat_value.specs.declared.value.Value.{Value}
use Rattle.wat_value.specs.declared.value.Value.TheVariants.{Int}
use Rattle.wat_value.specs.declared.definition.TableDef.{TableDef}
use Rattle.wat_value.specs.declared.definition.Kind.TheVariants.{Integer}
use Rattle.wat_schema.specs.Catalog.{Catalog}
use Rattle.wat_schema.specs.Stored.{IsCatalog}
use Rattle.wat_schema.specs.Tables.{Row, Tables}
use Rattle.wat_book.specs.Book.{Section}
use Rattle.wat_book.specs.Chains.{IsChainPage, IsLink}
use Rattle.wat_book.proofs.Chaining.{none_twice}
use Rattle.wat_word.specs.Words.{keyword, reserved}
use Rattle.wat_log_record.specs.Encoding.{number_bytes}
use Rattle.wat_replay.specs.State.{Lists, State, no_lists, undo_below, connections, undone}
use Rattle.wat_spelled.specs.Schema.{SpellsSchema}
use Rattle.wat_spelled.specs.Changes.{TellsLists}
use Rattle.wat_files.specs.Pages.{first_pages}
use Rattle.wat_files.specs.Chains.{Chains, HasChains}
use Rattle.wat_files.specs.Rows.{AddsPage, Placed, cell_of, IsPlaced, IsRowPage, HasRows, emptied}
use Rattle.wat_files.specs.Formed.{HasHeader, HoldsSchema, CanUndo, HasLog, AppliesBodies, IsFormed, state_of}
use Rattle.wat_files.proofs.Holding.{page_stands}
use Rattle.wat_files_worked.specs.Files
use Rattle.wat_files_worked.proofs.Pages.{page_long, first_page, second_page, third_page, no_images, plain}

-- ---- what the files stand for

abbrev pub head : Head
head = record { limit = 65536; count = 3; frames = 2; place = 120; catalog = 1; rollback = 0; free = 0; next_table = 2 }

abbrev pub def : TableDef
def = record {
  number = 1;
  name = 0x74 ∷ [];
  columns = record { name = 0x6b ∷ []; kind = Integer; nullable = false } ∷ record { name = 0x76 ∷ []; kind = Integer; nullable = true } ∷ [];
  key = 0 ∷ [];
}

abbrev pub schema : Catalog
schema = record { tables = record { def = def; indexes = [] } ∷ []; next = 2 }

abbrev pub row : ℕ → ℕ → Row
row key value = Int (pos key) ∷ Int (pos value) ∷ []

abbrev pub placed : List Placed
placed = (1, row 1 10) ∷ (1, row 3 30) ∷ (1, row 5 50) ∷ []

abbrev pub tables : Tables
tables = record { tables = record { def = def; indexes = []; rows = row 1 10 ∷ row 3 30 ∷ row 5 50 ∷ [] } ∷ []; next = 2 }

abbrev pub chains : Chains
chains = record { catalog = 1 ∷ []; schema = 0 ∷ 0 ∷ 0 ∷ 1 ∷ Files.definition ++ 0 ∷ []; rollback = []; changes = []; free = [] }

-- ---- the header

abbrev pub page_0 : List ℕ
page_0 = Files.page_of Files.header 4040

abbrev pub page_1 : List ℕ
page_1 = Files.page_of Files.catalog 4054

abbrev pub page_2 : List ℕ
page_2 = Files.page_of Files.rows 4002

pub long_0 : length page_0 ≡ 4096
long_0 = page_long Files.header 4040 refl

pub long_1 : length page_1 ≡ 4096
long_1 = page_long Files.catalog 4054 refl

pub long_2 : length page_2 ≡ 4096
long_2 = page_long Files.rows 4002 refl

-- files whose main begins with the header's page, with nothing in the before file
abbrev pub files_with : List ℕ → List ℕ → List ℕ → Image
files_with b c log = Files.files_of (page_0 ++ (b ++ c)) (0 ∷ []) log

has_0 : (b c log : List ℕ) → StandsIn (files_with b c log) 0 page_0
has_0 b c log = plain (page_0 ++ (b ++ c)) log 0 page_0 (first_page page_0 b c long_0)

has_1 : (c log : List ℕ) → StandsIn (files_with page_1 c log) 1 page_1
has_1 c log = plain (page_0 ++ (page_1 ++ c)) log 1 page_1 (second_page page_0 page_1 c long_0 long_1)

has_2 : (log : List ℕ) → StandsIn (files_with page_1 page_2 log) 2 page_2
has_2 log = plain (page_0 ++ (page_1 ++ page_2)) log 2 page_2 (third_page page_0 page_1 page_2 long_0 long_1 long_2)

-- the bytes of the header are its fields
pub is_head : IsHead page_0 head
unfolding head_bytes
is_head = record {
  bytes = refl;
  fits = record { some = omega arith; limit = omega arith; count = omega arith; frames = omega arith; place = omega arith; catalog = omega arith; rollback = omega arith; free = omega arith; next_table = omega arith };
}

pub has_header : (b c log : List ℕ) → HasHeader (files_with b c log) head
has_header b c log = record { log = no_images; is = record { page = page_0; stands = has_0 b c log; is = is_head } }

-- ---- the catalog

abbrev pub payload : List ℕ
payload = 0 ∷ 0 ∷ 0 ∷ 1 ∷ Files.definition ++ 0 ∷ []

pub in_chain : IsChainPage page_1 0 payload
in_chain = record { front = refl; payload = refl; short = omega arith; number = omega arith; whole = long_1 }

-- the pages that the header counts
abbrev pub pages_with : List ℕ → List ℕ → List ℕ → Section
pages_with b c log = first_pages (files_with b c log) 3

link : (c log : List ℕ) → IsLink (pages_with page_1 c log 1) 0 payload
link c log = subst (λ (o : Option (List ℕ)). IsLink o 0 payload) (sym (page_stands (files_with page_1 c log) 1 page_1 (has_1 c log))) in_chain

pub one_alone : IsDistinct nat_eq (1 ∷ [])
one_alone = IsDistinct-cons nat_eq 1 [] tt none_twice

pub has_chains : (c log : List ℕ) → HasChains (pages_with page_1 c log) head chains
has_chains c log = record {
  some = omega arith;
  catalog = record { chain = (refl, omega arith, 0, payload, [], link c log, refl, (refl, refl)); once = one_alone };
  rollback = record { chain = (refl, refl); once = one_alone };
  free = record { chain = refl; once = one_alone };
}

pub spells_schema : SpellsSchema payload schema
unfolding number_bytes count_bytes keyword reserved
spells_schema = record {
  bytes = refl;
  few = omega arith;
  encodable = (
    record {
      def = record {
        number = omega arith;
        name = refl;
        columns = record { few = omega arith; each = (record { name = refl; kind = tt }, (record { name = refl; kind = tt }, tt)) };
        key = omega arith;
      };
      few = omega arith;
      indexes = tt;
    },
    tt,
  );
  order = refl;
  numbered = refl;
}

pub holds_schema : HoldsSchema head payload schema
holds_schema = record { spells = spells_schema; next = refl }

pub tells_lists : TellsLists 0 [] no_lists
tells_lists = record { none = λ _. refl; some = λ some. absurd (some refl) }

pub is_catalog : IsCatalog schema
is_catalog = record { order = refl; next = omega arith; few = omega arith; tables = refl; names = refl; indexes = refl }

-- ---- the rows

cell_page : IsCellPage page_2 (map cell_of placed)
unfolding number_bytes count_bytes int_bytes
cell_page = record { front = refl; content = refl; fit = omega arith; whole = long_2 }

fits_row : (key value : ℕ) → key < 100 → value < 100 → IsEncodable (row key value)
fits_row key value small low = search (rules, arith)

placed_row : (key value : ℕ) → key < 100 → value < 100 → IsPlaced (1, row key value)
placed_row key value small low = record { table = omega arith; row = fits_row key value small low }

pub row_page : IsRowPage page_2 placed
row_page = record {
  cells = cell_page;
  encodable = (placed_row 1 10 (omega arith) (omega arith), (placed_row 3 30 (omega arith) (omega arith), (placed_row 5 50 (omega arith) (omega arith), tt)));
}

pub adds_page : (log : List ℕ) → AddsPage (pages_with page_1 page_2 log) 2 (emptied schema) tables
adds_page log = record {
  rows = placed;
  has = subst (λ (o : Option (List ℕ)). HasRows o placed) (sym (page_stands (files_with page_1 page_2 log) 2 page_2 (has_2 log))) row_page;
  added = refl;
}

-- ---- the changes that stand: none

undone_none : (n : ℕ) (lists : Lists) (t : Tables) → ((conn : ℕ) → lists conn ≡ []) → undo_below n lists t ≡ Some t
undone_none zero lists t none = refl
undone_none (suc n) lists t none = rw (undone_none n lists t none) (rw (none n) refl)

pub can_undo : CanUndo (state_of tables no_lists)
can_undo = record { apart = λ a b differ. refl; undoes = rw (undone_none connections no_lists tables (λ conn. refl)) refl }

-- ---- the log

pub whole_log : IsWhole Files.log
unfolding bodies body_of
whole_log = record { there = omega arith; closed = λ e. omega (arith, e) }

pub has_log : HasLog Files.log head
unfolding bodies body_of
has_log = record { whole = whole_log; frames = omega arith; place = refl }

pub no_later : drop 2 (bodies Files.log) ≡ []
unfolding bodies body_of
no_later = refl

abbrev pub is_formed : IsFormed Files.whole_files
is_formed = record {
  head = head;
  header = has_header page_1 page_2 Files.log;
  saved = state_of tables no_lists;
  stands = record {
    chains = chains;
    has = has_chains page_2 Files.log;
    schema = schema;
    holds = holds_schema;
    lists = tells_lists;
    catalog = is_catalog;
    rows = (tables, adds_page Files.log, refl);
    undoes = can_undo;
  };
  log = has_log;
  now = state_of tables no_lists;
  later = subst (λ (all : List (List ℕ)). AppliesBodies all (state_of tables no_lists) (state_of tables no_lists)) (sym no_later) refl;
}

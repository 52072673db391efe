-- Files with one thing broken fail at their place.
use Rattle.std.proofs.Common.{◌≡◌, ◌≢◌, ℕ, ◌+◌, ◌*◌, ◌<◌, ◌≤◌, List, [], ◌∷◌, ◌++◌, length, take, drop, Option, refl, sym, ◌∙◌, ap, subst, inl, inr, arith}
use Rattle.std.specs.List.{flat_map}
use Rattle.wat_disk.specs.Disk.{Image}
use Rattle.wat_gate.specs.Bodies.{bodies, body_of, IsWhole, IsBrokenAt}
use Rattle.wat_restore.specs.Head.{Head, IsHead, head_bytes}
use Rattle.wat_restore.specs.Restored.{StandsIn, HasPage}
use Rattle.wat_restore.specs.Opening.{IsHeadIn}
use Rattle.wat_book.specs.Chains.{IsChainPage, IsLink, IsNoLink}
use Rattle.wat_book.proofs.Chaining.{none_twice}
use Rattle.wat_slot.specs.Cells.{IsCellPage, cells_front}
use Rattle.wat_schema.specs.Tables.{Tables}
use Rattle.wat_log_record.specs.declared.log_record.LogRecord.{LogRecord}
use Rattle.wat_log_record.specs.declared.log_record.LogRecord.TheVariants.{Changed, UndoTo, Commit, Rollback, Schema}
use Rattle.wat_log_record.specs.Encoding.{record_bytes}
use Rattle.wat_log_record.specs.Bodies.{SpellsRecords}
use Rattle.wat_replay.specs.State.{State, no_lists}
use Rattle.wat_files.specs.Rows.{AddsPage, IsRowPage, HasRows, emptied}
use Rattle.wat_files.proofs.Holding.{page_stands}
use Rattle.wat_files.specs.Formed.{HasLog, AppliesBody, BodiesStop, FailsInRows, FailsInLog, FailsInRecords, IsAtPage, state_of, FailsAt}
use Rattle.wat_files_worked.specs.Files
use Rattle.wat_files_worked.proofs.Pages.{page_long, first_page, second_page, third_page, no_images, plain, plain_back}
use Rattle.wat_files_worked.proofs.Whole.{head, chains, schema, tables, page_0, page_1, page_2, long_0, long_1, long_2, files_with, pages_with, has_header, has_chains, holds_schema, tells_lists, is_catalog, adds_page, can_undo}

-- ---- the before file has no gate

pub no_gate : FailsAt Files.without_gate 1 0
unfolding bodies
no_gate = inl (inl (record { in_before = refl; broken = record { place = refl; broken = inl (omega arith) } }))

-- ---- the header is another's

abbrev bad_header : List ℕ
bad_header = Files.page_of (0 ∷ drop 1 Files.header) 4040

bad_long : length bad_header ≡ 4096
bad_long = page_long (0 ∷ drop 1 Files.header) 4040 refl

no_head : (h : Head) → IsHead bad_header h → ⊥
unfolding head_bytes
no_head h is = let same : take 1 bad_header ≡ 87 ∷ [] = ap (take 1) is.bytes in cc

pub no_header : FailsAt Files.without_header 0 0
no_header = inl (inr (inr (record {
  in_main = refl;
  place = refl;
  log = no_images;
  none = λ h is.
      let there = plain_back (bad_header ++ (page_1 ++ page_2)) Files.log 0 is.page is.stands in
      let front = first_page bad_header page_1 page_2 bad_long in
      no_head h (subst (λ (page : List ℕ). IsHead page h) (sym there.is ∙ front.is) is.is);
})))

-- ---- the catalog's page is of another kind

abbrev bad_catalog : List ℕ
bad_catalog = Files.page_of (3 ∷ drop 1 Files.catalog) 4054

bad_catalog_long : length bad_catalog ≡ 4096
bad_catalog_long = page_long (3 ∷ drop 1 Files.catalog) 4054 refl

no_link : IsNoLink (pages_with bad_catalog page_2 Files.log 1)
no_link next part link =
    let second = plain (page_0 ++ (bad_catalog ++ page_2)) Files.log 1 bad_catalog (second_page page_0 bad_catalog page_2 long_0 bad_catalog_long) in
    let page : IsChainPage bad_catalog next part = subst (λ (o : Option (List ℕ)). IsLink o next part) (page_stands Files.without_catalog 1 bad_catalog second) link in
    let same : take 1 bad_catalog ≡ 2 ∷ [] = ap (take 1) page.front in
    cc

pub no_catalog : FailsAt Files.without_catalog 0 4096
no_catalog = inr (
  head,
  has_header bad_catalog page_2 Files.log,
  inl (record {
    page = 1;
    stops = inl (inr (omega arith, record { list = []; payload = []; begins = (refl, refl); once = none_twice; some = omega arith; broken = inr no_link }));
    in_main = refl;
    place = refl;
  }),
)

-- ---- page 2 is no row page

abbrev bad_rows : List ℕ
bad_rows = Files.page_of (4 ∷ drop 1 Files.rows) 4002

bad_rows_long : length bad_rows ≡ 4096
bad_rows_long = page_long (4 ∷ drop 1 Files.rows) 4002 refl

no_cells : (next : Tables) → AddsPage (pages_with page_1 bad_rows Files.log) 2 (emptied schema) next → ⊥
no_cells next adds =
    let third = plain (page_0 ++ (page_1 ++ bad_rows)) Files.log 2 bad_rows (third_page page_0 page_1 bad_rows long_0 long_1 bad_rows_long) in
    let page : IsRowPage bad_rows adds.rows = subst (λ (o : Option (List ℕ)). HasRows o adds.rows) (page_stands Files.without_rows 2 bad_rows third) adds.has in
    let same : take 1 bad_rows ≡ 3 ∷ [] = ap (take 1) page.cells.front in
    cc

-- the files are well up to the rows
behind_schema : (c log : List ℕ) (file at : ℕ) → FailsInRows (pages_with page_1 c log) log head chains schema no_lists file at → FailsAt (files_with page_1 c log) file at
behind_schema c log file at fails =
    inr (head, has_header page_1 c log, inr (chains, has_chains c log, inr (schema, holds_schema, inr (no_lists, tells_lists, inr (is_catalog, fails)))))

pub no_rows : FailsAt Files.without_rows 0 8192
no_rows = behind_schema bad_rows Files.log 0 8192 (inl (record { page = 2; stops = inl (refl, no_cells); in_main = refl; place = refl }))

-- ---- the log

-- the files are well up to the log
behind_changes : (log : List ℕ) (file at : ℕ) → FailsInLog log head (state_of tables no_lists) file at → FailsAt (files_with page_1 page_2 log) file at
behind_changes log file at fails = behind_schema page_2 log file at (inr (tables, (tables, adds_page log, refl), inr (can_undo, fails)))

pub log_cut : FailsAt Files.cut_log 2 28
unfolding bodies body_of
log_cut = behind_changes (Files.frame_1 ++ Files.frame_2) 2 28 (inl (refl, inl (record { place = refl; broken = inr refl })))

pub log_short : FailsAt Files.short_log 2 28
unfolding bodies body_of
log_short = behind_changes (Files.frame_1 ++ 0 ∷ []) 2 28 (inl (refl, inr (record { there = omega arith; closed = λ e. omega (arith, e) }, inl (record { few = omega arith; place = refl }))))

-- a record begins with a byte from 1 to 5
no_record_9 : (entry : LogRecord) (rest : List ℕ) → 9 ∷ [] ≡ record_bytes entry ++ rest → ⊥
no_record_9 (Changed conn change) rest e = cc
no_record_9 (UndoTo conn count) rest e = cc
no_record_9 (Commit conn) rest e = cc
no_record_9 (Rollback conn) rest e = cc
no_record_9 (Schema change) rest e = cc

no_body_9 : (entries : List LogRecord) → SpellsRecords (9 ∷ []) entries → ⊥
no_body_9 [] spells = spells.some refl
no_body_9 (entry ∷ entries) spells = no_record_9 entry (flat_map record_bytes entries) spells.spelled

pub record_bad : FailsAt Files.bad_record 2 120
unfolding bodies body_of
record_bad = behind_changes (Files.frame_1 ++ Files.frame_2 ++ 0xa5 ∷ 0 ∷ 0 ∷ 0 ∷ 1 ∷ 9 ∷ 0 ∷ []) 2 120
    (inr (
      record { whole = record { there = omega arith; closed = λ e. omega (arith, e) }; frames = omega arith; place = refl },
      record { behind = 0; stops = inl (refl, λ next applies. no_body_9 applies.entries applies.spells); in_log = refl; place = refl },
    ))

use Rattle.std.proofs.Common.{◌≡◌, ℕ, List, inl, sym, ap, subst, ◌∙◌, arith}
use Rattle.wat_restore.specs.Head.{Head}
use Rattle.wat_book.specs.Book.{Section}
use Rattle.wat_images.specs.Refusal.{IfDamaged}
use Rattle.wat_images.proofs.Writing.{if_damaged}
use Rattle.wat_pages.specs.declared.header.Header.{Header}
use Rattle.wat_pages.specs.Header.{head_of}
use Rattle.wat_pages.specs.Pages.{book_of, limit_of, count_of, first_free_of}
use Rattle.wat_undo.specs.Kept.{lists_of}
use Rattle.wat_heap.specs.Heaps.{directory_of}
use Rattle.wat_files.specs.Chains.{ChainsStop}
use Rattle.wat_files.specs.Formed.{IsAtPage, HasLog, LogStops, FailsInRows, FailsInCatalog, FailsInChains}
use Rattle.wat_free_list.specs.Whole.{whole_pages}
use Rattle.wat_roots.specs.Roots.{head_now}
use Rattle.wat_roots.proofs.Going.{went_then, stays_then}
use Rattle.wat_roots.proofs.Reading.{whole_path, head_path}
use Rattle.wat_loading.specs.Parts.{TellParts}
use Rattle.wat_loading.proofs.Logging.{in_log as log_to}
use Rattle.wat_loading.proofs.Together.{roots_at, rows_back, in_payloads, in_rows, in_log, went_files, stays_files}
use Rattle.wat_loading.proofs.loading.load_parts.Goals as goal

pub returns-in-Err-clause-damaged : goal.returns-in-Err-clause-damaged
returns-in-Err-clause-damaged g c tells =
    let told = g.D.Disk.told c.args.disk.now in
    let w = whole_pages (book_of told c.args.pages.now) in
    let head = head_now c.args.pages.now in
    if_damaged c.in-Err.refusal (λ file at. IsAtPage file at (ChainsStop w head)) (FailsInChains w (told.content 2) head) (λ file at is. inl is) (c.in-Err.ensures.damaged tells)

pub returns-in-Err-read_parts-clause-damaged : goal.returns-in-Err-read_parts-clause-damaged
returns-in-Err-read_parts-clause-damaged g c tells =
    let told = g.D.Disk.told in
    let a = book_of (told c.args.disk.now) c.args.pages.now in
    let b = book_of (told c.read_roots.new.disk) c.read_roots.new.pages in
    let p = c.read_roots.new.pages in
    let log = (told c.args.disk.now).content 2 in
    let has = c.in-Ok.ensures.read tells in
    let pages : whole_pages a ≡ whole_pages b = sym (whole_path a b (c.in-Ok.ensures.stays tells).pages) in
    let heads : head_now c.args.pages.now ≡ head_of c.header.result.now (limit_of p) (count_of p) (first_free_of p) =
    sym (head_path c.args.pages.now p (c.read_roots.ensures.went tells).head) ∙ ap (λ (h : Header). head_of h (limit_of p) (count_of p) (first_free_of p)) (sym c.header.ensures) in
    in_payloads (whole_pages a) log (head_now c.args.pages.now) has.chains has.has c.in-Err-read_parts.refusal
    (subst (λ (w : Section). IfDamaged c.in-Err-read_parts.refusal (FailsInCatalog w log (head_now c.args.pages.now) has.chains)) (sym pages)
    (subst (λ (h : Head). IfDamaged c.in-Err-read_parts.refusal (FailsInCatalog (whole_pages b) log h has.chains)) (sym heads)
    (c.in-Err-read_parts.ensures.damaged (whole_pages b) log (limit_of p) (count_of p) (first_free_of p) (roots_at (whole_pages a) (whole_pages b) _ _ pages heads c.in-Ok.roots has))))

pub returns-in-Err-take_state-clause-damaged : goal.returns-in-Err-take_state-clause-damaged
returns-in-Err-take_state-clause-damaged g c tells =
    let told = g.D.Disk.told in
    let a = book_of (told c.args.disk.now) c.args.pages.now in
    let b = book_of (told c.read_roots.new.disk) c.read_roots.new.pages in
    let p = c.read_roots.new.pages in
    let log = (told c.args.disk.now).content 2 in
    let has = c.in-Ok.ensures.read tells in
    let real = head_now c.args.pages.now in
    let pages : whole_pages a ≡ whole_pages b = sym (whole_path a b (c.in-Ok.ensures.stays tells).pages) in
    let now : real ≡ head_now p = sym (head_path c.args.pages.now p (c.read_roots.ensures.went tells).head) in
    let heads : real ≡ head_of c.header.result.now (limit_of p) (count_of p) (first_free_of p) = now ∙ ap (λ (h : Header). head_of h (limit_of p) (count_of p) (first_free_of p)) (sym c.header.ensures) in
    let schema = c.in-Ok-read_parts.parts.schema in
    let lists = lists_of c.in-Ok-read_parts.parts.undo in
    let parts : TellParts real has.chains schema lists = subst (λ (h : Head). TellParts h has.chains schema lists) (sym heads)
    (c.in-Ok-read_parts.ensures.read (whole_pages b) (limit_of p) (count_of p) (first_free_of p) (roots_at (whole_pages a) (whole_pages b) _ _ pages heads c.in-Ok.roots has)) in
    in_rows (whole_pages a) log real has.chains has.has schema lists parts c.in-Err-take_state.refusal
    (subst (λ (w : Section). IfDamaged c.in-Err-take_state.refusal (FailsInRows w log real has.chains schema lists)) (sym pages)
    (subst (λ (h : Head). IfDamaged c.in-Err-take_state.refusal (FailsInRows (whole_pages b) log h has.chains schema lists)) (sym now)
    (c.in-Err-take_state.ensures.damaged tells log (roots_at (whole_pages a) (whole_pages b) _ _ pages now c.in-Ok.roots has))))

pub returns-in-Err-open_log-clause-damaged : goal.returns-in-Err-open_log-clause-damaged
returns-in-Err-open_log-clause-damaged g c tells =
    let told = g.D.Disk.told in
    let a = book_of (told c.args.disk.now) c.args.pages.now in
    let b = book_of (told c.read_roots.new.disk) c.read_roots.new.pages in
    let p = c.read_roots.new.pages in
    let log = (told c.args.disk.now).content 2 in
    let has = c.in-Ok.ensures.read tells in
    let real = head_now c.args.pages.now in
    let same = (c.in-Ok.ensures.stays tells).pages in
    let went = c.read_roots.ensures.went tells in
    let pages : whole_pages a ≡ whole_pages b = sym (whole_path a b same) in
    let now : real ≡ head_now p = sym (head_path c.args.pages.now p went.head) in
    let heads : real ≡ head_of c.header.result.now (limit_of p) (count_of p) (first_free_of p) = now ∙ ap (λ (h : Header). head_of h (limit_of p) (count_of p) (first_free_of p)) (sym c.header.ensures) in
    let schema = c.in-Ok-read_parts.parts.schema in
    let lists = lists_of c.in-Ok-read_parts.parts.undo in
    let parts : TellParts real has.chains schema lists = subst (λ (h : Head). TellParts h has.chains schema lists) (sym heads)
    (c.in-Ok-read_parts.ensures.read (whole_pages b) (limit_of p) (count_of p) (first_free_of p) (roots_at (whole_pages a) (whole_pages b) _ _ pages heads c.in-Ok.roots has)) in
    let rows = rows_back a b c.args.pages.now p same went.head has.chains schema lists (directory_of c.in-Ok-take_state.heap) (c.in-Ok-take_state.ensures.taken tells (roots_at (whole_pages a) (whole_pages b) _ _ pages now c.in-Ok.roots has)) in
    let file : (told c.take_state.new.disk).content 2 ≡ log = (c.take_state.ensures.went tells).goes.others 2 (omega arith) ∙ went.goes.others 2 (omega arith) in
    in_log (whole_pages a) log real has.chains has.has schema lists parts c.in-Err-open_log.refusal rows.t rows.rows rows.can
    (log_to c.in-Err-open_log.refusal (LogStops ((told c.take_state.new.disk).content 2) (head_of c.header.result.now (limit_of p) (count_of p) (first_free_of p))) (LogStops log real)
    (λ at is. subst (λ (h : Head). LogStops log h at) (sym heads) (subst (λ (content : List ℕ). LogStops content (head_of c.header.result.now (limit_of p) (count_of p) (first_free_of p)) at) file is))
    (c.in-Err-open_log.ensures.damaged tells (limit_of p) (count_of p) (first_free_of p)))

pub returns-clause-loaded : goal.returns-clause-loaded
returns-clause-loaded g c tells =
    let told = g.D.Disk.told in
    let a = book_of (told c.args.disk.now) c.args.pages.now in
    let b = book_of (told c.read_roots.new.disk) c.read_roots.new.pages in
    let p = c.read_roots.new.pages in
    let log = (told c.args.disk.now).content 2 in
    let has = c.in-Ok.ensures.read tells in
    let real = head_now c.args.pages.now in
    let same = (c.in-Ok.ensures.stays tells).pages in
    let went = c.read_roots.ensures.went tells in
    let pages : whole_pages a ≡ whole_pages b = sym (whole_path a b same) in
    let now : real ≡ head_now p = sym (head_path c.args.pages.now p went.head) in
    let heads : real ≡ head_of c.header.result.now (limit_of p) (count_of p) (first_free_of p) = now ∙ ap (λ (h : Header). head_of h (limit_of p) (count_of p) (first_free_of p)) (sym c.header.ensures) in
    let schema = c.in-Ok-read_parts.parts.schema in
    let lists = lists_of c.in-Ok-read_parts.parts.undo in
    let file : (told c.take_state.new.disk).content 2 ≡ log = (c.take_state.ensures.went tells).goes.others 2 (omega arith) ∙ went.goes.others 2 (omega arith) in
    record {
      chains = has.chains;
      has = has.has;
      parts = subst (λ (h : Head). TellParts h has.chains schema lists) (sym heads)
          (c.in-Ok-read_parts.ensures.read (whole_pages b) (limit_of p) (count_of p) (first_free_of p) (roots_at (whole_pages a) (whole_pages b) _ _ pages heads c.in-Ok.roots has));
      rows = rows_back a b c.args.pages.now p same went.head has.chains schema lists (directory_of c.in-Ok-take_state.heap) (c.in-Ok-take_state.ensures.taken tells (roots_at (whole_pages a) (whole_pages b) _ _ pages now c.in-Ok.roots has));
      logged = subst (λ (h : Head). HasLog log h) (sym heads)
          (subst (λ (content : List ℕ). HasLog content (head_of c.header.result.now (limit_of p) (count_of p) (first_free_of p))) file (c.in-Ok-open_log.ensures.has tells (limit_of p) (count_of p) (first_free_of p)));
    }

pub returns-in-Err-take_state-clause-went : goal.returns-in-Err-take_state-clause-went
returns-in-Err-take_state-clause-went g c tells = went_then _ _ _ _ _ _ (c.read_roots.ensures.went tells) (c.in-Ok.ensures.stays tells) (c.take_state.ensures.went tells)

pub returns-in-Err-open_log-clause-went : goal.returns-in-Err-open_log-clause-went
returns-in-Err-open_log-clause-went g c tells =
    went_then _ _ _ _ _ _ (c.read_roots.ensures.went tells) (c.in-Ok.ensures.stays tells)
    (went_then _ _ _ _ _ _ (c.take_state.ensures.went tells) (c.in-Ok-take_state.ensures.stays tells) (went_files _ _ c.take_state.new.pages c.open_log.ensures.content c.open_log.ensures.stops))

pub returns-clause-went : goal.returns-clause-went
returns-clause-went g c tells =
    went_then _ _ _ _ _ _ (c.read_roots.ensures.went tells) (c.in-Ok.ensures.stays tells)
    (went_then _ _ _ _ _ _ (c.take_state.ensures.went tells) (c.in-Ok-take_state.ensures.stays tells) (went_files _ _ c.take_state.new.pages c.open_log.ensures.content c.open_log.ensures.stops))

pub returns-clause-stays : goal.returns-clause-stays
returns-clause-stays g c tells =
    stays_then _ _ _ _ _ _ (c.in-Ok.ensures.stays tells)
    (stays_then _ _ _ _ _ _ (c.in-Ok-take_state.ensures.stays tells) (stays_files _ _ c.take_state.new.pages c.open_log.ensures.content c.open_log.ensures.stops (c.in-Ok-take_state.ensures.stays tells).keeps.known))

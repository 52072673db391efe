use Rattle.std.proofs.Common.{◌≡◌, false, true, Err, sym, ◌∙◌, ap, subst}
use Rattle.wat_disk.specs.Disk.{Image}
use Rattle.wat_images.specs.declared.refusal.PageRefusal.{PageRefusal}
use Rattle.wat_files.specs.Formed.{FailsAt, IsFormed, Opens}
use Rattle.wat_keeping.specs.Durable.{IsDatabase}
use Rattle.wat_repeating.specs.OnPages.{IsFull}
use Rattle.wat_store.specs.Store.{told_of}
use Rattle.wat_opening.specs.declared.refusal.OpenWhy.{OpenWhy}
use Rattle.wat_opening.specs.Refusal.{IfDamaged, IfPageLimit, IsOnEmpty}
use Rattle.wat_opening.specs.Opening.{LeavesPages}
use Rattle.wat_opening.proofs.Answering.{why_damaged, why_limited, why_on_empty, never_none, why_fault, rose_then, leaves_then, read_leaves, read_safe, read_there, read_content, read_stops, read_then}
use Rattle.wat_opening.proofs.opening.open.Goals as goal

pub returns-in-Ok-clause-opened : goal.returns-in-Ok-clause-opened
returns-in-Ok-clause-opened g c tells limit t there is =
    let old = g.D.Disk.told c.args.disk in
    let mid = g.D.Disk.told c.are_empty.new.disk in
    let same = c.are_empty.ensures.content in
    let stops = c.are_empty.ensures.stops in
    c.in-Ok.ensures.opened tells limit t (read_there old mid same stops there) (subst (λ (files : Image). IsDatabase limit t files) (read_content old mid same stops) is)

pub returns-in-Ok-clause-limit : goal.returns-in-Ok-clause-limit
returns-in-Ok-clause-limit g c tells limit t there is =
    let old = g.D.Disk.told c.args.disk in
    let mid = g.D.Disk.told c.are_empty.new.disk in
    let same = c.are_empty.ensures.content in
    let stops = c.are_empty.ensures.stops in
    c.in-Ok.ensures.limit tells limit t (read_there old mid same stops there) (subst (λ (files : Image). IsDatabase limit t files) (read_content old mid same stops) is)

pub returns-in-Ok-clause-stops : goal.returns-in-Ok-clause-stops
returns-in-Ok-clause-stops g c tells limit t there is =
    let old = g.D.Disk.told c.args.disk in
    let mid = g.D.Disk.told c.are_empty.new.disk in
    let same = c.are_empty.ensures.content in
    let stops = c.are_empty.ensures.stops in
    read_then old mid same stops (told_of c.in-Ok.store) limit t there is
    (c.in-Ok.ensures.stops tells limit t (read_there old mid same stops there) (subst (λ (files : Image). IsDatabase limit t files) (read_content old mid same stops) is))

pub returns-in-Ok-clause-formed : goal.returns-in-Ok-clause-formed
returns-in-Ok-clause-formed g c tells t there opens =
    let old = g.D.Disk.told c.args.disk in
    let mid = g.D.Disk.told c.are_empty.new.disk in
    let same = c.are_empty.ensures.content in
    let stops = c.are_empty.ensures.stops in
    c.in-Ok.ensures.formed tells t (read_there old mid same stops there) (subst (λ (files : Image). Opens files t) (read_content old mid same stops) opens)

pub returns-in-Ok-clause-only : goal.returns-in-Ok-clause-only
returns-in-Ok-clause-only g c tells there =
    let old = g.D.Disk.told c.args.disk in
    let mid = g.D.Disk.told c.are_empty.new.disk in
    let same = c.are_empty.ensures.content in
    let stops = c.are_empty.ensures.stops in
    subst IsFormed (sym (read_content old mid same stops)) (c.in-Ok.ensures.only tells (read_there old mid same stops there))

pub returns-in-Ok-clause-empty : goal.returns-in-Ok-clause-empty
returns-in-Ok-clause-empty g c tells are = absurd (let bad : true ≡ false = sym ((c.in-Ok-false.ensures.empty tells).1 are) ∙ c.in-Ok-false.field-0-test in cc)

pub returns-in-Ok-true-clause-stops_refused : goal.returns-in-Ok-true-clause-stops_refused
returns-in-Ok-true-clause-stops_refused g c tells limit t there is =
    read_stops (g.D.Disk.told c.args.disk) (g.D.Disk.told c.are_empty.new.disk) c.are_empty.ensures.content c.are_empty.ensures.stops limit t there is

pub returns-in-Ok-true-clause-no_database : goal.returns-in-Ok-true-clause-no_database
returns-in-Ok-true-clause-no_database g c tells none = (c.in-Ok-true.ensures.empty tells).0 c.in-Ok-true.field-0-test

pub returns-in-Err-clause-stops_refused : goal.returns-in-Err-clause-stops_refused
returns-in-Err-clause-stops_refused g c tells limit t there is =
    read_stops (g.D.Disk.told c.args.disk) (g.D.Disk.told c.are_empty.new.disk) c.are_empty.ensures.content c.are_empty.ensures.stops limit t there is

pub returns-in-Err-clause-empty : goal.returns-in-Err-clause-empty
returns-in-Err-clause-empty g c tells are = subst IsOnEmpty (sym c.why_of.ensures) (why_on_empty c.in-Err.refusal c.in-Err.ensures.undamaged c.in-Err.ensures.limited)

pub returns-in-Err-clause-no_database : goal.returns-in-Err-clause-no_database
returns-in-Err-clause-no_database g c tells none = absurd (never_none c.in-Err.refusal (sym c.why_of.ensures ∙ none))

pub returns-in-Err-clause-damaged : goal.returns-in-Err-clause-damaged
returns-in-Err-clause-damaged g c tells there =
    subst (λ (why : OpenWhy). IfDamaged why (FailsAt (g.D.Disk.told c.args.disk).content)) (sym c.why_of.ensures)
    (why_damaged c.in-Err.refusal (λ file at. ⊥) (FailsAt (g.D.Disk.told c.args.disk).content) (λ file at no. absurd no) c.in-Err.ensures.undamaged)

pub returns-in-Err-clause-left : goal.returns-in-Err-clause-left
returns-in-Err-clause-left g c tells there =
    subst (λ (why : OpenWhy). IfDamaged why (λ file at. LeavesPages (g.D.Disk.told c.args.disk) (g.D.Disk.told c.are_empty.new.disk))) (sym c.why_of.ensures)
    (why_damaged c.in-Err.refusal (λ file at. ⊥) (λ file at. LeavesPages (g.D.Disk.told c.args.disk) (g.D.Disk.told c.are_empty.new.disk)) (λ file at no. absurd no) c.in-Err.ensures.undamaged)

pub returns-in-Err-clause-limited : goal.returns-in-Err-clause-limited
returns-in-Err-clause-limited g c =
    subst (λ (why : OpenWhy). IfPageLimit why IsFull) (sym c.why_of.ensures) (why_limited c.in-Err.refusal (λ count limit. ⊥) IsFull (λ count limit no. absurd no) c.in-Err.ensures.limited)

pub returns-in-Err-clause-cause : goal.returns-in-Err-clause-cause
returns-in-Err-clause-cause g c fault =
    c.are_empty.ensures.cause.rose (c.in-Err.is ∙ ap (λ (r : PageRefusal). Err r) (why_fault c.in-Err.refusal (sym c.why_of.ensures ∙ fault)))

-- the last branch

pub returns-in-Err-open_files-clause-stops_refused : goal.returns-in-Err-open_files-clause-stops_refused
returns-in-Err-open_files-clause-stops_refused g c tells limit t there is =
    let old = g.D.Disk.told c.args.disk in
    let mid = g.D.Disk.told c.are_empty.new.disk in
    let same = c.are_empty.ensures.content in
    let stops = c.are_empty.ensures.stops in
    read_then old mid same stops (g.D.Disk.told c.in-Err-open_files.field-0.disk) limit t there is
    (c.in-Err-open_files.ensures.stops_refused tells limit t (read_there old mid same stops there) (subst (λ (files : Image). IsDatabase limit t files) (read_content old mid same stops) is))

pub returns-in-Err-open_files-clause-empty : goal.returns-in-Err-open_files-clause-empty
returns-in-Err-open_files-clause-empty g c tells are =
    absurd (let bad : true ≡ false = sym ((c.in-Ok-false.ensures.empty tells).1 are) ∙ c.in-Ok-false.field-0-test in cc)

pub returns-in-Err-open_files-clause-no_database : goal.returns-in-Err-open_files-clause-no_database
returns-in-Err-open_files-clause-no_database g c tells none =
    absurd (never_none c.in-Err-open_files.field-0.why (sym c.why_of-in-Err-open_files.ensures ∙ none))

pub returns-in-Err-open_files-clause-damaged : goal.returns-in-Err-open_files-clause-damaged
returns-in-Err-open_files-clause-damaged g c tells there =
    let old = g.D.Disk.told c.args.disk in
    let mid = g.D.Disk.told c.are_empty.new.disk in
    let same = c.are_empty.ensures.content in
    let stops = c.are_empty.ensures.stops in
    subst (λ (why : OpenWhy). IfDamaged why (FailsAt old.content)) (sym c.why_of-in-Err-open_files.ensures)
    (why_damaged c.in-Err-open_files.field-0.why (FailsAt mid.content) (FailsAt old.content) (λ file at fails. subst (λ (files : Image). FailsAt files file at) (sym (read_content old mid same stops)) fails) (c.in-Err-open_files.ensures.damaged tells (read_there old mid same stops there)))

pub returns-in-Err-open_files-clause-left : goal.returns-in-Err-open_files-clause-left
returns-in-Err-open_files-clause-left g c tells there =
    let old = g.D.Disk.told c.args.disk in
    let mid = g.D.Disk.told c.are_empty.new.disk in
    let same = c.are_empty.ensures.content in
    let stops = c.are_empty.ensures.stops in
    subst (λ (why : OpenWhy). IfDamaged why (λ file at. LeavesPages old (g.D.Disk.told c.in-Err-open_files.field-0.disk))) (sym c.why_of-in-Err-open_files.ensures)
    (why_damaged c.in-Err-open_files.field-0.why (λ file at. LeavesPages mid (g.D.Disk.told c.in-Err-open_files.field-0.disk)) (λ file at. LeavesPages old (g.D.Disk.told c.in-Err-open_files.field-0.disk)) (λ file at left. leaves_then old mid (g.D.Disk.told c.in-Err-open_files.field-0.disk) (read_leaves old mid same stops) (read_safe old mid same stops) left) (c.in-Err-open_files.ensures.left tells (read_there old mid same stops there)))

pub returns-in-Err-open_files-clause-limited : goal.returns-in-Err-open_files-clause-limited
returns-in-Err-open_files-clause-limited g c =
    subst (λ (why : OpenWhy). IfPageLimit why IsFull) (sym c.why_of-in-Err-open_files.ensures) (why_limited c.in-Err-open_files.field-0.why IsFull IsFull (λ count limit full. full) c.in-Err-open_files.ensures.limited)

pub returns-in-Err-open_files-clause-cause : goal.returns-in-Err-open_files-clause-cause
returns-in-Err-open_files-clause-cause g c fault =
    rose_then (g.D.Disk.told c.args.disk).faults (g.D.Disk.told c.are_empty.new.disk).faults (g.D.Disk.told c.in-Err-open_files.field-0.disk).faults c.are_empty.ensures.cause.later (c.in-Err-open_files.ensures.cause (why_fault c.in-Err-open_files.field-0.why (sym c.why_of-in-Err-open_files.ensures ∙ fault)))

use Rattle.std.proofs.Common.{◌≡◌, ◌≤◌, ℕ, [], sym, ◌∙◌, ap, subst, arith}
use Rattle.wat_disk.specs.Disk.{Told, EachStop}
use Rattle.wat_faults.specs.Faults.{Rose}
use Rattle.wat_images.specs.declared.refusal.PageRefusal.TheVariants.{DiskFault}
use Rattle.wat_images.specs.Refusal.{IfDamaged}
use Rattle.wat_pages.specs.declared.header.Header.{Header}
use Rattle.wat_pages.specs.Pages.{limit_of, header_of}
use Rattle.wat_replay.specs.State.{State, IsLawful}
use Rattle.wat_files.specs.Formed.{AppliesBodies, FailsInRecords}
use Rattle.wat_keeping.specs.Durable.{LeavesEither}
use Rattle.wat_keeping.proofs.Calls.{call_behind}
use Rattle.wat_objects.specs.Objects.{pages_of}
use Rattle.wat_repeating.specs.OnPages.{Stands}
use Rattle.wat_repeating.proofs.Moving.{not_damaged}
use Rattle.wat_store.specs.Parts.{StopsAt}
use Rattle.wat_store.specs.Store.{told_of, limit_in}
use Rattle.wat_opening.specs.Opening.{settled, LeavesPages}
use Rattle.wat_opening.specs.Bringing.{BringsUp, later_in}
use Rattle.wat_opening.proofs.Brought.{faults_out, open_out, safe_in, counts_out, left_out, stops_out, store_out, limit_then, safe_out, settled_out, later_out}
use Rattle.wat_opening.proofs.Answering.{any_ok, ok_to, err_to, any_damage, rose_then}
use Rattle.wat_opening.proofs.starting.start.Goals as goal

pub finish-requires-clause-known : goal.finish-requires-clause-known
finish-requires-clause-known g c tells =
    open_out tells c.args.disk c.into_parts-disk.result.0 c.args.loaded.objects c.into_parts-disk.result.1 c.args.loaded.log c.bring_up.new.log c.new-on.result c.bring_up.new.on c.new-on.ensures.disk c.new-on.ensures.objects c.new-on.ensures.going c.into_parts-disk.ensures.disk c.into_parts-disk.ensures.objects c.bring_up.ensures.moves c.bring_up.ensures.gate (c.requires.read tells).records c.in-Ok.ensures.going

pub returns-in-Ok-clause-opened : goal.returns-in-Ok-clause-opened
returns-in-Ok-clause-opened g c tells limit t is =
    let frames : c.header-header.result.now.frames ≡ (header_of (pages_of c.args.loaded.objects)).frames = ap (λ (h : Header). h.frames) (c.header-header.ensures ∙ ap header_of c.pages.ensures) in
    let brings : (s : State) → Stands c.new-on.result s → IsLawful s → BringsUp c.new-on.result c.bring_up.new.on (header_of (pages_of c.args.loaded.objects)).frames c.bring_up.new.log s = λ s stands lawful. subst (λ (n : ℕ). BringsUp c.new-on.result c.bring_up.new.on n c.bring_up.new.log s) frames (c.in-Ok.ensures.brings s stands lawful) in
    c.finish.ensures.stands tells (settled t) t (store_out tells c.args.disk c.into_parts-disk.result.0 c.args.loaded.objects c.into_parts-disk.result.1 c.args.loaded.log c.bring_up.new.log c.new-on.result c.bring_up.new.on c.new-on.ensures.disk c.new-on.ensures.objects c.new-on.ensures.going c.into_parts-disk.ensures.disk c.into_parts-disk.ensures.objects c.bring_up.ensures.moves c.bring_up.ensures.gate limit t is brings (c.requires.read tells).records)

pub returns-in-Ok-clause-stops : goal.returns-in-Ok-clause-stops
returns-in-Ok-clause-stops g c tells limit t is =
    let frames : c.header-header.result.now.frames ≡ (header_of (pages_of c.args.loaded.objects)).frames = ap (λ (h : Header). h.frames) (c.header-header.ensures ∙ ap header_of c.pages.ensures) in
    let brings : (s : State) → Stands c.new-on.result s → IsLawful s → BringsUp c.new-on.result c.bring_up.new.on (header_of (pages_of c.args.loaded.objects)).frames c.bring_up.new.log s = λ s stands lawful. subst (λ (n : ℕ). BringsUp c.new-on.result c.bring_up.new.on n c.bring_up.new.log s) frames (c.in-Ok.ensures.brings s stands lawful) in
    let old = g.D.Disk.told c.args.disk in
    let mid = g.D.Disk.told c.into_parts-disk.result.0 in
    let store = store_out tells c.args.disk c.into_parts-disk.result.0 c.args.loaded.objects c.into_parts-disk.result.1 c.args.loaded.log c.bring_up.new.log c.new-on.result c.bring_up.new.on c.new-on.ensures.disk c.new-on.ensures.objects c.new-on.ensures.going c.into_parts-disk.ensures.disk c.into_parts-disk.ensures.objects c.bring_up.ensures.moves c.bring_up.ensures.gate limit t is brings (c.requires.read tells).records in
    ok_to c.finish.result (λ store. StopsAt mid (told_of store) c.into_parts-disk.result.1 t t) (λ store. EachStop old (told_of store) (LeavesEither limit t t))
    (λ store next. call_behind old mid (told_of store) limit t t (stops_out tells c.args.disk c.into_parts-disk.result.0 c.args.loaded.objects c.into_parts-disk.result.1 c.args.loaded.log c.bring_up.new.log c.new-on.result c.bring_up.new.on c.new-on.ensures.disk c.new-on.ensures.objects c.new-on.ensures.going c.into_parts-disk.ensures.disk c.into_parts-disk.ensures.objects c.bring_up.ensures.moves c.bring_up.ensures.gate limit t is) (subst (λ (n : ℕ). EachStop mid (told_of store) (LeavesEither n t t)) (limit_then tells c.args.disk c.into_parts-disk.result.0 c.args.loaded.objects c.into_parts-disk.result.1 c.args.loaded.log c.bring_up.new.log c.new-on.result c.bring_up.new.on c.new-on.ensures.disk c.new-on.ensures.objects c.new-on.ensures.going c.into_parts-disk.ensures.disk c.into_parts-disk.ensures.objects c.bring_up.ensures.moves c.bring_up.ensures.gate limit t is) next))
    (c.finish.ensures.stops tells (settled t) t store)

pub returns-in-Ok-clause-stops_refused : goal.returns-in-Ok-clause-stops_refused
returns-in-Ok-clause-stops_refused g c tells limit t is =
    let frames : c.header-header.result.now.frames ≡ (header_of (pages_of c.args.loaded.objects)).frames = ap (λ (h : Header). h.frames) (c.header-header.ensures ∙ ap header_of c.pages.ensures) in
    let brings : (s : State) → Stands c.new-on.result s → IsLawful s → BringsUp c.new-on.result c.bring_up.new.on (header_of (pages_of c.args.loaded.objects)).frames c.bring_up.new.log s = λ s stands lawful. subst (λ (n : ℕ). BringsUp c.new-on.result c.bring_up.new.on n c.bring_up.new.log s) frames (c.in-Ok.ensures.brings s stands lawful) in
    let old = g.D.Disk.told c.args.disk in
    let mid = g.D.Disk.told c.into_parts-disk.result.0 in
    let store = store_out tells c.args.disk c.into_parts-disk.result.0 c.args.loaded.objects c.into_parts-disk.result.1 c.args.loaded.log c.bring_up.new.log c.new-on.result c.bring_up.new.on c.new-on.ensures.disk c.new-on.ensures.objects c.new-on.ensures.going c.into_parts-disk.ensures.disk c.into_parts-disk.ensures.objects c.bring_up.ensures.moves c.bring_up.ensures.gate limit t is brings (c.requires.read tells).records in
    err_to c.finish.result (λ refused. StopsAt mid (g.D.Disk.told refused.disk) c.into_parts-disk.result.1 t t) (λ refused. EachStop old (g.D.Disk.told refused.disk) (LeavesEither limit t t))
    (λ refused next. call_behind old mid (g.D.Disk.told refused.disk) limit t t (stops_out tells c.args.disk c.into_parts-disk.result.0 c.args.loaded.objects c.into_parts-disk.result.1 c.args.loaded.log c.bring_up.new.log c.new-on.result c.bring_up.new.on c.new-on.ensures.disk c.new-on.ensures.objects c.new-on.ensures.going c.into_parts-disk.ensures.disk c.into_parts-disk.ensures.objects c.bring_up.ensures.moves c.bring_up.ensures.gate limit t is) (subst (λ (n : ℕ). EachStop mid (g.D.Disk.told refused.disk) (LeavesEither n t t)) (limit_then tells c.args.disk c.into_parts-disk.result.0 c.args.loaded.objects c.into_parts-disk.result.1 c.args.loaded.log c.bring_up.new.log c.new-on.result c.bring_up.new.on c.new-on.ensures.disk c.new-on.ensures.objects c.new-on.ensures.going c.into_parts-disk.ensures.disk c.into_parts-disk.ensures.objects c.bring_up.ensures.moves c.bring_up.ensures.gate limit t is) next))
    (c.finish.ensures.stops_refused tells (settled t) t store)

pub returns-in-Ok-clause-limit : goal.returns-in-Ok-clause-limit
returns-in-Ok-clause-limit g c tells limit t is =
    ok_to c.finish.result (λ store. limit_in store ≡ limit_of (pages_of c.into_parts-disk.result.1)) (λ store. limit_in store ≡ limit)
    (λ store same. same ∙ limit_then tells c.args.disk c.into_parts-disk.result.0 c.args.loaded.objects c.into_parts-disk.result.1 c.args.loaded.log c.bring_up.new.log c.new-on.result c.bring_up.new.on c.new-on.ensures.disk c.new-on.ensures.objects c.new-on.ensures.going c.into_parts-disk.ensures.disk c.into_parts-disk.ensures.objects c.bring_up.ensures.moves c.bring_up.ensures.gate limit t is)
    (c.finish.ensures.limit tells)

pub returns-in-Ok-clause-restored : goal.returns-in-Ok-clause-restored
returns-in-Ok-clause-restored g c tells s now t h applies is =
    let frames : c.header-header.result.now.frames ≡ (header_of (pages_of c.args.loaded.objects)).frames = ap (λ (h : Header). h.frames) (c.header-header.ensures ∙ ap header_of c.pages.ensures) in
    let brings : (s : State) → Stands c.new-on.result s → IsLawful s → BringsUp c.new-on.result c.bring_up.new.on (header_of (pages_of c.args.loaded.objects)).frames c.bring_up.new.log s = λ s stands lawful. subst (λ (n : ℕ). BringsUp c.new-on.result c.bring_up.new.on n c.bring_up.new.log s) frames (c.in-Ok.ensures.brings s stands lawful) in
    c.finish.ensures.holds tells (settled t) (settled_out tells c.args.disk c.into_parts-disk.result.0 c.args.loaded.objects c.into_parts-disk.result.1 c.args.loaded.log c.bring_up.new.log c.new-on.result c.bring_up.new.on c.new-on.ensures.disk c.new-on.ensures.objects c.new-on.ensures.going c.into_parts-disk.ensures.disk c.into_parts-disk.ensures.objects c.bring_up.ensures.moves c.bring_up.ensures.gate s h (brings s (safe_in tells c.args.disk c.into_parts-disk.result.0 c.args.loaded.objects c.into_parts-disk.result.1 c.args.loaded.log c.bring_up.new.log c.new-on.result c.bring_up.new.on c.new-on.ensures.disk c.new-on.ensures.objects c.new-on.ensures.going c.into_parts-disk.ensures.disk c.into_parts-disk.ensures.objects c.bring_up.ensures.moves c.bring_up.ensures.gate s h) h.lawful) now t applies is)

pub returns-in-Ok-clause-brought : goal.returns-in-Ok-clause-brought
returns-in-Ok-clause-brought g c tells s h =
    let frames : c.header-header.result.now.frames ≡ (header_of (pages_of c.args.loaded.objects)).frames = ap (λ (h : Header). h.frames) (c.header-header.ensures ∙ ap header_of c.pages.ensures) in
    let brings : (s : State) → Stands c.new-on.result s → IsLawful s → BringsUp c.new-on.result c.bring_up.new.on (header_of (pages_of c.args.loaded.objects)).frames c.bring_up.new.log s = λ s stands lawful. subst (λ (n : ℕ). BringsUp c.new-on.result c.bring_up.new.on n c.bring_up.new.log s) frames (c.in-Ok.ensures.brings s stands lawful) in
    any_ok c.finish.result ((now : State) × AppliesBodies (later_in (g.D.Disk.told c.args.disk) c.args.loaded.objects) s now) (later_out tells c.args.disk c.into_parts-disk.result.0 c.args.loaded.objects c.into_parts-disk.result.1 c.args.loaded.log c.bring_up.new.log c.new-on.result c.bring_up.new.on c.new-on.ensures.disk c.new-on.ensures.objects c.new-on.ensures.going c.into_parts-disk.ensures.disk c.into_parts-disk.ensures.objects c.bring_up.ensures.moves c.bring_up.ensures.gate s h (brings s (safe_in tells c.args.disk c.into_parts-disk.result.0 c.args.loaded.objects c.into_parts-disk.result.1 c.args.loaded.log c.bring_up.new.log c.new-on.result c.bring_up.new.on c.new-on.ensures.disk c.new-on.ensures.objects c.new-on.ensures.going c.into_parts-disk.ensures.disk c.into_parts-disk.ensures.objects c.bring_up.ensures.moves c.bring_up.ensures.gate s h) h.lawful))

pub returns-in-Ok-clause-saved : goal.returns-in-Ok-clause-saved
returns-in-Ok-clause-saved g c tells =
    let frames : c.header-header.result.now.frames ≡ (header_of (pages_of c.args.loaded.objects)).frames = ap (λ (h : Header). h.frames) (c.header-header.ensures ∙ ap header_of c.pages.ensures) in
    c.finish.ensures.saved tells (λ no. counts_out tells c.args.disk c.into_parts-disk.result.0 c.args.loaded.objects c.into_parts-disk.result.1 c.args.loaded.log c.bring_up.new.log c.new-on.result c.bring_up.new.on c.new-on.ensures.disk c.new-on.ensures.objects c.new-on.ensures.going c.into_parts-disk.ensures.disk c.into_parts-disk.ensures.objects c.bring_up.ensures.moves c.bring_up.ensures.gate (c.requires.read tells).records (c.requires.read tells).place (omega (arith, c.in-Ok.ensures.all no, frames)))

pub returns-in-Ok-clause-flushed : goal.returns-in-Ok-clause-flushed
returns-in-Ok-clause-flushed g c =
    c.finish.ensures.flushed c.in-Ok.ensures.none

pub returns-in-Ok-clause-damaged : goal.returns-in-Ok-clause-damaged
returns-in-Ok-clause-damaged g c tells s head h same =
    let frames : c.header-header.result.now.frames ≡ (header_of (pages_of c.args.loaded.objects)).frames = ap (λ (h : Header). h.frames) (c.header-header.ensures ∙ ap header_of c.pages.ensures) in
    let brings : (s : State) → Stands c.new-on.result s → IsLawful s → BringsUp c.new-on.result c.bring_up.new.on (header_of (pages_of c.args.loaded.objects)).frames c.bring_up.new.log s = λ s stands lawful. subst (λ (n : ℕ). BringsUp c.new-on.result c.bring_up.new.on n c.bring_up.new.log s) frames (c.in-Ok.ensures.brings s stands lawful) in
    err_to c.finish.result (λ refused. IfDamaged refused.why (λ file at. ⊥)) (λ refused. IfDamaged refused.why (FailsInRecords ((g.D.Disk.told c.args.disk).content 2) head s))
    (λ refused none. not_damaged refused.why (FailsInRecords ((g.D.Disk.told c.args.disk).content 2) head s) none)
    (c.finish.ensures.undamaged tells _ (safe_out tells c.args.disk c.into_parts-disk.result.0 c.args.loaded.objects c.into_parts-disk.result.1 c.args.loaded.log c.bring_up.new.log c.new-on.result c.bring_up.new.on c.new-on.ensures.disk c.new-on.ensures.objects c.new-on.ensures.going c.into_parts-disk.ensures.disk c.into_parts-disk.ensures.objects c.bring_up.ensures.moves c.bring_up.ensures.gate s h (brings s (safe_in tells c.args.disk c.into_parts-disk.result.0 c.args.loaded.objects c.into_parts-disk.result.1 c.args.loaded.log c.bring_up.new.log c.new-on.result c.bring_up.new.on c.new-on.ensures.disk c.new-on.ensures.objects c.new-on.ensures.going c.into_parts-disk.ensures.disk c.into_parts-disk.ensures.objects c.bring_up.ensures.moves c.bring_up.ensures.gate s h) h.lawful)))

pub returns-in-Ok-clause-left : goal.returns-in-Ok-clause-left
returns-in-Ok-clause-left g c tells s h =
    let frames : c.header-header.result.now.frames ≡ (header_of (pages_of c.args.loaded.objects)).frames = ap (λ (h : Header). h.frames) (c.header-header.ensures ∙ ap header_of c.pages.ensures) in
    let brings : (s : State) → Stands c.new-on.result s → IsLawful s → BringsUp c.new-on.result c.bring_up.new.on (header_of (pages_of c.args.loaded.objects)).frames c.bring_up.new.log s = λ s stands lawful. subst (λ (n : ℕ). BringsUp c.new-on.result c.bring_up.new.on n c.bring_up.new.log s) frames (c.in-Ok.ensures.brings s stands lawful) in
    err_to c.finish.result (λ refused. IfDamaged refused.why (λ file at. ⊥)) (λ refused. IfDamaged refused.why (λ file at. LeavesPages (g.D.Disk.told c.args.disk) (g.D.Disk.told refused.disk)))
    (λ refused none. not_damaged refused.why (λ file at. LeavesPages (g.D.Disk.told c.args.disk) (g.D.Disk.told refused.disk)) none)
    (c.finish.ensures.undamaged tells _ (safe_out tells c.args.disk c.into_parts-disk.result.0 c.args.loaded.objects c.into_parts-disk.result.1 c.args.loaded.log c.bring_up.new.log c.new-on.result c.bring_up.new.on c.new-on.ensures.disk c.new-on.ensures.objects c.new-on.ensures.going c.into_parts-disk.ensures.disk c.into_parts-disk.ensures.objects c.bring_up.ensures.moves c.bring_up.ensures.gate s h (brings s (safe_in tells c.args.disk c.into_parts-disk.result.0 c.args.loaded.objects c.into_parts-disk.result.1 c.args.loaded.log c.bring_up.new.log c.new-on.result c.bring_up.new.on c.new-on.ensures.disk c.new-on.ensures.objects c.new-on.ensures.going c.into_parts-disk.ensures.disk c.into_parts-disk.ensures.objects c.bring_up.ensures.moves c.bring_up.ensures.gate s h) h.lawful)))

pub returns-in-Ok-clause-cause : goal.returns-in-Ok-clause-cause
returns-in-Ok-clause-cause g c =
    let old = g.D.Disk.told c.args.disk in
    let mid = g.D.Disk.told c.into_parts-disk.result.0 in
    let later : old.faults ≤ mid.faults = faults_out c.args.disk c.into_parts-disk.result.0 c.new-on.result c.bring_up.new.on c.new-on.ensures.disk c.into_parts-disk.ensures.disk c.bring_up.ensures.moves in
    err_to c.finish.result (λ refused. refused.why ≡ DiskFault → Rose mid.faults (g.D.Disk.told refused.disk).faults) (λ refused. refused.why ≡ DiskFault → Rose old.faults (g.D.Disk.told refused.disk).faults)
    (λ refused rose fault. rose_then old.faults mid.faults (g.D.Disk.told refused.disk).faults later (rose fault))
    c.finish.ensures.cause

pub returns-in-Err-clause-stops_refused : goal.returns-in-Err-clause-stops_refused
returns-in-Err-clause-stops_refused g c tells limit t is =
    stops_out tells c.args.disk c.into_parts-disk-in-Err.result.0 c.args.loaded.objects c.into_parts-disk-in-Err.result.1 c.args.loaded.log c.bring_up.new.log c.new-on.result c.bring_up.new.on c.new-on.ensures.disk c.new-on.ensures.objects c.new-on.ensures.going c.into_parts-disk-in-Err.ensures.disk c.into_parts-disk-in-Err.ensures.objects c.bring_up.ensures.moves c.bring_up.ensures.gate limit t is

pub returns-in-Err-clause-left : goal.returns-in-Err-clause-left
returns-in-Err-clause-left g c tells s h =
    any_damage c.in-Err.why (LeavesPages (g.D.Disk.told c.args.disk) (g.D.Disk.told c.into_parts-disk-in-Err.result.0)) (left_out tells c.args.disk c.into_parts-disk-in-Err.result.0 c.args.loaded.objects c.into_parts-disk-in-Err.result.1 c.args.loaded.log c.bring_up.new.log c.new-on.result c.bring_up.new.on c.new-on.ensures.disk c.new-on.ensures.objects c.new-on.ensures.going c.into_parts-disk-in-Err.ensures.disk c.into_parts-disk-in-Err.ensures.objects c.bring_up.ensures.moves c.bring_up.ensures.gate)

pub returns-in-Err-clause-damaged : goal.returns-in-Err-clause-damaged
returns-in-Err-clause-damaged g c tells s head h same =
    let frames : c.header-header.result.now.frames ≡ (header_of (pages_of c.args.loaded.objects)).frames = ap (λ (h : Header). h.frames) (c.header-header.ensures ∙ ap header_of c.pages.ensures) in
    subst (λ (u : Told). IfDamaged c.in-Err.why (FailsInRecords (u.content 2) head s)) (ap g.D.Disk.told c.new-on.ensures.disk) (c.in-Err.ensures.damaged s head (safe_in tells c.args.disk c.into_parts-disk-in-Err.result.0 c.args.loaded.objects c.into_parts-disk-in-Err.result.1 c.args.loaded.log c.bring_up.new.log c.new-on.result c.bring_up.new.on c.new-on.ensures.disk c.new-on.ensures.objects c.new-on.ensures.going c.into_parts-disk-in-Err.ensures.disk c.into_parts-disk-in-Err.ensures.objects c.bring_up.ensures.moves c.bring_up.ensures.gate s h) h.lawful (same ∙ sym frames))

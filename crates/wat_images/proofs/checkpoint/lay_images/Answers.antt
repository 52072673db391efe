use Rattle.std.proofs.Common.{◌≡◌, [], ℕ, List, sym, ◌∙◌, subst, arith}
use Rattle.std.specs.Map.{keys_of}
use Rattle.wat_disk.specs.Disk.{IsSynced, InFile, SameOthers, EachStop}
use Rattle.wat_gate.specs.Bodies.{bodies, IsWhole, KeepsOrClears}
use Rattle.wat_gate.specs.GateLog.{file_of}
use Rattle.wat_restore.specs.Restored.{KeepsPagesBut}
use Rattle.wat_restore.specs.Safe.{HasPages, Covers}
use Rattle.wat_images.proofs.Sequence.{clear_stops, synced_other, safe_after}
use Rattle.wat_images.proofs.Laying.{lay_stops, laid_has, one_of_one}
use Rattle.wat_images.proofs.checkpoint.lay_images.Goals as goal

pub returns-in_err-write_synced_pages-clause-stops : goal.returns-in_err-write_synced_pages-clause-stops
returns-in_err-write_synced_pages-clause-stops g c tells saved safe =
    lay_stops saved (g.D.Disk.told c.args.disk.now) c.args.images.now.entries safe (c.requires.images tells) (g.D.Disk.told c.write_synced_pages.new.disk) c.write_synced_pages.ensures.stops

pub returns-in_err-clear-clause-stops : goal.returns-in_err-clear-clause-stops
returns-in_err-clear-clause-stops g c tells saved safe =
    let entries = c.args.images.now.entries in
    let t0 = g.D.Disk.told c.args.disk.now in
    let t1 = g.D.Disk.told c.write_synced_pages.new.disk in
    let t2 = g.D.Disk.told c.clear.new.disk in
    let wrote : EachStop t0 t1 (Covers saved) = lay_stops saved t0 entries safe (c.requires.images tells) t1 c.write_synced_pages.ensures.stops in
    let before : IsSynced t1 1 = synced_other 0 1 t0 t1 (KeepsPagesBut (keys_of entries)) (λ e. omega arith) safe.before c.write_synced_pages.ensures.others c.write_synced_pages.ensures.stops in
    let clear : EachStop t1 t2 (InFile 1 KeepsOrClears) = subst (λ (f : ℕ). IsSynced t1 f → EachStop t1 t2 (InFile f KeepsOrClears)) c.requires.file (c.clear.ensures.stops tells) before in
    let pages : HasPages (t1.content 0) saved = subst (λ (m : List ℕ). HasPages m saved) (sym (c.in_ok-write_synced_pages.ensures.written tells))
    (laid_has saved t0 entries safe (c.requires.images tells) (g.met.D.Disk.reads_as_left c.args.disk.now tells) c.requires.whole c.write_synced_pages.ensures.ordered) in
    one_of_one saved t0 t2 (clear_stops saved t0 t1 t2 wrote saved c.in_ok-write_synced_pages.ensures.synced pages clear)

pub returns-clause-stops : goal.returns-clause-stops
returns-clause-stops g c tells saved safe =
    let entries = c.args.images.now.entries in
    let t0 = g.D.Disk.told c.args.disk.now in
    let t1 = g.D.Disk.told c.write_synced_pages.new.disk in
    let t2 = g.D.Disk.told c.clear.new.disk in
    let wrote : EachStop t0 t1 (Covers saved) = lay_stops saved t0 entries safe (c.requires.images tells) t1 c.write_synced_pages.ensures.stops in
    let before : IsSynced t1 1 = synced_other 0 1 t0 t1 (KeepsPagesBut (keys_of entries)) (λ e. omega arith) safe.before c.write_synced_pages.ensures.others c.write_synced_pages.ensures.stops in
    let clear : EachStop t1 t2 (InFile 1 KeepsOrClears) = subst (λ (f : ℕ). IsSynced t1 f → EachStop t1 t2 (InFile f KeepsOrClears)) c.requires.file (c.clear.ensures.stops tells) before in
    let pages : HasPages (t1.content 0) saved = subst (λ (m : List ℕ). HasPages m saved) (sym (c.in_ok-write_synced_pages.ensures.written tells))
    (laid_has saved t0 entries safe (c.requires.images tells) (g.met.D.Disk.reads_as_left c.args.disk.now tells) c.requires.whole c.write_synced_pages.ensures.ordered) in
    one_of_one saved t0 t2 (clear_stops saved t0 t1 t2 wrote saved c.in_ok-write_synced_pages.ensures.synced pages clear)

pub returns-clause-safe : goal.returns-clause-safe
returns-clause-safe g c tells saved safe =
    let entries = c.args.images.now.entries in
    let t0 = g.D.Disk.told c.args.disk.now in
    let t1 = g.D.Disk.told c.write_synced_pages.new.disk in
    let t2 = g.D.Disk.told c.clear.new.disk in
    let wrote : EachStop t0 t1 (Covers saved) = lay_stops saved t0 entries safe (c.requires.images tells) t1 c.write_synced_pages.ensures.stops in
    let before : IsSynced t1 1 = synced_other 0 1 t0 t1 (KeepsPagesBut (keys_of entries)) (λ e. omega arith) safe.before c.write_synced_pages.ensures.others c.write_synced_pages.ensures.stops in
    let clear : EachStop t1 t2 (InFile 1 KeepsOrClears) = subst (λ (f : ℕ). IsSynced t1 f → EachStop t1 t2 (InFile f KeepsOrClears)) c.requires.file (c.clear.ensures.stops tells) before in
    let pages : HasPages (t1.content 0) saved = subst (λ (m : List ℕ). HasPages m saved) (sym (c.in_ok-write_synced_pages.ensures.written tells))
    (laid_has saved t0 entries safe (c.requires.images tells) (g.met.D.Disk.reads_as_left c.args.disk.now tells) c.requires.whole c.write_synced_pages.ensures.ordered) in
    let others : SameOthers 1 t1.content t2.content = subst (λ (f : ℕ). SameOthers f t1.content t2.content) c.requires.file c.clear.ensures.others in
    let place : file_of c.clear.new.self ≡ 1 = c.clear.ensures.file ∙ c.requires.file in
    let whole : IsWhole (t2.content 1) = subst (λ (f : ℕ). IsWhole (t2.content f)) place (c.in_ok-clear.ensures.known tells).whole in
    let none : bodies (t2.content 1) ≡ [] = subst (λ (f : ℕ). bodies (t2.content f) ≡ []) place (c.in_ok-clear.ensures.cleared tells) in
    safe_after saved t2 (synced_other 1 0 t1 t2 KeepsOrClears (λ e. omega arith) c.in_ok-write_synced_pages.ensures.synced others clear) (subst (IsSynced t2) place c.in_ok-clear.ensures.synced) whole none
    (subst (λ (m : List ℕ). HasPages m saved) (sym (others 0 (λ e. omega arith))) pages)

use Rattle.std.proofs.Common.{◌≡◌, ◌<◌, ◌^◌, ◌++◌, ◌∷◌, [], ℕ, true, List, sym, ◌∙◌, ap, subst, arith}
use Rattle.std.specs.Prelude.{nat_eq}
use Rattle.std.specs.List.{list_any}
use Rattle.std.specs.Map.{keys_of}
use Rattle.wat_disk.specs.Disk.{IsSynced, InFile, SameOthers, EachStop}
use Rattle.wat_gate.specs.Bodies.{bodies, IsWhole, KeepsOrClears}
use Rattle.wat_gate.specs.GateLog.{file_of}
use Rattle.wat_restore.specs.Restored.{laid, KeepsPagesBut}
use Rattle.wat_restore.specs.Safe.{HasPages, Covers}
use Rattle.std.proofs.lemmas.Result.{err_from_is_err_and}
use Rattle.wat_images.proofs.Frames.{stands}
use Rattle.wat_images.proofs.Writing.{none_short}
use Rattle.wat_images.proofs.Sequence.{can_save, old_all, write_stops, either_stops, clear_stops, synced_other, safe_after}
use Rattle.wat_images.proofs.checkpoint.save_checkpoint.Goals as goal

pub returns-in_err-save_images-clause-stops : goal.returns-in_err-save_images-clause-stops
returns-in_err-save_images-clause-stops g c tells saved next safe same some has =
    let keys = keys_of c.args.pages.now.entries in
    let t0 = g.D.Disk.told c.args.disk.now in
    let t1 = g.D.Disk.told c.save_images.new.disk in
    let small : c.args.count < 2 ^ 32 = omega arith in
    let old = c.as_slice.ensures.value ∙ c.in_ok-old.ensures.pages in
    let can = can_save keys c.args.count c.pages_below.ensures.ordered c.requires.not_header some saved _ c.as_slice.result.now (c.requires.none tells) old same small in
    either_stops saved t0 t1 t1 (c.save_images.ensures.stops tells saved safe can) next

pub returns-in_err-write_all-clause-stops : goal.returns-in_err-write_all-clause-stops
returns-in_err-write_all-clause-stops g c tells saved next safe same some has =
    let keys = keys_of c.args.pages.now.entries in
    let t0 = g.D.Disk.told c.args.disk.now in
    let t1 = g.D.Disk.told c.save_images.new.disk in
    let small : c.args.count < 2 ^ 32 = omega arith in
    let old = c.as_slice.ensures.value ∙ c.in_ok-old.ensures.pages in
    let can = can_save keys c.args.count c.pages_below.ensures.ordered c.requires.not_header some saved _ c.as_slice.result.now (c.requires.none tells) old same small in
    let t2 = g.D.Disk.told c.write_all.new.disk in
    let imaged = c.in_ok-save_images.ensures.saved tells saved safe can in
    let all : (page : ℕ) → page < saved.count → list_any (nat_eq page) (keys ++ 0 ∷ []) ≡ true → list_any (nat_eq page) c.as_slice.result.now ≡ true =
    λ page below among. ap (list_any (nat_eq page)) old ∙ old_all keys c.args.count c.pages_below.ensures.ordered c.requires.not_header some page (omega arith) among in
    let wrote : EachStop t0 t2 (Covers saved) = write_stops saved t0 t1 t2 (c.save_images.ensures.stops tells saved safe can) (keys ++ 0 ∷ []) c.as_slice.result.now imaged all c.write_all.ensures.stops in
    either_stops saved t0 t2 t2 wrote next

pub returns-in_err-clear-clause-stops : goal.returns-in_err-clear-clause-stops
returns-in_err-clear-clause-stops g c tells saved next safe same some has =
    let keys = keys_of c.args.pages.now.entries in
    let t0 = g.D.Disk.told c.args.disk.now in
    let t1 = g.D.Disk.told c.save_images.new.disk in
    let small : c.args.count < 2 ^ 32 = omega arith in
    let old = c.as_slice.ensures.value ∙ c.in_ok-old.ensures.pages in
    let can = can_save keys c.args.count c.pages_below.ensures.ordered c.requires.not_header some saved _ c.as_slice.result.now (c.requires.none tells) old same small in
    let t2 = g.D.Disk.told c.write_all.new.disk in
    let imaged = c.in_ok-save_images.ensures.saved tells saved safe can in
    let all : (page : ℕ) → page < saved.count → list_any (nat_eq page) (keys ++ 0 ∷ []) ≡ true → list_any (nat_eq page) c.as_slice.result.now ≡ true =
    λ page below among. ap (list_any (nat_eq page)) old ∙ old_all keys c.args.count c.pages_below.ensures.ordered c.requires.not_header some page (omega arith) among in
    let wrote : EachStop t0 t2 (Covers saved) = write_stops saved t0 t1 t2 (c.save_images.ensures.stops tells saved safe can) (keys ++ 0 ∷ []) c.as_slice.result.now imaged all c.write_all.ensures.stops in
    let t3 = g.D.Disk.told c.clear.new.disk in
    let file = c.save_images.ensures.file in
    let before : IsSynced t2 1 = synced_other 0 1 t1 t2 (KeepsPagesBut (keys ++ 0 ∷ [])) (omega arith) imaged.before c.write_all.ensures.others c.write_all.ensures.stops in
    let clear : EachStop t2 t3 (InFile 1 KeepsOrClears) = subst (λ (f : ℕ). IsSynced t2 f → EachStop t2 t3 (InFile f KeepsOrClears)) file (c.clear.ensures.stops tells) before in
    let main : t2.content 0 ≡ laid (t0.content 0) (c.args.pages.now.entries ++ (0, c.args.header.now) ∷ []) =
    c.in_ok-write_all.ensures.written tells ∙ ap (λ (m : List ℕ). laid m (c.args.pages.now.entries ++ (0, c.args.header.now) ∷ [])) (c.save_images.ensures.others 0 (omega arith)) in
    let pages : HasPages (t2.content 0) next = subst (λ (m : List ℕ). HasPages m next) (sym main) has in
    clear_stops saved t0 t2 t3 wrote next c.in_ok-write_all.ensures.synced pages clear

pub returns-clause-stops : goal.returns-clause-stops
returns-clause-stops g c tells saved next safe same some has =
    let keys = keys_of c.args.pages.now.entries in
    let t0 = g.D.Disk.told c.args.disk.now in
    let t1 = g.D.Disk.told c.save_images.new.disk in
    let small : c.args.count < 2 ^ 32 = omega arith in
    let old = c.as_slice.ensures.value ∙ c.in_ok-old.ensures.pages in
    let can = can_save keys c.args.count c.pages_below.ensures.ordered c.requires.not_header some saved _ c.as_slice.result.now (c.requires.none tells) old same small in
    let t2 = g.D.Disk.told c.write_all.new.disk in
    let imaged = c.in_ok-save_images.ensures.saved tells saved safe can in
    let all : (page : ℕ) → page < saved.count → list_any (nat_eq page) (keys ++ 0 ∷ []) ≡ true → list_any (nat_eq page) c.as_slice.result.now ≡ true =
    λ page below among. ap (list_any (nat_eq page)) old ∙ old_all keys c.args.count c.pages_below.ensures.ordered c.requires.not_header some page (omega arith) among in
    let wrote : EachStop t0 t2 (Covers saved) = write_stops saved t0 t1 t2 (c.save_images.ensures.stops tells saved safe can) (keys ++ 0 ∷ []) c.as_slice.result.now imaged all c.write_all.ensures.stops in
    let t3 = g.D.Disk.told c.clear.new.disk in
    let file = c.save_images.ensures.file in
    let before : IsSynced t2 1 = synced_other 0 1 t1 t2 (KeepsPagesBut (keys ++ 0 ∷ [])) (omega arith) imaged.before c.write_all.ensures.others c.write_all.ensures.stops in
    let clear : EachStop t2 t3 (InFile 1 KeepsOrClears) = subst (λ (f : ℕ). IsSynced t2 f → EachStop t2 t3 (InFile f KeepsOrClears)) file (c.clear.ensures.stops tells) before in
    let main : t2.content 0 ≡ laid (t0.content 0) (c.args.pages.now.entries ++ (0, c.args.header.now) ∷ []) =
    c.in_ok-write_all.ensures.written tells ∙ ap (λ (m : List ℕ). laid m (c.args.pages.now.entries ++ (0, c.args.header.now) ∷ [])) (c.save_images.ensures.others 0 (omega arith)) in
    let pages : HasPages (t2.content 0) next = subst (λ (m : List ℕ). HasPages m next) (sym main) has in
    clear_stops saved t0 t2 t3 wrote next c.in_ok-write_all.ensures.synced pages clear

pub returns-clause-safe : goal.returns-clause-safe
returns-clause-safe g c tells saved next safe same some has =
    let keys = keys_of c.args.pages.now.entries in
    let t0 = g.D.Disk.told c.args.disk.now in
    let t1 = g.D.Disk.told c.save_images.new.disk in
    let small : c.args.count < 2 ^ 32 = omega arith in
    let old = c.as_slice.ensures.value ∙ c.in_ok-old.ensures.pages in
    let can = can_save keys c.args.count c.pages_below.ensures.ordered c.requires.not_header some saved _ c.as_slice.result.now (c.requires.none tells) old same small in
    let t2 = g.D.Disk.told c.write_all.new.disk in
    let imaged = c.in_ok-save_images.ensures.saved tells saved safe can in
    let all : (page : ℕ) → page < saved.count → list_any (nat_eq page) (keys ++ 0 ∷ []) ≡ true → list_any (nat_eq page) c.as_slice.result.now ≡ true =
    λ page below among. ap (list_any (nat_eq page)) old ∙ old_all keys c.args.count c.pages_below.ensures.ordered c.requires.not_header some page (omega arith) among in
    let wrote : EachStop t0 t2 (Covers saved) = write_stops saved t0 t1 t2 (c.save_images.ensures.stops tells saved safe can) (keys ++ 0 ∷ []) c.as_slice.result.now imaged all c.write_all.ensures.stops in
    let t3 = g.D.Disk.told c.clear.new.disk in
    let file = c.save_images.ensures.file in
    let before : IsSynced t2 1 = synced_other 0 1 t1 t2 (KeepsPagesBut (keys ++ 0 ∷ [])) (omega arith) imaged.before c.write_all.ensures.others c.write_all.ensures.stops in
    let clear : EachStop t2 t3 (InFile 1 KeepsOrClears) = subst (λ (f : ℕ). IsSynced t2 f → EachStop t2 t3 (InFile f KeepsOrClears)) file (c.clear.ensures.stops tells) before in
    let main : t2.content 0 ≡ laid (t0.content 0) (c.args.pages.now.entries ++ (0, c.args.header.now) ∷ []) =
    c.in_ok-write_all.ensures.written tells ∙ ap (λ (m : List ℕ). laid m (c.args.pages.now.entries ++ (0, c.args.header.now) ∷ [])) (c.save_images.ensures.others 0 (omega arith)) in
    let pages : HasPages (t2.content 0) next = subst (λ (m : List ℕ). HasPages m next) (sym main) has in
    let others : SameOthers 1 t2.content t3.content = subst (λ (f : ℕ). SameOthers f t2.content t3.content) file c.clear.ensures.others in
    let place : file_of c.clear.new.self ≡ 1 = c.clear.ensures.file ∙ file in
    let whole : IsWhole (t3.content 1) = subst (λ (f : ℕ). IsWhole (t3.content f)) place (c.in_ok-clear.ensures.known tells).whole in
    let none : bodies (t3.content 1) ≡ [] = subst (λ (f : ℕ). bodies (t3.content f) ≡ []) place (c.in_ok-clear.ensures.cleared tells) in
    safe_after next t3 (synced_other 1 0 t2 t3 KeepsOrClears (omega arith) c.in_ok-write_all.ensures.synced others clear) (subst (IsSynced t3) place c.in_ok-clear.ensures.synced) whole none
    (subst (λ (m : List ℕ). HasPages m next) (sym (others 0 (omega arith))) pages)

pub returns-in_err-save_images-clause-undamaged : goal.returns-in_err-save_images-clause-undamaged
returns-in_err-save_images-clause-undamaged g c tells saved safe same some =
    let keys = keys_of c.args.pages.now.entries in
    let t0 = g.D.Disk.told c.args.disk.now in
    let small : c.args.count < 2 ^ 32 = omega arith in
    let old = c.as_slice.ensures.value ∙ c.in_ok-old.ensures.pages in
    let can = can_save keys c.args.count c.pages_below.ensures.ordered c.requires.not_header some saved _ c.as_slice.result.now (c.requires.none tells) old same small in
    let p = err_from_is_err_and c.from_residual-in_err-save_images.result c.from_residual-in_err-save_images.ensures.1 in
    rw (p.1, p.2) (none_short _ _ _ saved.page (stands saved t0.content c.as_slice.result.now (safe.covered t0.content (g.met.D.Disk.reads_as_left c.args.disk.now tells)) can) (c.in_err-save_images.ensures.damaged tells))

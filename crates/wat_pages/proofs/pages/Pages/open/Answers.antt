use Rattle.std.proofs.Common.{◌≡◌, inr, ◌∙◌, subst}
use Rattle.wat_disk.specs.Disk.{SameFiles}
use Rattle.wat_disk.proofs.Stops.{both_same}
use Rattle.wat_restore.specs.Head.{Head}
use Rattle.wat_restore.specs.Opening.{IsHeadIn, FailsAt}
use Rattle.wat_restore.specs.Restored.{IsImageLog}
use Rattle.wat_images.proofs.Writing.{if_damaged}
use Rattle.wat_pages.proofs.Changed.{fresh_in, stored_in, stand_same, head_same}
use Rattle.wat_pages.proofs.pages.Pages.open.Goals as goal

pub returns-in-Ok-read_header-clause-pages : goal.returns-in-Ok-read_header-clause-pages
returns-in-Ok-read_header-clause-pages g c tells page bytes stands =
    let old = (g.D.Disk.told c.args.disk.now).content in
    let new = (g.D.Disk.told c.read_header.new.disk).content in
    let same : SameFiles old new = λ file. c.read_header.ensures.content file ∙ c.open_images.ensures.content file in
    fresh_in (g.D.Disk.told c.read_header.new.disk) _ page bytes c.new-in-Ok-read_header.ensures.empty (stand_same old new page bytes same stands)

pub returns-in-Ok-read_header-clause-log : goal.returns-in-Ok-read_header-clause-log
returns-in-Ok-read_header-clause-log g c tells = subst IsImageLog (c.open_images.ensures.content 1) (c.in-Ok.ensures.opened tells).log

pub returns-in-Ok-read_header-clause-stored : goal.returns-in-Ok-read_header-clause-stored
returns-in-Ok-read_header-clause-stored g c tells page =
    let old = (g.D.Disk.told c.args.disk.now).content in
    let new = (g.D.Disk.told c.read_header.new.disk).content in
    let same : SameFiles old new = λ file. c.read_header.ensures.content file ∙ c.open_images.ensures.content file in
    stored_in (g.D.Disk.told c.read_header.new.disk) old _ page c.new-in-Ok-read_header.ensures.empty same

pub returns-in-Ok-read_header-clause-stops : goal.returns-in-Ok-read_header-clause-stops
returns-in-Ok-read_header-clause-stops g c = both_same _ _ _ c.open_images.ensures.stops c.read_header.ensures.stops

pub returns-in-Err-read_header-clause-stops : goal.returns-in-Err-read_header-clause-stops
returns-in-Err-read_header-clause-stops g c = both_same _ _ _ c.open_images.ensures.stops c.read_header.ensures.stops

pub returns-in-Err-read_header-clause-damaged : goal.returns-in-Err-read_header-clause-damaged
returns-in-Err-read_header-clause-damaged g c tells =
    let old = (g.D.Disk.told c.args.disk.now).content in
    let mid = (g.D.Disk.told c.open_images.new.disk).content in
    let same = c.open_images.ensures.content in
    if_damaged c.in-Err-read_header.refusal (λ file at. (file ≡ 0) × (at ≡ 0) × ((head : Head) → IsHeadIn mid head → ⊥)) (FailsAt old)
    (λ file at fails. inr (inr (record {
      in_main = fails.0;
      place = fails.1;
      log = subst IsImageLog (same 1) (c.in-Ok.ensures.opened tells).log;
      none = λ head is. fails.2 head (head_same old mid head same is);
    }))) (c.in-Err-read_header.ensures.damaged tells)

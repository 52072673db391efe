use Rattle.std.proofs.Common.{◌≡◌, ◌*◌, ◌+◌, ◌<◌, Some, None, length, sym, ◌∙◌}
use Rattle.std.specs.Prelude.{nat_eq}
use Rattle.std.specs.Map.{lookup}
use Rattle.wat_restore.specs.Opening.{IsMissing}
use Rattle.wat_disk.proofs.Stops.{none_same}
use Rattle.wat_images.proofs.Maps.{get_is}
use Rattle.wat_images.proofs.Writing.{if_damaged, stands_imaged, stands_main, missing_short}
use Rattle.wat_images.proofs.reading.read_stored.Goals as goal

pub returns-in-Some-clause-read : goal.returns-in-Some-clause-read
returns-in-Some-clause-read g c tells =
    let images = c.args.images.now in
    let found : lookup (nat_eq c.args.page) images.entries ≡ Some c.in-Some.image.now = sym (get_is images c.args.page) ∙ sym c.in-Some.ensures.value in
    stands_imaged (g.D.Disk.told c.args.disk.now).content c.args.page c.in-Some.image.now _ (sym (c.requires.images tells c.args.page) ∙ found) (c.copy_from_slice.ensures.after ∙ c.as_slice.ensures.bytes)

pub returns-in-Ok-clause-read : goal.returns-in-Ok-clause-read
returns-in-Ok-clause-read g c tells =
    let images = c.args.images.now in
    let none : lookup (nat_eq c.args.page) images.entries ≡ None = sym (get_is images c.args.page) ∙ sym c.in_default.ensures.value in
    stands_main (g.D.Disk.told c.args.disk.now).content c.args.page c.read_main.new.into (sym (c.requires.images tells c.args.page) ∙ none) (c.in-Ok.ensures.read tells)

pub returns-in-Err-clause-damaged : goal.returns-in-Err-clause-damaged
returns-in-Err-clause-damaged g c tells =
    let images = c.args.images.now in
    let files = (g.D.Disk.told c.args.disk.now).content in
    let none : lookup (nat_eq c.args.page) images.entries ≡ None = sym (get_is images c.args.page) ∙ sym c.in_default.ensures.value in
    if_damaged c.in-Err.refusal (λ file at. (file ≡ 0) × (at ≡ 4096 * c.args.page) × (length (files 0) < 4096 * c.args.page + 4096)) (IsMissing files c.args.page)
    (λ file at short. missing_short files c.args.page file at (sym (c.requires.images tells c.args.page) ∙ none) short.0 short.1 short.2) (c.in-Err.ensures.damaged tells)

pub returns-in-Some-clause-stops : goal.returns-in-Some-clause-stops
returns-in-Some-clause-stops g c = none_same (g.D.Disk.told c.args.disk.now)

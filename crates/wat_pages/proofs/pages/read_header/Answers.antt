use Rattle.std.proofs.Common.{◌≡◌, ℕ, List, refl, subst, arith}
use Rattle.wat_restore.specs.Head.{Head, IsHead}
use Rattle.wat_restore.specs.Opening.{IsMissing, IsHeadIn}
use Rattle.wat_restore.proofs.Heads.{one_page}
use Rattle.wat_images.proofs.Writing.{if_damaged}
use Rattle.wat_pages.proofs.pages.read_header.Goals as goal

pub returns-in-Err-clause-damaged : goal.returns-in-Err-clause-damaged
returns-in-Err-clause-damaged g c tells =
    let files = (g.D.Disk.told c.args.disk.now).content in
    if_damaged c.in-Err.refusal (IsMissing files 0) (λ file at. (file ≡ 0) × (at ≡ 0) × ((head : Head) → IsHeadIn files head → ⊥))
    (λ file at missing. (missing.in_main, omega (arith, missing.place), λ head is. missing.none is.page is.stands)) (c.in-Err.ensures.damaged tells)

pub returns-in-Ok-Some-clause-head : goal.returns-in-Ok-Some-clause-head
returns-in-Ok-Some-clause-head g c tells = record {
  page = c.read_stored.new.into;
  stands = c.in-Ok.ensures.read tells;
  is = rw c.in-Ok-Some.field-0-is at c.in-Ok-Some.ensures.some;
}

pub returns-in-Ok-None-clause-damaged : goal.returns-in-Ok-None-clause-damaged
returns-in-Ok-None-clause-damaged g c tells =
    let files = (g.D.Disk.told c.args.disk.now).content in
    let none = rw c.in-Ok-None.field-0-is at c.in-Ok-None.ensures.none in
    (refl, refl, λ head is. none head (subst (λ (page : List ℕ). IsHead page head) (one_page files 0 is.page c.read_stored.new.into is.stands (c.in-Ok.ensures.read tells)) is.is))

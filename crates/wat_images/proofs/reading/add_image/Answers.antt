use Rattle.std.proofs.Common.{◌≡◌, ◌++◌, ◌∷◌, [], ◌-◌, ℕ, List, length, take, drop, refl, sym, ◌∙◌, subst, arith}
use Rattle.std.specs.Prelude.{nat_eq}
use Rattle.std.specs.List.{IsDistinct}
use Rattle.std.specs.Map.{keys_of}
use Rattle.wat_images.specs.Reading.{HasImages, image_in}
use Rattle.wat_images.proofs.Images.{image_added, image_there, whole_added, is_none, four_read, image_read}
use Rattle.wat_images.proofs.reading.add_image.Goals as goal

pub returns-then-contains_key-clause-there : goal.returns-then-contains_key-clause-there
returns-then-contains_key-clause-there c before has =
    let bytes = c.args.bytes.now in
    let page = c.from_be_bytes-page.result in
    let held = take (length bytes - 4) (drop 4 bytes) in
    let is : (page, held) ≡ image_in bytes = image_read bytes held page c.requires (c.from_be_bytes-page.ensures ∙ sym (four_read bytes (omega (arith, c.requires)))) refl in
    subst (λ (x : ℕ × List ℕ). IsDistinct nat_eq (keys_of (before ++ x ∷ [])) → ⊥) is (image_there c.args.images.now c.args.images.now page held before has (sym c.contains_key.ensures ∙ c.if-contains_key.true))

pub returns-clause-added : goal.returns-clause-added
returns-clause-added c before has =
    let bytes = c.args.bytes.now in
    let page = c.from_be_bytes-page.result in
    let held = c.in_ok-held.held in
    let is : (page, held) ≡ image_in bytes = image_read bytes held page c.requires (c.from_be_bytes-page.ensures ∙ sym (four_read bytes (omega (arith, c.requires)))) c.in_ok-held.ensures.bytes in
    subst (λ (x : ℕ × List ℕ). HasImages c.insert.new.self.entries (before ++ x ∷ [])) is
    (image_added c.args.images.now c.insert.new.self page held before has (is_none _ (sym c.contains_key.ensures ∙ c.if-contains_key.false)) c.in_ok-insert.ensures.updates)

pub returns-clause-whole : goal.returns-clause-whole
returns-clause-whole c are = whole_added c.args.images.now c.insert.new.self c.from_be_bytes-page.result c.in_ok-held.held are c.in_ok-held.ensures.whole c.in_ok-insert.ensures.entries

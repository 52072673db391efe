use Rattle.std.proofs.Common.{◌≡◌, ◌++◌, List, [], ◌∷◌, Option, ◌⊎◌, inl, inr, refl, sym, ap, ◌∙◌, append-nil}
use Rattle.std.proofs.lemmas.Slice.Zip.{either_empty_from_Zip}
use Rattle.wat_value.specs.declared.definition.TableDef.{TableDef}
use Rattle.wat_group.specs.Query.{Row, keys_at}
use Rattle.wat_group.proofs.keyed.keys_at.Goals as goal

no_keys : (defs : List TableDef) (rows : List (Option Row)) → (defs ≡ []) ⊎ (rows ≡ []) → keys_at defs rows ≡ []
no_keys [] rows ends = refl
no_keys (def ∷ defs) [] ends = refl
no_keys (def ∷ defs) (row ∷ rows) (inl e) = cc
no_keys (def ∷ defs) (row ∷ rows) (inr e) = cc

pub returns : goal.returns
returns c =
    let ends = either_empty_from_Zip c.loop-def.def-iterator c.next.new.self c.next.result c.in-None.is c.next.ensures.steps in
    sym (append-nil c.loop-def.keys) ∙ sym (ap (λ more. c.loop-def.keys ++ more) (no_keys _ _ ends)) ∙ c.loop-def.invariant

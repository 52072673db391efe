use Rattle.std.specs.Prelude.{Option, IfSome, IfNone}
use Rattle.std.proofs.Common.{ℕ, List, subst, sym, arith}
use Rattle.wat_value.specs.declared.change.Change.{Change}
use Rattle.wat_replay.specs.State.{Lists}
use Rattle.wat_undo.specs.Kept.{lists_of}
use Rattle.wat_spelled.specs.Changes.{TellsLists, SpellsLists}
use Rattle.wat_loading.proofs.Telling.{of_page, tells_spelled, none_told}
use Rattle.wat_loading.proofs.payloads.read_changes.Goals as goal

pub returns-then-first-eq0-clause-tells : goal.returns-then-first-eq0-clause-tells
returns-then-first-eq0-clause-tells c =
    subst (λ (entries : List (ℕ × List Change)). TellsLists c.args.first c.args.payload.now (lists_of entries)) (sym c.new.ensures) (none_told c.args.first c.args.payload.now (omega arith))

pub returns-in-Ok-Some-clause-tells : goal.returns-in-Ok-Some-clause-tells
returns-in-Ok-Some-clause-tells c = tells_spelled c.args.first c.args.payload.now _ (omega arith) (subst (λ (o : Option (List (ℕ × List Change))). IfSome o (λ undo. SpellsLists c.args.payload.now (lists_of undo))) c.in-Ok-Some.field-0-is c.in-Ok-Some.ensures.some)

pub returns-in-Ok-None-clause-damaged : goal.returns-in-Ok-None-clause-damaged
returns-in-Ok-None-clause-damaged c =
    of_page _ c.args.first ((lists : Lists) → TellsLists c.args.first c.args.payload.now lists → ⊥) (λ lists tells. subst (λ (o : Option (List (ℕ × List Change))). IfNone o ((lists : Lists) → SpellsLists c.args.payload.now lists → ⊥)) c.in-Ok-None.field-0-is c.in-Ok-None.ensures.none lists (tells.some (omega arith))) c.damaged.ensures.place

use Rattle.std.proofs.Common.{◌≡◌, ℕ, [], sym, subst, arith}
use Rattle.wat_pages.specs.Pages.{book_of}
use Rattle.wat_replay.specs.State.{State}
use Rattle.wat_recover.proofs.Stepping.{closed}
use Rattle.wat_objects.specs.declared.objects.Objects.{Objects}
use Rattle.wat_objects.specs.Objects.{pages_of, HoldsOn}
use Rattle.wat_repeating.specs.OnPages.{told_of, objects_of, Stands}
use Rattle.wat_repeating.specs.Repeated.{RollsBack}
use Rattle.wat_repeating.specs.MoveProofs.{moves_still}
use Rattle.wat_repeating.proofs.Back.{rolls_none}
use Rattle.wat_opening.proofs.bringing.roll_back_open.Goals as goal

pub returns-in-None-clause-undone : goal.returns-in-None-clause-undone
returns-in-None-clause-undone g c s t is lawful und =
    let book = book_of (told_of c.args.on.now) (pages_of (objects_of c.args.on.now)) in
    let none : (conn : ℕ) → s.lists conn ≡ [] = λ conn. c.in-None.ensures.open book s (subst (λ (o : Objects). HoldsOn book o s) (sym c.objects.ensures) is.holds.on) conn (omega arith) in
    subst (λ (v : State). Stands c.args.on.now v) (closed s t none und) is

pub returns-in-None-clause-rolls : goal.returns-in-None-clause-rolls
returns-in-None-clause-rolls g c s t is lawful und =
    let book = book_of (told_of c.args.on.now) (pages_of (objects_of c.args.on.now)) in
    let none : (conn : ℕ) → s.lists conn ≡ [] = λ conn. c.in-None.ensures.open book s (subst (λ (o : Objects). HoldsOn book o s) (sym c.objects.ensures) is.holds.on) conn (omega arith) in
    subst (λ (v : State). RollsBack c.args.log.now s v) (closed s t none und) (rolls_none c.args.log.now s c.requires.noted)

pub returns-in-None-clause-moves : goal.returns-in-None-clause-moves
returns-in-None-clause-moves g c = moves_still c.args.on.now

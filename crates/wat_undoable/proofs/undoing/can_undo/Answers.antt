use Rattle.std.proofs.Common.{◌≡◌, ◌+◌, ℕ, List, sym, subst, arith}
use Rattle.wat_pages.specs.Pages.{book_of}
use Rattle.wat_images.proofs.Writing.{no_cause, caused}
use Rattle.wat_heap.proofs.Doing.{still_held}
use Rattle.wat_undo.specs.Kept.{lists_of}
use Rattle.wat_roots.proofs.Going.{went_nowhere, stays_still, went_then, stays_then}
use Rattle.wat_undoable.proofs.Stepping.{match_true, match_false}
use Rattle.wat_undoable.proofs.Undone.{Sofar, at_first, list_more, cannot, can}
use Rattle.wat_undoable.proofs.undoing.can_undo.Goals as goal

pub loop-conn-init : goal.loop-conn-init
loop-conn-init g c = record {
  small = omega arith;
  known = c.requires.known;
  went = λ tells. went_nowhere _ _;
  stays = λ tells. stays_still _ _ (c.requires.known tells);
  sofar = λ tells owners free rows t h ok is same. at_first c.args.schema.now rows (lists_of c.args.lists.now) t _ c.new-trial.ensures ok is same;
  cause = no_cause _;
}

pub loop-conn-preserved : goal.loop-conn-preserved
loop-conn-preserved g c =
    let i = c.loop-conn.invariant in
    let r = c.undo_list.ensures in
    let told = g.D.Disk.told in
    let lists = lists_of c.args.lists.now in
    let conn = c.in-Some.conn in
    record {
      small = omega (arith, c.from-from.ensures, c.next_open.type_inv);
      known = λ tells. (c.in-Ok-true.ensures.stays tells).keeps.known;
      went = λ tells. went_then _ _ _ _ _ _ (i.went tells) (i.stays tells) (r.went tells);
      stays = λ tells. stays_then _ _ _ _ _ _ (i.stays tells) (c.in-Ok-true.ensures.stays tells);
      sofar = λ tells owners free rows t h ok is same.
          let so = i.sofar tells owners free rows t h ok is same in
          let next = c.in-Some.ensures in
          let at : conn + 1 ≡ c.from-from.result + 1 = omega (arith, c.from-from.ensures) in
          subst (λ (n : ℕ). Sofar c.args.schema.now rows lists t n c.undo_list.new.trial) at
          (list_more c.args.schema.now rows lists t c.loop-conn.trial c.undo_list.new.trial c.loop-conn.from conn so next.0 next.2
          (match_true c.in-Ok-true.field-0 _ _ c.in-Ok-true.field-0-test
          (c.in-Ok-true.ensures.undone tells owners free rows so.next (still_held _ (book_of (told c.args.disk.now) c.args.pages.now) (book_of (told c.loop-conn.disk) c.loop-conn.pages) owners free _ rows h (i.stays tells).pages) so.tried)));
      cause = caused _ _ _ _ i.cause r.cause (λ e. let ok = c.in-Ok-true.is in cc);
    }

pub returns-in-Ok-false-clause-can : goal.returns-in-Ok-false-clause-can
returns-in-Ok-false-clause-can g c tells owners free rows t h ok is same =
    let i = c.loop-conn.invariant in
    let told = g.D.Disk.told in
    let lists = lists_of c.args.lists.now in
    let so = i.sofar tells owners free rows t h ok is same in
    let next = c.in-Some.ensures in
    cannot c.args.schema.now rows lists t c.loop-conn.trial c.loop-conn.from c.in-Some.conn so is next.0 (omega (arith, c.next_open.type_inv)) next.2
    (match_false c.in-Ok-false.field-0 _ _ c.in-Ok-false.field-0-test
    (c.in-Ok-false.ensures.undone tells owners free rows so.next (still_held _ (book_of (told c.args.disk.now) c.args.pages.now) (book_of (told c.loop-conn.disk) c.loop-conn.pages) owners free _ rows h (i.stays tells).pages) so.tried))

pub returns-in-Ok-false-clause-went : goal.returns-in-Ok-false-clause-went
returns-in-Ok-false-clause-went g c tells = let i = c.loop-conn.invariant in went_then _ _ _ _ _ _ (i.went tells) (i.stays tells) (c.undo_list.ensures.went tells)

pub returns-in-Ok-false-clause-stays : goal.returns-in-Ok-false-clause-stays
returns-in-Ok-false-clause-stays g c tells = let i = c.loop-conn.invariant in stays_then _ _ _ _ _ _ (i.stays tells) (c.in-Ok-false.ensures.stays tells)

pub returns-in-Err-clause-went : goal.returns-in-Err-clause-went
returns-in-Err-clause-went g c tells = let i = c.loop-conn.invariant in went_then _ _ _ _ _ _ (i.went tells) (i.stays tells) (c.undo_list.ensures.went tells)

pub returns-in-Err-clause-undamaged : goal.returns-in-Err-clause-undamaged
returns-in-Err-clause-undamaged g c tells owners free rows h =
    let told = g.D.Disk.told in
    c.in-Err.ensures.undamaged tells owners free rows (still_held _ (book_of (told c.args.disk.now) c.args.pages.now) (book_of (told c.loop-conn.disk) c.loop-conn.pages) owners free _ rows h (c.loop-conn.invariant.stays tells).pages)

pub returns-clause-can : goal.returns-clause-can
returns-clause-can g c tells owners free rows t h ok is same =
    let i = c.loop-conn.invariant in
    can c.args.schema.now rows (lists_of c.args.lists.now) t c.loop-conn.trial c.loop-conn.from (i.sofar tells owners free rows t h ok is same) is i.small c.in_default.ensures

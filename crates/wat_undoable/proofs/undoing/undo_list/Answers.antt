use Rattle.std.proofs.Common.{◌≡◌, ℕ, List, drop, subst, sym, arith}
use Rattle.wat_value.specs.declared.change.Change.{Change}
use Rattle.wat_pages.specs.Pages.{book_of}
use Rattle.wat_images.proofs.Writing.{no_cause, caused}
use Rattle.wat_heap.proofs.Doing.{still_held}
use Rattle.wat_undo.specs.Kept.{lists_of}
use Rattle.wat_roots.proofs.Going.{went_nowhere, stays_still, went_then, stays_then}
use Rattle.wat_undoable.specs.Undoing.{UndidAll}
use Rattle.wat_undoable.proofs.Stepping.{match_true, match_false}
use Rattle.wat_undoable.proofs.Undone.{has_at, none_yet, one_more, not_all}
use Rattle.wat_undoable.proofs.undoing.undo_list.Goals as goal

pub loop-left-init : goal.loop-left-init
loop-left-init g c = record {
  few = omega (arith, c.count-left.ensures);
  known = c.requires.known;
  went = λ tells. went_nowhere _ _;
  stays = λ tells. stays_still _ _ (c.requires.known tells);
  undid = λ tells owners free rows v h tried. none_yet c.args.schema.now rows (lists_of c.args.lists.now) c.args.conn v c.args.trial.now _ c.count-left.ensures tried;
  cause = no_cause _;
}

pub loop-left-preserved : goal.loop-left-preserved
loop-left-preserved g c =
    let i = c.loop-left.invariant in
    let r = c.undo_change.ensures in
    let told = g.D.Disk.told in
    let lists = lists_of c.args.lists.now in
    record {
      few = omega (arith, i.few);
      known = λ tells. (c.in-Ok-true.ensures.stays tells).keeps.known;
      went = λ tells. went_then _ _ _ _ _ _ (i.went tells) (i.stays tells) (r.went tells);
      stays = λ tells. stays_then _ _ _ _ _ _ (i.stays tells) (c.in-Ok-true.ensures.stays tells);
      undid = λ tells owners free rows v h tried.
          let all = i.undid tells owners free rows v h tried in
          one_more c.args.schema.now rows lists c.args.conn v c.args.trial.now c.loop-left.trial c.undo_change.new.trial c.loop-left.left c.change-change.result.now c.change-change.ensures (omega arith) all
          (match_true c.in-Ok-true.field-0 _ _ c.in-Ok-true.field-0-test
          (c.in-Ok-true.ensures.undone tells owners free rows lists all.next (still_held _ (book_of (told c.args.disk.now) c.args.pages.now) (book_of (told c.loop-left.disk) c.loop-left.pages) owners free _ rows h (i.stays tells).pages) all.tried
          (has_at (lists c.args.conn) _ c.change-change.result.now c.change-change.ensures)));
      cause = caused _ _ _ _ i.cause r.cause (λ e. let ok = c.in-Ok-true.is in cc);
    }

pub returns-in-Ok-false-clause-undone : goal.returns-in-Ok-false-clause-undone
returns-in-Ok-false-clause-undone g c tells owners free rows v h tried =
    let i = c.loop-left.invariant in
    let told = g.D.Disk.told in
    let lists = lists_of c.args.lists.now in
    let all = i.undid tells owners free rows v h tried in
    not_all c.args.schema.now rows lists c.args.conn v c.args.trial.now c.loop-left.trial c.loop-left.left c.change-change.result.now c.change-change.ensures (omega arith) all
    (match_false c.in-Ok-false.field-0 _ _ c.in-Ok-false.field-0-test
    (c.in-Ok-false.ensures.undone tells owners free rows lists all.next (still_held _ (book_of (told c.args.disk.now) c.args.pages.now) (book_of (told c.loop-left.disk) c.loop-left.pages) owners free _ rows h (i.stays tells).pages) all.tried
    (has_at (lists c.args.conn) _ c.change-change.result.now c.change-change.ensures)))

pub returns-in-Ok-false-clause-went : goal.returns-in-Ok-false-clause-went
returns-in-Ok-false-clause-went g c tells = let i = c.loop-left.invariant in went_then _ _ _ _ _ _ (i.went tells) (i.stays tells) (c.undo_change.ensures.went tells)

pub returns-in-Ok-false-clause-stays : goal.returns-in-Ok-false-clause-stays
returns-in-Ok-false-clause-stays g c tells = let i = c.loop-left.invariant in stays_then _ _ _ _ _ _ (i.stays tells) (c.in-Ok-false.ensures.stays tells)

pub returns-in-Err-clause-went : goal.returns-in-Err-clause-went
returns-in-Err-clause-went g c tells = let i = c.loop-left.invariant in went_then _ _ _ _ _ _ (i.went tells) (i.stays tells) (c.undo_change.ensures.went tells)

pub returns-in-Err-clause-undamaged : goal.returns-in-Err-clause-undamaged
returns-in-Err-clause-undamaged g c tells owners free rows h =
    let told = g.D.Disk.told in
    c.in-Err.ensures.undamaged tells owners free rows (still_held _ (book_of (told c.args.disk.now) c.args.pages.now) (book_of (told c.loop-left.disk) c.loop-left.pages) owners free _ rows h (c.loop-left.invariant.stays tells).pages)

pub returns-clause-undone : goal.returns-clause-undone
returns-clause-undone g c tells owners free rows v h tried =
    let none : c.loop-left.left ≡ 0 = omega arith in
    let lists = lists_of c.args.lists.now in
    subst (λ (n : ℕ). UndidAll c.args.schema.now rows lists c.args.conn (drop n (lists c.args.conn)) v c.args.trial.now c.loop-left.trial) none (c.loop-left.invariant.undid tells owners free rows v h tried)

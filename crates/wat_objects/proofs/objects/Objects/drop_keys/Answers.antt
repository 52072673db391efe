use Rattle.std.proofs.Common.{◌≡◌, None, ◌+◌, ◌++◌, [], ◌∷◌, List, take, get_or, refl, sym, ◌∙◌, ap, subst, arith}
use Rattle.std.proofs.lemmas.List.{take_more, take_all}
use Rattle.wat_pages.specs.Pages.{book_of}
use Rattle.wat_images.proofs.Writing.{no_cause, caused}
use Rattle.wat_rows.specs.Rows.{Row, Sets}
use Rattle.wat_cells.proofs.Then.{goes_nowhere, goes_then, keeps_still, keeps_then}
use Rattle.wat_objects.specs.Altering.{HoldsParts, without_keys}
use Rattle.wat_objects.proofs.Altered.{none_gone, one_gone}
use Rattle.wat_objects.proofs.objects.Objects.drop_keys.Goals as goal

pub loop-i-init : goal.loop-i-init
loop-i-init g c = record {
  holds = λ tells schema defs rows h. none_gone _ _ schema defs c.args.table rows h;
  schema = refl;
  undo = refl;
  goes = λ tells. goes_nowhere _ _;
  keeps = λ tells. keeps_still _ _ (c.requires.known tells);
  cause = no_cause _;
}

pub loop-i-preserved : goal.loop-i-preserved
loop-i-preserved g c =
    let i = c.loop-i.invariant in
    let keys = c.args.keys.now in
    let at = c.loop-i.i in
    let d = c.index-keys-i.result in
    let more : take (at + 1) keys ≡ take at keys ++ get_or keys at d ∷ [] = take_more keys at d c.loop-i-test.true in
    let key : get_or keys at d ≡ d = sym c.index-keys-i.is in
    record {
      holds = λ tells schema defs rows h. c.in-Ok.ensures.dropped tells schema defs (without_keys c.args.table (take at keys) rows) (without_keys c.args.table (take (at + 1) keys) rows) (i.holds tells schema defs rows h)
          (subst (λ (ks : List Row). Sets (without_keys c.args.table (take at keys) rows) c.args.table d None (without_keys c.args.table ks rows)) (ap (λ k. take at keys ++ k ∷ []) (sym key) ∙ sym more) (one_gone c.args.table (take at keys) d rows));
      schema = c.drop_row.ensures.schema ∙ i.schema;
      undo = c.drop_row.ensures.undo ∙ i.undo;
      goes = λ tells. goes_then _ _ _ _ _ _ (i.goes tells) (i.keeps tells) (c.drop_row.ensures.goes tells);
      keeps = λ tells. keeps_then _ _ _ _ _ (i.keeps tells) (c.in-Ok.ensures.keeps tells);
      cause = caused _ _ _ _ i.cause c.drop_row.ensures.cause (λ e. let ok = c.in-Ok.is in cc);
    }

pub returns-in-Err-clause-goes : goal.returns-in-Err-clause-goes
returns-in-Err-clause-goes g c tells = let i = c.loop-i.invariant in goes_then _ _ _ _ _ _ (i.goes tells) (i.keeps tells) (c.drop_row.ensures.goes tells)

pub returns-in-Err-clause-undamaged : goal.returns-in-Err-clause-undamaged
returns-in-Err-clause-undamaged g c tells saved safe count schema defs rows h =
    let i = c.loop-i.invariant in
    c.in-Err.ensures.undamaged tells saved ((i.keeps tells).safe saved safe) (count ∙ sym (i.goes tells).stored) schema defs (without_keys c.args.table (take c.loop-i.i c.args.keys.now) rows) (i.holds tells schema defs rows h)

pub returns-clause-dropped : goal.returns-clause-dropped
returns-clause-dropped g c tells schema defs rows h =
    let i = c.loop-i.invariant in
    let whole : take c.loop-i.i c.args.keys.now ≡ c.args.keys.now = take_all c.loop-i.i c.args.keys.now (omega (arith, c.loop-i-test.false)) in
    subst (λ (ks : List Row). HoldsParts (book_of (g.D.Disk.told c.loop-i.disk) c.loop-i.self.pages) c.loop-i.self schema defs (without_keys c.args.table ks rows)) whole (i.holds tells schema defs rows h)

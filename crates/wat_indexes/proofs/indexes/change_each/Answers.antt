use Rattle.std.proofs.Common.{◌∙◌, ap, sym, slice_set}
use Rattle.std.proofs.lemmas.List.Edits.{map_over_more}
use Rattle.std.specs.Option.{option_copied}
use Rattle.wat_indexes.specs.Kept.{Kept, with_row_changed}
use Rattle.wat_indexes.proofs.indexes.change_each.Goals as goal

pub loop-index-preserved : goal.loop-index-preserved
loop-index-preserved c =
    ap (slice_set c.loop-index.kept c.loop-index.index-index) c.in_ok-change.ensures
    ∙ (ap (λ (k : Kept). slice_set c.loop-index.kept c.loop-index.index-index (with_row_changed c.args.table (option_copied c.args.before) (option_copied c.args.after) k)) (sym c.index-item.is)
    ∙ map_over_more (with_row_changed c.args.table (option_copied c.args.before) (option_copied c.args.after)) c.args.kept.now c.loop-index.kept c.loop-index.index-index c.index-item.result c.loop-index-test.true c.loop-index.invariant c.index-item.is)

use Rattle.std.proofs.Common.{◌≡◌, [], map, take, drop}
use Rattle.wat_scope.specs.declared.scope.Visible.{Visible}
use Rattle.wat_names.specs.Refusals.{first}
use Rattle.wat_names.specs.Columns.{named_again}
use Rattle.wat_names.proofs.columns.named_again.Given as goal

abbrev pub invariant-loop-source : goal.invariant-loop-source
invariant-loop-source l = record {
  called : l.before ≡ map (λ (source : Visible). source.name) (take l.source-index l.source-items);
  rest : first (named_again (take l.source-index l.source-items) (drop l.source-index l.source-items)) ≡ first (named_again [] l.fn.scope);
}

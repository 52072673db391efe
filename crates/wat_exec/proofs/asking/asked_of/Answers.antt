use Rattle.std.proofs.Common.{ap, ◌∙◌}
use Rattle.wat_value.specs.declared.definition.TableDef.{TableDef}
use Rattle.wat_level.specs.Change.{change_wants}
use Rattle.wat_exec.proofs.SpotLemmas.{spots_less}
use Rattle.wat_exec.proofs.asking.asked_of.Goals as goal

pub returns-clause-asked : goal.returns-clause-asked
returns-clause-asked g c =
    let t = g.R.RowSource in
    record {
      spots = c.in_ok-spots.spots;
      wants_are = c.in_ok-wants.ensures ∙ ap (λ (def : TableDef). change_wants def c.args.change.now c.in_ok-spots.spots) c.def.ensures;
      free = λ none. spots_less (t.stands_for c.standing.new.rows) (t.stands_for c.args.rows.now) (λ s told. c.in_ok-standing.ensures.stays s told) c.args.table.now c.args.change.now c.in_ok-spots.spots (c.in_ok-spots.ensures.free none);
      taken = λ row is. c.in_ok-spots.ensures.taken row is;
      stands = λ s told none. c.in_ok-standing.ensures.stands s told none;
      no_insert = λ before is. c.in_ok-standing.ensures.no_insert before is;
    }

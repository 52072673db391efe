use Rattle.std.proofs.Common.{◌≡◌, ◌∷◌, ◌++◌, ℕ, List, map, subst}
use Rattle.std.specs.List.{flat_map}
use Rattle.std.specs.Map.Iter.{deref}
use Rattle.std.proofs.lemmas.Map.Iter.{rest_all, rest_more}
use Rattle.wat_expr.specs.Evaluation.{Combination}
use Rattle.wat_meaning.specs.Meaning.{alone}
use Rattle.wat_script_texts.specs.Texts.{script_text}
use Rattle.wat_dump.specs.Dumping.{combination_statements}
use Rattle.wat_dump.proofs.Texts.{row_ends, row_more}
use Rattle.wat_dump.proofs.writing.push_each_row.Goals as goal

pub loop-rows-preserved : goal.loop-rows-preserved
loop-rows-preserved c =
    let next : c.loop-rows.rows-iterator ≡ c.in-Some.rows.now ∷ c.next.new.self = rest_more deref _ _ c.next.result c.in-Some.rows c.in-Some.is c.next.ensures.steps in
    let all : List ℕ = c.args.out.now.items ++ script_text (flat_map (combination_statements c.args.schema.now c.args.def.now) (map alone c.args.table.now.rows)) in
    row_more c.args.schema.now c.args.def.now c.in-Some.rows.now c.next.new.self c.loop-rows.out.items c.push_row.new.out.items all
    (subst (λ (rest : List Combination). c.loop-rows.out.items ++ script_text (flat_map (combination_statements c.args.schema.now c.args.def.now) rest) ≡ all) next c.loop-rows.invariant)
    c.in_ok-push_row.ensures

pub returns : goal.returns
returns c =
    row_ends c.args.schema.now c.args.def.now c.args.table.now.rows c.loop-rows.rows-iterator _ c.loop-rows.out.items (rest_all deref _ _ c.next.result c.in-None.is c.next.ensures.steps) c.loop-rows.invariant

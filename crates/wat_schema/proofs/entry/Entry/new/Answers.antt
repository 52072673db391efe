use Rattle.std.proofs.Common.{◌≡◌, ◌<◌, List, length, get_or, map, string_bytes, ap, subst, ◌∙◌}
use Rattle.wat_value.specs.declared.definition.Column.{Column}
use Rattle.wat_schema.proofs.Keeping.{names_more}
use Rattle.wat_schema.proofs.entry.Entry.new.Goals as goal

pub loop-column-preserved : goal.loop-column-preserved
loop-column-preserved c =
    let Within : List Column → Type 0 = λ xs. c.loop-column.column-index < length xs in
    let within = subst Within c.as_slice-column-items.ensures c.loop-column-test.true in
    let called : string_bytes c.in_ok-name.name ≡ (get_or c.args.def.columns c.loop-column.column-index c.column-item.result).name =
    c.in_ok-name.ensures.ok ∙ c.as_str.ensures.text
    ∙ ap (λ x. x.name) (c.column-item.is ∙ ap (λ xs. get_or xs c.loop-column.column-index c.column-item.result) c.as_slice-column-items.ensures) in
    ap (map string_bytes) c.in_ok-insert.ensures.keys
    ∙ names_more string_bytes c.loop-column.columns.keys c.in_ok-name.name c.args.def.columns c.loop-column.column-index c.column-item.result c.loop-column.invariant within c.requires.distinct called

use Rattle.std.proofs.Common.{position, sym, ap, ap₂, ◌∙◌}
use Rattle.std.specs.Str.{bytes_eq}
use Rattle.wat_value.specs.declared.definition.Column.{Column}
use Rattle.wat_schema.proofs.LookUps.{position-map}
use Rattle.wat_meaning.specs.Meaning.{given_columns}
use Rattle.wat_made.proofs.inserting.place_given.Goals as goal

pub returns-in-None : goal.returns-in-None
returns-in-None c =
    let name = c.args.column.now.name in
    let columns = c.args.def.now.columns in
    c.place_of.ensures ∙ ap₂ (λ n cs. position (λ (column : Column). bytes_eq n column.name) cs) c.as_str-in-None.ensures.text c.as_slice-in-None.ensures
    ∙ sym (position-map (bytes_eq name) (λ (column : Column). column.name) columns)
    ∙ ap (λ names. position (bytes_eq name) (given_columns c.args.def.now names)) (sym c.in-None.is)

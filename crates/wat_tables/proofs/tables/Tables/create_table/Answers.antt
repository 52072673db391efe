use Rattle.std.proofs.Common.{◌≡◌, ℕ, ◌==◌, [], ◌∷◌, ◌++◌, List, sym, ap, ap₂, ◌∙◌}
use Rattle.indexmap.specs.IndexSet.{insert_key}
use Rattle.wat_value.specs.declared.change.SchemaChange.TheVariants.{CreateTable}
use Rattle.wat_schema.specs.Catalog.{Catalog}
use Rattle.wat_schema.specs.Definitions.{altered}
use Rattle.wat_schema.specs.Tables.{Table, Tables, after_alter}
use Rattle.wat_tables.specs.Acting.{empty_table}
use Rattle.wat_tables.proofs.Listed.{allowed_here, keeps_create, moved}
use Rattle.wat_tables.proofs.tables.Tables.create_table.Goals as goal

pub invariant_of-self-2 : goal.invariant_of-self-2
invariant_of-self-2 c =
    let t : Tables = record { tables = c.self.inside.tables.items; next = c.self.inside.schema.next } in
    let def = c.args.def.now in
    let table : c.new-table.result ≡ empty_table def [] = c.new-table.ensures ∙ ap₂ empty_table c.in_ok-copy.ensures c.new.ensures in
    let schema : c.apply.new.self ≡ altered (CreateTable def) c.self.inside.schema = c.in_ok-apply.ensures.applied ∙ ap (λ ch. altered ch c.self.inside.schema) c.requires.is in
    let tables : c.push_reserved.new.self.items ≡ c.self.inside.tables.items ++ empty_table def [] ∷ [] =
    c.push_reserved.ensures.items ∙ ap₂ (λ (xs : List Table) (x : Table). xs ++ x ∷ []) c.reserve.ensures.items table in
    let numbers : c.insert.new.self.keys ≡ insert_key ◌==◌ c.self.inside.numbers.keys def.number = c.in-Ok.ensures.keys ∙ ap (λ ks. insert_key ◌==◌ ks def.number) c.reserve-2.ensures.keys in
    let same : ◌≡◌ {A = Tables} (record { tables = c.push_reserved.new.self.items; next = c.apply.new.self.next }) (after_alter (CreateTable def) t) =
    ap₂ (λ (xs : List Table) (n : ℕ). record { tables = xs; next = n }) tables (ap (λ (s : Catalog). s.next) schema) in
    moved _ (after_alter (CreateTable def) t) _ (altered (CreateTable def) c.self.inside.schema) _ (insert_key ◌==◌ c.self.inside.numbers.keys def.number) same schema numbers
    (keeps_create t c.self.inside.schema c.self.inside.numbers.keys def c.self.invariant
    (allowed_here t c.args.self.now c.self.inside.schema c.self.inside.numbers.keys (CreateTable def) c.args.change.now c.self.invariant c.self.view_is c.requires.is c.requires.allowed))

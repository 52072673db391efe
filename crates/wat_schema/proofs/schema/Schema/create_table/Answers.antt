use Rattle.std.proofs.Common.{◌≡◌, ◌<◌, ◌==◌, [], ◌∷◌, ◌++◌, true, string_bytes, string_eq, sym, ap, ap₂, subst, ◌∙◌, arith}
use Rattle.indexmap.specs.IndexSet.{insert_key}
use Rattle.wat_schema.specs.Catalog.{Catalog, Listing}
use Rattle.wat_schema.specs.Definitions.{allows_table}
use Rattle.wat_schema.proofs.Keeping.{kept_with, with_tables, unindexed, may_table}
use Rattle.wat_schema.proofs.Owning.{owned_with}
use Rattle.wat_schema.proofs.Whole.{with_table}
use Rattle.wat_schema.proofs.schema.Schema.create_table.Goals as goal

pub overflow_add-self : goal.overflow_add-self
overflow_add-self c =
    let Allowed : Catalog → Type 0 = λ s. allows_table s c.args.def.now ≡ true in
    let may = may_table (with_tables c.self.inside.next c.self.inside.entries.items) c.args.def.now (subst Allowed (sym c.self.view_is) c.requires) in
    let room : c.self.inside.next < 4294967295 = may.room in
    omega arith

pub invariant_of-self-2 : goal.invariant_of-self-2
invariant_of-self-2 c =
    let Allowed : Catalog → Type 0 = λ s. allows_table s c.args.def.now ≡ true in
    let listing : Listing = record { def = c.args.def.now; indexes = [] } in
    let may = may_table (with_tables c.self.inside.next c.self.inside.entries.items) c.args.def.now (subst Allowed (sym c.self.view_is) c.requires) in
    let entry : c.in_ok-entry.entry ≡ listing = c.in_ok-entry.ensures ∙ ap unindexed c.in_ok-copy.ensures in
    let tables : c.push_reserved.new.self.items ≡ c.self.inside.entries.items ++ listing ∷ [] =
    c.push_reserved.ensures.items ∙ ap₂ (λ xs x. xs ++ x ∷ []) c.reserve.ensures.items entry in
    let numbers : c.insert.new.self.keys ≡ insert_key ◌==◌ c.self.inside.numbers.keys c.self.inside.next =
    c.in-Ok.ensures.keys ∙ ap₂ (insert_key ◌==◌) c.reserve-2.ensures.keys may.number in
    let names : c.insert-2.new.self.keys ≡ insert_key string_eq c.self.inside.names.keys c.in_ok-name.name =
    c.in-Ok-insert.ensures.keys ∙ ap (λ ks. insert_key string_eq ks c.in_ok-name.name) c.reserve-3.ensures.keys in
    let called : string_bytes c.in_ok-name.name ≡ c.args.def.now.name = c.in_ok-name.ensures.ok ∙ c.as_str.ensures.text in
    let kept =
    kept_with string_bytes c.self.inside.entries.items c.self.inside.next c.self.inside.numbers.keys c.self.inside.names.keys listing c.in_ok-name.name
    c.self.invariant.0.0 may.number called may.free in
    let whole = with_table (with_tables c.self.inside.next c.self.inside.entries.items) c.args.def.now c.self.invariant.1 (subst Allowed (sym c.self.view_is) c.requires) in
    rw (tables, numbers, names) ((kept, owned_with c.self.inside.owners.items c.self.inside.entries.items c.args.def.now c.self.invariant.0.1), whole)

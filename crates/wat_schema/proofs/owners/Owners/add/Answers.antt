use Rattle.std.proofs.Common.{◌≡◌, ◌<◌, false, true, None, is_ok, ◌∷◌, [], ◌++◌, string_bytes, string_eq, sym, ap, subst, ◌∙◌}
use Rattle.std.specs.List.{list_any}
use Rattle.std.specs.Map.{lookup}
use Rattle.std.specs.Str.{bytes_eq}
use Rattle.std.proofs.lemmas.List.{map-append}
use Rattle.indexmap.proofs.CallerLemmas.{insert_entry-new}
use Rattle.wat_schema.proofs.Owning.{pairs, list_any-pairs, lookup-fresh, no_way}
use Rattle.wat_schema.proofs.owners.Owners.add.Goals as goal

pub unreachable-requires : goal.unreachable-requires
unreachable-requires c =
    let done : is_ok c.insert.result ≡ true = c.insert.ensures.succeeds (subst (λ o. 0 < o.spare) (sym c.self.view_is) c.requires.room) in
    no_way (sym (ap is_ok c.in-Err.is) ∙ done)

pub returns : goal.returns
returns c =
    let entries = c.self.inside.tables.entries in
    let fresh : list_any (λ e. bytes_eq (string_bytes c.args.name) e.0) (pairs string_bytes entries) ≡ false =
    ap (λ o. list_any (λ e. bytes_eq (string_bytes c.args.name) e.0) o.items) c.self.view_is ∙ c.requires.fresh in
    let none : lookup (λ k. bytes_eq (string_bytes c.args.name) (string_bytes k)) entries ≡ None =
    lookup-fresh (λ k. bytes_eq (string_bytes c.args.name) (string_bytes k)) entries (sym (list_any-pairs string_bytes (bytes_eq (string_bytes c.args.name)) entries) ∙ fresh) in
    ap (pairs string_bytes) (c.in-Ok.ensures.entries ∙ insert_entry-new string_eq c.self.inside.tables c.args.name c.args.table none)
    ∙ map-append (λ e. (string_bytes e.0, e.1)) entries ((c.args.name, c.args.table) ∷ [])
    ∙ ap (λ o. o.items ++ (string_bytes c.args.name, c.args.table) ∷ []) c.self.view_is

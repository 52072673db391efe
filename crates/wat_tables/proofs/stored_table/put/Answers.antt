use Rattle.std.proofs.Common.{rules, ◌≡◌, Some, sym, ap, ◌∙◌}
use Rattle.std.specs.BTreeMap.{is_at}
use Rattle.std.specs.BTreeMap.Entry.{entry_key, entry_value}
use Rattle.std.specs.Map.{lookup}
use Rattle.wat_value.specs.Order.{key_cmp}
use Rattle.wat_tables.proofs.Rows.{on_err, put_back, put_same, stood_same}
use Rattle.wat_tables.proofs.stored_table.put.Goals as goal

pub returns-in_err-key-in-Occupied-clause-kept : goal.returns-in_err-key-in-Occupied-clause-kept
returns-in_err-key-in-Occupied-clause-kept c =
    let found : lookup (is_at (key_cmp c.args.key)) c.args.map.now.entries ≡ Some c.into_mut.result.now =
    sym c.in_ok-free.ensures.value ∙ ap entry_value c.in-Occupied.is ∙ c.into_mut.ensures.value in
    on_err c.from_residual-in_err-key-in-Occupied.result (search rules ∙ put_back c.args.key c.into_mut.result.now c.args.map.now.entries c.entry.ensures.ordered found)

pub returns-in_ok-key-in-Occupied-clause-stood : goal.returns-in_ok-key-in-Occupied-clause-stood
returns-in_ok-key-in-Occupied-clause-stood c =
    let found : lookup (is_at (key_cmp c.args.key)) c.args.map.now.entries ≡ Some c.into_mut.result.now =
    sym c.in_ok-free.ensures.value ∙ ap entry_value c.in-Occupied.is ∙ c.into_mut.ensures.value in
    stood_same c.args.key c.args.rows c.into_mut.result.now c.args.map.now.entries found c.in_ok-key-in-Occupied.field-0
    (ap (key_cmp c.args.key) (c.in_ok-key-in-Occupied.ensures ∙ c.key.ensures ∙ ap entry_key (sym c.in-Occupied.is)) ∙ c.in_ok-free.ensures.same_key)

pub returns-in_ok-key-in-Occupied-clause-after : goal.returns-in_ok-key-in-Occupied-clause-after
returns-in_ok-key-in-Occupied-clause-after c =
    let found : lookup (is_at (key_cmp c.args.key)) c.args.map.now.entries ≡ Some c.into_mut.result.now =
    sym c.in_ok-free.ensures.value ∙ ap entry_value c.in-Occupied.is ∙ c.into_mut.ensures.value in
    put_same c.args.key c.args.rows c.into_mut.result.now c.args.map.now.entries found _ c.entry.ensures.ordered (search rules)

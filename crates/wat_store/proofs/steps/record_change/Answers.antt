use Rattle.std.proofs.Common.{◌≡◌, ◌++◌, ◌∷◌, [], List, Option, Some, None, refl, sym, ◌∙◌, subst}
use Rattle.wat_value.specs.declared.change.Change.{Change}
use Rattle.wat_log_record.specs.Encoding.{IsWritableChange}
use Rattle.wat_replay.specs.State.{with_list}
use Rattle.wat_objects.specs.Objects.{HoldsOn}
use Rattle.wat_store.proofs.Storing.{not_refused, one_change}
use Rattle.wat_store.proofs.steps.record_change.Goals as goal

pub push-requires : goal.push-requires
push-requires c =
    let same = one_change c.change_in.result c.args.change c.in-Some.change (c.change_in.ensures c.args.conn c.args.change refl) c.in-Some.is in
    subst (λ (k : Change). IsWritableChange k) same c.requires.writable

pub unreachable-requires : goal.unreachable-requires
unreachable-requires c = not_refused c.in-None.is (c.change_in.ensures c.args.conn c.args.change refl)

pub returns-clause-pushed : goal.returns-clause-pushed
returns-clause-pushed c book held is =
    let same = one_change c.change_in.result c.args.change c.in-Some.change (c.change_in.ensures c.args.conn c.args.change refl) c.in-Some.is in
    subst (λ (k : Change). HoldsOn book c.push.new.self (record { tables = held.tables; lists = with_list c.args.conn (held.lists c.args.conn ++ k ∷ []) held.lists })) (sym same) (c.in_ok-push-in-Some.ensures.pushed book held is)

use Rattle.std.proofs.Common.{◌≡◌, map, string_bytes, ap, arith}
use Rattle.wat_schema.proofs.Keeping.{kept_from, with_tables}
use Rattle.wat_schema.proofs.Made.{numbered_whole}
use Rattle.wat_schema.proofs.schema.Schema.number_from.Goals as goal

pub invariant_of-self : goal.invariant_of-self
invariant_of-self c =
    let same : c.self.inside.next ≡ c.args.self.now.next = ap (λ s. s.next) c.self.view_is in
    ((kept_from c.self.inside.entries.items c.self.inside.next c.args.next c.self.inside.numbers.keys (map string_bytes c.self.inside.names.keys) c.self.invariant.0.0 (omega arith), c.self.invariant.0.1), numbered_whole (with_tables c.self.inside.next c.self.inside.entries.items) c.args.next c.self.invariant.1 (omega arith) (omega arith))

use Rattle.std.proofs.Common.{◌∙◌}
use Rattle.wat_dump.proofs.Standing.{text_dumped}
use Rattle.wat_dump.proofs.dumping.dump.Goals as goal

pub returns : goal.returns
returns c =
    record {
      text = text_dumped c.args.tables.now c.tables_law.ensures c.schema-schema.result.now c.as_slice.result.now c.as_slice-2.result.now c.new-out.result.items c.push_tables.new.out.items c.schema-schema.ensures (c.as_slice.ensures ∙ c.in_ok-indexes.ensures)
          (c.as_slice-2.ensures ∙ c.in_ok-defs.ensures) c.new-out.ensures.items c.in_ok-push_tables.ensures;
    }

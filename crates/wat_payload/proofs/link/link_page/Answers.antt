use Rattle.std.proofs.Common.{arith}
use Rattle.wat_payload.proofs.Links.{is_link}
use Rattle.wat_payload.proofs.link.link_page.Goals as goal

pub returns : goal.returns
returns c = record {
  link = is_link c.in_ok-page.page c.write_at.new.self c.write_at-2.new.self c.args.part.now c.args.next c.front.result c.front.ensures c.requires (omega arith) c.write_at-2.ensures.whole c.write_at.ensures.bytes c.write_at-2.ensures.bytes;
}

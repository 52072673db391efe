use Rattle.std.proofs.Common.{◌∙◌, refl}
use Rattle.wat_pages.proofs.Changed.{changed_either, written_is, written_other}
use Rattle.wat_pages.proofs.pages.Pages.write_page.Goals as goal

pub invariant_of-self : goal.invariant_of-self
invariant_of-self g c =
    let s = c.args.self.now in
    record {
      before_file = s.before_file;
      are_images = s.are_images;
      are_changed = changed_either c.insert.result s.changed c.insert.new.self c.args.page c.in_ok-held.held s.stored s.count s.are_changed c.requires.not_header c.in_ok-held.ensures.whole c.insert.ensures.entries c.insert.ensures.updates c.insert.ensures.err;
    }

pub returns-clause-written : goal.returns-clause-written
returns-clause-written g c tells =
    let told = g.D.Disk.told c.args.disk.now in
    record {
      others = λ q below other. written_other told c.args.self.now _ c.args.page q c.in_ok-held.held c.in_ok-insert.ensures.updates other;
      is = written_is told c.args.self.now _ c.args.page c.in_ok-held.held c.in_ok-insert.ensures.updates ∙ c.in_ok-held.ensures.bytes ∙ c.as_slice.ensures.bytes;
      count = refl;
      first = refl;
    }

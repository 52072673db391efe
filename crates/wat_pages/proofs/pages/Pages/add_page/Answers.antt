use Rattle.wat_pages.proofs.Changed.{changed_more, others_stay}
use Rattle.wat_pages.proofs.pages.Pages.add_page.Goals as goal

pub invariant_of-self-2 : goal.invariant_of-self-2
invariant_of-self-2 c =
    let s = c.args.self.now in
    record {
      before_file = s.before_file;
      are_images = s.are_images;
      are_changed = changed_more s.changed c.insert.new.self c.in_ok-held.held s.stored s.count s.are_changed c.in_ok-held.ensures.whole c.in_ok-insert.ensures.entries c.in_ok-insert.ensures.updates;
    }

pub returns-clause-pages : goal.returns-clause-pages
returns-clause-pages c page below = others_stay c.args.self.now.changed c.insert.new.self c.in_ok-held.held c.args.self.now.count c.in_ok-insert.ensures.updates page below

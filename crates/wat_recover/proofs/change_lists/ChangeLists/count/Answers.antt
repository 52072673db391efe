use Rattle.std.proofs.Common.{◌≡◌, ◌∙◌, ap, length}
use Rattle.wat_recover.specs.Listed.{lists_of}
use Rattle.wat_recover.proofs.Listing.{counted}
use Rattle.wat_recover.proofs.change_lists.ChangeLists.count.Goals as goal

pub returns : goal.returns
returns c =
    let e : c.as_slice.result.now ≡ c.args.self.now = cc in
    c.count_of.ensures ∙ counted c.as_slice.result.now c.args.conn ∙ ap (λ xs. length (lists_of xs c.args.conn)) e

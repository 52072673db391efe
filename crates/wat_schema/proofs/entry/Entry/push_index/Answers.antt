use Rattle.std.proofs.Common.{◌≡◌, ◌<◌, length, sym, subst}
use Rattle.wat_schema.specs.Catalog.{Listing}
use Rattle.wat_schema.specs.Definitions.{next_index}
use Rattle.wat_schema.proofs.Keeping.{listing_more}
use Rattle.wat_schema.proofs.entry.Entry.push_index.Goals as goal

pub invariant_of-self-2 : goal.invariant_of-self-2
invariant_of-self-2 c =
    let Few : Listing → Type 0 = λ t. length t.indexes < 8 in
    let Next : Listing → Type 0 = λ t. c.args.index.number ≡ next_index t in
    rw c.in_ok-push.ensures.ok
    (record {
      limits =
          listing_more (record { def = c.self.inside.def; indexes = c.self.inside.indexes }) c.args.index c.self.invariant.limits
          (subst Few (sym c.self.view_is) c.requires.few) (subst Next (sym c.self.view_is) c.requires.next);
      columns = c.self.invariant.columns;
    })

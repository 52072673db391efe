use Rattle.std.proofs.Common.{◌≡◌, ℕ, sym, ◌∙◌, arith}
use Rattle.wat_pages.specs.Pages.{book_of}
use Rattle.wat_schema.specs.Catalog.{def_at}
use Rattle.wat_images.proofs.Writing.{no_cause, caused}
use Rattle.wat_roots.proofs.Going.{went_nowhere, stays_still, went_then, stays_then}
use Rattle.wat_row_pages.proofs.Stepping.{begins, more, stopped, at_end}
use Rattle.wat_row_pages.proofs.taking.take_pages.Goals as goal

pub loop-page-init : goal.loop-page-init
loop-page-init g c = record {
  some = omega arith;
  within = omega arith;
  counted = c.count-count.ensures;
  first = c.count-count.ensures;
  takes = λ tells schema list ok same set. begins (book_of (g.D.Disk.told c.args.disk.now) c.args.pages.now) list schema _ ok (c.new-heap.ensures (def_at schema));
  known = c.requires.known;
  went = λ tells. went_nowhere _ _;
  stays = λ tells. stays_still _ _ (c.requires.known tells);
  cause = no_cause _;
}

pub loop-page-preserved : goal.loop-page-preserved
loop-page-preserved g c =
    let i = c.loop-page.invariant in
    let r = c.take_other.ensures in
    record {
      some = omega arith;
      within = omega (arith, i.some);
      counted = i.counted ∙ sym r.count;
      first = i.first;
      takes = λ tells schema list ok same set.
          more (book_of (g.D.Disk.told c.args.disk.now) c.args.pages.now) (book_of (g.D.Disk.told c.loop-page.disk) c.loop-page.pages) list c.args.listed.now.keys schema c.args.defs.now c.loop-page.page _ set same (i.stays tells).pages i.some
          (omega (arith, i.first)) (i.takes tells schema list ok same set) _ r.left (λ taken rows h none new. c.in-Ok.ensures.taken tells taken rows h none new);
      known = λ tells. (c.in-Ok.ensures.stays tells).keeps.known;
      went = λ tells. went_then _ _ _ _ _ _ (i.went tells) (i.stays tells) (r.went tells);
      stays = λ tells. stays_then _ _ _ _ _ _ (i.stays tells) (c.in-Ok.ensures.stays tells);
      cause = caused _ _ _ _ i.cause r.cause (λ e. let ok = c.in-Ok.is in cc);
    }

pub returns-in-Err-clause-damaged : goal.returns-in-Err-clause-damaged
returns-in-Err-clause-damaged g c tells schema list ok same set =
    let i = c.loop-page.invariant in
    stopped (book_of (g.D.Disk.told c.args.disk.now) c.args.pages.now) (book_of (g.D.Disk.told c.loop-page.disk) c.loop-page.pages) list c.args.listed.now.keys schema c.args.defs.now c.loop-page.page _ set same (i.stays tells).pages i.some
    (omega (arith, i.first)) (i.takes tells schema list ok same set) c.in-Err.refusal (λ taken rows h none. c.in-Err.ensures.damaged tells taken rows h none)

pub returns-in-Err-clause-went : goal.returns-in-Err-clause-went
returns-in-Err-clause-went g c tells = let i = c.loop-page.invariant in went_then _ _ _ _ _ _ (i.went tells) (i.stays tells) (c.take_other.ensures.went tells)

pub returns-clause-taken : goal.returns-clause-taken
returns-clause-taken g c tells schema list ok same set =
    let i = c.loop-page.invariant in
    at_end (book_of (g.D.Disk.told c.args.disk.now) c.args.pages.now) list schema c.loop-page.page _ _ i.some (omega (arith, i.first)) (omega (arith, i.first, i.within)) (i.takes tells schema list ok same set)

pub returns-clause-damaged : goal.returns-clause-damaged
returns-clause-damaged g c tells schema list ok same set = tt

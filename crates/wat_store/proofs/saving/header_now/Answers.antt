use Rattle.std.proofs.Common.{◌≡◌, ◌<◌, ◌^◌, ℕ, ◌∙◌, refl, sym, ap, subst, arith}
use Rattle.wat_store.proofs.Checkpointing.{counts_so}
use Rattle.wat_store.proofs.saving.header_now.Goals as goal
use Rattle.wat_pages.specs.declared.pages.Pages.{Pages}
use Rattle.wat_pages.specs.Pages.{limit_of, count_of, first_free_of}

pub returns-clause-counts : goal.returns-clause-counts
returns-clause-counts g c tells =
    counts_so (g.D.Disk.told c.args.disk.now) c.args.log.now _ (c.requires.known tells) c.frames-frames.ensures (c.in-Ok.ensures.place tells)

pub returns-clause-fits : goal.returns-clause-fits
returns-clause-fits g c =
    let f = c.fit.ensures in
    let e = c.pages-pages.ensures in
    record {
      limit = subst (λ (n : ℕ). n < 2 ^ 32) (c.limit-limit.ensures ∙ ap limit_of e) f.limit;
      count = subst (λ (n : ℕ). n < 2 ^ 32) (c.count-count.ensures ∙ ap count_of e) f.count;
      frames = f.frames;
      place = f.place;
      catalog = f.catalog;
      rollback = f.rollback;
      free = subst (λ (n : ℕ). n < 2 ^ 32) (c.first_free-first_free.ensures ∙ ap first_free_of e) f.free;
      next_table = f.next_table;
    }

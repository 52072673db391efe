use Rattle.std.proofs.Common.{◌≡◌, ◌<◌, ◌^◌, ℕ, [], subst, sym}
use Rattle.wat_pages.specs.Pages.{stored_of, limit_of, next_head, next_checkpoint}
use Rattle.wat_keeping.specs.Kept.{IsKept}
use Rattle.wat_keeping.proofs.Calls.{checkpoint_stopped, checkpoint_stays}
use Rattle.wat_store.specs.Saving.{Fits}
use Rattle.wat_store.proofs.Saved.{saves_all}
use Rattle.wat_store.proofs.composed.save.Goals as goal

pub returns-in_err-checkpoint-clause-stops : goal.returns-in_err-checkpoint-clause-stops
returns-in_err-checkpoint-clause-stops g c tells s t owners free k counts holds =
    let pages = c.args.pages.now in
    let old = g.D.Disk.told c.args.disk.now in
    let f = c.fit.ensures in
    let fit : Fits (next_head pages c.args.header.now) = record {
      limit = subst (λ (n : ℕ). n < 2 ^ 32) c.limit-limit.ensures f.limit;
      count = subst (λ (n : ℕ). n < 2 ^ 32) c.count-count.ensures f.count;
      frames = f.frames;
      place = f.place;
      catalog = f.catalog;
      rollback = f.rollback;
      free = subst (λ (n : ℕ). n < 2 ^ 32) c.first_free-first_free.ensures f.free;
      next_table = f.next_table;
    } in
    checkpoint_stopped old (g.D.Disk.told c.checkpoint.new.disk) (limit_of pages) (stored_of pages) s t (next_checkpoint old pages c.args.header.now) (next_head pages c.args.header.now) k
    (saves_all old pages c.args.header.now owners free s fit holds counts) (c.checkpoint.ensures.stops tells)

pub returns-clause-stops : goal.returns-clause-stops
returns-clause-stops g c tells s t owners free k counts holds =
    let pages = c.args.pages.now in
    let old = g.D.Disk.told c.args.disk.now in
    let f = c.fit.ensures in
    let fit : Fits (next_head pages c.args.header.now) = record {
      limit = subst (λ (n : ℕ). n < 2 ^ 32) c.limit-limit.ensures f.limit;
      count = subst (λ (n : ℕ). n < 2 ^ 32) c.count-count.ensures f.count;
      frames = f.frames;
      place = f.place;
      catalog = f.catalog;
      rollback = f.rollback;
      free = subst (λ (n : ℕ). n < 2 ^ 32) c.first_free-first_free.ensures f.free;
      next_table = f.next_table;
    } in
    checkpoint_stopped old (g.D.Disk.told c.checkpoint.new.disk) (limit_of pages) (stored_of pages) s t (next_checkpoint old pages c.args.header.now) (next_head pages c.args.header.now) k
    (saves_all old pages c.args.header.now owners free s fit holds counts) (c.checkpoint.ensures.stops tells)

pub returns-clause-kept : goal.returns-clause-kept
returns-clause-kept g c tells s t owners free k counts holds =
    let pages = c.args.pages.now in
    let old = g.D.Disk.told c.args.disk.now in
    let new = g.D.Disk.told c.checkpoint.new.disk in
    let f = c.fit.ensures in
    let fit : Fits (next_head pages c.args.header.now) = record {
      limit = subst (λ (n : ℕ). n < 2 ^ 32) c.limit-limit.ensures f.limit;
      count = subst (λ (n : ℕ). n < 2 ^ 32) c.count-count.ensures f.count;
      frames = f.frames;
      place = f.place;
      catalog = f.catalog;
      rollback = f.rollback;
      free = subst (λ (n : ℕ). n < 2 ^ 32) c.first_free-first_free.ensures f.free;
      next_table = f.next_table;
    } in
    let kept = checkpoint_stays old new (limit_of pages) (stored_of pages) s t (next_checkpoint old pages c.args.header.now) (next_head pages c.args.header.now) k
    (saves_all old pages c.args.header.now owners free s fit holds counts) (c.checkpoint.ensures.stops tells)
    (record { others = c.checkpoint.ensures.others; safe = c.in_ok-checkpoint.ensures.safe tells k.saved k.durable.pages k.counted }) in
    subst (λ (n : ℕ). IsKept n (stored_of c.checkpoint.new.self) new [] s t) (sym c.checkpoint.ensures.limit) (subst (λ (n : ℕ). IsKept (limit_of pages) n new [] s t) (sym c.in_ok-checkpoint.ensures.stored) kept)

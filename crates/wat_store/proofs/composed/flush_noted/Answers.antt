use Rattle.std.proofs.Common.{◌≡◌, ◌≢◌, [], ap}
use Rattle.wat_log.specs.Log.{noted_bytes}
use Rattle.wat_pages.specs.Pages.{stored_of}
use Rattle.wat_store.proofs.Appended.{pages_stay, none_noted, whole_log, flush_stops, flush_kept, flush_beside, flush_synced}
use Rattle.wat_store.proofs.composed.flush_noted.Goals as goal

pub returns-clause-noted : goal.returns-clause-noted
returns-clause-noted g c = none_noted c.flush.new.self c.in_ok-flush.ensures.noted

pub returns-clause-pages : goal.returns-clause-pages
returns-clause-pages g c tells is =
    pages_stay (g.D.Disk.told c.args.disk.now) (g.D.Disk.told c.flush.new.disk) c.args.pages.now c.args.pages.now.before_file c.flush.ensures.others is

pub returns-in_err-flush-clause-pages : goal.returns-in_err-flush-clause-pages
returns-in_err-flush-clause-pages g c tells is =
    pages_stay (g.D.Disk.told c.args.disk.now) (g.D.Disk.told c.flush.new.disk) c.args.pages.now c.args.pages.now.before_file c.flush.ensures.others is

pub returns-clause-stops : goal.returns-clause-stops
returns-clause-stops g c tells limit noted more s next t after k has applied is =
    flush_stops (g.D.Disk.told c.args.disk.now) (g.D.Disk.told c.flush.new.disk) c.args.log.now limit (stored_of c.args.pages.now) noted more s next t after
    (λ none. ap g.D.Disk.told (c.flush.ensures.nothing none).1) (λ some. c.flush.ensures.stops tells some) k has applied is

pub returns-in_err-flush-clause-stops : goal.returns-in_err-flush-clause-stops
returns-in_err-flush-clause-stops g c tells limit noted more s next t after k has applied is =
    flush_stops (g.D.Disk.told c.args.disk.now) (g.D.Disk.told c.flush.new.disk) c.args.log.now limit (stored_of c.args.pages.now) noted more s next t after
    (λ none. ap g.D.Disk.told (c.flush.ensures.nothing none).1) (λ some. c.flush.ensures.stops tells some) k has applied is

pub returns-clause-kept : goal.returns-clause-kept
returns-clause-kept g c tells limit noted more s next t after k has applied is =
    flush_kept (g.D.Disk.told c.args.disk.now) (g.D.Disk.told c.flush.new.disk) c.args.log.now limit (stored_of c.args.pages.now) noted more s next t after
    (λ none. ap g.D.Disk.told (c.flush.ensures.nothing none).1) (λ some. c.flush.ensures.stops tells some)
    (λ some. record {
      synced = c.in_ok-flush.ensures.synced some;
      whole = whole_log (g.D.Disk.told c.flush.new.disk) c.flush.new.self c.flush.new.self.known_file (c.in_ok-flush.ensures.known tells);
      added = c.in_ok-flush.ensures.added tells some;
      others = c.flush.ensures.others;
    }) k has applied is

pub returns-clause-beside : goal.returns-clause-beside
returns-clause-beside g c tells synced =
    flush_beside (g.D.Disk.told c.args.disk.now) (g.D.Disk.told c.flush.new.disk) c.args.log.now (λ none. ap g.D.Disk.told (c.flush.ensures.nothing none).1) (λ some. c.flush.ensures.stops tells some) synced

pub returns-in_err-flush-clause-beside : goal.returns-in_err-flush-clause-beside
returns-in_err-flush-clause-beside g c tells synced =
    flush_beside (g.D.Disk.told c.args.disk.now) (g.D.Disk.told c.flush.new.disk) c.args.log.now (λ none. ap g.D.Disk.told (c.flush.ensures.nothing none).1) (λ some. c.flush.ensures.stops tells some) synced

pub returns-clause-synced : goal.returns-clause-synced
returns-clause-synced g c synced =
    flush_synced (g.D.Disk.told c.args.disk.now) (g.D.Disk.told c.flush.new.disk) c.args.log.now (λ none. ap g.D.Disk.told (c.flush.ensures.nothing none).1) c.in_ok-flush.ensures.synced synced

use Rattle.std.proofs.Common.{◌≡◌, ◌<◌, [], ap, arith}
use Rattle.wat_log.specs.Log.{noted_bytes}
use Rattle.wat_pages.specs.Pages.{stored_of}
use Rattle.wat_store.proofs.Appended.{pages_stay, none_noted, whole_log, commit_stops, commit_keeps}
use Rattle.wat_store.proofs.composed.commit_noted.Goals as goal

pub returns-clause-noted : goal.returns-clause-noted
returns-clause-noted g c = none_noted c.commit.new.self c.in_ok-commit.ensures.noted

pub returns-clause-pages : goal.returns-clause-pages
returns-clause-pages g c tells is =
    pages_stay (g.D.Disk.told c.args.disk.now) (g.D.Disk.told c.commit.new.disk) c.args.pages.now c.args.pages.now.before_file c.commit.ensures.others is

pub returns-in_err-commit-clause-pages : goal.returns-in_err-commit-clause-pages
returns-in_err-commit-clause-pages g c tells is =
    pages_stay (g.D.Disk.told c.args.disk.now) (g.D.Disk.told c.commit.new.disk) c.args.pages.now c.args.pages.now.before_file c.commit.ensures.others is

pub returns-clause-stops : goal.returns-clause-stops
returns-clause-stops g c tells limit noted s next t after k has applies is =
    commit_stops (g.D.Disk.told c.args.disk.now) (g.D.Disk.told c.commit.new.disk) c.args.log.now c.args.conn limit (stored_of c.args.pages.now) noted s next t after
    (omega (arith, c.ranges.conn)) (c.commit.ensures.stops tells) k has applies is

pub returns-in_err-commit-clause-stops : goal.returns-in_err-commit-clause-stops
returns-in_err-commit-clause-stops g c tells limit noted s next t after k has applies is =
    commit_stops (g.D.Disk.told c.args.disk.now) (g.D.Disk.told c.commit.new.disk) c.args.log.now c.args.conn limit (stored_of c.args.pages.now) noted s next t after
    (omega (arith, c.ranges.conn)) (c.commit.ensures.stops tells) k has applies is

pub returns-clause-kept : goal.returns-clause-kept
returns-clause-kept g c tells limit noted s next t after k has applies is =
    commit_keeps (g.D.Disk.told c.args.disk.now) (g.D.Disk.told c.commit.new.disk) c.args.log.now c.args.conn limit (stored_of c.args.pages.now) noted s next t after
    (omega (arith, c.ranges.conn)) (c.commit.ensures.stops tells)
    (record {
      synced = c.in_ok-commit.ensures.synced;
      whole = whole_log (g.D.Disk.told c.commit.new.disk) c.commit.new.self c.commit.new.self.known_file (c.in_ok-commit.ensures.known tells);
      added = c.in_ok-commit.ensures.added tells;
      others = c.commit.ensures.others;
    }) k has applies is

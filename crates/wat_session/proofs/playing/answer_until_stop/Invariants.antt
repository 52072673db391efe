use Rattle.std.proofs.Common.{◌≡◌, ◌+◌, ◌≤◌, [], None, length}
use Rattle.wat_disk.specs.Disk.{IsSynced}
use Rattle.wat_gate.specs.GateLog.{file_of, IsLogOf}
use Rattle.wat_stops.proofs.CommitsLemmas.{KeepsAll}
use Rattle.wat_history.specs.Naming.{names_of}
use Rattle.wat_turns.proofs.Standing.{Stands}
use Rattle.wat_session.specs.Session.{HasCommitted, acts_in, commits_on, tables_after, transactions_of}
use Rattle.wat_session.proofs.Committing.{under_way}
use Rattle.wat_session.proofs.Entries.{AreEntries}
use Rattle.wat_session.proofs.playing.answer_until_stop.Given as goal

abbrev pub invariant-loop-span : goal.invariant-loop-span
invariant-loop-span g l = record {
  file : file_of l.player.log ≡ file_of l.fn.player.log;
  known : g.D.Disk.tells_content → IsLogOf (g.D.Disk.told l.disk) l.player.log;
  entries : AreEntries l.fn.player.connection.tables l.script l.span-index l.entries.items l.player.connection;
  few : l.player.connection.commits ≤ l.span-index;
  names : l.player.names ≡ names_of l.fn.player.connection.tables (acts_in l.entries.items);
  entry_room : length l.spans ≤ l.span-index + l.entries.spare;
  moment_room : length l.spans ≤ l.span-index + l.player.moments.spare;
  later : (g.D.Disk.told l.fn.disk).moment ≤ (g.D.Disk.told l.disk).moment;
  stands : g.D.Disk.tells_content → Stands (tables_after l.fn.player.connection.tables (transactions_of l.fn.player.connection.tables l.script l.entries.items)) l.player.connection;
  leaves : HasCommitted (under_way g.D.Disk.tells_content (g.D.Disk.told l.fn.disk) (file_of l.fn.player.log) l.fn.player.connection.tables (g.D.Disk.told l.disk))
      (transactions_of l.fn.player.connection.tables l.script l.entries.items) [] None l.player.moments.items;
  synced : g.D.Disk.tells_content → IsSynced (g.D.Disk.told l.fn.disk) (file_of l.fn.player.log) → IsSynced (g.D.Disk.told l.disk) (file_of l.fn.player.log);
  stops : g.D.Disk.tells_content → IsSynced (g.D.Disk.told l.fn.disk) (file_of l.fn.player.log)
      → KeepsAll (commits_on (under_way g.D.Disk.tells_content (g.D.Disk.told l.fn.disk) (file_of l.fn.player.log) l.fn.player.connection.tables (g.D.Disk.told l.disk))
      (transactions_of l.fn.player.connection.tables l.script l.entries.items) [] l.player.moments.items);
}

use Rattle.std.proofs.Common.{◌≡◌}
use Rattle.wat_undo.specs.Kept.{lists_of}
use Rattle.wat_translate.proofs.Lists.{popped_of}
use Rattle.wat_translate.proofs.reader.Reader.take_last.Goals as goal

pub returns-clause-popped : goal.returns-clause-popped
returns-clause-popped c = popped_of c.args.conn (lists_of c.args.self.now.standing) (lists_of c.pop.new.self) c.pop.result (c.pop.new.self ≡ c.args.self.now.standing) c.pop.ensures

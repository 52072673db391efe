use Rattle.wat_book.proofs.Chaining.{none_twice}
use Rattle.wat_payload_tests.proofs.chains.read.Goals as goal

pub read_chain-requires-clause-once : goal.read_chain-requires-clause-once
read_chain-requires-clause-once g c = none_twice

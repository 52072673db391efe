use Rattle.wat_book.proofs.Chaining.{one_chain, chain_distinct, sound, section_in_all}
use Rattle.wat_book.proofs.laws.payload_laws.Goals as goal

pub returns : goal.returns
returns c = record { one = one_chain; once = chain_distinct; sound = sound; owned = section_in_all }

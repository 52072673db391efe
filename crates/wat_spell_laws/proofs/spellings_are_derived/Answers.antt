use Rattle.wat_spell_laws.proofs.Derives.{spelled_derives}
use Rattle.wat_spell_laws.proofs.spellings_are_derived.Goals as goal

pub returns : goal.returns
returns c = λ x f. spelled_derives x f

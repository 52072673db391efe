use Rattle.wat_tied.proofs.Begun.{begun_tied}
use Rattle.wat_tied.proofs.laws.begun_law.Goals as goal

pub returns : goal.returns
returns g e after c tied free span more first written read x checked stepped same = begun_tied e after c tied free span more first written read x checked stepped same

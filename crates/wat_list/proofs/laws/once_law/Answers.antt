use Rattle.wat_list.proofs.Once.{same_members}
use Rattle.wat_list.proofs.laws.once_law.Goals as goal

pub returns : goal.returns
returns g c xs ys a b same = same_members xs ys a b (λ x. (same x).0) (λ x. (same x).1)

use Rattle.std.proofs.Common.{ℕ, ◌*◌, ap}
use Rattle.wat_images.proofs.Writing.{read_page}
use Rattle.wat_images.proofs.main_file.read_main.Goals as goal

pub returns-in-Ok-clause-read : goal.returns-in-Ok-clause-read
returns-in-Ok-clause-read g c tells =
    read_page ((g.D.Disk.told c.args.disk.now).content 0) c.read.new.into c.args.page _ _ (ap (λ (n : ℕ). 4096 * n) c.from.ensures) c.requires (c.in-Ok.ensures.within tells) (c.in-Ok.ensures.read tells)

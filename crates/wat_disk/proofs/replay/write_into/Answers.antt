use Rattle.std.proofs.Common.{ℕ, List, ◌∙◌, ap, sym}
use Rattle.wat_disk.specs.Bytes.{written}
use Rattle.wat_disk.specs.Memory.{bytes_at}
use Rattle.wat_disk.proofs.Record.{bytes_at-read, bytes_at-set}
use Rattle.wat_disk.proofs.replay.write_into.Goals as goal

pub returns-clause-files : goal.returns-clause-files
returns-clause-files c =
    let files = c.args.files.now.items in
    let was = bytes_at-read files c.args.file c.index_mut.result.now c.requires.file c.index_mut.ensures.value in
    bytes_at-set files c.args.file c.write_growing.new.held (λ f. written (bytes_at files f) c.args.at c.args.bytes.now) c.requires.file
    (c.in_ok-write_growing.ensures ∙ ap (λ (l : List ℕ). written l c.args.at c.args.bytes.now) (sym was))

use Rattle.std.proofs.Common.{ℕ, List, ◌∙◌, ap, sym}
use Rattle.wat_disk.specs.Bytes.{written}
use Rattle.wat_disk.specs.Memory.{bytes_at}
use Rattle.wat_disk.proofs.Record.{bytes_at-read, bytes_at-set}
use Rattle.wat_disk.proofs.Room.{write_fits, room_after}
use Rattle.wat_disk.proofs.memory.write_file.Goals as goal

pub overwrite-requires : goal.overwrite-requires
overwrite-requires c =
    write_fits c.args.files.now.items c.args.file c.index_mut.result.now c.requires.file c.index_mut.ensures.value c.args.spare c.requires.room c.args.at c.args.bytes.now c.requires.fits

pub returns-clause-files : goal.returns-clause-files
returns-clause-files c =
    let files = c.args.files.now.items in
    let was = bytes_at-read files c.args.file c.index_mut.result.now c.requires.file c.index_mut.ensures.value in
    bytes_at-set files c.args.file c.overwrite.new.held (λ f. written (bytes_at files f) c.args.at c.args.bytes.now) c.requires.file
    (c.overwrite.ensures.written ∙ ap (λ (l : List ℕ). written l c.args.at c.args.bytes.now) (sym was))

pub returns-clause-room : goal.returns-clause-room
returns-clause-room c =
    room_after c.args.files.now.items c.args.file c.index_mut.result.now c.requires.file c.index_mut.ensures.value c.args.spare c.requires.room c.args.at c.args.bytes.now c.requires.fits
    c.overwrite.new.held c.overwrite.ensures.written c.overwrite.ensures.capacity

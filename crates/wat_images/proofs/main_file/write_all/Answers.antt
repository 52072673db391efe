use Rattle.std.proofs.Common.{◌++◌, ◌∷◌, [], ℕ, List, refl, sym, ◌∙◌, ap}
use Rattle.std.specs.Map.{keys_of}
use Rattle.wat_disk.specs.Bytes.{written}
use Rattle.wat_disk.proofs.Stops.{goes_on_same}
use Rattle.wat_restore.specs.Restored.{KeepsPagesBut}
use Rattle.wat_images.proofs.Writing.{one_write, more_change, laid-append}
use Rattle.wat_images.proofs.main_file.write_all.Goals as goal

pub returns-in_err-write_pages-clause-stops : goal.returns-in_err-write_pages-clause-stops
returns-in_err-write_pages-clause-stops g c = more_change _ _ (keys_of c.args.pages.now.entries) (0 ∷ []) c.write_pages.ensures.stops

pub returns-in_err-write_main-clause-stops : goal.returns-in_err-write_main-clause-stops
returns-in_err-write_main-clause-stops g c =
    let keys = keys_of c.args.pages.now.entries in
    one_write _ _ _ (keys ++ 0 ∷ []) keys [] 0 _ _ refl refl c.write_main.ensures.long (more_change _ _ keys (0 ∷ []) c.write_pages.ensures.stops) c.write_main.ensures.stops

pub returns-in-Ok-clause-written : goal.returns-in-Ok-clause-written
returns-in-Ok-clause-written g c tells =
    c.sync.ensures.content 0 ∙ c.in_ok-write_main.ensures.written tells ∙ ap (λ (main : List ℕ). written main 0 c.args.header.now) (c.in_ok-write_pages.ensures.written tells)
    ∙ sym (laid-append ((g.D.Disk.told c.args.disk.now).content 0) c.args.pages.now.entries ((0, c.args.header.now) ∷ []))

pub returns-in-Ok-clause-stops : goal.returns-in-Ok-clause-stops
returns-in-Ok-clause-stops g c =
    let keys = keys_of c.args.pages.now.entries in
    goes_on_same 0 _ _ _ (KeepsPagesBut (keys ++ 0 ∷ []))
    (one_write _ _ _ (keys ++ 0 ∷ []) keys [] 0 _ _ refl refl c.write_main.ensures.long (more_change _ _ keys (0 ∷ []) c.write_pages.ensures.stops) c.write_main.ensures.stops) c.sync.ensures.stops

pub returns-in-Err-clause-stops : goal.returns-in-Err-clause-stops
returns-in-Err-clause-stops g c =
    let keys = keys_of c.args.pages.now.entries in
    goes_on_same 0 _ _ _ (KeepsPagesBut (keys ++ 0 ∷ []))
    (one_write _ _ _ (keys ++ 0 ∷ []) keys [] 0 _ _ refl refl c.write_main.ensures.long (more_change _ _ keys (0 ∷ []) c.write_pages.ensures.stops) c.write_main.ensures.stops) c.sync.ensures.stops

-- The gate of the before file comes last.
use Rattle.std.proofs.Common.{List, ℕ, ap, subst, ◌∙◌, length, arith}
use Rattle.wat_create.specs.Made.{HasContent}
use Rattle.wat_create.proofs.New.{long_main}
use Rattle.wat_create.proofs.Unmade.{content_stops, files_stops, others_stops}
use Rattle.wat_create.proofs.writing.write_files.Goals as goal

pub write_content-requires : goal.write_content-requires
write_content-requires g c = ap length c.requires.main ∙ long_main c.args.limit

pub returns-in_err-write_content-clause-stops : goal.returns-in_err-write_content-clause-stops
returns-in_err-write_content-clause-stops g c tells synced = content_stops c.args.limit _ _ (c.requires.empty tells 1 (omega arith)) synced c.write_content.ensures.stops

pub returns-in_err-write_synced-clause-other_stops : goal.returns-in_err-write_synced-clause-other_stops
returns-in_err-write_synced-clause-other_stops g c = others_stops _ _ _ c.write_content.ensures.stops c.write_synced.ensures.stops

pub returns-in_err-write_synced-clause-stops : goal.returns-in_err-write_synced-clause-stops
returns-in_err-write_synced-clause-stops g c tells synced =
    files_stops c.args.limit _ _ (c.requires.empty tells 1 (omega arith)) synced c.write_content.ensures.stops c.ranges.limit.fits _ c.write_content.ensures.kept
    (subst (λ (main : List ℕ). HasContent main (g.D.Disk.told c.write_content.new.disk).content) c.requires.main (c.in_ok-write_content.ensures.content tells (c.requires.empty tells)))
    c.in_ok-write_content.ensures.main c.in_ok-write_content.ensures.log c.write_synced.ensures.stops

pub returns-clause-other_stops : goal.returns-clause-other_stops
returns-clause-other_stops g c = others_stops _ _ _ c.write_content.ensures.stops c.write_synced.ensures.stops

pub returns-clause-stops : goal.returns-clause-stops
returns-clause-stops g c tells synced =
    files_stops c.args.limit _ _ (c.requires.empty tells 1 (omega arith)) synced c.write_content.ensures.stops c.ranges.limit.fits _ c.write_content.ensures.kept
    (subst (λ (main : List ℕ). HasContent main (g.D.Disk.told c.write_content.new.disk).content) c.requires.main (c.in_ok-write_content.ensures.content tells (c.requires.empty tells)))
    c.in_ok-write_content.ensures.main c.in_ok-write_content.ensures.log c.write_synced.ensures.stops

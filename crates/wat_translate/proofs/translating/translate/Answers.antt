use Rattle.std.proofs.Common.{◌∙◌, ap}
use Rattle.wat_disk.proofs.Stops.{both_same}
use Rattle.wat_translate.proofs.Frames.{fails_so}
use Rattle.wat_translate.proofs.translating.translate.Goals as goal

pub returns-in-Err-open-clause-stops : goal.returns-in-Err-open-clause-stops
returns-in-Err-open-clause-stops g c = both_same _ _ _ c.are_empty.ensures.stops c.open.ensures.stops

pub returns-in-Ok-tell_frames-clause-stops : goal.returns-in-Ok-tell_frames-clause-stops
returns-in-Ok-tell_frames-clause-stops g c = both_same _ _ _ (both_same _ _ _ c.are_empty.ensures.stops c.open.ensures.stops) c.tell_frames.ensures.stops

pub returns-in-Err-tell_frames-clause-named : goal.returns-in-Err-tell_frames-clause-named
returns-in-Err-tell_frames-clause-named g c tells =
    fails_so c.in-Err-tell_frames.refusal _ _ _ (ap (g.D.Disk.told c.open.new.disk).content c.in-Ok.ensures.file ∙ (c.open.ensures.content 2 ∙ c.are_empty.ensures.content 2)) (c.in-Err-tell_frames.ensures.named tells)

pub returns-in-Err-tell_frames-clause-stops : goal.returns-in-Err-tell_frames-clause-stops
returns-in-Err-tell_frames-clause-stops g c = both_same _ _ _ (both_same _ _ _ c.are_empty.ensures.stops c.open.ensures.stops) c.tell_frames.ensures.stops

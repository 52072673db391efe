use Rattle.std.proofs.Common.{◌≡◌, ◌+◌, ◌<◌, ◌++◌, ℕ, true, false, List, [], length, get_or, sym, ap, ◌∙◌, subst, arith}
use Rattle.wat_gate.specs.Bodies.{bodies}
use Rattle.wat_gate.specs.GateLog.{file_of}
use Rattle.wat_translate.specs.Reading.{HasRead}
use Rattle.wat_translate.proofs.Frames.{frame_more, bad_frame, body_as, names_at}
use Rattle.wat_translate.proofs.reading.tell_frame.Goals as goal

pub returns-in-Ok-true-clause-told : goal.returns-in-Ok-true-clause-told
returns-in-Ok-true-clause-told g c tells =
    let content = (g.D.Disk.told c.args.disk.now).content (file_of c.args.log.now) in
    let gate = c.args.place.gate in
    let there : gate < length (bodies content) = omega (arith, (c.requires.known tells).frames, c.requires.frame) in
    let body = c.deref.ensures.value ∙ c.in-Ok.ensures.body tells ∙ ap (λ (l : List ℕ). l ++ get_or (bodies content) gate []) c.clear.ensures.items in
    let h = c.requires.so_far tells in
    let t = body_as c.tell_body.new.reader c.tell_body.new.text.items h.entries c.deref.result.now h.state c.in-Ok-true.field-0 true c.in-Ok-true.field-0-test (c.in-Ok-true.ensures h.entries h.state h.told) in
    let told = frame_more content gate c.args.reader.now c.tell_body.new.reader c.args.text.now.items c.tell_body.new.text.items c.deref.result.now h there body t.0 t.1 t.2 in
    subst (λ (n : ℕ). HasRead ((g.D.Disk.told c.frame_at.new.disk).content (file_of c.args.log.now)) n c.tell_body.new.reader c.tell_body.new.text.items) (sym c.in-Ok.ensures.one_more)
    (subst (λ (l : List ℕ). HasRead l (gate + 1) c.tell_body.new.reader c.tell_body.new.text.items) (sym (c.frame_at.ensures.content (file_of c.args.log.now))) told)

pub returns-in-Ok-false-clause-named : goal.returns-in-Ok-false-clause-named
returns-in-Ok-false-clause-named g c tells =
    let content = (g.D.Disk.told c.args.disk.now).content (file_of c.args.log.now) in
    let gate = c.args.place.gate in
    let there : gate < length (bodies content) = omega (arith, (c.requires.known tells).frames, c.requires.frame) in
    let body = c.deref.ensures.value ∙ c.in-Ok.ensures.body tells ∙ ap (λ (l : List ℕ). l ++ get_or (bodies content) gate []) c.clear.ensures.items in
    let h = c.requires.so_far tells in
    let none = body_as c.tell_body.new.reader c.tell_body.new.text.items h.entries c.deref.result.now h.state c.in-Ok-false.field-0 false c.in-Ok-false.field-0-test (c.in-Ok-false.ensures h.entries h.state h.told) in
    names_at c.damaged.result c.args.place.at content c.damaged.ensures.named
    (bad_frame content gate c.args.place.at c.args.reader.now c.args.text.now.items c.deref.result.now h (c.requires.known tells).whole (c.requires.place tells) there body none)

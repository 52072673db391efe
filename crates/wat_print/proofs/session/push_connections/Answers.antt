use Rattle.std.proofs.Common.{◌∷◌, ◌++◌, ◌+◌, ◌<◌, arith, sym, ap, ◌∙◌, drop, length, append_assoc}
use Rattle.std.specs.List.{flat_map, enumerate_from}
use Rattle.std.proofs.lemmas.List.{drop_more}
use Rattle.wat_print.specs.Printed.{connection_text}
use Rattle.wat_print.proofs.session.push_connections.Goals as goal

pub loop-i-preserved : goal.loop-i-preserved
loop-i-preserved c =
    let ts = c.args.transcripts.now in
    let i = c.loop-i.i in
    let t = c.index-transcripts-i.result in
    let within : i < length ts = omega arith in
    let rest = drop_more ts i t within ∙ ap (λ y. y ∷ drop (i + 1) ts) (sym c.index-transcripts-i.is) in
    let before = rw rest at c.loop-i.invariant in
    let more = flat_map (connection_text c.args.names.now) (enumerate_from (i + 1 + 1) (drop (i + 1) ts)) in
    ap (λ out. out ++ more) c.in_ok-push_connection.ensures ∙ append_assoc c.loop-i.out.items (connection_text c.args.names.now (i + 1, t)) more ∙ before

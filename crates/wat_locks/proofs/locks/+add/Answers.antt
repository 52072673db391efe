use Rattle.std.proofs.Common.{◌≡◌, ◌∙◌, ◌<◌, ◌+◌, arith, sym, ap, subst, length, drop, List, ◌∷◌}
use Rattle.std.proofs.lemmas.List.{drop_more}
use Rattle.wat_list.specs.Has.{Has}
use Rattle.wat_locks.specs.declared.want.Want.{Want}
use Rattle.wat_locks.specs.Held.{Adds, entry}
use Rattle.wat_locks.specs.Tables.{all_held, FreesIf}
use Rattle.wat_locks.proofs.AskLemmas.{adds_more, undone, to_take_back}
use Rattle.wat_locks.proofs.PlaceLemmas.{same_read}
use Rattle.wat_locks.proofs.locks.+add.Goals as goal

pub take_back-requires-clause-there : goal.take_back-requires-clause-there
take_back-requires-clause-there t c =
    let within : c.args.i < length c.args.wants.now = omega arith in
    let same : c.index-wants-i.result ≡ c.index-wants-i-in-Err.result = same_read c.args.wants.now c.args.i c.index-wants-i.result c.index-wants-i-in-Err.result within c.index-wants-i.is c.index-wants-i-in-Err.is in
    λ fresh. subst (λ (w : Want). Has (entry c.args.conn w) (all_held c.add.new.tables.items)) same
    (to_take_back (all_held c.args.tables.now.items) (all_held c.put.new.tables.items) (all_held c.add.new.tables.items) (entry c.args.conn c.index-wants-i.result) c.in_ok-fresh.fresh c.in_ok-fresh.ensures.ok c.in-Err.ensures.err fresh)

pub returns-in-Ok-clause-ok : goal.returns-in-Ok-clause-ok
returns-in-Ok-clause-ok t c =
    let wants = c.args.wants.now in
    let within : c.args.i < length wants = omega arith in
    let front : drop c.args.i wants ≡ c.index-wants-i.result ∷ drop (c.args.i + 1) wants = drop_more wants c.args.i c.index-wants-i.result within ∙ ap (λ (w : Want). w ∷ drop (c.args.i + 1) wants) (sym c.index-wants-i.is) in
    subst (λ (ws : List Want). Adds (all_held c.args.tables.now.items) (all_held c.add.new.tables.items) c.args.conn ws) (sym front)
    (adds_more (all_held c.args.tables.now.items) (all_held c.put.new.tables.items) (all_held c.add.new.tables.items) c.args.conn c.index-wants-i.result (drop (c.args.i + 1) wants) c.in_ok-fresh.fresh c.in_ok-fresh.ensures.ok c.in-Ok.ensures.ok)

pub returns-in-Err-clause-err : goal.returns-in-Err-clause-err
returns-in-Err-clause-err t c =
    let within : c.args.i < length c.args.wants.now = omega arith in
    let same : c.index-wants-i.result ≡ c.index-wants-i-in-Err.result = same_read c.args.wants.now c.args.i c.index-wants-i.result c.index-wants-i-in-Err.result within c.index-wants-i.is c.index-wants-i-in-Err.is in
    undone (all_held c.args.tables.now.items) (all_held c.put.new.tables.items) (all_held c.add.new.tables.items) (all_held c.take_back.new.tables.items) (entry c.args.conn c.index-wants-i.result) c.in_ok-fresh.fresh c.in_ok-fresh.ensures.ok c.in-Err.ensures.err
    (subst (λ (w : Want). FreesIf c.in_ok-fresh.fresh (all_held c.add.new.tables.items) (all_held c.take_back.new.tables.items) (entry c.args.conn w)) (sym same) c.take_back.ensures.frees)

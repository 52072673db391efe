use Rattle.std.proofs.Common.{◌++◌, ◌∷◌, [], subst}
use Rattle.wat_schema.specs.Tables.{apply_change}
use Rattle.wat_replay.specs.State.{with_list}
use Rattle.wat_recover.proofs.Stepping.{known, some_from, changed_so}
use Rattle.wat_recover.proofs.applying.make_change.Goals as goal

pub returns-clause-answers : goal.returns-clause-answers
returns-clause-answers g c s holds lawful =
    let conn = c.args.conn in
    let change = c.args.change.now in
    let may = (c.in_ok-may_change.ensures.may s holds lawful).0 c.if-not-branch.false in
    let t = some_from (apply_change change s.tables) may.0 in
    let made = c.in_ok-make.ensures.made s t.0 (c.in_ok-may_change.ensures.stays s holds) t.1 in
    let pushed = c.in_ok-push.ensures.pushed (record { tables = t.0; lists = s.lists }) made in (
      record { tables = t.0; lists = with_list conn (s.lists conn ++ change ∷ []) s.lists },
      changed_so s conn change t.0 (known conn c.ranges.conn.fits) may.1 t.1,
      subst (λ k. g.T.Target.stands_for c.push.new.self (record { tables = t.0; lists = with_list conn (s.lists conn ++ k ∷ []) s.lists })) c.in_ok-kept.ensures pushed,
    )

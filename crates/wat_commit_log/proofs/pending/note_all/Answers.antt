use Rattle.std.proofs.Common.{◌≡◌, ◌+◌, ◌++◌, ◌∷◌, [], ℕ, List, Some, None, get_or, map, take, sym, ◌∙◌, ap, subst}
use Rattle.std.specs.List.{AllByRecursion}
use Rattle.wat_value.specs.declared.change.Change.{Change}
use Rattle.wat_value.specs.declared.change.Act.TheVariants.{OnRow}
use Rattle.wat_log_record.specs.Encoding.{record_bytes, IsEncodableRecord}
use Rattle.wat_commit_log.specs.Logged.{changed}
use Rattle.wat_commit_log.specs.Pending.{change_in, changes_bytes, changes_in}
use Rattle.wat_commit_log.proofs.PendingLemmas.{changes_bytes-push, encodable-append, row_more, schema_more}
use Rattle.wat_commit_log.proofs.pending.note_all.Goals as goal
use Rattle.wat_commit_log.proofs.pending.note_all.Goals.{in-OnRow+in_ok-note-in-OnRow, in-OnSchema}

pub loop-act-preserved : goal.loop-act-preserved
loop-act-preserved c =
    let acts = c.args.acts.now in
    let i = c.loop-act.act-index in
    let act = c.act-item.result in
    let so_far = changes_in (take i acts) in
    let inv = c.loop-act.invariant in
    elim c.match-act.branch [
      | in-OnRow+in_ok-note-in-OnRow w ↦
          let change = w.in-OnRow.change in
          let more : changes_in (take (i + 1) acts) ≡ so_far ++ change ∷ [] = row_more acts i act change c.loop-act-test.true (sym c.act-item.is ∙ w.in-OnRow.is) in
          record {
            changes = ap (λ v. v.items) w.changes-is ∙ w.in_ok-note-in-OnRow.ensures.change ∙ ap (λ (l : List Change). l ++ change ∷ []) inv.changes ∙ sym more;
            bytes = ap (λ v. v.items) w.bytes-is ∙ w.in_ok-note-in-OnRow.ensures.bytes ∙ ap (λ (l : List ℕ). l ++ record_bytes (changed change)) inv.bytes
                ∙ sym (changes_bytes-push so_far change) ∙ ap changes_bytes (sym more);
            encodable = subst (λ (l : List Change). AllByRecursion IsEncodableRecord (map changed l)) (sym more)
                (encodable-append so_far (change ∷ []) inv.encodable (w.in_ok-note-in-OnRow.ensures.encodable, tt));
          }
      | in-OnSchema w ↦
          let same : changes_in (take (i + 1) acts) ≡ so_far = schema_more acts i act c.loop-act-test.true (ap change_in (sym c.act-item.is ∙ w.in-OnSchema.is)) in
          record {
            changes = ap (λ v. v.items) w.changes-is ∙ inv.changes ∙ sym same;
            bytes = ap (λ v. v.items) w.bytes-is ∙ inv.bytes ∙ ap changes_bytes (sym same);
            encodable = subst (λ (l : List Change). AllByRecursion IsEncodableRecord (map changed l)) (sym same) inv.encodable;
          }
    ]

use Rattle.std.proofs.Common.{◌≡◌, ◌+◌, ◌∷◌, ◌||◌, true, false, List, Some, drop, sym, ap, subst, ◌∙◌}
use Rattle.std.specs.BTreeSet.{insert_key}
use Rattle.std.proofs.lemmas.Bool.{or_from, or_left, or_right}
use Rattle.std.proofs.lemmas.List.{at_drop_more}
use Rattle.wat_value.specs.declared.definition.TableDef.{TableDef}
use Rattle.wat_value.specs.Fits.{fits, key_of}
use Rattle.wat_value.specs.Order.{key_cmp}
use Rattle.wat_schema.specs.declared.refusal.Refusal.TheVariants.{Duplicate}
use Rattle.wat_schema.specs.Tables.{Row, has_key}
use Rattle.wat_serial.proofs.Inserted.{IsSoFar, is_seen, none_more, one_more, refused_here, with_it}
use Rattle.wat_serial.proofs.duplicates.first_duplicate.Goals as goal
use Rattle.wat_serial.proofs.duplicates.first_duplicate.Goals.{then-has_key-via-then-has_key, then-has_key-via-else-has_key+then-contains, then-fits+in_ok-insert, else-fits}

pub returns-then-has_key : goal.returns-then-has_key
returns-then-has_key c =
    let x = c.args.table.now in
    let rows = c.args.rows.now in
    let row = c.row-item.result in
    let seen = c.loop-row.seen.keys in
    let rest : List Row = drop (c.loop-row.row-index + 1) rows in
    let here : drop c.loop-row.row-index rows ≡ row ∷ rest = at_drop_more (λ r. r) rows c.loop-row.row-index row c.loop-row-test.true ∙ ap (λ r. r ∷ rest) (sym c.row-item.is) in
    let so_far = subst (λ r. IsSoFar x c.loop-row.invariant.0 seen r rows) here c.loop-row.invariant.1 in
    let key : c.in_ok-key.key ≡ key_of x.def row = c.in_ok-key.ensures ∙ ap (λ (d : TableDef). key_of d row) c.def-def.ensures in
    ap (λ k. Some (Duplicate k)) key ∙ refused_here x c.loop-row.invariant.0 seen row rest rows so_far (elim c.then-has_key.branch [
      | then-has_key-via-then-has_key w ↦ or_left (has_key x (key_of x.def row)) (is_seen (key_of x.def row) seen) (ap (has_key x) (sym key) ∙ sym c.has_key.ensures ∙ w.if-has_key.true)
      | then-has_key-via-else-has_key+then-contains w ↦ or_right (has_key x (key_of x.def row)) (is_seen (key_of x.def row) seen) (ap (λ k. is_seen k seen) (sym key) ∙ sym w.contains.ensures ∙ w.if-contains.true)
    ])

pub loop-row-preserved : goal.loop-row-preserved
loop-row-preserved c =
    let x = c.args.table.now in
    let rows = c.args.rows.now in
    let row = c.row-item.result in
    let y = c.loop-row.invariant.0 in
    let seen = c.loop-row.seen.keys in
    let rest : List Row = drop (c.loop-row.row-index + 1) rows in
    let here : drop c.loop-row.row-index rows ≡ row ∷ rest = at_drop_more (λ r. r) rows c.loop-row.row-index row c.loop-row-test.true ∙ ap (λ r. r ∷ rest) (sym c.row-item.is) in
    let so_far = subst (λ r. IsSoFar x y seen r rows) here c.loop-row.invariant.1 in
    let key : c.in_ok-key.key ≡ key_of x.def row = c.in_ok-key.ensures ∙ ap (λ (d : TableDef). key_of d row) c.def-def.ensures in
    let new : (has_key x (key_of x.def row) || is_seen (key_of x.def row) seen) ≡ false =
    or_from (has_key x (key_of x.def row)) (is_seen (key_of x.def row) seen) (ap (has_key x) (sym key) ∙ sym c.has_key.ensures ∙ c.if-has_key.false)
    (ap (λ k. is_seen k seen) (sym key) ∙ sym c.contains.ensures ∙ c.if-contains.false) in
    elim c.if-fits.branch [
      | then-fits+in_ok-insert w ↦
          let fit : fits x.def row ≡ true = ap (λ (d : TableDef). fits d row) (sym c.def-def.ensures) ∙ sym c.fits.ensures ∙ w.if-fits.true in
          let keys : c.if-fits.seen.keys ≡ insert_key key_cmp seen (key_of x.def row) = ap (λ s. s.keys) w.seen-is ∙ w.in_ok-insert.ensures.keys ∙ ap (insert_key key_cmp seen) key in
          (with_it y row, subst (λ ks. IsSoFar x (with_it y row) ks rest rows) (sym keys) (one_more x y seen row rest rows so_far new fit))
      | else-fits w ↦
          let unfit : fits x.def row ≡ false = ap (λ (d : TableDef). fits d row) (sym c.def-def.ensures) ∙ sym c.fits.ensures ∙ w.if-fits.false in
          let keys : c.if-fits.seen.keys ≡ seen = ap (λ s. s.keys) w.seen-is in
          (y, subst (λ ks. IsSoFar x y ks rest rows) (sym keys) (none_more x y seen row rest rows so_far new unfit))
    ]

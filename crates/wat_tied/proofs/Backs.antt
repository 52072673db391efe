-- ROLLBACK TO SAVEPOINT leaves the core tied.
use Rattle.std.proofs.Common.{◌≡◌, ℕ, List, [], ◌∷◌, ◌++◌, map, reverse, take, drop, unwrap_or, true, Option, Some, None, Ok, refl, sym, ap, ◌∙◌, subst, inl, inr, ⊎_elim}
use Rattle.std.specs.Option.{option_and_then}
use Rattle.std.proofs.lemmas.List.{reverse-append, append-nil, append_assoc, take-append-drop}
use Rattle.wat_list.specs.Has.{Has}
use Rattle.wat_list.proofs.Members.{has_left}
use Rattle.wat_value.specs.declared.change.Change.{Change}
use Rattle.wat_value.specs.declared.change.Act.{Act}
use Rattle.wat_value.specs.declared.change.Act.TheVariants.{OnRow}
use Rattle.wat_value.specs.Changes.{RowName, row_before, row_after}
use Rattle.wat_parse.specs.declared.script.Span.{Span}
use Rattle.wat_schema.specs.Catalog.{Catalog, Name}
use Rattle.wat_schema.specs.Tables.{Row, Tables, inverse, apply_all}
use Rattle.wat_isolation.specs.Rows.{set_row}
use Rattle.wat_isolation.specs.Logs.{Item, Item.Did, Alone, view}
use Rattle.wat_isolation.specs.Machine as law
use Rattle.wat_isolation.specs.Naming.{scheme_of}
use Rattle.wat_isolation.specs.Sql.{sql}
use Rattle.wat_isolation.proofs.Statements.{alone_parts}
use Rattle.wat_meaning.specs.declared.reply.Reply.{Reply as Meant}
use Rattle.wat_conn.specs.declared.answer.Answer.{Answer}
use Rattle.wat_conn.specs.declared.answer.Answer.TheVariants.{Given}
use Rattle.wat_conn.specs.declared.answer.Reply.TheVariants as reply
use Rattle.wat_ast.specs.declared.statement.Statement.{Statement}
use Rattle.wat_parse.specs.Parsing.{parsed_at}
use Rattle.wat_history.specs.Connection.{opens}
use Rattle.wat_history.specs.Serial.{Serial}
use Rattle.wat_scans.specs.Look.{IsOf}
use Rattle.wat_scans.specs.Running.{row_changed}
use Rattle.wat_scans.proofs.Applied.{AppliedOne, apply_one}
use Rattle.wat_steps.specs.State.{OpenTransaction, ConnectionState, CoreState, schema_of}
use Rattle.wat_steps.specs.Changing.{undone}
use Rattle.wat_steps.specs.Answering.{no_changes, answered, transaction_of, with_transaction}
use Rattle.wat_steps.specs.Statements.{cut_to, undoing, back_to}
use Rattle.wat_tied.specs.Tied.{IsFormed, AreStanding, RecordedPart, IsDetermined, items_in, parts_in, stood_in, standing_in, made_in, Ghost, Ties, IsTied}
use Rattle.wat_tied.proofs.Answered.{done, done_here, done_there, answered_relates, part_of}
use Rattle.wat_tied.proofs.Begun.{here}
use Rattle.wat_tied.proofs.Entered.{no_work}
use Rattle.wat_tied.proofs.Granted.{there}
use Rattle.wat_tied.proofs.Keys as keys
use Rattle.wat_tied.proofs.Renewed.{rows_stay, renewed, renewal, has_work}
use Rattle.wat_tied.proofs.Telling.{told_next, no_commit, told_joins}
use Rattle.wat_tied.proofs.Undone.{undo_items, IsUndone, undo_all}

abbrev back_act : Change → Act
back_act change = OnRow (inverse change)

-- the tables after the inverses of these changes
record IsMadeBack (c : Catalog) (f : RowName → Option Row) (t : Tables) (changes : List Change) : Type 0 where
  after : Tables
  applies : apply_all (map back_act changes) t ≡ Some after
  is : IsOf c f after

-- the inverses of changes that stand make what was recorded of their undoing
undo_makes : (c : Catalog) (f : RowName → Option Row) (changes : List Change) → ((ch : Change) → Has ch changes → IsFormed c ch) → (base : List (Item sql)) (t : Tables)
    → Alone sql (scheme_of c) f (undo_items c changes ++ base) → IsOf c (view sql f base) t → IsMadeBack c (view sql f (undo_items c changes ++ base)) t changes
undo_makes c f [] formed base t alone is = record { after = t; applies = refl; is = is }
undo_makes c f (ch ∷ changes) formed base t alone is =
    let k : IsFormed c ch = formed ch (inl refl) in
    let q : RowName = row_changed c ch in
    let item : Item sql = Did q (row_after ch) (row_before ch) in
    let list_is : undo_items c (ch ∷ changes) ++ base ≡ undo_items c changes ++ (item ∷ base) = append_assoc (undo_items c changes) (item ∷ []) base in
    let there : Alone sql (scheme_of c) f (undo_items c changes ++ (item ∷ base)) = subst (Alone sql (scheme_of c) f) list_is alone in
    let one = (alone_parts sql (scheme_of c) f (undo_items c changes) (item ∷ base) there).0 in
    let name : row_changed c (inverse ch) ≡ q = keys.row_back c ch k in
    let a : AppliedOne c (view sql f base) t (inverse ch) = apply_one c (view sql f base) t is (inverse ch) k.before (ap (view sql f base) name ∙ (one.1 ∙ sym (keys.before_back ch))) in
    let after : IsOf c (view sql f (item ∷ base)) a.after = subst (λ z. IsOf c z a.after) (λ j. set_row sql (view sql f base) (name j) ((keys.after_back ch) j)) a.is in
    let r = undo_makes c f changes (λ x has. formed x (inr has)) (item ∷ base) a.after there after in
    record { after = r.after; applies = ap (option_and_then (apply_all (map back_act changes))) a.applies ∙ r.applies; is = subst (λ z. IsOf c (view sql f z) r.after) (sym list_is) r.is }

module _ (e : CoreState) (g : Ghost) (ties : Ties e g) (c : ℕ) (going : e.stop ≡ None) (resting : (e.connections c).work ≡ None) (span : Span) (more : List Span) (first : (e.connections c).left ≡ span ∷ more)
    (save : Name × ℕ) (earlier : List (Name × ℕ)) (written : Statement) (read : parsed_at (e.connections c).script span ≡ Ok written) (opening : opens written ≡ true) where
  abbrev cat : Catalog
  cat = schema_of e

  abbrev n : ℕ
  n = save.1

  abbrev standing : List Change
  standing = (transaction_of c e).standing

  abbrev gone : List Change
  gone = reverse (drop n standing)

  abbrev acts : List Act
  acts = undoing n (transaction_of c e)

  abbrev then_open : OpenTransaction
  then_open = cut_to n (save ∷ earlier) (transaction_of c e)

  abbrev before : ConnectionState
  before = record (e.connections c) { transaction = Some then_open }

  abbrev answer : Answer
  answer = Given reply.BackToSavepoint

  abbrev k : ConnectionState
  k = done span more before answer acts

  abbrev u : CoreState
  u = undone c (drop n standing) e

  abbrev mid : CoreState
  mid = with_transaction c then_open u

  abbrev recorded : RecordedPart
  recorded = record { part = part_of before span answer acts; items = undo_items cat gone }

  stood_is : (o : Option OpenTransaction) → stood_in o ≡ (unwrap_or o no_changes).standing
  stood_is None = refl
  stood_is (Some o) = refl

  all_is : standing_in (e.connections c).transaction (e.connections c).work ≡ gone ++ reverse (take n standing)
  all_is =
      (λ j. reverse (stood_is (e.connections c).transaction j ++ made_in (resting j)))
      ∙ (ap reverse (append-nil standing ∙ sym (take-append-drop n standing)) ∙ reverse-append (take n standing) (drop n standing))

  all : AreStanding cat (gone ++ reverse (take n standing)) (g.state.conns c).standing
  all = subst (λ z. AreStanding cat z (g.state.conns c).standing) all_is (ties.standing c)

  determined : ((ch : Change) → Has ch gone → IsFormed cat ch) → IsDetermined cat recorded
  determined formed = record {
    means = λ f t is alone x r read has serial said. absurd (let no : ◌≡◌ {A = Option Meant} None (Some r) = said in cc);
    effect = λ f t is alone.
        let m = undo_makes cat f gone formed [] t (subst (Alone sql (scheme_of cat) f) (sym (append-nil (undo_items cat gone))) alone) is in
        (m.after, m.applies, subst (λ z. IsOf cat (view sql f z) m.after) (append-nil (undo_items cat gone)) m.is);
  }

  finish : (t : law.State sql) → IsUndone e u g.state t c gone (reverse (take n standing)) → IsTied (answered c mid answer acts)
  finish t b =
      let connections : u.connections ≡ e.connections = sym (ap (λ (z : CoreState). z.connections) b.others_same) in
      record {
        ghost = renewal g c t (recorded ∷ g.entries c) [] g.history;
        ties = renewed e (answered c mid answer acts) g ties c t k (recorded ∷ g.entries c) [] g.history (record {
          kept = b.kept;
          relates = answered_relates c mid t answer acts (record { scheme = b.relates.scheme; now = b.relates.now; base = b.relates.base; locks = b.relates.locks; vacant = b.relates.vacant });
          same = b.same;
          stop = sym (ap (λ (z : CoreState). z.stop) b.others_same);
          count = sym (ap (λ (z : CoreState). z.count) b.others_same);
          outside = λ out. absurd (has_work e g ties c span more first out);
          here = done_here c mid before span more answer acts (here u c (record (u.connections c) { transaction = Some then_open }) ∙ ap (λ (f : ℕ → ConnectionState). record (f c) { transaction = Some then_open }) connections) first;
          there = λ d ne. done_there c d mid answer acts ne ∙ (there u c (record (u.connections c) { transaction = Some then_open }) d ne ∙ ap (λ (f : ℕ → ConnectionState). f d) connections);
          others = b.others;
          rows = λ d ne. rows_stay g.state t ties.kept b.kept b.base d (b.others d ne);
          log = b.log ∙ ap (λ z. undo_items cat gone ++ z) (ties.log c ∙ ap (λ z. z ++ items_in (g.entries c)) (no_work e g ties c going resting));
          standing = subst (λ z. AreStanding cat z (t.conns c).standing) (ap reverse (sym (append-nil (take n standing)))) b.standing;
          idle = tt;
          works = λ on. refl;
          meets = λ on. tt;
          parts = λ p m. ⊎_elim (λ (h : recorded ≡ p). subst (IsDetermined cat) h (determined (λ ch has. all.formed ch (has_left ch gone (reverse (take n standing)) has)))) (λ (h : Has p (g.entries c)). ties.parts c p h) m;
          serial = subst (λ (z : CoreState). Serial 3 z.base g.history z.committed) b.others_same ties.serial;
          told = told_joins (e.connections c) k span answer acts refl refl more first (parts_in (g.entries c)) (ties.told c) refl written read refl refl (inl opening) refl;
          based = sym (ap (λ (z : CoreState). z.base) b.others_same);
          adds = inr (recorded.part, told_next (e.connections c) k span answer acts refl refl, λ low. tt);
          commits = inl (no_commit (e.connections c) k span answer acts refl refl (λ d p. refl), refl, sym (ap (λ (z : CoreState). z.moments) b.others_same));
        });
      }

  pub back_tied : IsTied (back_to c save.0 (save ∷ earlier) e)
  back_tied = let r = undo_all c gone (reverse (take n standing)) e g.state ties.relates ties.kept all in finish r.0 r.1

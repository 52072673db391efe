use Rattle.std.proofs.Common.{◌≡◌, List, [], ◌++◌, Some, refl, sym, ap, subst, ◌∙◌, append-nil}
use Rattle.std.specs.List.{flat_map}
use Rattle.wat_value.specs.declared.change.Act.{Act}
use Rattle.wat_ast.specs.declared.statement.Statement.{Statement}
use Rattle.wat_schema.specs.Tables.{IsTables, Tables, apply_all, no_tables}
use Rattle.wat_schema.proofs.Database.{all_acts_hold, no_tables_hold}
use Rattle.wat_replay.specs.State.{no_lists}
use Rattle.wat_replay.specs.Committed.{commits_of}
use Rattle.wat_script_texts.specs.Texts.{script_text}
use Rattle.wat_script_texts.specs.Written.{IsWritten, ends}
use Rattle.wat_translated.proofs.Named.{log_named}
use Rattle.wat_dump.specs.Dump.{dumped, makings}
use Rattle.wat_dump_law.specs.Anew.{anew, numbered_from}
use Rattle.wat_dump_law.proofs.All.{all_made}
use Rattle.wat_dump_law.proofs.Names.{all_makings_named, all_names_kept}
use Rattle.wat_dump_law.proofs.Plain.{all_plain, all_same, plain}
use Rattle.wat_dump_law.proofs.dump_law.Goals as goal

abbrev all_makings : Tables → List Act
all_makings t = flat_map makings (numbered_from 1 t.tables)

-- the tables after them
made : (t : Tables) → IsTables t → apply_all (all_makings t) no_tables ≡ Some (anew t)
made t ok = ap (λ (acts : List Act). apply_all acts no_tables) (sym (append-nil (all_makings t))) ∙ (all_made t ok).made []

-- the dump writes them
are_written : (t : Tables) → IsTables t → IsWritten no_tables (all_makings t) (dumped t)
are_written t ok =
    subst (λ (xs : List Statement). IsWritten no_tables (all_makings t) xs) (append-nil (flat_map plain t.tables) ∙ sym (all_plain t ok))
    (subst (λ (acts : List Act). IsWritten no_tables acts (flat_map plain t.tables ++ [])) (append-nil (all_makings t)) ((all_made t ok).written [] [] (ends (anew t))))

pub returns-clause-same : goal.returns-clause-same
returns-clause-same c = λ t ok.
    let again : IsTables (anew t) = all_acts_hold (all_makings t) no_tables (anew t) no_tables_hold (made t ok) in
    ap script_text (all_plain (anew t) again ∙ all_same 1 t.tables ∙ sym (all_plain t ok))

pub returns-clause-runs : goal.returns-clause-runs
returns-clause-runs c = λ t ok named.
    c.written_scripts_are_made.ensures.acts no_tables (anew t) (all_makings t) (dumped t) no_tables_hold refl (all_makings_named 1 t.tables named) (are_written t ok) (made t ok)

pub returns-clause-logged : goal.returns-clause-logged
returns-clause-logged c = λ bodies entries t spelled is.
    let acts = commits_of entries no_lists in
    let ok : IsTables t = all_acts_hold acts no_tables t no_tables_hold is in
    returns-clause-runs c t ok (all_names_kept acts no_tables t no_tables_hold refl (log_named bodies entries no_lists spelled) is)

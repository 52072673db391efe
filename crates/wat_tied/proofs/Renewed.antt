-- The core stays tied where what is known of the connection that made a step is known again: all other connections are as before.
use Rattle.std.proofs.Common.{◌≡◌, ℕ, ◌≤◌, List, [], ◌∷◌, ◌++◌, length, None, nat_eq, sym, ap, ◌∙◌, subst, ⊎_elim}
use Rattle.std.proofs.lemmas.Bool.{cases_eq}
use Rattle.wat_list.specs.Has.{Has}
use Rattle.wat_value.specs.Changes.{RowName}
use Rattle.wat_schema.specs.Catalog.{Catalog}
use Rattle.wat_schema.specs.Tables.{catalog_of}
use Rattle.wat_schema.specs.Stored.{IsCatalog}
use Rattle.wat_isolation.specs.World.{put}
use Rattle.wat_isolation.specs.Logs.{Item, view}
use Rattle.wat_isolation.specs.Machine as law
use Rattle.wat_isolation.specs.Kept.{Kept}
use Rattle.wat_isolation.specs.Sql.{sql}
use Rattle.wat_isolation.proofs.Basics.{nat_same, put-same, put-other}
use Rattle.wat_parse.specs.declared.script.Span.{Span}
use Rattle.wat_history.specs.History.{Commit}
use Rattle.wat_history.specs.Serial.{Serial, after as after_first}
use Rattle.wat_history.proofs.SerialLemmas.{after_all}
use Rattle.wat_steps.specs.State.{ConnectionState, CoreState, schema_of}
use Rattle.wat_tied.specs.Tied.{Relates, AreStanding, RecordedPart, IsDetermined, Ghost, standing_in, items_in, parts_in, IsIdle, GoesWith, IsInside, IsAbsent, MeetsWith, Ties}
use Rattle.wat_tied.specs.Told.{commits_told, IsTold}
use Rattle.wat_tied.proofs.Aims.{meets_stay}
use Rattle.wat_tied.proofs.Telling.{IsContinued, AddsPlain, history_goes_on, plain_goes_on}

-- what is known of the connection that made the step, and of the whole
pub record Renews (e after : CoreState) (g : Ghost) (c : ℕ) (t : law.State sql) (k : ConnectionState) (entries : List RecordedPart) (work : List (Item sql)) (history : List Commit) : Type 0 where
  pub kept : Kept sql t
  pub relates : Relates after t
  pub same : schema_of after ≡ schema_of e
  pub stop : after.stop ≡ e.stop
  pub count : after.count ≡ e.count
  pub outside : (IsInside e c → ⊥) → IsAbsent k
  pub here : after.connections c ≡ k
  pub there : (d : ℕ) → (d ≡ c → ⊥) → after.connections d ≡ e.connections d
  pub others : (d : ℕ) → (d ≡ c → ⊥) → t.conns d ≡ g.state.conns d
  pub rows : (d : ℕ) → (d ≡ c → ⊥) → (r : RowName) → Has (law.Lock.Write r) (g.state.conns d).locks → t.now r ≡ g.state.now r
  pub log : (t.conns c).log ≡ work ++ items_in entries
  pub standing : AreStanding (schema_of e) (standing_in k.transaction k.work) (t.conns c).standing
  pub idle : IsIdle (t.conns c) entries work k.transaction
  pub works : e.stop ≡ None → GoesWith (schema_of e) k k.work work
  pub meets : e.stop ≡ None → MeetsWith t c k.work
  pub parts : (p : RecordedPart) → Has p entries → IsDetermined (schema_of e) p
  pub serial : Serial 3 after.base history after.committed
  pub told : IsTold k (parts_in entries)
  pub based : after.base ≡ e.base
  pub adds : AddsPlain (schema_of e) (e.connections c) k
  pub commits : IsContinued e after c (commits_told (e.connections c)) (commits_told k) g.history history

-- Where the commits are as before, the rows on which another connection holds Write are as it left them.
pub rows_stay : (s t : law.State sql) → Kept sql s → Kept sql t → t.base ≡ s.base → (d : ℕ) → t.conns d ≡ s.conns d → (r : RowName) → Has (law.Lock.Write r) (s.conns d).locks → t.now r ≡ s.now r
rows_stay s t before after base d same r h =
    after.own d r (subst (λ (z : law.Connection sql). Has (law.Lock.Write r) z.locks) (sym same) h)
    ∙ ((λ j. view sql (base j) (same j).log r) ∙ sym (before.own d r h))

-- what stands beside the core then
abbrev pub renewal : Ghost → ℕ → law.State sql → List RecordedPart → List (Item sql) → List Commit → Ghost
renewal g c t entries work history = record { state = t; entries = put nat_eq g.entries c entries; work = put nat_eq g.work c work; history = history }

-- the schema now is that after all commits
pub catalog_now : (e : CoreState) (g : Ghost) → Ties e g → catalog_of (after_first e.base g.history (length g.history)) ≡ schema_of e
catalog_now e g ties = ap catalog_of (after_all 3 e.base e.committed g.history ties.serial) ∙ ties.relates.base.schema

pub renewed : (e after : CoreState) (g : Ghost) → Ties e g → (c : ℕ) (t : law.State sql) (k : ConnectionState) (entries : List RecordedPart) (work : List (Item sql)) (history : List Commit) → Renews e after g c t k entries work history
    → Ties after (renewal g c t entries work history)
renewed e after g ties c t k entries work history r = record {
  schema = subst IsCatalog (sym r.same) ties.schema;
  kept = r.kept;
  relates = r.relates;
  log = by_connection (λ d. (t.conns d).log ≡ new.work d ++ items_in (new.entries d))
      (r.log ∙ λ j. sym here_work j ++ items_in (sym here_entries j))
      (λ d ne. ap (λ (z : law.Connection sql). z.log) (r.others d ne) ∙ (ties.log d ∙ λ j. sym (there_work d ne) j ++ items_in (sym (there_entries d ne) j)));
  standing = by_connection (λ d. AreStanding (schema_of after) (standing_in (after.connections d).transaction (after.connections d).work) (t.conns d).standing)
      (subst (λ (z : Catalog). AreStanding z (standing_in (after.connections c).transaction (after.connections c).work) (t.conns c).standing) (sym r.same)
      (subst (λ (z : ConnectionState). AreStanding (schema_of e) (standing_in z.transaction z.work) (t.conns c).standing) (sym r.here) r.standing))
      (λ d ne. subst (λ (z : Catalog). AreStanding z (standing_in (after.connections d).transaction (after.connections d).work) (t.conns d).standing) (sym r.same)
      (subst (λ (z : ConnectionState). AreStanding (schema_of e) (standing_in z.transaction z.work) (t.conns d).standing) (sym (r.there d ne))
      (subst (λ (z : law.Connection sql). AreStanding (schema_of e) (standing_in (e.connections d).transaction (e.connections d).work) z.standing) (sym (r.others d ne)) (ties.standing d))));
  idle = by_connection (λ d. IsIdle (t.conns d) (new.entries d) (new.work d) (after.connections d).transaction)
      (subst (λ (z : ConnectionState). IsIdle (t.conns c) (new.entries c) (new.work c) z.transaction) (sym r.here)
      (subst (λ z. IsIdle (t.conns c) z (new.work c) k.transaction) (sym here_entries) (subst (λ z. IsIdle (t.conns c) entries z k.transaction) (sym here_work) r.idle)))
      (λ d ne. subst (λ (z : ConnectionState). IsIdle (t.conns d) (new.entries d) (new.work d) z.transaction) (sym (r.there d ne))
      (subst (λ z. IsIdle z (new.entries d) (new.work d) (e.connections d).transaction) (sym (r.others d ne))
      (subst (λ z. IsIdle (g.state.conns d) z (new.work d) (e.connections d).transaction) (sym (there_entries d ne)) (subst (λ z. IsIdle (g.state.conns d) (g.entries d) z (e.connections d).transaction) (sym (there_work d ne)) (ties.idle d)))));
  parts = by_connection (λ d. (p : RecordedPart) → Has p (new.entries d) → IsDetermined (schema_of after) p)
      (λ p has. subst (λ z. IsDetermined z p) (sym r.same) (r.parts p (subst (Has p) here_entries has)))
      (λ d ne p has. subst (λ z. IsDetermined z p) (sym r.same) (ties.parts d p (subst (Has p) (there_entries d ne) has)));
  serial = r.serial;
  told = by_connection (λ d. IsTold (after.connections d) (parts_in (new.entries d)))
      (subst (λ (z : ConnectionState). IsTold z (parts_in (new.entries c))) (sym r.here) (subst (λ z. IsTold k (parts_in z)) (sym here_entries) r.told))
      (λ d ne. subst (λ (z : ConnectionState). IsTold z (parts_in (new.entries d))) (sym (r.there d ne)) (subst (λ z. IsTold (e.connections d) (parts_in z)) (sym (there_entries d ne)) (ties.told d)));
  history = history_goes_on e after c r.count r.there g.history history
      (subst (λ (z : ConnectionState). IsContinued e after c (commits_told (e.connections c)) (commits_told z) g.history history) (sym r.here) r.commits) ties.history;
  plain = plain_goes_on e after c (schema_of e) g.history history r.based r.there (catalog_now e g ties)
      (subst (λ (z : ConnectionState). AddsPlain (schema_of e) (e.connections c) z) (sym r.here) r.adds)
      (subst (λ (z : ConnectionState). IsContinued e after c (commits_told (e.connections c)) (commits_told z) g.history history) (sym r.here) r.commits) ties.plain;
  outside = by_connection (λ d. (IsInside after d → ⊥) → IsAbsent (after.connections d))
      (λ out. subst IsAbsent (sym r.here) (r.outside (λ i. out (inside_then c i))))
      (λ d ne out. subst IsAbsent (sym (r.there d ne)) (ties.outside d (λ i. out (inside_then d i))));
  works = λ going. let goes : e.stop ≡ None = sym r.stop ∙ going in
      by_connection (λ d. GoesWith (schema_of after) (after.connections d) (after.connections d).work (new.work d))
      (subst (λ z. GoesWith z (after.connections c) (after.connections c).work (new.work c)) (sym r.same)
      (subst (λ (z : ConnectionState). GoesWith (schema_of e) z z.work (new.work c)) (sym r.here) (subst (λ z. GoesWith (schema_of e) k k.work z) (sym here_work) (r.works goes))))
      (λ d ne. subst (λ z. GoesWith z (after.connections d) (after.connections d).work (new.work d)) (sym r.same)
      (subst (λ (z : ConnectionState). GoesWith (schema_of e) z z.work (new.work d)) (sym (r.there d ne)) (subst (λ z. GoesWith (schema_of e) (e.connections d) (e.connections d).work z) (sym (there_work d ne)) (ties.works goes d))));
  meets = λ going. let goes : e.stop ≡ None = sym r.stop ∙ going in
      by_connection (λ d. MeetsWith t d (after.connections d).work)
      (subst (λ (z : ConnectionState). MeetsWith t c z.work) (sym r.here) (r.meets goes))
      (λ d ne. subst (λ (z : ConnectionState). MeetsWith t d z.work) (sym (r.there d ne)) (meets_stay g.state t d (r.others d ne) (r.rows d ne) (e.connections d).work (ties.meets goes d)));
}
  where
    new : Ghost
    new = renewal g c t entries work history

    inside_then : (d : ℕ) → IsInside e d → IsInside after d
    inside_then d i = record { from_one = i.from_one; within = subst (λ n. d ≤ n) (sym r.count) i.within }

    by_connection : (P : ℕ → Type 0) → P c → ((d : ℕ) → (d ≡ c → ⊥) → P d) → (d : ℕ) → P d
    by_connection P at_c at_others d = ⊎_elim (λ (s : d ≡ c). subst P (sym s) at_c) (λ (ne : d ≡ c → ⊥). at_others d ne) (cases_eq d c)

    here_entries : put nat_eq g.entries c entries c ≡ entries
    here_entries = put-same nat_eq nat_same g.entries c entries

    here_work : put nat_eq g.work c work c ≡ work
    here_work = put-same nat_eq nat_same g.work c work

    there_entries : (d : ℕ) → (d ≡ c → ⊥) → put nat_eq g.entries c entries d ≡ g.entries d
    there_entries d ne = put-other nat_eq nat_same g.entries c entries d ne

    there_work : (d : ℕ) → (d ≡ c → ⊥) → put nat_eq g.work c work d ≡ g.work d
    there_work d ne = put-other nat_eq nat_same g.work c work d ne

none_some : (span : Span) (more left : List Span) → left ≡ [] → left ≡ span ∷ more → ⊥
none_some span more left e f = cc

-- a connection that has something to do is one of those that there are
pub has_work : (e : CoreState) (g : Ghost) → Ties e g → (c : ℕ) (span : Span) (more : List Span) → (e.connections c).left ≡ span ∷ more → (IsInside e c → ⊥) → ⊥
has_work e g ties c span more first out = none_some span more (e.connections c).left (ties.outside c out).none_left first

-- What the ties say of transactions.
use Rattle.std.proofs.Common.{ℕ, List, [], ◌∷◌, ◌++◌, Option, refl, sym, subst, inl, inr}
use Rattle.wat_list.specs.Has.{Has}
use Rattle.wat_value.specs.Changes.{RowName}
use Rattle.wat_schema.specs.Catalog.{Catalog}
use Rattle.wat_schema.specs.Tables.{Row, Tables}
use Rattle.wat_isolation.specs.Rows.{Scheme}
use Rattle.wat_isolation.specs.Logs.{Alone, view}
use Rattle.wat_isolation.specs.Naming.{scheme_of}
use Rattle.wat_isolation.specs.Sql.{sql}
use Rattle.wat_isolation.proofs.Statements.{view_parts, alone_parts}
use Rattle.wat_scans.specs.Look.{IsOf}
use Rattle.wat_history.specs.Serial.{Follows}
use Rattle.wat_history.proofs.SerialLemmas.{goes_on}
use Rattle.wat_steps.specs.State.{CoreState, schema_of}
use Rattle.wat_tied.specs.Tied.{RecordedPart, IsDetermined, items_in, parts_in, IsTied}

-- on tables on which all that was recorded is as it was, the entries of a transaction mean what they are answered, and their acts apply
pub follows : (c : Catalog) (f : RowName → Option Row) (t : Tables) → IsOf c f t → (ps : List RecordedPart) → ((p : RecordedPart) → Has p ps → IsDetermined c p) → Alone sql (scheme_of c) f (items_in ps)
    → (after : Tables) × Follows 3 t (parts_in ps) after × IsOf c (view sql f (items_in ps)) after
follows c f t is [] parts alone = (t, refl, is)
follows c f t is (p ∷ earlier) parts alone =
    let both = alone_parts sql (scheme_of c) f p.items (items_in earlier) alone in
    let before = follows c f t is earlier (λ q has. parts q (inr has)) both.0 in
    let k : IsDetermined c p = parts p (inl refl) in
    let effect = k.effect (view sql f (items_in earlier)) before.0 before.2 both.1 in (
      effect.0,
      goes_on 3 t before.0 effect.0 (parts_in earlier) p.part before.1 (k.means (view sql f (items_in earlier)) before.0 before.2 both.1) effect.1,
      subst (λ g. IsOf c g effect.0) (sym (view_parts sql f p.items (items_in earlier))) effect.2,
    )

-- what the entries of an open transaction did alone after the commits so far
pub open_alone : (e : CoreState) (tied : IsTied e) (c : ℕ) → Alone sql (scheme_of (schema_of e)) tied.ghost.state.base (items_in (tied.ghost.entries c))
open_alone e tied c =
    let base = tied.ghost.state.base in
    let of_schema : Alone sql (scheme_of (schema_of e)) base (tied.ghost.state.conns c).log =
    subst (λ (g : Scheme sql). Alone sql g base (tied.ghost.state.conns c).log) tied.ties.relates.scheme (tied.ties.kept.open_serial c) in
    let alone : Alone sql (scheme_of (schema_of e)) base (tied.ghost.work c ++ items_in (tied.ghost.entries c)) = subst (Alone sql (scheme_of (schema_of e)) base) (tied.ties.log c) of_schema in
    (alone_parts sql (scheme_of (schema_of e)) base (tied.ghost.work c) (items_in (tied.ghost.entries c)) alone).0

pub open_serial : (e : CoreState) (tied : IsTied e) (c : ℕ) → (after : Tables) × Follows 3 e.committed (parts_in (tied.ghost.entries c)) after
open_serial e tied c =
    let r = follows (schema_of e) tied.ghost.state.base e.committed tied.ties.relates.base (tied.ghost.entries c) (tied.ties.parts c) (open_alone e tied c) in (r.0, r.1)

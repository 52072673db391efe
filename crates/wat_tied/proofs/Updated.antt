-- The core stays tied where a step gives one connection's state anew.
use Rattle.std.proofs.Common.{◌≡◌, ℕ, Bool, true, false, ◌==◌, if◌then◌else◌, List, Option, Some, None, refl, subst, inl, eqb-true}
use Rattle.wat_locks.specs.declared.want.Want.{Want}
use Rattle.wat_scans.specs.Running.{Run}
use Rattle.wat_steps.specs.State.{ConnectionState, CoreState, schema_of, with_connection}
use Rattle.wat_steps.specs.Answering.{IsSame}
use Rattle.wat_steps.specs.Asking.{asking}
use Rattle.wat_tied.specs.Tied.{AreStanding, parts_in, standing_in, IsIdle, GoesWith, IsInside, IsAbsent, MeetsWith, Ghost, Ties, IsTied}
use Rattle.wat_tied.specs.Told.{parts_told, commits_told, IsTold}
use Rattle.wat_tied.proofs.Same.{same_ties}
use Rattle.wat_list.specs.Has.{Has}
use Rattle.wat_history.specs.Connection.{Part}
use Rattle.wat_history.specs.Plain.{PlainAfterSome}
use Rattle.wat_tied.proofs.Renewed.{catalog_now}
use Rattle.wat_tied.proofs.Telling.{AddsPlain, adds_plain, same_history}

-- what holds of this connection's new state and of the others' old ones holds of each
pub each : (P : ℕ → ConnectionState → Type 0) (e : CoreState) (c : ℕ) (k : ConnectionState) → P c k → ((d : ℕ) → P d (e.connections d)) → (d : ℕ) → P d ((with_connection c k e).connections d)
each P e c k new old d = by (c == d) refl
  where
    by : (b : Bool) → (c == d) ≡ b → P d (if b then k else e.connections d)
    by true is = subst (λ (x : ℕ). P x k) (eqb-true c d is) new
    by false is = old d

-- what the ties say of a connection
pub record IsTiedConnection (e : CoreState) (g : Ghost) (c : ℕ) (k : ConnectionState) : Type 0 where
  pub standing : AreStanding (schema_of e) (standing_in k.transaction k.work) (g.state.conns c).standing
  pub idle : IsIdle (g.state.conns c) (g.entries c) (g.work c) k.transaction
  pub works : e.stop ≡ None → GoesWith (schema_of e) k k.work (g.work c)
  pub meets : e.stop ≡ None → MeetsWith g.state c k.work
  pub outside : (IsInside e c → ⊥) → IsAbsent k
  pub told : IsTold k (parts_in (g.entries c))
  pub commits : commits_told k ≡ commits_told (e.connections c)
  pub adds : AddsPlain (schema_of e) (e.connections c) k

pub with_tied : (e : CoreState) (g : Ghost) (c : ℕ) (k : ConnectionState) → Ties e g → IsTiedConnection e g c k → Ties (with_connection c k e) g
with_tied e g c k ties new = record {
  schema = ties.schema;
  kept = ties.kept;
  relates = record { scheme = ties.relates.scheme; now = ties.relates.now; base = ties.relates.base; locks = ties.relates.locks; vacant = ties.relates.vacant };
  log = ties.log;
  standing = each (λ d x. AreStanding (schema_of e) (standing_in x.transaction x.work) (g.state.conns d).standing) e c k new.standing ties.standing;
  idle = each (λ d x. IsIdle (g.state.conns d) (g.entries d) (g.work d) x.transaction) e c k new.idle ties.idle;
  parts = ties.parts;
  serial = ties.serial;
  told = each (λ d x. IsTold x (parts_in (g.entries d))) e c k new.told ties.told;
  history = same_history e (with_connection c k e) g.history refl (each (λ d x. commits_told x ≡ commits_told (e.connections d)) e c k new.commits (λ d. refl)) refl ties.history;
  plain = each (λ d x. (p : Part) → Has p (parts_told x) → PlainAfterSome 3 e.base g.history p) e c k (adds_plain e.base g.history (schema_of e) (catalog_now e g ties) (e.connections c) k new.adds (ties.plain c)) ties.plain;
  outside = each (λ d x. (IsInside (with_connection c k e) d → ⊥) → IsAbsent x) e c k (λ out. new.outside (λ i. out (record { from_one = i.from_one; within = i.within })))
      (λ d out. ties.outside d (λ i. out (record { from_one = i.from_one; within = i.within })));
  works = λ going. each (λ d x. GoesWith (schema_of e) x x.work (g.work d)) e c k (new.works going) (ties.works going);
  meets = λ going. each (λ d x. MeetsWith g.state d x.work) e c k (new.meets going) (ties.meets going);
}

-- ---- waiting

goes_asking : (e : CoreState) (k : ConnectionState) (wants : List Want) (work : Option Run) (g : Ghost) (c : ℕ) → GoesWith (schema_of e) k work (g.work c) → GoesWith (schema_of e) (record k { request = Some wants }) work (g.work c)
goes_asking e k wants None g c h = h
goes_asking e k wants (Some run) g c h = record {
  span = h.span;
  more = h.more;
  first = h.first;
  written = h.written;
  read = h.read;
  statement = h.statement;
  checked = h.checked;
  stepped = h.stepped;
  level = h.level;
  visits = h.visits;
  going = h.going;
  placed = h.placed;
  reads = h.reads;
  reading = h.reading;
  at_three = h.at_three;
  recorded = h.recorded;
  has_transaction = h.has_transaction;
}

pub waiting_tied : (e after : CoreState) (c : ℕ) (wants : List Want) → IsTied e → IsSame (asking c wants e) after → IsTied after
waiting_tied e after c wants tied same = record {
  ghost = tied.ghost;
  ties =
      let k : ConnectionState = record (e.connections c) { request = Some wants } in
      same_ties (with_connection c k e) after tied.ghost same
      (with_tied e tied.ghost c k tied.ties (record {
        standing = tied.ties.standing c;
        idle = tied.ties.idle c;
        outside = λ out. let is = tied.ties.outside c out in record { no_transaction = is.no_transaction; none_left = is.none_left };
        works = λ going. goes_asking e (e.connections c) wants (e.connections c).work tied.ghost c (tied.ties.works going c);
        meets = λ going. tied.ties.meets going c;
        told = let t = tied.ties.told c in record { goes = t.goes; open_parts = t.open_parts; opens = t.opens };
        commits = refl;
        adds = inl refl;
      }));
}

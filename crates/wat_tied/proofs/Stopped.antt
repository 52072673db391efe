-- The core stays tied after a stop.
use Rattle.std.proofs.Common.{◌≡◌, ℕ, true, List, [], ◌∷◌, Option, Some, None, refl, sym, subst, inl, inr}
use Rattle.wat_parse.specs.declared.script.Span.{Span}
use Rattle.wat_parse.specs.Parsing.{parsed_at}
use Rattle.wat_conn.specs.declared.answer.Reason.{Reason}
use Rattle.wat_conn.specs.declared.answer.Answer.TheVariants.{Stopped}
use Rattle.wat_scans.specs.Running.{Run}
use Rattle.wat_steps.specs.State.{OpenTransaction, ConnectionState, CoreState, Progressed, schema_of, with_connection}
use Rattle.wat_steps.specs.Answering.{entry_at, with_answer}
use Rattle.wat_steps.specs.Step.{Stays, GoesOrStops, IsStep}
use Rattle.wat_tied.specs.Tied.{AreStanding, standing_in, IsIdle, parts_in, IsInside, IsAbsent, Ghost, Ties, IsTied}
use Rattle.wat_tied.specs.Told.{stands_told, commits_told, IsTold}
use Rattle.wat_tied.proofs.Renewed.{has_work}
use Rattle.wat_tied.proofs.Same.{same_ties}
use Rattle.wat_tied.proofs.Telling.{AddsPlain, told_next, no_commit, told_stays, undone_stays, told_ended}
use Rattle.wat_tied.proofs.Updated.{with_tied}

no_none : (reason : Reason) (stop : Option Reason) → stop ≡ Some reason → stop ≡ None → ⊥
no_none reason stop e f = cc

-- where a connection changes neither its transaction nor its work after a stop
still_tied : (e : CoreState) (g : Ghost) (c : ℕ) (reason : Reason) → e.stop ≡ Some reason → Ties e g → (k : ConnectionState) → k.transaction ≡ (e.connections c).transaction → k.work ≡ (e.connections c).work
    → ((IsInside e c → ⊥) → IsAbsent k) → IsTold k (parts_in (g.entries c)) → commits_told k ≡ commits_told (e.connections c) → AddsPlain (schema_of e) (e.connections c) k → Ties (with_connection c k e) g
still_tied e g c reason stopped ties k transaction work outside told commits adds =
    with_tied e g c k ties (record {
      standing =
          subst (λ (t : Option OpenTransaction). AreStanding (schema_of e) (standing_in t k.work) (g.state.conns c).standing) (sym transaction)
          (subst (λ (r : Option Run). AreStanding (schema_of e) (standing_in (e.connections c).transaction r) (g.state.conns c).standing) (sym work) (ties.standing c));
      idle = subst (λ (t : Option OpenTransaction). IsIdle (g.state.conns c) (g.entries c) (g.work c) t) (sym transaction) (ties.idle c);
      outside = outside;
      told = told;
      commits = commits;
      adds = adds;
      works = λ going. absurd (no_none reason e.stop stopped going);
      meets = λ going. absurd (no_none reason e.stop stopped going);
    })

stays : (e after : CoreState) (c : ℕ) (a : Progressed) (reason : Reason) (left : List Span) (g : Ghost) → (e.connections c).left ≡ left → e.stop ≡ Some reason → Ties e g → Stays c e reason left a after → Ties after g
stays e after c a reason [] g is stopped ties h =
    let k : ConnectionState = record (e.connections c) { has_ended = true } in
    same_ties (with_connection c k e) after g h.1 (still_tied e g c reason stopped ties k refl refl (λ out. let absent = ties.outside c out in record { no_transaction = absent.no_transaction; none_left = absent.none_left })
    (told_ended (e.connections c) (parts_in (g.entries c)) is) refl (inl refl))
stays e after c a reason (span ∷ more) g is stopped ties h =
    let k : ConnectionState = with_answer (span ∷ more) (e.connections c) (Stopped reason) [] in
    same_ties (with_connection c k e) after g h.1 (still_tied e g c reason stopped ties k refl refl (λ out. absurd (has_work e g ties c span more is out))
    (told_stays (e.connections c) k span (Stopped reason) [] refl refl more is (parts_in (g.entries c)) (ties.told c) refl (undone_stays (stands_told (e.connections c)) (record { read = parsed_at (e.connections c).script span; entry = entry_at span (e.connections c).level (Stopped reason) [] }) refl) refl (λ w. w))
    (no_commit (e.connections c) k span (Stopped reason) [] refl refl (λ d p. refl))
    (inr (record { read = parsed_at (e.connections c).script span; entry = entry_at span (e.connections c).level (Stopped reason) [] }, told_next (e.connections c) k span (Stopped reason) [] refl refl, λ low. tt)))

pub stopped_tied : (e after : CoreState) (c : ℕ) (a : Progressed) (reason : Reason) → IsTied e → e.stop ≡ Some reason → IsStep e c a after → IsTied after
unfolding IsStep
stopped_tied e after c a reason tied stopped step = record {
  ghost = tied.ghost;
  ties = stays e after c a reason (e.connections c).left tied.ghost refl stopped tied.ties (subst (λ (stop : Option Reason). GoesOrStops c e stop a after) stopped step);
}

-- ---- the first stop

-- the work of a connection needs nothing any more
stop_ties : (e : CoreState) (g : Ghost) (reason : Reason) → Ties e g → Ties (record e { stop = Some reason }) g
stop_ties e g reason ties = record {
  schema = ties.schema;
  kept = ties.kept;
  relates = record { scheme = ties.relates.scheme; now = ties.relates.now; base = ties.relates.base; locks = ties.relates.locks; vacant = ties.relates.vacant };
  log = ties.log;
  standing = ties.standing;
  idle = ties.idle;
  parts = ties.parts;
  serial = ties.serial;
  told = ties.told;
  plain = ties.plain;
  history = record { all = ties.history.all; numbers = ties.history.numbers; moments = ties.history.moments };
  outside = λ c out. ties.outside c (λ i. out (record { from_one = i.from_one; within = i.within }));
  works = λ going. absurd (no_none reason (Some reason) refl going);
  meets = λ going. absurd (no_none reason (Some reason) refl going);
}

pub stops_tied : (e after : CoreState) (c : ℕ) (a : Progressed) (reason : Reason) → IsTied e → Stays c (record e { stop = Some reason }) reason (e.connections c).left a after → IsTied after
stops_tied e after c a reason tied step = record {
  ghost = tied.ghost;
  ties = stays (record e { stop = Some reason }) after c a reason (e.connections c).left tied.ghost refl refl (stop_ties e tied.ghost reason tied.ties) step;
}

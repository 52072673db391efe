-- What a connection is told, by what the locks answer.
use Rattle.std.proofs.Common.{◌≡◌, ℕ, zero, suc, ◌-◌, ◌≤◌, true, false, List, ◌++◌, length, map, filter, Option, Some, None, refl, sym, ap, ◌∙◌, subst, arith}
use Rattle.std.specs.Prelude.{slice_get, slice_set, unwrap_or, Bool, Result, Ok, Err, IfOk}
use Rattle.std.specs.declared.alloc.AllocError.{AllocError}
use Rattle.wat_list.specs.Has.{HasSame}
use Rattle.wat_locks.specs.declared.want.Want.{Want}
use Rattle.wat_locks.specs.declared.held.Held.{Held}
use Rattle.wat_locks.specs.declared.held.Against.{Against}
use Rattle.wat_locks.specs.declared.held.Asked.TheVariants as asked
use Rattle.wat_locks.specs.Held.{AreFree, Named, entry}
use Rattle.wat_cycle.specs.declared.request.Request.{Request}
use Rattle.wat_cycle.specs.Walk.{IsCycle}
use Rattle.wat_cycle.specs.Waits.{AreNamedEdges, Blocks}
use Rattle.wat_steps.specs.Fresh.{connection_with}
use Rattle.wat_steps.specs.State.{ConnectionState, CoreState, requests_of}
use Rattle.wat_steps.specs.Asking.{asking}
use Rattle.wat_statement_locks.specs.Visiting.{without_scan}
use Rattle.wat_core.specs.declared.asking.Told.{Told}
use Rattle.wat_core.specs.declared.asking.Told.TheVariants as told
use Rattle.wat_core.specs.Parts.{HasParts, connection_of, requests_in}
use Rattle.wat_core.specs.Telling.{AnswersFor, IsTold, IsWaiting, TellsBlocked, TellsBy}
use Rattle.wat_core.proofs.PartLemmas.{asking_parts, connection_here, requests_are}

module _ (e : CoreState) (states : List ConnectionState) (old new : List Held) (c : ℕ) (wants : List Want) (parts : HasParts e states old) where
  -- it has all that it wants
  pub told_granted : (scan : Option ℕ) → AnswersFor old new c scan wants asked.Granted → IsTold e c scan wants told.Granted states new
  told_granted None answers = (
    subst (λ (held : List Held). AreFree held c wants) (sym parts.held) answers.0,
    subst (λ (held : List Held). HasSame new (held ++ map (entry c) wants)) (sym parts.held) answers.1,
    record { count = parts.count; connections = parts.connections; held = refl },
  )
  told_granted (Some scan) answers = (
    subst (λ (held : List Held). AreFree held c wants) (sym parts.held) answers.0,
    subst (λ (held : List Held). HasSame new (without_scan c scan held ++ map (entry c) wants)) (sym parts.held) answers.1,
    record { count = parts.count; connections = parts.connections; held = refl },
  )

  -- another connection's lock is in its way, and nothing has changed
  pub in_its_way : (scan : Option ℕ) (against : Against) → AnswersFor old new c scan wants (asked.Against against) → Named e.held c wants against × (e.held ≡ new)
  in_its_way None against answers = (subst (λ (held : List Held). Named held c wants against) (sym parts.held) answers.0, parts.held ∙ sym answers.1)
  in_its_way (Some scan) against answers = (subst (λ (held : List Held). Named held c wants against) (sym parts.held) answers.0, parts.held ∙ sym answers.1)

  -- it is not to wait
  pub told_locked : (scan : Option ℕ) (against : Against) (k : ConnectionState) → 1 ≤ c → slice_get states (c - 1) ≡ Some k → k.blocking ≡ false → AnswersFor old new c scan wants (asked.Against against)
      → IsTold e c scan wants (told.Locked against) states new
  told_locked scan against k one is off answers =
      let way = in_its_way scan against answers in (
        way.0,
        ap (λ (o : ConnectionState). o.blocking) (connection_here e states old c k parts one is) ∙ off,
        record { count = parts.count; connections = parts.connections; held = way.1 },
      )

  -- it has begun to wait
  pub told_waits : (scan : Option ℕ) (against : Against) (k : ConnectionState) (said : Told) → 1 ≤ c → c ≤ length states → slice_get states (c - 1) ≡ Some k → k.blocking ≡ true
      → AnswersFor old new c scan wants (asked.Against against) → IsWaiting new (requests_in (slice_set states (c - 1) (record k { request = Some wants }))) c against said
      → IsTold e c scan wants said (slice_set states (c - 1) (record k { request = Some wants })) new
  told_waits scan against k said one within is on answers waiting = by said waiting
    where
      after : List ConnectionState
      after = slice_set states (c - 1) (record k { request = Some wants })

      way : Named e.held c wants against × (e.held ≡ new)
      way = in_its_way scan against answers

      blocks : (e.connections c).blocking ≡ true
      blocks = ap (λ (o : ConnectionState). o.blocking) (connection_here e states old c k parts one is) ∙ on

      parts_after : HasParts (asking c wants e) after new
      parts_after = asking_parts e states new c wants k one within (record { count = parts.count; connections = parts.connections; held = way.1 }) is

      all : requests_in after ≡ requests_of (asking c wants e)
      all = sym (requests_are (asking c wants e) after new parts_after)

      by : (s : Told) → IsWaiting new (requests_in after) c against s → IsTold e c scan wants s after new
      by told.Granted w = absurd w
      by (told.Locked other) w = absurd w
      by (told.Waiting other) w = (
        subst (λ (a : Against). Named e.held c wants a) (sym w.0) way.0,
        blocks,
        subst (λ (rs : List Request). (others : List ℕ) → IsCycle (Blocks e.held rs) c others → ⊥) all
            (subst (λ (held : List Held). (others : List ℕ) → IsCycle (Blocks held (requests_in after)) c others → ⊥) (sym way.1) w.1),
        parts_after,
      )
      by (told.Deadlock cycle) w = (
        against,
        way.0,
        blocks,
        subst (λ (rs : List Request). AreNamedEdges e.held rs c cycle) all
            (subst (λ (held : List Held). AreNamedEdges held (requests_in after) c cycle) (sym way.1) w),
        parts_after,
      )

  -- by what the connections answer
  pub told_blocked : (scan : Option ℕ) (against : Against) (after : List ConnectionState) (r : Result Told AllocError) → 1 ≤ c → c ≤ length states → AnswersFor old new c scan wants (asked.Against against)
      → IfOk r (TellsBlocked new states after c wants against) → IfOk r (λ said. IsTold e c scan wants said after new)
  told_blocked scan against after (Err none) one within answers tells = tt
  told_blocked scan against after (Ok said) one within answers tells = by tells.0.blocking refl tells.2
    where
      k : ConnectionState
      k = tells.0

      by : (b : Bool) → k.blocking ≡ b → TellsBy b k new states after c wants against said → IsTold e c scan wants said after new
      by false off t =
          subst (λ (s : Told). IsTold e c scan wants s after new) (sym t.0)
          (subst (λ (them : List ConnectionState). IsTold e c scan wants (told.Locked against) them new) (sym t.1) (told_locked scan against k one tells.1 off answers))
      by true on t =
          subst (λ (them : List ConnectionState). IsTold e c scan wants said them new) (sym t.0)
          (told_waits scan against k said one within tells.1 on answers (subst (λ (them : List ConnectionState). IsWaiting new (requests_in them) c against said) t.0 t.1))

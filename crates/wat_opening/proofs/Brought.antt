-- From what is read to a store.
use Rattle.std.proofs.Common.{◌≡◌, ℕ, ◌≤◌, [], drop, length, map, Option, Some, None, false, true, refl, sym, ap, ◌∙◌, subst, arith}
use Rattle.std.specs.Prelude.{IsSome}
use Rattle.wat_disk.specs.Disk.{Told, EachStop}
use Rattle.wat_disk.specs.declared.disk.Disk.{Ghosts}
use Rattle.wat_gate.specs.Bodies.{bodies, gate_place}
use Rattle.wat_gate.specs.GateLog.{frames_of, bodies_in, IsGateOf}
use Rattle.wat_restore.specs.Safe.{Covers}
use Rattle.wat_pages.specs.declared.header.Header.{Header}
use Rattle.wat_pages.specs.Pages.{limit_of, stored_of, header_of}
use Rattle.wat_schema.specs.Tables.{Tables}
use Rattle.wat_log_record.specs.declared.log_record.LogRecord.TheVariants.{Rollback}
use Rattle.wat_log.specs.declared.record_log.Log.{Log}
use Rattle.wat_log.specs.Log.{gate_of, log_frames, IsOpenLog}
use Rattle.wat_replay.specs.State.{State, IsLawful, undone}
use Rattle.wat_replay.proofs.Replaying.{all_stay_lawful}
use Rattle.wat_files.specs.Formed.{AppliesBodies}
use Rattle.wat_files.proofs.Finding.{bodies_once}
use Rattle.wat_files.proofs.Replaying.{applies_append}
use Rattle.wat_keeping.specs.Durable.{LeavesEither}
use Rattle.wat_keeping.specs.Kept.{IsKept}
use Rattle.wat_keeping.proofs.Calls.{committed, pages_stopped}
use Rattle.wat_objects.specs.declared.objects.Objects.{Objects}
use Rattle.wat_objects.specs.Objects.{pages_of}
use Rattle.wat_repeating.specs.declared.on_pages.OnPages.{OnPages}
use Rattle.wat_repeating.specs.OnPages.{Stands, Moves}
use Rattle.wat_repeating.specs.Repeated.{RollsBack}
use Rattle.wat_store.specs.Parts.{IsStore, HoldsSafe, AreOpen}
use Rattle.wat_store.proofs.Safe.{log_synced}
use Rattle.wat_store.proofs.Standing.{log_beside, kept_beside}
use Rattle.wat_store.specs.Saving.{CountsLog}
use Rattle.wat_store.proofs.Changing.{same_gate}
use Rattle.wat_store.proofs.Checkpointing.{counts_so, counts_beside}
use Rattle.wat_opening.specs.Opening.{settled, LeavesPages}
use Rattle.wat_opening.specs.Bringing.{IsRead, BringsUp, later_in}

-- the records of rolling back are noted
rolled : (told : Told) (limit stored : ℕ) (log : Log) (s last : State) (t : Tables) → IsKept limit stored told [] s t → (rolls : RollsBack log s last) → IsKept limit stored told (map Rollback rolls.conns) last t
rolled told limit stored log s last t k rolls = record {
  saved = k.saved;
  head = k.head;
  log = k.log;
  flushed = k.flushed;
  durable = k.durable;
  makes = k.makes;
  limited = k.limited;
  counted = k.counted;
  committed = k.committed;
  unflushed = applies_append [] (map Rollback rolls.conns) k.flushed s last k.unflushed rolls.applied;
  quiet = rolls.quiet;
}

-- the committed tables of a lawful state
pub table_there : (o : Option Tables) → IsSome o → (t : Tables) × (o ≡ Some t)
table_there None some = absurd (let no : false ≡ true = some in cc)
table_there (Some t) some = (t, refl)

one_table : (t u : Tables) → Some t ≡ Some u → t ≡ u
one_table t u e = cc

module _ {D : Type 0} {g : Ghosts D} (tells : g.tells_content) where
  pub stands_safe : (x : OnPages D g) (s : State) → x.refused ≡ None → HoldsSafe (g.told x.disk) x.objects s → Stands x s
  stands_safe x s fine h = record { tells = tells; going = fine; holds = h.holds; saved = h.saved; safe = h.safe; counted = h.counted }

  pub moved_stops : (limit : ℕ) (t : Tables) (x y : OnPages D g) → IsRead (g.told x.disk) x.objects limit t → Moves x y → EachStop (g.told x.disk) (g.told y.disk) (LeavesEither limit t t)
  moved_stops limit t x y is moves =
      subst (λ (n : ℕ). EachStop (g.told x.disk) (g.told y.disk) (LeavesEither n t t)) is.limited
      (pages_stopped (g.told x.disk) (g.told y.disk) (limit_of (pages_of x.objects)) (stored_of (pages_of x.objects)) [] is.now t is.kept (moves.goes tells).stops)

  -- the log behind the rolling back
  pub log_rolled : (x y : OnPages D g) (log after : Log) → Moves x y → IsOpenLog (g.told x.disk) log → gate_of after ≡ gate_of log → IsOpenLog (g.told y.disk) after
  log_rolled x y log after moves is gate = same_gate (g.told y.disk) log after gate (log_beside (g.told x.disk) (g.told y.disk) log (moves.goes tells).others is)

  pub safe_settled : (x y : OnPages D g) (from : ℕ) (log : Log) (s : State) → HoldsSafe (g.told x.disk) x.objects s → Moves x y → (b : BringsUp x y from log s) → HoldsSafe (g.told y.disk) y.objects (settled b.tables)
  safe_settled x y from log s h moves b = record {
    holds = b.stands.holds;
    lawful = all_stay_lawful (map Rollback b.rolls.conns) b.now (settled b.tables) b.lawful b.rolls.applied;
    saved = b.stands.saved;
    safe = b.stands.safe;
    counted = b.stands.counted;
    logged = log_synced (g.told x.disk) (g.told y.disk) (Covers h.saved) (λ image after step. step.others) (moves.goes tells).others ((moves.goes tells).stops h.saved h.safe) h.logged;
  }

  -- the tables are those to which the records lead
  pub settled_so : (x y : OnPages D g) (from : ℕ) (log : Log) (s now : State) (t : Tables) → HoldsSafe (g.told x.disk) x.objects s → Moves x y → BringsUp x y from log s → AppliesBodies (drop from (bodies ((g.told x.disk).content 2))) s now
      → undone now ≡ Some t → HoldsSafe (g.told y.disk) y.objects (settled t)
  settled_so x y from log s now t h moves b applies is =
      let one : b.now ≡ now = bodies_once (drop from (bodies ((g.told x.disk).content 2))) s b.now now b.applied applies in
      let same : b.tables ≡ t = one_table b.tables t (sym b.committed ∙ ap undone one ∙ is) in
      subst (λ (u : Tables). HoldsSafe (g.told y.disk) y.objects (settled u)) same (safe_settled x y from log s h moves b)

  module _ (limit : ℕ) (t : Tables) (x y : OnPages D g) (log after : Log) (is : IsRead (g.told x.disk) x.objects limit t) (moves : Moves x y) (b : BringsUp x y (header_of (pages_of x.objects)).frames after is.saved) where
    same_now : is.now ≡ b.now
    same_now = bodies_once (drop (header_of (pages_of x.objects)).frames (bodies ((g.told x.disk).content 2))) is.saved is.now b.now is.later b.applied

    same_tables : t ≡ b.tables
    same_tables = one_table t b.tables (sym (committed (g.told x.disk) (limit_of (pages_of x.objects)) (stored_of (pages_of x.objects)) [] is.now t is.kept) ∙ ap undone same_now ∙ b.committed)

    kept_now : IsKept (limit_of (pages_of y.objects)) (stored_of (pages_of y.objects)) (g.told y.disk) [] b.now b.tables
    kept_now =
        kept_beside (g.told x.disk) (g.told y.disk) x.objects y.objects [] b.now b.tables
        (subst (λ (u : Tables). IsKept (limit_of (pages_of x.objects)) (stored_of (pages_of x.objects)) (g.told x.disk) [] b.now u) same_tables
        (subst (λ (s : State). IsKept (limit_of (pages_of x.objects)) (stored_of (pages_of x.objects)) (g.told x.disk) [] s t) same_now is.kept))
        (moves.goes tells) (record { known = b.stands.holds.known; safe = moves.safe tells b.stands.going })

    pub started : IsOpenLog (g.told x.disk) log → gate_of after ≡ gate_of log → IsStore (g.told y.disk) y.objects after (settled t) t
    started opened gate = subst (λ (u : Tables). IsStore (g.told y.disk) y.objects after (settled u) u) (sym same_tables) (record {
      holds = b.stands.holds;
      records = log_rolled x y log after moves opened gate;
      noted = map Rollback b.rolls.conns;
      has = b.rolls.noted;
      kept = rolled (g.told y.disk) (limit_of (pages_of y.objects)) (stored_of (pages_of y.objects)) after b.now (settled b.tables) b.tables kept_now b.rolls;
      lawful = all_stay_lawful (map Rollback b.rolls.conns) b.now (settled b.tables) b.lawful b.rolls.applied;
    })

-- ---- what is brought up, out of what was read

pub faults_out : {D : Type 0} {g : Ghosts D} (disk after : D) (x y : OnPages D g) → x.disk ≡ disk → after ≡ y.disk → Moves x y → (g.told disk).faults ≤ (g.told after).faults
faults_out {D} {g} disk after x y disk_in disk_out moves = subst (λ (q : D × D). (g.told q.0).faults ≤ (g.told q.1).faults) (λ i. (disk_in i, sym disk_out i)) moves.later

module _ {D : Type 0} {g : Ghosts D} (tells : g.tells_content) (disk after : D) (objects made : Objects) (log noted : Log) (x y : OnPages D g) (disk_in : x.disk ≡ disk) (objects_in : x.objects ≡ objects) (fine : x.refused ≡ None)
    (disk_out : after ≡ y.disk) (objects_out : made ≡ y.objects) (moves : Moves x y) (gate : gate_of noted ≡ gate_of log) where
  goes_in : (P : D → Objects → Type 0) → P disk objects → P x.disk x.objects
  goes_in P p = subst (λ (q : D × Objects). P q.0 q.1) (λ i. (sym disk_in i, sym objects_in i)) p

  goes_out : (P : D → Objects → Type 0) → P y.disk y.objects → P after made
  goes_out P p = subst (λ (q : D × Objects). P q.0 q.1) (λ i. (sym disk_out i, sym objects_out i)) p

  pub safe_in : (s : State) → HoldsSafe (g.told disk) objects s → Stands x s
  safe_in s h = stands_safe tells x s fine (goes_in (λ d o. HoldsSafe (g.told d) o s) h)

  pub frames_in : (P : ℕ → Type 0) → P (header_of (pages_of objects)).frames → P (header_of (pages_of x.objects)).frames
  frames_in P p = subst (λ (o : Objects). P (header_of (pages_of o)).frames) (sym objects_in) p

  pub open_out : IsOpenLog (g.told disk) log → y.refused ≡ None → AreOpen (g.told after) made noted
  open_out opened going = goes_out (λ d o. AreOpen (g.told d) o noted)
      (record { pages = y.known tells going; records = log_rolled tells x y log noted moves (goes_in (λ d o. IsOpenLog (g.told d) log) opened) gate })

  pub limit_out : limit_of (pages_of made) ≡ limit_of (pages_of objects)
  limit_out = ap (λ (o : Objects). limit_of (pages_of o)) objects_out ∙ (moves.goes tells).limit ∙ ap (λ (o : Objects). limit_of (pages_of o)) objects_in

  -- the header is the one from before
  pub counts_out : IsOpenLog (g.told disk) log → IsGateOf (g.told disk) (gate_of log) (record { gate = (header_of (pages_of objects)).frames; at = (header_of (pages_of objects)).place }) → log_frames noted ≤ (header_of (pages_of objects)).frames
      → CountsLog (g.told after) (header_of (pages_of made))
  counts_out opened place all =
      let header = header_of (pages_of objects) in
      let many : log_frames noted ≡ length (bodies_in (g.told disk) (gate_of log)) = ap frames_of gate ∙ opened.frames in
      let frames : header.frames ≡ log_frames log = (let count = place.count in omega (arith, all, many, count, opened.frames)) in
      let there : header.place ≡ gate_place ((g.told disk).content 2) header.frames = place.place ∙ ap (λ (n : ℕ). gate_place ((g.told disk).content n) header.frames) log.known_file in
      let counts : CountsLog (g.told x.disk) header = goes_in (λ d o. CountsLog (g.told d) header) (counts_so (g.told disk) log header opened frames there) in
      let same : header_of (pages_of made) ≡ header = ap (λ (o : Objects). header_of (pages_of o)) objects_out ∙ (moves.goes tells).header ∙ ap (λ (o : Objects). header_of (pages_of o)) objects_in in
      subst (λ (h : Header). CountsLog (g.told after) h) (sym same) (goes_out (λ d o. CountsLog (g.told d) header) (counts_beside (g.told x.disk) (g.told y.disk) header (moves.goes tells).others counts))

  pub left_out : LeavesPages (g.told disk) (g.told after)
  left_out = goes_out (λ d o. LeavesPages (g.told disk) (g.told d)) (subst (λ (d : D). LeavesPages (g.told d) (g.told y.disk)) disk_in (record { others = (moves.goes tells).others; stops = (moves.goes tells).stops }))

  -- ---- of a database

  module _ (limit : ℕ) (t : Tables) (is : IsRead (g.told disk) objects limit t) where
    read_in : IsRead (g.told x.disk) x.objects limit t
    read_in = goes_in (λ d o. IsRead (g.told d) o limit t) is

    pub stops_out : EachStop (g.told disk) (g.told after) (LeavesEither limit t t)
    stops_out = goes_out (λ d o. EachStop (g.told disk) (g.told d) (LeavesEither limit t t)) (subst (λ (d : D). EachStop (g.told d) (g.told y.disk) (LeavesEither limit t t)) disk_in (moved_stops tells limit t x y read_in moves))

    pub store_out : ((s : State) → Stands x s → IsLawful s → BringsUp x y (header_of (pages_of objects)).frames noted s) → IsOpenLog (g.told disk) log → IsStore (g.told after) made noted (settled t) t
    store_out brings opened =
        let there = read_in in
        let stands : Stands x there.saved = record { tells = tells; going = fine; holds = there.holds; saved = there.kept.saved; safe = there.kept.durable.pages; counted = there.kept.counted } in
        let b = frames_in (λ n. BringsUp x y n noted there.saved) (brings there.saved stands there.lawful) in
        goes_out (λ d o. IsStore (g.told d) o noted (settled t) t) (started tells limit t x y log noted there moves b (goes_in (λ d o. IsOpenLog (g.told d) log) opened) gate)

    pub limit_then : limit_of (pages_of made) ≡ limit
    limit_then = limit_out ∙ is.limited

  -- ---- of files that are formed

  module _ (s : State) (h : HoldsSafe (g.told disk) objects s) (brings : BringsUp x y (header_of (pages_of objects)).frames noted s) where
    pub safe_out : HoldsSafe (g.told after) made (settled brings.tables)
    safe_out = goes_out (λ d o. HoldsSafe (g.told d) o (settled brings.tables))
        (safe_settled tells x y (header_of (pages_of objects)).frames noted s (goes_in (λ d o. HoldsSafe (g.told d) o s) h) moves brings)

    pub settled_out : (now : State) (t : Tables) → AppliesBodies (later_in (g.told disk) objects) s now → undone now ≡ Some t → HoldsSafe (g.told after) made (settled t)
    settled_out now t applies is = goes_out (λ d o. HoldsSafe (g.told d) o (settled t))
        (settled_so tells x y (header_of (pages_of objects)).frames noted s now t (goes_in (λ d o. HoldsSafe (g.told d) o s) h) moves brings
        (goes_in (λ d o. AppliesBodies (drop (header_of (pages_of objects)).frames (bodies ((g.told d).content 2))) s now) applies) is)

    -- where the records lead
    pub later_out : (now : State) × AppliesBodies (later_in (g.told disk) objects) s now
    later_out = (
      brings.now,
      subst (λ (d : D). AppliesBodies (drop (header_of (pages_of objects)).frames (bodies ((g.told d).content 2))) s brings.now) disk_in brings.applied,
    )

-- The laws of a store's calls, over what disks tell.
use Rattle.std.proofs.Common.{◌≡◌, ◌⊎◌, ⊎_elim, inl, ℕ, List, [], ◌∷◌, ◌++◌, length, Some, refl, sym, ap, ◌∙◌, subst}
use Rattle.wat_disk.specs.Disk.{Image, Told, Leaves, IsSynced, EachStop}
use Rattle.wat_disk.proofs.Stops.{weaker}
use Rattle.wat_gate.specs.Bodies.{bodies, frames_len}
use Rattle.wat_restore.specs.Head.{Head}
use Rattle.wat_restore.specs.Restored.{Checkpoint}
use Rattle.wat_schema.specs.Tables.{Tables, apply_all}
use Rattle.wat_log_record.specs.declared.log_record.LogRecord.{LogRecord}
use Rattle.wat_log_record.specs.Bodies.{SpellsRecords}
use Rattle.wat_replay.specs.State.{State, IsLawful, undone}
use Rattle.wat_replay.specs.Replay.{Applies, AppliesAll}
use Rattle.wat_replay.specs.Committed.{CommitsNothing, commits_of}
use Rattle.wat_replay.proofs.Replaying.{all_stay_lawful, reached}
use Rattle.wat_replay.proofs.Committing.{restarts_once}
use Rattle.wat_files.specs.Formed.{IsSound, Opens, OneStart}
use Rattle.wat_files.proofs.Replaying.{one_start}
use Rattle.wat_keeping.specs.Durable.{Makes, IsAt, IsDatabase, LeavesEither}
use Rattle.wat_keeping.specs.Kept.{IsKept}
use Rattle.wat_keeping.specs.Steps.{CoversPages, ChangesPages, MayAppend, Appends, MaySave, SavesAll, SavesPages}
use Rattle.wat_keeping.proofs.Composing.{is_database, all_lawful}
use Rattle.wat_keeping.proofs.Keeping.{one_then, kept_now, kept_state, kept_note, pages_stop, pages_kept, commit_stop, commit_kept, checkpoint_stop, checkpoint_kept, kept_at_first, rolled_back}

-- ---- images

pub database : (saved : Checkpoint) (head : Head) (log : List (List ℕ)) (now : State) (t : Tables) (files : Image) → Makes saved head log now → undone now ≡ Some t → IsAt saved log files → IsDatabase head.limit t files
database saved head log now t files makes is at = is_database saved head log now makes files at t is

pub once : (limit other : ℕ) (t u : Tables) (files : Image) → IsDatabase limit t files → IsDatabase other u files → t ≡ u
once limit other t u files a b = restarts_once (bodies (files 2)) t u a.restarts b.restarts

pub opens : (limit : ℕ) (t : Tables) (files : Image) → IsDatabase limit t files → Opens files t
opens limit t files is =
    let start : OneStart files = one_start files is.sound in
    subst (λ (u : Tables). Opens files u) (restarts_once (bodies (files 2)) start.tables t start.restarts is.restarts) start.opens

-- ---- what is kept

pub first : (told : Told) (t : Tables) (sound : IsSound told.content) → IsSynced told 0 → IsSynced told 1 → IsSynced told 2 → undone sound.formed.now ≡ Some t
    → IsKept sound.formed.head.limit sound.formed.head.count told [] sound.formed.now t
first told t sound main before log is = kept_at_first told main before log sound t is

pub now : (told : Told) (limit stored : ℕ) (noted : List LogRecord) (s : State) (t : Tables) → IsKept limit stored told noted s t → (image : Image) → Leaves told image → IsDatabase limit t image
now told limit stored noted s t k image left = kept_now limit stored told told noted s t k image left

pub committed : (told : Told) (limit stored : ℕ) (noted : List LogRecord) (s : State) (t : Tables) → IsKept limit stored told noted s t → undone s ≡ Some t
committed told limit stored noted s t k = kept_state limit stored told told noted s t k

pub no_list : (told : Told) (limit stored : ℕ) (noted : List LogRecord) (s : State) (t : Tables) → IsKept limit stored told noted s t → ((conn : ℕ) → s.lists conn ≡ []) → s.tables ≡ t
no_list told limit stored noted s t k none = rolled_back limit stored told noted s t k none

pub note : (told : Told) (limit stored : ℕ) (noted : List LogRecord) (entry : LogRecord) (s next : State) (t : Tables) → IsKept limit stored told noted s t → Applies entry s next → CommitsNothing entry
    → IsKept limit stored told (noted ++ entry ∷ []) next t
note told limit stored noted entry s next t k applies nothing = kept_note limit stored told told noted s t k entry next applies nothing

pub commits : (told : Told) (limit stored : ℕ) (noted more : List LogRecord) (s next : State) (t : Tables) → IsKept limit stored told noted s t → AppliesAll more s next
    → undone next ≡ apply_all (commits_of more s.lists) t
commits told limit stored noted more s next t k applied =
    let lawful : IsLawful s = all_stay_lawful noted k.flushed s (all_lawful k.saved k.head k.log k.flushed k.makes) k.unflushed in
    reached more s next t lawful applied (committed told limit stored noted s t k)

-- ---- calls of the pages

pub pages_stopped : (old new : Told) (limit stored : ℕ) (noted : List LogRecord) (s : State) (t : Tables) → IsKept limit stored old noted s t → CoversPages old new → EachStop old new (LeavesEither limit t t)
pages_stopped old new limit stored noted s t k stops = pages_stop limit stored old new noted s t k stops

pub pages_stay : (old new : Told) (limit stored : ℕ) (noted : List LogRecord) (s : State) (t : Tables) → IsKept limit stored old noted s t → CoversPages old new → ChangesPages old new → IsKept limit stored new noted s t
pages_stay old new limit stored noted s t k stops changes = pages_kept limit stored old new noted s t k stops changes.others changes.safe

-- ---- appends

pub append_stopped : (old new : Told) (limit stored : ℕ) (noted more : List LogRecord) (s next : State) (t after : Tables) (body : List ℕ) → IsKept limit stored old noted s t → SpellsRecords body (noted ++ more)
    → AppliesAll more s next → undone next ≡ Some after → MayAppend body old new → EachStop old new (LeavesEither limit t after)
append_stopped old new limit stored noted more s next t after body k spells applied is stops = commit_stop limit stored old new noted more s next t after k body spells applied is stops

pub append_stays : (old new : Told) (limit stored : ℕ) (noted more : List LogRecord) (s next : State) (t after : Tables) (body : List ℕ) → IsKept limit stored old noted s t → SpellsRecords body (noted ++ more)
    → AppliesAll more s next → undone next ≡ Some after → MayAppend body old new → Appends body old new → IsKept limit stored new [] next after
append_stays old new limit stored noted more s next t after body k spells applied is stops added =
    commit_kept limit stored old new noted more s next t after k body spells applied is stops added.synced added.whole added.added added.others

-- ---- checkpoints

pub checkpoint_stopped : (old new : Told) (limit stored : ℕ) (s : State) (t : Tables) (next : Checkpoint) (head : Head) → IsKept limit stored old [] s t → SavesAll next head limit (bodies (old.content 2)) s
    → MaySave stored next old new → EachStop old new (LeavesEither limit t t)
checkpoint_stopped old new limit stored s t next head k all stops =
    checkpoint_stop limit stored old new s t k next head stops all.saves (all.frames ∙ ap length k.durable.bodies) (all.place ∙ ap frames_len k.durable.bodies) all.limited

pub checkpoint_stays : (old new : Told) (limit stored : ℕ) (s : State) (t : Tables) (next : Checkpoint) (head : Head) → IsKept limit stored old [] s t → SavesAll next head limit (bodies (old.content 2)) s
    → MaySave stored next old new → SavesPages next old new → IsKept limit next.count new [] s t
checkpoint_stays old new limit stored s t next head k all stops saved =
    checkpoint_kept limit stored old new s t k next head stops all.saves (all.frames ∙ ap length k.durable.bodies) (all.place ∙ ap frames_len k.durable.bodies) all.limited saved.others saved.safe

-- ---- one call behind another

either_of : (limit : ℕ) (t after : Tables) (image : Image) → (IsDatabase limit t image ⊎ IsDatabase limit t image) ⊎ (IsDatabase limit t image ⊎ IsDatabase limit after image) → IsDatabase limit t image ⊎ IsDatabase limit after image
either_of limit t after image both = ⊎_elim
    (λ (earlier : IsDatabase limit t image ⊎ IsDatabase limit t image). inl (⊎_elim (λ (x : IsDatabase limit t image). x) (λ (x : IsDatabase limit t image). x) earlier))
    (λ (later : IsDatabase limit t image ⊎ IsDatabase limit after image). later)
    both

pub call_behind : (old mid new : Told) (limit : ℕ) (t after : Tables) → EachStop old mid (LeavesEither limit t t) → EachStop mid new (LeavesEither limit t after) → EachStop old new (LeavesEither limit t after)
call_behind old mid new limit t after first second =
    let earlier = λ (image : Image). IsDatabase limit t image ⊎ IsDatabase limit t image in
    let later = λ (image : Image). IsDatabase limit t image ⊎ IsDatabase limit after image in
    weaker old new (λ before image. earlier image ⊎ later image) (LeavesEither limit t after) (one_then old mid new earlier later first second)
    (λ before image left both. either_of limit t after image both)

-- Files with the bytes of a new database are one, of no tables.
use Rattle.std.proofs.Common.{◌≡◌, ◌≢◌, ℕ, zero, suc, ◌<◌, ◌^◌, ◌%◌, List, [], ◌∷◌, length, Option, Some, refl, sym, subst, arith}
use Rattle.std.specs.Prelude.{nat_eq, All, MatchOption}
use Rattle.std.specs.List.{flat_map, IsDistinct}
use Rattle.std.specs.Map.{lookup, keys_of}
use Rattle.std.proofs.lemmas.List.Elements.{All-nil}
use Rattle.wat_disk.specs.Disk.{Image, Told, EachLeft}
use Rattle.wat_gate.specs.Bodies.{open_gate, bodies, IsWhole}
use Rattle.wat_gate.proofs.Frames.{front-nil, whole_at}
use Rattle.wat_restore.specs.Head.{head_bytes}
use Rattle.wat_restore.specs.Restored.{images_of, HasPage, StandsIn, IsImageLog}
use Rattle.wat_book.specs.Book.{Section}
use Rattle.wat_book.specs.Chains.{IsLink}
use Rattle.wat_book.proofs.Chaining.{none_twice}
use Rattle.wat_schema.specs.Tables.{Tables, no_tables}
use Rattle.wat_log_record.specs.Bodies.{SpellsLog}
use Rattle.wat_replay.specs.State.{Lists, no_lists, empty_state, undo_below, connections, undone}
use Rattle.wat_files.specs.Pages.{first_pages}
use Rattle.wat_files.specs.Chains.{Chains, HasChains}
use Rattle.wat_files.specs.Formed.{HasHeader, CanUndo, HasLog, AppliesBodies, IsFormed, IsSound, Restarts}
use Rattle.wat_files.proofs.Holding.{page_stands}
use Rattle.wat_keeping.specs.Durable.{IsDatabase}
use Rattle.wat_keeping.specs.Kept.{IsKept}
use Rattle.wat_keeping.proofs.Calls.{first, now}
use Rattle.wat_create.specs.Made.{first_head, no_listings, catalog_page, main_bytes, AreNew, AreSynced}
use Rattle.wat_create.proofs.New.{first_page, second_page, is_head, in_chain, one_alone, schema, spells_schema, is_catalog}

abbrev chains : Chains
chains = record { catalog = 1 ∷ []; schema = no_listings; rollback = []; changes = []; free = [] }

undone_none : (n : ℕ) (lists : Lists) (t : Tables) → ((conn : ℕ) → lists conn ≡ []) → undo_below n lists t ≡ Some t
undone_none zero lists t none = refl
undone_none (suc n) lists t none = rw (undone_none n lists t none) (rw (none n) refl)

nothing_undone : undone empty_state ≡ Some no_tables
nothing_undone = undone_none connections no_lists no_tables (λ conn. refl)

can_undo : CanUndo empty_state
can_undo = record { apart = λ a b differ. refl; undoes = rw nothing_undone refl }

-- a closed gate alone is a log without frames
module _ (log : List ℕ) (gate : ℕ) (closed : gate ≢ open_gate) (is : log ≡ gate ∷ []) where
  pub no_bodies : bodies log ≡ []
  no_bodies = (whole_at [] [] gate [] log front-nil closed is).0

  pub is_whole : IsWhole log
  is_whole = (whole_at [] [] gate [] log front-nil closed is).1

  is_image_log : IsImageLog log
  is_image_log = record {
    whole = is_whole;
    images = subst (All (λ (body : List ℕ). length body % 4100 ≡ 0)) (sym no_bodies) (All-nil (λ (body : List ℕ). length body % 4100 ≡ 0));
    once = subst (λ (all : List (List ℕ)). IsDistinct nat_eq (keys_of (flat_map images_of all))) (sym no_bodies) none_twice;
  }

-- the before file may have another closed gate
module _ (limit : ℕ) (small : limit < 2 ^ 32) (files : Image) (gate : ℕ) (closed : gate ≢ open_gate)
    (main : files 0 ≡ main_bytes limit) (before : files 1 ≡ gate ∷ []) (log : files 2 ≡ 0 ∷ []) where
  no_gate : 0 ≢ open_gate
  no_gate e = omega (arith, e)

  no_frames : bodies (files 2) ≡ []
  no_frames = no_bodies (files 2) 0 no_gate log

  stands : (page : ℕ) (bytes : List ℕ) → HasPage (main_bytes limit) page bytes → StandsIn files page bytes
  stands page bytes has =
      subst (λ (all : List (List ℕ)). MatchOption (lookup (nat_eq page) (flat_map images_of all)) (HasPage (files 0) page bytes) (λ image. image ≡ bytes)) (sym (no_bodies (files 1) gate closed before))
      (subst (λ (m : List ℕ). HasPage m page bytes) (sym main) has)

  has_header : HasHeader files (first_head limit)
  has_header = record {
    log = is_image_log (files 1) gate closed before;
    is = record { page = head_bytes (first_head limit); stands = stands 0 (head_bytes (first_head limit)) (first_page limit); is = is_head limit small };
  }

  abbrev pages : Section
  pages = first_pages files 2

  link : IsLink (pages 1) 0 no_listings
  link = subst (λ (o : Option (List ℕ)). IsLink o 0 no_listings) (sym (page_stands files 1 catalog_page (stands 1 catalog_page (second_page limit)))) in_chain

  has_chains : HasChains pages (first_head limit) chains
  has_chains = record {
    some = omega arith;
    catalog = record { chain = (refl, omega arith, 0, no_listings, [], link, refl, (refl, refl)); once = one_alone };
    rollback = record { chain = (refl, refl); once = one_alone };
    free = record { chain = refl; once = one_alone };
  }

  has_log : HasLog (files 2) (first_head limit)
  has_log = record { whole = is_whole (files 2) 0 no_gate log; frames = omega arith; place = refl }

  abbrev is_formed : IsFormed files
  is_formed = record {
    head = first_head limit;
    header = has_header;
    saved = empty_state;
    stands = record {
      chains = chains;
      has = has_chains;
      schema = schema;
      holds = record { spells = spells_schema; next = refl };
      lists = record { none = λ _. refl; some = λ some. absurd (some refl) };
      catalog = is_catalog;
      rows = refl;
      undoes = can_undo;
    };
    log = has_log;
    now = empty_state;
    later = subst (λ (all : List (List ℕ)). AppliesBodies all empty_state empty_state) (sym no_frames) refl;
  }

  abbrev is_sound : IsSound files
  is_sound = record { formed = is_formed; agrees = record { earlier = []; spelled = refl; replayed = refl } }

  restarts : Restarts files no_tables
  restarts = record { entries = []; spelled = subst (λ (all : List (List ℕ)). SpellsLog all []) (sym no_frames) refl; committed = refl }

  pub is_database : IsDatabase limit no_tables files
  is_database = record { sound = is_sound; restarts = restarts; limited = refl }

-- such files, all on the disk, are kept
pub new_kept : (limit : ℕ) (told : Told) → limit < 2 ^ 32 → AreNew limit told.content → AreSynced told → IsKept limit 2 told [] empty_state no_tables
new_kept limit told small are synced =
    let closed : 0 ≢ open_gate = λ e. omega (arith, e) in
    first told no_tables (is_sound limit small told.content 0 closed are.main are.before are.log) synced.main synced.before synced.log nothing_undone

-- whatever a stop then leaves is the new database
pub new_left : (limit : ℕ) (told : Told) → IsKept limit 2 told [] empty_state no_tables → EachLeft told told.moment told.moment (IsDatabase limit no_tables)
new_left limit told kept image left =
    let here : left.0 ≡ told.moment = omega (arith, left.1, left.2) in
    now told limit 2 [] empty_state no_tables kept image (subst (λ (t : ℕ). told.left_at t image) here left.3)

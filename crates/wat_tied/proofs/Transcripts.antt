-- The transcripts of a state that is tied tell of the serial history.
use Rattle.std.proofs.Common.{◌≡◌, ℕ, false, not, List, [], ◌∷◌, ◌++◌, map, IsPermutation, refl, sym, ap, ◌∙◌, subst, inl, inr}
use Rattle.std.specs.List.{AllByRecursion, flat_map, range_with_len, zip}
use Rattle.std.proofs.lemmas.Bool.{not-true}
use Rattle.wat_list.specs.Has.{Has}
use Rattle.wat_list.proofs.Members.{has_filter}
use Rattle.wat_schema.specs.Tables.{Tables}
use Rattle.wat_conn.specs.declared.session.Session.{Session}
use Rattle.wat_history.specs.Connection.{Part, new_connection, parts_of}
use Rattle.wat_history.specs.History.{Commit, IsHistory, commits_from, commits_of, connections_of, open_parts}
use Rattle.wat_history.specs.Plain.{PlainAfterSome}
use Rattle.wat_history.specs.Serial.{Follows, Serial}
use Rattle.wat_steps.specs.State.{CoreState}
use Rattle.wat_tied.specs.Told.{parts_told, stands_told, all_told, going_on, IsHistoryTold, IsSerialTold, IsSessionOf}
use Rattle.wat_tied.specs.Tied.{IsTied}
use Rattle.wat_tied.proofs.Serially.{open_serial}

-- ---- what is open

each_follows : (t : Tables) (f : ℕ → List Part) (cs : List ℕ) → ((c : ℕ) → Has c cs → (after : Tables) × Follows 3 t (f c) after) → AllByRecursion (λ parts. (after : Tables) × Follows 3 t parts after) (map f cs)
each_follows t f [] each = tt
each_follows t f (c ∷ cs) each = (each c (inl refl), each_follows t f cs (λ d m. each d (inr m)))

pub open_follows : (e : CoreState) (tied : IsTied e) (c : ℕ) → (e.connections c).has_ended ≡ false → (after : Tables) × Follows 3 e.committed (open_parts (stands_told (e.connections c))) after
open_follows e tied c on = let r = open_serial e tied c in (r.0, subst (λ z. Follows 3 e.committed z r.0) (sym ((tied.ties.told c).open_parts on)) r.1)

pub serial_told : (base : Tables) (e : CoreState) (tied : IsTied e) → e.base ≡ base → IsSerialTold base e tied.ghost.history
serial_told base e tied is = record {
  is_history = tied.ties.history;
  serial = subst (λ (z : Tables). Serial 3 z tied.ghost.history e.committed) is tied.ties.serial;
  plain = λ c p m. subst (λ (z : Tables). PlainAfterSome 3 z tied.ghost.history p) is (tied.ties.plain c p m);
  open_serial = each_follows e.committed (λ c. open_parts (stands_told (e.connections c))) (going_on e)
      (λ c m. open_follows e tied c (not-true (e.connections c).has_ended (has_filter (λ d. not (e.connections d).has_ended) c (range_with_len 1 e.count) m).1));
}

-- ---- a session

paired : (f : ℕ → List ℕ) (g : ℕ → List _) (cs : List ℕ) → map (λ x. parts_of x.0 x.1) (zip (map f cs) (map g cs)) ≡ map (λ c. parts_of (f c) (g c)) cs
paired f g [] = refl
paired f g (c ∷ cs) = ap (λ z. parts_of (f c) (g c) ∷ z) (paired f g cs)

flat_mapped : {A B : Type 0} (f : A → List B) (g : ℕ → A) (cs : List ℕ) → flat_map f (map g cs) ≡ flat_map (λ c. f (g c)) cs
flat_mapped f g [] = refl
flat_mapped f g (c ∷ cs) = ap (λ z. f (g c) ++ z) (flat_mapped f g cs)

pub session_history : (e : CoreState) (s : Session) (history : List Commit) → IsSessionOf e s → IsHistoryTold e history → IsHistory s history
session_history e s history of is = record {
  all = subst (λ z. IsPermutation z history) (sym same) is.all;
  numbers = is.numbers;
}
  where
    pairs : connections_of s ≡ map (λ c. parts_told (e.connections c)) (range_with_len 1 e.count)
    pairs = (λ j. map (λ x. parts_of x.0 x.1) (zip (of.scripts j) (of.transcripts j))) ∙ paired (λ c. (e.connections c).script) (λ c. (e.connections c).transcript) (range_with_len 1 e.count)

    same : commits_of s ≡ all_told e
    same = ap (flat_map (commits_from new_connection)) pairs ∙ flat_mapped (commits_from new_connection) (λ c. parts_told (e.connections c)) (range_with_len 1 e.count)

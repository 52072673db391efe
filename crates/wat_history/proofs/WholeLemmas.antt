-- A session of one script, whose connection is alone.
use Rattle.std.proofs.Common.{◌≡◌, ℕ, ◌≤◌, nat_lt, true, List, [], ◌∷◌, map, length, ap, sym, subst, refl, arith}
use Rattle.std.specs.List.{AllByRecursion, zip}
use Rattle.std.proofs.lemmas.Bool.{ltb-true}
use Rattle.wat_schema.specs.Tables.{Tables}
use Rattle.wat_conn.specs.declared.session.Entry.{Entry}
use Rattle.wat_conn.specs.declared.session.Session.{Session}
use Rattle.wat_history.specs.Connection.{Part, new_connection, parts_of}
use Rattle.wat_history.specs.Fits.{Fits}
use Rattle.wat_history.specs.History.{Commit, EachFits, commits_from, connections_of, effects, entries_of}
use Rattle.wat_history.specs.Plain.{PlainAfterSome}
use Rattle.wat_history.specs.Naming.{names_of}
use Rattle.wat_history.specs.Single.{Stage, IsAlone, begun}
use Rattle.wat_history.specs.Sessions.{IsSerialSession}
use Rattle.wat_history.proofs.SingleLemmas.{history_alone, numbers_alone, serial_alone}

-- no level is below 0
not_below : (level : ℕ) → nat_lt level 0 ≡ true → ⊥
not_below level h = let below = ltb-true level 0 h in omega arith

at_least_none : (n : ℕ) → 0 ≤ n
at_least_none n = omega arith

plain_part : (base : Tables) (history : List Commit) (p : Part) → PlainAfterSome 0 base history p
plain_part base history p = (0, at_least_none (length history), λ below. absurd (not_below p.entry.level below))

all_plain : (base : Tables) (history : List Commit) (parts : List Part) → AllByRecursion (PlainAfterSome 0 base history) parts
all_plain base history [] = tt
all_plain base history (p ∷ parts) = (plain_part base history p, all_plain base history parts)

-- the connections of a session of one script
one_connection : (s : Session) (text : List ℕ) (entries : List Entry) → s.scripts ≡ text ∷ [] → entries_of s ≡ entries ∷ [] → connections_of s ≡ parts_of text entries ∷ []
one_connection s text entries scripts own = subst (λ (texts : List (List ℕ)). map (λ (x : List ℕ × List Entry). parts_of x.0 x.1) (zip texts (entries_of s)) ≡ parts_of text entries ∷ []) (sym scripts)
    (subst (λ (all : List (List Entry)). map (λ (x : List ℕ × List Entry). parts_of x.0 x.1) (zip (text ∷ []) all) ≡ parts_of text entries ∷ []) (sym own) refl)

pub whole : (s : Session) (base : Tables) (text : List ℕ) (entries : List Entry) (last : Stage) → s.scripts ≡ text ∷ [] → entries_of s ≡ entries ∷ [] → Fits text entries s.stop → IsAlone (begun base) (parts_of text entries) last
    → length s.moments.items ≡ length (commits_from new_connection (parts_of text entries)) → s.names ≡ names_of base (effects (commits_from new_connection (parts_of text entries)))
    → IsSerialSession 0 base s (commits_from new_connection (parts_of text entries)) last.committed
whole s base text entries last scripts own fits alone moments names =
    let parts = parts_of text entries in
    let history = commits_from new_connection parts in
    let connections = one_connection s text entries scripts own in
    record {
      fits = subst (λ (texts : List (List ℕ)). EachFits s.stop texts (entries_of s)) (sym scripts) (subst (λ (all : List (List Entry)). EachFits s.stop (text ∷ []) all) (sym own) (fits, tt));
      is_history = history_alone s parts connections (numbers_alone s.stop base parts last fits.answers alone);
      serial = serial_alone s.stop base parts last fits.answers alone;
      plain = subst (λ (all : List (List Part)). AllByRecursion (AllByRecursion (PlainAfterSome 0 base history)) all) (sym connections) (all_plain base history parts, tt);
      moments = moments;
      names = names;
    }

-- One connection of a state anew, and locks that go.
use Rattle.std.proofs.Common.{◌≡◌, ℕ, ◌-◌, ◌≤◌, ◌==◌, Bool, true, false, not, cond, ◌&&◌, zero, suc, ◌<◌, List, [], ◌∷◌, length, filter, get_or, Some, None, arith, refl, sym, ap, ◌∙◌, subst}
use Rattle.std.specs.Prelude.{slice_get, slice_set, is_some, Result, Ok, Err, OnOk}
use Rattle.std.proofs.lemmas.List.{length-set}
use Rattle.wat_list.specs.Has.{Has, HasSame}
use Rattle.wat_list.proofs.Members.{has_filter, filter_has}
use Rattle.wat_locks.specs.declared.held.Held.{Held}
use Rattle.wat_steps.specs.State.{ConnectionState, CoreState, with_connection}
use Rattle.wat_steps.specs.Answering.{ended, without_short}
use Rattle.wat_core.specs.Parts.{HasParts, connection_of}
use Rattle.wat_core.proofs.PartLemmas.{connection_here, connection_set, there_is}
use Rattle.wat_core.specs.CoreParts.{CoreParts, HasCore}

same_itself : (held : List Held) → HasSame held held
same_itself held h = (λ there. there, λ there. there)

pub same_over : (a b c : List Held) → HasSame a b → HasSame b c → HasSame a c
same_over a b c first second h = (λ there. (second h).0 ((first h).0 there), λ there. (first h).1 ((second h).1 there))

-- those that pass a test are the same, too
pub same_filter : (p : Held → Bool) (a b : List Held) → HasSame a b → HasSame (filter p a) (filter p b)
same_filter p a b same h = (
  λ there. let was = has_filter p h a there in filter_has p h b ((same h).0 was.0) was.1,
  λ there. let was = has_filter p h b there in filter_has p h a ((same h).1 was.0) was.1,
)

-- the connection of that number
pub here : (e : CoreState) (parts : CoreParts) (c : ℕ) (k : ConnectionState) → HasCore e parts → 1 ≤ c → slice_get parts.states (c - 1) ≡ Some k → e.connections c ≡ k
here e parts c k has one is =
    connection_here e parts.states e.held c k (record { count = has.count; connections = has.connections; held = refl }) one is

-- that connection anew
pub changed : (e : CoreState) (parts : CoreParts) (c : ℕ) (k : ConnectionState) (f : ConnectionState → ConnectionState) → HasCore e parts → 1 ≤ c → c ≤ length parts.states
    → slice_get parts.states (c - 1) ≡ Some k → HasCore (with_connection c (f (e.connections c)) e) (record parts { states = slice_set parts.states (c - 1) (f k) })
changed e parts c k f has one within is = record {
  count = has.count ∙ sym (length-set parts.states (c - 1) (f k));
  connections = λ d.
      ap (λ (o : ConnectionState). cond (c == d) (f o) (e.connections d)) (here e parts c k has one is)
      ∙ ap (λ (o : ConnectionState). cond (c == d) (f k) o) (has.connections d)
      ∙ sym (connection_set parts.states c (f k) d one within);
  held = has.held;
}

-- other locks
pub freed : (e : CoreState) (parts : CoreParts) (p : Held → Bool) (held : List Held) → HasCore e parts → HasSame held (filter p parts.held) → HasCore (record e { held = filter p e.held }) (record parts { held = held })
freed e parts p held has same = record {
  count = has.count;
  connections = has.connections;
  held = same_over held (filter p parts.held) (filter p e.held) same (same_filter p parts.held e.held has.held);
}

-- ---- over the list of connections

abbrev pub parts_of : List ConnectionState → List Held → CoreParts
parts_of xs locks = record { states = xs; held = locks }

module _ (e : CoreState) (parts : CoreParts) (xs : List ConnectionState) (locks : List Held) (c : ℕ) (k after : ConnectionState) (f : ConnectionState → ConnectionState)
    (seen : parts_of xs locks ≡ parts) (has : HasCore e parts) (one : 1 ≤ c) (within : c ≤ length parts.states) (is : k ≡ get_or xs (c - 1) k) where
  in_list : c ≤ length xs
  in_list = subst (λ (p : CoreParts). c ≤ length p.states) (sym seen) within

  has_list : HasCore e (parts_of xs locks)
  has_list = subst (λ (p : CoreParts). HasCore e p) (sym seen) has

  there : slice_get xs (c - 1) ≡ Some k
  there = let held = in_list in let low : c - 1 < length xs = omega arith in there_is xs (c - 1) k low is

  -- the connection is the one that the state has
  pub found : e.connections c ≡ k
  found = here e (parts_of xs locks) c k has_list one there

  -- it is anew
  pub anew : after ≡ f k → HasCore (with_connection c (f (e.connections c)) e) (record { states = slice_set xs (c - 1) after; held = locks })
  anew made =
      subst (λ (x : ConnectionState). HasCore (with_connection c (f (e.connections c)) e) (record { states = slice_set xs (c - 1) x; held = locks })) (sym made)
      (changed e (parts_of xs locks) c k f has_list one in_list there)

  pub anew_if : {X Y : Type 0} (r : Result X Y) → OnOk r (after ≡ f k) → OnOk r (HasCore (with_connection c (f (e.connections c)) e) (record { states = slice_set xs (c - 1) after; held = locks }))
  anew_if (Ok x) made = anew made
  anew_if (Err y) made = tt

  -- and locks go
  pub anew_freed : (p : Held → Bool) (left : List Held) → after ≡ f k → HasSame left (filter p locks)
      → HasCore (record (with_connection c (f (e.connections c)) e) { held = filter p e.held }) (record { states = slice_set xs (c - 1) after; held = left })
  anew_freed p left made same = freed (with_connection c (f (e.connections c)) e) (record { states = slice_set xs (c - 1) after; held = locks }) p left (anew made) same

-- the transaction is over
pub over : (e : CoreState) (c : ℕ) (parts : CoreParts) → HasCore (record (with_connection c (record (e.connections c) { transaction = None }) e) { held = filter (λ (h : Held). not (h.conn == c)) e.held }) parts
    → HasCore (ended c e) parts
over e c parts has = record { count = has.count; connections = has.connections; held = has.held }

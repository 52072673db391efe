-- The named conflict, table by table.
use Rattle.std.proofs.Common.{◌≡◌, ℕ, Bool, true, false, not, ◌&&◌, List, ◌++◌, filter, refl, sym, ◌∙◌, ap, subst, ⊎_elim, Option, Some, None}
use Rattle.std.specs.Prelude.{◌==◌}
use Rattle.std.specs.List.{list_any}
use Rattle.std.proofs.lemmas.Bool.{and_parts, eqb-true, eq-eqb, both_ways}
use Rattle.std.specs.Ordering.{is_eq}
use Rattle.wat_value.specs.OrderLaws.{equal_of}
use Rattle.wat_list.specs.Has.{Has}
use Rattle.wat_list.proofs.Members.{has_left, has_right, has_cases, has_map, map_has, has_filter, filter_has, any_has, has_any}
use Rattle.wat_locks.specs.declared.lock.Lock.{Lock}
use Rattle.wat_locks.specs.declared.lock.Resource.{Resource}
use Rattle.wat_locks.specs.declared.held.Held.{Held}
use Rattle.wat_locks.specs.declared.table.Holder.{Holder}
use Rattle.wat_locks.specs.declared.table.Table.{Table}
use Rattle.wat_locks.specs.Conflict.{excludes}
use Rattle.wat_locks.specs.Order.{resource_cmp, resource_eq}
use Rattle.wat_locks.specs.OrderLaws.{resource_level, resource_itself}
use Rattle.wat_locks.specs.Held.{Opposes, IsFree, IsNamedBefore}
use Rattle.wat_locks.specs.Tables.{held_by, held_in, is_of, is_in_the_way, IsNamedBy, IsHolderBefore}
use Rattle.wat_locks.proofs.HeldLemmas.{named_trans, itself}

-- a set's test finds the resources that stand in it
pub found_has : (r : Resource) (keys : List Resource) → list_any (resource_eq r) keys ≡ true → Has r keys
found_has r keys h =
    let found = any_has (resource_eq r) keys h in
    subst (λ (x : Resource). Has x keys) (sym (resource_level r found.0 (equal_of (resource_cmp r found.0) found.2))) found.1

pub has_found : (r : Resource) (keys : List Resource) → Has r keys → list_any (resource_eq r) keys ≡ true
has_found r keys h = has_any (resource_eq r) r keys h (ap is_eq (resource_itself r r refl))

-- of the locks in this list this one alone is in the way
record IsOnly (more : List Held) (conn : ℕ) (lock : Lock) (e : Held) : Type 0 where
  there : Has e more
  opposes : Opposes conn lock e
  same : (h : Held) → Has h more → Opposes conn lock h → e ≡ h

not_true : (b : Bool) → (b ≡ true → ⊥) → b ≡ false
not_true true n = absurd (n refl)
not_true false n = refl

of_not : (b : Bool) → not b ≡ true → b ≡ true → ⊥
of_not true h e = both_ways false refl h
of_not false h e = both_ways false refl e

to_not : (b : Bool) → (b ≡ true → ⊥) → not b ≡ true
to_not true n = absurd (n refl)
to_not false n = refl

pub and_both : (a b : Bool) → a ≡ true → b ≡ true → (a && b) ≡ true
and_both true b e f = f
and_both false b e f = absurd (both_ways false refl e)

module _ (only : Option ℕ) (conn : ℕ) (lock : Lock) (t : Table) where
  abbrev more : List Held
  more = filter (λ (h : Held). is_of only h.conn) (held_in t)

  abbrev e : Held
  e = held_by t.by lock.resource

  the_one : (h : Held) → Has h more → Opposes conn lock h → e ≡ h
  the_one h there o =
      let made = has_map (held_by t.by) h t.resources.keys (has_filter (λ (x : Held). is_of only x.conn) h (held_in t) there).0 in
      let same : lock.resource ≡ made.0 = o.1.1 ∙ ap (λ (x : Held). x.lock.resource) (sym made.2) in
      ap (held_by t.by) same ∙ made.2

  in_the_way : is_in_the_way only conn lock t ≡ true → IsOnly more conn lock e
  in_the_way h =
      let a = and_parts (is_of only t.by.conn && not (t.by.conn == conn) && excludes lock.kind t.by.kind) (list_any (resource_eq lock.resource) t.resources.keys) h in
      let b = and_parts (is_of only t.by.conn && not (t.by.conn == conn)) (excludes lock.kind t.by.kind) a.0 in
      let k = and_parts (is_of only t.by.conn) (not (t.by.conn == conn)) b.0 in record {
        there = filter_has (λ (x : Held). is_of only x.conn) e (held_in t) (map_has (held_by t.by) lock.resource t.resources.keys (found_has lock.resource t.resources.keys a.1)) k.0;
        opposes = (λ same. of_not (t.by.conn == conn) k.1 (eq-eqb t.by.conn conn same), (b.1, refl));
        same = the_one;
      }

  not_in_the_way : is_in_the_way only conn lock t ≡ false → IsFree more conn lock
  not_in_the_way h x there o =
      let both = has_filter (λ (y : Held). is_of only y.conn) x (held_in t) there in
      let made = has_map (held_by t.by) x t.resources.keys both.0 in
      let is : e ≡ x = the_one x there o in
      let here : Has lock.resource t.resources.keys = subst (λ (r : Resource). Has r t.resources.keys) (ap (λ (y : Held). y.lock.resource) made.2 ∙ sym o.1.1) made.1 in
      let of : is_of only t.by.conn ≡ true = ap (λ (y : Held). is_of only y.conn) is ∙ both.1 in
      let other : (t.by.conn ≡ conn) → ⊥ = λ s. o.0 (ap (λ (y : Held). y.conn) (sym is) ∙ s) in
      let out : excludes lock.kind t.by.kind ≡ true = ap (λ (y : Held). excludes lock.kind y.lock.kind) is ∙ o.1.0 in
      both_ways (is_in_the_way only conn lock t) h
      (and_both (is_of only t.by.conn && not (t.by.conn == conn) && excludes lock.kind t.by.kind) (list_any (resource_eq lock.resource) t.resources.keys)
      (and_both (is_of only t.by.conn && not (t.by.conn == conn)) (excludes lock.kind t.by.kind)
      (and_both (is_of only t.by.conn) (not (t.by.conn == conn)) of (to_not (t.by.conn == conn) (λ s. other (eqb-true t.by.conn conn s))))
      out)
      (has_found lock.resource t.resources.keys here))

  -- a table that is not in the way
  pub named_skip : (held : List Held) (best : Option Holder) → is_in_the_way only conn lock t ≡ false → IsNamedBy held conn lock best → IsNamedBy (held ++ more) conn lock best
  named_skip held None out free = λ h there o. ⊎_elim (λ p. free h p o) (λ q. not_in_the_way out h q o) (has_cases h held more there)
  named_skip held (Some least) out is = record {
    stands = has_left (held_by least lock.resource) held more is.stands;
    opposes = is.opposes;
    first = λ h there o. ⊎_elim (λ p. is.first h p o) (λ q. absurd (not_in_the_way out h q o)) (has_cases h held more there);
  }

  -- the first that is in the way
  pub named_new : (held : List Held) → is_in_the_way only conn lock t ≡ true → IsFree held conn lock → IsNamedBy (held ++ more) conn lock (Some t.by)
  named_new held met free =
      let one = in_the_way met in record {
        stands = has_right e held more one.there;
        opposes = one.opposes;
        first = λ h there o. ⊎_elim (λ q. absurd (free h q o)) (λ q. itself e h (one.same h q o)) (has_cases h held more there);
      }

  -- one that is named before the least so far
  pub named_replace : (held : List Held) (least : Holder) → is_in_the_way only conn lock t ≡ true → IsHolderBefore t.by least → IsNamedBy held conn lock (Some least) → IsNamedBy (held ++ more) conn lock (Some t.by)
  named_replace held least met before is =
      let one = in_the_way met in record {
        stands = has_right e held more one.there;
        opposes = one.opposes;
        first = λ h there o. ⊎_elim (λ q. named_trans e (held_by least lock.resource) h before (is.first h q o)) (λ q. itself e h (one.same h q o)) (has_cases h held more there);
      }

  -- one that is named after the least so far
  pub named_keep : (held : List Held) (least : Holder) → is_in_the_way only conn lock t ≡ true → IsHolderBefore least t.by → IsNamedBy held conn lock (Some least) → IsNamedBy (held ++ more) conn lock (Some least)
  named_keep held least met before is =
      let one = in_the_way met in record {
        stands = has_left (held_by least lock.resource) held more is.stands;
        opposes = is.opposes;
        first = λ h there o. ⊎_elim (λ q. is.first h q o) (λ q. subst (λ (x : Held). IsNamedBefore (held_by least lock.resource) x) (one.same h q o) before) (has_cases h held more there);
      }

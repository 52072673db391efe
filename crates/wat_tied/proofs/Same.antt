-- The core stays tied where its locks and vacant keys stand in another order.
use Rattle.std.proofs.Common.{List, map, subst, inl, inr, ⊎_elim}
use Rattle.wat_list.specs.Has.{Has, HasSame}
use Rattle.wat_list.proofs.Members.{has_map, map_has}
use Rattle.wat_isolation.specs.Machine as law
use Rattle.wat_isolation.specs.Sql.{sql}
use Rattle.wat_isolation.specs.Vacant.{IsVacant}
use Rattle.wat_locks.specs.declared.held.Held.{Held}
use Rattle.wat_steps.specs.State.{CoreState, VacantKey}
use Rattle.wat_steps.specs.Answering.{IsSame}
use Rattle.wat_tied.specs.Tied.{left_of, Ghost, Ties}

pub map_same : {A B : Type 0} (f : A → B) (xs ys : List A) → HasSame xs ys → HasSame (map f xs) (map f ys)
map_same {A} {B} f xs ys same y = (
  λ h. let r = has_map f y xs h in subst (λ (z : B). Has z (map f ys)) r.2 (map_has f r.0 ys ((same r.0).0 r.1)),
  λ h. let r = has_map f y ys h in subst (λ (z : B). Has z (map f xs)) r.2 (map_has f r.0 xs ((same r.0).1 r.1)),
)

vacant_same : (s : law.State sql) (old new : List VacantKey) → HasSame new old → IsVacant sql s (map left_of old) → IsVacant sql s (map left_of new)
vacant_same s old new same is =
    let both = map_same left_of new old same in
    record {
      sound = λ v has. is.sound v ((both v).0 has);
      full = λ c i x v version at. ⊎_elim (λ live. inl live) (λ has. inr ((both (record { by = c; index = i; key = x })).1 has)) (is.full c i x v version at);
    }

reordered : (e : CoreState) (g : Ghost) (held : List Held) (vacant : List VacantKey) → HasSame held e.held → HasSame vacant e.vacant → Ties e g → Ties (record e { held = held; vacant = vacant }) g
reordered e g held vacant same_held same_vacant ties = record {
  schema = ties.schema;
  kept = ties.kept;
  relates = record {
    scheme = ties.relates.scheme;
    now = ties.relates.now;
    base = ties.relates.base;
    locks = λ c m has. (same_held _).1 (ties.relates.locks c m has);
    vacant = vacant_same g.state e.vacant vacant same_vacant ties.relates.vacant;
  };
  log = ties.log;
  standing = ties.standing;
  idle = ties.idle;
  parts = ties.parts;
  serial = ties.serial;
  told = ties.told;
  plain = ties.plain;
  history = record { all = ties.history.all; numbers = ties.history.numbers; moments = ties.history.moments };
  outside = λ c out. ties.outside c (λ i. out (record { from_one = i.from_one; within = i.within }));
  works = ties.works;
  meets = ties.meets;
}

pub same_ties : (a b : CoreState) (g : Ghost) → IsSame a b → Ties a g → Ties b g
same_ties a b g same ties = subst (λ (x : CoreState). Ties x g) same.others (reordered a g b.held b.vacant same.held same.vacant ties)

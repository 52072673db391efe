-- Changes that stand are undone, the last one first: each undoing is one of the law of isolation.
use Rattle.std.proofs.Common.{◌≡◌, ℕ, List, [], ◌∷◌, ◌++◌, map, Option, nat_eq, refl, sym, ap, ◌∙◌, subst, inl, inr}
use Rattle.std.specs.List.{fold}
use Rattle.wat_list.specs.Has.{Has}
use Rattle.wat_value.specs.declared.change.Change.{Change}
use Rattle.wat_value.specs.Changes.{RowName, row_before, row_after}
use Rattle.wat_schema.specs.Catalog.{Catalog}
use Rattle.wat_schema.specs.Tables.{Row, inverse}
use Rattle.wat_isolation.specs.Logs.{Item, Item.Did, Version}
use Rattle.wat_isolation.specs.Machine as law
use Rattle.wat_isolation.specs.Kept.{Kept, redo}
use Rattle.wat_isolation.specs.Sql.{sql}
use Rattle.wat_isolation.proofs.Basics.{nat_same, row_same, put-same, put-other}
use Rattle.wat_isolation.proofs.Views.{alone_applies}
use Rattle.wat_isolation.proofs.Positions.{sole_writer}
use Rattle.wat_isolation.proofs.Whole.{event_keeps}
use Rattle.wat_protocol.specs.Locked.{AreHeld}
use Rattle.wat_protocol.proofs.HeldLemmas.{granted}
use Rattle.wat_scans.specs.Running.{row_changed}
use Rattle.wat_steps.specs.State.{CoreState, schema_of}
use Rattle.wat_steps.specs.Changing.{made}
use Rattle.wat_tied.specs.Tied.{IsFormed, standing_as, AreStanding, Relates}
use Rattle.wat_tied.proofs.Keys as keys
use Rattle.wat_tied.proofs.Moved.{row_given, moved}
use Rattle.wat_tied.proofs.Reading.{adds_none}

-- the row of the last change that stands is as it left it
pub top_now : (s : law.State sql) → Kept sql s → (c : ℕ) (u : law.Standing sql) (rest : List (law.Standing sql)) → (s.conns c).standing ≡ u ∷ rest → s.now u.row ≡ u.became
top_now s k c u rest is =
    let has : Has u (s.conns c).standing = subst (Has u) (sym is) (inl refl) in
    let stand = k.stands c s.base (alone_applies sql s.scheme s.base (s.conns c).log (k.open_serial c)) in
    k.own c u.row (k.touched c u.row u.was (k.standing c u has))
    ∙ (stand.sees u.row
    ∙ (ap (λ us. redo sql us s.base u.row) is ∙ put-same sql.same (row_same sql) (redo sql rest s.base) u.row u.became))

-- what is recorded of undoing these, the first of them being undone first
abbrev pub undo_items : Catalog → List Change → List (Item sql)
undo_items c [] = []
undo_items c (ch ∷ changes) = undo_items c changes ++ Did (row_changed c ch) (row_after ch) (row_before ch) ∷ []

-- the law after these were undone, with those below left
pub record IsUndone (e after : CoreState) (s t : law.State sql) (c : ℕ) (changes below : List Change) : Type 0 where
  pub kept : Kept sql t
  pub relates : Relates after t
  pub same : schema_of after ≡ schema_of e
  pub others_same : record e { now = after.now; vacant = after.vacant } ≡ after
  pub standing : AreStanding (schema_of e) below (t.conns c).standing
  pub log : (t.conns c).log ≡ undo_items (schema_of e) changes ++ (s.conns c).log
  pub others : (d : ℕ) → (d ≡ c → ⊥) → t.conns d ≡ s.conns d
  pub base : t.base ≡ s.base
  pub writes : (m : law.Lock sql) → Has m (s.conns c).locks → Has m (t.conns c).locks

joined : {A : Type 0} (xs ys zs : List A) → (xs ++ ys) ++ zs ≡ xs ++ (ys ++ zs)
joined [] ys zs = refl
joined (x ∷ xs) ys zs = ap (λ z. x ∷ z) (joined xs ys zs)

one_more : (c : Catalog) (ch : Change) (changes : List Change) (now : Option Row) (log l1 l2 : List (Item sql)) → now ≡ row_after ch → l1 ≡ Did (row_changed c ch) now (row_before ch) ∷ log → l2 ≡ undo_items c changes ++ l1 → l2 ≡ undo_items c (ch ∷ changes) ++ log
one_more c ch changes now log l1 l2 e f g =
    g ∙ (ap (λ z. undo_items c changes ++ z) (f ∙ ap (λ z. Did (row_changed c ch) z (row_before ch) ∷ log) e) ∙ sym (joined (undo_items c changes) (Did (row_changed c ch) (row_after ch) (row_before ch) ∷ []) log))

-- one of them
record IsOneUndone (e : CoreState) (s : law.State sql) (c : ℕ) (ch : Change) (rest : List (law.Standing sql)) : Type 0 where
  kept : Kept sql (row_given s c (row_changed (schema_of e) ch) (row_before ch) rest [])
  relates : Relates (made c e (inverse ch)) (row_given s c (row_changed (schema_of e) ch) (row_before ch) rest [])
  same : schema_of (made c e (inverse ch)) ≡ schema_of e
  top : s.now (row_changed (schema_of e) ch) ≡ row_after ch

one : (e : CoreState) (s : law.State sql) → Relates e s → Kept sql s → (c : ℕ) (ch : Change) → IsFormed (schema_of e) ch → (rest : List (law.Standing sql)) → (s.conns c).standing ≡ standing_as (schema_of e) ch ∷ rest → IsOneUndone e s c ch rest
one e s k kept c ch f rest is =
    record {
      kept = event_keeps sql s event kept is;
      relates = subst (λ (z : law.State sql). Relates (made c e (inverse ch)) z) state m.0;
      same = m.1;
      top = top;
    }
  where
    cat : Catalog
    cat = schema_of e

    r : RowName
    r = row_changed cat ch

    event : law.Event sql
    event = law.Event.Undo c (standing_as cat ch) rest

    top : s.now r ≡ row_after ch
    top = top_now s kept c (standing_as cat ch) rest is

    name : row_changed cat (inverse ch) ≡ r
    name = keys.row_back cat ch f

    before : s.now (row_changed cat (inverse ch)) ≡ row_before (inverse ch)
    before = ap s.now name ∙ (top ∙ sym (keys.before_back ch))

    writes : Has (law.Lock.Write r) (s.conns c).locks
    writes = kept.touched c r (row_before ch) (kept.standing c (standing_as cat ch) (subst (Has (standing_as cat ch)) (sym is) (inl refl)))

    sole : (d : ℕ) (v : Option Row) → Version sql (row_changed cat (inverse ch)) v (s.conns d).log → d ≡ c
    sole d v h = sole_writer sql s kept d c r (kept.touched d r v (subst (λ q. Version sql q v (s.conns d).log) name h)) writes

    state : row_given s c (row_changed cat (inverse ch)) (row_after (inverse ch)) rest [] ≡ row_given s c r (row_before ch) rest []
    state = λ j. row_given s c (name j) ((keys.after_back ch) j) rest []

    held : AreHeld (row_given s c (row_changed cat (inverse ch)) (row_after (inverse ch)) rest []) e.held
    held = subst (λ (z : law.State sql). AreHeld z e.held) (sym state) (granted s e.held e.held c [] event k.locks (adds_none e.held c) refl refl)

    m : Relates (made c e (inverse ch)) (row_given s c (row_changed cat (inverse ch)) (row_after (inverse ch)) rest []) × (schema_of (made c e (inverse ch)) ≡ schema_of e)
    m = moved e s k c (inverse ch) (keys.formed_back cat ch f) before sole rest [] e.held held (made c e (inverse ch)) refl refl refl refl

-- the same core but for its tables and vacant keys, by two steps
same_twice : (a b d : CoreState) → record a { now = b.now; vacant = b.vacant } ≡ b → record b { now = d.now; vacant = d.vacant } ≡ d → record a { now = d.now; vacant = d.vacant } ≡ d
same_twice a b d e f = ap (λ (z : CoreState). record z { now = d.now; vacant = d.vacant }) e ∙ f

pub undo_all : (c : ℕ) (changes below : List Change) (e : CoreState) (s : law.State sql) → Relates e s → Kept sql s → AreStanding (schema_of e) (changes ++ below) (s.conns c).standing
    → (t : law.State sql) × IsUndone e (fold (made c) e (map inverse changes)) s t c changes below
undo_all c [] below e s k kept are = (
  s,
  record {
    kept = kept;
    relates = k;
    same = refl;
    others_same = refl;
    standing = are;
    log = refl;
    others = λ d ne. refl;
    base = refl;
    writes = λ m h. h;
  },
)
undo_all c (ch ∷ changes) below e s k kept are =
    let cat : Catalog = schema_of e in
    let rest : List (law.Standing sql) = map (standing_as cat) (changes ++ below) in
    let o : IsOneUndone e s c ch rest = one e s k kept c ch (are.formed ch (inl refl)) rest are.same in
    let t1 : law.State sql = row_given s c (row_changed cat ch) (row_before ch) rest [] in
    let next : CoreState = made c e (inverse ch) in
    let new : law.Connection sql = law.grown sql s c (Did (row_changed cat ch) (s.now (row_changed cat ch)) (row_before ch) ∷ (s.conns c).log) rest [] in
    let here : t1.conns c ≡ new = put-same nat_eq nat_same s.conns c new in
    let deeper : AreStanding cat (changes ++ below) (t1.conns c).standing = record { formed = λ x has. are.formed x (inr has); same = ap (λ (z : law.Connection sql). z.standing) here } in
    let r = undo_all c changes below next t1 o.relates o.kept (subst (λ z. AreStanding z (changes ++ below) (t1.conns c).standing) (sym o.same) deeper) in
    let b = r.1 in (
      r.0,
      record {
        kept = b.kept;
        relates = b.relates;
        same = b.same ∙ o.same;
        others_same = same_twice e next (fold (made c) next (map inverse changes)) refl b.others_same;
        standing = subst (λ z. AreStanding z below (r.0.conns c).standing) o.same b.standing;
        log = one_more cat ch changes (s.now (row_changed cat ch)) (s.conns c).log (t1.conns c).log (r.0.conns c).log o.top (ap (λ (z : law.Connection sql). z.log) here)
            (subst (λ z. (r.0.conns c).log ≡ undo_items z changes ++ (t1.conns c).log) o.same b.log);
        others = λ d ne. b.others d ne ∙ put-other nat_eq nat_same s.conns c new d ne;
        base = b.base;
        writes = λ m h. b.writes m (subst (λ (z : law.Connection sql). Has m z.locks) (sym here) h);
      },
    )

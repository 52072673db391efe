-- The changes of an open transaction that stand do what the acts of its entries do in order.
use Rattle.std.proofs.Common.{◌≡◌, ℕ, Bool, true, false, inl, inr, List, [], ◌∷◌, ◌++◌, map, take, drop, reverse, Option, Some, None, is_some, option_map, Result, Ok, Err, if◌then◌else◌, refl, ap, sym, subst, ◌∙◌, append-nil}
use Rattle.std.specs.List.{AllByRecursion, fold}
use Rattle.std.specs.Option.{option_and_then, option_map_or}
use Rattle.std.proofs.lemmas.Bool.{and_parts}
use Rattle.std.proofs.lemmas.Grind.{flat_map-append}
use Rattle.std.proofs.lemmas.List.{map-append, reverse-append, take-append-drop}
use Rattle.std.proofs.lemmas.List.Folds.{list_all-append}
use Rattle.wat_value.specs.declared.change.Change.{Change}
use Rattle.wat_value.specs.declared.change.Act.{Act}
use Rattle.wat_value.specs.declared.change.Act.TheVariants.{OnRow, OnSchema}
use Rattle.wat_ast.specs.declared.statement.Statement.{Statement}
use Rattle.wat_ast.specs.declared.statement.Statement.TheVariants as s
use Rattle.wat_schema.specs.Catalog.{Name}
use Rattle.wat_schema.specs.Tables.{Tables, apply, apply_all, are_tables, inverse}
use Rattle.wat_schema.proofs.TableLaws.{act_keeps, inverse_gives_back}
use Rattle.wat_conn.specs.declared.answer.Reason.{Reason}
use Rattle.wat_conn.specs.declared.answer.Reply.TheVariants as reply
use Rattle.wat_conn.specs.declared.answer.Answer.{Answer}
use Rattle.wat_conn.specs.declared.answer.Answer.TheVariants.{Given, Stopped}
use Rattle.wat_history.specs.Connection.{Part, Transaction, Connection, new_transaction, new_connection, connection_after, next, after_text, after_answer, running, opens, ends, is_done, with_part, noted, stood_at, undoing, change_of, changes_of, are_of_rows}
use Rattle.wat_history.specs.Fits.{MayAct, IsStopped, AreAnswered}
use Rattle.wat_history.specs.History.{effect}
use Rattle.wat_history.proofs.SerialLemmas.{apply_all-append, applied_both, some_once}

-- ---- acts one after another

parts_of_some : {A B : Type 0} (f : A → Option B) (o : Option A) (b : B) → option_and_then f o ≡ Some b → (a : A) × (o ≡ Some a) × (f a ≡ Some b)
parts_of_some f None b h = absurd (cc)
parts_of_some f (Some a) b h = (a, refl, h)

applied_parts : (xs ys : List Act) (t u : Tables) → apply_all (xs ++ ys) t ≡ Some u → (mid : Tables) × (apply_all xs t ≡ Some mid) × (apply_all ys mid ≡ Some u)
applied_parts xs ys t u h = parts_of_some (apply_all ys) (apply_all xs t) u (sym (apply_all-append xs ys t) ∙ h)

kept : (xs : List Act) (t u : Tables) → are_tables t ≡ true → apply_all xs t ≡ Some u → are_tables u ≡ true
kept [] t u ok h = let same : t ≡ u = cc in subst (λ (v : Tables). are_tables v ≡ true) same ok
kept (x ∷ xs) t u ok h = let p = parts_of_some (apply_all xs) (apply x t) u h in kept xs p.0 u (act_keeps x t p.0 ok p.1) p.2

abbrev invert : Change → Act
invert change = OnRow (inverse change)

undo_all : (changes : List Change) (t u : Tables) → are_tables t ≡ true → apply_all (map OnRow changes) t ≡ Some u → apply_all (map invert (reverse changes)) u ≡ Some t
undo_all [] t u ok h = sym h
undo_all (change ∷ changes) t u ok h =
    let p = parts_of_some (apply_all (map OnRow changes)) (apply (OnRow change) t) u h in
    let mid = p.0 in
    let turned : map invert (reverse (change ∷ changes)) ≡ map invert (reverse changes) ++ invert change ∷ [] = ap (map invert) (reverse-append (change ∷ []) changes) ∙ map-append invert (reverse changes) (change ∷ []) in
    let last : apply_all (invert change ∷ []) mid ≡ Some t = ap (option_and_then (apply_all [])) (inverse_gives_back change t mid ok p.1) in
    ap (λ acts. apply_all acts u) turned ∙ applied_both (map invert (reverse changes)) (invert change ∷ []) u mid t (undo_all changes mid u (act_keeps (OnRow change) t mid ok p.1) p.2) last

-- of changes that are made, those behind the first so many are undone
back : (changes : List Change) (count : ℕ) (t mid u : Tables) → are_tables t ≡ true → apply_all (map OnRow changes) t ≡ Some mid → apply_all (map invert (reverse (drop count changes))) mid ≡ Some u
    → apply_all (map OnRow (take count changes)) t ≡ Some u
back changes count t mid u ok made undone =
    let xs = take count changes in
    let ys = drop count changes in
    let cut : map OnRow changes ≡ map OnRow xs ++ map OnRow ys = ap (map OnRow) (sym (take-append-drop count changes)) ∙ map-append OnRow xs ys in
    let p = applied_parts (map OnRow xs) (map OnRow ys) t mid (ap (λ acts. apply_all acts t) (sym cut) ∙ made) in
    let again = undo_all ys p.0 mid (kept (map OnRow xs) t p.0 ok p.1) p.2 in
    p.1 ∙ ap Some (some_once (apply_all (map invert (reverse ys)) mid) p.0 u again undone)

-- ---- what a transaction does

-- wherever these acts apply, so do those, and lead to the same tables
abbrev Does : List Act → List Act → Type 0
Does xs ys = (t u : Tables) → are_tables t ≡ true → apply_all xs t ≡ Some u → apply_all ys t ≡ Some u

abbrev Stands : Transaction → Type 0
Stands tr = are_of_rows (effect tr.parts) ≡ true → Does (effect tr.parts) (map OnRow tr.standing)

of_rows : (acts : List Act) → are_of_rows acts ≡ true → map OnRow (changes_of acts) ≡ acts
of_rows [] h = refl
of_rows (OnRow change ∷ acts) h = ap (λ rest. OnRow change ∷ rest) (of_rows acts h)
of_rows (OnSchema change ∷ acts) h = absurd (cc)

does_more : (xs acts : List Act) (standing : List Change) → Does xs (map OnRow standing) → are_of_rows acts ≡ true → Does (xs ++ acts) (map OnRow (standing ++ changes_of acts))
does_more xs acts standing does rows = λ t u ok h.
    let p = applied_parts xs acts t u h in
    let joined : map OnRow (standing ++ changes_of acts) ≡ map OnRow standing ++ acts = map-append OnRow standing (changes_of acts) ∙ ap (λ more. map OnRow standing ++ more) (of_rows acts rows) in
    ap (λ all. apply_all all t) joined ∙ applied_both (map OnRow standing) acts t p.0 u (does t p.0 ok p.1) p.2

does_nothing : (xs acts : List Act) (standing : List Change) → Does xs (map OnRow standing) → acts ≡ [] → Does (xs ++ acts) (map OnRow standing)
does_nothing xs acts standing does none = λ t u ok h.
    let p = applied_parts xs acts t u h in
    let same : Some p.0 ≡ Some u = ap (λ rest. apply_all rest p.0) (sym none) ∙ p.2 in
    does t p.0 ok p.1 ∙ same

goes_back : (name : Name) (xs acts : List Act) (tr : Transaction) → Does xs (map OnRow tr.standing) → acts ≡ undoing name tr → Does (xs ++ acts) (map OnRow (take (stood_at name tr) tr.standing))
goes_back name xs acts tr does undone = λ t u ok h.
    let p = applied_parts xs acts t u h in
    back tr.standing (stood_at name tr) t p.0 u ok (does t p.0 ok p.1) (ap (λ rest. apply_all rest p.0) (sym undone) ∙ p.2)

-- what the acts of a ROLLBACK TO SAVEPOINT undo in this transaction
abbrev GoesBack : Connection → Transaction → Type 0
GoesBack c tr = (name : Name) → option_map_or (undoing name) c.transaction [] ≡ undoing name tr

noted_does : (c : Connection) (statement : Statement) (answer : Answer) (acts xs : List Act) (tr : Transaction) → GoesBack c tr → MayAct c (Ok statement) answer acts → are_of_rows acts ≡ true
    → Does xs (map OnRow tr.standing) → Does (xs ++ acts) (map OnRow (noted statement answer acts tr).standing)
noted_does c (s.Savepoint name) (Given reply.Savepoint) acts xs tr goes may rows does = does_nothing xs acts tr.standing does may
noted_does c (s.RollbackTo name) (Given reply.BackToSavepoint) acts xs tr goes may rows does = goes_back name xs acts tr does (may ∙ goes name)
noted_does c (s.Release name) (Given reply.Released) acts xs tr goes may rows does = does_nothing xs acts tr.standing does may
noted_does c statement answer acts xs tr goes may rows does = does_more xs acts tr.standing does rows

stands_with : (c : Connection) (statement : Statement) (p : Part) (tr : Transaction) → GoesBack c tr → MayAct c (Ok statement) p.entry.answer p.entry.acts → Stands tr → Stands (with_part statement p tr)
stands_with c statement p tr goes may stands = λ rows.
    let acts = p.entry.acts in
    let longer : effect (tr.parts ++ p ∷ []) ≡ effect tr.parts ++ acts = flat_map-append (λ (q : Part). q.entry.acts) tr.parts (p ∷ []) ∙ ap (λ rest. effect tr.parts ++ rest) (append-nil acts) in
    let both = and_parts (are_of_rows (effect tr.parts)) (are_of_rows acts) (sym (list_all-append (λ (act : Act). is_some (change_of act)) (effect tr.parts) acts) ∙ (ap are_of_rows (sym longer) ∙ rows)) in
    let does = noted_does c statement p.entry.answer acts (effect tr.parts) tr goes may both.1 (stands both.0) in
    λ t u ok h. does t u ok (ap (λ all. apply_all all t) (sym longer) ∙ h)

-- ---- entry by entry

abbrev IsGood : Connection → Type 0
IsGood c = (tr : Transaction) → c.transaction ≡ Some tr → Stands tr

new_stands : Stands new_transaction
new_stands = λ rows t u ok h. h

not_ended : (b : Bool) (o : Option Transaction) (tr : Transaction) → (if b then None else o) ≡ Some tr → o ≡ Some tr
not_ended true o tr h = absurd (cc)
not_ended false o tr h = h

mapped : (f : Transaction → Transaction) (o : Option Transaction) (after : Transaction) → option_map f o ≡ Some after → (tr : Transaction) × (o ≡ Some tr) × (f tr ≡ after)
mapped f None after h = absurd (cc)
mapped f (Some tr) after h = (tr, refl, cc)

-- the transaction that runs stands, and a ROLLBACK TO SAVEPOINT undoes in it what the connection says
runs : (statement : Statement) (c : Connection) (o : Option Transaction) (tr : Transaction) → c.transaction ≡ o → running statement o ≡ Some tr → IsGood c → Stands tr × GoesBack c tr
runs statement c None tr is h good = new (opens statement) h
  where
    new : (b : Bool) → (if b then Some new_transaction else None) ≡ Some tr → Stands tr × GoesBack c tr
    new true e =
        let same : new_transaction ≡ tr = cc in
        (subst Stands same new_stands, λ name. ap (λ o. option_map_or (undoing name) o []) is ∙ ap (undoing name) same)
    new false e = absurd (cc)
runs statement c (Some open_one) tr is h good =
    let same : open_one ≡ tr = cc in
    (good tr (is ∙ ap Some same), λ name. ap (λ o. option_map_or (undoing name) o []) is ∙ ap (undoing name) same)

good_answer : (c : Connection) (statement : Statement) (p : Part) → MayAct c (Ok statement) p.entry.answer p.entry.acts → IsGood c → IsGood (after_answer c statement p)
good_answer c statement p may good = λ after h.
    let m = mapped (with_part statement p) (running statement c.transaction) after (not_ended (ends p.entry.answer) (option_map (with_part statement p) (running statement c.transaction)) after h) in
    let r = runs statement c c.transaction m.0 refl m.1 good in
    subst Stands m.2 (stands_with c statement p m.0 r.1 may r.0)

good_text : (c : Connection) (p : Part) (read : Result Statement ℕ) → MayAct c read p.entry.answer p.entry.acts → IsGood c → IsGood (after_text c p read)
good_text c p (Err at) may good = good
good_text c p (Ok statement) may good = chosen (is_done p.entry.answer)
  where
    chosen : (b : Bool) → IsGood (if b then after_answer c statement p else c)
    chosen true = good_answer c statement p may good
    chosen false = good

pub stopped_stays : (c : Connection) (p : Part) (read : Result Statement ℕ) (reason : Reason) → p.entry.answer ≡ Stopped reason → after_text c p read ≡ c
stopped_stays c p (Err at) reason e = refl
stopped_stays c p (Ok statement) reason e = not_done (is_done p.entry.answer) (ap is_done e)
  where
    not_done : (b : Bool) → b ≡ false → (if b then after_answer c statement p else c) ≡ c
    not_done true h = absurd (cc)
    not_done false h = refl

all_stay : (stop : Option Reason) (c : Connection) (parts : List Part) → AllByRecursion (IsStopped stop c) parts → fold next c parts ≡ c
all_stay stop c [] h = refl
all_stay stop c (p ∷ parts) h = ap (λ d. fold next d parts) (stopped_stays c p p.read h.0.reason h.0.answer) ∙ all_stay stop c parts h.1

reaches : (stop : Option Reason) (c : Connection) (parts : List Part) → IsGood c → AreAnswered stop c parts → IsGood (fold next c parts)
reaches stop c [] good h = good
reaches stop c (p ∷ parts) good (inl (answered, more)) = reaches stop (next c p) parts (good_text c p p.read answered.acts good) more
reaches stop c (p ∷ parts) good (inr stopped) = subst IsGood (sym (all_stay stop c (p ∷ parts) stopped)) good

new_is_good : IsGood new_connection
new_is_good tr h = absurd (cc)

pub stands : (stop : Option Reason) (parts : List Part) (open_one : Transaction) (t u : Tables) → AreAnswered stop new_connection parts → (connection_after parts).transaction ≡ Some open_one
    → are_of_rows (effect open_one.parts) ≡ true → are_tables t ≡ true → apply_all (effect open_one.parts) t ≡ Some u → apply_all (map OnRow open_one.standing) t ≡ Some u
stands stop parts open_one t u answered opened rows ok made = reaches stop new_connection parts new_is_good answered open_one opened rows t u ok made

-- How long the texts of the scripts are at most.
use Rattle.std.proofs.Common.{◌≡◌, refl, ℕ, zero, suc, ◌+◌, ◌*◌, ◌<◌, ◌≤◌, ◌==◌, ◌||◌, ◌&&◌, Bool, true, false, nat_le, nat_lt, List, [], ◌∷◌, ◌++◌, length, arith, lit<, lit≤}
use Rattle.std.specs.Prelude.{codes, decimal, if◌then◌else◌}
use Rattle.std.specs.Fmt.{digits}
use Rattle.std.specs.List.{All, flat_map, list_all, range_with_len}
use Rattle.std.proofs.lemmas.Bool.{leb-true}
use Rattle.std.proofs.lemmas.Fmt.{length-decimal-le}
use Rattle.std.proofs.lemmas.List.{length-append}
use Rattle.std.proofs.lemmas.List.Elements.{All-append, All-cons, All-head, All-nil, All-tail}
use Rattle.wat_gen.specs.declared.statement.Statement.{Statement}
use Rattle.wat_gen.specs.declared.statement.Statement.TheVariants.{Insert, Update, Delete, Count, Commit, SetLevel, SetBlockingOff}
use Rattle.wat_gen.specs.Between.{between_text}
use Rattle.wat_gen.specs.Numbers.{Drawn, draw, for_each, in_a_row}
use Rattle.wat_gen.specs.Statements.{drawn_count, drawn_delete, drawn_insert, drawn_of_kind, drawn_statement, drawn_transaction, drawn_transactions, drawn_update, statement_text}
use Rattle.wat_gen.specs.Session.{drawn_script, drawn_scripts, drawn_session, filling, level_of, made_up, opening, script_text}
use Rattle.wat_gen.proofs.Counting.{script_length}

-- the statement is written in less than a hundred bytes
abbrev IsShort : Statement → Type 0
IsShort s = length (statement_text s) ≤ 99

four : (n : ℕ) → n < 10000 → length (decimal n) ≤ 4
four n small = length-decimal-le 4 n (lit< tt) small (omega arith)

short_insert : (k v : ℕ) → k < 10000 → v < 10000 → IsShort (Insert k v)
short_insert k v small_k small_v =
    let a = four k small_k in
    let b = four v small_v in
    simp length-append (omega arith)

short_delete : (k : ℕ) → k < 10000 → IsShort (Delete k)
short_delete k small = let a = four k small in simp length-append (omega arith)

between_short : (low high : ℕ) → low < 10000 → high < 10000 → length (between_text low high) ≤ 21
unfolding between_text
between_short low high small_low small_high =
    let a = four low small_low in
    let b = four high small_high in
    simp length-append (omega arith)

short_update : (v low high : ℕ) → v < 10000 → low < 10000 → high < 10000 → IsShort (Update v low high)
short_update v low high small_v small_low small_high =
    let a = four v small_v in
    let b = between_short low high small_low small_high in
    simp length-append (omega arith)

short_count : (low high : ℕ) → low < 10000 → high < 10000 → IsShort (Count low high)
short_count low high small_low small_high =
    let a = between_short low high small_low small_high in
    simp length-append (omega arith)

drawn_below : (below x : ℕ) → 0 < below → (draw below x).0 < below
unfolding draw
drawn_below below x some = omega arith

insert_short : (x : ℕ) → IsShort (drawn_insert x).0
unfolding drawn_insert
insert_short x =
    let k = drawn_below 1000 x (lit< tt) in
    let v = drawn_below 100 (draw 1000 x).1 (lit< tt) in
    short_insert (draw 1000 x).0 (draw 100 (draw 1000 x).1).0 (omega arith) (omega arith)

update_short : (x : ℕ) → IsShort (drawn_update x).0
unfolding drawn_update
update_short x =
    let y = (draw 1000 x).1 in
    let z = (draw 20 y).1 in
    let low = drawn_below 1000 x (lit< tt) in
    let width = drawn_below 20 y (lit< tt) in
    let v = drawn_below 100 z (lit< tt) in
    short_update (draw 100 z).0 (draw 1000 x).0 ((draw 1000 x).0 + (draw 20 y).0) (omega arith) (omega arith) (omega arith)

delete_short : (x : ℕ) → IsShort (drawn_delete x).0
unfolding drawn_delete
delete_short x = let k = drawn_below 1000 x (lit< tt) in short_delete (draw 1000 x).0 (omega arith)

count_short : (x : ℕ) → IsShort (drawn_count x).0
unfolding drawn_count
count_short x =
    let low = drawn_below 100 x (lit< tt) in
    short_count (draw 100 x).0 ((draw 100 x).0 + 9) (omega arith) (omega arith)

kind_short : (kind x : ℕ) → IsShort (drawn_of_kind kind x).0
kind_short kind x = go (kind == 0) (kind == 1) (kind == 2)
  where
    go : (a b c : Bool) → IsShort ((if a then drawn_insert else (if b then drawn_update else (if c then drawn_delete else drawn_count))) x).0
    go true b c = insert_short x
    go false true c = update_short x
    go false false true = delete_short x
    go false false false = count_short x

statement_short : (x : ℕ) → IsShort (drawn_statement x).0
unfolding drawn_statement
statement_short x = kind_short (draw 4 x).0 (draw 4 x).1

abbrev AllShort : List Statement → Type 0
AllShort = All IsShort

transaction_short : (x : ℕ) → AllShort (drawn_transaction x).0
unfolding drawn_transaction
transaction_short x =
    let y = (drawn_statement x).1 in
    let z = (drawn_statement y).1 in
    let none : AllShort (Commit ∷ []) = All-cons IsShort Commit [] (lit≤ tt) (All-nil IsShort) in
    All-cons IsShort (drawn_statement x).0 ((drawn_statement y).0 ∷ (drawn_statement z).0 ∷ Commit ∷ []) (statement_short x) (All-cons IsShort (drawn_statement y).0 ((drawn_statement z).0 ∷ Commit ∷ []) (statement_short y) (All-cons IsShort (drawn_statement z).0 (Commit ∷ []) (statement_short z) none))

row_short : (n x : ℕ) → AllShort (flat_map (λ (s : List Statement). s) (in_a_row n drawn_transaction x).0)
row_short zero x = All-nil IsShort
row_short (suc n) x =
    All-append IsShort (drawn_transaction x).0 (flat_map (λ (s : List Statement). s) (in_a_row n drawn_transaction (drawn_transaction x).1).0) (transaction_short x) (row_short n (drawn_transaction x).1)

both : (a b : Bool) → (a && b) ≡ true → (a ≡ true) × (b ≡ true)
both true b e = (refl, e)
both false b e = cc

tested : (xs : List Statement) → list_all (λ s. nat_le (length (statement_text s)) 99) xs ≡ true → AllShort xs
tested [] e = All-nil IsShort
tested (x ∷ xs) e =
    let parts = both (nat_le (length (statement_text x)) 99) (list_all (λ s. nat_le (length (statement_text s)) 99) xs) e in
    All-cons IsShort x xs (leb-true (length (statement_text x)) 99 parts.0) (tested xs parts.1)

filling_short : AllShort filling
unfolding filling digits
filling_short = tested filling refl

level_short : (script : ℕ) → IsShort (SetLevel (level_of script))
unfolding digits
level_short script = go (script == 2 || script == 6) (script == 4 || script == 8)
  where
    go : (a b : Bool) → IsShort (SetLevel (if a then 2 else (if b then 0 else 3)))
    go true b = lit≤ tt
    go false true = lit≤ tt
    go false false = lit≤ tt

opening_short : (script : ℕ) → AllShort (opening script)
unfolding opening
opening_short script = All-append IsShort _ _ (front (script == 1)) (All-cons IsShort (SetLevel (level_of script)) _ (level_short script) (back (nat_lt 6 script)))
  where
    front : (b : Bool) → AllShort (if b then filling else [])
    front true = filling_short
    front false = All-nil IsShort

    back : (b : Bool) → AllShort (if b then SetBlockingOff ∷ [] else [])
    back true = All-cons IsShort SetBlockingOff [] (lit≤ tt) (All-nil IsShort)
    back false = All-nil IsShort

opening_size : (script : ℕ) → length (opening script) ≤ 105
unfolding opening filling
opening_size script = go (script == 1) (nat_lt 6 script)
  where
    go : (a b : Bool) → length ((if a then filling else []) ++ SetLevel (level_of script) ∷ (if b then SetBlockingOff ∷ [] else [])) ≤ 105
    go true true = lit≤ tt
    go true false = lit≤ tt
    go false true = lit≤ tt
    go false false = lit≤ tt

more_text : (xs : List Statement) → AllShort xs → length (flat_map (λ s. codes " " ++ statement_text s) xs) ≤ 100 * length xs
more_text [] h = lit≤ tt
more_text (x ∷ xs) h =
    let first = All-head IsShort x xs h in
    let others = more_text xs (All-tail IsShort x xs h) in
    let whole = length-append (codes " " ++ statement_text x) (flat_map (λ s. codes " " ++ statement_text s) xs) in
    omega arith

text_size : (xs : List Statement) → AllShort xs → length (script_text xs) ≤ 100 * length xs
text_size [] h = lit≤ tt
text_size (x ∷ xs) h =
    let first = All-head IsShort x xs h in
    let others = more_text xs (All-tail IsShort x xs h) in
    let whole = length-append (statement_text x) (flat_map (λ s. codes " " ++ statement_text s) xs) in
    omega arith

script_size : (count script x : ℕ) → length (script_text (drawn_script count script x).0) ≤ 10500 + 400 * count
unfolding drawn_script drawn_transactions
script_size count script x =
    let all : AllShort (drawn_script count script x).0 = All-append IsShort (opening script) (flat_map (λ (s : List Statement). s) (in_a_row count drawn_transaction x).0) (opening_short script) (row_short count x) in
    let size = script_length count script x in
    let begun = opening_size script in
    let text = text_size (drawn_script count script x).0 all in
    omega arith

each_all : {A : Type 0} (P : A → Type 0) (f : ℕ → Drawn A) (ns : List ℕ) (x : ℕ) → ((k y : ℕ) → P (f k y).0) → All P (for_each ns f x).0
each_all P f [] x each = All-nil P
each_all P f (n ∷ ns) x each = All-cons P (f n x).0 _ (each n x) (each_all P f ns (f n x).1 each)

pub texts_fit : (number count : ℕ) → All (λ statements. length (script_text statements) ≤ 10500 + 400 * count) (made_up number count).scripts
unfolding drawn_session drawn_scripts
texts_fit number count =
    each_all (λ (statements : List Statement). length (script_text statements) ≤ 10500 + 400 * count) (drawn_script count) (range_with_len 1 8) number (script_size count)

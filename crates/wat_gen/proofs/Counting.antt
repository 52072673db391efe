-- How many statements and turns are drawn, and whose turns they are.
use Rattle.std.proofs.Common.{◌≡◌, ◌∙◌, sym, ap, refl, ℕ, zero, suc, ◌+◌, ◌*◌, List, [], ◌∷◌, length, fold, replicate, arith, lit≤}
use Rattle.std.specs.Prelude.{sum_by}
use Rattle.std.specs.List.{All, flat_map, range_with_len}
use Rattle.std.proofs.lemmas.List.{length-append, length-replicate}
use Rattle.std.proofs.lemmas.List.Elements.{All-append, All-cons, All-nil, All-replicate}
use Rattle.wat_schedule.specs.declared.item.Item.{Item}
use Rattle.wat_schedule.specs.Schedule.{IsConnection}
use Rattle.wat_gen.specs.declared.statement.Statement.{Statement}
use Rattle.wat_gen.specs.Numbers.{Drawn, Gives, draw, for_each, in_a_row}
use Rattle.wat_gen.specs.Statements.{drawn_transaction, drawn_transactions}
use Rattle.wat_gen.specs.Schedule.{drawn_schedule, drawn_turn, turn_of}
use Rattle.wat_gen.specs.Session.{drawn_script, drawn_scripts, drawn_session, filling, made_up, opening}

row_length : {A : Type 0} (d : Drawn A) (n x : ℕ) → length (in_a_row n d x).0 ≡ n
row_length d zero x = refl
row_length d (suc n) x = ap suc (row_length d n (d x).1)

row_all : {A : Type 0} (P : A → Type 0) (d : Drawn A) (n x : ℕ) → ((y : ℕ) → P (d y).0) → All P (in_a_row n d x).0
row_all P d zero x each = All-nil P
row_all P d (suc n) x each = All-cons P (d x).0 (in_a_row n d (d x).1).0 (each x) (row_all P d n (d x).1 each)

transaction_length : (x : ℕ) → length (drawn_transaction x).0 ≡ 4
unfolding drawn_transaction
transaction_length x = refl

pub transaction_size : (x y : ℕ) (statements : List Statement) → Gives drawn_transaction x statements y → length statements ≡ 4
transaction_size x y statements e =
    ap (λ (p : List Statement × ℕ). length p.0) (sym e) ∙ transaction_length x

flat_length : (n x : ℕ) → length (flat_map (λ (s : List Statement). s) (in_a_row n drawn_transaction x).0) ≡ 4 * n
flat_length zero x = refl
flat_length (suc n) x =
    let first = transaction_length x in
    let others = flat_length n (drawn_transaction x).1 in
    length-append (drawn_transaction x).0 (flat_map (λ (s : List Statement). s) (in_a_row n drawn_transaction (drawn_transaction x).1).0) ∙ omega arith

pub script_length : (count script x : ℕ) → length (drawn_script count script x).0 ≡ length (opening script) + 4 * count
unfolding drawn_script drawn_transactions
script_length count script x =
    length-append (opening script) (flat_map (λ (s : List Statement). s) (in_a_row count drawn_transaction x).0) ∙ ap (λ n. length (opening script) + n) (flat_length count x)

each_length : (f : ℕ → Drawn (List Statement)) (g : ℕ → ℕ) (ns : List ℕ) (x total : ℕ) → ((k y : ℕ) → length (f k y).0 ≡ g k) → fold (λ a s. a + length s) total (for_each ns f x).0 ≡ fold (λ a k. a + g k) total ns
each_length f g [] x total each = refl
each_length f g (n ∷ ns) x total each =
    ap (λ a. fold (λ b s. b + length s) (total + a) (for_each ns f (f n x).1).0) (each n x) ∙ each_length f g ns (f n x).1 (total + g n) each

pub statement_count : (number count : ℕ) → sum_by length (made_up number count).scripts ≡ 113 + 32 * count
unfolding drawn_session drawn_scripts opening filling
statement_count number count =
    each_length (drawn_script count) (λ k. length (opening k) + 4 * count) (range_with_len 1 8) number 0 (script_length count) ∙ omega arith

pub script_count : (number count : ℕ) → length (made_up number count).scripts ≡ 8
unfolding drawn_session drawn_scripts
script_count number count = refl

pub turn_count : (number count : ℕ) → length (made_up number count).schedule ≡ 103 + 32 * count
unfolding drawn_session drawn_schedule
turn_count number count =
    let x = (drawn_scripts count number).1 in
    let first = length-replicate 103 (turn_of 1) in
    let others = row_length drawn_turn (32 * count) x in
    length-append (replicate 103 (turn_of 1)) (in_a_row (32 * count) drawn_turn x).0 ∙ omega arith

turn_within : (x : ℕ) → IsConnection 8 (drawn_turn x).0.conn
unfolding drawn_turn draw
turn_within x = record { first = omega arith; last = omega arith }

pub turns_within : (number count : ℕ) → All (λ item. IsConnection 8 item.conn) (made_up number count).schedule
unfolding drawn_session drawn_schedule
turns_within number count =
    let P : Item → Type 0 = λ item. IsConnection 8 item.conn in
    let x = (drawn_scripts count number).1 in
    let one : P (turn_of 1) = record { first = lit≤ tt; last = lit≤ tt } in
    All-append P (replicate 103 (turn_of 1)) (in_a_row (32 * count) drawn_turn x).0 (All-replicate P 103 (turn_of 1) one) (row_all P drawn_turn (32 * count) x turn_within)

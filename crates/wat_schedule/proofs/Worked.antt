-- The worked cases of schedules, by computation.
use Rattle.std.proofs.Common.{◌≡◌, ◌≢◌, ◌∙◌, ap, refl, ℕ, ◌<◌, ◌≤◌, ◌^◌, ◌==◌, Bool, true, false, ◌&&◌, List, [], ◌∷◌, length, get_or, map, nat_le, arith, lit<, lit≤}
use Rattle.std.specs.Prelude.{codes, decimal, if◌then◌else◌}
use Rattle.std.specs.Fmt.{digits}
use Rattle.std.specs.List.{All, list_all, slice_split}
use Rattle.std.proofs.lemmas.Bool.{leb-true}
use Rattle.std.proofs.lemmas.Fmt.{decimal_nonempty}
use Rattle.std.proofs.lemmas.List.{get_or_append_left}
use Rattle.std.proofs.lemmas.List.Elements.{All-cons, All-nil}
use Rattle.wat_schedule.specs.declared.item.Item.{Item}
use Rattle.wat_schedule.specs.Schedule.{IsConnection, item_text}
use Rattle.wat_schedule.specs.Worked.{IsNone, MarkCases, NumberCases, OtherCases, TwoCases, step, turn}
use Rattle.wat_schedule.proofs.Written.{first_digit, item_injective, no_schedule}

abbrev is_connection : ℕ → ℕ → Bool
is_connection count conn = nat_le 1 conn && nat_le conn count

both : (a b : Bool) → (a && b) ≡ true → (a ≡ true) × (b ≡ true)
both true b e = (refl, e)
both false b e = cc

within : (count : ℕ) (items : List Item) → list_all (λ item. is_connection count item.conn) items ≡ true → All (λ item. IsConnection count item.conn) items
within count [] e = All-nil (λ item. IsConnection count item.conn)
within count (x ∷ xs) e =
    let parts = both (is_connection count x.conn) (list_all (λ item. is_connection count item.conn) xs) e in
    let ends = both (nat_le 1 x.conn) (nat_le x.conn count) parts.0 in
    let is : IsConnection count x.conn = record { first = leb-true 1 x.conn ends.0; last = leb-true x.conn count ends.1 } in
    All-cons (λ item. IsConnection count item.conn) x xs is (within count xs parts.1)

-- every item begins with a digit from 1 on
begins : (count : ℕ) (word : List ℕ) → count < 2 ^ 64 → get_or word 0 0 ≤ 48 → (item : Item) → IsConnection count item.conn → word ≢ item_text item
begins count word small low item is e =
    let last = is.last in
    let digits = decimal_nonempty item.conn (omega arith) in
    let same : get_or word 0 0 ≡ get_or (decimal item.conn) 0 0 = ap (λ l. get_or l 0 0) e ∙ get_or_append_left (decimal item.conn) (if item.single then codes "." else []) 0 0 digits in
    let high = first_digit (decimal item.conn) item.conn (get_or (decimal item.conn) 0 0) is.first (omega arith) refl refl in
    omega arith

-- an item of a connection past the last one
past : (count : ℕ) (other : Item) → count < 2 ^ 64 → other.conn < 2 ^ 64 → count < other.conn → (item : Item) → IsConnection count item.conn → item_text other ≢ item_text item
past count other small small_other far item is e =
    let last = is.last in
    let same : other.conn ≡ item.conn = ap (λ (i : Item). i.conn) (item_injective other item small_other (omega arith) e) in
    omega arith

none : (count : ℕ) (text : List ℕ) (k : ℕ) (word : List ℕ) → count < 2 ^ 64 → 0 < length text → k < length (slice_split (λ b. b == 32) text) → word ≡ get_or (slice_split (λ b. b == 32) text) k word → ((item : Item) → IsConnection count item.conn → word ≢ item_text item) → IsNone count text
none count text k word small some lt at other xs = no_schedule count text k word small some lt at other xs

pub two_cases : TwoCases
unfolding digits
two_cases = (
  record { spelled = refl; within = within 2 (map turn (1 ∷ 1 ∷ 2 ∷ [])) refl },
  record { spelled = refl; within = within 2 (map turn (1 ∷ 2 ∷ 2 ∷ [])) refl },
  record { spelled = refl; within = within 2 (map turn (2 ∷ 1 ∷ 2 ∷ [])) refl },
  record { spelled = refl; within = within 2 (map turn (1 ∷ 2 ∷ 1 ∷ 2 ∷ [])) refl },
  record { spelled = refl; within = within 2 (map turn (1 ∷ 1 ∷ 2 ∷ 2 ∷ 1 ∷ [])) refl },
  record { spelled = refl; within = within 2 (map turn (1 ∷ 1 ∷ 2 ∷ 2 ∷ 2 ∷ [])) refl },
  record { spelled = refl; within = within 2 (map turn (1 ∷ 1 ∷ 2 ∷ 2 ∷ 1 ∷ 2 ∷ [])) refl },
  record { spelled = refl; within = within 2 (map turn (2 ∷ 1 ∷ 1 ∷ 1 ∷ 1 ∷ 1 ∷ [])) refl },
  record { spelled = refl; within = within 2 (map turn (1 ∷ 1 ∷ 1 ∷ 1 ∷ 1 ∷ 2 ∷ 2 ∷ 2 ∷ 2 ∷ [])) refl },
  record { spelled = refl; within = within 2 (map turn (1 ∷ 1 ∷ 1 ∷ 2 ∷ 2 ∷ 2 ∷ 2 ∷ 2 ∷ 2 ∷ [])) refl },
)

pub other_cases : OtherCases
unfolding digits
other_cases = (
  record { spelled = refl; within = within 1 [] refl },
  record { spelled = refl; within = within 3 (map turn (1 ∷ 2 ∷ 3 ∷ 1 ∷ 2 ∷ 3 ∷ [])) refl },
  record { spelled = refl; within = within 2 (turn 1 ∷ step 2 ∷ []) refl },
  record { spelled = refl; within = within 64 (step 64 ∷ turn 10 ∷ []) refl },
)

pub number_cases : NumberCases
unfolding digits
number_cases = (
  none 2 (codes "01") 0 (codes "01") (lit< tt) (lit< tt) (lit< tt) refl (begins 2 (codes "01") (lit< tt) (lit≤ tt)),
  none 2 (codes "0") 0 (codes "0") (lit< tt) (lit< tt) (lit< tt) refl (begins 2 (codes "0") (lit< tt) (lit≤ tt)),
  none 1 (codes "3") 0 (codes "3") (lit< tt) (lit< tt) (lit< tt) refl (past 1 (turn 3) (lit< tt) (lit< tt) (lit< tt)),
  none 2 (codes "1 2 3.") 2 (codes "3.") (lit< tt) (lit< tt) (lit< tt) refl (past 2 (step 3) (lit< tt) (lit< tt) (lit< tt)),
  none 2 (codes "+1") 0 (codes "+1") (lit< tt) (lit< tt) (lit< tt) refl (begins 2 (codes "+1") (lit< tt) (lit≤ tt)),
)

pub mark_cases : MarkCases
mark_cases = (
  none 2 (codes " ") 0 [] (lit< tt) (lit< tt) (lit< tt) refl (begins 2 [] (lit< tt) (lit≤ tt)),
  none 2 (codes "1 ") 1 [] (lit< tt) (lit< tt) (lit< tt) refl (begins 2 [] (lit< tt) (lit≤ tt)),
  none 2 (codes "1  2") 1 [] (lit< tt) (lit< tt) (lit< tt) refl (begins 2 [] (lit< tt) (lit≤ tt)),
  none 2 (codes ".") 0 (codes ".") (lit< tt) (lit< tt) (lit< tt) refl (begins 2 (codes ".") (lit< tt) (lit≤ tt)),
  none 2 (codes "1 .2") 1 (codes ".2") (lit< tt) (lit< tt) (lit< tt) refl (begins 2 (codes ".2") (lit< tt) (lit≤ tt)),
)

-- Items and schedules as texts: which item a word is, and which words a schedule is made of.
use Rattle.std.proofs.Common.{◌≡◌, ◌≢◌, ◌∙◌, sym, ap, ap₂, refl, ℕ, zero, suc, ◌<◌, ◌≤◌, ◌^◌, ◌==◌, Bool, true, false, List, [], ◌∷◌, ◌++◌, length, get_or, map, Result, Ok, Err, arith, lit<}
use Rattle.std.specs.Prelude.{codes, decimal, if◌then◌else◌}
use Rattle.std.specs.List.{All, flat_map, join_with_byte, slice_split}
use Rattle.std.specs.Str.Parse.{AllDigits, ParsesUnsigned, digits_value}
use Rattle.std.proofs.lemmas.Bool.{ne_eqb}
use Rattle.std.proofs.lemmas.Fmt.{decimal-digits_value, decimal_digit, decimal_injective, decimal_nonempty, digits_decimal, first_decimal, parse-decimal}
use Rattle.std.proofs.lemmas.List.{append-nil, append_cancel_right, get_or_at, get_or-map, length-append, length-map}
use Rattle.std.proofs.lemmas.List.Elements.{All-append, All-cons, All-from_get_or, All-head, All-nil, All-tail, All-weaker}
use Rattle.std.proofs.lemmas.List.Splits.{join_with_byte-slice_split, slice_split_at, slice_split_none}
use Rattle.std.proofs.lemmas.Str.Parse.{IsNumeralModel, not_in_digits, numerals_by_value, parse_plain, tells_digits}
use Rattle.wat_schedule.specs.declared.item.Item.{Item}
use Rattle.wat_schedule.specs.Schedule.{IsConnection, IsSchedule, item_text, schedule_text}

abbrev is_space : ℕ → Bool
is_space b = b == 32

abbrev full_stop : List ℕ
full_stop = 46 ∷ []

-- digits, as `parse` reads them
own : IsNumeralModel (AllDigits 10) (digits_value 10)
own = numerals_by_value (AllDigits 10) tells_digits

-- a byte below `0` stands in no number
lacks : (c n : ℕ) → c < 48 → n < 2 ^ 64 → (i : ℕ) → i < length (decimal n) → get_or (decimal n) i 0 ≢ c
lacks c n low small i lt = not_in_digits own (decimal n) c (digits_decimal own n small) (λ r. omega arith) i lt

-- a number from 1 on begins with another digit than 0
pub first_digit : (ds : List ℕ) (n c : ℕ) → 1 ≤ n → n < 2 ^ 64 → ds ≡ decimal n → get_or ds 0 0 ≡ c → 48 < c
first_digit ds n c pos small e at =
    let low = first_decimal n (omega arith) small in
    let same : get_or ds 0 0 ≡ get_or (decimal n) 0 0 = ap (λ l. get_or l 0 0) e in
    omega arith

-- what `parse` makes of a text that begins with no 0 and no plus sign
pub parsed : {E : Type 0} (ds : List ℕ) (r : Result ℕ E) (n : ℕ) → get_or ds 0 0 ≢ 48 → get_or ds 0 0 ≢ 43 → ParsesUnsigned 16 10 ds r → r ≡ Ok n → (ds ≡ decimal n) × (1 ≤ n)
parsed ds r n not_zero not_plus h e =
    let k = rw e at (parse_plain own 16 ds r h not_plus) in
    let small : digits_value 10 ds < 2 ^ 64 = let below = k.0.2 in omega arith in
    let same : ds ≡ decimal n = sym (decimal-digits_value own ds k.0.0 k.0.1 (λ f. absurd (not_zero f)) small) ∙ ap decimal (sym k.1) in
    (same, go n same)
  where
    go : (m : ℕ) → ds ≡ decimal m → 1 ≤ m
    go zero s = absurd (not_zero (ap (λ l. get_or l 0 0) (s ∙ decimal_digit 0 (lit< tt))))
    go (suc m) s = omega arith

pub unparsed : {E : Type 0} (ds : List ℕ) (r : Result ℕ E) (x : E) (n : ℕ) → ParsesUnsigned 16 10 ds r → r ≡ Err x → n < 2 ^ 16 → ds ≢ decimal n
unparsed ds r x n h e small same =
    let ok = parse-decimal 16 n ds r small (omega arith) same h in
    cc

-- no number ends with a full stop
no_full_stop : (n : ℕ) (front : List ℕ) → n < 2 ^ 64 → decimal n ≢ front ++ full_stop
no_full_stop n front small e =
    let long = ap length e in
    let in' : length front < length (decimal n) = omega (arith, long, length-append front full_stop) in
    lacks 46 n (lit< tt) small (length front) in' (ap (λ l. get_or l (length front) 0) e ∙ get_or_at front 46 [] 0 (length front) refl)

-- a word with a full stop at its end is the single step of the number before it
pub not_single : (word digits : List ℕ) (count : ℕ) → count < 2 ^ 64 → word ≡ digits ++ full_stop → ((conn : ℕ) → IsConnection count conn → digits ≢ decimal conn) → (item : Item) → IsConnection count item.conn → word ≢ item_text item
not_single word digits count small e none item is same = go item.single same
  where
    go : (s : Bool) → word ≢ decimal item.conn ++ (if s then codes "." else [])
    go true t = none item.conn is (append_cancel_right digits (decimal item.conn) full_stop (sym e ∙ t))
    go false t =
        no_full_stop item.conn digits (let low = is.last in omega arith) (sym (append-nil (decimal item.conn)) ∙ sym t ∙ e)

-- a word without one is a number
pub not_whole : (word : List ℕ) (count : ℕ) → ((front : List ℕ) → word ≢ front ++ full_stop) → ((conn : ℕ) → IsConnection count conn → word ≢ decimal conn) → (item : Item) → IsConnection count item.conn → word ≢ item_text item
not_whole word count plain none item is same = go item.single same
  where
    go : (s : Bool) → word ≢ decimal item.conn ++ (if s then codes "." else [])
    go true t = plain (decimal item.conn) t
    go false t = none item.conn is (t ∙ append-nil (decimal item.conn))

-- the text of an item tells it
pub item_injective : (a b : Item) → a.conn < 2 ^ 64 → b.conn < 2 ^ 64 → item_text a ≡ item_text b → a ≡ b
item_injective a b small_a small_b e =
    let parts = go a.single b.single e in
    let item_of : ℕ → Bool → Item = λ m s. record { conn = m; single = s } in
    ap₂ item_of parts.0 parts.1
  where
    go : (s t : Bool) → decimal a.conn ++ (if s then codes "." else []) ≡ decimal b.conn ++ (if t then codes "." else []) → (a.conn ≡ b.conn) × (s ≡ t)
    go true true h = (decimal_injective a.conn b.conn small_a small_b (append_cancel_right (decimal a.conn) (decimal b.conn) full_stop h), refl)
    go false false h =
        (decimal_injective a.conn b.conn small_a small_b (sym (append-nil (decimal a.conn)) ∙ h ∙ append-nil (decimal b.conn)), refl)
    go true false h = absurd (no_full_stop b.conn (decimal a.conn) small_b (sym (append-nil (decimal b.conn)) ∙ sym h))
    go false true h = absurd (no_full_stop a.conn (decimal b.conn) small_a (sym (append-nil (decimal a.conn)) ∙ h))

-- no item has a space in it
no_space-item : (item : Item) → item.conn < 2 ^ 64 → All (λ b. is_space b ≡ false) (item_text item)
no_space-item item small =
    All-append (λ b. is_space b ≡ false) (decimal item.conn) _ (All-from_get_or (λ b. is_space b ≡ false) (decimal item.conn) 0 (λ i lt. ne_eqb (get_or (decimal item.conn) i 0) 32 (lacks 32 item.conn (lit< tt) small i lt))) (go item.single)
  where
    go : (s : Bool) → All (λ b. is_space b ≡ false) (if s then codes "." else [])
    go true = All-cons (λ b. is_space b ≡ false) 46 [] refl (All-nil (λ b. is_space b ≡ false))
    go false = All-nil (λ b. is_space b ≡ false)

abbrev IsSmall : Item → Type 0
IsSmall item = item.conn < 2 ^ 64

small_items : (count : ℕ) (items : List Item) → count < 2 ^ 64 → All (λ item. IsConnection count item.conn) items → All IsSmall items
small_items count items small =
    All-weaker (λ item. IsConnection count item.conn) IsSmall (λ item is. let low = is.last in omega arith) items

-- the words of a schedule are its items
words_schedule : (x : Item) (xs : List Item) → All IsSmall (x ∷ xs) → slice_split is_space (schedule_text (x ∷ xs)) ≡ map item_text (x ∷ xs)
words_schedule x [] small =
    ap (slice_split is_space) (append-nil (item_text x)) ∙ slice_split_none is_space (item_text x) (no_space-item x (All-head IsSmall x [] small))
words_schedule x (y ∷ ys) small =
    slice_split_at is_space (item_text x) 32 (schedule_text (y ∷ ys)) (no_space-item x (All-head IsSmall x (y ∷ ys) small)) refl ∙ ap (λ ws. item_text x ∷ ws) (words_schedule y ys (All-tail IsSmall x (y ∷ ys) small))

joined : (xs : List Item) → join_with_byte 32 (map item_text xs) ≡ schedule_text xs
joined [] = refl
joined (x ∷ []) = sym (append-nil (item_text x))
joined (x ∷ y ∷ ys) = ap (λ t. item_text x ++ 32 ∷ t) (joined (y ∷ ys))

-- a text whose words are items is their schedule
pub schedule_of_words : (text : List ℕ) (xs : List Item) → map item_text xs ≡ slice_split is_space text → text ≡ schedule_text xs
schedule_of_words text xs e =
    sym (join_with_byte-slice_split 32 text) ∙ ap (join_with_byte 32) (sym e) ∙ joined xs

not_empty : (x : Item) (xs : List Item) → All IsSmall (x ∷ xs) → 0 < length (schedule_text (x ∷ xs))
not_empty x xs small =
    let digits = decimal_nonempty x.conn (All-head IsSmall x xs small) in
    let item = length-append (decimal x.conn) (if x.single then codes "." else []) in
    let all = length-append (item_text x) (flat_map (λ y. codes " " ++ item_text y) xs) in
    omega arith

-- a text with a word that is no item is no schedule
pub no_schedule : (count : ℕ) (text : List ℕ) (k : ℕ) (word : List ℕ) → count < 2 ^ 64 → 0 < length text → k < length (slice_split is_space text) → word ≡ get_or (slice_split is_space text) k word → ((item : Item) → IsConnection count item.conn → word ≢ item_text item) → (xs : List Item) → ¬ IsSchedule count text xs
no_schedule count text k word small some lt at none [] s =
    let e : length text ≡ 0 = ap length s.spelled in omega arith
no_schedule count text k word small some lt at none (x ∷ xs) s =
    let e : slice_split is_space text ≡ map item_text (x ∷ xs) = ap (slice_split is_space) s.spelled ∙ words_schedule x xs (small_items count (x ∷ xs) small s.within) in
    let long : length (slice_split is_space text) ≡ length (x ∷ xs) = ap length e ∙ length-map (x ∷ xs) item_text in
    let in' : k < length (x ∷ xs) = omega arith in
    none (get_or (x ∷ xs) k x) (s.within k x in') (at ∙ ap (λ l. get_or l k word) e ∙ get_or-map item_text (x ∷ xs) k x word in')

items_told : (xs ys : List Item) → All IsSmall xs → All IsSmall ys → map item_text xs ≡ map item_text ys → xs ≡ ys
items_told [] [] sx sy e = refl
items_told [] (y ∷ ys) sx sy e = cc
items_told (x ∷ xs) [] sx sy e = cc
items_told (x ∷ xs) (y ∷ ys) sx sy e =
    let heads : item_text x ≡ item_text y = cc in
    let tails : map item_text xs ≡ map item_text ys = cc in
    ap₂ ◌∷◌ (item_injective x y (All-head IsSmall x xs sx) (All-head IsSmall y ys sy) heads) (items_told xs ys (All-tail IsSmall x xs sx) (All-tail IsSmall y ys sy) tails)

-- a text is the schedule of one list of items at most
pub one_reading : (count : ℕ) (text : List ℕ) (xs ys : List Item) → count < 2 ^ 64 → IsSchedule count text xs → IsSchedule count text ys → xs ≡ ys
one_reading count text [] [] small s t = refl
one_reading count text [] (y ∷ ys) small s t =
    let some = not_empty y ys (small_items count (y ∷ ys) small t.within) in
    let e : length (schedule_text (y ∷ ys)) ≡ 0 = ap length (sym t.spelled ∙ s.spelled) in
    absurd (omega arith)
one_reading count text (x ∷ xs) [] small s t =
    let some = not_empty x xs (small_items count (x ∷ xs) small s.within) in
    let e : length (schedule_text (x ∷ xs)) ≡ 0 = ap length (sym s.spelled ∙ t.spelled) in
    absurd (omega arith)
one_reading count text (x ∷ xs) (y ∷ ys) small s t =
    let sx = small_items count (x ∷ xs) small s.within in
    let sy = small_items count (y ∷ ys) small t.within in
    items_told (x ∷ xs) (y ∷ ys) sx sy (sym (words_schedule x xs sx) ∙ ap (slice_split is_space) (sym s.spelled ∙ t.spelled) ∙ words_schedule y ys sy)

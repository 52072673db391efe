-- The keys of rows in an index stand in strict order where the rows' primary keys are distinct.
use Rattle.std.proofs.Common.{◌≡◌, ℕ, Bool, true, false, ◌&&◌, cond, List, [], ◌∷◌, ◌++◌, ◌⊎◌, length, map, drop, refl, sym, ◌∙◌, ap, subst, inl, inr, ⊎_elim}
use Rattle.std.specs.List.{list_all}
use Rattle.std.specs.declared.cmp.Ordering.{Ordering}
use Rattle.std.specs.declared.cmp.Ordering.TheVariants.{Less, Equal, Greater}
use Rattle.std.specs.Ordering.{is_lt, is_gt, ordering_reverse}
use Rattle.std.proofs.Math.Seq.{drop-append_seam}
use Rattle.std.proofs.lemmas.Bool.{and_parts}
use Rattle.std.proofs.lemmas.List.{map-append, length-map}
use Rattle.sqlite_keyed.specs.Lists.{sort_by, insert_sorted}
use Rattle.wat_list.specs.Has.{Has, IsOnce}
use Rattle.wat_list.specs.Rising.{rising}
use Rattle.wat_list.proofs.Members.{has_map, map_has}
use Rattle.wat_value.specs.declared.value.Value.{Value}
use Rattle.wat_value.specs.declared.definition.TableDef.{TableDef}
use Rattle.wat_value.specs.declared.definition.IndexDef.{IndexDef}
use Rattle.wat_value.specs.Fits.{value_in, values_in, key_of}
use Rattle.wat_value.specs.Indexes.{index_columns, index_key, index_keys}
use Rattle.wat_value.specs.Order.{key_cmp}
use Rattle.wat_value.specs.OrderLaws.{key_cmp_total, key_cmp_level}

abbrev Key : Type 0
Key = List Value

-- a test that holds of the new key and of all others holds of all
all_inserted : (p : Key → Bool) (new : Key) (keys : List Key) → p new ≡ true → list_all p keys ≡ true → list_all p (insert_sorted key_cmp new keys) ≡ true
all_inserted p new [] one all = ap (λ b. b && true) one
all_inserted p new (key ∷ keys) one all =
    let parts = and_parts (p key) (list_all p keys) all in
    by (is_gt (key_cmp new key)) parts.0 (all_inserted p new keys one parts.1)
  where
    by : (b : Bool) → p key ≡ true → list_all p (insert_sorted key_cmp new keys) ≡ true → list_all p (cond b (key ∷ insert_sorted key_cmp new keys) (new ∷ key ∷ keys)) ≡ true
    by true here rest = λ i. here i && rest i
    by false here rest = λ i. one i && all i

-- a key that is before one is before all that are behind it
all_behind : (new key : Key) (keys : List Key) → key_cmp new key ≡ Less → list_all (λ other. is_lt (key_cmp key other)) keys ≡ true → list_all (λ other. is_lt (key_cmp new other)) keys ≡ true
all_behind new key [] less all = refl
all_behind new key (other ∷ keys) less all =
    let parts = and_parts (is_lt (key_cmp key other)) (list_all (λ other. is_lt (key_cmp key other)) keys) all in
    λ i. is_lt (key_cmp_total.trans new key other less (less_of (key_cmp key other) parts.0) i) && all_behind new key keys less parts.1 i
  where
    less_of : (o : Ordering) → is_lt o ≡ true → o ≡ Less
    less_of Less h = refl
    less_of Equal h = cc
    less_of Greater h = cc

rising_inserted : (new : Key) (keys : List Key) → (Has new keys → ⊥) → rising key_cmp keys ≡ true → rising key_cmp (insert_sorted key_cmp new keys) ≡ true
rising_inserted new [] apart up = refl
rising_inserted new (key ∷ keys) apart up =
    let parts = and_parts (list_all (λ other. is_lt (key_cmp key other)) keys) (rising key_cmp keys) up in
    by (key_cmp new key) refl parts.0 (rising_inserted new keys (λ h. apart (inr h)) parts.1)
  where
    by : (o : Ordering) → key_cmp new key ≡ o → list_all (λ other. is_lt (key_cmp key other)) keys ≡ true → rising key_cmp (insert_sorted key_cmp new keys) ≡ true
        → rising key_cmp (cond (is_gt o) (key ∷ insert_sorted key_cmp new keys) (new ∷ key ∷ keys)) ≡ true
    by Less e all rest = λ i. (is_lt (e i) && all_behind new key keys e all i) && up i
    by Equal e all rest = absurd (apart (inl (sym (key_cmp_level new key e))))
    by Greater e all rest = λ i. all_inserted (λ other. is_lt (key_cmp key other)) new keys (ap is_lt (key_cmp_total.antisymm key new ∙ ap ordering_reverse e)) all i && rest i

has_inserted : (z new : Key) (keys : List Key) → Has z (insert_sorted key_cmp new keys) → Has z (new ∷ keys)
has_inserted z new [] h = h
has_inserted z new (key ∷ keys) h = by (is_gt (key_cmp new key)) (has_inserted z new keys) h
  where
    by : (b : Bool) → (Has z (insert_sorted key_cmp new keys) → Has z (new ∷ keys)) → Has z (cond b (key ∷ insert_sorted key_cmp new keys) (new ∷ key ∷ keys)) → Has z (new ∷ key ∷ keys)
    by true rest (inl e) = inr (inl e)
    by true rest (inr m) = ⊎_elim (λ (e : new ≡ z). inl e) (λ (n : Has z keys). inr (inr n)) (rest m)
    by false rest m = m

has_sorted : (z : Key) (keys : List Key) → Has z (sort_by key_cmp keys) → Has z keys
has_sorted z [] h = h
has_sorted z (key ∷ keys) h = ⊎_elim (λ (e : key ≡ z). inl e) (λ (m : Has z (sort_by key_cmp keys)). inr (has_sorted z keys m)) (has_inserted z key (sort_by key_cmp keys) h)

rising_sorted : (keys : List Key) → IsOnce keys → rising key_cmp (sort_by key_cmp keys) ≡ true
rising_sorted [] one = refl
rising_sorted (key ∷ keys) one = rising_inserted key (sort_by key_cmp keys) (λ h. one.0 (has_sorted key keys h)) (rising_sorted keys one.1)

module _ (def : TableDef) (indexes : List IndexDef) (index : ℕ) where
  -- the primary key ends the key in an index
  key_behind : (row : List Value) → drop (length (index_columns indexes index)) (index_key def indexes index row) ≡ key_of def row
  key_behind row =
      let own = index_columns indexes index in
      ap (drop (length own)) (map-append (value_in row) own def.key)
      ∙ ap (λ n. drop n (values_in row own ++ values_in row def.key)) (sym (length-map own (value_in row)))
      ∙ drop-append_seam (values_in row own) (values_in row def.key)

  once_keys : (rows : List (List Value)) → IsOnce (map (key_of def) rows) → IsOnce (map (index_key def indexes index) rows)
  once_keys [] one = tt
  once_keys (row ∷ rows) one = (
    λ h.
        let r = has_map (index_key def indexes index) (index_key def indexes index row) rows h in
        let same : key_of def r.0 ≡ key_of def row = sym (key_behind r.0) ∙ ap (drop (length (index_columns indexes index))) r.2 ∙ key_behind row in
        one.0 (subst (λ z. Has z (map (key_of def) rows)) same (map_has (key_of def) r.0 rows r.1)),
    once_keys rows one.1,
  )

  pub keys_rise : (rows : List (List Value)) → IsOnce (map (key_of def) rows) → rising key_cmp (index_keys def indexes index rows) ≡ true
  keys_rise rows one = rising_sorted (map (index_key def indexes index) rows) (once_keys rows one)

-- Reads and writes of pages in main.
use Rattle.std.proofs.Common.{◌≡◌, ◌≢◌, inl, ℕ, zero, suc, ◌+◌, ◌-◌, ◌*◌, ◌<◌, ◌≤◌, Bool, true, false, List, [], ◌∷◌, ◌++◌, length, take, drop, get_or, Some, None, refl, sym, ◌∙◌, ap, subst, arith}
use Rattle.std.specs.Prelude.{nat_eq, slice_range, MatchOption, ◌||◌}
use Rattle.std.specs.List.{list_any}
use Rattle.std.specs.Map.{keys_of}
use Rattle.std.proofs.lemmas.Bool.{eq-eqb}
use Rattle.std.proofs.lemmas.List.{map-append, append-nil}
use Rattle.std.proofs.lemmas.List.Folds.{list_any-append}
use Rattle.std.proofs.lemmas.List.Concat.{flat_map-append}
use Rattle.wat_disk.specs.Bytes.{written, Torn}
use Rattle.wat_disk.specs.Disk.{Image, Told, IsSynced, InFile, SameFiles, EachStop}
use Rattle.wat_faults.specs.Faults.{HasCause}
use Rattle.wat_disk.proofs.Stops.{stays, weaker, goes_on_in_file, synced_same}
use Rattle.wat_gate.specs.Bodies.{bodies, IsWhole, KeepsOrAdds}
use Rattle.wat_restore.specs.Restored.{page_at, HasPage, image_bytes, laid, image_of, StandsIn, KeepsPagesBut}
use Rattle.wat_restore.specs.Opening.{IsMissing}
use Rattle.wat_restore.specs.Images.{encoded, pages_of, IsShort}
use Rattle.wat_images.specs.Refusal.{IfDamaged}
use Rattle.wat_images.specs.declared.refusal.PageRefusal.{PageRefusal}
use Rattle.wat_images.specs.declared.refusal.PageRefusal.TheVariants.{DiskFault, Damaged, PageLimit, Memory}
use Rattle.wat_restore.proofs.Laid.{torn_other}

pub read_page : (main into : List ℕ) (page at n : ℕ) → at ≡ 4096 * page → n ≡ 4096 → at + n ≤ length main → into ≡ slice_range main at (at + n) → HasPage main page into
read_page main into page at n place long within is =
    let count : at + n - at ≡ 4096 = omega arith in
    record { whole = omega arith; is = (λ i. take (sym count i) (drop (sym place i) main)) ∙ sym is }

pub is_among : (q : ℕ) (first rest : List ℕ) → list_any (nat_eq q) (first ++ q ∷ rest) ≡ true
is_among q [] rest = rw (eq-eqb q q refl) refl
is_among q (x ∷ first) rest = grind (arith, is_among q first rest)

pub apart : (page q : ℕ) (pages first rest : List ℕ) → pages ≡ first ++ q ∷ rest → list_any (nat_eq page) pages ≡ false → page ≢ q
apart page q pages first rest is none same =
    let here : list_any (nat_eq page) pages ≡ true = subst (λ (p : ℕ). list_any (nat_eq p) pages ≡ true) (sym same) (ap (list_any (nat_eq q)) is ∙ is_among q first rest) in
    let no : false ≡ true = sym none ∙ here in cc

-- one write more
pub one_write : (entry mid new : Told) (pages first rest : List ℕ) (q at n : ℕ) → pages ≡ first ++ q ∷ rest → at ≡ 4096 * q → n ≡ 4096 → EachStop entry mid (InFile 0 (KeepsPagesBut pages))
    → EachStop mid new (InFile 0 (Torn at n)) → EachStop entry new (InFile 0 (KeepsPagesBut pages))
one_write entry mid new pages first rest q at n is place long so_far write = goes_on_in_file 0 entry mid new (KeepsPagesBut pages) (Torn at n) so_far write
    (λ before image after was now step next page bytes none has.
    torn_other page q bytes (image 0) after (apart page q pages first rest is none) (subst (λ (m : ℕ). Torn (4096 * q) m (image 0) after) long (subst (λ (m : ℕ). Torn m n (image 0) after) place next)) (step page bytes none has))

pub no_write : (entry : Told) (pages : List ℕ) → EachStop entry entry (InFile 0 (KeepsPagesBut pages))
no_write entry pages = stays entry (InFile 0 (KeepsPagesBut pages)) (λ image left. record { changed = λ page bytes none has. has; others = λ other not_it. refl })

-- where a page stands among the keys
pub key_place : (entries first rest : List (ℕ × List ℕ)) (page : ℕ) (bytes : List ℕ) → entries ≡ first ++ (page, bytes) ∷ rest → keys_of entries ≡ keys_of first ++ page ∷ keys_of rest
key_place entries first rest page bytes is = ap (λ (l : List (ℕ × List ℕ)). keys_of l) is ∙ map-append (λ (entry : ℕ × List ℕ). entry.0) first ((page, bytes) ∷ rest)

pub caused : (old mid new : ℕ) (failed : Type 0) → HasCause old mid ⊥ → HasCause mid new failed → (failed → ⊥) → HasCause old new ⊥
caused old mid new failed first second well = record {
  later = omega (arith, first.later, second.later);
  rose = λ never. absurd never;
  kept = λ fine. second.kept well ∙ first.kept fine;
}

pub no_cause : (faults : ℕ) → HasCause faults faults ⊥
no_cause faults = record { later = omega arith; rose = λ never. absurd never; kept = λ fine. refl }

-- ---- a frame of images
pub if_damaged : (refusal : PageRefusal) (P Q : ℕ → ℕ → Type 0) → ((file at : ℕ) → P file at → Q file at) → IfDamaged refusal P → IfDamaged refusal Q
if_damaged DiskFault P Q says is = tt
if_damaged (Damaged file at) P Q says is = says file.0 at is
if_damaged (PageLimit count limit) P Q says is = tt
if_damaged Memory P Q says is = tt

pub among_place : (pages : List ℕ) (i : ℕ) → i < length pages → list_any (nat_eq (get_or pages i 0)) pages ≡ true
among_place [] i here = absurd (omega arith)
among_place (page ∷ pages) zero here = ap (λ (b : Bool). b || list_any (nat_eq page) pages) (eq-eqb page page refl)
among_place (page ∷ pages) (suc i) here = later (nat_eq (get_or pages i 0) page) (list_any (nat_eq (get_or pages i 0)) pages) (among_place pages i (omega arith))
  where
    later : (b c : Bool) → c ≡ true → (b || c) ≡ true
    later true c is = refl
    later false c is = is

pub encoded-push : (main pages : List ℕ) (page : ℕ) → encoded (pages_of main (pages ++ page ∷ [])) ≡ encoded (pages_of main pages) ++ image_bytes (page, page_at main page)
encoded-push main pages page =
    ap (λ (l : List (ℕ × List ℕ)). encoded l) (map-append (λ (p : ℕ). (p, page_at main p)) pages (page ∷ []))
    ∙ flat_map-append image_bytes (pages_of main pages) ((page, page_at main page) ∷ [])
    ∙ ap (λ (l : List ℕ). encoded (pages_of main pages) ++ l) (append-nil (image_bytes (page, page_at main page)))

module _ (entry mid new : Told) (body : List ℕ) (synced : IsSynced entry 1) (whole : IsWhole (entry.content 1)) (reads : EachStop entry mid SameFiles) where
  -- up to the append nothing is written
  pub reads_add : EachStop entry mid (InFile 1 (KeepsOrAdds body))
  reads_add = weaker entry mid SameFiles (InFile 1 (KeepsOrAdds body)) reads (λ before image was step. record {
    changed = record { whole = subst IsWhole (sym (step 1 ∙ synced before was)) whole; either = inl (ap bodies (step 1)) };
    others = λ other not_it. step other;
  })

  pub then_appends : SameFiles entry.content mid.content → (frame : List ℕ) (file : ℕ) → frame ≡ body → file ≡ 1 → (IsSynced mid file → EachStop mid new (InFile file (KeepsOrAdds frame))) → EachStop entry new (InFile 1 (KeepsOrAdds body))
  then_appends same frame file is place append =
      let mid_synced : IsSynced mid 1 = synced_same 1 entry mid synced same reads in
      let stops : EachStop mid new (InFile 1 (KeepsOrAdds body)) =
      subst (λ (f : ℕ). IsSynced mid f → EachStop mid new (InFile f (KeepsOrAdds body))) place (subst (λ (b : List ℕ). IsSynced mid file → EachStop mid new (InFile file (KeepsOrAdds b))) is append) mid_synced in
      goes_on_in_file 1 entry mid new (KeepsOrAdds body) (KeepsOrAdds body) reads_add stops
      (λ before image after was now first next. subst (λ (l : List ℕ). KeepsOrAdds body l after) (mid_synced image now ∙ same 1 ∙ sym (synced before was)) next)

-- a page that isn't whole in main is one of these
pub short_among : (refusal : PageRefusal) (mid entry pages : List ℕ) (i : ℕ) → mid ≡ entry → i < length pages
    → IfDamaged refusal (λ file at. (file ≡ 0) × (at ≡ 4096 * get_or pages i 0) × (length mid < 4096 * get_or pages i 0 + 4096)) → IfDamaged refusal (IsShort entry pages)
short_among refusal mid entry pages i same here is =
    if_damaged refusal (λ file at. (file ≡ 0) × (at ≡ 4096 * get_or pages i 0) × (length mid < 4096 * get_or pages i 0 + 4096)) (IsShort entry pages)
    (λ file at short. record { page = get_or pages i 0; among = among_place pages i here; in_main = short.0; place = short.1; short = omega (arith, short.2, ap length same) }) is

-- and so of more pages
pub short_more : (refusal : PageRefusal) (mid entry chunk pages : List ℕ) → mid ≡ entry → ((page : ℕ) → list_any (nat_eq page) chunk ≡ true → list_any (nat_eq page) pages ≡ true)
    → IfDamaged refusal (IsShort mid chunk) → IfDamaged refusal (IsShort entry pages)
short_more refusal mid entry chunk pages same more is =
    if_damaged refusal (IsShort mid chunk) (IsShort entry pages)
    (λ file at short. record { page = short.page; among = more short.page short.among; in_main = short.in_main; place = short.place; short = omega (arith, short.short, ap length same) }) is

pub laid-append : (main : List ℕ) (first second : List (ℕ × List ℕ)) → laid main (first ++ second) ≡ laid (laid main first) second
laid-append main [] second = refl
laid-append main (image ∷ first) second = laid-append (written main (4096 * image.0) image.1) first second

-- more pages may change
pub more_change : (entry now : Told) (pages more : List ℕ) → EachStop entry now (InFile 0 (KeepsPagesBut pages)) → EachStop entry now (InFile 0 (KeepsPagesBut (pages ++ more)))
more_change entry now pages more stops = weaker entry now (InFile 0 (KeepsPagesBut pages)) (InFile 0 (KeepsPagesBut (pages ++ more))) stops (λ before image was step. record {
  changed = λ page bytes none has. step.changed page bytes (first_false (list_any (nat_eq page) pages) (list_any (nat_eq page) more) (sym (list_any-append (nat_eq page) pages more) ∙ none)) has;
  others = step.others;
})
  where
    first_false : (b c : Bool) → (b || c) ≡ false → b ≡ false
    first_false true c is = cc
    first_false false c is = refl

-- ---- a page that is in the files
pub stands_imaged : (files : Image) (page : ℕ) (image bytes : List ℕ) → image_of files page ≡ Some image → bytes ≡ image → StandsIn files page bytes
stands_imaged files page image bytes some is = subst (λ o. MatchOption o (HasPage (files 0) page bytes) (λ x. x ≡ bytes)) (sym some) (sym is)

pub stands_main : (files : Image) (page : ℕ) (bytes : List ℕ) → image_of files page ≡ None → HasPage (files 0) page bytes → StandsIn files page bytes
stands_main files page bytes none has = subst (λ o. MatchOption o (HasPage (files 0) page bytes) (λ x. x ≡ bytes)) (sym none) has

pub missing_short : (files : Image) (page file at : ℕ) → image_of files page ≡ None → file ≡ 0 → at ≡ 4096 * page → length (files 0) < 4096 * page + 4096 → IsMissing files page file at
missing_short files page file at none in_main place short = record {
  in_main = in_main;
  place = place;
  none = λ bytes stands.
      let has : HasPage (files 0) page bytes = subst (λ o. MatchOption o (HasPage (files 0) page bytes) (λ x. x ≡ bytes)) none stands in
      omega (arith, has.whole, short);
}

-- where the pages are there, none of them is short
pub none_short : (refusal : PageRefusal) (main pages : List ℕ) (page_of : ℕ → List ℕ) → ((page : ℕ) → list_any (nat_eq page) pages ≡ true → HasPage main page (page_of page)) → IfDamaged refusal (IsShort main pages)
    → IfDamaged refusal (λ file at. ⊥)
none_short refusal main pages page_of there is = if_damaged refusal (IsShort main pages) (λ file at. ⊥) (λ file at short. let has = there short.page short.among in omega (arith, has.whole, short.short)) is

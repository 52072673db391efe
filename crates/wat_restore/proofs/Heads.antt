-- What a header's page tells: its fields are read back, so it tells one header alone.
use Rattle.std.proofs.Common.{◌≡◌, ℕ, ◌-◌, ◌<◌, ◌^◌, List, ◌++◌, take, drop, replicate, Option, Some, None, refl, sym, ◌∙◌, ap}
use Rattle.std.specs.Prelude.{MatchOption, unwrap_or}
use Rattle.std.specs.Int.{w32, w64, to_be_bytes, from_be_bytes}
use Rattle.std.proofs.lemmas.Nat.{from_be_bytes-to_be_bytes_4, from_be_bytes-to_be_bytes_8}
use Rattle.wat_disk.specs.Disk.{Image}
use Rattle.wat_restore.specs.Head.{Head, head_fields, head_bytes, IsHead, number_at, long_at, ReadsAs}
use Rattle.wat_restore.specs.Restored.{page_at, HasPage, image_of, StandsIn, stored_page}

zeros : List ℕ
zeros = replicate (4096 - 56) 0

split : (head : Head) → head_bytes head ≡ head_fields head ++ zeros
unfolding head_bytes zeros
split head = refl

module _ (head : Head) (rest : List ℕ) where
  abbrev fields : List ℕ
  fields = head_fields head ++ rest

  limit_at : take 4 (drop 16 fields) ≡ to_be_bytes w32 head.limit
  limit_at = refl

  count_at : take 4 (drop 20 fields) ≡ to_be_bytes w32 head.count
  count_at = refl

  frames_at : take 8 (drop 24 fields) ≡ to_be_bytes w64 head.frames
  frames_at = refl

  place_at : take 8 (drop 32 fields) ≡ to_be_bytes w64 head.place
  place_at = refl

  catalog_at : take 4 (drop 40 fields) ≡ to_be_bytes w32 head.catalog
  catalog_at = refl

  rollback_at : take 4 (drop 44 fields) ≡ to_be_bytes w32 head.rollback
  rollback_at = refl

  free_at : take 4 (drop 48 fields) ≡ to_be_bytes w32 head.free
  free_at = refl

  next_table_at : take 4 (drop 52 fields) ≡ to_be_bytes w32 head.next_table
  next_table_at = refl

number_is : (head : Head) (at n : ℕ) → take 4 (drop at (head_fields head ++ zeros)) ≡ to_be_bytes w32 n → n < 2 ^ 32 → number_at (head_bytes head) at ≡ n
number_is head at n is fits = ap (λ (page : List ℕ). number_at page at) (split head) ∙ ap (from_be_bytes w32) is ∙ from_be_bytes-to_be_bytes_4 n fits

long_is : (head : Head) (at n : ℕ) → take 8 (drop at (head_fields head ++ zeros)) ≡ to_be_bytes w64 n → n < 2 ^ 64 → long_at (head_bytes head) at ≡ n
long_is head at n is fits = ap (λ (page : List ℕ). long_at page at) (split head) ∙ ap (from_be_bytes w64) is ∙ from_be_bytes-to_be_bytes_8 n fits

pub reads_back : (page : List ℕ) (head : Head) → IsHead page head → ReadsAs page head
reads_back page head is =
    let number = λ (at n : ℕ) (there : number_at (head_bytes head) at ≡ n). ap (λ (l : List ℕ). number_at l at) is.bytes ∙ there in
    let long = λ (at n : ℕ) (there : long_at (head_bytes head) at ≡ n). ap (λ (l : List ℕ). long_at l at) is.bytes ∙ there in
    record {
      limit = number 16 head.limit (number_is head 16 head.limit (limit_at head zeros) is.fits.limit);
      count = number 20 head.count (number_is head 20 head.count (count_at head zeros) is.fits.count);
      frames = long 24 head.frames (long_is head 24 head.frames (frames_at head zeros) is.fits.frames);
      place = long 32 head.place (long_is head 32 head.place (place_at head zeros) is.fits.place);
      catalog = number 40 head.catalog (number_is head 40 head.catalog (catalog_at head zeros) is.fits.catalog);
      rollback = number 44 head.rollback (number_is head 44 head.rollback (rollback_at head zeros) is.fits.rollback);
      free = number 48 head.free (number_is head 48 head.free (free_at head zeros) is.fits.free);
      next_table = number 52 head.next_table (number_is head 52 head.next_table (next_table_at head zeros) is.fits.next_table);
    }

-- a header that reads so
pub same_head : (page : List ℕ) (a b : Head) → ReadsAs page a → ReadsAs page b → a ≡ b
same_head page a b x y i = record {
  limit = (sym x.limit ∙ y.limit) i;
  count = (sym x.count ∙ y.count) i;
  frames = (sym x.frames ∙ y.frames) i;
  place = (sym x.place ∙ y.place) i;
  catalog = (sym x.catalog ∙ y.catalog) i;
  rollback = (sym x.rollback ∙ y.rollback) i;
  free = (sym x.free ∙ y.free) i;
  next_table = (sym x.next_table ∙ y.next_table) i;
}

pub one_head : (page : List ℕ) (a b : Head) → IsHead page a → IsHead page b → a ≡ b
one_head page a b x y = same_head page a b (reads_back page a x) (reads_back page b y)

same_page : (o : Option (List ℕ)) (main : List ℕ) (page : ℕ) (a b : List ℕ) → MatchOption o (HasPage main page a) (λ image. image ≡ a) → MatchOption o (HasPage main page b) (λ image. image ≡ b) → a ≡ b
same_page None main page a b x y = sym x.is ∙ y.is
same_page (Some image) main page a b x y = sym x ∙ y

pub one_page : (files : Image) (page : ℕ) (a b : List ℕ) → StandsIn files page a → StandsIn files page b → a ≡ b
one_page files page a b x y = same_page (image_of files page) (files 0) page a b x y

stands_so : (o : Option (List ℕ)) (main : List ℕ) (page : ℕ) (bytes : List ℕ) → MatchOption o (HasPage main page bytes) (λ image. image ≡ bytes) → unwrap_or o (page_at main page) ≡ bytes
stands_so None main page bytes is = is.is
stands_so (Some image) main page bytes is = is

-- a page that is in the files is the stored one
pub stands_is : (files : Image) (page : ℕ) (bytes : List ℕ) → StandsIn files page bytes → stored_page files page ≡ bytes
stands_is files page bytes is = stands_so (image_of files page) (files 0) page bytes is

-- The pages of the worked files.
use Rattle.std.proofs.Common.{◌≡◌, ◌≢◌, ℕ, ◌+◌, ◌*◌, ◌<◌, ◌≤◌, ◌^◌, List, [], ◌∷◌, ◌++◌, length, take, drop, replicate, refl, sym, ◌∙◌, ap, arith, rules, append_assoc, length-append}
use Rattle.std.proofs.lemmas.List.{take_at, drop_at, take_all, length-replicate}
use Rattle.wat_disk.specs.Disk.{Image}
use Rattle.wat_book.proofs.Chaining.{none_twice}
use Rattle.wat_gate.specs.Bodies.{bodies, IsWhole}
use Rattle.wat_restore.specs.Restored.{HasPage, StandsIn, IsImageLog, page_at}
use Rattle.wat_files_worked.specs.Files.{page_of, files_of}

pub page_long : (bytes : List ℕ) (zeros : ℕ) → length bytes + zeros ≡ 4096 → length (page_of bytes zeros) ≡ 4096
page_long bytes zeros sum = omega (arith, length-append bytes (replicate zeros 0), length-replicate {A = ℕ} zeros 0)

pub first_page : (a b c : List ℕ) → length a ≡ 4096 → HasPage (a ++ (b ++ c)) 0 a
first_page a b c long = record { whole = omega (arith, length-append a (b ++ c)); is = take_at a (b ++ c) 4096 long }

pub second_page : (a b c : List ℕ) → length a ≡ 4096 → length b ≡ 4096 → HasPage (a ++ (b ++ c)) 1 b
second_page a b c long_a long_b = record {
  whole = omega (arith, length-append a (b ++ c), length-append b c);
  is = ap (take 4096) (drop_at a (b ++ c) 4096 long_a) ∙ take_at b c 4096 long_b;
}

pub third_page : (a b c : List ℕ) → length a ≡ 4096 → length b ≡ 4096 → length c ≡ 4096 → HasPage (a ++ (b ++ c)) 2 c
third_page a b c long_a long_b long_c =
    let front : length (a ++ b) ≡ 8192 = omega (arith, length-append a b) in
    record {
      whole = omega (arith, length-append a (b ++ c), length-append b c);
      is = ap (λ main. take 4096 (drop 8192 main)) (sym (append_assoc a b c)) ∙ ap (take 4096) (drop_at (a ++ b) c 8192 front) ∙ take_all 4096 c (omega (arith, long_c));
    }

-- a closed gate is a log without images
pub no_images : IsImageLog (0 ∷ [])
unfolding bodies
no_images = record { whole = record { there = omega arith; closed = λ e. omega (arith, e) }; images = search rules; once = none_twice }

-- where there are no images, the pages are those of main
pub plain : (main log : List ℕ) (page : ℕ) (bytes : List ℕ) → HasPage main page bytes → StandsIn (files_of main (0 ∷ []) log) page bytes
unfolding bodies
plain main log page bytes has = has

pub plain_back : (main log : List ℕ) (page : ℕ) (bytes : List ℕ) → StandsIn (files_of main (0 ∷ []) log) page bytes → HasPage main page bytes
unfolding bodies
plain_back main log page bytes stands = stands

-- What the main file and the before file stand for: the pages of main, with the images of before laid over them.
use Rattle.std.specs.Prelude.{◌≡◌, ℕ, zero, suc, ◌+◌, ◌*◌, ◌/◌, ◌%◌, ◌<◌, ◌≤◌, nat_eq, false, List, [], ◌∷◌, ◌++◌, length, take, drop, All, Option, MatchOption, unwrap_or}
use Rattle.std.specs.List.{flat_map, list_any, IsDistinct}
use Rattle.std.specs.Map.{lookup, keys_of}
use Rattle.std.specs.Int.{w32, to_be_bytes, from_be_bytes}
use Rattle.wat_disk.specs.Bytes.{written}
use Rattle.wat_disk.specs.Disk.{Image}
use Rattle.wat_gate.specs.Bodies.{bodies, IsWhole}

-- the bytes of a page
abbrev pub page_at : List ℕ → ℕ → List ℕ
page_at main page = take 4096 (drop (4096 * page) main)

-- the page is whole in the file, with these bytes
pub record HasPage (main : List ℕ) (page : ℕ) (bytes : List ℕ) : Type 0 where
  pub whole : 4096 * page + 4096 ≤ length main
  pub is : page_at main page ≡ bytes

-- an image as it is written: the number of a page and its bytes
abbrev pub image_bytes : ℕ × List ℕ → List ℕ
image_bytes image = to_be_bytes w32 image.0 ++ image.1

-- the first n images in these bytes
abbrev pub images_from : ℕ → List ℕ → List (ℕ × List ℕ)
images_from zero bytes = []
images_from (suc n) bytes = (from_be_bytes w32 (take 4 bytes), take 4096 (drop 4 bytes)) ∷ images_from n (drop 4100 bytes)

-- the images in a frame's body
unfoldable pub images_of : List ℕ → List (ℕ × List ℕ)
images_of body = images_from (length body / 4100) body

-- the images in a checkpoint log
abbrev pub images_in : List ℕ → List (ℕ × List ℕ)
images_in before = flat_map images_of (bodies before)

-- A checkpoint log: a gate log whose bodies are whole images, no page with two.
pub record IsImageLog (before : List ℕ) : Type 0 where
  pub whole : IsWhole before
  pub images : All (λ body. length body % 4100 ≡ 0) (bodies before)
  pub once : IsDistinct nat_eq (keys_of (images_in before))

-- main with these pages written, the first of them first
abbrev pub laid : List ℕ → List (ℕ × List ℕ) → List ℕ
laid main [] = main
laid main (image ∷ images) = laid (written main (4096 * image.0) image.1) images

-- main with the images of before laid over it
abbrev pub restored : Image → List ℕ
restored files = laid (files 0) (images_in (files 1))

-- the image of a page
abbrev pub image_of : Image → ℕ → Option (List ℕ)
image_of files page = lookup (nat_eq page) (images_in (files 1))

-- The page is in the files with these bytes: they are its image, or else it is whole in main with them.
abbrev pub StandsIn : Image → ℕ → List ℕ → Type 0
StandsIn files page bytes = MatchOption (image_of files page) (HasPage (files 0) page bytes) (λ image. image ≡ bytes)

-- the bytes of a page: its image, or else as main has it
abbrev pub stored_page : Image → ℕ → List ℕ
stored_page files page = unwrap_or (image_of files page) (page_at (files 0) page)

-- What a checkpoint saved: how many pages, and each page by its number.
pub record Checkpoint : Type 0 where
  pub count : ℕ
  pub page : ℕ → List ℕ

-- The files restore to that checkpoint: each of its pages is in them.
pub record IsCovered (saved : Checkpoint) (files : Image) : Type 0 where
  pub log : IsImageLog (files 1)
  pub pages : (page : ℕ) → page < saved.count → StandsIn files page (saved.page page)

-- Main with the images laid over it has the pages of that checkpoint.
pub record RestoresTo (saved : Checkpoint) (files : Image) : Type 0 where
  pub log : IsImageLog (files 1)
  pub pages : (page : ℕ) → page < saved.count → HasPage (restored files) page (saved.page page)

-- of all files only main and before have changed
abbrev pub OnlyPages : Image → Image → Type 0
OnlyPages old new = (file : ℕ) → 2 ≤ file → new file ≡ old file

-- all whole pages but these are as before
abbrev pub KeepsPagesBut : List ℕ → List ℕ → List ℕ → Type 0
KeepsPagesBut pages old new = (page : ℕ) (bytes : List ℕ) → list_any (nat_eq page) pages ≡ false → HasPage old page bytes → HasPage new page bytes

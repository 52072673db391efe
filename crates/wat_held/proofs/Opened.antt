-- Pages that read as formed files have them.
use Rattle.std.proofs.Common.{◌≡◌, ℕ, ◌+◌, ◌<◌, ◌≤◌, List, refl, sym, ◌∙◌, subst, arith}
use Rattle.wat_disk.specs.Disk.{Image}
use Rattle.wat_restore.specs.Head.{Head}
use Rattle.wat_restore.specs.Restored.{Checkpoint, StandsIn, IsCovered, stored_page}
use Rattle.wat_book.specs.Book.{Book, Section}
use Rattle.wat_book.specs.Chains.{all_pages}
use Rattle.wat_replay.specs.State.{State}
use Rattle.wat_files.specs.Pages.{first_pages}
use Rattle.wat_files.specs.Chains.{Chains, HasChains}
use Rattle.wat_files.specs.Formed.{HasHeader, Stands}
use Rattle.wat_keeping.proofs.There.{covered_pages, each_there}
use Rattle.wat_held.specs.Owning.{AreOwned, ReadsAs}
use Rattle.wat_held.proofs.Owning.{are_owned}

module _ (files : Image) (head : Head) (s : State) (book : Book) (header : HasHeader files head) (stands : Stands (first_pages files head.count) head s) (reads : ReadsAs book files head) where
  abbrev saved : Checkpoint
  saved = record { count = book.count; page = book.page }

  -- each page that the header counts is in the files, and reads so
  covered : IsCovered saved files
  covered = record {
    log = header.log;
    pages = λ page below.
        let there = each_there files head s header stands page (omega (arith, below, reads.count)) in
        subst (StandsIn files page) (sym (reads.pages page (stored_page files page) there)) there;
  }

  same_pages : first_pages files head.count ≡ all_pages book
  same_pages = subst (λ (n : ℕ). first_pages files n ≡ all_pages book) reads.count (covered_pages saved files covered)

  pub opened_stands : Stands (all_pages book) head s
  opened_stands = subst (λ (pages : Section). Stands pages head s) same_pages stands

  pub opened_owned : AreOwned book head stands.chains
  opened_owned = are_owned book head stands.chains (omega (arith, reads.count, header.is.is.fits.some))
      (subst (λ (pages : Section). HasChains pages head stands.chains) same_pages stands.has) (sym reads.free)

-- What a checkpoint of the pages saves.
use Rattle.std.proofs.Common.{◌≡◌, ◌≢◌, ℕ, ◌+◌, ◌<◌, ◌≤◌, ◌^◌, ◌==◌, if◌then◌else◌, List, refl, ap, arith}
use Rattle.std.proofs.lemmas.Bool.{ne_eqb}
use Rattle.wat_disk.specs.Disk.{Told}
use Rattle.wat_restore.specs.Head.{Head, IsHead, FitsPage, head_bytes}
use Rattle.wat_restore.specs.Restored.{Checkpoint}
use Rattle.wat_book.specs.Book.{Owners}
use Rattle.wat_pages.specs.declared.header.Header.{Header}
use Rattle.wat_pages.specs.declared.pages.Pages.{Pages}
use Rattle.wat_pages.specs.Pages.{count_of, limit_of, first_free_of, page_in, book_of, next_head, next_checkpoint}
use Rattle.wat_gate.specs.Bodies.{bodies}
use Rattle.wat_replay.specs.State.{State}
use Rattle.wat_held.specs.Held.{HoldsState, IsHeadOf, HasPagesOf}
use Rattle.wat_held.proofs.Holding.{saves, two_pages}
use Rattle.wat_keeping.specs.Durable.{Saves}
use Rattle.wat_keeping.specs.Steps.{SavesAll}
use Rattle.wat_store.specs.Saving.{CountsLog, Fits}

module _ (told : Told) (pages : Pages) (header : Header) (owners : Owners) (free : List ℕ) (s : State) (fit : Fits (next_head pages header))
    (holds : HoldsState (book_of told pages) owners free (next_head pages header) s) where
  is_head : IsHead (head_bytes (next_head pages header)) (next_head pages header)
  is_head = record {
    bytes = refl;
    fits = record {
      some = two_pages (book_of told pages) owners free (next_head pages header) s holds;
      limit = fit.limit;
      count = fit.count;
      frames = fit.frames;
      place = fit.place;
      catalog = fit.catalog;
      rollback = fit.rollback;
      free = fit.free;
      next_table = fit.next_table;
    };
  }

  saved_now : Saves (next_checkpoint told pages header) (next_head pages header) s
  saved_now =
      saves (book_of told pages) owners free (next_head pages header) s (next_checkpoint told pages header) holds (record { count = refl; free = refl })
      (record {
        count = refl;
        pages = λ page some below. ap (λ b. if b then head_bytes (next_head pages header) else page_in told pages page) (ne_eqb page 0 (λ e. omega (arith, some, e)));
      })
      is_head

  pub saves_all : CountsLog told header → SavesAll (next_checkpoint told pages header) (next_head pages header) (limit_of pages) (bodies (told.content 2)) s
  saves_all counts = record { saves = saved_now; frames = counts.frames; place = counts.place; limited = refl }

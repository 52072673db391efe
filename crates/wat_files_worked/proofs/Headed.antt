-- The worked files with another header.
use Rattle.std.proofs.Common.{◌≡◌, ◌≢◌, ℕ, ◌+◌, ◌*◌, ◌<◌, ◌≤◌, ◌^◌, List, [], ◌∷◌, ◌++◌, length, Option, refl, sym, ◌∙◌, ap, subst, inl, inr, arith}
use Rattle.wat_disk.specs.Disk.{Image}
use Rattle.wat_gate.specs.Bodies.{bodies, body_of, gate_place, IsWhole}
use Rattle.wat_restore.specs.Head.{Head, IsHead, head_bytes}
use Rattle.wat_restore.specs.Restored.{StandsIn}
use Rattle.wat_book.specs.Book.{Section}
use Rattle.wat_book.specs.Chains.{IsLink, IsReadChain}
use Rattle.wat_replay.specs.State.{no_lists}
use Rattle.wat_files.specs.Pages.{first_pages}
use Rattle.wat_files.specs.Chains.{HasChains}
use Rattle.wat_files.specs.Rows.{AddsPage, HasRows, emptied}
use Rattle.wat_files.specs.Formed.{HasHeader, HasAnotherPlace, state_of, FailsAt}
use Rattle.wat_files.proofs.Holding.{page_stands}
use Rattle.wat_files_worked.specs.Files
use Rattle.wat_files_worked.proofs.Pages.{page_long, first_page, second_page, third_page, no_images, plain}
use Rattle.wat_files_worked.proofs.Whole.{chains, schema, tables, placed, payload, page_1, page_2, long_1, long_2, in_chain, one_alone, row_page, holds_schema, tells_lists, is_catalog, can_undo}

-- ---- files with this first page

module _ (a : List ℕ) (long : length a ≡ 4096) where
  abbrev pub files : Image
  files = Files.files_of (a ++ (page_1 ++ page_2)) (0 ∷ []) Files.log

  abbrev pub pages : Section
  pages = first_pages files 3

  header_in : (h : Head) → IsHead a h → HasHeader files h
  header_in h is = record { log = no_images; is = record { page = a; stands = plain (a ++ (page_1 ++ page_2)) Files.log 0 a (first_page a page_1 page_2 long); is = is } }

  link_in : IsLink (pages 1) 0 payload
  link_in = subst (λ (o : Option (List ℕ)). IsLink o 0 payload)
      (sym (page_stands files 1 page_1 (plain (a ++ (page_1 ++ page_2)) Files.log 1 page_1 (second_page a page_1 page_2 long long_1)))) in_chain

  catalog_in : IsReadChain pages [] 1 (1 ∷ []) payload
  catalog_in = record { chain = (refl, omega arith, 0, payload, [], link_in, refl, (refl, refl)); once = one_alone }

  rows_in : AddsPage pages 2 (emptied schema) tables
  rows_in = record {
    rows = placed;
    has = subst (λ (o : Option (List ℕ)). HasRows o placed) (sym (page_stands files 2 page_2 (plain (a ++ (page_1 ++ page_2)) Files.log 2 page_2 (third_page a page_1 page_2 long long_1 long_2)))) row_page;
    added = refl;
  }

-- ---- the changes to roll back begin at the catalog's page

abbrev twice_page : List ℕ
twice_page = Files.page_of (Files.header_with 120 1) 4040

abbrev twice_head : Head
twice_head = record { limit = 65536; count = 3; frames = 2; place = 120; catalog = 1; rollback = 1; free = 0; next_table = 2 }

twice_long : length twice_page ≡ 4096
twice_long = page_long (Files.header_with 120 1) 4040 refl

twice_is : IsHead twice_page twice_head
unfolding head_bytes
twice_is = record {
  bytes = refl;
  fits = record { some = omega arith; limit = omega arith; count = omega arith; frames = omega arith; place = omega arith; catalog = omega arith; rollback = omega arith; free = omega arith; next_table = omega arith };
}

pub is_twice : FailsAt Files.page_twice 0 4096
is_twice = inr (
  twice_head,
  header_in twice_page twice_long twice_head twice_is,
  inl (record {
    page = 1;
    stops = inr (inl (record {
      some = omega arith;
      list = 1 ∷ [];
      payload = payload;
      catalog = catalog_in twice_page twice_long;
      stops = record { list = []; payload = []; begins = (refl, refl); once = one_alone; some = omega arith; broken = inl refl };
    }));
    in_main = refl;
    place = refl;
  }),
)

-- ---- the header has another place

abbrev place_page : List ℕ
place_page = Files.page_of (Files.header_with 28 0) 4040

abbrev place_head : Head
place_head = record { limit = 65536; count = 3; frames = 2; place = 28; catalog = 1; rollback = 0; free = 0; next_table = 2 }

place_long : length place_page ≡ 4096
place_long = page_long (Files.header_with 28 0) 4040 refl

place_is : IsHead place_page place_head
unfolding head_bytes
place_is = record {
  bytes = refl;
  fits = record { some = omega arith; limit = omega arith; count = omega arith; frames = omega arith; place = omega arith; catalog = omega arith; rollback = omega arith; free = omega arith; next_table = omega arith };
}

place_chains : HasChains (pages place_page place_long) place_head chains
place_chains = record {
  some = omega arith;
  catalog = catalog_in place_page place_long;
  rollback = record { chain = (refl, refl); once = one_alone };
  free = record { chain = refl; once = one_alone };
}

whole_log : IsWhole Files.log
unfolding bodies body_of
whole_log = record { there = omega arith; closed = λ e. omega (arith, e) }

other_place : HasAnotherPlace Files.log place_head 120
unfolding bodies body_of
other_place = record { frames = omega arith; other = λ e. omega (arith, e); place = refl }

pub place_wrong : FailsAt Files.wrong_place 2 120
place_wrong = inr (
  place_head,
  header_in place_page place_long place_head place_is,
  inr (
    chains,
    place_chains,
    inr (
      schema,
      record { spells = holds_schema.spells; next = refl },
      inr (
        no_lists,
        tells_lists,
        inr (
          is_catalog,
          inr (
            tables,
            (tables, rows_in place_page place_long, refl),
            inr (can_undo, inl (refl, inr (whole_log, inr other_place))),
          ),
        ),
      ),
    ),
  ),
)

-- What a scan that asks for a visit is told, and the locks afterwards.
use Rattle.std.specs.Prelude.{◌≡◌, ℕ, ◌==◌, ◌&&◌, not, List, ◌++◌, map}
use Rattle.std.specs.List.{filter}
use Rattle.wat_list.specs.Has.{HasSame}
use Rattle.wat_locks.specs.declared.want.Want.{Want}
use Rattle.wat_locks.specs.declared.held.Held.{Held}
use Rattle.wat_locks.specs.declared.held.Asked.{Asked}
use Rattle.wat_locks.specs.declared.held.Asked.TheVariants.{Granted, Against}
use Rattle.wat_locks.specs.Held.{AreFree, Named, entry, is_for}

-- the locks without the short ones of the scan
abbrev pub without_scan : ℕ → ℕ → List Held → List Held
without_scan conn scan held = filter (λ (h : Held). not ((h.conn == conn) && is_for scan h.short)) held

-- Where all that is wanted is free, it comes, and the locks of the scan's earlier visits that were short go. Else nothing changes.
abbrev pub AnswersVisit : List Held → List Held → ℕ → ℕ → List Want → Asked → Type 0
AnswersVisit old new conn scan wants Granted = AreFree old conn wants × HasSame new (without_scan conn scan old ++ map (entry conn) wants)
AnswersVisit old new conn scan wants (Against a) = Named old conn wants a × (new ≡ old)

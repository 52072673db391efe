use Rattle.std.proofs.Common.{◌++◌, Ok, Err, ◌∙◌}
use Rattle.std.specs.Prelude.{Result, IfOk}
use Rattle.wat_restore.specs.Head.{head_bytes}
use Rattle.wat_pages.proofs.header.page_of.Goals as goal

if_ok : {T E : Type 0} (r : Result T E) (P Q : T → Type 0) → ((x : T) → P x → Q x) → IfOk r P → IfOk r Q
if_ok (Ok x) P Q says is = says x is
if_ok (Err e) P Q says is = tt

pub returns-clause-page : goal.returns-clause-page
unfolding head_bytes
returns-clause-page c =
    if_ok c.of.result _ _ (λ page is. is ∙ c.as_slice-2.ensures.value ∙ c.in_ok-extend_from_slice.ensures.items ∙ (λ i. c.in_ok-bytes.ensures i ++ (c.as_slice.ensures.value ∙ c.in_ok-zeros.ensures) i)) c.of.ensures.bytes

use Rattle.std.proofs.Common.{◌≡◌, ◌∙◌, List, ℕ, sym, subst}
use Rattle.std.specs.Cmp.Lexicographic.{bytes_decides}
use Rattle.uc_canon.specs.Members.{members_of, text_of}
use Rattle.uc_canon.specs.Numbering.{IsLeastText}
use Rattle.uc_canon.proofs.LeastLaws.{least_text_is_unique}
use Rattle.uc_canon.proofs.numbering.is_least.Goals as goal

pub returns-clause-yes : goal.returns-clause-yes
returns-clause-yes c =
    let m = members_of c.args.of.now in
    let found : c.as_slice.result.now ≡ c.in_ok-least.least.text.items = c.as_slice.ensures.value in
    let own : c.as_slice-2.result.now ≡ text_of m = c.as_slice-2.ensures ∙ c.in_ok-text.ensures.text in
    let decides = bytes_decides c.as_slice.result.now c.as_slice-2.result.now in (
      λ yes. let P : List ℕ → Type 0 = λ t. IsLeastText m t in subst P (sym found ∙ decides.0 (sym c.eq.ensures ∙ yes) ∙ own) c.in_ok-least.ensures.text,
      λ least. c.eq.ensures ∙ decides.1 (found ∙ least_text_is_unique m c.in_ok-least.least.text.items (text_of m) c.in_ok-least.ensures.text least ∙ sym own),
    )

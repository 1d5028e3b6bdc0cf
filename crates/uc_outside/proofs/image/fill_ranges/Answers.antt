use Rattle.std.proofs.Common.{[], ◌∷◌, List, ℕ, ap, sym, ◌∙◌, take, get_or}
use Rattle.std.proofs.lemmas.List.{take_more}
use Rattle.uc_outside.specs.Image.{filled}
use Rattle.uc_outside.specs.Ranges.{ranges_of}
use Rattle.uc_outside.specs.declared.done.Done.TheVariants as done
use Rattle.uc_outside.proofs.Filled.{filled-none, filled-append}
use Rattle.uc_outside.proofs.Images.{ranges_of-append}
use Rattle.uc_outside.proofs.image.fill_ranges.Goals as goal

pub loop-i-init : goal.loop-i-init
loop-i-init c = sym (filled-none c.args.fill.now 0 c.args.image.now)

pub loop-i-preserved : goal.loop-i-preserved
loop-i-preserved c =
    let fill = c.args.fill.now in
    let calls = take c.loop-i.i c.args.done.now in
    let next = get_or c.args.done.now c.loop-i.i (done.Wrote 0 0) in
    let more = take_more c.args.done.now c.loop-i.i (done.Wrote 0 0) c.loop-i-test.true in
    c.fill_call.ensures ∙ ap (λ (l : List ℕ). filled fill (ranges_of (next ∷ [])) 0 l) c.loop-i.invariant
    ∙ sym (filled-append fill (ranges_of calls) (ranges_of (next ∷ [])) 0 c.args.image.now)
    ∙ ap (λ (l : List (ℕ × ℕ)). filled fill l 0 c.args.image.now) (sym (ap ranges_of more ∙ ranges_of-append calls (next ∷ [])))

use Rattle.std.proofs.Common.{◌≡◌, ◌-◌, ℕ, List, length, take, drop, arith, ap, sym, ◌∙◌, length-drop}
use Rattle.std.proofs.lemmas.List.{take_at, take_all}
use Rattle.uc_outside.specs.Call.{calls_of}
use Rattle.uc_outside.specs.Image.{ranges, filled}
use Rattle.uc_outside.specs.Ranges.{ranges_of}
use Rattle.uc_outside.specs.declared.done.Done.{Done}
use Rattle.uc_outside.proofs.Filled.{length-filled}
use Rattle.uc_outside.proofs.Images.{ranges-drop}
use Rattle.uc_outside.proofs.image.filled_file.Goals as goal

pub returns : goal.returns
returns c log size =
    let fill = c.args.fill.now in
    let done = c.args.done.now in
    let k = c.settled_calls.result in
    let same : c.as_mut_slice.result.now ≡ c.args.file.now = c.as_mut_slice.ensures.value ∙ c.in_ok-image.ensures.items in
    let rest : take (length done - k) (drop k done) ≡ drop k done = take_all (length done - k) (drop k done) (omega (arith, length-drop k done)) in
    let laid : ranges_of (drop k done) ≡ ranges (drop k (calls_of log done)) = sym (ranges-drop k done log size) in
    let new : c.fill_ranges.new.image ≡ filled fill (ranges_of (drop k done)) 0 c.args.file.now =
    c.fill_ranges.ensures ∙ ap (λ (l : List Done). filled fill (ranges_of l) 0 c.as_mut_slice.result.now) rest ∙ ap (λ (l : List ℕ). filled fill (ranges_of (drop k done)) 0 l) same in
    let long : length c.fill_ranges.new.image ≡ c.in_ok-image.image.len = ap length new ∙ length-filled fill (ranges_of (drop k done)) 0 c.args.file.now ∙ sym c.in_ok-image.ensures.len in
    take_at c.fill_ranges.new.image _ c.in_ok-image.image.len long ∙ new ∙ ap (λ (l : List (ℕ × ℕ)). filled fill l 0 c.args.file.now) laid
    ∙ ap (λ (n : ℕ). filled fill (ranges (drop n (calls_of log done))) 0 c.args.file.now) (c.settled_calls.ensures.count log)

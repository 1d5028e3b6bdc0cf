use Rattle.std.proofs.Common.{◌≡◌, ◌<◌, ℕ, List, length, drop, ap, sym, ◌∙◌, arith}
use Rattle.std.proofs.lemmas.Bool.Decides.{nat_tests}
use Rattle.std.proofs.lemmas.Result.{IfOk-weaker}
use Rattle.uc_outside.specs.Call.{calls_of}
use Rattle.uc_outside.specs.Image.{settled, ranges, filled}
use Rattle.uc_outside.proofs.Images.{image_by-settled, image_by-filled}
use Rattle.uc_outside.proofs.image.image_of.Goals as goal

pub returns-then-is_empty : goal.returns-then-is_empty
returns-then-is_empty c =
    let none : length c.args.fill.now ≡ 0 = grind (arith, nat_tests) in
    IfOk-weaker c.settled_file.result _ _ (λ image is. is ∙ image_by-settled c.args.fill.now c.args.first.now (calls_of c.args.log.now c.args.done.now) none) c.settled_file.ensures

pub returns-else-is_empty : goal.returns-else-is_empty
returns-else-is_empty c =
    let some : 0 < length c.args.fill.now = grind (arith, nat_tests) in
    let calls = calls_of c.args.log.now c.args.done.now in
    IfOk-weaker c.filled_file.result _ _
    (λ image is. is ∙ ap (λ (f : List ℕ). filled c.args.fill.now (ranges (drop (settled calls) calls)) 0 f) (sym c.requires.reads) ∙ image_by-filled c.args.fill.now c.args.first.now calls some)
    (c.filled_file.ensures c.args.log.now c.requires.size)

use Rattle.std.proofs.Common.{◌≡◌, ◌∙◌}
use Rattle.hex.specs.Hex.{encode_lower}
use Rattle.uc_resolve.proofs.Heads.{begins_as}
use Rattle.uc_resolve.proofs.tests.heads.begins_with_digits.Goals as goal

pub returns : goal.returns
returns c =
    let text : c.as_slice.result.now ≡ encode_lower c.args.hash.now.0 = cc in
    c.starts_with.ensures.value ∙ rw text (begins_as c.args.digits.now (encode_lower c.args.hash.now.0))

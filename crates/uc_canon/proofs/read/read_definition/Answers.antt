use Rattle.std.proofs.Common.{refl}
use Rattle.uc_canon.specs.ReadingMembers.{definition_at}
use Rattle.uc_canon.proofs.read.read_definition.Goals as goal

pub returns : goal.returns
unfolding definition_at
returns c =
    let signature = rw c.types.ensures at c.in_ok-signature.ensures in
    let body = rw c.under_signature.ensures at c.in_ok-body.ensures in
    rw (signature, body) refl

use Rattle.std.proofs.Common.{◌≡◌, refl, true}
use Rattle.uc_canon.specs.ReadingMembers.{is_path, path_of}
use Rattle.uc_canon.proofs.MemberReading.{path_test}
use Rattle.uc_canon.proofs.Paths.{path_is_name}
use Rattle.uc_canon.proofs.ReadSteps.{untested}
use Rattle.uc_canon.proofs.read.read_path.Goals as goal

pub returns-in-Err-BadName : goal.returns-in-Err-BadName
unfolding path_of
returns-in-Err-BadName c =
    untested _ _ (λ (is : is_path c.args.text.now ≡ true).
    (rw c.in-Err-BadName.field-0-is at c.in-Err-BadName.ensures.bad).0 refl (path_is_name c.args.text.now (path_test c.args.text.now is)))

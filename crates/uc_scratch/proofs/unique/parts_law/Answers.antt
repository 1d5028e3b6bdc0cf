use Rattle.uc_scratch.proofs.TypeReadings.{one_type}
use Rattle.uc_scratch.proofs.PatternReadings.{one_pattern}
use Rattle.uc_scratch.proofs.unique.parts_law.Goals as goal

pub returns : goal.returns
returns c = record {
  types = λ _ us vs t u p q h k. one_type us vs t u p q h k;
  patterns = λ _ us vs x y p q h k. one_pattern us vs x y p q h k;
}

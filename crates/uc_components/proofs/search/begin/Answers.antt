use Rattle.std.proofs.lemmas.Result.{IfOk-weaker}
use Rattle.uc_components.proofs.Looks.{begin}
use Rattle.uc_components.proofs.search.begin.Goals as goal

pub returns : goal.returns
returns c = IfOk-weaker c.enter.result _ _ (λ x h. begin _ _ _ _ c.requires.good c.requires.vertex c.requires.path c.requires.new h) c.enter.ensures

use Rattle.uc_base.proofs.Suffixes.{begins_below}
use Rattle.uc_base.proofs.name.Name.is_below.Goals as goal

pub returns-in-Some-len1-up : goal.returns-in-Some-len1-up
returns-in-Some-len1-up c = begins_below _ _ _ _ _ c.text-2.ensures.value c.text.ensures.value c.in-Some-len1-up.len_at_least c.in-Some-len1-up.ensures

use Rattle.uc_base.proofs.Suffixes.{not_suffix}
use Rattle.uc_base.proofs.name.Name.is_suffix_of.Goals as goal

pub returns-in-None : goal.returns-in-None
returns-in-None c = not_suffix _ _ _ _ c.text.ensures.value c.text-2.ensures.value c.in-None.ensures

use Rattle.uc_store.proofs.Growing.{growth_extends}
use Rattle.uc_store.proofs.laws.store_laws.Goals as goal

pub returns-clause-growth : goal.returns-clause-growth
returns-clause-growth c = growth_extends

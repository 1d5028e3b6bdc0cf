use Rattle.std.proofs.Common.{[], ◌∷◌}
use Rattle.uc_tree.specs.Types.{variable, quantified, arrow}
use Rattle.uc_store.proofs.Alone.{alone_storable, identity, identity_alone, identity_type_stored}
use Rattle.uc_store.proofs.tests.identity.Goals as goal

pub returns : goal.returns
returns c = λ table.
    alone_storable identity (quantified (arrow (variable 0) (variable 0))) (c.args.name ∷ []) table c.in_ok-new.new identity_alone identity_type_stored (c.requires, tt)
    (rw (c.in_ok-definition.ensures, c.in_ok-of_type.ensures, c.in_ok-names.ensures) at c.in_ok-new.ensures)

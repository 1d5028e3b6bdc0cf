use Rattle.std.proofs.Common.{[]}
use Rattle.uc_store.specs.Builtins.{nat}
use Rattle.uc_store.proofs.Alone.{alone_storable, numeral, numeral_alone, nat_stored}
use Rattle.uc_store.proofs.tests.numeral.Goals as goal

pub returns : goal.returns
returns c = λ table.
    alone_storable (numeral c.args.number) nat [] table c.in_ok-new.new (numeral_alone c.args.number c.ranges.number.fits) nat_stored tt
    (rw (c.nat_definition-definition.ensures, c.nat-of_type.ensures, c.new-names.ensures.items) at c.in_ok-new.ensures)

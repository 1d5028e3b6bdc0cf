use Rattle.std.proofs.Common.{sym, ap, ◌∙◌, subst}
use Rattle.std.specs.Prelude.{bytes_eq}
use Rattle.std.specs.Map.{lookup}
use Rattle.uc_meaning.specs.Entries.{IsInOrder}
use Rattle.uc_meaning.specs.Meanings.{is_constructor, constructor_among}
use Rattle.uc_meaning.specs.SortNames.{indexed_wanted}
use Rattle.uc_meaning.proofs.Names.{in_order_filtered}
use Rattle.uc_meaning.proofs.CandidateSteps.{constructor_found}
use Rattle.uc_meaning.proofs.lookup.Lookup.target.Goals as goal

pub returns-in_err-target-in-Constructor-clause-order : goal.returns-in_err-target-in-Constructor-clause-order
returns-in_err-target-in-Constructor-clause-order g c =
    subst (λ w. IsInOrder (indexed_wanted c.args.self.now.kinds c.args.self.now.terms w)) (sym c.in-Constructor.is)
    (in_order_filtered (λ e. is_constructor e.1) c.args.self.now.terms.entries c.in_err-target-in-Constructor.ensures.order)

pub returns-in_ok-target-in-Constructor-clause-order : goal.returns-in_ok-target-in-Constructor-clause-order
returns-in_ok-target-in-Constructor-clause-order g c =
    subst (λ w. IsInOrder (indexed_wanted c.args.self.now.kinds c.args.self.now.terms w)) (sym c.in-Constructor.is)
    (in_order_filtered (λ e. is_constructor e.1) c.args.self.now.terms.entries c.in_ok-target-in-Constructor.ensures.order)

pub returns-in_ok-target-in-Constructor-clause-found : goal.returns-in_ok-target-in-Constructor-clause-found
returns-in_ok-target-in-Constructor-clause-found g c =
    c.constructor.ensures ∙ ap constructor_among c.in_ok-target-in-Constructor.ensures.found
    ∙ constructor_found c.args.text.now c.args.self.now.terms.entries c.in_ok-target-in-Constructor.ensures.order
    ∙ ap (λ w. lookup (bytes_eq c.args.text.now) (indexed_wanted c.args.self.now.kinds c.args.self.now.terms w)) (sym c.in-Constructor.is)

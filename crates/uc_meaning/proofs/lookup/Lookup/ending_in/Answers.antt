use Rattle.std.proofs.Common.{◌≡◌, sym, ap, ◌∙◌, subst}
use Rattle.std.specs.List.{filter}
use Rattle.std.specs.Result.{IfOk}
use Rattle.uc_meaning.specs.Candidates.{ends_in, ending_in}
use Rattle.uc_meaning.specs.Meanings.{is_constructor}
use Rattle.uc_meaning.specs.SortNames.{indexed_wanted}
use Rattle.uc_meaning.proofs.CandidateSteps.{filter_either}
use Rattle.uc_meaning.proofs.lookup.Lookup.ending_in.Goals as goal

pub returns-in_ok-entries-in-Constructor : goal.returns-in_ok-entries-in-Constructor
returns-in_ok-entries-in-Constructor g c =
    subst (λ l. IfOk c.constructors.result (λ entries. entries ≡ l))
    (ap (filter (λ e. is_constructor e.1)) c.in_ok-entries-in-Constructor.ensures
    ∙ filter_either (λ e. is_constructor e.1) (λ e. ends_in c.args.text.now e.0) c.args.self.now.terms.entries
    ∙ ap (λ w. ending_in (indexed_wanted c.args.self.now.kinds c.args.self.now.terms w) c.args.text.now) (sym c.in-Constructor.is))
    c.constructors.ensures

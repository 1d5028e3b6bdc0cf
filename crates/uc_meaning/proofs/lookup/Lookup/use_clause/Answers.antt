use Rattle.std.proofs.Common.{◌≡◌, List, ℕ, ◌∷◌, ◌++◌, sym, ap, ◌∙◌, Some, None}
use Rattle.std.specs.Prelude.{bytes_eq}
use Rattle.std.specs.Ordering.{nat_cmp}
use Rattle.std.specs.Map.{lookup}
use Rattle.std.specs.Cmp.Lexicographic.{slice_cmp}
use Rattle.uc_meaning.specs.Entries.{Entry, with_entry}
use Rattle.uc_meaning.specs.Candidates.{used_in}
use Rattle.uc_meaning.specs.SortNames.{indexed_wanted}
use Rattle.uc_meaning.specs.UsingViews.{using_of}
use Rattle.uc_meaning.proofs.Inserted.{put_found}
use Rattle.uc_meaning.proofs.CandidateSteps.{used_more}
use Rattle.uc_meaning.proofs.lookup.Lookup.use_clause.Goals as goal

pub returns-in-None-clause-used : goal.returns-in-None-clause-used
returns-in-None-clause-used g c = λ us h.
    let E : List Entry = indexed_wanted c.args.self.now.kinds c.args.self.now.terms c.args.wanted in
    let w : List ℕ = c.args.text.now in
    let u = using_of c.args.clause.now in
    let name : c.deref.result.now ≡ u.path ++ 46 ∷ w = c.deref.ensures.value ∙ c.in_ok-name.ensures in
    let found : None ≡ lookup (bytes_eq (u.path ++ 46 ∷ w)) E = sym c.in-None.is ∙ c.in_ok-target.ensures.found ∙ ap (λ j. lookup (bytes_eq j) E) name in
    h ∙ ap (λ r. put_found (slice_cmp nat_cmp) (u.path ++ 46 ∷ w) r (used_in E w us)) found
    ∙ sym (used_more E w u us c.in_ok-target.ensures.order (sym c.shortens.ensures ∙ c.if-not-shortens.false))

pub returns-in_ok-put-in-Some-clause-used : goal.returns-in_ok-put-in-Some-clause-used
returns-in_ok-put-in-Some-clause-used g c = λ us h.
    let E : List Entry = indexed_wanted c.args.self.now.kinds c.args.self.now.terms c.args.wanted in
    let w : List ℕ = c.args.text.now in
    let u = using_of c.args.clause.now in
    let name : c.deref.result.now ≡ u.path ++ 46 ∷ w = c.deref.ensures.value ∙ c.in_ok-name.ensures in
    let found : Some c.in-Some.target ≡ lookup (bytes_eq (u.path ++ 46 ∷ w)) E = sym c.in-Some.is ∙ c.in_ok-target.ensures.found ∙ ap (λ j. lookup (bytes_eq j) E) name in
    c.in_ok-put-in-Some.ensures ∙ ap (λ j. with_entry (j, c.in-Some.target) c.args.entries.now) c.in_ok-name.ensures ∙ ap (with_entry (u.path ++ 46 ∷ w, c.in-Some.target)) h
    ∙ ap (λ r. put_found (slice_cmp nat_cmp) (u.path ++ 46 ∷ w) r (used_in E w us)) found
    ∙ sym (used_more E w u us c.in_ok-target.ensures.order (sym c.shortens.ensures ∙ c.if-not-shortens.false))

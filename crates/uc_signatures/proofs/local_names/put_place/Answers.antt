use Rattle.std.proofs.Common.{refl, sym, ap, ◌∙◌, subst, Some}
use Rattle.uc_signatures.specs.LocalViews.{noted, place_in, places_of, HasAlso}
use Rattle.uc_signatures.proofs.Locals.{looked_up, put}
use Rattle.uc_signatures.proofs.local_names.put_place.Goals as goal

pub returns-in-None-clause-before : goal.returns-in-None-clause-before
returns-in-None-clause-before c =
    ap noted (sym c.in-None.is ∙ c.in_ok-insert.ensures.old ∙ looked_up c.in_ok-owned.field-0.items _ (λ v. refl) c.args.last.now.entries)
    ∙ ap (λ w. place_in (places_of c.args.last.now.entries) w) c.in_ok-owned.ensures

pub returns-in-None-clause-noted : goal.returns-in-None-clause-noted
returns-in-None-clause-noted c =
    subst (λ n. HasAlso n (Some c.args.place) (places_of c.args.last.now.entries) (places_of c.insert.new.self.entries)) c.in_ok-owned.ensures
    (subst (λ es. HasAlso c.in_ok-owned.field-0.items (Some c.args.place) (places_of c.args.last.now.entries) (places_of es)) (sym c.in_ok-insert.ensures.entries)
    (put _ (λ v w. refl) c.args.last.now.entries c.in_ok-owned.field-0 (Some c.args.place)))

pub returns-in-Some-clause-before : goal.returns-in-Some-clause-before
returns-in-Some-clause-before c =
    ap noted (sym c.in-Some.is ∙ c.in_ok-insert.ensures.old ∙ looked_up c.in_ok-owned.field-0.items _ (λ v. refl) c.args.last.now.entries)
    ∙ ap (λ w. place_in (places_of c.args.last.now.entries) w) c.in_ok-owned.ensures

pub returns-in-Some-clause-noted : goal.returns-in-Some-clause-noted
returns-in-Some-clause-noted c =
    subst (λ n. HasAlso n (Some c.args.place) (places_of c.args.last.now.entries) (places_of c.insert.new.self.entries)) c.in_ok-owned.ensures
    (subst (λ es. HasAlso c.in_ok-owned.field-0.items (Some c.args.place) (places_of c.args.last.now.entries) (places_of es)) (sym c.in_ok-insert.ensures.entries)
    (put _ (λ v w. refl) c.args.last.now.entries c.in_ok-owned.field-0 (Some c.args.place)))

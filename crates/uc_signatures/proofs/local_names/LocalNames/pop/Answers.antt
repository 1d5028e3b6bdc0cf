use Rattle.std.proofs.Common.{sym, ap, ◌∙◌, subst, Some}
use Rattle.uc_signatures.specs.LocalViews.{IsKept}
use Rattle.uc_signatures.proofs.Locals.{is_noted, left, left_unnamed, unnamed}
use Rattle.uc_signatures.proofs.local_names.LocalNames.pop.Goals as goal

pub set_place-requires : goal.set_place-requires
set_place-requires c =
    is_noted c.pop.new.self.items c.in-Some.local c.as_slice.result.now c.self.inside.last.entries (c.in-Some-name.is ∙ ap Some (sym c.as_slice.ensures))
    (subst (λ ls. IsKept ls c.self.inside.last.entries) c.in-Some.ensures.items c.self.invariant)

pub invariant_of-self : goal.invariant_of-self
invariant_of-self c =
    left c.pop.new.self.items c.in-Some.local c.as_slice.result.now c.self.inside.last.entries c.set_place.new.last.entries (c.in-Some-name.is ∙ ap Some (sym c.as_slice.ensures))
    (subst (λ ls. IsKept ls c.self.inside.last.entries) c.in-Some.ensures.items c.self.invariant) c.set_place.ensures

pub invariant_of-self-in_default-name : goal.invariant_of-self-in_default-name
invariant_of-self-in_default-name c =
    left_unnamed c.pop.new.self.items c.in-Some.local c.self.inside.last.entries (unnamed c.in-Some.local.name c.in_default-name.not-Some)
    (subst (λ ls. IsKept ls c.self.inside.last.entries) c.in-Some.ensures.items c.self.invariant)

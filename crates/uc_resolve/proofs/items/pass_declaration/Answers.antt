use Rattle.std.proofs.Common.{◌≡◌, ◌+◌, None, ap, ◌∙◌, subst}
use Rattle.uc_scratch.specs.FileViews.{declaration_of, constructors_of}
use Rattle.std.specs.Option.{option_map}
use Rattle.uc_bodies.specs.BodyViews.{signed_of}
use Rattle.uc_resolve.specs.declared.items.Before.{Before}
use Rattle.uc_resolve.specs.ItemMeanings.{Adds, declaration_adds}
use Rattle.uc_resolve.specs.ProgramViews.{draft_of}
use Rattle.uc_resolve.proofs.ItemSteps.{declaration_step, passes, on_any}
use Rattle.uc_resolve.proofs.items.pass_declaration.Goals as goal

pub returns : goal.returns
returns g c =
    let known = g.M.Meanings.known c.args.meanings.now in
    let old = c.args.before.now in
    let d = c.args.declaration.now in
    let constructors = constructors_of d.constructors.items in
    let a = draft_of c.args.draft.now in
    let b = draft_of c.add_declaration.new.draft in
    let same : Before = record { locals = old.locals; signed = None; kinds = old.kinds + 1 } in
    let new : c.put_signature.new.self ≡ same = let next : c.in_ok-before.field-0 ≡ old.kinds + 1 = c.in_ok-before.ensures in cc in
    passes known old same c.put_signature.new.self a b (declaration_of d) c.add_declaration.result (declaration_adds known old.locals.usings old.kinds d.sort d.name d.params.items constructors)
    (λ is. declaration_step known old.locals (option_map signed_of old.signed) old.kinds d.sort d.name d.params.items constructors is)
    (subst (λ us. Adds a b c.add_declaration.result (declaration_adds known us old.kinds d.sort d.name d.params.items constructors)) (c.usings-usings.ensures ∙ ap (λ (n : Before). n.locals.usings) new) c.add_declaration.ensures)
    (on_any c.add_declaration.result new)

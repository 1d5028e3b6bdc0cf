use Rattle.std.proofs.Common.{◌≡◌, None, subst}
use Rattle.std.proofs.lemmas.Result.{on_ok_weaker}
use Rattle.std.specs.Option.{option_map}
use Rattle.uc_scratch.specs.FileViews.{binding_of}
use Rattle.uc_bodies.specs.BodyViews.{signed_of}
use Rattle.uc_resolve.specs.declared.items.Before.{Before}
use Rattle.uc_resolve.specs.ItemMeanings.{Adds, binding_adds}
use Rattle.uc_resolve.specs.ProgramViews.{draft_of}
use Rattle.uc_resolve.proofs.ItemSteps.{binding_step, passes}
use Rattle.uc_resolve.proofs.items.pass_binding.Goals as goal

pub returns : goal.returns
returns g c =
    let known = g.M.Meanings.known c.args.meanings.now in
    let old = c.args.before.now in
    let binding = c.args.binding.now in
    let a = draft_of c.args.draft.now in
    let b = draft_of c.add_binding.new.draft in
    let same : Before = record { locals = old.locals; signed = None; kinds = old.kinds } in
    let new : Before = record { locals = c.add_binding.new.locals; signed = c.take-signed.new.self; kinds = old.kinds } in
    passes known old same new a b (binding_of binding.front binding.body) c.add_binding.result (binding_adds known old.locals (option_map signed_of old.signed) binding.front binding.body)
    (λ is. binding_step known old.locals (option_map signed_of old.signed) old.kinds binding.front binding.body is)
    (subst (λ s. Adds a b c.add_binding.result (binding_adds known old.locals (option_map signed_of s) binding.front binding.body)) c.take-signed.ensures.value c.add_binding.ensures.added)
    (on_ok_weaker c.add_binding.result (λ kept. let same_locals : c.add_binding.new.locals ≡ old.locals = kept in let none : c.take-signed.new.self ≡ None = c.take-signed.ensures.after in cc)
    c.add_binding.ensures.kept)

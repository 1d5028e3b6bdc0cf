use Rattle.std.proofs.Common.{◌≡◌, [], ◌∷◌, ◌++◌, rules, sym, ap, ◌∙◌}
use Rattle.uc_context.specs.Opens.{arrow}
use Rattle.uc_context.specs.OpenViews.{open_of}
use Rattle.uc_typing.specs.Fronts.{arguments_of}
use Rattle.uc_patterns.proofs.FrontParts.{arguments_more, arguments_all, node_arguments}
use Rattle.uc_patterns.proofs.fronts.arguments_of.Goals as goal

pub loop-rest-preserved : goal.loop-rest-preserved
loop-rest-preserved c =
    let behind : c.deref-rest.result.now ≡ c.in-Arrow.to.value = search rules in
    let is : c.loop-rest.rest.now ≡ arrow c.in-Arrow.from.value c.deref-rest.result.now = sym c.rest.view_is ∙ ap open_of c.in-Arrow.is ∙ ap (arrow c.in-Arrow.from.value) (sym behind) in
    let pushed : c.push.new.self.items ≡ c.loop-rest.arguments.items ++ c.in_ok-copy.field-0 ∷ [] = search rules in
    let copied : c.in_ok-copy.field-0 ≡ c.in-Arrow.from.value = search rules in
    arguments_more (arguments_of c.args.of.now) c.loop-rest.arguments.items c.push.new.self.items c.loop-rest.rest.now c.in-Arrow.from.value c.deref-rest.result.now c.in_ok-copy.field-0 c.loop-rest.invariant is pushed copied

pub returns : goal.returns
returns c = arguments_all (arguments_of c.args.of.now) c.loop-rest.arguments.items c.loop-rest.rest.now c.loop-rest.invariant (node_arguments c.rest.inside.node c.loop-rest.rest.now c.rest.view_is c.in_default.not-Arrow)

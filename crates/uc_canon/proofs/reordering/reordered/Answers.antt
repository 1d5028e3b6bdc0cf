use Rattle.std.proofs.Common.{◌≡◌, ◌∙◌, ap, sym, subst}
use Rattle.std.proofs.lemmas.List.{length-map}
use Rattle.uc_tree.specs.declared.item.Item.TheVariants.{Term, Kind}
use Rattle.uc_canon.specs.Members.{Members, terms, kinds, members_of, count_of}
use Rattle.uc_canon.specs.Numbering.{IsClosed, renumbering, IsReordered}
use Rattle.uc_canon.proofs.TakenInOrder.{definitions_there, declarations_there, definitions_reordered, declarations_reordered}
use Rattle.uc_canon.proofs.reordering.reordered.Goals as goal

pub reordered_definitions-requires-clause-there : goal.reordered_definitions-requires-clause-there
reordered_definitions-requires-clause-there c =
    let ds = c.deref.result.now in
    let m : members_of c.args.of.now ≡ terms ds = ap members_of c.in-Terms.is ∙ ap terms (sym c.deref.ensures.value) in
    definitions_there c.args.order.now ds c.deref-in-Terms.result.now (subst IsClosed m c.requires.closed)
    (c.deref-in-Terms.ensures.value ∙ c.in_ok-numbers.ensures ∙ ap (renumbering c.args.order.now) (c.requires.arrangement.size ∙ ap count_of m ∙ length-map ds Term))

pub returns-in-Terms-clause-reordered : goal.returns-in-Terms-clause-reordered
returns-in-Terms-clause-reordered c =
    let ds = c.deref.result.now in
    let m : members_of c.args.of.now ≡ terms ds = ap members_of c.in-Terms.is ∙ ap terms (sym c.deref.ensures.value) in
    let P : Members → Type 0 = λ x. IsReordered c.args.order.now x (terms c.in_ok-moved-in-Terms.moved.items) in
    subst P (sym m) (definitions_reordered c.args.order.now ds c.in_ok-moved-in-Terms.moved.items c.deref-in-Terms.result.now
    (c.deref-in-Terms.ensures.value ∙ c.in_ok-numbers.ensures ∙ ap (renumbering c.args.order.now) (c.requires.arrangement.size ∙ ap count_of m)) c.in_ok-moved-in-Terms.ensures.definitions)

pub reordered_declarations-requires-clause-there : goal.reordered_declarations-requires-clause-there
reordered_declarations-requires-clause-there c =
    let ds = c.deref-in-Kinds.result.now in
    let m : members_of c.args.of.now ≡ kinds ds = ap members_of c.in-Kinds.is ∙ ap kinds (sym c.deref-in-Kinds.ensures.value) in
    declarations_there c.args.order.now ds c.deref-in-Kinds-2.result.now (subst IsClosed m c.requires.closed)
    (c.deref-in-Kinds-2.ensures.value ∙ c.in_ok-numbers.ensures ∙ ap (renumbering c.args.order.now) (c.requires.arrangement.size ∙ ap count_of m ∙ length-map ds Kind))

pub returns-clause-reordered : goal.returns-clause-reordered
returns-clause-reordered c =
    let ds = c.deref-in-Kinds.result.now in
    let m : members_of c.args.of.now ≡ kinds ds = ap members_of c.in-Kinds.is ∙ ap kinds (sym c.deref-in-Kinds.ensures.value) in
    let P : Members → Type 0 = λ x. IsReordered c.args.order.now x (kinds c.in_ok-moved-in-Kinds.moved.items) in
    subst P (sym m) (declarations_reordered c.args.order.now ds c.in_ok-moved-in-Kinds.moved.items c.deref-in-Kinds-2.result.now
    (c.deref-in-Kinds-2.ensures.value ∙ c.in_ok-numbers.ensures ∙ ap (renumbering c.args.order.now) (c.requires.arrangement.size ∙ ap count_of m)) c.in_ok-moved-in-Kinds.ensures.declarations)

use Rattle.std.proofs.Common.{rules, ◌≡◌, ◌∷◌, ◌++◌, [], List, None, sym, ◌∙◌}
use Rattle.std.proofs.lemmas.Result.{err_from_is_err_and}
use Rattle.uc_kinds.specs.PatternTyping.{Known}
use Rattle.uc_tree.specs.declared.definition.Definition.{Definition}
use Rattle.uc_typing.specs.Components.{HasMemberOutcome, member_stop, missing_signature, HasOutcome, by_members, with_members}
use Rattle.uc_sound_typing.specs.Formed.{IsFormedDefinition}
use Rattle.uc_check.specs.Answers.{known_by}
use Rattle.uc_check.proofs.ComponentRules.{stopped_fault, missing_fault, members_next, members_stop, members_end, none_left, all_at}
use Rattle.uc_check.proofs.component.check_component.Goals as goal

pub returns-in-Some-clause-err : goal.returns-in-Some-clause-err
returns-in-Some-clause-err g c =
    let facts : Known = known_by (g.E.Arities.arity_of c.args.env.now) (g.E.Env.type_at c.args.env.now) in
    let ds : List Definition = c.args.members.now in
    let known : Known = with_members facts ds in
    missing_fault facts ds c.in-Some.member (sym c.in_ok-member.ensures.ok ∙ c.in-Some.is)

pub returns-in_err-ty-clause-err : goal.returns-in_err-ty-clause-err
returns-in_err-ty-clause-err g c =
    let facts : Known = known_by (g.E.Arities.arity_of c.args.env.now) (g.E.Env.type_at c.args.env.now) in
    let ds : List Definition = c.args.members.now in
    let known : Known = with_members facts ds in
    let none : missing_signature ds ≡ None = sym c.in_ok-member.ensures.ok ∙ none_left c.in_ok-member.field-0 c.in_default.not-Some in
    let d : Definition = c.index-members-number.result in
    let p = err_from_is_err_and c.from_residual-in_err-ty.result c.from_residual-in_err-ty.ensures.1 in
    rw (p.1, p.2) (stopped_fault c.loop-number.number (λ stop. HasMemberOutcome known d (member_stop stop)) (HasOutcome facts ds) _
    (λ stop h. by_members none (members_stop known ds c.loop-number.number c.loop-number.types.items c.loop-number.invariant d c.loop-number-test.true c.index-members-number.is stop h)) c.in_err-ty.ensures.err)

pub loop-number-preserved : goal.loop-number-preserved
loop-number-preserved g c =
    let facts : Known = known_by (g.E.Arities.arity_of c.args.env.now) (g.E.Env.type_at c.args.env.now) in
    let ds : List Definition = c.args.members.now in
    let known : Known = with_members facts ds in
    let d : Definition = c.index-members-number.result in
    let none : missing_signature ds ≡ None = sym c.in_ok-member.ensures.ok ∙ none_left c.in_ok-member.field-0 c.in_default.not-Some in
    let after : c.push.new.self.items ≡ c.loop-number.types.items ++ c.in_ok-ty.ty ∷ [] = search rules in
    members_next known ds c.loop-number.number c.loop-number.types.items c.loop-number.invariant d c.loop-number-test.true c.index-members-number.is c.in_ok-ty.ty c.push.new.self.items after c.in_ok-ty.ensures.ok c.requires.known.formed
    (all_at (IsFormedDefinition known) ds c.loop-number.number d (c.requires.formed none) c.loop-number-test.true c.index-members-number.is)

pub returns-clause-ok : goal.returns-clause-ok
returns-clause-ok g c =
    let facts : Known = known_by (g.E.Arities.arity_of c.args.env.now) (g.E.Env.type_at c.args.env.now) in
    let ds : List Definition = c.args.members.now in
    let known : Known = with_members facts ds in
    let none : missing_signature ds ≡ None = sym c.in_ok-member.ensures.ok ∙ none_left c.in_ok-member.field-0 c.in_default.not-Some in
    by_members none (members_end known ds c.loop-number.number c.loop-number.types.items c.loop-number.invariant c.loop-number-test.false)

use Rattle.std.proofs.Common.{[], refl}
use Rattle.std.proofs.lemmas.Result.{err_from_is_err_and}
use Rattle.uc_kinds.specs.PatternTyping.{Known}
use Rattle.uc_tree.specs.Terms.{Term}
use Rattle.uc_typing.specs.Components.{HasNoTypeFound, unsigned_member, HasWatchOutcome, watch_type, watch_stop, with_members}
use Rattle.uc_sound_typing.proofs.Members.{member_sound}
use Rattle.uc_check.specs.Answers.{known_by}
use Rattle.uc_check.proofs.ComponentRules.{stopped_fault}
use Rattle.uc_check.proofs.MemberWritten.{found_answer}
use Rattle.uc_check.proofs.component.type_of_watch.Goals as goal

pub returns-in_err-ty-clause-err : goal.returns-in_err-ty-clause-err
returns-in_err-ty-clause-err g c =
    let facts : Known = known_by (g.E.Arities.arity_of c.args.env.now) (g.E.Env.type_at c.args.env.now) in
    let e : Term = c.args.term.now in
    let p = err_from_is_err_and c.from_residual.result c.from_residual.ensures.1 in
    rw (p.1, p.2) (stopped_fault 0 (λ stop. HasNoTypeFound (with_members facts []) e stop) (HasWatchOutcome facts e) _ (λ stop d. watch_stop d refl) c.in_err-ty.ensures.err)

pub returns-clause-ok : goal.returns-clause-ok
returns-clause-ok g c = watch_type c.in_ok-ty.ensures.ok

pub returns-clause-sound : goal.returns-clause-sound
returns-clause-sound g c = member_sound (unsigned_member c.in_ok-ty.ensures.ok) c.requires.known.formed (tt, c.requires.formed)

pub returns-clause-well_formed : goal.returns-clause-well_formed
returns-clause-well_formed g c =
    let facts : Known = known_by (g.E.Arities.arity_of c.args.env.now) (g.E.Env.type_at c.args.env.now) in
    found_answer (with_members facts []) c.args.term.now c.in_ok-ty.ty c.in_ok-ty.ensures.ok c.requires.known.formed c.requires.formed

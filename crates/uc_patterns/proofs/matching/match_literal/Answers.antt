use Rattle.std.proofs.Common.{refl}
use Rattle.std.proofs.lemmas.Result.{err_from_is_err_and}
use Rattle.uc_kinds.specs.PatternTyping.{Known}
use Rattle.uc_tree.specs.Patterns as patterns
use Rattle.uc_typing.specs.Fronts.{literal_type}
use Rattle.uc_typing.specs.PatternMatching.{expects_type}
use Rattle.uc_patterns.specs.declared.state.State.{State}
use Rattle.uc_patterns.proofs.Arms.{Facing, facing_literal, facing_refused, Passing, passing_whole}
use Rattle.uc_patterns.proofs.matching.match_literal.Goals as goal

pub returns-in_err-expect-clause-err : goal.returns-in_err-expect-clause-err
returns-in_err-expect-clause-err g c =
    let known : Known = g.K.TargetTypes.known c.args.known.now in
    let old : State = c.args.state.now in
    let f : Facing known old old (patterns.literal c.args.literal.now) c.args.against.now c.literal_type-expected.result (expects_type old.context (literal_type c.args.literal.now)) =
    facing_literal known old old c.args.against.now c.literal_type-expected.result c.requires.ready c.requires.typed refl refl c.args.literal.now refl c.literal_type-expected.ensures in
    let p = err_from_is_err_and c.from_residual.result c.from_residual.ensures.1 in
    rw (p.1, p.2) (facing_refused f _ c.in_err-expect.ensures.err)

pub returns-clause-ok : goal.returns-clause-ok
returns-clause-ok g c =
    let known : Known = g.K.TargetTypes.known c.args.known.now in
    let old : State = c.args.state.now in
    let f : Facing known old old (patterns.literal c.args.literal.now) c.args.against.now c.literal_type-expected.result (expects_type old.context (literal_type c.args.literal.now)) =
    facing_literal known old old c.args.against.now c.literal_type-expected.result c.requires.ready c.requires.typed refl refl c.args.literal.now refl c.literal_type-expected.ensures in
    let h : Passing known old old c.expect.new.state (patterns.literal c.args.literal.now) c.args.against.now c.literal_type-expected.result (expects_type old.context (literal_type c.args.literal.now)) =
    record { facing = f; below = c.in_ok-expect.ensures.ok; sight = c.in_ok-expect.ensures.sight; spot = c.in_ok-expect.ensures.spot } in
    passing_whole h refl refl refl

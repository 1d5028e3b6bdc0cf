use Rattle.uc_kinds.specs.PatternTyping.{Known}
use Rattle.uc_check.proofs.MemberRules.{unsigned_ok, unsigned_err}
use Rattle.uc_check.proofs.members.type_of_member.Goals as goal

pub returns-in-None-clause-ok : goal.returns-in-None-clause-ok
returns-in-None-clause-ok g c =
    let known : Known = g.K.TargetTypes.known c.args.known.now in
    unsigned_ok known c.args.of.now c.type_found.result c.in-None.is c.type_found.ensures.ok

pub returns-in-None-clause-err : goal.returns-in-None-clause-err
returns-in-None-clause-err g c =
    let known : Known = g.K.TargetTypes.known c.args.known.now in
    unsigned_err known c.args.of.now c.args.member c.type_found.result c.in-None.is c.type_found.ensures.err

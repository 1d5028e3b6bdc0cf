use Rattle.std.proofs.Common.{sym, ◌∙◌}
use Rattle.std.proofs.lemmas.Bool.{le-ltb}
use Rattle.uc_context.specs.Entries.{declares}
use Rattle.uc_context.proofs.Looked.{existential_tests}
use Rattle.uc_context.proofs.Standing.{tested_none, tested_behind, tested_at}
use Rattle.uc_context.proofs.context.Context.has_existential.Goals as goal

pub returns-then-place-limit : goal.returns-then-place-limit
returns-then-place-limit c =
    c.declares.ensures ∙ sym (tested_at c.args.x (declares c.args.x) (existential_tests c.args.x) c.args.self.now c.args.limit c.standing.ensures.in_order c.in-Some.place c.in-Some.e.now c.in-Some.ensures.stands.found c.in-Some.ensures.stands.entry c.if-place-limit.true)

pub returns-else-place-limit : goal.returns-else-place-limit
returns-else-place-limit c =
    le-ltb c.in-Some.place c.args.limit c.if-place-limit.false
    ∙ sym (tested_behind c.args.x (declares c.args.x) (existential_tests c.args.x) c.args.self.now c.args.limit c.standing.ensures.in_order c.in-Some.place c.in-Some.e.now c.in-Some.ensures.stands.found c.in-Some.ensures.stands.entry c.if-place-limit.false)

pub returns-in-None : goal.returns-in-None
returns-in-None c = sym (tested_none c.args.x (declares c.args.x) (existential_tests c.args.x) c.args.self.now c.args.limit c.standing.ensures.in_order c.in-None.ensures.stands)

use Rattle.std.proofs.Common.{List, [], subst}
use Rattle.std.proofs.lemmas.List.{append-nil}
use Rattle.uc_scratch.specs.declared.written.Param.{Param}
use Rattle.uc_scratch.specs.ExprGrammar.{ReadsParams, no_param}
use Rattle.uc_scratch.proofs.Named.{param_more}
use Rattle.uc_scratch.proofs.heads.read_params.Goals as goal

pub params-preserved : goal.params-preserved
params-preserved c = param_more _ _ _ _ _ _ (rw c.in-Some.is at c.in_ok-front.ensures) c.in_ok-push-in-Some.ensures.items c.params.invariant

pub returns-in-None-clause-found : goal.returns-in-None-clause-found
returns-in-None-clause-found c =
    let P : List Param → Type 0 = λ x. ReadsParams c.args.tokens.now x c.params.rest.now in
    subst P (append-nil _) (c.params.invariant [] _ no_param)

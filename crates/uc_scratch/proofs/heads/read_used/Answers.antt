use Rattle.std.proofs.Common.{List, [], subst, rules}
use Rattle.std.proofs.lemmas.List.{append-nil}
use Rattle.uc_scratch.specs.declared.written.Written.{Written}
use Rattle.uc_scratch.specs.ExprGrammar.{ReadsUsed, no_used}
use Rattle.uc_scratch.proofs.Named.{used_more}
use Rattle.uc_scratch.proofs.heads.read_used.Goals as goal

pub names-preserved : goal.names-preserved
names-preserved c = used_more _ _ _ _ _ _ c.in-Some.ensures (search rules) c.names.invariant

pub returns-clause-found : goal.returns-clause-found
returns-clause-found c =
    let P : List Written → Type 0 = λ x. ReadsUsed c.args.tokens.now x c.names.rest.now in
    subst P (append-nil _) (c.names.invariant [] _ no_used)

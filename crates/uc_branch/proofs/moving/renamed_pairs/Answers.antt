use Rattle.std.proofs.Common.{sym, ◌∙◌, inl, inr}
use Rattle.std.proofs.lemmas.Result.{err_from_is_err_and}
use Rattle.uc_branch.proofs.Renaming.{no_name_at}
use Rattle.uc_branch.proofs.moving.renamed_pairs.Goals as goal

pub returns-in_err-renamed-clause-err : goal.returns-in_err-renamed-clause-err
returns-in_err-renamed-clause-err c =
    let p = err_from_is_err_and c.from_residual.result c.from_residual.ensures.1 in
    rw (p.1, p.2) (elim c.in_err-renamed.ensures.err [
      | inl bad ↦ inl (bad.0, no_name_at c.args.from.now c.args.to.now c.args.pairs.now c.loop-pair.pair-index c.pair-item.result c.loop-pair-test.true c.pair-item.is (sym c.takes.ensures ∙ c.if-takes.true) bad.1)
      | inr memory ↦ inr memory
    ])

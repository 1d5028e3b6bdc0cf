use Rattle.std.proofs.Common.{refl}
use Rattle.std.proofs.lemmas.Result.{err_from_is_err_and}
use Rattle.uc_kinds.specs.Faults.{arity_among, decls_fault}
use Rattle.uc_kinds.proofs.Faultless.{apart, fails_decl, no_more, no_decls_fault, well_formed_decls}
use Rattle.uc_kinds.proofs.check.check_decls.Goals as goal

pub returns-in_err-check_decl-clause-well_formed : goal.returns-in_err-check_decl-clause-well_formed
returns-in_err-check_decl-clause-well_formed g c =
    let p = err_from_is_err_and c.from_residual.result c.from_residual.ensures.1 in
    rw p.1 (
      λ h. cc,
      λ w. absurd (apart (decls_fault (g.A.Arities.arity_of c.args.known.now) c.args.decls.now) c.in_err-check_decl.field-0.0
          (fails_decl (arity_among c.args.decls.now (g.A.Arities.arity_of c.args.known.now)) c.args.decls.now c.loop-member.member c.index-decls-member.result c.loop-member-test.true
          c.index-decls-member.is _ c.in_err-check_decl.field-0.0 c.in_err-check_decl.ensures c.loop-member.invariant)
          (no_decls_fault (arity_among c.args.decls.now (g.A.Arities.arity_of c.args.known.now)) 0 c.args.decls.now w)),
    )

pub returns-clause-well_formed : goal.returns-clause-well_formed
returns-clause-well_formed g c = (
  λ _. well_formed_decls (arity_among c.args.decls.now (g.A.Arities.arity_of c.args.known.now)) 0 c.args.decls.now
      (no_more (arity_among c.args.decls.now (g.A.Arities.arity_of c.args.known.now)) c.args.decls.now c.loop-member.member _ c.loop-member-test.false c.loop-member.invariant),
  λ _. refl,
)

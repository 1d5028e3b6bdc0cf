use Rattle.uc_kinds.specs.WellFormed.{Arity}
use Rattle.uc_context.specs.Opens.{none, more}
use Rattle.uc_subtyping.specs.Subtyping.{SolvesSubtypes}
use Rattle.uc_patterns.proofs.Placing.{placed_refusal}
use Rattle.uc_patterns.proofs.Solvable.{context_solves, under_known}
use Rattle.uc_patterns.proofs.solving.subtype_at.Goals as goal

pub solve_subtype-requires : goal.solve_subtype-requires
solve_subtype-requires g c =
    let arity : Arity = (g.K.TargetTypes.known c.args.known.now).arity in
    record {
      monotypes = context_solves arity c.args.context.now c.requires.context;
      lower = under_known arity c.args.context.now c.args.lower.now c.requires.context c.requires.lower;
      upper = under_known arity c.args.context.now c.args.upper.now c.requires.context c.requires.upper;
    }

pub returns-in-Err-clause-err : goal.returns-in-Err-clause-err
returns-in-Err-clause-err g c =
    placed_refusal c.args.spot (SolvesSubtypes c.args.context.now (more c.args.lower.now none) (more c.args.upper.now none)) c.in-Err.fault c.placed.result c.placed.ensures c.in-Err.ensures.err

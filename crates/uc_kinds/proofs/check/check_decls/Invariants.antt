use Rattle.std.proofs.Common.{◌≡◌, drop}
use Rattle.uc_kinds.specs.Faults.{decls_fault, decls_fault_from, arity_among}
use Rattle.uc_kinds.proofs.check.check_decls.Given as goal

abbrev pub invariant-loop-member : goal.invariant-loop-member
invariant-loop-member g l = decls_fault_from (arity_among l.fn.decls (g.A.Arities.arity_of l.fn.known)) l.member (drop l.member l.fn.decls) ≡ decls_fault (g.A.Arities.arity_of l.fn.known) l.fn.decls

use Rattle.std.proofs.Common.{[], ◌∷◌, ◌++◌, ap, ◌∙◌}
use Rattle.uc_base.specs.declared.reference.Ref.TheVariants.{Def}
use Rattle.uc_tree.specs.declared.target.Target.TheVariants.{Stored}
use Rattle.uc_canon.proofs.Opened.{stored_more}
use Rattle.uc_canon.proofs.opening.stored_members.Goals as goal

pub loop-member-preserved : goal.loop-member-preserved
loop-member-preserved c =
    c.in_ok-push.ensures.items ∙ ap (λ xs. xs ++ Stored (Def c.args.hash.now c.loop-member.member) ∷ []) c.loop-member.invariant ∙ stored_more c.args.hash.now c.loop-member.member

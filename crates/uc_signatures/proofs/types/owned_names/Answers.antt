use Rattle.std.proofs.Common.{◌<◌, subst, sym, ap, ◌∙◌, ◌++◌, ◌∷◌, []}
use Rattle.std.specs.Option.{option_copied}
use Rattle.uc_signatures.proofs.Joined.{take_next, got}
use Rattle.uc_signatures.proofs.types.owned_names.Goals.{in-Some+in_ok-push_owned, in_default}
use Rattle.uc_signatures.proofs.types.owned_names.Goals as goal

pub loop-i-preserved : goal.loop-i-preserved
loop-i-preserved c = elim c.match-get.branch [
  | in-Some+in_ok-push_owned w ↦
      ap (λ v. v.items) w.owned-is ∙ w.in_ok-push_owned.ensures ∙ ap (λ l. l ++ w.in-Some.name.now ∷ []) c.loop-i.invariant
      ∙ take_next c.loop-i.i c.args.names.now w.in-Some.name.now (sym w.in-Some.ensures)
  | in_default w ↦ absurd (got c.loop-i.i c.args.names.now (subst (λ n. c.loop-i.i < n) c.len-i-end.ensures c.loop-i-test.true) (sym c.get.ensures ∙ ap option_copied w.in_default.is))
]

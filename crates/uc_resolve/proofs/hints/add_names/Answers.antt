use Rattle.std.proofs.Common.{sym, ap, ◌∙◌, append_assoc, arith}
use Rattle.std.specs.Option.{option_copied}
use Rattle.uc_resolve.proofs.HintSteps.{next_text, not_there}
use Rattle.uc_resolve.proofs.hints.add_names.Goals as goal
use Rattle.uc_resolve.proofs.hints.add_names.Goals.{in-None, in-Some+in_ok-add_text-in-Some}

pub loop-i-preserved : goal.loop-i-preserved
loop-i-preserved c = elim c.match-get.branch [
  | in-None w ↦ absurd (not_there c.args.names.now c.loop-i.i (sym c.get.ensures ∙ ap option_copied w.in-None.is) (omega (arith, c.len-i-end.ensures)))
  | in-Some+in_ok-add_text-in-Some w ↦
      let name = w.in-Some.name.now in
      let next = next_text c.args.names.now c.loop-i.i name (sym c.get.ensures ∙ ap option_copied w.in-Some.is) in
      grind (arith, append_assoc)
]

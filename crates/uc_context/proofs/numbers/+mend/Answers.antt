use Rattle.std.proofs.Common.{arith, ap, ◌∙◌}
use Rattle.std.proofs.lemmas.List.{get_or_default, length-set}
use Rattle.uc_context.specs.declared.numbers.Tally.{Tally}
use Rattle.uc_context.proofs.Tournament.{played_at_root, played_below, uses-set}
use Rattle.uc_context.proofs.numbers.+mend.Goals as goal

pub mend-requires : goal.mend-requires
mend-requires t c = (
  omega arith,
  (
    omega (arith, length-set {A = Tally}),
    played_below c.args.tallies.now c.args.at _ c.requires.within (ap (λ (s : Tally). s.uses) (get_or_default c.args.tallies.now c.args.at _ _ c.requires.within)) c.winner.ensures c.if-at-gt0.true c.requires.others,
  ),
)

pub returns-then-at-gt0-clause-uses : goal.returns-then-at-gt0-clause-uses
returns-then-at-gt0-clause-uses t c =
    c.mend.ensures.uses
    ∙ uses-set c.args.tallies.now c.args.at _ c.requires.within (ap (λ (s : Tally). s.uses) (get_or_default c.args.tallies.now c.args.at _ _ c.requires.within)) c.winner.ensures

pub returns-else-at-gt0-clause-played : goal.returns-else-at-gt0-clause-played
returns-else-at-gt0-clause-played t c =
    played_at_root c.args.tallies.now c.args.at _ c.requires.within (ap (λ (s : Tally). s.uses) (get_or_default c.args.tallies.now c.args.at _ _ c.requires.within)) c.winner.ensures (omega (arith, c.if-at-gt0.false)) c.requires.others

use Rattle.std.proofs.Common.{sym, ap, ◌∙◌, inl, inr, Err}
use Rattle.uc_meaning.proofs.MeaningSteps.{meaning_one, meaning_many}
use Rattle.uc_meaning.proofs.entries.Entries.meaning.Goals as goal

pub returns-then-all_stand_for : goal.returns-then-all_stand_for
returns-then-all_stand_for c =
    meaning_one c.args.place c.args.text.now c.args.self.now c.in-Some.target (sym c.in-Some.is ∙ c.first_target.ensures) (sym c.all_stand_for.ensures ∙ c.if-all_stand_for.true)

pub returns-else-all_stand_for : goal.returns-else-all_stand_for
returns-else-all_stand_for c = elim c.ambiguous.ensures [
  | inl m ↦ inl m
  | inr e ↦ inr (
      meaning_many c.args.place c.args.text.now c.args.self.now c.in-Some.target (sym c.in-Some.is ∙ c.first_target.ensures) (sym c.all_stand_for.ensures ∙ c.if-all_stand_for.false)
      ∙ ap Err (sym e)
      )
]

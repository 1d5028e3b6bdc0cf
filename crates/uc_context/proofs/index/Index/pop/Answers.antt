use Rattle.std.proofs.Common.{ap, ◌∙◌, ◌-◌, ℕ}
use Rattle.std.specs.Prelude.{slice_set}
use Rattle.uc_context.specs.Numbers.{uses_at}
use Rattle.uc_context.proofs.Noting.{indexes_pop}
use Rattle.uc_context.proofs.index.Index.pop.Goals as goal

pub returns : goal.returns
returns c =
    indexes_pop c.args.self.now c.note.new.self c.args.e.now c.args.rest.now _ c.note.ensures.variables c.note.ensures.binders c.requires.indexed c.requires.apart c.place_before-place.ensures.variable c.place_before-place.ensures.binder
    (c.note.ensures.numbers ∙ c.remove.ensures ∙ ap (λ (n : ℕ). slice_set c.args.self.now.numbers n (uses_at c.args.self.now.numbers n - 1)) c.number.ensures)

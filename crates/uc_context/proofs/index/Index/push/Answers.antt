use Rattle.std.proofs.Common.{refl, ap, ◌∙◌, ◌+◌, ℕ}
use Rattle.std.specs.Prelude.{slice_set}
use Rattle.uc_context.specs.Numbers.{uses_at}
use Rattle.uc_context.proofs.Noting.{indexes_push}
use Rattle.uc_context.proofs.index.Index.push.Goals as goal

pub returns : goal.returns
returns c =
    indexes_push c.args.self.now c.note.new.self c.args.e.now c.args.before.now _ c.note.ensures.variables c.note.ensures.binders c.requires.indexed c.requires.room refl
    (c.note.ensures.numbers ∙ c.add.ensures ∙ ap (λ (n : ℕ). slice_set c.args.self.now.numbers n (uses_at c.args.self.now.numbers n + 1)) c.number.ensures)

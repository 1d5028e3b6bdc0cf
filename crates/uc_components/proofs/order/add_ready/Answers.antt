use Rattle.std.proofs.Common.{ℕ, List, sym, subst, ◌⊎◌, ◌≡◌}
use Rattle.std.specs.List.{Contains}
use Rattle.uc_components.proofs.Sets.{insert_has, insert_keeps, insert_cases}
use Rattle.uc_components.proofs.order.add_ready.Goals as goal

pub returns-clause-has : goal.returns-clause-has
returns-clause-has c = let P : List ℕ → Type 0 = λ xs. Contains xs c.args.least in subst P (sym c.in_ok-insert.ensures.keys) (insert_has c.args.ready.now.keys c.args.least)

pub returns-clause-keeps : goal.returns-clause-keeps
returns-clause-keeps c = λ x h. let P : List ℕ → Type 0 = λ xs. Contains xs x in subst P (sym c.in_ok-insert.ensures.keys) (insert_keeps c.args.ready.now.keys c.args.least x h)

pub returns-clause-cases : goal.returns-clause-cases
returns-clause-cases c = λ x h. let P : List ℕ → Type 0 = λ xs. Contains xs x in insert_cases c.args.ready.now.keys c.args.least x (subst P c.in_ok-insert.ensures.keys h)

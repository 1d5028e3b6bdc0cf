use Rattle.std.proofs.Common.{◌++◌, ap, ◌∙◌}
use Rattle.uc_branch.specs.Heads.{HeadPairs, has_name}
use Rattle.uc_branch.specs.Reaches.{is_among}
use Rattle.uc_branch.specs.Todo.{todo_in}
use Rattle.uc_branch.proofs.Agreeing.{todo_agree}
use Rattle.uc_branch.proofs.todo_list.todo.Goals as goal

pub returns-clause-ok : goal.returns-clause-ok
returns-clause-ok g c =
    let direct = g.K.Known.direct c.args.known.now in
    let named = c.in_ok-named.named in
    let head = c.args.head.now in
    let kinds = todo_agree direct (λ r. is_among r named) (λ r. has_name r head) c.in_ok-named.ensures c.head.inside.kinds in
    let terms = todo_agree direct (λ r. is_among r named) (λ r. has_name r head) c.in_ok-named.ensures c.head.inside.terms in
    c.in_ok-add_todo-2.ensures ∙ rw (c.in_ok-add_todo.ensures, c.new-out.ensures.items, c.as_slice.ensures.value, c.as_slice-2.ensures.value, kinds, terms)
    (ap (λ (h : HeadPairs). todo_in direct (λ r. has_name r head) h.kinds ++ todo_in direct (λ r. has_name r head) h.terms) c.head.view_is)

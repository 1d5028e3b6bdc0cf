use Rattle.std.proofs.Common.{rules, ◌≡◌, length, sym, ap, ◌∙◌}
use Rattle.uc_context.specs.OpenViews.{open_of}
use Rattle.uc_check.proofs.FormCounts.{head_apart, head_same}
use Rattle.uc_check.proofs.forms.is_list.Goals as goal

pub returns-then-is_list_head : goal.returns-then-is_list_head
returns-then-is_list_head c =
    let many : c.len.result ≡ length c.in-Data.arguments.items = search rules in
    head_same c.in-Data.head c.in-Data.arguments.items c.args.of.now (sym c.of.view_is ∙ ap open_of c.in-Data.is) (sym c.is_list_head.ensures ∙ c.if-is_list_head.true) c.len.result many

pub returns-else-is_list_head : goal.returns-else-is_list_head
returns-else-is_list_head c = c.if-is_list_head.false ∙ head_apart c.in-Data.head c.in-Data.arguments.items c.args.of.now (sym c.of.view_is ∙ ap open_of c.in-Data.is) (sym c.is_list_head.ensures ∙ c.if-is_list_head.false)

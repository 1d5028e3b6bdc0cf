use Rattle.std.proofs.Common.{rules, sym, ap, ◌∙◌}
use Rattle.uc_context.specs.OpenViews.{open_of}
use Rattle.uc_tree.specs.TermViews.{term_of}
use Rattle.uc_check.proofs.FormCounts.{tuple_rule}
use Rattle.uc_check.proofs.forms.has_rule_of_form.Goals as goal

pub returns-in-Tuple-Tuple : goal.returns-in-Tuple-Tuple
returns-in-Tuple-Tuple c =
    tuple_rule c.args.term.now c.args.against.now c.in-Tuple-Tuple.parts.items c.in-Tuple-Tuple.types.items c.len.result c.len-in-Tuple-Tuple.result
    (sym c.term.view_is ∙ ap term_of c.in-Tuple-Tuple.is-0) (sym c.against.view_is ∙ ap open_of c.in-Tuple-Tuple.is-1) (search rules) (search rules)

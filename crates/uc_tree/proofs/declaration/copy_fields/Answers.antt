use Rattle.std.proofs.Common.{◌∙◌}
use Rattle.uc_tree.proofs.Fields.{fields_go_on, fields_end}
use Rattle.uc_tree.proofs.declaration.copy_fields.Goals as goal

pub loop-fields-preserved : goal.loop-fields-preserved
loop-fields-preserved c =
    rw c.in_ok-push.ensures.items (fields_go_on c.loop-fields.copied.items c.args.ctors.now c.loop-fields.fields-index c.fields-item.result c.in_ok-copy_types.field-0
    c.loop-fields-test.true c.fields-item.is (c.in_ok-copy_types.ensures ∙ c.deref.ensures.value) c.loop-fields.invariant)

pub returns : goal.returns
returns c = c.loop-fields.invariant ∙ fields_end c.args.ctors.now c.loop-fields.fields-index c.loop-fields-test.false

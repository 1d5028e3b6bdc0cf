use Rattle.std.proofs.Common.{rules, ◌≡◌, ℕ, List, length, arith, sym, ap, ◌∙◌}
use Rattle.uc_tree.specs.declared.target.Target.{Target}
use Rattle.uc_context.specs.OpenViews.{open_of}
use Rattle.uc_subtyping.proofs.SubtypeArms.{tuple_rule, data_rule}
use Rattle.uc_subtyping.proofs.subtyping.has_rule.Goals as goal

pub returns-in-Tuple-Tuple : goal.returns-in-Tuple-Tuple
returns-in-Tuple-Tuple c =
    let left : c.len.result ≡ length c.in-Tuple-Tuple.ts.items = omega (arith, c.len.ensures, c.in-Tuple-Tuple.ts.ok.0) in
    let right : c.len-in-Tuple-Tuple.result ≡ length c.in-Tuple-Tuple.us.items = omega (arith, c.len-in-Tuple-Tuple.ensures, c.in-Tuple-Tuple.us.ok.0) in
    tuple_rule c.args.lower.now c.args.upper.now c.in-Tuple-Tuple.ts.items c.in-Tuple-Tuple.us.items c.len.result c.len-in-Tuple-Tuple.result left right (sym c.lower.view_is ∙ ap open_of c.in-Tuple-Tuple.is-0) (sym c.upper.view_is ∙ ap open_of c.in-Tuple-Tuple.is-1)

pub returns-then-eq : goal.returns-then-eq
returns-then-eq c =
    let left : c.len-then-eq.result ≡ length c.in-Data-Data.ts.items = omega (arith, c.len-then-eq.ensures, c.in-Data-Data.ts.ok.0) in
    let right : c.len-then-eq-2.result ≡ length c.in-Data-Data.us.items = omega (arith, c.len-then-eq-2.ensures, c.in-Data-Data.us.ok.0) in
    let heads : ◌≡◌ {A = Target} c.in-Data-Data.h c.in-Data-Data.k = search rules in
    data_rule c.args.lower.now c.args.upper.now c.in-Data-Data.ts.items c.in-Data-Data.us.items c.len-then-eq.result c.len-then-eq-2.result left right c.in-Data-Data.h c.in-Data-Data.k (sym c.lower.view_is ∙ ap open_of c.in-Data-Data.is-0) (sym c.upper.view_is ∙ ap open_of c.in-Data-Data.is-1) heads

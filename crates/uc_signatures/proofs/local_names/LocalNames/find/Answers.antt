use Rattle.std.proofs.Common.{◌≡◌, ◌-◌, sym, ap, ◌∙◌, subst, Some, None, arith, length}
use Rattle.std.specs.List.{position_from}
use Rattle.uc_meaning.specs.ExprMeanings.{is_binder_of}
use Rattle.uc_signatures.specs.LocalViews.{names_of}
use Rattle.uc_signatures.proofs.Locals.{place_below, not_found, found_at}
use Rattle.uc_signatures.proofs.local_names.LocalNames.find.Goals as goal

pub overflow_cast-result : goal.overflow_cast-result
overflow_cast-result c = grind (arith, c.len.ensures, c.self.invariant.count, c.self.inside.locals.ok)

pub overflow_sub-result : goal.overflow_sub-result
overflow_sub-result c =
    let e = sym (c.self.invariant.indexed c.args.text.now) ∙ sym c.in-Some.ensures in
    let b = place_below c.args.text.now c.self.inside.locals.items c.in-Some.place e in
    grind (arith, b, c.len.ensures)

pub overflow_sub-result-in-Some : goal.overflow_sub-result-in-Some
overflow_sub-result-in-Some c =
    let e = sym (c.self.invariant.indexed c.args.text.now) ∙ sym c.in-Some.ensures in
    let b = place_below c.args.text.now c.self.inside.locals.items c.in-Some.place e in
    grind (arith, b, c.len.ensures)

pub returns-in-None : goal.returns-in-None
returns-in-None c =
    let e = sym (c.self.invariant.indexed c.args.text.now) ∙ sym c.in-None.ensures in
    sym (subst (λ l. position_from (is_binder_of c.args.text.now) 0 l ≡ None) c.self.view_is (not_found c.args.text.now 0 (names_of c.self.inside.locals.items) e))

pub returns-in-Some : goal.returns-in-Some
returns-in-Some c =
    let e = sym (c.self.invariant.indexed c.args.text.now) ∙ sym c.in-Some.ensures in
    ap (λ n. Some (n - 1 - c.in-Some.place)) (c.len.ensures ∙ c.self.inside.locals.ok.0)
    ∙ sym (subst (λ l. position_from (is_binder_of c.args.text.now) 0 l ≡ Some (length c.self.inside.locals.items - 1 - c.in-Some.place)) c.self.view_is (found_at c.args.text.now c.self.inside.locals.items c.in-Some.place e))

use Rattle.std.proofs.Common.{rules, ◌≡◌, subst, vec_len, length}
use Rattle.uc_turnstile.specs.Passes.{passes_in}
use Rattle.uc_turnstile.specs.Shown.{IsPassOf, view_of}
use Rattle.uc_turnstile.proofs.Gathers.{Gathered, IsUnsplit, gathers_first, gathers_more, gathers_all, popped, one_less}
use Rattle.uc_turnstile.proofs.tests.gather.Goals as goal

pub loop-other-init : goal.loop-other-init
loop-other-init c =
    let e = popped (λ k p. IsPassOf c.args.turnstile.now p × IsUnsplit k (view_of p)) _ _ _ c.in-Some.ensures.items c.requires.each in
    record { own = e.1.0; each = e.0; gathered = gathers_first _ _ (view_of c.in-Some.pass) (search rules) e.1.1 }

pub meet-requires : goal.meet-requires
meet-requires c =
    let e = popped (λ k p. IsPassOf c.args.turnstile.now p × IsUnsplit k (view_of p)) _ _ _ c.in-Some-pop.ensures.items c.loop-other.invariant.each in
    record { own = (c.loop-other.invariant.own, e.1.0) }

pub loop-other-preserved : goal.loop-other-preserved
loop-other-preserved c =
    let e = popped (λ k p. IsPassOf c.args.turnstile.now p × IsUnsplit k (view_of p)) _ _ _ c.in-Some-pop.ensures.items c.loop-other.invariant.each in
    record { own = c.meet.ensures.own; each = e.0; gathered = gathers_more _ _ _ _ _ (subst (λ m. Gathered m (vec_len c.args.passes) (passes_in (view_of c.loop-other.pass))) (one_less _ _ _ c.in-Some-pop.ensures.items) c.loop-other.invariant.gathered) e.1.1 c.meet.ensures.met }

pub returns-clause-all : goal.returns-clause-all
returns-clause-all c = let none_left : length c.loop-other.passes.items ≡ 0 = search rules in
    gathers_all _ _ (subst (λ m. Gathered m (vec_len c.args.passes) (passes_in (view_of c.loop-other.pass))) none_left c.loop-other.invariant.gathered)

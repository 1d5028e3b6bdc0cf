use Rattle.std.proofs.Common.{◌≡◌, ◌<◌, ℕ, List, true, false, length, get_or, set, sym, ◌∙◌, ap, subst, arith}
use Rattle.std.proofs.lemmas.List.{get_or_read}
use Rattle.uc_base.specs.Graph.{row, Edge}
use Rattle.uc_components.specs.Rows.{lists}
use Rattle.uc_components.specs.Searched.{flag}
use Rattle.uc_components.specs.Order.{Stage, stage_of, IsStage, IsKnown, placed_at}
use Rattle.uc_components.specs.declared.order.Queue.{Queue}
use Rattle.uc_components.proofs.Stages.{readied}
use Rattle.uc_components.proofs.Taking.{mid, placed_stage, referrers_new, taken}
use Rattle.uc_components.proofs.order.next.Goals as goal

pub index-part-requires : goal.index-part-requires
index-part-requires c = omega (arith, (c.requires.stage.ready c.in-Some.least c.in-Some.ensures.some.has).vertex, c.args.queue.now.home.ok)

pub wake-requires-clause-new : goal.wake-requires-clause-new
wake-requires-clause-new c = λ d ed.
    let s : Stage = stage_of c.args.queue.now in
    let x : ℕ = c.in-Some.least in
    let r : List ℕ = c.take_least.new.ready.keys in
    let pe : c.index-part.result.now ≡ get_or s.home x 0 = get_or_read s.home x _ (c.requires.stage.ready x c.in-Some.ensures.some.has).vertex c.index-part.ensures 0 in
    let me : stage_of c.place-members.new.queue ≡ mid s x r = c.place-members.ensures.stage ∙ ap (λ p. placed_at (readied s r) p) pe in
    let P : Stage → Type 0 = λ z. (d < length z.placed) × (flag z.placed d ≡ false) in
    let Q : ℕ → Type 0 = λ p. Edge (lists c.args.links.now.references) d p in
    subst P (sym me) (referrers_new (lists c.args.links.now.references) s x r c.requires.stage c.in-Some.ensures.some d (subst Q pe (c.requires.back d _ ed)))

pub wake-requires-clause-stage : goal.wake-requires-clause-stage
wake-requires-clause-stage c =
    let s : Stage = stage_of c.args.queue.now in
    let x : ℕ = c.in-Some.least in
    let r : List ℕ = c.take_least.new.ready.keys in
    let pe : c.index-part.result.now ≡ get_or s.home x 0 = get_or_read s.home x _ (c.requires.stage.ready x c.in-Some.ensures.some.has).vertex c.index-part.ensures 0 in
    let me : stage_of c.place-members.new.queue ≡ mid s x r = c.place-members.ensures.stage ∙ ap (λ p. placed_at (readied s r) p) pe in
    let P : Stage → Type 0 = λ z. IsStage (lists c.args.links.now.references) z in
    subst P (sym me) (placed_stage (lists c.args.links.now.references) s x r c.requires.stage c.in-Some.ensures.some)

pub returns-clause-some : goal.returns-clause-some
returns-clause-some c =
    let s : Stage = stage_of c.args.queue.now in
    let x : ℕ = c.in-Some.least in
    let r : List ℕ = c.take_least.new.ready.keys in
    let pe : c.index-part.result.now ≡ get_or s.home x 0 = get_or_read s.home x _ (c.requires.stage.ready x c.in-Some.ensures.some.has).vertex c.index-part.ensures 0 in
    let me : stage_of c.place-members.new.queue ≡ mid s x r = c.place-members.ensures.stage ∙ ap (λ p. placed_at (readied s r) p) pe in
    let P : ℕ → ℕ → Type 0 = λ d p. Edge (lists c.args.links.now.referrers) p d in
    let K : ℕ → Stage → Type 0 = λ d z. IsKnown (lists c.args.links.now.references) z d in
    taken (lists c.args.links.now.references) s x r c.requires.stage c.in-Some.ensures.some (stage_of c.wake.new.queue) c.place-members.result.items c.requires.known
    (c.place-members.ensures.members ∙ ap (λ p. row s.parts p) pe)
    (ap (λ (q : Queue). q.home.items) c.in_ok-wake.ensures.same ∙ ap (λ (z : Stage). z.home) me)
    (ap (λ (q : Queue). q.placed.items) c.in_ok-wake.ensures.same ∙ ap (λ (z : Stage). z.placed) me)
    c.in_ok-wake.ensures.stage
    (λ d ed. c.in_ok-wake.ensures.known d (subst (P d) (sym pe) (c.requires.mirrored d (get_or s.home x 0) ed)))
    (λ d k. c.in_ok-wake.ensures.keeps d (subst (K d) (sym me) k))

-- One component, where a graph has just one.
use Rattle.std.proofs.Common.{◌≡◌, ℕ, ◌<◌, List, [], ◌∷◌, length, refl, sym, subst, inl, inr, arith}
use Rattle.std.specs.List.{Contains}
use Rattle.uc_base.specs.Graph.{InRange, Together, IsComponentOrder}
use Rattle.uc_components.proofs.Paths.{reaches_trans}
use Rattle.uc_canon.specs.Members.{Members}
use Rattle.uc_canon.specs.Numbering.{rows_of, IsOneComponent}
use Rattle.uc_canon.proofs.LeastText.{length-rows_of}

together_back : (g : List (List ℕ)) (u v : ℕ) → Together g u v → Together g v u
together_back g u v (inl e) = inl (sym e)
together_back g u v (inr p) = inr (p.1, p.0)

together_on : (g : List (List ℕ)) (u v w : ℕ) → Together g u v → Together g v w → Together g u w
together_on g u v w (inl e) q = let P : ℕ → Type 0 = λ x. Together g x w in subst P (sym e) q
together_on g u v w (inr p) (inl e) = let P : ℕ → Type 0 = λ x. Together g u x in subst P e (inr p)
together_on g u v w (inr p) (inr q) = inr (reaches_trans p.0 q.0, reaches_trans q.1 p.1)

-- the vertices are one component, where there is one
pub one_together : (g : List (List ℕ)) (cs : List (List ℕ)) → IsComponentOrder g cs → length cs ≡ 1 → (0 < length g) × ((u v : ℕ) → u < length g → v < length g → Together g u v)
one_together g [] o n = absurd (omega arith)
one_together g (c ∷ d ∷ cs) o n = absurd (omega arith)
one_together g (c ∷ []) o n =
    let next = o.0.1 in (
      omega (arith, next.ready.vertex),
      λ u v ul vl. together_on g u o.0.0 v (together_back g o.0.0 u (next.component.sound u (o.1 u ul))) (next.component.sound v (o.1 v vl)),
    )

pub one_from_together : (g : List (List ℕ)) (cs : List (List ℕ)) → IsComponentOrder g cs → 0 < length g → ((u v : ℕ) → u < length g → v < length g → Together g u v) → length cs ≡ 1
one_from_together g [] o some all = let h : Contains [] 0 = o 0 some in absurd (omega (arith, h.1))
one_from_together g (c ∷ []) o some all = refl
one_from_together g (c ∷ d ∷ cs) o some all =
    let first = o.0 in
    let second = o.1.0 in
    absurd (second.1.ready.free (first.1.component.complete second.0 (all first.0 second.0 first.1.ready.vertex second.1.ready.vertex)))

-- members of whose graph that is so
pub is_one : (m : Members) (cs : List (List ℕ)) → InRange (rows_of m) → IsComponentOrder (rows_of m) cs → length cs ≡ 1 → IsOneComponent m
is_one m cs range o n =
    let t = one_together (rows_of m) cs o n in
    let l = length-rows_of m in
    record { filled = omega (arith, t.0); closed = range; together = λ u v ul vl. t.1 u v (omega arith) (omega arith) }

pub has_one : (m : Members) (cs : List (List ℕ)) → IsComponentOrder (rows_of m) cs → IsOneComponent m → length cs ≡ 1
has_one m cs o w =
    let l = length-rows_of m in
    one_from_together (rows_of m) cs o (omega (arith, w.filled)) (λ u v ul vl. w.together u v (omega arith) (omega arith))

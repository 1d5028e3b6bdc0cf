-- At most one least text, and at most one numbering.
use Rattle.std.proofs.Common.{◌≡◌, ℕ, List, refl, sym, ap, subst, ◌∙◌, inl, inr}
use Rattle.std.specs.Ordering.{nat_cmp, ordering_reverse}
use Rattle.std.specs.Cmp.Lexicographic.{slice_cmp, nat_list_cmp_total}
use Rattle.std.specs.FinSet.{slice_cmp-IsAntisymmetric, nat_cmp-IsAntisymmetric}
use Rattle.std.specs.declared.cmp.Ordering.{Ordering}
use Rattle.std.specs.declared.cmp.Ordering.TheVariants.{Less, Equal, Greater}
use Rattle.std.proofs.lemmas.Bool.{cases_order}
use Rattle.uc_canon.specs.Numbering.{IsTextFrom, IsBefore, order_from}
use Rattle.uc_canon.specs.NumberingLaws.{LeastTextIsUnique, NumberingIsUnique}

-- neither of two texts comes before the other
same_text : (t u : List ℕ) → (IsBefore t u → ⊥) → (IsBefore u t → ⊥) → t ≡ u
same_text t u f g = by (slice_cmp nat_cmp t u) refl
  where
    by : (o : Ordering) → slice_cmp nat_cmp t u ≡ o → t ≡ u
    by Less e = absurd (f e)
    by Equal e = slice_cmp-IsAntisymmetric nat_cmp-IsAntisymmetric t u e
    by Greater e = absurd (g (nat_list_cmp_total.antisymm u t ∙ ap ordering_reverse e))

pub least_text_is_unique : LeastTextIsUnique
least_text_is_unique m t u a b = same_text t u (b.least a.start t a.below a.given) (a.least b.start u b.below b.given)

pub numbering_is_unique : NumberingIsUnique
numbering_is_unique m order other a b =
    let t : a.text ≡ b.text = least_text_is_unique m a.text b.text a.least b.least in
    let P : List ℕ → Type 0 = λ x. IsTextFrom m a.start x in
    let Q : List ℕ → Type 0 = λ x. IsTextFrom m b.start x in
    let s : a.start ≡ b.start = elim (cases_order a.start b.start) [
      | inl e ↦ e
      | inr o ↦ elim o [ inl lt ↦ absurd (b.first a.start lt (subst P t a.given)) | inr gt ↦ absurd (a.first b.start gt (subst Q (sym t) b.given)) ]
    ] in
    a.ordered ∙ ap (order_from m) s ∙ sym b.ordered

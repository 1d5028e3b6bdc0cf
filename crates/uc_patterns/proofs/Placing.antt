-- Refusals at a spot.
use Rattle.std.proofs.Common.{◌≡◌, refl, ap, ◌∙◌, ◌⊎◌, inl, inr}
use Rattle.uc_base.specs.declared.fault.Fault.{Fault}
use Rattle.uc_base.specs.declared.fault.Fault.TheVariants.{Memory, TypeTooLarge}
use Rattle.uc_base.specs.declared.place.At.TheVariants.{Nowhere}
use Rattle.uc_base.specs.declared.place.Spot.{Spot}
use Rattle.uc_context.specs.Counts.{IsSmall}
use Rattle.uc_context.specs.Opens.{Open}
use Rattle.uc_subtyping.specs.Ends.{fault_of, IsRefused}
use Rattle.uc_subtyping.specs.Outcomes.{Outcome, refused, ill, large, Refusal}
use Rattle.uc_typing.specs.Stops.{too_large, stop_at}
use Rattle.uc_patterns.specs.Spots.{fault_at, placed_at, IsStopped}

placed_reason : (spot : Spot) (why : Refusal) → placed_at spot (fault_of why) ≡ fault_at spot.member (stop_at spot.node why)
placed_reason spot ill = refl
placed_reason spot large = refl

-- a refusal of a judgement
pub placed_refusal : (spot : Spot) (P : Outcome → Type 0) (fault found : Fault) → found ≡ placed_at spot fault → IsRefused P fault
    → IsStopped spot.member (λ stop. (why : Refusal) × (stop ≡ stop_at spot.node why) × P (refused why)) found
placed_refusal spot P fault found is (inl memory) = inl (is ∙ ap (placed_at spot) memory)
placed_refusal spot P fault found is (inr r) = inr (stop_at spot.node r.0, is ∙ ap (placed_at spot) r.1 ∙ placed_reason spot r.0, (r.0, refl, r.2))

-- a type that is too large
pub placed_large : (spot : Spot) (t : Open) (fault found : Fault) → found ≡ placed_at spot fault → (fault ≡ Memory) ⊎ ((fault ≡ TypeTooLarge Nowhere) × ¬ IsSmall t)
    → IsStopped spot.member (λ stop. (stop ≡ too_large spot.node) × ¬ IsSmall t) found
placed_large spot t fault found is (inl memory) = inl (is ∙ ap (placed_at spot) memory)
placed_large spot t fault found is (inr p) = inr (too_large spot.node, is ∙ ap (placed_at spot) p.0, (refl, p.1))

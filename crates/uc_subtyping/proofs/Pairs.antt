-- Pairs of types that are left to become subtypes, and what is shown once they are.
use Rattle.std.proofs.Common.{◌≡◌, ℕ, ◌+◌, ◌*◌, ◌<◌, ◌≤◌, ◌^◌, Bool, true, false, min, List, [], ◌∷◌, length, get_or, drop, arith, refl, sym, ap, subst, ◌∙◌, inl, inr, ◌⊎◌}
use Rattle.std.proofs.lemmas.Bool.{and_parts, and_from}
use Rattle.std.proofs.lemmas.List.{drop_more, drop_all}
use Rattle.uc_base.specs.declared.fault.Fault.{Fault}
use Rattle.uc_base.specs.declared.fault.Fault.TheVariants.{Memory, TypeTooLarge}
use Rattle.uc_base.specs.declared.place.At.TheVariants.{Nowhere}
use Rattle.uc_context.specs.Opens.{Open, Opens, none, more, opens_of}
use Rattle.uc_context.specs.Contexts.{IsContext, type_under, types_under}
use Rattle.uc_context.specs.Counts.{open_node_count, opens_node_count, IsSmall}
use Rattle.uc_context.specs.Entries.{ContextEntries}
use Rattle.uc_context.specs.Variables.{has_variables, has_variables_of}
use Rattle.uc_subtyping.specs.Ends.{IsRefused}
use Rattle.uc_subtyping.specs.InHand.{IsInHand, SolvesByMonotypes}
use Rattle.uc_subtyping.specs.Outcomes.{Outcome, done, refused, large, Refusal}
use Rattle.uc_subtyping.specs.Subtyping.{AreSmall, SolvesSubtype, SolvesSubtypes, subtypes_done, subtypes_next, subtypes_refused, subtypes_large}
use Rattle.uc_subtyping.proofs.Absorbing.{under-again}
use Rattle.uc_subtyping.proofs.Costs.{Spends, subtype_spends}
use Rattle.uc_subtyping.proofs.Counting.{quantifiers, quantifiers_of, unsolved_count, quantifiers-under}
use Rattle.uc_subtyping.proofs.Falling.{weight, rank, types_rank, lists_rank, part_rank, Falls, falls-next}
use Rattle.uc_subtyping.proofs.Pending.{refused_as}
use Rattle.uc_subtyping.proofs.Settled.{settled-under}
use Rattle.uc_subtyping.proofs.SubtypesGo.{Never, subtype_goes, known_rest}
use Rattle.uc_subtyping.proofs.Turning.{Turns}

-- one pair, with the solutions put in
pub put_in_hand : (es : ContextEntries) (t v : Open) → IsContext es → has_variables es (type_under es t) ≡ true → v ≡ type_under es t → IsSmall v → IsInHand es v
put_in_hand es t v order k put small = subst (IsInHand es) (sym put) (record { known = k; current = under-again es order t; small = subst IsSmall put small })

module _ (es : ContextEntries) (t u v w : Open) (put_left : v ≡ type_under es t) (put_right : w ≡ type_under es u) (small_left : IsSmall v) (small_right : IsSmall w) where
  both_small : AreSmall es t u
  both_small = (subst IsSmall put_left small_left, subst IsSmall put_right small_right)

  as_put : (o : Outcome) → SolvesSubtype es v w o → SolvesSubtype es (type_under es t) (type_under es u) o
  as_put o d = subst (λ (a : Open). SolvesSubtype es a (type_under es u) o) put_left (subst (λ (a : Open). SolvesSubtype es v a o) put_right d)

  pub pair_done : (fs : ContextEntries) → SolvesSubtype es v w (done fs) → SolvesSubtypes es (more t none) (more u none) (done fs)
  pair_done fs d = subtypes_next both_small (as_put (done fs) d) subtypes_done

  pub pair_refused : (fault : Fault) → IsRefused (SolvesSubtype es v w) fault → IsRefused (SolvesSubtypes es (more t none) (more u none)) fault
  pair_refused fault r = refused_as (SolvesSubtype es v w) (SolvesSubtypes es (more t none) (more u none)) fault (λ why d. subtypes_refused both_small (as_put (refused why) d)) r

  -- and it falls
  pub pair_falls : SolvesByMonotypes es → types_rank es v w + 3 < part_rank es t u + 4
  pair_falls mono =
      let p = small_left.nodes in
      let q = small_right.nodes in
      omega (
        arith,
        p,
        q,
        ap open_node_count put_left,
        ap open_node_count put_right,
        ap quantifiers put_left ∙ quantifiers-under es t mono,
        ap quantifiers put_right ∙ quantifiers-under es u mono,
      )

pub left_large : (es : ContextEntries) (t u : Open) (fault : Fault) → (fault ≡ Memory) ⊎ ((fault ≡ TypeTooLarge Nowhere) × ¬ IsSmall (type_under es t)) → IsRefused (SolvesSubtypes es (more t none) (more u none)) fault
left_large es t u fault (inl memory) = inl memory
left_large es t u fault (inr past) = inr (large, past.0, subtypes_large (λ small. past.1 small.0))

pub right_large : (es : ContextEntries) (t u : Open) (fault : Fault) → (fault ≡ Memory) ⊎ ((fault ≡ TypeTooLarge Nowhere) × ¬ IsSmall (type_under es u)) → IsRefused (SolvesSubtypes es (more t none) (more u none)) fault
right_large es t u fault (inl memory) = inl memory
right_large es t u fault (inr past) = inr (large, past.0, subtypes_large (λ small. past.1 small.1))

record OnePair (es : ContextEntries) (t u : Open) (o : Outcome) : Type 0 where
  small : AreSmall es t u
  solves : SolvesSubtype es (type_under es t) (type_under es u) o

one_pair : (es : ContextEntries) (t u : Open) (fs : ContextEntries) → SolvesSubtypes es (more t none) (more u none) (done fs) → OnePair es t u (done fs)
one_pair es t u fs (subtypes_next small d subtypes_done) = record { small = small; solves = d }

pair_then : (es : ContextEntries) (t u : Open) (ts us : Opens) (fs : ContextEntries) (o : Outcome) → SolvesSubtypes es (more t none) (more u none) (done fs) → SolvesSubtypes fs ts us o → SolvesSubtypes es (more t ts) (more u us) o
pair_then es t u ts us fs o d e = let p : OnePair es t u (done fs) = one_pair es t u fs d in subtypes_next p.small p.solves e

pair_ends : (es : ContextEntries) (t u : Open) (ts us : Opens) (why : Refusal) → SolvesSubtypes es (more t none) (more u none) (refused why) → SolvesSubtypes es (more t ts) (more u us) (refused why)
pair_ends es t u ts us why (subtypes_next small d l) = elim l [ ]
pair_ends es t u ts us why (subtypes_refused small d) = subtypes_refused small d
pair_ends es t u ts us why (subtypes_large past) = subtypes_large past

-- pairs that are left, from whose outcome another follows
pub record PendingPairs (P : Outcome → Type 0) (start : ContextEntries) (bound : ℕ) (es : ContextEntries) (ts us : Opens) : Type 0 where
  pub monotypes : SolvesByMonotypes es
  pub in_order : IsContext es
  pub lower : has_variables_of es (types_under es ts) ≡ true
  pub upper : has_variables_of es (types_under es us) ≡ true
  pub ends : (o : Outcome) → SolvesSubtypes es ts us o → P o
  pub falls : Falls start es bound (quantifiers_of ts + quantifiers_of us)
  pub enough : weight start (quantifiers_of ts + quantifiers_of us) ≤ bound

module _ (P : Outcome → Type 0) (start : ContextEntries) (bound : ℕ) (t u : Open) (ts us : Opens) (es : ContextEntries) (p : PendingPairs P start bound es (more t ts) (more u us)) where
  known_left : (has_variables es (type_under es t) ≡ true) × (has_variables_of es (types_under es ts) ≡ true)
  known_left = and_parts (has_variables es (type_under es t)) (has_variables_of es (types_under es ts)) p.lower

  known_right : (has_variables es (type_under es u) ≡ true) × (has_variables_of es (types_under es us) ≡ true)
  known_right = and_parts (has_variables es (type_under es u)) (has_variables_of es (types_under es us)) p.upper

  pub pairs_lower : has_variables es (type_under es t) ≡ true
  pairs_lower = known_left.0

  pub pairs_upper : has_variables es (type_under es u) ≡ true
  pairs_upper = known_right.0

  pub pairs_next : (fs : ContextEntries) → SolvesSubtypes es (more t none) (more u none) (done fs) → PendingPairs P start bound fs ts us
  pairs_next fs d =
      let one : OnePair es t u (done fs) = one_pair es t u fs d in
      let go : Turns Never es fs = subtype_goes one.solves fs refl p.in_order (settled-under es p.in_order t known_left.0) (settled-under es p.in_order u known_right.0) in
      let spent : Spends es fs (quantifiers (type_under es t) + quantifiers (type_under es u)) = subtype_spends one.solves fs refl p.monotypes in
      let whole : quantifiers t + quantifiers_of ts + (quantifiers u + quantifiers_of us) ≡ quantifiers (type_under es t) + quantifiers (type_under es u) + (quantifiers_of ts + quantifiers_of us) =
      omega (arith, quantifiers-under es t p.monotypes, quantifiers-under es u p.monotypes) in
      record {
        monotypes = spent.monotypes;
        in_order = go.order;
        lower = known_rest es fs p.in_order go ts known_left.1;
        upper = known_rest es fs p.in_order go us known_right.1;
        ends = λ o l. p.ends o (pair_then es t u ts us fs o d l);
        falls = falls-next start es fs bound (quantifiers (type_under es t) + quantifiers (type_under es u)) (quantifiers_of ts + quantifiers_of us) (subst (λ (q : ℕ). weight start q ≤ bound) whole p.enough)
            (subst (Falls start es bound) whole p.falls) spent;
        enough = omega (arith, p.enough);
      }

  pub pairs_refused : (fault : Fault) → IsRefused (SolvesSubtypes es (more t none) (more u none)) fault → IsRefused P fault
  pairs_refused fault r = refused_as (SolvesSubtypes es (more t none) (more u none)) P fault (λ why d. p.ends (refused why) (pair_ends es t u ts us why d)) r

  -- the first pair is smaller than all that there was
  pub pairs_fall : (size : ℕ) → type_under start t ≡ t → type_under start u ≡ u → open_node_count t + open_node_count u ≤ size → part_rank es t u + 4 < rank bound (8 * size) + 6
  pairs_fall size same_left same_right enough = go p.falls
    where
      go : Falls start es bound (quantifiers t + quantifiers_of ts + (quantifiers u + quantifiers_of us)) → part_rank es t u + 4 < rank bound (8 * size) + 6
      go (inl same) =
          omega (
            arith,
            p.enough,
            enough,
            ap unsolved_count same,
            ap (λ (cs : ContextEntries). open_node_count (type_under cs t)) same ∙ ap open_node_count same_left,
            ap (λ (cs : ContextEntries). open_node_count (type_under cs u)) same ∙ ap open_node_count same_right,
          )
      go (inr less) = omega (arith, less)

pub pairs_done : (P : Outcome → Type 0) (start : ContextEntries) (bound : ℕ) (es : ContextEntries) → PendingPairs P start bound es none none → P (done es)
pairs_done P start bound es p = p.ends (done es) subtypes_done

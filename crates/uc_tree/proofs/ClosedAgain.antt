-- Opening and closing a component undo each other.
use Rattle.std.proofs.Common.{◌≡◌, ◌≢◌, ℕ, zero, suc, ◌<◌, List, [], ◌∷◌, length, get_or, Option, Some, None, arith, refl, sym, ap, ◌∙◌}
use Rattle.std.specs.Prelude.{map, option_map, unwrap_or, slice_get, is_some, IsSome, All, AllPairs, Contains}
use Rattle.std.proofs.lemmas.Option.{slice_get-map, slice_get-get_or, slice_get_within, get_or_from_slice_get}
use Rattle.uc_base.specs.declared.reference.Ref.{Ref}
use Rattle.uc_base.specs.declared.reference.Ref.TheVariants.{Def, Ctor, Builtin}
use Rattle.uc_tree.specs.declared.target.Target.{Target}
use Rattle.uc_tree.specs.declared.target.Target.TheVariants.{Stored, Own, OwnCtor}
use Rattle.uc_tree.specs.declared.item.Item.{Item}
use Rattle.uc_tree.specs.References.{number_of}
use Rattle.uc_tree.specs.Targets.{targets_of, home_of}
use Rattle.uc_tree.specs.Replacing.{◌>>=◌, Replacement, by_images, by_members, by_references, constructor_of, member_under, own_under, target_under, replaced}
use Rattle.uc_tree.specs.Laws.{AtEachTarget, StandsForItself, HasStanding, IsInTurn, stored_targets, IsDef, IsOwnBelow, ClosesAgain, OpensAgain}
use Rattle.uc_tree.proofs.Numbers.{number_of-here, number_of-there, number_of-none}
use Rattle.uc_tree.proofs.Replaced.{some_is}
use Rattle.uc_tree.proofs.ReplacedParts.{targets_are_replaced}
use Rattle.uc_tree.proofs.ReplacingLaws.{item_stays, item_is_replaced, items_in_turn}

-- something stands for each target where references are replaced by members
pub always_replaced : (refs : List Ref) (i : Item) → IsSome (replaced (by_references refs) i)
always_replaced refs i = item_is_replaced (by_references refs) i (λ x h. record { in_tree = refl; in_pattern = refl })

-- without images each target stands for itself
same_under : (x : Target) → StandsForItself (by_images []) x
same_under (Stored r) = record { in_tree = refl; in_pattern = refl }
same_under (Own member) = record { in_tree = refl; in_pattern = refl }
same_under (OwnCtor member ctor) = record { in_tree = refl; in_pattern = refl }

the_value : {A : Type 0} (o : Option A) → IsSome o → (x : A) × (o ≡ Some x)
the_value None h = absurd cc
the_value (Some x) h = (x, refl)

-- two replacements that give each target again give the item again
there_and_back : (m n : Replacement) (i : Item) → AtEachTarget (IsInTurn m n (by_images [])) i → IsSome (replaced m i) → ((j : Item) → replaced m i ≡ Some j → IsSome (replaced n j)) → (replaced m i >>= replaced n) ≡ Some i
there_and_back m n i in_turn there back =
    let p = the_value (replaced m i) there in
    let q = the_value (replaced n p.0) (back p.0 p.1) in
    ap (λ (o : Option Item). o >>= replaced n) p.1 ∙ q.1 ∙ sym (items_in_turn m n (by_images []) i p.0 q.0 p.1 q.1 in_turn) ∙ item_stays (by_images []) i (λ x h. same_under x)

stored_at : (refs : List Ref) (k : ℕ) (r : Ref) → slice_get refs k ≡ Some r → slice_get (stored_targets refs) k ≡ Some (Stored r)
stored_at refs k r e = slice_get-map (λ s. Stored s) refs k ∙ ap (option_map (λ s. Stored s)) e

stored_among : (refs : List Ref) (r : Ref) → Contains refs r → Contains (stored_targets refs) (Stored r)
stored_among refs r c =
    let at : slice_get (stored_targets refs) c.0 ≡ Some (Stored r) = stored_at refs c.0 r (slice_get-get_or refs c.0 r c.1 ∙ ap Some c.2) in
    (c.0, slice_get_within (stored_targets refs) c.0 (Stored r) at, get_or_from_slice_get (stored_targets refs) c.0 (Stored r) (Stored r) at)

-- a target by its reference, and closed again
module _ (refs : List Ref) (defs : All IsDef refs) (distinct : AllPairs (λ r s. r ≢ s) refs) where
  Closes : Target → Type 0
  Closes x = (y : Target) × (member_under (stored_targets refs) x ≡ Some y) × (own_under refs y ≡ x)

  foreign : (r : Ref) → ¬ Contains (stored_targets refs) (Stored r) → number_of r refs ≡ None
  foreign r absent = number_of-none refs r (λ h. absent (stored_among refs r h))

  own_closes : (k : ℕ) (r : Ref) → IsDef r → slice_get refs k ≡ Some r → Closes (Own k)
  unfolding Closes
  own_closes k (Def hash member) d e = (Stored (Def hash member), stored_at refs k (Def hash member) e, rw (number_of-here refs distinct k (Def hash member) e) refl)
  own_closes k (Ctor hash member ctor) d e = absurd d
  own_closes k (Builtin number) d e = absurd d

  own_constructor_closes : (k ctor : ℕ) (r : Ref) → IsDef r → slice_get refs k ≡ Some r → Closes (OwnCtor k ctor)
  unfolding Closes
  own_constructor_closes k ctor (Def hash member) d e =
      (Stored (Ctor hash member ctor), ap (λ (o : Option Target). o >>= constructor_of ctor) (stored_at refs k (Def hash member) e), rw (number_of-here refs distinct k (Def hash member) e) refl)
  own_constructor_closes k ctor (Ctor hash member other) d e = absurd d
  own_constructor_closes k ctor (Builtin number) d e = absurd d

  target_closes : (x : Target) → ¬ Contains (stored_targets refs) (home_of x) → IsOwnBelow (length refs) x → Closes x
  unfolding Closes
  target_closes (Stored (Def hash member)) absent h = (Stored (Def hash member), refl, rw (foreign (Def hash member) absent) refl)
  target_closes (Stored (Ctor hash member ctor)) absent h = (Stored (Ctor hash member ctor), refl, rw (foreign (Def hash member) absent) refl)
  target_closes (Stored (Builtin number)) absent h = (Stored (Builtin number), refl, refl)
  target_closes (Own k) absent h = own_closes k (get_or refs k (Builtin 0)) (defs k (Builtin 0) h) (slice_get-get_or refs k (Builtin 0) h)
  target_closes (OwnCtor k ctor) absent h = own_constructor_closes k ctor (get_or refs k (Builtin 0)) (defs k (Builtin 0) h) (slice_get-get_or refs k (Builtin 0) h)

  closed_in_turn : (x : Target) → Closes x → IsInTurn (by_members (stored_targets refs)) (by_references refs) (by_images []) x
  unfolding Closes
  closed_in_turn x p =
      let same : (y z : Target) → member_under (stored_targets refs) x ≡ Some y → ◌≡◌ {A = Option Target} (Some (own_under refs y)) (Some z) → x ≡ z =
      λ y z e f. sym p.2 ∙ ap (own_under refs) (some_is p.0 y (sym p.1 ∙ e)) ∙ some_is (own_under refs y) z f in
      record { in_tree = λ y z e f. (same_under x).in_tree ∙ ap Some (same y z e f); in_pattern = λ y z e f. (same_under x).in_pattern ∙ ap Some (same y z e f) }

  closed_standing : (x : Target) → Closes x → HasStanding (by_members (stored_targets refs)) x
  unfolding Closes
  closed_standing x p = record { in_tree = ap is_some p.1; in_pattern = ap is_some p.1 }

pub closes_again : ClosesAgain
closes_again refs i fits =
    let each : (x : Target) → Contains (targets_of i) x → Closes refs fits.defs fits.distinct x = λ x h. target_closes refs fits.defs fits.distinct x (fits.foreign x h) (fits.within x h) in
    there_and_back (by_members (stored_targets refs)) (by_references refs) i (λ x h. closed_in_turn refs fits.defs fits.distinct x (each x h))
    (item_is_replaced (by_members (stored_targets refs)) i (λ x h. closed_standing refs fits.defs fits.distinct x (each x h))) (λ j e. always_replaced refs j)

-- a stored target as a member, and by its reference again
target_opens : (refs : List Ref) (x : Target) → IsOwnBelow 0 x → member_under (stored_targets refs) (own_under refs x) ≡ Some x
target_opens refs (Stored (Def hash member)) h = go (number_of (Def hash member) refs) refl
  where
    go : (o : Option ℕ) → number_of (Def hash member) refs ≡ o
        → member_under (stored_targets refs) (unwrap_or (option_map (λ number. Own number) o) (Stored (Def hash member))) ≡ Some (Stored (Def hash member))
    go None e = refl
    go (Some k) e = stored_at refs k (Def hash member) (number_of-there refs k (Def hash member) e)
target_opens refs (Stored (Ctor hash member ctor)) h = go (number_of (Def hash member) refs) refl
  where
    go : (o : Option ℕ) → number_of (Def hash member) refs ≡ o
        → member_under (stored_targets refs) (unwrap_or (option_map (λ number. OwnCtor number ctor) o) (Stored (Ctor hash member ctor))) ≡ Some (Stored (Ctor hash member ctor))
    go None e = refl
    go (Some k) e = ap (λ (o : Option Target). o >>= constructor_of ctor) (stored_at refs k (Def hash member) (number_of-there refs k (Def hash member) e))
target_opens refs (Stored (Builtin number)) h = refl
target_opens refs (Own member) h = absurd (omega arith)
target_opens refs (OwnCtor member ctor) h = absurd (omega arith)

opened_in_turn : (refs : List Ref) (x : Target) → IsOwnBelow 0 x → IsInTurn (by_references refs) (by_members (stored_targets refs)) (by_images []) x
opened_in_turn refs x h =
    let back : (y z : Target) → ◌≡◌ {A = Option Target} (Some (own_under refs x)) (Some y) → member_under (stored_targets refs) y ≡ Some z → ◌≡◌ {A = Option Target} (Some x) (Some z) =
    λ y z e f. sym (target_opens refs x h) ∙ ap (member_under (stored_targets refs)) (some_is (own_under refs x) y e) ∙ f in
    record { in_tree = λ y z e f. (same_under x).in_tree ∙ back y z e f; in_pattern = λ y z e f. (same_under x).in_pattern ∙ back y z e f }

-- where each element of a list gives the one at its place in another, what stands there comes from one
module _ {A B : Type 0} (f : A → Option B) where
  comes_at : (xs : List A) (ys : List B) → map f xs ≡ map (λ y. Some y) ys → (y : B) (k : ℕ) → k < length ys → get_or ys k y ≡ y → (x : A) × (Contains xs x) × (f x ≡ Some y)
  comes_at [] [] e y k h is = absurd (omega arith)
  comes_at [] (z ∷ ys) e y k h is = absurd cc
  comes_at (x ∷ xs) [] e y k h is = absurd cc
  comes_at (x ∷ xs) (z ∷ ys) e y zero h is = (x, (zero, omega arith, refl), cc)
  comes_at (x ∷ xs) (z ∷ ys) e y (suc k) h is =
      let later : map f xs ≡ map (λ y. Some y) ys = cc in
      let p = comes_at xs ys later y k (omega arith) is in
      (p.0, (suc p.1.0, omega (arith, p.1.1), p.1.2), p.2)

pub opens_again : OpensAgain
opens_again refs i stored =
    there_and_back (by_references refs) (by_members (stored_targets refs)) i (λ x h. opened_in_turn refs x (stored x h)) (always_replaced refs i)
    (λ j e. item_is_replaced (by_members (stored_targets refs)) j (λ y h.
    let p = comes_at (target_under (by_references refs)) (targets_of i) (targets_of j) (targets_are_replaced (by_references refs) i j e) y h.0 h.1 h.2 in
    let back : member_under (stored_targets refs) y ≡ Some p.0 = ap (member_under (stored_targets refs)) (sym (some_is (own_under refs p.0) y p.2)) ∙ target_opens refs p.0 (stored p.0 p.1) in
    record { in_tree = ap is_some back; in_pattern = ap is_some back }))

-- The members of an entry, made one after another.
use Rattle.std.proofs.Common.{◌≡◌, ◌⊎◌, inl, inr, ℕ, ◌+◌, ◌<◌, List, [], ◌∷◌, ◌++◌, Vec, length, drop, Option, Some, None, append_assoc, arith, refl, sym, ap, subst, ◌∙◌}
use Rattle.std.proofs.lemmas.List.{map-append}
use Rattle.std.specs.Prelude.{slice_get, slice_index_or, MatchOption}
use Rattle.std.specs.Option.{option_map_or}
use Rattle.std.proofs.lemmas.Option.{slice_get_within}
use Rattle.uc_base.specs.declared.hash.Hash.{Hash}
use Rattle.uc_tree.specs.declared.item.Item.{Item}
use Rattle.uc_tree.specs.Hints.{names_of}
use Rattle.uc_tree.specs.Types.{Ty}
use Rattle.uc_store.specs.declared.member.Member.{Member}
use Rattle.uc_store.specs.declared.stored.Stored.{Stored}
use Rattle.uc_store.specs.Growth.{stored_from}
use Rattle.uc_store.specs.Members.{stored_of, IsKept, AreKept}
use Rattle.uc_store.proofs.Boxes.{pushed_at}

-- what a step takes from the front of a list, if there is anything
pub next_list : {X : Type 0} (s t : List X) (r : Option X) (m n : ℕ) → m ≡ length s → n ≡ length t → MatchOption r ((m ≡ 0) × (n ≡ 0)) (λ x. (s ≡ x ∷ t) × (n + 1 ≡ m))
    → (r ≡ slice_get s 0) × (t ≡ drop 1 s)
next_list [] [] None m n a b e = (refl, refl)
next_list [] (y ∷ t) None m n a b e = absurd (omega (arith, e.1))
next_list (y ∷ s) t None m n a b e = absurd (omega (arith, e.0))
next_list s t (Some x) m n a b e = (rw e.0 refl, rw e.0 refl)

pub first_names : {A : Type 0} (hints : List (Vec (List ℕ) A)) (r : Option (Vec (List ℕ) A)) → r ≡ slice_get hints 0 → option_map_or (λ ns. ns.items) r [] ≡ slice_index_or (names_of hints) 0 []
first_names [] r e = rw e refl
first_names (v ∷ hints) r e = rw e refl

pub names_of-drop : {A : Type 0} (hints : List (Vec (List ℕ) A)) → names_of (drop 1 hints) ≡ drop 1 (names_of hints)
names_of-drop [] = refl
names_of-drop (v ∷ hints) = refl

stored_same : (s : Stored) (i : Item) (t : Option Ty) (h : List (List (List ℕ))) → s.item ≡ i → s.type_of ≡ t → s.hints ≡ h → s ≡ record { item = i; type_of = t; hints = h }
stored_same s i t h a b c =
    let f : Item → Stored = λ x. record { item = x; type_of = s.type_of; hints = s.hints } in
    let g : Option Ty → Stored = λ x. record { item = i; type_of = x; hints = s.hints } in
    let k : List (List (List ℕ)) → Stored = λ x. record { item = i; type_of = t; hints = x } in
    ap f a ∙ ap g b ∙ ap k c

pub stored_step : {A : Type 0} (ms : List Member) (m : Member) (i : Item) (items items' : List Item) (types types' : List Ty) (t : Option Ty) (hints hints' : List (Vec (List ℕ) A)) (h : Option (Vec (List ℕ) A)) (whole : List Stored)
    → items ≡ i ∷ items' → (t ≡ slice_get types 0) × (types' ≡ drop 1 types) → (h ≡ slice_get hints 0) × (hints' ≡ drop 1 hints)
    → m.stored.item ≡ i → m.stored.type_of ≡ t → m.stored.hints ≡ option_map_or (λ ns. ns.items) h [] ∷ []
    → stored_of ms ++ stored_from items types (names_of hints) ≡ whole → stored_of (ms ++ m ∷ []) ++ stored_from items' types' (names_of hints') ≡ whole
stored_step ms m i items items' types types' t hints hints' h whole front ty hs a b c so_far =
    let s : m.stored ≡ record { item = i; type_of = slice_get types 0; hints = slice_index_or (names_of hints) 0 [] ∷ [] } =
    stored_same m.stored i (slice_get types 0) (slice_index_or (names_of hints) 0 [] ∷ []) a (b ∙ ty.0) (c ∙ ap (λ x. x ∷ []) (first_names hints h hs.0)) in
    let rest : stored_from items' types' (names_of hints') ≡ stored_from items' (drop 1 types) (drop 1 (names_of hints)) =
    ap (λ x. stored_from items' x (names_of hints')) ty.1 ∙ ap (λ x. stored_from items' (drop 1 types) x) (ap names_of hs.1 ∙ names_of-drop hints) in
    let all : stored_from items types (names_of hints) ≡ m.stored ∷ stored_from items' types' (names_of hints') =
    ap (λ x. stored_from x types (names_of hints)) front ∙ sym (ap (λ x. x ∷ stored_from items' types' (names_of hints')) s ∙ ap (λ x. record { item = i; type_of = slice_get types 0; hints = slice_index_or (names_of hints) 0 [] ∷ [] } ∷ x) rest) in
    ap (λ x. x ++ stored_from items' types' (names_of hints')) (map-append (λ x. x.stored) ms (m ∷ []))
    ∙ append_assoc (stored_of ms) (m.stored ∷ []) (stored_from items' types' (names_of hints')) ∙ ap (λ x. stored_of ms ++ x) (sym all) ∙ so_far

pub kept_step : (hash : Hash) (ms : List Member) (m : Member) (n : ℕ) → n ≡ length ms → AreKept hash ms → IsKept hash n m → AreKept hash (ms ++ m ∷ [])
kept_step hash ms m n e kept here = λ k x at. go k x at (pushed_at ms m k (slice_get_within (ms ++ m ∷ []) k x at))
  where
    go : (k : ℕ) (x : Member) → slice_get (ms ++ m ∷ []) k ≡ Some x → ((k < length ms) × (slice_get (ms ++ m ∷ []) k ≡ slice_get ms k)) ⊎ ((k ≡ length ms) × (slice_get (ms ++ m ∷ []) k ≡ Some m)) → IsKept hash k x
    go k x at (inl p) = kept k x (sym p.1 ∙ at)
    go k x at (inr p) =
        let same : m ≡ x = cc in
        let number : n ≡ k = e ∙ sym p.0 in
        let P : Member → Type 0 = λ y. IsKept hash k y in
        let Q : ℕ → Type 0 = λ j. IsKept hash j m in
        subst P same (subst Q number here)

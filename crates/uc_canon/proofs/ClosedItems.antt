-- Items that are closed one by one.
use Rattle.std.proofs.Common.{◌≡◌, ℕ, zero, suc, ◌+◌, ◌<◌, List, [], ◌∷◌, ◌++◌, Some, length, get_or, take, map, refl, sym, ap, ◌∙◌, arith}
use Rattle.std.proofs.lemmas.List.{map_push}
use Rattle.uc_base.specs.declared.reference.Ref.{Ref}
use Rattle.uc_tree.specs.declared.definition.Definition.{Definition}
use Rattle.uc_tree.specs.declared.item.Item.{Item}
use Rattle.uc_tree.specs.declared.item.Item.TheVariants as item
use Rattle.uc_tree.specs.Declarations.{Decl}
use Rattle.uc_tree.specs.Replacing.{by_references, replaced, replaced_definition, replaced_declaration}
use Rattle.uc_tree.proofs.Replaced.{bound}
use Rattle.uc_canon.specs.Members.{Members, terms, kinds, items_of}
use Rattle.uc_canon.proofs.TakenInOrder.{taken_more}

-- the first items of members are closed: they are of one kind
abbrev pub AreClosed : List Ref → Members → ℕ → List Definition → List Decl → Type 0
AreClosed own (terms ds) k es fs = (map Some (map item.Term es) ≡ map (replaced (by_references own)) (take k (map item.Term ds))) × (fs ≡ [])
AreClosed own (kinds ds) k es fs = (map Some (map item.Kind fs) ≡ map (replaced (by_references own)) (take k (map item.Kind ds))) × (es ≡ [])

pub closed_none : (own : List Ref) (m : Members) → AreClosed own m 0 [] []
closed_none own (terms ds) = (refl, refl)
closed_none own (kinds ds) = (refl, refl)

-- an item at a place of members of one kind is of that kind
at_place : {X : Type 0} (wrap : X → Item) (xs : List X) (k : ℕ) (i : Item) → k < length (map wrap xs) → i ≡ get_or (map wrap xs) k i → (x : X) × (i ≡ wrap x)
at_place wrap [] k i lt e = absurd (omega arith)
at_place wrap (x ∷ xs) zero i lt e = (x, e)
at_place wrap (x ∷ xs) (suc k) i lt e = at_place wrap xs k i (omega arith) e

not_kind : (own : List Ref) (d : Definition) (f : Decl) → replaced (by_references own) (item.Term d) ≡ Some (item.Kind f) → ⊥
not_kind own d f e = let b = bound (replaced_definition (by_references own) d) (λ x. Some (item.Term x)) (item.Kind f) e in let q = b.2 in cc

not_term : (own : List Ref) (d : Decl) (e : Definition) → replaced (by_references own) (item.Kind d) ≡ Some (item.Term e) → ⊥
not_term own d e h = let b = bound (replaced_declaration (by_references own) d) (λ x. Some (item.Kind x)) (item.Term e) h in let q = b.2 in cc

pub closed_term : (own : List Ref) (m : Members) (items : List Item) (k : ℕ) (es : List Definition) (fs : List Decl) (i : Item) (e : Definition) → items ≡ items_of m → k < length items → i ≡ get_or items k i
    → replaced (by_references own) i ≡ Some (item.Term e) → AreClosed own m k es fs → AreClosed own m (k + 1) (es ++ e ∷ []) fs
closed_term own (terms ds) items k es fs i e same lt is r c =
    let l : k < length (map item.Term ds) = omega (arith, ap (λ (xs : List Item). length xs) same) in
    let at : i ≡ get_or (map item.Term ds) k i = is ∙ ap (λ (xs : List Item). get_or xs k i) same in
    (ap (map Some) (map_push item.Term es e) ∙ taken_more (replaced (by_references own)) (map item.Term ds) (map item.Term es) k i (item.Term e) l (sym r ∙ ap (replaced (by_references own)) at) c.0, c.1)
closed_term own (kinds ds) items k es fs i e same lt is r c =
    let l : k < length (map item.Kind ds) = omega (arith, ap (λ (xs : List Item). length xs) same) in
    let x = at_place item.Kind ds k i l (is ∙ ap (λ (xs : List Item). get_or xs k i) same) in
    absurd (not_term own x.0 e (sym (ap (replaced (by_references own)) x.1) ∙ r))

pub closed_kind : (own : List Ref) (m : Members) (items : List Item) (k : ℕ) (es : List Definition) (fs : List Decl) (i : Item) (f : Decl) → items ≡ items_of m → k < length items → i ≡ get_or items k i
    → replaced (by_references own) i ≡ Some (item.Kind f) → AreClosed own m k es fs → AreClosed own m (k + 1) es (fs ++ f ∷ [])
closed_kind own (kinds ds) items k es fs i f same lt is r c =
    let l : k < length (map item.Kind ds) = omega (arith, ap (λ (xs : List Item). length xs) same) in
    let at : i ≡ get_or (map item.Kind ds) k i = is ∙ ap (λ (xs : List Item). get_or xs k i) same in
    (ap (map Some) (map_push item.Kind fs f) ∙ taken_more (replaced (by_references own)) (map item.Kind ds) (map item.Kind fs) k i (item.Kind f) l (sym r ∙ ap (replaced (by_references own)) at) c.0, c.1)
closed_kind own (terms ds) items k es fs i f same lt is r c =
    let l : k < length (map item.Term ds) = omega (arith, ap (λ (xs : List Item). length xs) same) in
    let x = at_place item.Term ds k i l (is ∙ ap (λ (xs : List Item). get_or xs k i) same) in
    absurd (not_kind own x.0 f (sym (ap (replaced (by_references own)) x.1) ∙ r))

-- Members in an order: they are all there where own targets are below the count, and their text.
use Rattle.std.proofs.Common.{◌≡◌, ℕ, zero, suc, ◌<◌, List, [], ◌∷◌, ◌++◌, Option, Some, None, IsSome, length, get_or, map, refl, sym, ap, subst, ◌∙◌, inl, inr, arith}
use Rattle.std.specs.List.{All, Contains, slice_get}
use Rattle.std.specs.Option.{option_map, option_map_or, option_and_then}
use Rattle.std.proofs.lemmas.List.{length-map}
use Rattle.std.proofs.lemmas.List.Elements.{All-head, All-tail, Contains-get_or}
use Rattle.std.proofs.lemmas.List.FromFn.{get_or-map-range_with_len, length-map-range_with_len}
use Rattle.std.proofs.lemmas.Option.{slice_get-get_or, slice_get_cases, slice_get-map, get_or_from_slice_get}
use Rattle.uc_base.specs.Graph.{row}
use Rattle.uc_tree.specs.declared.target.Target.{Target}
use Rattle.uc_tree.specs.declared.target.Target.TheVariants.{Stored, Own, OwnCtor}
use Rattle.uc_tree.specs.declared.definition.Definition.{Definition}
use Rattle.uc_tree.specs.declared.item.Item.{Item}
use Rattle.uc_tree.specs.declared.item.Item.TheVariants as item
use Rattle.uc_tree.specs.Declarations.{Decl}
use Rattle.uc_tree.specs.Laws.{HasStanding, IsOwnBelow}
use Rattle.uc_tree.specs.Targets.{targets_of}
use Rattle.uc_tree.specs.Replacing.{by_members, constructor_of, replaced}
use Rattle.uc_tree.proofs.ReplacingLaws.{item_is_replaced}
use Rattle.uc_canon.specs.Spelling.{number_text, definition_text, definitions_text, declaration_text, declarations_text}
use Rattle.uc_canon.specs.Members.{Members, terms, kinds, items_of, count_of, text_of}
use Rattle.uc_canon.specs.Numbering.{members_among, links_of, rows_of, IsClosed, place_in, renumbering, moved, IsReordered}
use Rattle.uc_canon.specs.Starts.{item_text, moved_text, moved_texts, text_in}

-- ---- own targets

-- a fact of the member to which a target leads
abbrev pub OfMember : (ℕ → Type 0) → Target → Type 0
OfMember P (Stored r) = Unit {0}
OfMember P (Own u) = P u
OfMember P (OwnCtor u c) = P u

along : (P : ℕ → Type 0) (x y : Target) → x ≡ y → OfMember P x → OfMember P y
along P x y e h = let Q : Target → Type 0 = λ z. OfMember P z in subst Q e h

-- it holds at each target, where it holds of the members among them
pub of_members : (P : ℕ → Type 0) (xs : List Target) → All P (members_among xs) → (x : Target) → Contains xs x → OfMember P x
of_members P [] h x (k, lt, e) = absurd (omega arith)
of_members P (Stored r ∷ xs) h x (zero, lt, e) = along P (Stored r) x e tt
of_members P (Own u ∷ xs) h x (zero, lt, e) = along P (Own u) x e (All-head P u (members_among xs) h)
of_members P (OwnCtor u c ∷ xs) h x (zero, lt, e) = along P (OwnCtor u c) x e (All-head P u (members_among xs) h)
of_members P (Stored r ∷ xs) h x (suc k, lt, e) = of_members P xs h x (k, omega arith, e)
of_members P (Own u ∷ xs) h x (suc k, lt, e) = of_members P xs (All-tail P u (members_among xs) h) x (k, omega arith, e)
of_members P (OwnCtor u c ∷ xs) h x (suc k, lt, e) = of_members P xs (All-tail P u (members_among xs) h) x (k, omega arith, e)

below_there : (count : ℕ) (x : Target) → OfMember (λ u. u < count) x → IsOwnBelow count x
below_there count (Stored r) h = h
below_there count (Own u) h = h
below_there count (OwnCtor u c) h = h

-- each target is below a count, where the members among them are
pub own_below : (count : ℕ) (xs : List Target) → All (λ u. u < count) (members_among xs) → (x : Target) → Contains xs x → IsOwnBelow count x
own_below count xs h x c = below_there count x (of_members (λ u. u < count) xs h x c)

-- what stands for each member below a count may have constructors
abbrev pub StandBelow : (ms : List Target) (count : ℕ) → Type 0
StandBelow ms count = (u : ℕ) → u < count → (y : Target) × (slice_get ms u ≡ Some y) × ((c : ℕ) → IsSome (constructor_of c y))

standing_below : (ms : List Target) (count : ℕ) → StandBelow ms count → (x : Target) → IsOwnBelow count x → HasStanding (by_members ms) x
standing_below ms count at (Stored r) h = record { in_tree = refl; in_pattern = refl }
standing_below ms count at (Own u) h = let y = at u h in record { in_tree = rw y.1 refl; in_pattern = rw y.1 refl }
standing_below ms count at (OwnCtor u c) h = let y = at u h in record { in_tree = rw y.1 (y.2 c); in_pattern = rw y.1 (y.2 c) }

from_some : {X : Type 0} (o : Option X) → IsSome o → (x : X) × (o ≡ Some x)
from_some None h = absurd cc
from_some (Some x) h = (x, refl)

-- so there is a replaced item
pub replaced_there : (ms : List Target) (count : ℕ) (i : Item) → StandBelow ms count → All (λ u. u < count) (links_of i) → (j : Item) × (replaced (by_members ms) i ≡ Some j)
replaced_there ms count i at h = from_some (replaced (by_members ms) i) (item_is_replaced (by_members ms) i (λ x m. standing_below ms count at x (own_below count (targets_of i) h x m)))

-- ---- members numbered by their places

pub renumbering_at : (order : List ℕ) (count u : ℕ) → u < count → slice_get (renumbering order count) u ≡ Some (Own (place_in order u))
renumbering_at order count u lt =
    let n : length (renumbering order count) ≡ count = length-map-range_with_len (λ u. Own (place_in order u)) 0 count in
    slice_get-get_or (renumbering order count) u (Own 0) (omega (arith, n)) ∙ ap Some (get_or-map-range_with_len (λ u. Own (place_in order u)) 0 count u u (Own 0) lt (omega arith))

pub renumbering_stands : (order : List ℕ) (count : ℕ) → StandBelow (renumbering order count) count
renumbering_stands order count u lt = (Own (place_in order u), renumbering_at order count u lt, λ c. refl)

pub there : {X : Type 0} (xs : List X) (u : ℕ) → u < length xs → (x : X) × (slice_get xs u ≡ Some x)
there xs u lt = elim (slice_get_cases xs u).1 [ inl h ↦ (h.0, h.2) | inr h ↦ absurd (omega (arith, h.0)) ]

-- the links of a member are below the count
pub links_below : (m : Members) (u : ℕ) (i : Item) → IsClosed m → slice_get (items_of m) u ≡ Some i → All (λ v. v < count_of m) (links_of i)
links_below m u i closed e = λ k d lt.
    let n : length (rows_of m) ≡ count_of m = length-map (items_of m) links_of in
    let r : row (rows_of m) u ≡ links_of i = get_or_from_slice_get (rows_of m) u (links_of i) [] (slice_get-map links_of (items_of m) u ∙ ap (option_map links_of) e) in
    let P : List ℕ → Type 0 = λ xs. Contains xs (get_or (links_of i) k d) in
    let c : get_or (links_of i) k d < length (rows_of m) = closed u (get_or (links_of i) k d) (subst P (sym r) (Contains-get_or (links_of i) k d lt)) in
    omega arith

-- a member as it stands in an order
pub moved_there : (order : List ℕ) (m : Members) (u : ℕ) (i : Item) → IsClosed m → slice_get (items_of m) u ≡ Some i → (j : Item) × (moved order m u ≡ Some j)
moved_there order m u i closed e =
    let j = replaced_there (renumbering order (count_of m)) (count_of m) i (renumbering_stands order (count_of m)) (links_below m u i closed e) in
    (j.0, ap (option_and_then (replaced (by_members (renumbering order (count_of m))))) e ∙ j.1)

-- ---- their text

abbrev items_text : List Item → List ℕ
items_text [] = []
items_text (i ∷ is) = item_text i ++ items_text is

definitions_text-items : (ds : List Definition) → definitions_text ds ≡ items_text (map item.Term ds)
definitions_text-items [] = refl
definitions_text-items (d ∷ ds) = ap (λ (xs : List ℕ). definition_text d ++ xs) (definitions_text-items ds)

declarations_text-items : (ds : List Decl) → declarations_text ds ≡ items_text (map item.Kind ds)
declarations_text-items [] = refl
declarations_text-items (d ∷ ds) = ap (λ (xs : List ℕ). declaration_text d ++ xs) (declarations_text-items ds)

items_text-moved : (order : List ℕ) (m : Members) (is : List Item) (us : List ℕ) → length is ≡ length us
    → ((k : ℕ) → k < length us → slice_get is k ≡ moved order m (get_or us k 0)) → items_text is ≡ moved_texts order m us
items_text-moved order m [] [] n h = refl
items_text-moved order m [] (u ∷ us) n h = absurd (omega arith)
items_text-moved order m (i ∷ is) [] n h = absurd (omega arith)
items_text-moved order m (i ∷ is) (u ∷ us) n h =
    let e : item_text i ≡ moved_text order m u = ap (λ (o : Option Item). option_map_or item_text o []) (h 0 (omega arith)) in
    let r : items_text is ≡ moved_texts order m us = items_text-moved order m is us (omega arith) (λ k lt. h (suc k) (omega arith)) in
    ap (λ (xs : List ℕ). xs ++ items_text is) e ∙ ap (λ (xs : List ℕ). moved_text order m u ++ xs) r

-- members that stand in an order have the text of that order
pub text_of-reordered : (order : List ℕ) (m n : Members) → IsReordered order m n → text_of n ≡ text_in order m
text_of-reordered order (terms ds) (terms es) r =
    let k : length es ≡ length order = sym (length-map es item.Term) ∙ r.size in
    let t : definitions_text es ≡ moved_texts order (terms ds) order = definitions_text-items es ∙ items_text-moved order (terms ds) (map item.Term es) order r.size r.items in
    ap (λ c. 84 ∷ (number_text c ++ definitions_text es)) k ∙ ap (λ (xs : List ℕ). 84 ∷ (number_text (length order) ++ xs)) t
text_of-reordered order (kinds ds) (kinds es) r =
    let k : length es ≡ length order = sym (length-map es item.Kind) ∙ r.size in
    let t : declarations_text es ≡ moved_texts order (kinds ds) order = declarations_text-items es ∙ items_text-moved order (kinds ds) (map item.Kind es) order r.size r.items in
    ap (λ c. 68 ∷ (number_text c ++ declarations_text es)) k ∙ ap (λ (xs : List ℕ). 68 ∷ (number_text (length order) ++ xs)) t
text_of-reordered order (terms ds) (kinds es) r = absurd r.kind
text_of-reordered order (kinds ds) (terms es) r = absurd r.kind

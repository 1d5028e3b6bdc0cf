-- Members that were taken and renumbered one by one, in an order.
use Rattle.std.proofs.Common.{◌≡◌, ℕ, suc, ◌+◌, ◌<◌, List, [], ◌∷◌, ◌++◌, Option, Some, None, IsSome, length, get_or, take, map, refl, sym, ap, subst, ◌∙◌, arith}
use Rattle.std.specs.List.{All, slice_get}
use Rattle.std.specs.Option.{option_map, option_map_or, option_and_then}
use Rattle.std.proofs.lemmas.List.{length-map, map_push, map_more}
use Rattle.std.proofs.lemmas.Option.{slice_get-get_or, slice_get-map}
use Rattle.uc_tree.specs.declared.target.Target.{Target}
use Rattle.uc_tree.specs.declared.definition.Definition.{Definition}
use Rattle.uc_tree.specs.declared.item.Item.{Item}
use Rattle.uc_tree.specs.declared.item.Item.TheVariants as item
use Rattle.uc_tree.specs.Declarations.{Decl}
use Rattle.uc_tree.specs.Replacing.{by_members, replaced, replaced_definition, replaced_declaration}
use Rattle.uc_tree.proofs.Replaced.{bound}
use Rattle.uc_canon.specs.Members.{Members, terms, kinds, count_of}
use Rattle.uc_canon.specs.Numbering.{IsClosed, renumbering, IsReordered}
use Rattle.uc_canon.specs.Starts.{definition_at, declaration_at}
use Rattle.uc_canon.proofs.Renumbered.{there, moved_there}

-- what stands for an item of a kind is of that kind
pub definition_from : (ns : List Target) (d e : Definition) → replaced (by_members ns) (item.Term d) ≡ Some (item.Term e) → Some e ≡ replaced_definition (by_members ns) d
definition_from ns d e h = let b = bound (replaced_definition (by_members ns) d) (λ x. Some (item.Term x)) (item.Term e) h in
    let same : b.0 ≡ e = let q = b.2 in cc in ap Some (sym same) ∙ sym b.1

-- one more is taken
pub taken_more : {X Y : Type 0} (f : Y → Option X) (us : List Y) (taken : List X) (k : ℕ) (d : Y) (x : X) → k < length us → Some x ≡ f (get_or us k d)
    → map Some taken ≡ map f (take k us) → map Some (taken ++ x ∷ []) ≡ map f (take (k + 1) us)
taken_more f us taken k d x lt is e =
    map_push Some taken x ∙ ap (λ zs. zs ++ Some x ∷ []) e ∙ ap (λ z. map f (take k us) ++ z ∷ []) is ∙ sym (map_more f us k d lt)

-- what was taken at a place
pub taken_at : {X : Type 0} (f : ℕ → Option X) (us : List ℕ) (taken : List X) (k : ℕ) → map Some taken ≡ map f us → k < length us → slice_get taken k ≡ f (get_or us k 0)
taken_at f us taken k e lt =
    let n : length taken ≡ length us = sym (length-map taken Some) ∙ ap length e ∙ length-map us f in
    let t = there taken k (omega arith) in
    let a : slice_get (map Some taken) k ≡ Some (Some t.0) = slice_get-map Some taken k ∙ ap (option_map Some) t.1 in
    let b : slice_get (map f us) k ≡ Some (f (get_or us k 0)) = slice_get-map f us k ∙ ap (option_map f) (slice_get-get_or us k 0 lt) in
    let c : Some t.0 ≡ f (get_or us k 0) = let q = sym a ∙ ap (λ zs. slice_get zs k) e ∙ b in cc in
    t.1 ∙ c

-- for things of one kind
module _ {X : Type 0} (wrap : X → Item) (ns : List Target) (change : X → Option X) (same : (x : X) → replaced (by_members ns) (wrap x) ≡ option_and_then (λ y. Some (wrap y)) (change x)) where
  wrapped : (o : Option X) (e : X) → option_and_then change o ≡ Some e → option_and_then (replaced (by_members ns)) (option_map wrap o) ≡ Some (wrap e)
  wrapped None e h = absurd cc
  wrapped (Some x) e h = same x ∙ ap (option_and_then (λ y. Some (wrap y))) h

  pub wrapped_at : (xs taken : List X) (us : List ℕ) (k : ℕ) → map Some taken ≡ map (λ u. option_and_then change (slice_get xs u)) us → k < length us
      → slice_get (map wrap taken) k ≡ option_and_then (replaced (by_members ns)) (slice_get (map wrap xs) (get_or us k 0))
  wrapped_at xs taken us k e lt =
      let n : length taken ≡ length us = sym (length-map taken Some) ∙ ap length e ∙ length-map us (λ u. option_and_then change (slice_get xs u)) in
      let t = there taken k (omega arith) in
      let f : option_and_then change (slice_get xs (get_or us k 0)) ≡ Some t.0 = sym (taken_at (λ u. option_and_then change (slice_get xs u)) us taken k e lt) ∙ t.1 in
      slice_get-map wrap taken k ∙ ap (option_map wrap) t.1 ∙ sym (wrapped (slice_get xs (get_or us k 0)) t.0 f)
      ∙ ap (option_and_then (replaced (by_members ns))) (sym (slice_get-map wrap xs (get_or us k 0)))

  -- there is something for each, where there is for what wraps it
  pub change_there : (xs : List X) (u : ℕ) (j : Item) → u < length xs → option_and_then (replaced (by_members ns)) (slice_get (map wrap xs) u) ≡ Some j → IsSome (option_and_then change (slice_get xs u))
  change_there xs u j lt e =
      let t = there xs u lt in
      let f : option_and_then (λ y. Some (wrap y)) (change t.0) ≡ Some j = sym (same t.0) ∙ ap (option_and_then (replaced (by_members ns))) (sym (slice_get-map wrap xs u ∙ ap (option_map wrap) t.1)) ∙ e in
      let b = bound (change t.0) (λ y. Some (wrap y)) j f in
      let g : option_and_then change (slice_get xs u) ≡ Some b.0 = ap (option_and_then change) t.1 ∙ b.1 in
      rw g refl

pub definitions_there : (order : List ℕ) (ds : List Definition) (ns : List Target) → IsClosed (terms ds) → ns ≡ renumbering order (length ds) → (u : ℕ) → u < length ds → IsSome (definition_at ns ds u)
definitions_there order ds ns closed e u lt =
    let n : length (map item.Term ds) ≡ length ds = length-map ds item.Term in
    let t = there ds u lt in
    let m = moved_there order (terms ds) u (item.Term t.0) closed (slice_get-map item.Term ds u ∙ ap (option_map item.Term) t.1) in
    let P : List Target → Type 0 = λ xs. option_and_then (replaced (by_members xs)) (slice_get (map item.Term ds) u) ≡ Some m.0 in
    change_there item.Term ns (replaced_definition (by_members ns)) (λ d. refl) ds u m.0 lt (subst P (ap (renumbering order) n ∙ sym e) m.1)

pub declarations_there : (order : List ℕ) (ds : List Decl) (ns : List Target) → IsClosed (kinds ds) → ns ≡ renumbering order (length ds) → (u : ℕ) → u < length ds → IsSome (declaration_at ns ds u)
declarations_there order ds ns closed e u lt =
    let n : length (map item.Kind ds) ≡ length ds = length-map ds item.Kind in
    let t = there ds u lt in
    let m = moved_there order (kinds ds) u (item.Kind t.0) closed (slice_get-map item.Kind ds u ∙ ap (option_map item.Kind) t.1) in
    let P : List Target → Type 0 = λ xs. option_and_then (replaced (by_members xs)) (slice_get (map item.Kind ds) u) ≡ Some m.0 in
    change_there item.Kind ns (replaced_declaration (by_members ns)) (λ d. refl) ds u m.0 lt (subst P (ap (renumbering order) n ∙ sym e) m.1)

pub definitions_reordered : (order : List ℕ) (ds es : List Definition) (ns : List Target) → ns ≡ renumbering order (count_of (terms ds)) → map Some es ≡ map (definition_at ns ds) order → IsReordered order (terms ds) (terms es)
definitions_reordered order ds es ns e taken = record {
  kind = tt;
  size = length-map es item.Term ∙ sym (length-map es Some) ∙ ap length taken ∙ length-map order (definition_at ns ds);
  items = λ k lt.
      wrapped_at item.Term ns (replaced_definition (by_members ns)) (λ d. refl) ds es order k taken lt
      ∙ ap (λ xs. option_and_then (replaced (by_members xs)) (slice_get (map item.Term ds) (get_or order k 0))) e;
}

pub declarations_reordered : (order : List ℕ) (ds es : List Decl) (ns : List Target) → ns ≡ renumbering order (count_of (kinds ds)) → map Some es ≡ map (declaration_at ns ds) order → IsReordered order (kinds ds) (kinds es)
declarations_reordered order ds es ns e taken = record {
  kind = tt;
  size = length-map es item.Kind ∙ sym (length-map es Some) ∙ ap length taken ∙ length-map order (declaration_at ns ds);
  items = λ k lt.
      wrapped_at item.Kind ns (replaced_declaration (by_members ns)) (λ d. refl) ds es order k taken lt
      ∙ ap (λ xs. option_and_then (replaced (by_members xs)) (slice_get (map item.Kind ds) (get_or order k 0))) e;
}

-- ---- all of them

-- those that there are
abbrev those : {X : Type 0} → (ℕ → Option X) → List ℕ → List X
those f [] = []
those f (u ∷ us) = option_map_or (λ x. x ∷ those f us) (f u) (those f us)

those_more : {X : Type 0} (f : ℕ → Option X) (u : ℕ) (us : List ℕ) (o : Option X) → f u ≡ o → IsSome o → map Some (those f us) ≡ map f us → map Some (those f (u ∷ us)) ≡ map f (u ∷ us)
those_more f u us None e s rest = absurd cc
those_more {X} f u us (Some x) e s rest = rw e (ap (λ (xs : List (Option X)). Some x ∷ xs) rest)

those_all : {X : Type 0} (f : ℕ → Option X) (us : List ℕ) → ((k : ℕ) → k < length us → IsSome (f (get_or us k 0))) → map Some (those f us) ≡ map f us
those_all f [] h = refl
those_all f (u ∷ us) h = those_more f u us (f u) refl (h 0 (omega arith)) (those_all f us (λ k lt. h (suc k) (omega arith)))

-- the members in an order, where own targets and the order are below the count
pub reordered_there : (order : List ℕ) (m : Members) → IsClosed m → All (λ u. u < count_of m) order → (n : Members) × IsReordered order m n
reordered_there order (terms ds) closed below =
    let ns = renumbering order (count_of (terms ds)) in
    let n : length (map item.Term ds) ≡ length ds = length-map ds item.Term in
    let each : (k : ℕ) → k < length order → IsSome (definition_at ns ds (get_or order k 0)) = λ k lt.
    let b : get_or order k 0 < length (map item.Term ds) = below k 0 lt in definitions_there order ds ns closed (ap (renumbering order) n) (get_or order k 0) (omega arith) in
    (terms (those (definition_at ns ds) order), definitions_reordered order ds (those (definition_at ns ds) order) ns refl (those_all (definition_at ns ds) order each))
reordered_there order (kinds ds) closed below =
    let ns = renumbering order (count_of (kinds ds)) in
    let n : length (map item.Kind ds) ≡ length ds = length-map ds item.Kind in
    let each : (k : ℕ) → k < length order → IsSome (declaration_at ns ds (get_or order k 0)) = λ k lt.
    let b : get_or order k 0 < length (map item.Kind ds) = below k 0 lt in declarations_there order ds ns closed (ap (renumbering order) n) (get_or order k 0) (omega arith) in
    (kinds (those (declaration_at ns ds) order), declarations_reordered order ds (those (declaration_at ns ds) order) ns refl (those_all (declaration_at ns ds) order each))

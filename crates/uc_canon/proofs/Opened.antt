-- Members as stored items: they are all there where own targets are below the count.
use Rattle.std.proofs.Common.{◌≡◌, ℕ, zero, suc, ◌+◌, ◌<◌, List, [], ◌∷◌, ◌++◌, Some, IsSome, length, get_or, map, refl, sym, ap, ◌∙◌, arith, add-one}
use Rattle.std.specs.List.{slice_get, range_with_len}
use Rattle.std.proofs.lemmas.List.{map_push}
use Rattle.std.proofs.lemmas.List.FromFn.{get_or-map-range_with_len, length-map-range_with_len}
use Rattle.std.proofs.lemmas.Option.{slice_get-get_or, slice_get_read}
use Rattle.uc_base.specs.declared.hash.Hash.{Hash}
use Rattle.uc_base.specs.declared.reference.Ref.TheVariants.{Def}
use Rattle.uc_tree.specs.declared.target.Target.{Target}
use Rattle.uc_tree.specs.declared.target.Target.TheVariants.{Stored, Own}
use Rattle.uc_tree.specs.declared.item.Item.{Item}
use Rattle.uc_tree.specs.Replacing.{by_members, replaced}
use Rattle.uc_canon.specs.Members.{Members, items_of, count_of}
use Rattle.uc_canon.specs.Numbering.{IsClosed}
use Rattle.uc_canon.specs.Opening.{stored_members}
use Rattle.uc_canon.proofs.Renumbered.{StandBelow, replaced_there, links_below}

stored_at : (hash : Hash) (count u : ℕ) → u < count → slice_get (stored_members hash count) u ≡ Some (Stored (Def hash u))
stored_at hash count u lt =
    let n : length (stored_members hash count) ≡ count = length-map-range_with_len (λ n. Stored (Def hash n)) 0 count in
    slice_get-get_or (stored_members hash count) u (Own 0) (omega (arith, n)) ∙ ap Some (get_or-map-range_with_len (λ n. Stored (Def hash n)) 0 count u u (Own 0) lt (omega arith))

stored_stands : (hash : Hash) (count : ℕ) → StandBelow (stored_members hash count) count
stored_stands hash count u lt = (Stored (Def hash u), stored_at hash count u lt, λ c. refl)

-- a member is there as a stored item
pub opened_there : (hash : Hash) (m : Members) (items : List Item) (ns : List Target) (k : ℕ) (i : Item) → IsClosed m → items ≡ items_of m → ns ≡ stored_members hash (length items)
    → k < length items → i ≡ get_or items k i → IsSome (replaced (by_members ns) i)
opened_there hash m items ns k i closed same numbered lt is =
    let s : slice_get (items_of m) k ≡ Some i = ap (λ (xs : List Item). slice_get xs k) (sym same) ∙ slice_get_read items (length items) k i refl lt is in
    let j = replaced_there (stored_members hash (count_of m)) (count_of m) i (stored_stands hash (count_of m)) (links_below m k i closed s) in
    let n : ns ≡ stored_members hash (count_of m) = numbered ∙ ap (λ (xs : List Item). stored_members hash (length xs)) same in
    rw (n, j.1) refl

range_push : (a n : ℕ) → range_with_len a (suc n) ≡ range_with_len a n ++ (a + n) ∷ []
range_push a zero = ap (λ x. x ∷ []) (omega arith)
range_push a (suc n) =
    let e : (a + 1) + n ≡ a + suc n = omega arith in
    ap (λ (xs : List ℕ). a ∷ xs) (range_push (a + 1) n ∙ ap (λ x. range_with_len (a + 1) n ++ x ∷ []) e)

-- one reference more
pub stored_more : (hash : Hash) (n : ℕ) → stored_members hash n ++ Stored (Def hash n) ∷ [] ≡ stored_members hash (n + 1)
stored_more hash n =
    let f : ℕ → Target = λ k. Stored (Def hash k) in
    sym (map_push f (range_with_len 0 n) n) ∙ ap (λ x. map f (range_with_len 0 n ++ x ∷ [])) (omega arith) ∙ sym (ap (map f) (range_push 0 n)) ∙ ap (λ k. map f (range_with_len 0 k)) (sym (add-one n))

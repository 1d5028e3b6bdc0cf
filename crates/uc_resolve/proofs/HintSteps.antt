-- The names of binders that are added one after the other.
use Rattle.std.proofs.Common.{◌≡◌, ℕ, ◌+◌, ◌<◌, List, [], ◌∷◌, ◌++◌, drop, length, refl, ap, ◌∙◌, Some, None, inl, inr, arith, append_assoc}
use Rattle.std.proofs.lemmas.List.{drop_more}
use Rattle.std.proofs.lemmas.Option.{slice_get_within, get_or_from_slice_get, slice_get_cases}
use Rattle.std.specs.Prelude.{Vec, slice_get}
use Rattle.uc_scratch.specs.declared.written.Written.{Written}
use Rattle.uc_scratch.specs.declared.block.BindingFront.{BindingFront}
use Rattle.uc_scratch.specs.declared.block.BindingFront.TheVariants as front
use Rattle.uc_scratch.specs.Exprs.{Block}
use Rattle.uc_scratch.specs.Files.{Item}
use Rattle.uc_scratch.specs.FileViews.{binding_of}
use Rattle.uc_scratch.specs.TypeLevels.{texts_of}
use Rattle.uc_tree.specs.Hints.{names_of}
use Rattle.uc_meaning.specs.Hints.{definitions_hints}
use Rattle.uc_resolve.specs.HintViews.{bound_hints}

-- one more member
names_pushed : {A : Type 0} (xs : List (Vec (List ℕ) A)) (x : Vec (List ℕ) A) → names_of (xs ++ x ∷ []) ≡ names_of xs ++ x.items ∷ []
names_pushed [] x = refl
names_pushed (y ∷ xs) x = ap (λ l. y.items ∷ l) (names_pushed xs x)

-- the names of one more member, before others
pub member_added : {A : Type 0} (old new : List (Vec (List ℕ) A)) (x : Vec (List ℕ) A) (names : List (List ℕ)) (rest : List (List (List ℕ))) → new ≡ old ++ x ∷ [] → x.items ≡ names
    → names_of new ++ rest ≡ names_of old ++ names ∷ rest
member_added old new x names rest e h =
    ap (λ l. names_of l ++ rest) e ∙ ap (λ l. l ++ rest) (names_pushed old x) ∙ append_assoc (names_of old) (x.items ∷ []) rest ∙ ap (λ l. names_of old ++ l ∷ rest) h

-- a definition before other items
pub definition_hints : (f : BindingFront) (b : Block) (is : List Item) → definitions_hints (binding_of f b ∷ is) ≡ bound_hints f b ∷ definitions_hints is
definition_hints (front.Prefix h ps) b is = refl
definition_hints (front.Infix x w y) b is = refl

-- the next name
pub next_text : (ws : List Written) (i : ℕ) (w : Written) → slice_get ws i ≡ Some w → texts_of (drop i ws) ≡ w.text ∷ texts_of (drop (i + 1) ws)
next_text ws i w h = ap texts_of (drop_more ws i w (slice_get_within ws i w h) ∙ ap (λ v. v ∷ drop (i + 1) ws) (get_or_from_slice_get ws i w w h))

-- a name that isn't there
pub not_there : (ws : List Written) (i : ℕ) → slice_get ws i ≡ None → i < length ws → ⊥
not_there ws i h k = elim (slice_get_cases ws i).1 [ inl x ↦ cc | inr x ↦ omega arith ]

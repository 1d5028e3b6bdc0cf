-- Meanings before one another.
use Rattle.std.proofs.Common.{◌≡◌, ℕ, List, [], ◌∷◌, ◌++◌, append_assoc, append-nil}
use Rattle.uc_base.specs.declared.place.Place.{Place}
use Rattle.uc_tree.specs.Declarations.{Decl}
use Rattle.uc_tree.specs.Terms.{Term}
use Rattle.uc_tree.specs.declared.definition.Definition.{Definition}
use Rattle.uc_meaning.specs.Placed.{Placed}
use Rattle.uc_meaning.specs.Programs.{Meaning, with_kind, with_term, with_watch}
use Rattle.uc_resolve.specs.ItemMeanings.{no_meaning, joined}
use Rattle.uc_resolve.specs.PlaceLists.{with_places}
use Rattle.uc_resolve.specs.declared.places.Listed.TheVariants.{Kinds, Terms, Watches}

pub joined_none : (a : Meaning) → joined a no_meaning ≡ a
joined_none a = simp append-nil

-- one more declared type with its constructors
pub kind_joined : (a m : Meaning) (name : List ℕ) (ctors : List (List ℕ × ℕ × ℕ)) (p : Place) (d : Placed Decl)
    → joined (record { kinds = a.kinds ++ (name, d.0) ∷ []; ctors = a.ctors ++ ctors; terms = a.terms; watches = a.watches; places = with_places a.places Kinds (p ∷ d.1) }) m
    ≡ joined a (with_kind name ctors p d m)
kind_joined a m name ctors p d = simp append_assoc

-- one more definition
pub term_joined : (a m : Meaning) (name : List ℕ) (p : Place) (d : Placed Definition)
    → joined (record { kinds = a.kinds; ctors = a.ctors; terms = a.terms ++ (name, d.0) ∷ []; watches = a.watches; places = with_places a.places Terms (p ∷ d.1) }) m
    ≡ joined a (with_term name p d m)
term_joined a m name p d = simp append_assoc

-- one more watch
pub watch_joined : (a m : Meaning) (p : Place) (t : Placed Term)
    → joined (record { kinds = a.kinds; ctors = a.ctors; terms = a.terms; watches = a.watches ++ t.0 ∷ []; places = with_places a.places Watches (p ∷ t.1) }) m
    ≡ joined a (with_watch p t m)
watch_joined a m p t = simp append_assoc

pub ruleset joins = (kind_joined, term_joined, watch_joined)

-- Each member of a file's meaning has one place more than nodes.
use Rattle.std.proofs.Common.{◌≡◌, ℕ, zero, suc, ◌+◌, ◌<◌, List, [], ◌∷◌, ◌++◌, map, length, get_or, refl, ap, ◌∙◌, subst, Option, Some, None, Result, Ok, arith, length-append}
use Rattle.std.specs.Prelude.{reverse}
use Rattle.uc_base.specs.declared.fault.Fault.{Fault}
use Rattle.uc_base.specs.declared.place.Place.{Place}
use Rattle.uc_base.specs.declared.place.Spot.{Spot}
use Rattle.uc_tree.specs.declared.definition.Definition.{Definition}
use Rattle.uc_tree.specs.declared.item.Item.TheVariants as item
use Rattle.uc_tree.specs.Declarations.{Decl}
use Rattle.uc_tree.specs.Types.{Tys}
use Rattle.uc_tree.specs.Terms.{Term}
use Rattle.uc_tree.specs.Nodes.{Node, term_nodes, fields_nodes, nodes_of}
use Rattle.uc_scratch.specs.declared.written.Written.{Written}
use Rattle.uc_scratch.specs.declared.written.Param.{Param}
use Rattle.uc_scratch.specs.Exprs.{Block}
use Rattle.uc_scratch.specs.Files.{Constructor, Item, using, declaration, signature, prefix, infix_operator, watch}
use Rattle.uc_scratch.specs.ExprGrammar.{head_name}
use Rattle.uc_scratch.specs.TypeLevels.{texts_of}
use Rattle.uc_meaning.specs.Meanings.{Known}
use Rattle.uc_meaning.specs.Placed.{Placed}
use Rattle.uc_meaning.specs.ExprMeanings.{Scope, Signed, signed_by, signature_for, with_using, no_parts}
use Rattle.uc_meaning.specs.Programs.{Meaning, named, ctors_meaning, fields_meaning, definition_of, definition_meaning, with_kind, with_term, with_watch, tag_of, items_meaning, file_meaning, file_scope}
use Rattle.uc_resolve.specs.declared.places.Listed.{Listed}
use Rattle.uc_resolve.specs.declared.places.Listed.TheVariants.{Kinds, Terms, Watches}
use Rattle.uc_resolve.specs.Members.{member_nodes, member_places, IsPlaced, HasNode, HasPlace}
use Rattle.uc_resolve.proofs.Answered.{Answers, answer, fault, then_answers, any_answer}
use Rattle.uc_resolve.proofs.TypePlaces.{type_atoms_placed, AreTypesPlaced, signature_placed}
use Rattle.uc_resolve.proofs.NodePlaces.{IsTermPlaced, no_parts_placed, IsSignedPlaced, signature_for_placed}
use Rattle.uc_resolve.proofs.TermPlaces.{expr_placed, bound_placed}

abbrev AreFieldsPlaced : Placed (List Tys) → Type 0
AreFieldsPlaced x = length x.1 ≡ length (fields_nodes x.0)

abbrev IsDefinitionPlaced : Placed Definition → Type 0
IsDefinitionPlaced x = length x.1 ≡ length (nodes_of (item.Term x.0))

fields_before : (x : Placed Tys) (xs : Placed (List Tys)) → AreTypesPlaced x → AreFieldsPlaced xs → length (x.1 ++ xs.1) ≡ length (fields_nodes (x.0 ∷ xs.0))
fields_before x xs h k = simp length-append (omega (arith, h, k))

fields_placed : (known : Known) (scope : Scope) (cs : List Constructor) → Answers AreFieldsPlaced (fields_meaning known scope cs)
fields_placed known scope [] = answer refl
fields_placed known scope (c ∷ cs) =
    then_answers _ (type_atoms_placed known scope.usings scope.variables c.fields) (λ x h. then_answers _ (fields_placed known scope cs) (λ xs k. answer (fields_before x xs h k)))

definition_placed : (found : Option Signed) (body : Placed Term) → IsSignedPlaced found → IsTermPlaced body → IsDefinitionPlaced (definition_of found body)
unfolding definition_of
definition_placed None body h k = k
definition_placed (Some s) body h k = simp length-append (omega (arith, h, k))

binding_placed : (known : Known) (scope : Scope) (signed : Option Signed) (w : Written) (ps : List Param) (b : Block) → IsSignedPlaced signed
    → Answers IsDefinitionPlaced (definition_meaning known scope signed w ps b)
binding_placed known scope signed w ps b h =
    then_answers _ (bound_placed known scope (signature_for signed w) ps b)
    (λ x k. answer (definition_placed (signature_for signed w) x (signature_for_placed signed w h) k))

one_more : (n : ℕ) (m : ℕ) → n ≡ m → suc n ≡ m + 1
one_more n m h = omega (arith, h)

with_kind_placed : (name : List ℕ) (ctors : List (List ℕ × ℕ × ℕ)) (p : Place) (d : Placed Decl) (m : Meaning) → length d.1 ≡ length (nodes_of (item.Kind d.0)) → IsPlaced m
    → IsPlaced (with_kind name ctors p d m)
with_kind_placed name ctors p d m h k Kinds =
    ap (λ n. n ∷ map length m.places.kinds) (one_more (length d.1) (length (nodes_of (item.Kind d.0))) h) ∙ ap (λ ns. (length (nodes_of (item.Kind d.0)) + 1) ∷ ns) (k Kinds)
with_kind_placed name ctors p d m h k Terms = k Terms
with_kind_placed name ctors p d m h k Watches = k Watches

with_term_placed : (name : List ℕ) (p : Place) (d : Placed Definition) (m : Meaning) → IsDefinitionPlaced d → IsPlaced m → IsPlaced (with_term name p d m)
with_term_placed name p d m h k Kinds = k Kinds
with_term_placed name p d m h k Terms =
    ap (λ n. n ∷ map length m.places.terms) (one_more (length d.1) (length (nodes_of (item.Term d.0))) h) ∙ ap (λ ns. (length (nodes_of (item.Term d.0)) + 1) ∷ ns) (k Terms)
with_term_placed name p d m h k Watches = k Watches

with_watch_placed : (p : Place) (t : Placed Term) (m : Meaning) → IsTermPlaced t → IsPlaced m → IsPlaced (with_watch p t m)
with_watch_placed p t m h k Kinds = k Kinds
with_watch_placed p t m h k Terms = k Terms
with_watch_placed p t m h k Watches =
    ap (λ n. n ∷ map length m.places.watches) (one_more (length t.1) (length (term_nodes t.0)) h) ∙ ap (λ ns. (length (term_nodes t.0) + 1) ∷ ns) (k Watches)

none_placed : IsPlaced (record { kinds = []; ctors = []; terms = []; watches = []; places = record { kinds = []; terms = []; watches = [] } })
none_placed Kinds = refl
none_placed Terms = refl
none_placed Watches = refl

module _ (known : Known) where
  items_placed : (scope : Scope) (signed : Option Signed) (k : ℕ) (is : List Item) → IsSignedPlaced signed → Answers IsPlaced (items_meaning known scope signed k is)
  items_placed scope signed k [] h = answer none_placed
  items_placed scope signed k (using p w ws ∷ is) h = items_placed (with_using w ws scope) None k is tt
  items_placed scope signed k (declaration s w ws cs ∷ is) h =
      then_answers {P = λ _. Unit {0}} _ (any_answer (named w.text)) (λ name _. then_answers {P = λ _. Unit {0}} _ (any_answer (ctors_meaning k w 0 cs))
      (λ ctors _. then_answers _ (fields_placed known (record scope { variables = reverse (texts_of ws) }) cs) (λ fields l. then_answers _ (items_placed scope None (k + 1) is tt)
      (λ rest m. answer (with_kind_placed name ctors w.place (record { tag = tag_of s w; params = length ws; ctors = fields.0 }, fields.1) rest l m)))))
  items_placed scope signed k (signature t u ∷ is) h =
      then_answers _ (signature_placed known scope.usings scope.variables u) (λ ty l. items_placed scope (Some (signed_by scope.variables t u ty)) k is l)
  items_placed scope signed k (prefix t ps b ∷ is) h =
      then_answers {P = λ _. Unit {0}} _ (any_answer (named (head_name t).text)) (λ name _. then_answers _ (binding_placed known scope signed (head_name t) ps b h)
      (λ d l. then_answers _ (items_placed scope None k is tt) (λ rest m. answer (with_term_placed name (head_name t).place d rest l m))))
  items_placed scope signed k (infix_operator x w y b ∷ is) h =
      then_answers {P = λ _. Unit {0}} _ (any_answer (named w.text)) (λ name _. then_answers _ (binding_placed known scope signed w (x ∷ y ∷ []) b h)
      (λ d l. then_answers _ (items_placed scope None k is tt) (λ rest m. answer (with_term_placed name w.place d rest l m))))
  items_placed scope signed k (watch p e ∷ is) h =
      then_answers _ (expr_placed known scope e no_parts [] no_parts_placed tt) (λ t l. then_answers _ (items_placed scope None k is tt) (λ rest m. answer (with_watch_placed p t rest l m)))

answered : (r : Result Meaning Fault) (m : Meaning) → Answers IsPlaced r → r ≡ Ok m → IsPlaced m
answered r m (answer {x} h) e = let same : x ≡ m = cc in subst IsPlaced same h
answered r m fault e = cc

-- the meaning of a file
pub file_placed : (known : Known) (is : List Item) (m : Meaning) → file_meaning known is ≡ Ok m → IsPlaced m
file_placed known is m e = answered (file_meaning known is) m (items_placed known file_scope None 0 is tt) e

placed_at : (ps : List (List Place)) (ns : List (List Node)) (k : ℕ) → map length ps ≡ map (λ nodes. length nodes + 1) ns → k < length ns
    → (k < length ps) × (length (get_or ps k []) ≡ length (get_or ns k []) + 1)
placed_at ps [] k e h = absurd (omega arith)
placed_at [] (n ∷ ns) k e h = cc
placed_at (p ∷ ps) (n ∷ ns) zero e h = (omega arith, cc)
placed_at (p ∷ ps) (n ∷ ns) (suc k) e h =
    let others : map length ps ≡ map (λ nodes. length nodes + 1) ns = cc in
    let inside : k < length ns = omega arith in
    let at = placed_at ps ns k others inside in (omega arith, at.1)

-- each node has a place
pub node_placed : (m : Meaning) (list : Listed) (spot : Spot) → IsPlaced m → HasNode m list spot → HasPlace m.places list spot
node_placed m list spot h k =
    let at = placed_at (member_places m.places list) (member_nodes m list) spot.member (h list) k.0 in (at.0, omega arith)

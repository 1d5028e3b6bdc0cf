-- Each node of a term that is made of parts has as many places as nodes.
use Rattle.std.proofs.Common.{◌≡◌, suc, List, [], ◌∷◌, ◌++◌, length, refl, ap, Option, Some, None, arith, length-append}
use Rattle.uc_base.specs.declared.place.Place.{Place}
use Rattle.uc_tree.specs.Types.{Ty}
use Rattle.uc_tree.specs.Patterns.{Pattern as TreePattern}
use Rattle.uc_tree.specs.Terms as trees
use Rattle.uc_tree.specs.Terms.{Term, Terms, Cases as TreeCases}
use Rattle.uc_tree.specs.Nodes.{term_nodes, terms_nodes, cases_nodes}
use Rattle.uc_scratch.specs.declared.written.Param.{Param}
use Rattle.uc_scratch.specs.declared.written.Written.{Written}
use Rattle.uc_meaning.specs.Placed.{Placed}
use Rattle.uc_meaning.specs.ExprMeanings.{applied_at, and_at, or_at, conditional_at, match_at, cases_at, lambdas_over, term_before, case_before, guarded_before, Operand, Parts, no_parts, or_nothing, applied_if, and_if, or_if, with_atom, infix_of, behind_operator, and_of, behind_and, whole_of, behind_or, Outer, innermost, others, Signed, signature_for, binding_over}
use Rattle.std.specs.Prelude.{Bool, true, false, bytes_eq, if◌then◌else◌}
use Rattle.uc_resolve.proofs.TypePlaces.{IsTypePlaced}
use Rattle.uc_resolve.proofs.PatternPlaces.{IsPatternPlaced}

abbrev pub IsTermPlaced : Placed Term → Type 0
IsTermPlaced x = length x.1 ≡ length (term_nodes x.0)

abbrev pub AreTermsPlaced : Placed Terms → Type 0
AreTermsPlaced x = length x.1 ≡ length (terms_nodes x.0)

abbrev pub AreCasesPlaced : Placed TreeCases → Type 0
AreCasesPlaced x = length x.1 ≡ length (cases_nodes x.0)

-- ---- nodes

applied_placed : (p : Place) (f a : Placed Term) → IsTermPlaced f → IsTermPlaced a → IsTermPlaced (applied_at p f a)
applied_placed p f a h k = simp length-append (omega (arith, h, k))

and_placed : (p : Place) (a b : Placed Term) → IsTermPlaced a → IsTermPlaced b → IsTermPlaced (and_at p a b)
and_placed p a b h k = simp length-append (omega (arith, h, k))

or_placed : (p : Place) (a b : Placed Term) → IsTermPlaced a → IsTermPlaced b → IsTermPlaced (or_at p a b)
or_placed p a b h k = simp length-append (omega (arith, h, k))

pub conditional_placed : (p : Place) (a b c : Placed Term) → IsTermPlaced a → IsTermPlaced b → IsTermPlaced c → IsTermPlaced (conditional_at p a b c)
conditional_placed p a b c h k l = simp length-append (omega (arith, h, k, l))

pub match_placed : (p : Place) (a : Placed Term) (cs : Placed TreeCases) → IsTermPlaced a → AreCasesPlaced cs → IsTermPlaced (match_at p a cs)
match_placed p a cs h k = simp length-append (omega (arith, h, k))

pub cases_placed : (p : Place) (cs : Placed TreeCases) → AreCasesPlaced cs → IsTermPlaced (cases_at p cs)
cases_placed p cs h = simp length-append (omega (arith, h))

pub lambdas_placed : (ps : List Param) (t : Placed Term) → IsTermPlaced t → IsTermPlaced (lambdas_over ps t)
lambdas_placed [] t h = h
lambdas_placed (x ∷ ps) t h = ap suc (lambdas_placed ps t h)

pub annotated_placed : (p : Place) (x : Placed Term) (ty : Placed Ty) → IsTermPlaced x → IsTypePlaced ty → IsTermPlaced (trees.annotated x.0 ty.0, p ∷ x.1 ++ ty.1)
annotated_placed p x ty h k = simp length-append (omega (arith, h, k))

pub term_before_placed : (t : Placed Term) (ts : Placed Terms) → IsTermPlaced t → AreTermsPlaced ts → AreTermsPlaced (term_before t ts)
term_before_placed t ts h k = simp length-append (omega (arith, h, k))

pub case_before_placed : (x : Placed TreePattern) (b : Placed Term) (cs : Placed TreeCases) → IsPatternPlaced x → IsTermPlaced b → AreCasesPlaced cs → AreCasesPlaced (case_before x b cs)
case_before_placed x b cs h k l = simp length-append (omega (arith, h, k, l))

pub guarded_before_placed : (x : Placed TreePattern) (g b : Placed Term) (cs : Placed TreeCases) → IsPatternPlaced x → IsTermPlaced g → IsTermPlaced b → AreCasesPlaced cs
    → AreCasesPlaced (guarded_before x g b cs)
guarded_before_placed x g b cs h k l m = simp length-append (omega (arith, h, k, l, m))

-- ---- the parts of an expression

-- what there is has as many places as nodes
abbrev pub IsPartPlaced : Option Operand → Type 0
IsPartPlaced None = Unit {0}
IsPartPlaced (Some a) = IsTermPlaced a.1

pub record ArePartsPlaced (s : Parts) : Type 0 where
  pub ors : IsPartPlaced s.ors
  pub ands : IsPartPlaced s.ands
  pub half : IsPartPlaced s.half
  pub atoms : IsPartPlaced s.atoms

pub no_parts_placed : ArePartsPlaced no_parts
no_parts_placed = record { ors = tt; ands = tt; half = tt; atoms = tt }

or_nothing_placed : (o : Option Operand) → IsPartPlaced o → IsTermPlaced (or_nothing o).1
unfolding or_nothing
or_nothing_placed None h = refl
or_nothing_placed (Some a) h = h

applied_if_placed : (o : Option Operand) (a : Operand) → IsPartPlaced o → IsTermPlaced a.1 → IsTermPlaced (applied_if o a).1
unfolding applied_if
applied_if_placed None a h k = k
applied_if_placed (Some f) a h k = applied_placed f.0 f.1 a.1 h k

and_if_placed : (o : Option Operand) (b : Operand) → IsPartPlaced o → IsTermPlaced b.1 → IsTermPlaced (and_if o b).1
unfolding and_if
and_if_placed None b h k = k
and_if_placed (Some a) b h k = and_placed a.0 a.1 b.1 h k

or_if_placed : (o : Option Operand) (b : Operand) → IsPartPlaced o → IsTermPlaced b.1 → IsTermPlaced (or_if o b).1
unfolding or_if
or_if_placed None b h k = k
or_if_placed (Some a) b h k = or_placed a.0 a.1 b.1 h k

pub with_atom_placed : (s : Parts) (a : Operand) → ArePartsPlaced s → IsTermPlaced a.1 → ArePartsPlaced (with_atom s a)
unfolding with_atom
with_atom_placed s a h k = record { ors = h.ors; ands = h.ands; half = h.half; atoms = applied_if_placed s.atoms a h.atoms k }

infix_placed : (s : Parts) → ArePartsPlaced s → IsTermPlaced (infix_of s).1
unfolding infix_of
infix_placed s h = applied_if_placed s.half (or_nothing s.atoms) h.half (or_nothing_placed s.atoms h.atoms)

pub behind_operator_placed : (s : Parts) (op : Placed Term) → ArePartsPlaced s → IsTermPlaced op → ArePartsPlaced (behind_operator s op)
unfolding behind_operator
behind_operator_placed s op h k = record { ors = h.ors; ands = h.ands; half = applied_placed (infix_of s).0 op (infix_of s).1 k (infix_placed s h); atoms = tt }

and_of_placed : (s : Parts) → ArePartsPlaced s → IsTermPlaced (and_of s).1
unfolding and_of
and_of_placed s h = and_if_placed s.ands (infix_of s) h.ands (infix_placed s h)

pub behind_and_placed : (s : Parts) → ArePartsPlaced s → ArePartsPlaced (behind_and s)
unfolding behind_and
behind_and_placed s h = record { ors = h.ors; ands = and_of_placed s h; half = tt; atoms = tt }

pub whole_placed : (s : Parts) → ArePartsPlaced s → IsTermPlaced (whole_of s).1
unfolding whole_of
whole_placed s h = or_if_placed s.ors (and_of s) h.ors (and_of_placed s h)

pub behind_or_placed : (s : Parts) → ArePartsPlaced s → ArePartsPlaced (behind_or s)
unfolding behind_or
behind_or_placed s h = record { ors = whole_placed s h; ands = tt; half = tt; atoms = tt }

abbrev pub AreOuterPlaced : Outer → Type 0
AreOuterPlaced [] = Unit {0}
AreOuterPlaced (o ∷ os) = ArePartsPlaced o.1 × AreOuterPlaced os

pub innermost_placed : (os : Outer) → AreOuterPlaced os → ArePartsPlaced (innermost os).1
innermost_placed [] h = no_parts_placed
innermost_placed (o ∷ os) h = h.0

pub others_placed : (os : Outer) → AreOuterPlaced os → AreOuterPlaced (others os)
others_placed [] h = tt
others_placed (o ∷ os) h = h.1

-- ---- bindings

abbrev pub IsSignedPlaced : Option Signed → Type 0
IsSignedPlaced None = Unit {0}
IsSignedPlaced (Some s) = IsTypePlaced s.type_of

same_or_none : (b : Bool) (s : Signed) → IsTypePlaced s.type_of → IsSignedPlaced (if b then Some s else None)
same_or_none true s h = h
same_or_none false s h = tt

pub signature_for_placed : (signed : Option Signed) (w : Written) → IsSignedPlaced signed → IsSignedPlaced (signature_for signed w)
unfolding signature_for
signature_for_placed None w h = tt
signature_for_placed (Some s) w h = same_or_none (bytes_eq s.name w.text) s h

pub binding_placed : (found : Option Signed) (p : Place) (a b : Placed Term) → IsSignedPlaced found → IsTermPlaced a → IsTermPlaced b → IsTermPlaced (binding_over found p a b)
unfolding binding_over
binding_placed None p a b h k l = simp length-append (omega (arith, k, l))
binding_placed (Some s) p a b h k l = simp length-append (omega (arith, h, k, l))

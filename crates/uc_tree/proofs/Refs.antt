-- Equal references are the same, and which references are among targets.
use Rattle.std.proofs.Common.{◌≡◌, ℕ, zero, suc, ◌<◌, List, [], ◌∷◌, length, get_or, Bool, true, false, arith, rules, refl, sym, ap, ◌∙◌}
use Rattle.std.proofs.lemmas.Bool.{eqb-true}
use Rattle.std.specs.List.{Contains}
use Rattle.std.specs.Ordering.{is_eq}
use Rattle.std.specs.Cmp.{IsEquivalence}
use Rattle.std.proofs.lemmas.Cmp.{eq_by_cmp_equiv}
use Rattle.uc_base.specs.declared.reference.Ref.{Ref}
use Rattle.uc_base.specs.declared.reference.Ref.TheVariants.{Def, Ctor, Builtin}
use Rattle.uc_base.specs.contracts.reference.RefPartialEq.TheImpl as eq
use Rattle.uc_base.specs.contracts.reference.RefOrd.TheImpl.Laws as ord
use Rattle.uc_tree.specs.declared.target.Target.{Target}
use Rattle.uc_tree.specs.declared.target.Target.TheVariants.{Stored, Own, OwnCtor}
use Rattle.uc_tree.specs.References.{ref_order, is_same_ref, stored_among}

pub same_refs : (x y : Ref) → (eq.ghosts).eq x y ≡ true → x ≡ y
same_refs (Def h m) (Def k n) e = search rules
same_refs (Ctor h m c) (Ctor k n d) e = search rules
same_refs (Builtin m) (Builtin n) e = ap Builtin (eqb-true m n e)
same_refs _ _ e = absurd cc

stored_from : (s r : Ref) (xs : List Target) (k : ℕ) → k < length (s ∷ stored_among xs) → get_or (s ∷ stored_among xs) k r ≡ r
    → (Contains (stored_among xs) r → Contains xs (Stored r)) → Contains (Stored s ∷ xs) (Stored r)
stored_from s r xs zero h e rest = (zero, omega arith, ap Stored e)
stored_from s r xs (suc k) h e rest = let d = rest (k, omega arith, e) in (suc d.0, omega (arith, d.1), d.2)

pub from_stored_among : (xs : List Target) (r : Ref) → Contains (stored_among xs) r → Contains xs (Stored r)
from_stored_among [] r c = absurd (omega (arith, c.1))
from_stored_among (Stored s ∷ xs) r c = stored_from s r xs c.0 c.1 c.2 (from_stored_among xs r)
from_stored_among (Own k ∷ xs) r c = let d = from_stored_among xs r c in (suc d.0, omega (arith, d.1), d.2)
from_stored_among (OwnCtor k n ∷ xs) r c = let d = from_stored_among xs r c in (suc d.0, omega (arith, d.1), d.2)

stored_to : (x : Target) (r : Ref) (xs : List Target) (k : ℕ) → k < length (x ∷ xs) → get_or (x ∷ xs) k (Stored r) ≡ Stored r
    → (Contains xs (Stored r) → Contains (stored_among xs) r) → Contains (stored_among (x ∷ xs)) r
stored_to (Stored s) r xs zero h e rest = (zero, omega arith, cc)
stored_to (Stored s) r xs (suc k) h e rest = let d = rest (k, omega arith, e) in (suc d.0, omega (arith, d.1), d.2)
stored_to (Own n) r xs zero h e rest = absurd cc
stored_to (Own n) r xs (suc k) h e rest = rest (k, omega arith, e)
stored_to (OwnCtor n m) r xs zero h e rest = absurd cc
stored_to (OwnCtor n m) r xs (suc k) h e rest = rest (k, omega arith, e)

pub to_stored_among : (xs : List Target) (r : Ref) → Contains xs (Stored r) → Contains (stored_among xs) r
to_stored_among [] r c = absurd (omega (arith, c.1))
to_stored_among (x ∷ xs) r c = stored_to x r xs c.0 c.1 c.2 (to_stored_among xs r)

pub apart_refs : (x y : Ref) → (y ≡ x → ⊥) → is_eq (ref_order x y) ≡ false
apart_refs x y h = go (is_eq (ref_order x y)) refl
  where
    go : (b : Bool) → is_eq (ref_order x y) ≡ b → is_eq (ref_order x y) ≡ false
    go false is = is
    go true is = absurd (h (sym (same_refs x y (ord.matches_eq-law x y ∙ is))))

pub same_ref : (x y : Ref) → is_same_ref x y ≡ true → x ≡ y
same_ref x y e = same_refs x y (ord.matches_eq-law x y ∙ e)

pub is_same_ref-equiv : IsEquivalence is_same_ref
is_same_ref-equiv = eq_by_cmp_equiv ord.total-law

-- what is asked of two references that are the same has one answer
pub is_same_ref-ap : {A : Type 0} (f : Ref → A) (x y : Ref) → is_same_ref x y ≡ true → f x ≡ f y
is_same_ref-ap f x y e = ap f (same_ref x y e)

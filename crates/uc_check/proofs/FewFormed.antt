-- Tests: what is known in them is well-formed.
use Rattle.std.proofs.Common.{◌≡◌, ℕ, zero, suc, ◌<◌, ◌≤◌, ◌^◌, ◌==◌, if◌then◌else◌, ◌-◌, min, Bool, true, false, List, [], ◌∷◌, Some, None, map, refl, subst, arith}
use Rattle.std.specs.Prelude.{All, slice_get}
use Rattle.uc_base.specs.declared.reference.Ref.TheVariants.{Def, Ctor, Builtin}
use Rattle.uc_check.specs.Answers.{known_by}
use Rattle.uc_check.specs.FewKnown.{few_arity, few_type, IsClosed, IsClosedSignature}
use Rattle.uc_kinds.specs.PatternTyping.{Known, target_type, if_signed}
use Rattle.uc_patterns.specs.Asking.{IsKnown}
use Rattle.uc_tree.specs.Counts.{node_count, tys_node_count, ty_levels, tys_levels}
use Rattle.uc_tree.specs.declared.definition.Definition.{Definition}
use Rattle.uc_tree.specs.declared.target.Target.{Target}
use Rattle.uc_tree.specs.declared.target.Target.TheVariants.{Stored, Own, OwnCtor}
use Rattle.uc_tree.specs.Types.{Ty, Tys}
use Rattle.uc_tree.specs.Types as types
use Rattle.uc_typing.specs.Components.{with_members}

-- each level has a node
mutual
  pub levels_counted : (t : Ty) → ty_levels t ≤ node_count t
  levels_counted (types.variable i) = omega arith
  levels_counted (types.quantified t) = omega (arith, levels_counted t)
  levels_counted (types.arrow a b) = omega (arith, levels_counted a, levels_counted b)
  levels_counted types.unit = omega arith
  levels_counted (types.tuple ts) = omega (arith, all_levels_counted ts)
  levels_counted (types.applied x ts) = omega (arith, all_levels_counted ts)

  pub all_levels_counted : (ts : Tys) → tys_levels ts ≤ tys_node_count ts
  all_levels_counted types.none = omega arith
  all_levels_counted (types.more t ts) = omega (arith, levels_counted t, all_levels_counted ts)

pub few_levels : (t : Ty) (n : ℕ) → n ≡ min (node_count t) (2 ^ 64 - 1) → n < 1000000 → ty_levels t < 2 ^ 32
few_levels t n is h = omega (arith, levels_counted t, is, h)

-- one of two types that are closed
one_closed : (b : Bool) (s t u : Ty) → IsClosed few_arity s → IsClosed few_arity t → Some (if b then s else t) ≡ Some u → IsClosed few_arity u
one_closed true s t u cs ct is = let e : s ≡ u = cc in subst (IsClosed few_arity) e cs
one_closed false s t u cs ct is = let e : t ≡ u = cc in subst (IsClosed few_arity) e ct

-- a type that is closed, where there is one
some_closed : (b : Bool) (s u : Ty) → IsClosed few_arity s → (if b then Some s else None) ≡ Some u → IsClosed few_arity u
some_closed true s u cs is = let e : s ≡ u = cc in subst (IsClosed few_arity) e cs
some_closed false s u cs is = cc

-- a signature of a member
member_closed : (ds : List Definition) (k : ℕ) (u : Ty) → All (λ (d : Definition). IsClosedSignature few_arity d.signature) ds
    → if_signed (slice_get (map (λ (d : Definition). d.signature) ds) k) ≡ Some u → IsClosed few_arity u
member_closed [] k u all is = cc
member_closed (d ∷ ds) zero u all is = subst (IsClosedSignature few_arity) is (all zero d (omega arith))
member_closed (d ∷ ds) (suc k) u all is = member_closed ds k u (λ j e h. all (suc j) e (omega arith)) is

abbrev few_known : Ty → Ty → Ty → List Definition → Known
few_known p n s ds = with_members (known_by few_arity (few_type p n s)) ds

each_closed : (p n s : Ty) (ds : List Definition) → IsClosed few_arity p → IsClosed few_arity n → IsClosed few_arity s
    → All (λ (d : Definition). IsClosedSignature few_arity d.signature) ds
    → (x : Target) (u : Ty) → target_type (few_known p n s ds) x ≡ Some u → IsClosed few_arity u
each_closed p n s ds cp cn cs all (Stored (Def h k)) u is = cc
each_closed p n s ds cp cn cs all (Stored (Ctor h k c)) u is = one_closed (c == 0) n s u cn cs is
each_closed p n s ds cp cn cs all (Stored (Builtin i)) u is = some_closed (i == 16) p u cp is
each_closed p n s ds cp cn cs all (Own k) u is = member_closed ds k u all is
each_closed p n s ds cp cn cs all (OwnCtor k c) u is = cc

plain : (n : ℕ) → n < 5 → few_arity (Stored (Builtin n)) ≡ Some 0
plain zero h = refl
plain (suc zero) h = refl
plain (suc (suc zero)) h = refl
plain (suc (suc (suc zero))) h = refl
plain (suc (suc (suc (suc zero)))) h = refl
plain (suc (suc (suc (suc (suc n))))) h = absurd (omega arith)

pub few_is_known : (p n s : Ty) (ds : List Definition) → IsClosed few_arity p → IsClosed few_arity n → IsClosed few_arity s
    → All (λ (d : Definition). IsClosedSignature few_arity d.signature) ds → IsKnown (few_known p n s ds)
few_is_known p n s ds cp cn cs all = record {
  formed = record {
    types = λ x u is. (each_closed p n s ds cp cn cs all x u is).0;
    plain = plain;
    list = refl;
  };
  counted = λ x u is. (each_closed p n s ds cp cn cs all x u is).1;
}

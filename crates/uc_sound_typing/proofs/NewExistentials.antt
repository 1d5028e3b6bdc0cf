-- Contexts with new existentials.
use Rattle.std.proofs.Common.{◌≡◌, ℕ, zero, suc, true, false, ◌⊎◌, List, [], ◌∷◌, ◌++◌, map, eqb, sym, ◌∙◌, inl, inr}
use Rattle.std.specs.List.{list_any}
use Rattle.std.proofs.lemmas.Bool.{or_left, or_right, or_cases}
use Rattle.std.proofs.lemmas.List.Folds.{list_any-append}
use Rattle.uc_kinds.specs.WellFormed.{Arity}
use Rattle.uc_context.specs.declared.entry.Entry.TheVariants.{Exists}
use Rattle.uc_context.specs.Opens.{Open, bound, rigid, existential, quantified, arrow, unit, tuple, applied, opens_of}
use Rattle.uc_context.specs.Entries.{ContextEntries, is_variable, is_numbered}
use Rattle.uc_context.specs.Fresh.{AreNew}
use Rattle.uc_context.specs.Variables.{opened_at}
use Rattle.uc_soundness.specs.Extending.{Extends, extends_none, extends_same, extends_new}
use Rattle.uc_soundness.specs.WellFormed.{AreMonoIn, IsTypeIn, AreWellFormed, IsWellFormedContext}
use Rattle.uc_soundness.proofs.Subtypes.{AreTypesIn}
use Rattle.uc_soundness.proofs.Tests.{variable_numbered}
use Rattle.uc_soundness.proofs.Types.{Covered-refl, type_opened}
use Rattle.uc_soundness.proofs.WellFormed.{Numbered, unnumbered, well_formed_append}
use Rattle.uc_typing.specs.Fronts.{behind_front, existentials, arguments_of, result_of, repeated}

module _ (arity : Arity) where
  existentials_formed : (ns : List ℕ) (front whole : ContextEntries) → AreNew ns whole → Numbered front whole → AreWellFormed arity front (map (λ n. Exists n) ns)
  existentials_formed [] front whole new numbered = tt
  existentials_formed (n ∷ ns) front whole new numbered = (
    unnumbered front whole n numbered new.0,
    existentials_formed ns (front ++ Exists n ∷ []) (Exists n ∷ whole) new.1
        (λ m there. pushed m (or_cases (list_any (is_variable m) front) (list_any (is_variable m) (Exists n ∷ [])) (sym (list_any-append (is_variable m) front (Exists n ∷ [])) ∙ there))),
  )
    where
      pushed : (m : ℕ) → (list_any (is_variable m) front ≡ true) ⊎ (list_any (is_variable m) (Exists n ∷ []) ≡ true) → list_any (is_numbered m) (Exists n ∷ whole) ≡ true
      pushed m (inl p) = or_right (eqb n m) (list_any (is_numbered m) whole) (numbered m p)
      pushed m (inr p) = elim (or_cases (eqb n m) false p) [
        | inl q ↦ or_left (eqb n m) (list_any (is_numbered m) whole) q
        | inr q ↦ absurd cc
      ]

  pub with_existentials : (es : ContextEntries) (ns : List ℕ) → AreNew ns es → IsWellFormedContext arity es → IsWellFormedContext arity (es ++ map (λ n. Exists n) ns)
  with_existentials es ns new wf = well_formed_append arity [] es (map (λ n. Exists n) ns) wf (existentials_formed ns es es new (λ m there. variable_numbered m es there))

  -- what stands behind the quantifiers of a type, at existentials
  pub behind_typed : (fs : ContextEntries) (ns : List ℕ) (t : Open) → AreMonoIn arity fs 0 (opens_of (existentials ns)) → IsTypeIn arity fs 0 t → IsTypeIn arity fs 0 (behind_front (existentials ns) t)
  behind_typed fs [] t d h = h
  behind_typed fs (n ∷ ns) (bound i) d h = h
  behind_typed fs (n ∷ ns) (rigid x) d h = h
  behind_typed fs (n ∷ ns) (existential x) d h = h
  behind_typed fs (n ∷ ns) (quantified t) d h = behind_typed fs ns (opened_at 0 (existential n) t) d.1 (type_opened arity fs fs (Covered-refl fs) (existential n) (λ k. d.0) 0 t h)
  behind_typed fs (n ∷ ns) (arrow a b) d h = h
  behind_typed fs (n ∷ ns) unit d h = h
  behind_typed fs (n ∷ ns) (tuple ts) d h = h
  behind_typed fs (n ∷ ns) (applied x ts) d h = h

  -- the arguments of a function, and its result
  pub arguments_typed : (fs : ContextEntries) (t : Open) → IsTypeIn arity fs 0 t → AreTypesIn arity fs (arguments_of t)
  arguments_typed fs (bound i) h = tt
  arguments_typed fs (rigid x) h = tt
  arguments_typed fs (existential x) h = tt
  arguments_typed fs (quantified t) h = tt
  arguments_typed fs (arrow a b) h = (h.0, arguments_typed fs b h.1)
  arguments_typed fs unit h = tt
  arguments_typed fs (tuple ts) h = tt
  arguments_typed fs (applied x ts) h = tt

  pub result_typed : (fs : ContextEntries) (t : Open) → IsTypeIn arity fs 0 t → IsTypeIn arity fs 0 (result_of t)
  result_typed fs (bound i) h = h
  result_typed fs (rigid x) h = h
  result_typed fs (existential x) h = h
  result_typed fs (quantified t) h = h
  result_typed fs (arrow a b) h = result_typed fs b h.1
  result_typed fs unit h = h
  result_typed fs (tuple ts) h = h
  result_typed fs (applied x ts) h = h

  -- a type so many times
  pub repeated_typed : (fs : ContextEntries) (k : ℕ) (t : Open) → IsTypeIn arity fs 0 t → AreTypesIn arity fs (repeated k t)
  repeated_typed fs zero t h = tt
  repeated_typed fs (suc k) t h = (h, repeated_typed fs k t h)

-- they extend what was there
pub extends_behind : (es : ContextEntries) {ds : ContextEntries} → Extends [] ds → Extends es (es ++ ds)
extends_behind [] d = d
extends_behind (e ∷ es) d = extends_same (extends_behind es d)

none_before : (ns : List ℕ) → Extends [] (map (λ n. Exists n) ns)
none_before [] = extends_none
none_before (n ∷ ns) = extends_new (none_before ns)

pub Extends-existentials : (es : ContextEntries) (ns : List ℕ) → Extends es (es ++ map (λ n. Exists n) ns)
Extends-existentials es ns = extends_behind es (none_before ns)

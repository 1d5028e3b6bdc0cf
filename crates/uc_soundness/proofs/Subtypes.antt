-- Subtyping leaves well-formed contexts that extend those before.
use Rattle.std.proofs.Common.{ℕ, [], ◌∷◌, ◌++◌, refl}
use Rattle.uc_kinds.specs.WellFormed.{Arity}
use Rattle.uc_context.specs.declared.entry.Entry.TheVariants.{Rigid, Exists, Mark}
use Rattle.uc_context.specs.Opens.{Open, Opens, none, more}
use Rattle.uc_context.specs.Entries.{ContextEntries}
use Rattle.uc_subtyping.specs.Outcomes.{Outcome, done}
use Rattle.uc_subtyping.specs.Subtyping.{SolvesSubtype, subtype_right, subtype_left, subtype_rigid, subtype_existential, subtype_unit, subtype_arrow, subtype_tuple, subtype_data, subtype_below, subtype_above, subtype_ill, SolvesSubtypes, subtypes_done, subtypes_next, subtypes_refused, subtypes_large}
use Rattle.uc_soundness.specs.WellFormed.{AreMonoIn, IsTypeIn, IsWellFormedContext}
use Rattle.uc_soundness.proofs.Extending.{Extends-refl}
use Rattle.uc_soundness.proofs.Instances.{instance_extends, rigid_formed, marked_formed, rigid_typed, existential_typed}
use Rattle.uc_soundness.proofs.Outcomes.{Extended, extended_on, extended_cut}
use Rattle.uc_soundness.proofs.Types.{Covered, Covered-front, Covered-extends, mono_type, type_covered}
use Rattle.uc_soundness.proofs.WellFormed.{type_under_typed}

-- types of a list are well-formed in a context
abbrev pub AreTypesIn : Arity → ContextEntries → Opens → Type 0
AreTypesIn arity es none = Unit {0}
AreTypesIn arity es (more t ts) = IsTypeIn arity es 0 t × AreTypesIn arity es ts

module _ (arity : Arity) where
  pub types_covered : (es fs : ContextEntries) (ts : Opens) → Covered es fs → AreTypesIn arity es ts → AreTypesIn arity fs ts
  types_covered es fs none c h = tt
  types_covered es fs (more t ts) c h = (type_covered arity es fs c 0 t h.0, types_covered es fs ts c h.1)

  pub mono_types : (es : ContextEntries) (ts : Opens) → AreMonoIn arity es 0 ts → AreTypesIn arity es ts
  mono_types es none h = tt
  mono_types es (more t ts) h = (mono_type arity es 0 t h.0, mono_types es ts h.1)

  -- a type in front of an entry, behind more entries
  pub rigid_behind : (es : ContextEntries) (n : ℕ) (t : Open) → IsTypeIn arity es 0 t → IsTypeIn arity (es ++ Rigid n ∷ []) 0 t
  rigid_behind es n t h = type_covered arity es (es ++ Rigid n ∷ []) (Covered-front es (Rigid n ∷ [])) 0 t h

  pub marked_behind : (es : ContextEntries) (n : ℕ) (t : Open) → IsTypeIn arity es 0 t → IsTypeIn arity (es ++ Mark n ∷ Exists n ∷ []) 0 t
  marked_behind es n t h = type_covered arity es (es ++ Mark n ∷ Exists n ∷ []) (Covered-front es (Mark n ∷ Exists n ∷ [])) 0 t h

  mutual
    pub subtype_extends : {es : ContextEntries} {a b : Open} {o : Outcome} → SolvesSubtype es a b o → IsWellFormedContext arity es → IsTypeIn arity es 0 a → IsTypeIn arity es 0 b → Extended arity es o
    subtype_extends (subtype_right {es = es} {n = n} {a = a} {b = b} {o = o} {p = p} is d cut) wf h k =
        extended_cut arity es (Rigid n) [] o p tt refl cut (subtype_extends d (rigid_formed arity es n wf is) (rigid_behind es n a h) (rigid_typed arity es n b k))
    subtype_extends (subtype_left {es = es} {n = n} {a = a} {b = b} {o = o} {p = p} plain is d cut) wf h k =
        extended_cut arity es (Mark n) (Exists n ∷ []) o p tt refl cut (subtype_extends d (marked_formed arity es n wf is) (existential_typed arity es n a h) (marked_behind es n b k))
    subtype_extends (subtype_rigid {es = es}) wf h k = (wf, Extends-refl es)
    subtype_extends (subtype_existential {es = es}) wf h k = (wf, Extends-refl es)
    subtype_extends (subtype_unit {es = es}) wf h k = (wf, Extends-refl es)
    subtype_extends (subtype_arrow d) wf h k = subtypes_extend d wf (k.0, (h.1, tt)) (h.0, (k.1, tt))
    subtype_extends (subtype_tuple {es = es} {ts = ts} {us = us} same d) wf h k = subtypes_extend d wf (mono_types es ts h) (mono_types es us k)
    subtype_extends (subtype_data {es = es} {ts = ts} {us = us} same d) wf h k = subtypes_extend d wf (mono_types es ts h.1) (mono_types es us k.1)
    subtype_extends (subtype_below plain apart d) wf h k = instance_extends arity d wf k
    subtype_extends (subtype_above plain solid apart d) wf h k = instance_extends arity d wf h
    subtype_extends (subtype_ill plain flat unfit) wf h k = tt

    pub subtypes_extend : {es : ContextEntries} {ts us : Opens} {o : Outcome} → SolvesSubtypes es ts us o → IsWellFormedContext arity es → AreTypesIn arity es ts → AreTypesIn arity es us → Extended arity es o
    subtypes_extend (subtypes_done {es = es}) wf h k = (wf, Extends-refl es)
    subtypes_extend (subtypes_next {es = es} {fs = fs} {t = t} {u = u} {ts = ts} {us = us} {o = o} small d ds) wf h k =
        let e : Extended arity es (done fs) = subtype_extends d wf (type_under_typed arity es 0 t wf h.0) (type_under_typed arity es 0 u wf k.0) in
        extended_on arity es fs o e.1 (subtypes_extend ds e.0 (types_covered es fs ts (Covered-extends e.1) h.1) (types_covered es fs us (Covered-extends e.1) k.1))
    subtypes_extend (subtypes_refused small d) wf h k = tt
    subtypes_extend (subtypes_large large) wf h k = tt

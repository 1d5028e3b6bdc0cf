-- Terms leave well-formed contexts that have what stood before.
use Rattle.std.proofs.Common.{◌≡◌, ℕ, false, eqb, ◌||◌, List, [], ◌∷◌, ◌++◌, map, refl, sym, subst, ◌∙◌, append_assoc, arith}
use Rattle.std.specs.List.{list_any}
use Rattle.std.proofs.lemmas.Bool.{or_parts, or_from}
use Rattle.std.proofs.lemmas.List.Folds.{list_any-append}
use Rattle.uc_kinds.specs.PatternTyping.{Known}
use Rattle.uc_kinds.specs.WellFormed.{Arity}
use Rattle.uc_context.specs.declared.entry.Entry.TheVariants.{Exists, Mark, Binder}
use Rattle.uc_context.specs.Entries.{ContextEntries, is_numbered, is_binder}
use Rattle.uc_context.specs.Fresh.{fresh_numbers, AreNew}
use Rattle.uc_context.specs.Opens.{Open, existential, arrow}
use Rattle.uc_context.specs.Variables.{opened_at}
use Rattle.uc_context.proofs.FreshNumbers.{fresh_numbers-AreNew}
use Rattle.uc_soundness.specs.Extending.{Extends}
use Rattle.uc_soundness.specs.WellFormed.{IsTypeIn, IsWellFormedContext}
use Rattle.uc_soundness.proofs.Extending.{Extends-trans}
use Rattle.uc_soundness.proofs.Instances.{new_declared, all_new}
use Rattle.uc_soundness.proofs.Outcomes.{Extended}
use Rattle.uc_soundness.proofs.Types.{Covered-front, Covered-extends, mono_type, type_covered, type_opened}
use Rattle.uc_soundness.proofs.WellFormed.{well_formed_append}
use Rattle.uc_typing.specs.Fronts.{boolean, list_of}
use Rattle.uc_typing.specs.Stops.{TermOutcome, leaves, stops, TypeOutcome, gives, gives_none, giving}
use Rattle.uc_sound_typing.specs.Formed.{IsFormedKnown}
use Rattle.uc_sound_typing.proofs.Cuts.{ended}
use Rattle.uc_sound_typing.proofs.Growing.{unnumbered_unbound}
use Rattle.uc_sound_typing.proofs.NewExistentials.{with_existentials}

-- a context that is left with a type
abbrev pub TypeExtended : Arity → ContextEntries → TypeOutcome → Type 0
TypeExtended arity es (gives t fs) = IsWellFormedContext arity fs × Extends es fs × IsTypeIn arity fs 0 t
TypeExtended arity es (gives_none stop) = Unit {0}

module _ (arity : Arity) where
  pub type_on : (es fs : ContextEntries) (o : TypeOutcome) → Extends es fs → TypeExtended arity fs o → TypeExtended arity es o
  type_on es fs (gives t gs) d h = (h.0, Extends-trans d h.1, h.2)
  type_on es fs (gives_none stop) d h = tt

  -- a term that is checked gives a type
  pub given_type : (es : ContextEntries) (t : Open) (o : TermOutcome) (p : TypeOutcome) → p ≡ giving t o → IsTypeIn arity es 0 t → Extended arity es (ended o) → TypeExtended arity es p
  given_type es t (leaves fs) p is h e = subst (TypeExtended arity es) (sym is) (e.0, e.1, type_covered arity es fs (Covered-extends e.1) 0 t h)
  given_type es t (stops s) p is h e = subst (TypeExtended arity es) (sym is) tt

  -- contexts with one entry more
  pub bound_formed : (es : ContextEntries) (n : ℕ) (t : Open) → IsWellFormedContext arity es → IsTypeIn arity es 0 t → IsWellFormedContext arity (es ++ Binder n t ∷ [])
  bound_formed es n t wf h = well_formed_append arity [] es (Binder n t ∷ []) wf (h, tt)

  pub bound_behind : (es : ContextEntries) (n : ℕ) (s t : Open) → IsTypeIn arity es 0 t → IsTypeIn arity (es ++ Binder n s ∷ []) 0 t
  bound_behind es n s t h = type_covered arity es (es ++ Binder n s ∷ []) (Covered-front es (Binder n s ∷ [])) 0 t h

  pub marked_behind_all : (es : ContextEntries) (n : ℕ) → IsWellFormedContext arity es → IsWellFormedContext arity (es ++ Mark n ∷ [])
  marked_behind_all es n wf = well_formed_append arity [] es (Mark n ∷ []) wf tt

  pub new_behind : (es : ContextEntries) (ns : List ℕ) (t : Open) → IsTypeIn arity es 0 t → IsTypeIn arity (es ++ map (λ n. Exists n) ns) 0 t
  new_behind es ns t h = type_covered arity es (es ++ map (λ n. Exists n) ns) (Covered-front es (map (λ n. Exists n) ns)) 0 t h

  pub new_typed : (es : ContextEntries) (n : ℕ) → IsTypeIn arity (es ++ Exists n ∷ []) 0 (existential n)
  new_typed es n = new_declared es n []

  pub opened_new : (es : ContextEntries) (n : ℕ) (t : Open) → IsTypeIn arity es 1 t → IsTypeIn arity (es ++ Exists n ∷ []) 0 (opened_at 0 (existential n) t)
  opened_new es n t h = type_opened arity es (es ++ Exists n ∷ []) (Covered-front es (Exists n ∷ [])) (existential n) (λ k. new_declared es n []) 0 t h

  -- the existentials and the binder of a function
  module _ (es : ContextEntries) (argument result n : ℕ) (wf : IsWellFormedContext arity es) (are : argument ∷ result ∷ n ∷ [] ≡ fresh_numbers 3 es) where
    abbrev pub lambda_front : ContextEntries
    lambda_front = es ++ Exists argument ∷ Exists result ∷ []

    all_are_new : AreNew (argument ∷ result ∷ n ∷ []) es
    all_are_new = subst (λ (ns : List ℕ). AreNew ns es) (sym are) (fresh_numbers-AreNew 3 es)

    pub lambda_formed : IsWellFormedContext arity lambda_front
    lambda_formed = with_existentials arity es (argument ∷ result ∷ []) (all_are_new.0, (all_are_new.1.0, tt)) wf

    pub lambda_typed : IsTypeIn arity lambda_front 0 (arrow (existential argument) (existential result))
    lambda_typed = let declared = all_new arity es (argument ∷ result ∷ []) in (declared.0, declared.1.0)

    pub lambda_unbound : list_any (is_binder n) lambda_front ≡ false
    lambda_unbound =
        let p = or_parts (eqb result n) (eqb argument n || list_any (is_numbered n) es) all_are_new.1.1.0 in
        let q = or_parts (eqb argument n) (list_any (is_numbered n) es) p.1 in
        list_any-append (is_binder n) es (Exists argument ∷ Exists result ∷ []) ∙ or_from (list_any (is_binder n) es) false (unnumbered_unbound es n q.1) refl

    pub lambda_whole : lambda_front ++ Binder n (existential argument) ∷ [] ≡ es ++ Exists argument ∷ Exists result ∷ Binder n (existential argument) ∷ []
    lambda_whole = append_assoc es (Exists argument ∷ Exists result ∷ []) (Binder n (existential argument) ∷ [])

pub boolean_typed : (known : Known) → IsFormedKnown known → (es : ContextEntries) → IsTypeIn known.arity es 0 boolean
boolean_typed known formed es = (formed.plain 2 (omega arith), tt)

-- types of a list in which one stands behind another
pub list_parts : (arity : Arity) (es : ContextEntries) (s t : Open) → s ≡ list_of t → IsTypeIn arity es 0 s → IsTypeIn arity es 0 t
list_parts arity es s t is h = let p : IsTypeIn arity es 0 (list_of t) = subst (IsTypeIn arity es 0) is h in mono_type arity es 0 t p.1.0

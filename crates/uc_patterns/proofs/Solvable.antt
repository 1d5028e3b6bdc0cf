-- What well-formed contexts and types have that subtyping asks for.
use Rattle.std.proofs.Common.{◌≡◌, ℕ, suc, true, [], ◌∷◌, ◌++◌, refl}
use Rattle.std.proofs.lemmas.Bool.{and_from}
use Rattle.uc_kinds.specs.WellFormed.{Arity}
use Rattle.uc_context.specs.declared.entry.Entry.TheVariants.{Rigid, Exists, Solved, Mark, Binder}
use Rattle.uc_context.specs.Contexts.{type_under}
use Rattle.uc_context.specs.Entries.{ContextEntries}
use Rattle.uc_context.specs.Opens.{Open, bound, rigid, existential, quantified, arrow, unit, tuple, applied, Opens, none, more}
use Rattle.uc_context.specs.Variables.{is_monotype, are_monotypes, has_variables, has_variables_of}
use Rattle.uc_subtyping.specs.InHand.{SolvesByMonotypes}
use Rattle.uc_soundness.specs.WellFormed.{IsMonoIn, AreMonoIn, IsTypeIn, AreWellFormed, IsWellFormedContext}
use Rattle.uc_soundness.proofs.WellFormed.{type_under_typed}

module _ (arity : Arity) where
  module _ (es : ContextEntries) where
    mutual
      -- no quantifier stands in a monotype
      pub mono_plain : (k : ℕ) (t : Open) → IsMonoIn arity es k t → is_monotype t ≡ true
      mono_plain k (bound i) h = refl
      mono_plain k (rigid x) h = refl
      mono_plain k (existential x) h = refl
      mono_plain k (quantified t) h = absurd h
      mono_plain k (arrow a b) h = and_from (is_monotype a) (is_monotype b) (mono_plain k a h.0) (mono_plain k b h.1)
      mono_plain k unit h = refl
      mono_plain k (tuple ts) h = all_mono_plain k ts h
      mono_plain k (applied x ts) h = all_mono_plain k ts h.1

      all_mono_plain : (k : ℕ) (ts : Opens) → AreMonoIn arity es k ts → are_monotypes ts ≡ true
      all_mono_plain k none h = refl
      all_mono_plain k (more t ts) h = and_from (is_monotype t) (are_monotypes ts) (mono_plain k t h.0) (all_mono_plain k ts h.1)

    mutual
      -- and its variables stand in the context
      mono_known : (k : ℕ) (t : Open) → IsMonoIn arity es k t → has_variables es t ≡ true
      mono_known k (bound i) h = refl
      mono_known k (rigid x) h = h
      mono_known k (existential x) h = h
      mono_known k (quantified t) h = absurd h
      mono_known k (arrow a b) h = and_from (has_variables es a) (has_variables es b) (mono_known k a h.0) (mono_known k b h.1)
      mono_known k unit h = refl
      mono_known k (tuple ts) h = all_mono_known k ts h
      mono_known k (applied x ts) h = all_mono_known k ts h.1

      all_mono_known : (k : ℕ) (ts : Opens) → AreMonoIn arity es k ts → has_variables_of es ts ≡ true
      all_mono_known k none h = refl
      all_mono_known k (more t ts) h = and_from (has_variables es t) (has_variables_of es ts) (mono_known k t h.0) (all_mono_known k ts h.1)

    -- so do those of a type
    pub type_known : (k : ℕ) (t : Open) → IsTypeIn arity es k t → has_variables es t ≡ true
    type_known k (bound i) h = refl
    type_known k (rigid x) h = h
    type_known k (existential x) h = h
    type_known k (quantified t) h = type_known (suc k) t h
    type_known k (arrow a b) h = and_from (has_variables es a) (has_variables es b) (type_known k a h.0) (type_known k b h.1)
    type_known k unit h = refl
    type_known k (tuple ts) h = all_mono_known k ts h
    type_known k (applied x ts) h = all_mono_known k ts h.1

  solutions_plain : (front es : ContextEntries) → AreWellFormed arity front es → SolvesByMonotypes es
  solutions_plain front [] h = tt
  solutions_plain front (Rigid x ∷ es) h = solutions_plain (front ++ Rigid x ∷ []) es h.1
  solutions_plain front (Exists x ∷ es) h = solutions_plain (front ++ Exists x ∷ []) es h.1
  solutions_plain front (Solved x t ∷ es) h = (mono_plain front 0 t h.1, solutions_plain (front ++ Solved x t ∷ []) es h.2)
  solutions_plain front (Mark x ∷ es) h = solutions_plain (front ++ Mark x ∷ []) es h
  solutions_plain front (Binder x t ∷ es) h = solutions_plain (front ++ Binder x t ∷ []) es h.1

  -- a well-formed context solves by monotypes
  pub context_solves : (es : ContextEntries) → IsWellFormedContext arity es → SolvesByMonotypes es
  context_solves es wf = solutions_plain [] es wf

  -- the variables of a well-formed type stand in the context also once the solutions are put in
  pub under_known : (es : ContextEntries) (t : Open) → IsWellFormedContext arity es → IsTypeIn arity es 0 t → has_variables es (type_under es t) ≡ true
  under_known es t wf h = type_known es 0 (type_under es t) (type_under_typed arity es 0 t wf h)

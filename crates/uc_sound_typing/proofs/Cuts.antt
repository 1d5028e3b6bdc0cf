-- Contexts that are cut at a marker behind which a pattern was matched.
use Rattle.std.proofs.Common.{◌≡◌, ℕ, false, [], ◌∷◌, ◌++◌, refl, sym, ap, subst, ◌∙◌, append_assoc}
use Rattle.std.specs.List.{list_any}
use Rattle.std.proofs.lemmas.Bool.{or_from, eq-eqb}
use Rattle.std.proofs.lemmas.List.Folds.{list_any-append}
use Rattle.uc_kinds.specs.WellFormed.{Arity}
use Rattle.uc_context.specs.declared.entry.Entry.{Entry}
use Rattle.uc_context.specs.declared.entry.Entry.TheVariants.{Rigid, Exists, Solved, Mark, Binder}
use Rattle.uc_context.specs.Entries.{ContextEntries, is_same_entry, dropped_from}
use Rattle.uc_subtyping.specs.Outcomes.{Outcome, done, refused, ill, without}
use Rattle.uc_soundness.specs.Extending.{Extends}
use Rattle.uc_soundness.specs.WellFormed.{IsWellFormedContext}
use Rattle.uc_soundness.proofs.Extending.{IsFixed, Cut, cut_at, dropped_at, same_test}
use Rattle.uc_soundness.proofs.Outcomes.{Extended, extended_cut}
use Rattle.uc_soundness.proofs.WellFormed.{well_formed_front}
use Rattle.uc_typing.specs.Stops.{TermOutcome, leaves, stops, left_before}
use Rattle.uc_sound_typing.specs.Growing.{AreNewEntries, Grows}
use Rattle.uc_sound_typing.proofs.Growing.{Grows-extends, Grows-trans}

-- what is left of a context
abbrev pub ended : TermOutcome → Outcome
ended (leaves es) = done es
ended (stops s) = refused ill

pub ended_before : (e : Entry) (o p : TermOutcome) → p ≡ left_before e o → ended p ≡ without e (ended o)
ended_before e (leaves es) p is = ap ended is
ended_before e (stops s) p is = ap ended is

-- no marker is new
unmarked : (n : ℕ) (es ds : ContextEntries) → AreNewEntries es ds → list_any (is_same_entry (Mark n)) ds ≡ false
unmarked n es [] h = refl
unmarked n es (Rigid x ∷ ds) h = absurd h.0
unmarked n es (Exists x ∷ ds) h = unmarked n es ds h.1
unmarked n es (Solved x t ∷ ds) h = unmarked n es ds h.1
unmarked n es (Mark x ∷ ds) h = absurd h.0
unmarked n es (Binder x t ∷ ds) h = unmarked n es ds h.1

-- what stands before the marker
pub record MarkCut (es : ContextEntries) (n : ℕ) (gs : ContextEntries) : Type 0 where
  pub left : ContextEntries
  pub behind : ContextEntries
  pub whole : gs ≡ left ++ Mark n ∷ behind
  pub front : Extends es left
  pub dropped : dropped_from (Mark n) gs ≡ left

pub mark_cut : (es : ContextEntries) (n : ℕ) (gs : ContextEntries) → Grows (es ++ Mark n ∷ []) gs → MarkCut es n gs
mark_cut es n gs g =
    let c : Cut es (Mark n) [] g.front = cut_at es (Mark n) [] tt refl g.extends in
    let whole : gs ≡ c.left ++ Mark n ∷ (c.right ++ g.new) = g.whole ∙ ap (λ (cs : ContextEntries). cs ++ g.new) c.whole ∙ append_assoc c.left (Mark n ∷ c.right) g.new in
    let none : list_any (is_same_entry (Mark n)) (c.right ++ g.new) ≡ false =
    list_any-append (is_same_entry (Mark n)) c.right g.new
    ∙ or_from (list_any (is_same_entry (Mark n)) c.right) (list_any (is_same_entry (Mark n)) g.new) (same_test (is_same_entry (Mark n)) (λ x. refl) (λ x t. refl) c.behind) (unmarked n (es ++ Mark n ∷ []) g.new g.behind) in
    record { left = c.left; behind = c.right ++ g.new; whole = whole; front = c.front; dropped = ap (dropped_from (Mark n)) whole ∙ dropped_at (Mark n) c.left (c.right ++ g.new) (eq-eqb n n refl) none }

module _ (arity : Arity) where
  pub term_cut : (es : ContextEntries) (e : Entry) (ds : ContextEntries) (o p : TermOutcome) → IsFixed e → list_any (is_same_entry e) ds ≡ false → p ≡ left_before e o → Extended arity (es ++ e ∷ ds) (ended o) → Extended arity es (ended p)
  term_cut es e ds o p fixed none is h = extended_cut arity es e ds (ended o) (ended p) fixed none (ended_before e o p is) h

  pub marked_cut : (es : ContextEntries) (n : ℕ) (fs : ContextEntries) (o p : TermOutcome) → Grows (es ++ Mark n ∷ []) fs → p ≡ left_before (Mark n) o → Extended arity fs (ended o) → Extended arity es (ended p)
  marked_cut es n fs (leaves gs) p g is h =
      let c : MarkCut es n gs = mark_cut es n gs (Grows-trans g (Grows-extends h.1)) in
      let wf : IsWellFormedContext arity c.left = well_formed_front arity [] c.left (Mark n ∷ c.behind) (subst (IsWellFormedContext arity) c.whole h.0) in
      subst (λ (q : TermOutcome). Extended arity es (ended q)) (sym is) (subst (IsWellFormedContext arity) (sym c.dropped) wf, subst (Extends es) (sym c.dropped) c.front)
  marked_cut es n fs (stops s) p g is h = subst (λ (q : TermOutcome). Extended arity es (ended q)) (sym is) tt

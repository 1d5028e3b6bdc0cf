-- What terms see in contexts.
use Rattle.std.proofs.Common.{◌≡◌, ℕ, suc, ◌+◌, Bool, true, false, cond, eqb, List, [], ◌∷◌, ◌++◌, Some, None, refl, sym, ap, subst, ◌∙◌, arith, append_assoc}
use Rattle.std.specs.List.{list_any}
use Rattle.std.proofs.lemmas.Bool.{or_left, or_right, eq-eqb}
use Rattle.std.proofs.lemmas.List.Folds.{list_any-append}
use Rattle.uc_tree.specs.Terms.{Term}
use Rattle.uc_kinds.specs.PatternTyping.{Known}
use Rattle.uc_kinds.specs.WellFormed.{Arity}
use Rattle.uc_context.specs.declared.entry.Entry.TheVariants.{Rigid, Exists, Solved, Mark, Binder}
use Rattle.uc_context.specs.Entries.{ContextEntries, is_binder, is_numbered, is_rigid, is_unsolved, declares}
use Rattle.uc_context.specs.Fresh.{fresh_number, AreNew}
use Rattle.uc_context.specs.Opens.{Open, bound, rigid, existential, quantified, arrow, unit, tuple, applied}
use Rattle.uc_context.specs.Solving.{solved_with_arrow}
use Rattle.uc_context.specs.Variables.{opened_at}
use Rattle.uc_context.proofs.FreshNumbers.{fresh_numbers-AreNew}
use Rattle.uc_subtyping.specs.Subtyping.{is_quantified}
use Rattle.uc_soundness.specs.Extending.{Extends}
use Rattle.uc_soundness.specs.WellFormed.{IsWellFormedContext}
use Rattle.uc_soundness.proofs.Instances.{new_declared}
use Rattle.uc_soundness.proofs.Types.{Covered, Covered-front}
use Rattle.uc_soundness.proofs.WellFormed.{Unsolved, where_it_is, solved_whole}
use Rattle.uc_typing.specs.Fronts.{front_count}
use Rattle.uc_typing.specs.Scopes.{Sight, under, with_variables, with_seen}
use Rattle.uc_typing.specs.Stops.{Variables}
use Rattle.uc_sound_typing.specs.Formed.{IsFormed}
use Rattle.uc_sound_typing.specs.Growing.{Grows}
use Rattle.uc_sound_typing.specs.Seeing.{AreBound, one_bound, one_unused, AreRigid, IsSeen}
use Rattle.uc_sound_typing.proofs.Binders.{binder_last, keeps_grown, keeps_rigid, keeps_marked, bound_on}
use Rattle.uc_sound_typing.proofs.Growing.{Grows-extends, Grows-binder, Covered-grows}

rigid_too : (es fs : ContextEntries) (xs : List ℕ) → Covered es fs → AreRigid es xs → AreRigid fs xs
rigid_too es fs [] c h = tt
rigid_too es fs (x ∷ xs) c h = (c.rigid_too x h.0, rigid_too es fs xs c h.1)

pub seen_grown : {es fs : ContextEntries} (sight : Sight) → Grows es fs → IsSeen es sight → IsSeen fs sight
seen_grown {es = es} {fs = fs} sight g seen = record { variables = bound_on seen.variables (keeps_grown g); rigids = rigid_too es fs sight.seen (Covered-grows g) seen.rigids }

pub seen_extends : {es fs : ContextEntries} (sight : Sight) → Extends es fs → IsSeen es sight → IsSeen fs sight
seen_extends sight d seen = seen_grown sight (Grows-extends d) seen

pub seen_unused : (es : ContextEntries) (sight : Sight) → IsSeen es sight → IsSeen es (under None sight)
seen_unused es sight seen = record { variables = one_unused seen.variables; rigids = seen.rigids }

module _ (es : ContextEntries) (sight : Sight) (seen : IsSeen es sight) (n : ℕ) where
  pub seen_under : (t : Open) → list_any (is_binder n) es ≡ false → IsSeen (es ++ Binder n t ∷ []) (under (Some n) sight)
  seen_under t none = record {
    variables = one_bound (binder_last n es t) (bound_on seen.variables (keeps_grown (Grows-binder es n t none)));
    rigids = rigid_too es (es ++ Binder n t ∷ []) sight.seen (Covered-front es (Binder n t ∷ [])) seen.rigids;
  }

  pub seen_behind_rigid : IsSeen (es ++ Rigid n ∷ []) sight
  seen_behind_rigid = record { variables = bound_on seen.variables (keeps_rigid es n); rigids = rigid_too es (es ++ Rigid n ∷ []) sight.seen (Covered-front es (Rigid n ∷ [])) seen.rigids }

  pub seen_with : IsSeen (es ++ Rigid n ∷ []) (with_seen n sight)
  seen_with = record { variables = seen_behind_rigid.variables; rigids = (there, seen_behind_rigid.rigids) }
    where
      there : list_any (is_rigid n) (es ++ Rigid n ∷ []) ≡ true
      there = list_any-append (is_rigid n) es (Rigid n ∷ []) ∙ or_right (list_any (is_rigid n) es) (list_any (is_rigid n) (Rigid n ∷ [])) (or_left (eqb n n) false (eq-eqb n n refl))

  pub seen_marked : IsSeen (es ++ Mark n ∷ []) sight
  seen_marked = record { variables = bound_on seen.variables (keeps_marked es n); rigids = rigid_too es (es ++ Mark n ∷ []) sight.seen (Covered-front es (Mark n ∷ [])) seen.rigids }

-- with the variables of a pattern
pub seen_matched : (es fs : ContextEntries) (vars : Variables) (sight : Sight) → Covered es fs → AreBound fs vars → IsSeen es sight → IsSeen fs (with_variables vars sight)
seen_matched es fs vars sight c all_bound seen = record { variables = all_bound; rigids = rigid_too es fs sight.seen c seen.rigids }

-- quantifiers at the front
pub front_opened : (s : Open) → front_count s ≡ 0 → (k : ℕ) (t : Open) → front_count (opened_at k s t) ≡ front_count t
front_opened s plain k (bound i) = go (eqb i k)
  where
    go : (b : Bool) → front_count (cond b s (bound i)) ≡ 0
    go true = plain
    go false = refl
front_opened s plain k (rigid x) = refl
front_opened s plain k (existential x) = refl
front_opened s plain k (quantified t) = ap suc (front_opened s plain (suc k) t)
front_opened s plain k (arrow a b) = refl
front_opened s plain k unit = refl
front_opened s plain k (tuple ts) = refl
front_opened s plain k (applied x ts) = refl

front_plain : (t : Open) → is_quantified t ≡ false → front_count t ≡ 0
front_plain (bound i) h = refl
front_plain (rigid x) h = refl
front_plain (existential x) h = refl
front_plain (quantified t) h = absurd cc
front_plain (arrow a b) h = refl
front_plain unit h = refl
front_plain (tuple ts) h = refl
front_plain (applied x ts) h = refl

-- a body under the variables of a signature
module _ (known : Known) (m : ℕ) (e : Term) where
  pub formed_under : (n k : ℕ) (t : Open) → IsFormed known m (front_count (quantified t) + k) e → IsFormed known m (front_count (opened_at 0 (rigid n) t) + suc k) e
  formed_under n k t h = let same = front_opened (rigid n) refl 0 t in let moved : suc (front_count t) + k ≡ front_count (opened_at 0 (rigid n) t) + suc k = omega arith in subst (λ (j : ℕ). IsFormed known m j e) moved h

  pub formed_plain : (k : ℕ) (t : Open) → is_quantified t ≡ false → IsFormed known m (front_count t + k) e → IsFormed known m k e
  formed_plain k t plain h = let none = front_plain t plain in let moved : front_count t + k ≡ k = omega arith in subst (λ (j : ℕ). IsFormed known m j e) moved h

  pub formed_unsigned : (k : ℕ) → IsFormed known m (0 + k) e → IsFormed known m k e
  formed_unsigned k h = let none : 0 + k ≡ k = omega arith in subst (λ (j : ℕ). IsFormed known m j e) none h

-- one new existential
pub one_new : (es : ContextEntries) (n : ℕ) → n ≡ fresh_number es → AreNew (n ∷ []) es
one_new es n is = (subst (λ (m : ℕ). list_any (is_numbered m) es ≡ false) (sym is) (fresh_numbers-AreNew 1 es).0, tt)

-- the new existentials of an arrow are declared
module _ (arity : Arity) (es : ContextEntries) (x : ℕ) (wf : IsWellFormedContext arity es) (unsolved : list_any (is_unsolved x) es ≡ true) (argument result : ℕ) where
  abbrev u : Unsolved x es
  u = where_it_is arity x es wf unsolved

  abbrev behind : ContextEntries
  behind = Solved x (arrow (existential argument) (existential result)) ∷ u.right

  whole : solved_with_arrow es x argument result ≡ u.left ++ Exists result ∷ Exists argument ∷ behind
  whole = solved_whole arity x es wf unsolved (result ∷ argument ∷ []) (arrow (existential argument) (existential result))

  pub argument_declared : list_any (declares argument) (solved_with_arrow es x argument result) ≡ true
  argument_declared =
      ap (list_any (declares argument)) (whole ∙ sym (append_assoc u.left (Exists result ∷ []) (Exists argument ∷ behind)))
      ∙ new_declared (u.left ++ Exists result ∷ []) argument behind

  pub result_declared : list_any (declares result) (solved_with_arrow es x argument result) ≡ true
  result_declared = ap (list_any (declares result)) whole ∙ new_declared u.left result (Exists argument ∷ behind)

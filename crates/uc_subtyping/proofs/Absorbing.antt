-- Solutions of a context are among those of one that goes on from it.
use Rattle.std.proofs.Common.{◌≡◌, ℕ, Bool, true, false, cond, eqb, List, [], ◌∷◌, ◌++◌, map, ◌||◌, Some, refl, sym, ap, ◌∙◌}
use Rattle.std.specs.List.{list_any}
use Rattle.std.proofs.lemmas.Bool.{or_left, or_right, eqb-true, eq-eqb, false≢true, false_from_ne_true}
use Rattle.std.proofs.lemmas.List.Folds.{list_any-append}
use Rattle.uc_context.specs.declared.entry.Entry.{Entry}
use Rattle.uc_context.specs.declared.entry.Entry.TheVariants.{Rigid, Exists, Solved, Mark, Binder}
use Rattle.uc_context.specs.Opens.{Open, bound, rigid, existential, quantified, arrow, unit, tuple, applied, Opens, none, more}
use Rattle.uc_context.specs.Contexts.{AreInOrder, IsContext, type_under, types_under, solution_of}
use Rattle.uc_context.specs.Entries.{ContextEntries, is_unsolved, is_variable}
use Rattle.uc_context.specs.Solving.{exchanged, solved, solved_with}
use Rattle.uc_context.specs.Variables.{replaced, replaced_all}
use Rattle.uc_context.proofs.Orders.{later_apart}
use Rattle.uc_context.proofs.Solutions.{solved_somewhere, under_solved}
use Rattle.uc_context.proofs.Under.{under-quantified, under-arrow, under-tuple, under-applied, under-settled}
use Rattle.uc_context.proofs.Unsolved.{unsolved}
use Rattle.uc_subtyping.proofs.Extending.{ExtendsByMonotypes, extends_nothing, extends_same, extends_solved, extends_by_unsolved, extends_by_solved}

-- an existential is solved by a type
pub data Solves (x : ℕ) (t : Open) : ContextEntries → Type 0 where
  solves_here : {es : ContextEntries} → Solves x t (Solved x t ∷ es)
  solves_later : {e : Entry} {es : ContextEntries} → Solves x t es → Solves x t (e ∷ es)

pub extends-solves : (x : ℕ) (t : Open) {es fs : ContextEntries} → ExtendsByMonotypes es fs → Solves x t es → Solves x t fs
extends-solves x t extends_nothing h = elim h [ ]
extends-solves x t (extends_same d) solves_here = solves_here
extends-solves x t (extends_same d) (solves_later h) = solves_later (extends-solves x t d h)
extends-solves x t (extends_solved m d) (solves_later h) = solves_later (extends-solves x t d h)
extends-solves x t (extends_by_unsolved d) h = solves_later (extends-solves x t d h)
extends-solves x t (extends_by_solved m d) h = solves_later (extends-solves x t d h)

solves-variable : (x : ℕ) (t : Open) (es : ContextEntries) → Solves x t es → list_any (is_variable x) es ≡ true
solves-variable x t es (solves_here {es = ds}) = or_left (eqb x x) (list_any (is_variable x) ds) (eq-eqb x x refl)
solves-variable x t es (solves_later {e = e} {es = ds} h) = or_right (is_variable x e) (list_any (is_variable x) ds) (solves-variable x t ds h)

solves-solution_behind : (x : ℕ) (t : Open) (front es : ContextEntries) → AreInOrder front es → Solves x t es → solution_of es x ≡ Some t
solves-solution_behind x t front es order (solves_here {es = ds}) = rw (eq-eqb x x refl) refl
solves-solution_behind x t front es order (solves_later {e = Rigid y} {es = ds} h) = solves-solution_behind x t (front ++ Rigid y ∷ []) ds order.1 h
solves-solution_behind x t front es order (solves_later {e = Exists y} {es = ds} h) = solves-solution_behind x t (front ++ Exists y ∷ []) ds order.1 h
solves-solution_behind x t front es order (solves_later {e = Solved y s} {es = ds} h) =
    let apart : eqb y x ≡ false = false_from_ne_true (eqb y x) (λ same. absurd (false≢true (sym (other same) ∙ solves-variable x t ds h))) in
    rw apart (solves-solution_behind x t (front ++ Solved y s ∷ []) ds order.1 h)
  where
    other : eqb y x ≡ true → list_any (is_variable x) ds ≡ false
    other same =
        later_apart x (front ++ Solved y s ∷ []) ds order.1
        (list_any-append (is_variable x) front (Solved y s ∷ []) ∙ or_right (list_any (is_variable x) front) (list_any (is_variable x) (Solved y s ∷ [])) (or_left (eqb y x) false same))
solves-solution_behind x t front es order (solves_later {e = Mark y} {es = ds} h) = solves-solution_behind x t (front ++ Mark y ∷ []) ds order.1 h
solves-solution_behind x t front es order (solves_later {e = Binder y s} {es = ds} h) = solves-solution_behind x t (front ++ Binder y s ∷ []) ds order.1 h

-- a solved existential is the same as its solution with the solutions put in
pub solves-under : (x : ℕ) (t : Open) (es : ContextEntries) → IsContext es → Solves x t es → type_under es (existential x) ≡ type_under es t
solves-under x t es order h =
    let p = solved_somewhere x t es order (solves-solution_behind x t [] es order h) in under_solved x t es _ _ p.3

-- a solution put in beforehand
module _ (gs : ContextEntries) (x : ℕ) (s : Open) (same : type_under gs (existential x) ≡ type_under gs s) where
  mutual
    under-replaced : (t : Open) → type_under gs (replaced x s t) ≡ type_under gs t
    under-replaced (bound i) = refl
    under-replaced (rigid y) = refl
    under-replaced (existential y) = go (eqb y x) refl
      where
        go : (b : Bool) → eqb y x ≡ b → type_under gs (cond b s (existential y)) ≡ type_under gs (existential y)
        go true is = sym same ∙ ap (λ (z : ℕ). type_under gs (existential z)) (sym (eqb-true y x is))
        go false is = refl
    under-replaced (quantified t) = under-quantified gs (replaced x s t) ∙ ap quantified (under-replaced t) ∙ sym (under-quantified gs t)
    under-replaced (arrow a b) =
        under-arrow gs (replaced x s a) (replaced x s b) ∙ ap (λ (c : Open). arrow c (type_under gs (replaced x s b))) (under-replaced a)
        ∙ ap (arrow (type_under gs a)) (under-replaced b) ∙ sym (under-arrow gs a b)
    under-replaced unit = refl
    under-replaced (tuple ts) = under-tuple gs (replaced_all x s ts) ∙ ap tuple (under-replaced_all ts) ∙ sym (under-tuple gs ts)
    under-replaced (applied h ts) = under-applied gs h (replaced_all x s ts) ∙ ap (applied h) (under-replaced_all ts) ∙ sym (under-applied gs h ts)

    under-replaced_all : (ts : Opens) → types_under gs (replaced_all x s ts) ≡ types_under gs ts
    under-replaced_all none = refl
    under-replaced_all (more t ts) = ap (λ (u : Open). more u (types_under gs (replaced_all x s ts))) (under-replaced t) ∙ ap (more (type_under gs t)) (under-replaced_all ts)

absorbed : (gs : ContextEntries) → IsContext gs → (es : ContextEntries) → ((x : ℕ) (s : Open) → Solves x s es → Solves x s gs) → (t : Open) → type_under gs (type_under es t) ≡ type_under gs t
absorbed gs order [] has t = refl
absorbed gs order (Rigid y ∷ es) has t = absorbed gs order es (λ x s h. has x s (solves_later h)) t
absorbed gs order (Exists y ∷ es) has t = absorbed gs order es (λ x s h. has x s (solves_later h)) t
absorbed gs order (Solved y r ∷ es) has t =
    under-replaced gs y r (solves-under y r gs order (has y r solves_here)) (type_under es t) ∙ absorbed gs order es (λ x s h. has x s (solves_later h)) t
absorbed gs order (Mark y ∷ es) has t = absorbed gs order es (λ x s h. has x s (solves_later h)) t
absorbed gs order (Binder y r ∷ es) has t = absorbed gs order es (λ x s h. has x s (solves_later h)) t

-- solutions of an earlier context may be put in beforehand
pub absorb : (es fs : ContextEntries) → ExtendsByMonotypes es fs → IsContext fs → (t : Open) → type_under fs (type_under es t) ≡ type_under fs t
absorb es fs d order t = absorbed fs order es (λ x s h. extends-solves x s d h) t

-- solutions that are put in stay
pub under-again : (es : ContextEntries) → IsContext es → (t : Open) → type_under es (type_under es t) ≡ type_under es t
under-again es order t = under-settled es (type_under es t) (unsolved es t order)

-- an existential that is solved in place of the unsolved one
exchanged-solves : (x : ℕ) (t : Open) (new : ContextEntries) → ((es : ContextEntries) → Solves x t (new ++ es)) → (es : ContextEntries) → list_any (is_unsolved x) es ≡ true → Solves x t (exchanged x new es)
exchanged-solves x t new has [] u = absurd cc
exchanged-solves x t new has (e ∷ es) u = go (is_unsolved x e) u (exchanged-solves x t new has es)
  where
    go : (b : Bool) → (b || list_any (is_unsolved x) es) ≡ true → (list_any (is_unsolved x) es ≡ true → Solves x t (exchanged x new es)) → Solves x t (cond b (new ++ es) (e ∷ exchanged x new es))
    go true v rest = has es
    go false v rest = solves_later (rest v)

solves_behind_new : (x : ℕ) (t : Open) (ns : List ℕ) (es : ContextEntries) → Solves x t ((map (λ n. Exists n) ns ++ Solved x t ∷ []) ++ es)
solves_behind_new x t [] es = solves_here
solves_behind_new x t (n ∷ ns) es = solves_later (solves_behind_new x t ns es)

pub solves-solved : (es : ContextEntries) (x : ℕ) (t : Open) → list_any (is_unsolved x) es ≡ true → Solves x t (solved es x t)
solves-solved es x t u = exchanged-solves x t (Solved x t ∷ []) (λ ds. solves_here) es u

pub solves-solved_with : (es : ContextEntries) (x : ℕ) (ns : List ℕ) (t : Open) → list_any (is_unsolved x) es ≡ true → Solves x t (solved_with es x ns t)
solves-solved_with es x ns t u = exchanged-solves x t (map (λ n. Exists n) ns ++ Solved x t ∷ []) (solves_behind_new x t ns) es u

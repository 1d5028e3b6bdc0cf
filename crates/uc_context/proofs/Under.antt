-- Types under contexts.
use Rattle.std.proofs.Common.{◌≡◌, ℕ, Bool, true, false, cond, eqb, [], ◌∷◌, ◌++◌, Option, Some, None, refl, sym, ap, ◌∙◌}
use Rattle.std.proofs.lemmas.Bool.{eqb-false, eq-eqb, ne_eqb, false_from_ne_true}
use Rattle.uc_tree.specs.declared.target.Target.{Target}
use Rattle.uc_context.specs.declared.entry.Entry.{Entry}
use Rattle.uc_context.specs.declared.entry.Entry.TheVariants.{Rigid, Exists, Solved, Mark, Binder}
use Rattle.uc_context.specs.Opens.{Open, bound, rigid, existential, quantified, arrow, unit, tuple, applied, Opens, none, more}
use Rattle.uc_context.specs.Contexts.{put_in, type_under, types_under, solution_of}
use Rattle.uc_context.specs.Entries.{ContextEntries}
use Rattle.uc_context.specs.Variables.{replaced, replaced_all, mentions}
use Rattle.uc_context.proofs.Replacing.{replaced-unmentioned}

-- solutions are put into the parts of a type
put-bound : (e : Entry) (i : ℕ) → put_in e (bound i) ≡ bound i
put-bound (Solved x s) i = refl
put-bound _ i = refl

put-rigid : (e : Entry) (y : ℕ) → put_in e (rigid y) ≡ rigid y
put-rigid (Solved x s) y = refl
put-rigid _ y = refl

put-quantified : (e : Entry) (t : Open) → put_in e (quantified t) ≡ quantified (put_in e t)
put-quantified (Solved x s) t = refl
put-quantified _ t = refl

put-arrow : (e : Entry) (a b : Open) → put_in e (arrow a b) ≡ arrow (put_in e a) (put_in e b)
put-arrow (Solved x s) a b = refl
put-arrow _ a b = refl

put-unit : (e : Entry) → put_in e unit ≡ unit
put-unit (Solved x s) = refl
put-unit _ = refl

-- the solution of an entry put into each type of a list
put_all : Entry → Opens → Opens
put_all (Solved x s) ts = replaced_all x s ts
put_all _ ts = ts

put-tuple : (e : Entry) (ts : Opens) → put_in e (tuple ts) ≡ tuple (put_all e ts)
unfolding put_all
put-tuple (Solved x s) ts = refl
put-tuple _ ts = refl

put-applied : (e : Entry) (h : Target) (ts : Opens) → put_in e (applied h ts) ≡ applied h (put_all e ts)
unfolding put_all
put-applied (Solved x s) h ts = refl
put-applied _ h ts = refl

put_all-none : (e : Entry) → put_all e none ≡ none
unfolding put_all
put_all-none (Solved x s) = refl
put_all-none _ = refl

put_all-more : (e : Entry) (t : Open) (ts : Opens) → put_all e (more t ts) ≡ more (put_in e t) (put_all e ts)
unfolding put_all
put_all-more (Solved x s) t ts = refl
put_all-more _ t ts = refl

pub under-bound : (es : ContextEntries) (i : ℕ) → type_under es (bound i) ≡ bound i
under-bound [] i = refl
under-bound (e ∷ es) i = ap (put_in e) (under-bound es i) ∙ put-bound e i

pub under-rigid : (es : ContextEntries) (y : ℕ) → type_under es (rigid y) ≡ rigid y
under-rigid [] y = refl
under-rigid (e ∷ es) y = ap (put_in e) (under-rigid es y) ∙ put-rigid e y

pub under-quantified : (es : ContextEntries) (t : Open) → type_under es (quantified t) ≡ quantified (type_under es t)
under-quantified [] t = refl
under-quantified (e ∷ es) t = ap (put_in e) (under-quantified es t) ∙ put-quantified e (type_under es t)

pub under-arrow : (es : ContextEntries) (a b : Open) → type_under es (arrow a b) ≡ arrow (type_under es a) (type_under es b)
under-arrow [] a b = refl
under-arrow (e ∷ es) a b = ap (put_in e) (under-arrow es a b) ∙ put-arrow e (type_under es a) (type_under es b)

pub under-unit : (es : ContextEntries) → type_under es unit ≡ unit
under-unit [] = refl
under-unit (e ∷ es) = ap (put_in e) (under-unit es) ∙ put-unit e

under_no_entries : (ts : Opens) → types_under [] ts ≡ ts
under_no_entries none = refl
under_no_entries (more t ts) = ap (more t) (under_no_entries ts)

put_all-under : (e : Entry) (es : ContextEntries) (ts : Opens) → put_all e (types_under es ts) ≡ types_under (e ∷ es) ts
put_all-under e es none = put_all-none e
put_all-under e es (more t ts) = put_all-more e (type_under es t) (types_under es ts) ∙ ap (more (put_in e (type_under es t))) (put_all-under e es ts)

pub under-tuple : (es : ContextEntries) (ts : Opens) → type_under es (tuple ts) ≡ tuple (types_under es ts)
under-tuple [] ts = ap tuple (sym (under_no_entries ts))
under-tuple (e ∷ es) ts = ap (put_in e) (under-tuple es ts) ∙ put-tuple e (types_under es ts) ∙ ap tuple (put_all-under e es ts)

pub under-applied : (es : ContextEntries) (h : Target) (ts : Opens) → type_under es (applied h ts) ≡ applied h (types_under es ts)
under-applied [] h ts = ap (applied h) (sym (under_no_entries ts))
under-applied (e ∷ es) h ts = ap (put_in e) (under-applied es h ts) ∙ put-applied e h (types_under es ts) ∙ ap (applied h) (put_all-under e es ts)

-- the later entries first
pub under-append : (es ds : ContextEntries) (t : Open) → type_under (es ++ ds) t ≡ type_under es (type_under ds t)
under-append [] ds t = refl
under-append (e ∷ es) ds t = ap (put_in e) (under-append es ds t)

-- an existential that isn't solved stays
pub under-unsolved : (es : ContextEntries) (x : ℕ) → solution_of es x ≡ None → type_under es (existential x) ≡ existential x
under-unsolved [] x unsolved = refl
under-unsolved (Rigid y ∷ es) x unsolved = under-unsolved es x unsolved
under-unsolved (Exists y ∷ es) x unsolved = under-unsolved es x unsolved
under-unsolved (Solved y s ∷ es) x unsolved = go (eqb y x) refl unsolved (under-unsolved es x)
  where
    go : (b : Bool) → eqb y x ≡ b → cond b (Some s) (solution_of es x) ≡ None → (solution_of es x ≡ None → type_under es (existential x) ≡ existential x) → replaced y s (type_under es (existential x)) ≡ existential x
    go true is n rest = absurd cc
    go false is n rest = ap (replaced y s) (rest n) ∙ rw (ne_eqb x y (λ same. eqb-false y x is (sym same))) refl
under-unsolved (Mark y ∷ es) x unsolved = under-unsolved es x unsolved
under-unsolved (Binder y s ∷ es) x unsolved = under-unsolved es x unsolved

-- a type that mentions no solved existential stays
pub under-settled : (es : ContextEntries) (t : Open) → ((y : ℕ) → mentions y t ≡ true → solution_of es y ≡ None) → type_under es t ≡ t
under-settled [] t unsolved = refl
under-settled (Rigid y ∷ es) t unsolved = under-settled es t unsolved
under-settled (Exists y ∷ es) t unsolved = under-settled es t unsolved
under-settled (Solved x s ∷ es) t unsolved =
    ap (replaced x s) (under-settled es t (λ y m. earlier y (eqb x y) refl (unsolved y m))) ∙ replaced-unmentioned x s t (false_from_ne_true (mentions x t) (λ m. absurd (here (unsolved x m))))
  where
    earlier : (y : ℕ) (b : Bool) → eqb x y ≡ b → cond b (Some s) (solution_of es y) ≡ None → solution_of es y ≡ None
    earlier y true is n = absurd cc
    earlier y false is n = n

    here : cond (eqb x x) (Some s) (solution_of es x) ≡ None → ⊥
    here n = let m : ◌≡◌ {A = Option Open} (Some s) None = sym (rw (eq-eqb x x refl) refl) ∙ n in cc
under-settled (Mark y ∷ es) t unsolved = under-settled es t unsolved
under-settled (Binder y s ∷ es) t unsolved = under-settled es t unsolved

-- What existentials may stand for.
use Rattle.std.specs.Prelude.{◌≡◌, ℕ, zero, suc, ◌+◌, List, [], ◌∷◌, map}
use Rattle.uc_kinds.specs.WellFormed.{Arity}
use Rattle.uc_kinds.specs.Polytypes.{Poly, Polys}
use Rattle.uc_kinds.specs.Polytypes as poly
use Rattle.uc_kinds.specs.Subtyping.{IsMono}
use Rattle.uc_context.specs.declared.entry.Entry.TheVariants.{Rigid, Exists, Solved, Mark, Binder}
use Rattle.uc_context.specs.Opens.{Open, bound, rigid, existential, quantified, arrow, unit, tuple, applied, Opens, none, more}
use Rattle.uc_context.specs.Entries.{ContextEntries}

-- For each existential a type without existentials. The rigid variables below a number are outer ones, which are in scope before those of a context.
pub record Valuation (outer : ℕ) : Type 0 where
  pub stands_for : ℕ → Poly

-- rigid variables of a context are numbered behind the outer ones
abbrev pub renumbered : ℕ → List ℕ → List ℕ
renumbered outer xs = map (λ x. outer + x) xs

-- the numbers below one, the greatest first
abbrev pub all_below : ℕ → List ℕ
all_below zero = []
all_below (suc n) = n ∷ all_below n

abbrev mutual
  -- a type with what its existentials stand for
  pub value : {outer : ℕ} → Valuation outer → Open → Poly
  value σ (bound i) = poly.bound i
  value {outer} σ (rigid x) = poly.rigid (outer + x)
  value σ (existential x) = σ.stands_for x
  value σ (quantified t) = poly.quantified (value σ t)
  value σ (arrow a b) = poly.arrow (value σ a) (value σ b)
  value σ unit = poly.unit
  value σ (tuple ts) = poly.tuple (values σ ts)
  value σ (applied h ts) = poly.applied h (values σ ts)

  pub values : {outer : ℕ} → Valuation outer → Opens → Polys
  values σ none = poly.none
  values σ (more t ts) = poly.more (value σ t) (values σ ts)

-- the rigid variables of a context behind others, the newest first
abbrev pub rigids : ℕ → List ℕ → ContextEntries → List ℕ
rigids outer xs [] = xs
rigids outer xs (Rigid x ∷ es) = rigids outer ((outer + x) ∷ xs) es
rigids outer xs (Exists x ∷ es) = rigids outer xs es
rigids outer xs (Solved x t ∷ es) = rigids outer xs es
rigids outer xs (Mark x ∷ es) = rigids outer xs es
rigids outer xs (Binder x t ∷ es) = rigids outer xs es

-- the rigid variables in scope in a context: its own, and behind them the outer ones
abbrev pub scope_of : ℕ → ContextEntries → List ℕ
scope_of outer es = rigids outer (all_below outer) es

-- each existential of entries stands for a monotype over the rigid variables before it, and a solved one for its solution
abbrev pub Values : {outer : ℕ} → Arity → Valuation outer → List ℕ → ContextEntries → Type 0
Values arity σ xs [] = Unit {0}
Values {outer} arity σ xs (Rigid x ∷ es) = Values arity σ ((outer + x) ∷ xs) es
Values arity σ xs (Exists x ∷ es) = IsMono arity xs (σ.stands_for x) × Values arity σ xs es
Values arity σ xs (Solved x t ∷ es) = IsMono arity xs (σ.stands_for x) × (σ.stands_for x ≡ value σ t) × Values arity σ xs es
Values arity σ xs (Mark x ∷ es) = Values arity σ xs es
Values arity σ xs (Binder x t ∷ es) = Values arity σ xs es

-- a valuation fits a context
abbrev pub Fits : {outer : ℕ} → Arity → Valuation outer → ContextEntries → Type 0
Fits {outer} arity σ es = Values arity σ (all_below outer) es

-- Types with existentials quantified at the front.
use Rattle.std.specs.Prelude.{ℕ, suc, ◌+◌, ◌==◌, if◌then◌else◌, List, [], ◌∷◌, length}
use Rattle.uc_context.specs.Opens.{Open, bound, rigid, existential, quantified, arrow, unit, tuple, applied, Opens, none, more}

-- an existential under so many quantifiers, in front of which stands one for each given existential: the variable of the first that is for it
abbrev pub bound_by : List ℕ → ℕ → ℕ → Open
bound_by [] k x = existential x
bound_by (y ∷ ys) k x = if y == x then bound (length ys + k) else bound_by ys k x

abbrev mutual
  -- a type under so many quantifiers with the given existentials bound
  pub all_bound_at : List ℕ → ℕ → Open → Open
  all_bound_at xs k (bound i) = bound i
  all_bound_at xs k (rigid y) = rigid y
  all_bound_at xs k (existential y) = bound_by xs k y
  all_bound_at xs k (quantified t) = quantified (all_bound_at xs (suc k) t)
  all_bound_at xs k (arrow a b) = arrow (all_bound_at xs k a) (all_bound_at xs k b)
  all_bound_at xs k unit = unit
  all_bound_at xs k (tuple ts) = tuple (each_bound_at xs k ts)
  all_bound_at xs k (applied h ts) = applied h (each_bound_at xs k ts)

  pub each_bound_at : List ℕ → ℕ → Opens → Opens
  each_bound_at xs k none = none
  each_bound_at xs k (more t ts) = more (all_bound_at xs k t) (each_bound_at xs k ts)

-- a type behind a quantifier for each existential of a list
abbrev pub behind_quantifiers : List ℕ → Open → Open
behind_quantifiers [] t = t
behind_quantifiers (x ∷ xs) t = quantified (behind_quantifiers xs t)

-- a type with the given existentials quantified at its front in that order; what stands in it has no bound variables of the outside
abbrev pub generalised : List ℕ → Open → Open
generalised xs t = behind_quantifiers xs (all_bound_at xs 0 t)

-- Which names stand at the binders of a term.
use Rattle.std.specs.Prelude.{◌≡◌, ◌⊎◌, ℕ, suc, ◌+◌, ◌==◌, Bool, false, ◌||◌, List, [], ◌∷◌, ◌++◌, nat_le, ◌&&◌, IsTrue, replicate, codes}
use Rattle.uc_base.specs.Name.{is_word, is_operator_segment, IsName}
use Rattle.uc_tree.specs.declared.item.Item.{Item}
use Rattle.uc_tree.specs.declared.item.Item.TheVariants as item
use Rattle.uc_tree.specs.Bound.{binder_count}
use Rattle.uc_tree.specs.Terms.{Term, Terms, Cases}
use Rattle.uc_tree.specs.Terms as terms

-- what binds a variable of a term: a lambda, whose variable is used or not, a binding, or a pattern
pub data Binder : Type 0 where
  of_lambda : Bool → Binder
  of_binding : Binder
  of_pattern : Binder

abbrev mutual
  -- whether a term uses the variable that so many binders away is bound
  pub is_used : ℕ → Term → Bool
  is_used v (terms.variable n) = n == v
  is_used v (terms.literal l) = false
  is_used v terms.unit = false
  is_used v (terms.link x) = false
  is_used v (terms.lambda t) = is_used (suc v) t
  is_used v (terms.apply a b) = is_used v a || is_used v b
  is_used v (terms.annotated t ty) = is_used v t
  is_used v (terms.tuple ts) = is_used_among v ts
  is_used v (terms.list ts) = is_used_among v ts
  is_used v (terms.conditional a b c) = is_used v a || (is_used v b || is_used v c)
  is_used v (terms.and a b) = is_used v a || is_used v b
  is_used v (terms.or a b) = is_used v a || is_used v b
  is_used v (terms.binding s a b) = is_used (suc v) a || is_used (suc v) b
  is_used v (terms.match t cs) = is_used v t || is_used_in_cases v cs

  pub is_used_among : ℕ → Terms → Bool
  is_used_among v terms.none = false
  is_used_among v (terms.more t ts) = is_used v t || is_used_among v ts

  pub is_used_in_cases : ℕ → Cases → Bool
  is_used_in_cases v terms.no_case = false
  is_used_in_cases v (terms.case p b cs) = is_used (binder_count p + v) b || is_used_in_cases v cs
  is_used_in_cases v (terms.guarded p g b cs) = is_used (binder_count p + v) g || (is_used (binder_count p + v) b || is_used_in_cases v cs)

abbrev mutual
  -- the binders of a term in the order of its canonical text
  pub binders_of : Term → List Binder
  binders_of (terms.variable n) = []
  binders_of (terms.literal l) = []
  binders_of terms.unit = []
  binders_of (terms.link x) = []
  binders_of (terms.lambda t) = of_lambda (is_used 0 t) ∷ binders_of t
  binders_of (terms.apply a b) = binders_of a ++ binders_of b
  binders_of (terms.annotated t ty) = binders_of t
  binders_of (terms.tuple ts) = binders_among ts
  binders_of (terms.list ts) = binders_among ts
  binders_of (terms.conditional a b c) = binders_of a ++ binders_of b ++ binders_of c
  binders_of (terms.and a b) = binders_of a ++ binders_of b
  binders_of (terms.or a b) = binders_of a ++ binders_of b
  binders_of (terms.binding s a b) = of_binding ∷ binders_of a ++ binders_of b
  binders_of (terms.match t cs) = binders_of t ++ binders_in_cases cs

  pub binders_among : Terms → List Binder
  binders_among terms.none = []
  binders_among (terms.more t ts) = binders_of t ++ binders_among ts

  pub binders_in_cases : Cases → List Binder
  binders_in_cases terms.no_case = []
  binders_in_cases (terms.case p b cs) = replicate (binder_count p) of_pattern ++ binders_of b ++ binders_in_cases cs
  binders_in_cases (terms.guarded p g b cs) = replicate (binder_count p) of_pattern ++ binders_of g ++ binders_of b ++ binders_in_cases cs

-- the term binders of an item; a declaration has none
abbrev pub item_binders : Item → List Binder
item_binders (item.Term d) = binders_of d.body
item_binders (item.Kind d) = []

-- begins with `a` to `z` or `_`
abbrev pub begins_small : List ℕ → Bool
begins_small [] = false
begins_small (c ∷ cs) = (nat_le 97 c && nat_le c 122) || c == 95

-- a name that the grammar lets stand at a binder: one wordy segment at a lambda, one with a small first letter or `_` in a pattern,
-- any one segment at a binding
abbrev pub CanBind : Binder → List ℕ → Type 0
CanBind (of_lambda used) name = IsName name × IsTrue (is_word name)
CanBind of_binding name = IsName name × IsTrue (is_word name || is_operator_segment name)
CanBind of_pattern name = IsName name × IsTrue (is_word name && begins_small name)

-- a hint: such a name, or `_` at a lambda whose variable isn't used
abbrev pub IsHint : Binder → List ℕ → Type 0
IsHint b hint = CanBind b hint ⊎ ((b ≡ of_lambda false) × (hint ≡ codes "_"))

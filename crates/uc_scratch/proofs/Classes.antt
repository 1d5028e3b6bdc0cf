-- The classes of tokens: a token stands for one name of a class, and the classes are apart.
use Rattle.std.proofs.Common.{◌≡◌, ℕ, ◌≤◌, Bool, true, false, List, [], ◌∷◌, refl, subst, sym, arith}
use Rattle.uc_base.specs.declared.place.Place.{Place}
use Rattle.uc_scratch.specs.declared.written.Written.{Written}
use Rattle.uc_scratch.specs.declared.written.Param.{Param}
use Rattle.uc_scratch.specs.declared.written.Head.{Head}
use Rattle.uc_scratch.specs.declared.written.Head.TheVariants as head
use Rattle.uc_scratch.specs.declared.terminal.Terminal.{Terminal}
use Rattle.uc_scratch.specs.declared.terminal.Terminal.TheVariants.{Wildcard, Arrow, Equals, Colon}
use Rattle.uc_scratch.specs.Terminals.{IsWord, small_word, capital_word, IsPath, small_path, capital_path, dotted_path, IsOperator, cons_operator, snoc_operator, greater_operator, other_operator, IsParam, small_param, capital_param, any_param}
use Rattle.uc_scratch.specs.ExprGrammar.{ReadsParams, no_param, more_params, ReadsUsed, no_used, used_word, used_operator, ReadsHead, path_head, bracketed_head, operator_head, ReadsBound, path_bound, bracketed_bound}
use Rattle.uc_scratch.specs.Follows.{ends_params, goes_on, reach}

pub one_word : {t : Terminal} {w v : Written} → IsWord t w → IsWord t v → w ≡ v
one_word small_word small_word = refl
one_word capital_word capital_word = refl

pub one_path : {t : Terminal} {w v : Written} → IsPath t w → IsPath t v → w ≡ v
one_path small_path small_path = refl
one_path capital_path capital_path = refl
one_path dotted_path dotted_path = refl

pub one_operator : {t : Terminal} {w v : Written} → IsOperator t w → IsOperator t v → w ≡ v
one_operator cons_operator cons_operator = refl
one_operator snoc_operator snoc_operator = refl
one_operator greater_operator greater_operator = refl
one_operator other_operator other_operator = refl

pub one_param : {t : Terminal} {p q : Param} → IsParam t p → IsParam t q → p ≡ q
one_param small_param small_param = refl
one_param capital_param capital_param = refl
one_param any_param any_param = refl

pub word_reach : {t : Terminal} {w : Written} → IsWord t w → goes_on t ≡ 0
word_reach small_word = refl
word_reach capital_word = refl

pub path_reach : {t : Terminal} {w : Written} → IsPath t w → goes_on t ≡ 0
path_reach small_path = refl
path_reach capital_path = refl
path_reach dotted_path = refl

pub operator_reach : {t : Terminal} {w : Written} → IsOperator t w → goes_on t ≡ 2
operator_reach cons_operator = refl
operator_reach snoc_operator = refl
operator_reach greater_operator = refl
operator_reach other_operator = refl

pub no_path_operator : {t : Terminal} {w v : Written} → IsPath t w → IsOperator t v → ⊥
no_path_operator h k = let e = path_reach h in let f = operator_reach k in absurd (omega arith)

pub no_word_operator : {t : Terminal} {w v : Written} → IsWord t w → IsOperator t v → ⊥
no_word_operator h k = let e = word_reach h in let f = operator_reach k in absurd (omega arith)

pub no_param_operator : {t : Terminal} {p : Param} {v : Written} → IsParam t p → IsOperator t v → ⊥
no_param_operator small_param k = elim k [ ]
no_param_operator capital_param k = elim k [ ]
no_param_operator any_param k = elim k [ ]

pub param_begins : {t : Terminal} {p : Param} (ts : List Terminal) → IsParam t p → ends_params (t ∷ ts) ≡ false
param_begins ts small_param = refl
param_begins ts capital_param = refl
param_begins ts any_param = refl

-- equal tokens are one operator
pub operators_meet : (t u : Terminal) (w v : Written) → t ≡ u → IsOperator t w → IsOperator u v → w ≡ v
operators_meet t u w v e h k = let P : Terminal → Type 0 = λ x. IsOperator x v in one_operator h (subst P (sym e) k)

same_params : (p q : Param) (ps qs : List Param) → p ≡ q → ps ≡ qs → p ∷ ps ≡ q ∷ qs
same_params p q ps qs e f = cc

same_used : (w v : Written) (ws vs : List Written) → w ≡ v → ws ≡ vs → w ∷ ws ≡ v ∷ vs
same_used w v ws vs e f = cc

pub different : (b : Bool) → b ≡ true → b ≡ false → ⊥
different b p q = cc

-- parameters are read in one way, up to what is none
pub one_params : {ts : List Terminal} (us vs : List Terminal) (ps qs : List Param) → ends_params us ≡ true → ends_params vs ≡ true
    → ReadsParams ts ps us → ReadsParams ts qs vs → (ps ≡ qs) × (us ≡ vs)
one_params us vs ps qs p q no_param no_param = (refl, refl)
one_params us vs ps qs p q no_param (more_params i k) = absurd (different _ p (param_begins _ i))
one_params us vs ps qs p q (more_params i h) no_param = absurd (different _ q (param_begins _ i))
one_params us vs ps qs p q (more_params i h) (more_params j k) =
    let x = one_params _ _ _ _ p q h k in (same_params _ _ _ _ (one_param i j) x.0, x.1)

-- the names of a `use` are read in one way, up to what is none
pub one_used : {ts : List Terminal} (us vs : List Terminal) (ws xs : List Written) → 6 ≤ reach us → 6 ≤ reach vs
    → ReadsUsed ts ws us → ReadsUsed ts xs vs → (ws ≡ xs) × (us ≡ vs)
one_used us vs ws xs p q no_used no_used = (refl, refl)
one_used us vs ws xs p q no_used (used_word i k) = let e = word_reach i in absurd (omega arith)
one_used us vs ws xs p q no_used (used_operator i k) = let e = operator_reach i in absurd (omega arith)
one_used us vs ws xs p q (used_word i k) no_used = let e = word_reach i in absurd (omega arith)
one_used us vs ws xs p q (used_operator i k) no_used = let e = operator_reach i in absurd (omega arith)
one_used us vs ws xs p q (used_word i h) (used_word j k) =
    let x = one_used _ _ _ _ p q h k in (same_used _ _ _ _ (one_word i j) x.0, x.1)
one_used us vs ws xs p q (used_operator i h) (used_operator j k) =
    let x = one_used _ _ _ _ p q h k in (same_used _ _ _ _ (one_operator i j) x.0, x.1)
one_used us vs ws xs p q (used_word i h) (used_operator j k) = absurd (no_word_operator i j)
one_used us vs ws xs p q (used_operator i h) (used_word j k) = absurd (no_word_operator j i)

same_path : (w v : Written) → w ≡ v → head.Path w ≡ head.Path v
same_path w v e = cc

same_bracketed : (p : Place) (w v : Written) → w ≡ v → head.Bracketed p w ≡ head.Bracketed p v
same_bracketed p w v e = cc

same_bare : (w v : Written) → w ≡ v → head.Operator w ≡ head.Operator v
same_bare w v e = cc

pub one_head : {ts : List Terminal} (us vs : List Terminal) (h k : Head) → ReadsHead ts h us → ReadsHead ts k vs → (h ≡ k) × (us ≡ vs)
one_head us vs h k (path_head i) (path_head j) = (same_path _ _ (one_path i j), refl)
one_head us vs h k (path_head i) (operator_head j) = absurd (no_path_operator i j)
one_head us vs h k (operator_head i) (path_head j) = absurd (no_path_operator j i)
one_head us vs h k (operator_head i) (operator_head j) = (same_bare _ _ (one_operator i j), refl)
one_head us vs h k (bracketed_head i) (bracketed_head j) = (same_bracketed _ _ _ (one_operator i j), refl)
one_head us vs h k (bracketed_head i) (path_head j) = elim j [ ]
one_head us vs h k (bracketed_head i) (operator_head j) = elim j [ ]
one_head us vs h k (path_head i) (bracketed_head j) = elim i [ ]
one_head us vs h k (operator_head i) (bracketed_head j) = elim i [ ]

-- the head of a binding is a head
pub bound_head : {ts us : List Terminal} {h : Head} → ReadsBound ts h us → ReadsHead ts h us
bound_head (path_bound i) = path_head i
bound_head (bracketed_bound i) = bracketed_head i

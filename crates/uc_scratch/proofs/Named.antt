-- The names that tokens are, by functions and by classes.
use Rattle.std.proofs.Common.{◌≡◌, Bool, true, false, List, [], ◌∷◌, ◌++◌, ◌<◌, ◌≢◌, length, refl, subst, sym, ap, ◌∙◌, append_assoc, arith}
use Rattle.std.specs.Prelude.{Option, Some, None}
use Rattle.uc_scratch.specs.declared.written.Written.{Written}
use Rattle.uc_scratch.specs.declared.written.Param.{Param}
use Rattle.uc_scratch.specs.declared.terminal.Terminal.{Terminal}
use Rattle.uc_scratch.specs.declared.terminal.Terminal.TheVariants.{Small, Capital, Dotted, Cons, Snoc, Greater, Operator, Wildcard, Arrow}
use Rattle.uc_scratch.specs.Terminals.{path_of, word_of, operator_of, param_of, IsWord, small_word, capital_word, IsPath, small_path, capital_path, dotted_path, IsOperator, cons_operator, snoc_operator, greater_operator, other_operator, IsParam, small_param, capital_param, any_param}
use Rattle.uc_scratch.specs.ExprGrammar.{ReadsParams, no_param, more_params, ReadsUsed, no_used, used_word, used_operator}
use Rattle.uc_scratch.specs.Follows.{ends_params, ends_used}
use Rattle.uc_scratch.specs.Fronts.{IsParamFront, param_front, IsUsedFront, word_front, operator_front, IsLambda, lambda_front}
use Rattle.uc_scratch.proofs.Classes.{one_params}

pub path_is : (t : Terminal) (w : Written) → path_of t ≡ Some w → IsPath t w
path_is (Small v) w e = let P : Written → Type 0 = λ x. IsPath (Small v) x in subst P (cc) small_path
path_is (Capital v) w e = let P : Written → Type 0 = λ x. IsPath (Capital v) x in subst P (cc) capital_path
path_is (Dotted v) w e = let P : Written → Type 0 = λ x. IsPath (Dotted v) x in subst P (cc) dotted_path
path_is _ w e = cc

pub no_path_is : (t : Terminal) (w : Written) → path_of t ≡ None → IsPath t w → ⊥
no_path_is t w e small_path = cc
no_path_is t w e capital_path = cc
no_path_is t w e dotted_path = cc

pub word_is : (t : Terminal) (w : Written) → word_of t ≡ Some w → IsWord t w
word_is (Small v) w e = let P : Written → Type 0 = λ x. IsWord (Small v) x in subst P (cc) small_word
word_is (Capital v) w e = let P : Written → Type 0 = λ x. IsWord (Capital v) x in subst P (cc) capital_word
word_is _ w e = cc

pub operator_is : (t : Terminal) (w : Written) → operator_of t ≡ Some w → IsOperator t w
operator_is (Cons v) w e = let P : Written → Type 0 = λ x. IsOperator (Cons v) x in subst P (cc) cons_operator
operator_is (Snoc v) w e = let P : Written → Type 0 = λ x. IsOperator (Snoc v) x in subst P (cc) snoc_operator
operator_is (Greater v) w e = let P : Written → Type 0 = λ x. IsOperator (Greater v) x in subst P (cc) greater_operator
operator_is (Operator v) w e = let P : Written → Type 0 = λ x. IsOperator (Operator v) x in subst P (cc) other_operator
operator_is _ w e = cc

pub no_operator_is : (t : Terminal) (w : Written) → operator_of t ≡ None → IsOperator t w → ⊥
no_operator_is t w e cons_operator = cc
no_operator_is t w e snoc_operator = cc
no_operator_is t w e greater_operator = cc
no_operator_is t w e other_operator = cc

pub param_is : (t : Terminal) (p : Param) → param_of t ≡ Some p → IsParam t p
param_is (Small v) p e = let P : Param → Type 0 = λ x. IsParam (Small v) x in subst P (cc) small_param
param_is (Capital v) p e = let P : Param → Type 0 = λ x. IsParam (Capital v) x in subst P (cc) capital_param
param_is (Wildcard v) p e = let P : Param → Type 0 = λ x. IsParam (Wildcard v) x in subst P (cc) any_param
param_is _ p e = cc

pub no_param_is : (t : Terminal) (p : Param) → param_of t ≡ None → IsParam t p → ⊥
no_param_is t p e small_param = cc
no_param_is t p e capital_param = cc
no_param_is t p e any_param = cc

pub no_param_ends : (ts us : List Terminal) (t : Terminal) → ts ≡ t ∷ us → param_of t ≡ None → ends_params ts ≡ true
no_param_ends ts us t e p = ap ends_params e ∙ no_param_there us t p
  where
    no_param_there : (us : List Terminal) (t : Terminal) → param_of t ≡ None → ends_params (t ∷ us) ≡ true
    no_param_there us (Small v) p = cc
    no_param_there us (Capital v) p = cc
    no_param_there us (Wildcard v) p = cc
    no_param_there us _ p = refl

pub param_there : (ts us : List Terminal) (t : Terminal) (p : Param) → ts ≡ t ∷ us → Some p ≡ param_of t → IsParamFront ts p us
param_there ts us t p e f = let P : List Terminal → Type 0 = λ x. IsParamFront x p us in subst P (sym e) (param_front (param_is t p (sym f)))

pub word_there : (ts us : List Terminal) (t : Terminal) (w : Written) → ts ≡ t ∷ us → Some w ≡ word_of t → IsUsedFront ts w us
word_there ts us t w e f = let P : List Terminal → Type 0 = λ x. IsUsedFront x w us in subst P (sym e) (word_front (word_is t w (sym f)))

pub operator_there : (ts us : List Terminal) (t : Terminal) (w : Written) → ts ≡ t ∷ us → Some w ≡ operator_of t → IsUsedFront ts w us
operator_there ts us t w e f = let P : List Terminal → Type 0 = λ x. IsUsedFront x w us in subst P (sym e) (operator_front (operator_is t w (sym f)))

-- one more parameter, and one more name of a `use`

pub param_more : (ts rest after : List Terminal) (p : Param) (ps ps1 : List Param) → IsParamFront rest p after → ps1 ≡ ps ++ p ∷ []
    → ((qs : List Param) (us : List Terminal) → ReadsParams rest qs us → ReadsParams ts (ps ++ qs) us)
    → (qs : List Param) (us : List Terminal) → ReadsParams after qs us → ReadsParams ts (ps1 ++ qs) us
param_more ts rest after p ps ps1 (param_front i) e f qs us h =
    let Q : List Param → Type 0 = λ x. ReadsParams ts (x ++ qs) us in
    let R : List Param → Type 0 = λ x. ReadsParams ts x us in
    subst Q (sym e) (subst R (sym (append_assoc ps (p ∷ []) qs)) (f (p ∷ qs) us (more_params i h)))

pub used_more : (ts rest after : List Terminal) (w : Written) (ws ws1 : List Written) → IsUsedFront rest w after → ws1 ≡ ws ++ w ∷ []
    → ((vs : List Written) (us : List Terminal) → ReadsUsed rest vs us → ReadsUsed ts (ws ++ vs) us)
    → (vs : List Written) (us : List Terminal) → ReadsUsed after vs us → ReadsUsed ts (ws1 ++ vs) us
used_more ts rest after w ws ws1 i e f vs us h =
    let Q : List Written → Type 0 = λ x. ReadsUsed ts (x ++ vs) us in
    let R : List Written → Type 0 = λ x. ReadsUsed ts x us in
    subst Q (sym e) (subst R (sym (append_assoc ws (w ∷ []) vs)) (f (w ∷ vs) us (before i h)))
  where
    before : {rest after us : List Terminal} {w : Written} {vs : List Written} → IsUsedFront rest w after → ReadsUsed after vs us → ReadsUsed rest (w ∷ vs) us
    before (word_front j) k = used_word j k
    before (operator_front j) k = used_operator j k

pub param_shorter : {ts us : List Terminal} {p : Param} → IsParamFront ts p us → length us < length ts
param_shorter (param_front i) = omega arith

pub used_shorter : {ts us : List Terminal} {w : Written} → IsUsedFront ts w us → length us < length ts
used_shorter (word_front i) = omega arith
used_shorter (operator_front i) = omega arith

-- lambdas

pub empty_no_lambda : (ts after : List Terminal) (ps : List Param) → ReadsParams ts ps after → ends_params after ≡ true → ps ≡ []
    → (qs : List Param) (us : List Terminal) → IsLambda ts qs us → ⊥
empty_no_lambda ts after ps h p e qs us (lambda_front k) = let x = one_params _ _ _ _ p refl h k in not_empty _ _ _ e (x.0)
  where
    not_empty : (ps : List Param) (q : Param) (qs : List Param) → ps ≡ [] → ps ≡ q ∷ qs → ⊥
    not_empty ps q qs e f = cc

pub no_arrow_no_lambda : (ts after : List Terminal) (ps : List Param) → ReadsParams ts ps after → ends_params after ≡ true → ((us : List Terminal) → after ≡ Arrow ∷ us → ⊥)
    → (qs : List Param) (us : List Terminal) → IsLambda ts qs us → ⊥
no_arrow_no_lambda ts after ps h p e qs us (lambda_front k) = let x = one_params _ _ _ _ p refl h k in e _ x.1

pub lambda_there : (ts after us : List Terminal) (ps : List Param) → ReadsParams ts ps after → length ps ≢ 0 → after ≡ Arrow ∷ us → IsLambda ts ps us
lambda_there ts after us [] h n e = absurd (n refl)
lambda_there ts after us (p ∷ ps) h n e = let P : List Terminal → Type 0 = λ x. ReadsParams ts (p ∷ ps) x in lambda_front (subst P e h)

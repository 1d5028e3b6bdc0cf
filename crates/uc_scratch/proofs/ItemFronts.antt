-- What stands at the front of an item.
use Rattle.std.proofs.Common.{◌≡◌, true, List, [], ◌∷◌, refl, subst, sym, ap, ◌∙◌}
use Rattle.std.specs.Prelude.{Option, Some, None}
use Rattle.uc_base.specs.declared.place.Place.{Place}
use Rattle.uc_scratch.specs.declared.written.Written.{Written}
use Rattle.uc_scratch.specs.declared.written.Param.{Param}
use Rattle.uc_scratch.specs.declared.written.Head.{Head}
use Rattle.uc_scratch.specs.declared.written.Head.TheVariants as head
use Rattle.uc_scratch.specs.declared.terminal.Terminal.{Terminal}
use Rattle.uc_scratch.specs.declared.terminal.Terminal.TheVariants.{Left, Right, Equals, Colon, Use}
use Rattle.uc_scratch.specs.Terminals.{path_of, operator_of, IsPath, IsOperator, IsParam}
use Rattle.uc_scratch.specs.Marks.{left_of, use_of}
use Rattle.uc_scratch.specs.ExprGrammar.{ReadsParams, ReadsUsed, ReadsHead, path_head, bracketed_head, operator_head, ReadsBound, path_bound, bracketed_bound}
use Rattle.uc_scratch.specs.Fronts.{IsUse, use_front, IsUsePath, use_path, NoUse, IsParamFront, param_front, IsOperatorFront, operator_first, IsSigned, IsPrefix, prefix_front, IsInfix, infix_front}
use Rattle.uc_scratch.specs.Follows.{ends_params}
use Rattle.uc_scratch.proofs.Named.{path_is, no_path_is, operator_is, no_operator_is}
use Rattle.uc_scratch.proofs.Classes.{different, bound_head, one_head, one_params, param_begins}
use Rattle.uc_scratch.proofs.ExprReadings.{params_from}

pub left_is : (t : Terminal) (p : Place) → left_of t ≡ Some p → t ≡ Left p
left_is (Left q) p e = cc
left_is _ p e = cc

pub use_is : (t : Terminal) (p : Place) → use_of t ≡ Some p → t ≡ Use p
use_is (Use q) p e = cc
use_is _ p e = cc

two : (ts us vs : List Terminal) (u t : Terminal) → ts ≡ u ∷ us → us ≡ t ∷ vs → ts ≡ u ∷ t ∷ vs
two ts us vs u t e f = cc

three : (ts us : List Terminal) (u t v : Terminal) (vs : List Terminal) → ts ≡ u ∷ us → us ≡ t ∷ v ∷ vs → ts ≡ u ∷ t ∷ v ∷ vs
three ts us u t v vs e f = cc

use_from : (ts us : List Terminal) (p : Place) (w : Written) (ws : List Written) (vs : List Terminal) → ts ≡ us → IsUse ts p w ws vs → IsUse us p w ws vs
use_from ts us p w ws vs e h = let P : List Terminal → Type 0 = λ x. IsUse x p w ws vs in subst P e h

no_use_at : (t : Terminal) (us : List Terminal) {p : Place} {w : Written} {ws : List Written} {vs : List Terminal} → IsUse (t ∷ us) p w ws vs → None ≡ use_of t → ⊥
no_use_at t us (use_front i k) f = cc

pub no_use_word : (ts us : List Terminal) (t : Terminal) → ts ≡ t ∷ us → None ≡ use_of t → NoUse ts
no_use_word ts us t e f p w ws vs h = no_use_at t us (use_from _ _ _ _ _ _ e h) f

no_path_at : (u t : Terminal) (us : List Terminal) {p : Place} {w : Written} {ws : List Written} {vs : List Terminal} → IsUse (u ∷ t ∷ us) p w ws vs → None ≡ path_of t → ⊥
no_path_at u t us (use_front i k) f = no_path_is _ _ (sym f) i

pub no_use_path : (ts us vs : List Terminal) (u t : Terminal) → ts ≡ u ∷ us → us ≡ t ∷ vs → None ≡ path_of t → NoUse ts
no_use_path ts us vs u t e f g p w ws xs h = no_path_at u t vs (use_from _ _ _ _ _ _ (two _ _ _ _ _ e f) h) g

use_word_at : (ts : List Terminal) (u t : Terminal) (us : List Terminal) (p : Place) → ts ≡ u ∷ t ∷ us → u ≡ Use p → ts ≡ Use p ∷ t ∷ us
use_word_at ts u t us p e f = cc

pub use_path_there : (ts us vs : List Terminal) (u t : Terminal) (p : Place) (w : Written) → ts ≡ u ∷ us → Some p ≡ use_of u → us ≡ t ∷ vs → Some w ≡ path_of t
    → IsUsePath ts p w vs
use_path_there ts us vs u t p w e f g h =
    let P : List Terminal → Type 0 = λ x. IsUsePath x p w vs in
    subst P (sym (use_word_at _ _ _ _ _ (two _ _ _ _ _ e g) (use_is u p (sym f)))) (use_path (path_is t w (sym h)))

use_by : {ts us vs : List Terminal} {p : Place} {w : Written} {ws : List Written} → IsUsePath ts p w us → ReadsUsed us ws vs → IsUse ts p w ws vs
use_by (use_path i) h = use_front i h

pub use_there : (ts us vs : List Terminal) (p : Place) (w v : Written) (ws : List Written) → IsUsePath ts p w us → v ≡ w → ReadsUsed us ws vs → IsUse ts p v ws vs
use_there ts us vs p w v ws h e k = let P : Written → Type 0 = λ x. IsUse ts p x ws vs in subst P (sym e) (use_by h k)

-- heads

pub operator_there : (ts us vs : List Terminal) (t : Terminal) (w : Written) → ts ≡ t ∷ us → Some w ≡ operator_of t → us ≡ Right ∷ vs
    → (x : Terminal) × (ts ≡ x ∷ Right ∷ vs) × IsOperator x w
operator_there ts us vs t w e f g = (t, two _ _ _ _ _ e g, operator_is t w (sym f))

bracketed_at : (ts : List Terminal) (u t : Terminal) (us : List Terminal) (p : Place) → ts ≡ u ∷ t ∷ Right ∷ us → u ≡ Left p → ts ≡ Left p ∷ t ∷ Right ∷ us
bracketed_at ts u t us p e f = cc

pub bracketed_there : (ts us vs : List Terminal) (u : Terminal) (p : Place) (w v : Written) → ts ≡ u ∷ us → Some p ≡ left_of u
    → ((x : Terminal) × (us ≡ x ∷ Right ∷ vs) × IsOperator x w) → v ≡ w → ReadsBound ts (head.Bracketed p v) vs
bracketed_there ts us vs u p w v e f x g =
    let P : List Terminal → Type 0 = λ z. ReadsBound z (head.Bracketed p v) vs in
    let Q : Written → Type 0 = λ z. ReadsBound (Left p ∷ x.0 ∷ Right ∷ vs) (head.Bracketed p z) vs in
    subst P (sym (bracketed_at _ _ _ _ _ (three _ _ _ _ _ _ e x.1) (left_is u p (sym f)))) (subst Q (sym g) (bracketed_bound x.2))

pub path_there : (ts us : List Terminal) (t : Terminal) (w v : Written) → ts ≡ t ∷ us → Some w ≡ path_of t → v ≡ w → ReadsBound ts (head.Path v) us
path_there ts us t w v e f g =
    let P : List Terminal → Type 0 = λ z. ReadsBound z (head.Path v) us in
    let Q : Written → Type 0 = λ z. IsPath t z in
    subst P (sym e) (path_bound (subst Q (sym g) (path_is t w (sym f))))

pub bare_there : (ts us : List Terminal) (t : Terminal) (w v : Written) → ts ≡ t ∷ us → Some w ≡ operator_of t → v ≡ w → ReadsHead ts (head.Operator v) us
bare_there ts us t w v e f g =
    let P : List Terminal → Type 0 = λ z. ReadsHead z (head.Operator v) us in
    let Q : Written → Type 0 = λ z. IsOperator t z in
    subst P (sym e) (operator_head (subst Q (sym g) (operator_is t w (sym f))))

bound_from : (ts us : List Terminal) (h : Head) (vs : List Terminal) → ts ≡ us → ReadsBound ts h vs → ReadsBound us h vs
bound_from ts us h vs e k = let P : List Terminal → Type 0 = λ x. ReadsBound x h vs in subst P e k

head_from : (ts us : List Terminal) (h : Head) (vs : List Terminal) → ts ≡ us → ReadsHead ts h vs → ReadsHead us h vs
head_from ts us h vs e k = let P : List Terminal → Type 0 = λ x. ReadsHead x h vs in subst P e k

-- a head of a binding is a path, or an operator in brackets
no_bound_at : (t : Terminal) (us : List Terminal) {h : Head} {vs : List Terminal} → ReadsBound (t ∷ us) h vs → None ≡ path_of t
    → ((p : Place) (x : Terminal) (w : Written) (xs : List Terminal) → t ∷ us ≡ Left p ∷ x ∷ Right ∷ xs → IsOperator x w → ⊥) → ⊥
no_bound_at t us (path_bound i) e f = no_path_is _ _ (sym e) i
no_bound_at t us (bracketed_bound i) e f = f _ _ _ _ refl i

pub no_bound : (ts us : List Terminal) (t : Terminal) → ts ≡ t ∷ us → None ≡ path_of t
    → ((p : Place) (x : Terminal) (w : Written) (xs : List Terminal) → ts ≡ Left p ∷ x ∷ Right ∷ xs → IsOperator x w → ⊥)
    → (h : Head) (vs : List Terminal) → ReadsBound ts h vs → ⊥
no_bound ts us t e f g h vs k = no_bound_at t us (bound_from _ _ _ _ e k) f (λ p x w xs i j. g p x w xs (e ∙ i) j)

-- a head is a bare operator, or a head of a binding
no_head_at : (t : Terminal) (us : List Terminal) {h : Head} {vs : List Terminal} → ReadsHead (t ∷ us) h vs → None ≡ operator_of t
    → ((h : Head) (vs : List Terminal) → ReadsBound (t ∷ us) h vs → ⊥) → ⊥
no_head_at t us (path_head i) e f = f _ _ (path_bound i)
no_head_at t us (bracketed_head i) e f = f _ _ (bracketed_bound i)
no_head_at t us (operator_head i) e f = no_operator_is _ _ (sym e) i

pub no_head : (ts us : List Terminal) (t : Terminal) → ts ≡ t ∷ us → None ≡ operator_of t → ((h : Head) (vs : List Terminal) → ReadsBound ts h vs → ⊥)
    → (h : Head) (vs : List Terminal) → ReadsHead ts h vs → ⊥
no_head ts us t e f g h vs k = no_head_at t us (head_from _ _ _ _ e k) f (λ i xs j. g i xs (bound_from _ _ _ _ (sym e) j))

-- bindings

pub operator_first_there : (ts us : List Terminal) (t : Terminal) (w : Written) → ts ≡ t ∷ us → Some w ≡ operator_of t → IsOperatorFront ts w us
operator_first_there ts us t w e f = let P : List Terminal → Type 0 = λ x. IsOperatorFront x w us in subst P (sym e) (operator_first (operator_is t w (sym f)))

pub no_prefix_bound : (ts : List Terminal) → ((h : Head) (us : List Terminal) → ReadsBound ts h us → ⊥) → (h : Head) (ps : List Param) (us : List Terminal) → IsPrefix ts h ps us → ⊥
no_prefix_bound ts f h ps us (prefix_front i k) = f _ _ i

pub no_prefix_equals : (ts us vs : List Terminal) (h : Head) (ps : List Param) → ReadsBound ts h us → ReadsParams us ps vs → ends_params vs ≡ true
    → ((xs : List Terminal) → vs ≡ Equals ∷ xs → ⊥) → (k : Head) (qs : List Param) (xs : List Terminal) → IsPrefix ts k qs xs → ⊥
no_prefix_equals ts us vs h ps i j p f k qs xs (prefix_front l m) =
    let x = one_head _ _ _ _ (bound_head i) (bound_head l) in
    let y = one_params _ _ _ _ p refl j (params_from _ _ _ _ x.1 m) in f _ y.1

pub prefix_there : (ts us vs xs : List Terminal) (h : Head) (ps : List Param) → ReadsBound ts h us → ReadsParams us ps vs → vs ≡ Equals ∷ xs → IsPrefix ts h ps xs
prefix_there ts us vs xs h ps i j e = let P : List Terminal → Type 0 = λ z. ReadsParams us ps z in prefix_front i (subst P e j)

pub signed_there : (ts us xs : List Terminal) (h : Head) → ReadsHead ts h us → us ≡ Colon ∷ xs → IsSigned ts h xs
signed_there ts us xs h i e = let P : List Terminal → Type 0 = λ z. ReadsHead ts h z in subst P e i

pub no_signed_colon : (ts us : List Terminal) (h : Head) → ReadsHead ts h us → ((xs : List Terminal) → us ≡ Colon ∷ xs → ⊥)
    → (k : Head) (xs : List Terminal) → IsSigned ts k xs → ⊥
no_signed_colon ts us h i f k xs j = f _ ((one_head _ _ _ _ i j).1)

-- `p op q =`

pub last_there : (ts us vs : List Terminal) (p : Param) → IsParamFront ts p us → us ≡ Equals ∷ vs → (t : Terminal) × (ts ≡ t ∷ Equals ∷ vs) × IsParam t p
last_there ts us vs p (param_front {t = t} i) e = (t, ap (λ z. t ∷ z) e, i)

pub no_last_param : (ts : List Terminal) → ends_params ts ≡ true → (t : Terminal) (p : Param) (us : List Terminal) → ts ≡ t ∷ Equals ∷ us → IsParam t p → ⊥
no_last_param ts p t q us e i = different _ (sym (ap ends_params e) ∙ p) (param_begins _ i)

param_rest : {ts us vs : List Terminal} {t : Terminal} {p : Param} → IsParamFront ts p us → ts ≡ t ∷ vs → us ≡ vs
param_rest (param_front i) e = cc

pub no_last_equals : (ts us : List Terminal) (p : Param) → IsParamFront ts p us → ((xs : List Terminal) → us ≡ Equals ∷ xs → ⊥)
    → (t : Terminal) (q : Param) (vs : List Terminal) → ts ≡ t ∷ Equals ∷ vs → IsParam t q → ⊥
no_last_equals ts us p i f t q vs e j = f _ (param_rest i e)

pub no_infix_param : (ts : List Terminal) → ends_params ts ≡ true → (x : Param) (w : Written) (y : Param) (us : List Terminal) → IsInfix ts x w y us → ⊥
no_infix_param ts p x w y us (infix_front i j k) = different _ p (param_begins _ i)

pub no_infix_operator : (ts us : List Terminal) (p : Param) → IsParamFront ts p us → ((t : Terminal) (w : Written) (vs : List Terminal) → us ≡ t ∷ vs → IsOperator t w → ⊥)
    → (x : Param) (w : Written) (y : Param) (vs : List Terminal) → IsInfix ts x w y vs → ⊥
no_infix_operator ts us p (param_front l) f x w y vs (infix_front i j k) = f _ _ _ refl j

operator_rest : {us vs xs : List Terminal} {t : Terminal} {w : Written} → IsOperatorFront us w vs → us ≡ t ∷ xs → vs ≡ xs
operator_rest (operator_first i) e = cc

pub no_infix_last : (ts us vs : List Terminal) (p : Param) (v : Written) → IsParamFront ts p us → IsOperatorFront us v vs
    → ((t : Terminal) (q : Param) (xs : List Terminal) → vs ≡ t ∷ Equals ∷ xs → IsParam t q → ⊥)
    → (x : Param) (w : Written) (y : Param) (xs : List Terminal) → IsInfix ts x w y xs → ⊥
no_infix_last ts us vs p v (param_front l) m f x w y xs (infix_front i j k) = f _ _ _ (operator_rest m refl) k

pub infix_there : (ts us vs xs : List Terminal) (p q : Param) (w v : Written) → IsParamFront ts p us → IsOperatorFront us w vs → v ≡ w
    → ((t : Terminal) × (vs ≡ t ∷ Equals ∷ xs) × IsParam t q) → IsInfix ts p v q xs
infix_there ts us vs xs p q w v (param_front i) m e x =
    let P : List Terminal → Type 0 = λ z. IsOperatorFront us w z in
    let Q : Written → Type 0 = λ z. IsInfix ts p z q xs in
    subst Q (sym e) (by_operator i (subst P x.1 m) x.2)
  where
    by_operator : {t u : Terminal} {us xs : List Terminal} {p q : Param} {w : Written} → IsParam t p → IsOperatorFront us w (u ∷ Equals ∷ xs) → IsParam u q → IsInfix (t ∷ us) p w q xs
    by_operator i (operator_first j) k = infix_front i j k

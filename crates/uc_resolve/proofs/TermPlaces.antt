-- Each term that is meant has as many places as nodes.
use Rattle.std.proofs.Common.{ℕ, suc, List, [], ◌∷◌, map, refl, ap, Option, Some, None}
use Rattle.std.specs.List.{position_from}
use Rattle.uc_scratch.specs.declared.written.Param.{Param}
use Rattle.uc_scratch.specs.declared.written.Written.{Written}
use Rattle.uc_scratch.specs.Exprs.{Expr, done, lambda, atom, operator, and, or, opens_if, branches, opens_match, with_cases, cases, block, Atom, path, bracketed, literal, reference, unit, group, annotated, tuple, list, Exprs, none, more, Cases, no_case, case, guarded, Block, result, using, signature, prefix, infix_operator}
use Rattle.uc_scratch.specs.ExprGrammar.{head_name}
use Rattle.uc_scratch.specs.NameFaults.{head_place}
use Rattle.uc_meaning.specs.declared.wanted.Wanted.TheVariants as wanted
use Rattle.uc_meaning.specs.Candidates.{Usings}
use Rattle.uc_meaning.specs.Meanings.{Known, name_meaning, reference_meaning}
use Rattle.uc_meaning.specs.ExprMeanings.{Scope, under, with_using, in_block, param_binder, param_place, pattern_binders, is_binder_of, link_unless_bound, word_meaning, conditional_at, match_at, cases_at, lambdas_over, form, atom_start, Parts, no_parts, with_atom, behind_operator, behind_and, behind_or, whole_of, Outer, innermost, others, Signed, signed_by, signature_for, body_scope, expr_meaning, atom_meaning, exprs_meaning, cases_meaning, block_meaning, bound_meaning}
use Rattle.uc_resolve.proofs.Answered.{Answers, answer, then_answers, any_answer}
use Rattle.uc_resolve.proofs.TypePlaces.{signature_placed}
use Rattle.uc_resolve.proofs.PatternPlaces.{pattern_placed}
use Rattle.uc_resolve.proofs.NodePlaces.{IsTermPlaced, AreTermsPlaced, AreCasesPlaced, conditional_placed, match_placed, cases_placed as cases_at_placed, lambdas_placed, annotated_placed, term_before_placed, case_before_placed, guarded_before_placed, ArePartsPlaced, no_parts_placed, with_atom_placed, behind_operator_placed, behind_and_placed, whole_placed, behind_or_placed, AreOuterPlaced, innermost_placed, others_placed, IsSignedPlaced, signature_for_placed, binding_placed}

linked : (known : Known) (usings : Usings) (w : Written) (o : Option ℕ) → Answers IsTermPlaced (link_unless_bound known usings w o)
linked known usings w None = then_answers {P = λ _. Unit {0}} _ (any_answer (name_meaning known wanted.Term usings w)) (λ x _. answer refl)
linked known usings w (Some n) = answer refl

word_placed : (known : Known) (scope : Scope) (w : Written) → Answers IsTermPlaced (word_meaning known scope w)
word_placed known scope w = linked known scope.usings w (position_from (is_binder_of w.text) 0 scope.binders)

module _ (known : Known) where
  mutual
    pub expr_placed : (scope : Scope) (e : Expr) (s : Parts) (os : Outer) → ArePartsPlaced s → AreOuterPlaced os → Answers IsTermPlaced (expr_meaning known scope e s os)
    expr_placed scope done s os h k = answer (whole_placed s h)
    expr_placed scope (lambda ps b e) s os h k =
        then_answers _ (block_placed (in_block (under (map param_binder ps) scope)) None b tt)
        (λ x l. expr_placed scope e (with_atom s (form (lambdas_over ps x))) os (with_atom_placed s (form (lambdas_over ps x)) h (lambdas_placed ps x l)) k)
    expr_placed scope (atom a e) s os h k =
        then_answers _ (atom_placed scope a) (λ x l. expr_placed scope e (with_atom s (atom_start a, x)) os (with_atom_placed s (atom_start a, x) h l) k)
    expr_placed scope (operator w e) s os h k =
        then_answers _ (word_placed known scope w) (λ x l. expr_placed scope e (behind_operator s x) os (behind_operator_placed s x h l) k)
    expr_placed scope (and e) s os h k = expr_placed scope e (behind_and s) os (behind_and_placed s h) k
    expr_placed scope (or e) s os h k = expr_placed scope e (behind_or s) os (behind_or_placed s h) k
    expr_placed scope (opens_if p e) s os h k = expr_placed scope e no_parts ((p, s) ∷ os) no_parts_placed (h, k)
    expr_placed scope (branches b c e) s os h k =
        then_answers _ (block_placed (in_block scope) None b tt) (λ x l. then_answers _ (block_placed (in_block scope) None c tt)
        (λ y m. expr_placed scope e (with_atom (innermost os).1 (form (conditional_at (innermost os).0 (whole_of s).1 x y))) (others os)
        (with_atom_placed (innermost os).1 (form (conditional_at (innermost os).0 (whole_of s).1 x y)) (innermost_placed os k)
        (conditional_placed (innermost os).0 (whole_of s).1 x y (whole_placed s h) l m)) (others_placed os k)))
    expr_placed scope (opens_match p e) s os h k = expr_placed scope e no_parts ((p, s) ∷ os) no_parts_placed (h, k)
    expr_placed scope (with_cases cs e) s os h k =
        then_answers _ (cases_placed scope cs)
        (λ x l. expr_placed scope e (with_atom (innermost os).1 (form (match_at (innermost os).0 (whole_of s).1 x))) (others os)
        (with_atom_placed (innermost os).1 (form (match_at (innermost os).0 (whole_of s).1 x)) (innermost_placed os k) (match_placed (innermost os).0 (whole_of s).1 x (whole_placed s h) l))
        (others_placed os k))
    expr_placed scope (cases p cs e) s os h k =
        then_answers _ (cases_placed (under (None ∷ []) scope) cs) (λ x l. expr_placed scope e (with_atom s (form (cases_at p x))) os (with_atom_placed s (form (cases_at p x)) h (cases_at_placed p x l)) k)
    expr_placed scope (block p b e) s os h k =
        then_answers _ (block_placed (in_block scope) None b tt) (λ x l. expr_placed scope e (with_atom s (p, x)) os (with_atom_placed s (p, x) h l) k)

    atom_placed : (scope : Scope) (a : Atom) → Answers IsTermPlaced (atom_meaning known scope a)
    atom_placed scope (path w) = word_placed known scope w
    atom_placed scope (bracketed p w) = word_placed known scope w
    atom_placed scope (literal l) = answer refl
    atom_placed scope (reference r) = then_answers {P = λ _. Unit {0}} _ (any_answer (reference_meaning known wanted.Term r)) (λ x _. answer refl)
    atom_placed scope (unit p) = answer refl
    atom_placed scope (group p e) = expr_placed scope e no_parts [] no_parts_placed tt
    atom_placed scope (annotated p e t) =
        then_answers _ (expr_placed scope e no_parts [] no_parts_placed tt)
        (λ x l. then_answers _ (signature_placed known scope.usings scope.variables t) (λ ty m. answer (annotated_placed p x ty l m)))
    atom_placed scope (tuple p es) = then_answers _ (exprs_placed scope es) (λ xs l. answer (ap suc l))
    atom_placed scope (list p es) = then_answers _ (exprs_placed scope es) (λ xs l. answer (ap suc l))

    exprs_placed : (scope : Scope) (es : Exprs) → Answers AreTermsPlaced (exprs_meaning known scope es)
    exprs_placed scope none = answer refl
    exprs_placed scope (more e es) =
        then_answers _ (expr_placed scope e no_parts [] no_parts_placed tt) (λ x l. then_answers _ (exprs_placed scope es) (λ xs m. answer (term_before_placed x xs l m)))

    cases_placed : (scope : Scope) (cs : Cases) → Answers AreCasesPlaced (cases_meaning known scope cs)
    cases_placed scope no_case = answer refl
    cases_placed scope (case x b cs) =
        then_answers _ (pattern_placed known scope.usings x) (λ p l. then_answers _ (block_placed (in_block (under (pattern_binders x) scope)) None b tt)
        (λ t m. then_answers _ (cases_placed scope cs) (λ rest n. answer (case_before_placed p t rest l m n))))
    cases_placed scope (guarded x g b cs) =
        then_answers _ (pattern_placed known scope.usings x) (λ p l. then_answers _ (expr_placed (under (pattern_binders x) scope) g no_parts [] no_parts_placed tt)
        (λ u m. then_answers _ (block_placed (in_block (under (pattern_binders x) scope)) None b tt)
        (λ t n. then_answers _ (cases_placed scope cs) (λ rest o. answer (guarded_before_placed p u t rest l m n o)))))

    pub block_placed : (scope : Scope) (signed : Option Signed) (b : Block) → IsSignedPlaced signed → Answers IsTermPlaced (block_meaning known scope signed b)
    block_placed scope signed (result e) h = expr_placed scope e no_parts [] no_parts_placed tt
    block_placed scope signed (using p w ws b) h = block_placed (with_using w ws scope) None b tt
    block_placed scope signed (signature t u b) h =
        then_answers _ (signature_placed known scope.usings scope.variables u) (λ ty l. block_placed scope (Some (signed_by scope.variables t u ty)) b l)
    block_placed scope signed (prefix t ps c b) h =
        let inner = under (Some (head_name t).text ∷ []) scope in
        let found = signature_for signed (head_name t) in
        then_answers _ (block_placed (in_block (under (map param_binder ps) (body_scope found inner))) None c tt) (λ x l. then_answers _ (block_placed inner None b tt)
        (λ y m. answer (binding_placed found (head_place t) (lambdas_over ps x) y (signature_for_placed signed (head_name t) h) (lambdas_placed ps x l) m)))
    block_placed scope signed (infix_operator x w y c b) h =
        let inner = under (Some w.text ∷ []) scope in
        let found = signature_for signed w in
        then_answers _ (block_placed (in_block (under (param_binder x ∷ param_binder y ∷ []) (body_scope found inner))) None c tt) (λ t l. then_answers _ (block_placed inner None b tt)
        (λ u m. answer (binding_placed found (param_place x) (lambdas_over (x ∷ y ∷ []) t) u (signature_for_placed signed w h) (lambdas_placed (x ∷ y ∷ []) t l) m)))

-- the body of a binding
pub bound_placed : (known : Known) (scope : Scope) (found : Option Signed) (ps : List Param) (c : Block) → Answers IsTermPlaced (bound_meaning known scope found ps c)
bound_placed known scope found ps c =
    then_answers _ (block_placed known (in_block (under (map param_binder ps) (body_scope found scope))) None c tt) (λ x l. answer (lambdas_placed ps x l))

-- The types of constructors, built from their ends.
use Rattle.std.proofs.Common.{◌≡◌, ℕ, zero, suc, ◌-◌, ◌<◌, List, [], ◌∷◌, ◌++◌, length, get_or, take, arith, sym, ap, ◌∙◌}
use Rattle.uc_tree.specs.Types.{Ty, Tys, variable, arrow, tys_of}
use Rattle.uc_tree.specs.Constructors.{arrows, parameters}
use Rattle.uc_tree.proofs.Joins.{tys_before, tys_before-push}

arrows-suc : (fields : List Ty) (k : ℕ) (field to : Ty) → k < length fields → field ≡ get_or fields k field → arrows (tys_of (take (suc k) fields)) to ≡ arrows (tys_of (take k fields)) (arrow field to)
arrows-suc [] k field to h is = absurd (omega arith)
arrows-suc (f ∷ fields) zero field to h is = ap (λ (x : Ty). arrow x to) (sym is)
arrows-suc (f ∷ fields) (suc k) field to h is = ap (arrow f) (arrows-suc fields k field to (omega arith) is)

pub arrows_on : (fields : List Ty) (left : ℕ) (field to total : Ty) → 0 < left → left - 1 < length fields → field ≡ get_or fields (left - 1) field
    → arrows (tys_of (take left fields)) to ≡ total → arrows (tys_of (take (left - 1) fields)) (arrow field to) ≡ total
arrows_on fields left field to total some h is so_far =
    let e : suc (left - 1) ≡ left = omega arith in
    sym (arrows-suc fields (left - 1) field to h is) ∙ ap (λ (k : ℕ). arrows (tys_of (take k fields)) to) e ∙ so_far

pub parameters_on : (done : List Ty) (left : ℕ) (total : Tys) → 0 < left → tys_before done (parameters left) ≡ total → tys_before (done ++ variable (left - 1) ∷ []) (parameters (left - 1)) ≡ total
parameters_on done left total some so_far =
    let e : suc (left - 1) ≡ left = omega arith in
    tys_before-push done (variable (left - 1)) (parameters (left - 1)) ∙ ap (λ (k : ℕ). tys_before done (parameters k)) e ∙ so_far

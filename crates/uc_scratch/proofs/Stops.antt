-- A fault that is passed on.
use Rattle.std.proofs.Common.{◌≡◌, refl, subst, sym}
use Rattle.std.specs.Prelude.{IsErrOf, Err}
use Rattle.uc_scratch.specs.declared.stop.Stop.{Stop}
use Rattle.uc_scratch.specs.declared.stop.Stop.TheVariants.{Absent}

-- absent stays absent in the result of the caller
pub err_again : {T U : Type 0} (e : Stop) → IsErrOf {T = T} {E = Stop} (Err e) Absent → IsErrOf {T = U} {E = Stop} (Err e) Absent
err_again {T = T} {U = U} e h =
    let p : e ≡ Absent = cc in
    let P : Stop → Type 0 = λ x. IsErrOf {T = U} {E = Stop} (Err x) Absent in subst P (sym p) refl

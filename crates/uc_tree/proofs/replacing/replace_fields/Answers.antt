use Rattle.std.proofs.Common.{List, [], ◌∷◌, ◌++◌, Vec, Global, Some, refl, sym, ap, ◌∙◌, append_assoc}
use Rattle.std.proofs.lemmas.List.{append-nil}
use Rattle.uc_tree.specs.Types.{Ty, Tys, tys_of}
use Rattle.uc_tree.specs.Declarations.{fields_of}
use Rattle.uc_tree.specs.Replacing.{replaced_tys, replaced_fields}
use Rattle.uc_tree.specs.Stops.{replacement_of}
use Rattle.uc_tree.proofs.Fields.{fields_of-push}
use Rattle.uc_tree.proofs.Joins.{goes_on, ends}
use Rattle.uc_tree.proofs.replacing.replace_fields.Goals as goal

pub loop-fields-preserved : goal.loop-fields-preserved
loop-fields-preserved c =
    let m = replacement_of c.args.standing.now in
    rw (c.in_ok-push.ensures.items, fields_of-push c.loop-fields.replaced.items c.in_ok-replace_types.field-0)
    (goes_on (λ (v : Vec Ty Global). replaced_tys m (tys_of v.items)) (λ (vs : List (Vec Ty Global)). replaced_fields m (fields_of vs)) (λ (ts : Tys) (rest : List Tys). ts ∷ rest) (λ done rest. done ++ rest) (λ _ _. refl)
    (λ done y rest. append_assoc done (y ∷ []) rest) (fields_of c.loop-fields.replaced.items) c.args.ctors.now c.loop-fields.fields-index c.fields-item.result
    (tys_of c.in_ok-replace_types.field-0.items) _ c.loop-fields-test.true c.fields-item.is
    (ap (λ (us : List Ty). replaced_tys m (tys_of us)) (sym c.deref.ensures.value) ∙ c.in_ok-replace_types.ensures) c.loop-fields.invariant)

pub returns : goal.returns
returns c =
    let m = replacement_of c.args.standing.now in
    ends (λ (v : Vec Ty Global). replaced_tys m (tys_of v.items)) (λ (vs : List (Vec Ty Global)). replaced_fields m (fields_of vs)) (λ (ts : Tys) (rest : List Tys). ts ∷ rest) (λ done rest. done ++ rest) (λ _ _. refl)
    (λ done y rest. append_assoc done (y ∷ []) rest) [] refl (fields_of c.loop-fields.replaced.items) c.args.ctors.now c.loop-fields.fields-index _ c.loop-fields-test.false c.loop-fields.invariant
    ∙ ap Some (append-nil (fields_of c.loop-fields.replaced.items))

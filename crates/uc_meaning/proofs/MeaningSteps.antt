-- What candidates mean.
use Rattle.std.proofs.Common.{◌≡◌, ℕ, Bool, true, false, cond, ◌&&◌, List, [], ◌∷◌, map, refl, sym, ap, ◌∙◌, subst, Some, Ok, Err}
use Rattle.std.specs.Prelude.{slice_get, eqb}
use borrow.Author.Tests.{eq-eqb}
use Rattle.std.specs.List.{list_all}
use Rattle.std.specs.Option.{option_map}
use Rattle.std.specs.Ordering.{is_eq}
use Rattle.std.proofs.lemmas.Cmp.{tied_itself}
use Rattle.uc_base.specs.contracts.reference.RefOrd.TheImpl.Laws as ord
use Rattle.uc_base.specs.declared.place.Place.{Place}
use Rattle.uc_tree.specs.declared.target.Target.{Target}
use Rattle.uc_tree.specs.declared.target.Target.TheVariants.{Stored, Own, OwnCtor}
use Rattle.uc_meaning.specs.Entries.{Entry}
use Rattle.uc_meaning.specs.Candidates.{is_same_target, ambiguous, meaning_among}

itself : (t : Target) → is_same_target t t ≡ true
itself (Stored r) = ap is_eq (tied_itself ord.total-law r)
itself (Own k) = eq-eqb k k refl
itself (OwnCtor k c) = ap (λ b. b && eqb c c) (eq-eqb k k refl) ∙ eq-eqb c c refl

module _ (e : Entry) (es : List Entry) (t : Target) (same : t ≡ e.1) where
  behind_first : (b : Bool) → list_all (λ f. is_same_target f.1 t) (e ∷ es) ≡ b → list_all (λ f. is_same_target f.1 e.1) es ≡ b
  behind_first b a =
      sym (ap (λ c. c && list_all (λ f. is_same_target f.1 e.1) es) (itself e.1)) ∙ subst (λ u. list_all (λ f. is_same_target f.1 u) (e ∷ es) ≡ b) same a

-- one thing that all stand for
pub meaning_one : (p : Place) (w : List ℕ) (es : List Entry) (t : Target) → Some t ≡ option_map (λ e. e.1) (slice_get es 0) → list_all (λ e. is_same_target e.1 t) es ≡ true → meaning_among p w es ≡ Ok t
meaning_one p w [] t h a = cc
meaning_one p w (e ∷ es) t h a =
    let same : t ≡ e.1 = cc in
    ap (λ c. cond c (Ok e.1) (Err (ambiguous p (map (λ f. f.0) (e ∷ es))))) (behind_first e es t same true a) ∙ ap Ok (sym same)

-- several
pub meaning_many : (p : Place) (w : List ℕ) (es : List Entry) (t : Target) → Some t ≡ option_map (λ e. e.1) (slice_get es 0) → list_all (λ e. is_same_target e.1 t) es ≡ false
    → meaning_among p w es ≡ Err (ambiguous p (map (λ e. e.0) es))
meaning_many p w [] t h a = cc
meaning_many p w (e ∷ es) t h a =
    let same : t ≡ e.1 = cc in ap (λ c. cond c (Ok e.1) (Err (ambiguous p (map (λ f. f.0) (e ∷ es))))) (behind_first e es t same false a)

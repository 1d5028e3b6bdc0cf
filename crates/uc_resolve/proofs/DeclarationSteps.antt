-- The constructors of a declared type one after the other.
use Rattle.std.proofs.Common.{◌≡◌, ℕ, ◌+◌, ◌<◌, List, [], ◌∷◌, ◌++◌, Vec, length, get_or, drop, refl, sym, ap, ◌∙◌, Result, Ok, Err, append_assoc}
use Rattle.std.proofs.lemmas.List.{drop_more}
use Rattle.uc_base.specs.declared.place.Place.{Place}
use Rattle.uc_base.specs.declared.fault.Fault.{Fault}
use Rattle.uc_tree.specs.Declarations.{fields_of}
use Rattle.uc_tree.specs.Types.{Ty, Tys, tys_of}
use Rattle.uc_tree.proofs.Fields.{fields_of-push}
use Rattle.uc_scratch.specs.declared.file.Constructor as declared
use Rattle.uc_scratch.specs.FileViews.{constructor_of, constructors_of}
use Rattle.uc_scratch.specs.TypeViews.{type_atoms}
use Rattle.uc_scratch.specs.declared.written.Written.{Written}
use Rattle.uc_scratch.specs.Files.{Constructor}
use Rattle.uc_scratch.specs.NameFaults.{constructor_name}
use Rattle.uc_meaning.specs.ExprMeanings.{Scope}
use Rattle.uc_meaning.specs.Meanings.{Known}
use Rattle.uc_meaning.specs.Placed.{Placed}
use Rattle.uc_meaning.specs.Programs.{named, ctors_meaning, fields_meaning}
use Rattle.uc_meaning.specs.Results.{◌>>=◌}
use Rattle.uc_meaning.specs.TypeMeanings.{type_atoms_meaning}
use Rattle.uc_resolve.specs.Collected.{after, after_fields}

-- nothing before a list
pub after_none : {A : Type 0} (r : Result (List A) Fault) → after [] r ≡ r
after_none (Ok xs) = refl
after_none (Err e) = refl

more_after : {A : Type 0} (xs : List A) (x : A) (r : Result (List A) Fault) → after xs (r >>= λ ys. Ok (x ∷ ys)) ≡ after (xs ++ x ∷ []) r
more_after xs x (Ok ys) = ap Ok (sym (append_assoc xs (x ∷ []) ys))
more_after xs x (Err e) = refl

-- a constructor that has a name
pub constructor_named : (k : ℕ) (w : Written) (c : ℕ) (x : Constructor) (cs : List Constructor) (names : List (List ℕ × ℕ × ℕ)) (name : List ℕ) → named (constructor_name w x) ≡ Ok name
    → after names (ctors_meaning k w c (x ∷ cs)) ≡ after (names ++ (name, k, c) ∷ []) (ctors_meaning k w (c + 1) cs)
constructor_named k w c x cs names name h =
    ap (λ r. after names (r >>= λ n. ctors_meaning k w (c + 1) cs >>= λ ns. Ok ((n, k, c) ∷ ns))) h ∙ more_after names (name, k, c) (ctors_meaning k w (c + 1) cs)

-- a constructor that has none
pub constructor_refused : (k : ℕ) (w : Written) (c : ℕ) (x : Constructor) (cs : List Constructor) (names : List (List ℕ × ℕ × ℕ)) (e : Fault) → named (constructor_name w x) ≡ Err e
    → after names (ctors_meaning k w c (x ∷ cs)) ≡ Err e
constructor_refused k w c x cs names e h = ap (λ r. after names (r >>= λ n. ctors_meaning k w (c + 1) cs >>= λ ns. Ok ((n, k, c) ∷ ns))) h

pub fields_after_none : (r : Result (Placed (List Tys)) Fault) → after_fields ([], []) r ≡ r
fields_after_none (Ok x) = refl
fields_after_none (Err e) = refl

fields_more : (xs : Placed (List Tys)) (x : Placed Tys) (r : Result (Placed (List Tys)) Fault)
    → after_fields xs (r >>= λ ys. Ok (x.0 ∷ ys.0, x.1 ++ ys.1)) ≡ after_fields (xs.0 ++ x.0 ∷ [], xs.1 ++ x.1) r
fields_more xs x (Ok ys) = simp append_assoc
fields_more xs x (Err e) = refl

module _ (known : Known) (scope : Scope) (c : Constructor) (cs : List Constructor) (xs : Placed (List Tys)) where
  -- the fields of a constructor
  pub fields_found : (x : Placed Tys) → type_atoms_meaning known scope.usings scope.variables c.fields ≡ Ok x
      → after_fields xs (fields_meaning known scope (c ∷ cs)) ≡ after_fields (xs.0 ++ x.0 ∷ [], xs.1 ++ x.1) (fields_meaning known scope cs)
  fields_found x h =
      ap (λ r. after_fields xs (r >>= λ y. fields_meaning known scope cs >>= λ ys. Ok (y.0 ∷ ys.0, y.1 ++ ys.1))) h ∙ fields_more xs x (fields_meaning known scope cs)

  pub fields_refused : (e : Fault) → type_atoms_meaning known scope.usings scope.variables c.fields ≡ Err e → after_fields xs (fields_meaning known scope (c ∷ cs)) ≡ Err e
  fields_refused e h = ap (λ r. after_fields xs (r >>= λ y. fields_meaning known scope cs >>= λ ys. Ok (y.0 ∷ ys.0, y.1 ++ ys.1))) h

module _ (known : Known) (scope : Scope) (cs : List declared.Constructor) (i : ℕ) (c : declared.Constructor) where
  -- the fields of one more constructor
  pub fields_step : {A : Type 0} (variables : List (List ℕ)) (fields more : List (Vec Ty A)) (places all : List Place) (found : Vec Ty A) (at : List Place) (whole : Result (Placed (List Tys)) Fault)
      → i < length cs → c ≡ get_or cs i c → variables ≡ scope.variables → type_atoms_meaning known scope.usings variables (type_atoms c.fields.items) ≡ Ok (tys_of found.items, at)
      → more ≡ fields ++ found ∷ [] → all ≡ places ++ at → after_fields (fields_of fields, places) (fields_meaning known scope (constructors_of (drop i cs))) ≡ whole
      → after_fields (fields_of more, all) (fields_meaning known scope (constructors_of (drop (i + 1) cs))) ≡ whole
  fields_step variables fields more places all found at whole h is k t e f w =
      let rest = constructors_of (drop (i + 1) cs) in
      let there : constructors_of (drop i cs) ≡ constructor_of c ∷ rest = ap constructors_of (drop_more cs i c h ∙ ap (λ d. d ∷ drop (i + 1) cs) (sym is)) in
      ap (λ l. after_fields (fields_of l, all) (fields_meaning known scope rest)) e
      ∙ ap (λ l. after_fields (fields_of (fields ++ found ∷ []), l) (fields_meaning known scope rest)) f
      ∙ ap (λ l. after_fields (l, places ++ at) (fields_meaning known scope rest)) (fields_of-push fields found)
      ∙ sym (fields_found known scope (constructor_of c) rest (fields_of fields, places) (tys_of found.items, at) (ap (λ vs. type_atoms_meaning known scope.usings vs (type_atoms c.fields.items)) (sym k) ∙ t))
      ∙ sym (ap (λ l. after_fields (fields_of fields, places) (fields_meaning known scope l)) there) ∙ w

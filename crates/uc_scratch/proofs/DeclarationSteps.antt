-- What each step of the readers of declarations leaves to read.
use Rattle.std.proofs.Common.{◌≡◌, ◌≢◌, ℕ, zero, suc, ◌+◌, ◌<◌, ◌≤◌, ◌&&◌, Bool, true, false, List, [], ◌∷◌, ◌++◌, length, drop, get_or, map, refl, subst, sym, ap, ◌∙◌, append_assoc, arith}
use Rattle.std.specs.Prelude.{Option, Some, None, nat_le}
use Rattle.std.proofs.lemmas.List.{drop_more}
use Rattle.std.proofs.lemmas.Bool.Decides.{nat_tests}
use Rattle.uc_base.specs.declared.place.Place.{Place}
use Rattle.uc_scratch.specs.declared.written.Written.{Written}
use Rattle.uc_scratch.specs.declared.file.DeclarationSort.{DeclarationSort}
use Rattle.uc_scratch.specs.declared.file.DeclarationSort.TheVariants as sort
use Rattle.uc_scratch.specs.declared.file.Constructor as seen
use Rattle.uc_scratch.specs.declared.terminal.Terminal.{Terminal}
use Rattle.uc_scratch.specs.declared.terminal.Terminal.TheVariants.{LeftSquare, RightSquare, Equals, Bar, TypeWord, Structural, Unique}
use Rattle.uc_scratch.specs.TypeExprs.{TypeAtoms}
use Rattle.uc_scratch.specs.Files.{Constructor, Item, declaration}
use Rattle.uc_scratch.specs.FileViews.{constructor_of, constructors_of}
use Rattle.uc_scratch.specs.Terminals.{path_of, word_of, IsWord, small_word, capital_word, IsPath, small_path, capital_path, dotted_path}
use Rattle.uc_scratch.specs.TypeGrammar.{ReadsVariables, ReadsTypeAtoms}
use Rattle.uc_scratch.specs.ItemGrammar.{ReadsSort, plain_sort, structural_sort, unique_sort, tagged_sort, ReadsConstructor, constructor_fields, ReadsConstructors, last_constructor, more_constructors, is_type_name, names_fit}
use Rattle.uc_scratch.specs.ItemParts.{IsInSquare, path_in_square, IsTag, tag_front, IsTypeName, type_name, IsDeclared, declared, IsDeclaration, whole_declaration}
use Rattle.uc_scratch.specs.Follows.{ends_variables, ends_type_atoms}
use Rattle.uc_scratch.specs.Nesting.{fits}
use Rattle.uc_scratch.proofs.Named.{path_is, no_path_is, word_is}
use Rattle.uc_scratch.proofs.Classes.{different, one_path}
use Rattle.uc_scratch.proofs.TypeReadings.{tail_same, variables_from, type_atoms_from, one_variables, one_type_atoms}
use Rattle.uc_scratch.proofs.ItemReadings.{one_sort, one_constructors}
use Rattle.uc_scratch.proofs.Fits.{fits_at, fits_word, fits_path, fits_variables, fits_type_atoms}
use Rattle.uc_scratch.proofs.Lengths.{type_atoms_length}

head_is : (ts us : List Terminal) (t u : Terminal) → ts ≡ t ∷ us → t ≡ u → ts ≡ u ∷ us
head_is ts us t u e f = cc

-- the words before the name

sort_from : (ts us vs : List Terminal) (s : DeclarationSort) → ts ≡ us → ReadsSort ts s vs → ReadsSort us s vs
sort_from ts us vs s e h = let P : List Terminal → Type 0 = λ z. ReadsSort z s vs in subst P e h

pub no_sort_here : (ts : List Terminal) → ts ≡ [] → (s : DeclarationSort) (us : List Terminal) → ReadsSort ts s us → ⊥
no_sort_here ts e s us h = none (sort_from _ _ _ _ e h)
  where
    none : {s : DeclarationSort} {us : List Terminal} → ReadsSort [] s us → ⊥
    none h = elim h [ ]

pub plain_found : (ts us : List Terminal) (t : Terminal) (p : Place) → ts ≡ t ∷ us → t ≡ TypeWord p → ReadsSort ts (sort.Plain p) us
plain_found ts us t p e f = sort_from _ _ _ _ (sym (head_is _ _ _ _ e f)) plain_sort

two : (ts us vs : List Terminal) (t u v : Terminal) → ts ≡ t ∷ us → t ≡ u → us ≡ v ∷ vs → ts ≡ u ∷ v ∷ vs
two ts us vs t u v e f g = cc

pub structural_found : (ts us vs : List Terminal) (t : Terminal) (p q : Place) → ts ≡ t ∷ us → t ≡ Structural p → us ≡ TypeWord q ∷ vs → ReadsSort ts (sort.Structural p) vs
structural_found ts us vs t p q e f g = sort_from _ _ _ _ (sym (two _ _ _ _ _ _ e f g)) structural_sort

pub no_structural : (ts us : List Terminal) (t : Terminal) (p : Place) → ts ≡ t ∷ us → t ≡ Structural p → ((q : Place) (vs : List Terminal) → us ≡ TypeWord q ∷ vs → ⊥)
    → (s : DeclarationSort) (vs : List Terminal) → ReadsSort ts s vs → ⊥
no_structural ts us t p e f g s vs h = at_word g (sort_from _ _ _ _ (head_is _ _ _ _ e f) h)
  where
    at_word : {us vs : List Terminal} {p : Place} {s : DeclarationSort} → ((q : Place) (vs : List Terminal) → us ≡ TypeWord q ∷ vs → ⊥) → ReadsSort (Structural p ∷ us) s vs → ⊥
    at_word g structural_sort = g _ _ refl

pub unique_found : (ts us : List Terminal) (p q : Place) → ts ≡ TypeWord q ∷ us → ReadsSort (Unique p ∷ ts) (sort.Unique p) us
unique_found ts us p q e = let P : List Terminal → Type 0 = λ z. ReadsSort (Unique p ∷ z) (sort.Unique p) us in subst P (sym e) unique_sort

pub tagged_found : (ts us : List Terminal) (p : Place) (w v : Written) → IsTag ts w us → v ≡ w → ReadsSort (Unique p ∷ ts) (sort.Tagged p v) us
tagged_found ts us p w v (tag_front (path_in_square {t = t} i)) e = let P : Written → Type 0 = λ z. IsPath t z in tagged_sort (subst P (sym e) i)

pub no_unique : (ts : List Terminal) (p : Place) → ((q : Place) (us : List Terminal) → ts ≡ TypeWord q ∷ us → ⊥) → ((w : Written) (us : List Terminal) → IsTag ts w us → ⊥)
    → (s : DeclarationSort) (us : List Terminal) → ReadsSort (Unique p ∷ ts) s us → ⊥
no_unique ts p f g s us unique_sort = f _ _ refl
no_unique ts p f g s us (tagged_sort i) = g _ _ (tag_front (path_in_square i))

pub unique_at : (ts us vs : List Terminal) (t : Terminal) (p : Place) (s : DeclarationSort) → ts ≡ t ∷ us → t ≡ Unique p → ReadsSort (Unique p ∷ us) s vs → ReadsSort ts s vs
unique_at ts us vs t p s e f h = sort_from _ _ _ _ (sym (head_is _ _ _ _ e f)) h

pub no_unique_at : (ts us : List Terminal) (t : Terminal) (p : Place) → ts ≡ t ∷ us → t ≡ Unique p → ((s : DeclarationSort) (vs : List Terminal) → ReadsSort (Unique p ∷ us) s vs → ⊥)
    → (s : DeclarationSort) (vs : List Terminal) → ReadsSort ts s vs → ⊥
no_unique_at ts us t p e f g s vs h = g _ _ (sort_from _ _ _ _ (head_is _ _ _ _ e f) h)

pub no_sort : (ts us : List Terminal) (t : Terminal) → ts ≡ t ∷ us → ((p : Place) → t ≡ TypeWord p → ⊥) → ((p : Place) → t ≡ Structural p → ⊥) → ((p : Place) → t ≡ Unique p → ⊥)
    → (s : DeclarationSort) (vs : List Terminal) → ReadsSort ts s vs → ⊥
no_sort ts us t e f g h s vs k = at_head f g h (sort_from _ _ _ _ e k)
  where
    at_head : {t : Terminal} {us vs : List Terminal} {s : DeclarationSort} → ((p : Place) → t ≡ TypeWord p → ⊥) → ((p : Place) → t ≡ Structural p → ⊥) → ((p : Place) → t ≡ Unique p → ⊥)
        → ReadsSort (t ∷ us) s vs → ⊥
    at_head f g h plain_sort = f _ refl
    at_head f g h structural_sort = g _ refl
    at_head f g h unique_sort = h _ refl
    at_head f g h (tagged_sort i) = h _ refl

-- the tag

square_from : (ts us : List Terminal) (w : Written) (vs : List Terminal) → ts ≡ us → IsInSquare ts w vs → IsInSquare us w vs
square_from ts us w vs e h = let P : List Terminal → Type 0 = λ z. IsInSquare z w vs in subst P e h

three : (ts us vs xs : List Terminal) (t u v : Terminal) → ts ≡ t ∷ us → us ≡ u ∷ vs → vs ≡ v ∷ xs → ts ≡ t ∷ u ∷ v ∷ xs
three ts us vs xs t u v e f g = cc

pub square_there : (ts us vs xs : List Terminal) (p : Place) (t : Terminal) (w : Written) → ts ≡ LeftSquare p ∷ us → us ≡ t ∷ vs → Some w ≡ path_of t → vs ≡ RightSquare ∷ xs → IsInSquare ts w xs
square_there ts us vs xs p t w e f g h = square_from _ _ _ _ (sym (three _ _ _ _ _ _ _ e f h)) (path_in_square (path_is t w (sym g)))

-- what stands behind the opening bracket
record InSquare (us : List Terminal) (w : Written) (xs : List Terminal) : Type 0 where
  token : Terminal
  there : us ≡ token ∷ RightSquare ∷ xs
  named : IsPath token w

in_square : (ts us xs : List Terminal) (p : Place) (w : Written) → ts ≡ LeftSquare p ∷ us → IsInSquare ts w xs → InSquare us w xs
in_square ts us xs p w e h = at_square (square_from _ _ _ _ e h)
  where
    at_square : {us xs : List Terminal} {p : Place} {w : Written} → IsInSquare (LeftSquare p ∷ us) w xs → InSquare us w xs
    at_square (path_in_square i) = record { token = _; there = refl; named = i }

pub no_square : (ts : List Terminal) → ((p : Place) (us : List Terminal) → ts ≡ LeftSquare p ∷ us → ⊥) → (w : Written) (xs : List Terminal) → IsInSquare ts w xs → ⊥
no_square ts f w xs (path_in_square i) = f _ _ refl

nothing : (us vs : List Terminal) (t : Terminal) → us ≡ [] → us ≡ t ∷ vs → ⊥
nothing us vs t e f = cc

pub nothing_in_square : (ts us : List Terminal) (p : Place) → ts ≡ LeftSquare p ∷ us → us ≡ [] → (w : Written) (xs : List Terminal) → IsInSquare ts w xs → ⊥
nothing_in_square ts us p e f w xs h = nothing _ _ _ f (in_square _ _ _ _ _ e h).there

token_same : (us vs xs : List Terminal) (t u : Terminal) → us ≡ t ∷ vs → us ≡ u ∷ xs → t ≡ u
token_same us vs xs t u e f = cc

rest_same : (us vs xs : List Terminal) (t u : Terminal) → us ≡ t ∷ vs → us ≡ u ∷ xs → vs ≡ xs
rest_same us vs xs t u e f = cc

pub no_path_in_square : (ts us vs : List Terminal) (p : Place) (t : Terminal) → ts ≡ LeftSquare p ∷ us → us ≡ t ∷ vs → None ≡ path_of t → (w : Written) (xs : List Terminal) → IsInSquare ts w xs → ⊥
no_path_in_square ts us vs p t e f g w xs h =
    let x = in_square _ _ _ _ _ e h in no_path_is x.token w (sym (ap path_of (token_same _ _ _ _ _ f x.there)) ∙ sym g) x.named

pub not_closed : (ts us vs : List Terminal) (p : Place) (t : Terminal) → ts ≡ LeftSquare p ∷ us → us ≡ t ∷ vs → ((xs : List Terminal) → vs ≡ RightSquare ∷ xs → ⊥)
    → (w : Written) (xs : List Terminal) → IsInSquare ts w xs → ⊥
not_closed ts us vs p t e f g w xs h = g _ (rest_same _ _ _ _ _ f (in_square _ _ _ _ _ e h).there)

one_square : {ts : List Terminal} (us vs : List Terminal) (w v : Written) → IsInSquare ts w us → IsInSquare ts v vs → us ≡ vs
one_square us vs w v (path_in_square h) (path_in_square k) = refl

pub tag_there : (ts us vs : List Terminal) (p : Place) (w : Written) → IsInSquare ts w us → us ≡ TypeWord p ∷ vs → IsTag ts w vs
tag_there ts us vs p w h e = let P : List Terminal → Type 0 = λ z. IsInSquare ts w z in tag_front (subst P e h)

pub no_tag_square : (ts : List Terminal) → ((w : Written) (us : List Terminal) → IsInSquare ts w us → ⊥) → (w : Written) (us : List Terminal) → IsTag ts w us → ⊥
no_tag_square ts f w us (tag_front h) = f _ _ h

pub no_tag_word : (ts us : List Terminal) (v : Written) → IsInSquare ts v us → ((p : Place) (vs : List Terminal) → us ≡ TypeWord p ∷ vs → ⊥) → (w : Written) (vs : List Terminal) → IsTag ts w vs → ⊥
no_tag_word ts us v k f w vs (tag_front h) = f _ _ (one_square _ _ _ _ k h)

-- the name

type_name_from : (ts us : List Terminal) (w : Written) (vs : List Terminal) → ts ≡ us → IsTypeName ts w vs → IsTypeName us w vs
type_name_from ts us w vs e h = let P : List Terminal → Type 0 = λ z. IsTypeName z w vs in subst P e h

pub no_name_here : (ts : List Terminal) → ts ≡ [] → (w : Written) (vs : List Terminal) → IsTypeName ts w vs → ⊥
no_name_here ts e w vs h = none (type_name_from _ _ _ _ e h)
  where
    none : {w : Written} {vs : List Terminal} → IsTypeName [] w vs → ⊥
    none h = elim h [ ]

pub no_name_path : (ts us : List Terminal) (t : Terminal) → ts ≡ t ∷ us → None ≡ path_of t → (w : Written) (vs : List Terminal) → IsTypeName ts w vs → ⊥
no_name_path ts us t e f w vs h = at_name f (type_name_from _ _ _ _ e h)
  where
    at_name : {t : Terminal} {us vs : List Terminal} {w : Written} → None ≡ path_of t → IsTypeName (t ∷ us) w vs → ⊥
    at_name f (type_name i k) = no_path_is _ _ (sym f) i

type_text : (a b : List ℕ) (r : Bool) → a ≡ b → r ≡ is_type_name a → is_type_name b ≡ r
type_text a b r e f = sym (f ∙ ap is_type_name e)

pub name_there : (ts us : List Terminal) (t : Terminal) (w : Written) (text : List ℕ) → ts ≡ t ∷ us → Some w ≡ path_of t → text ≡ w.text → true ≡ is_type_name text → IsTypeName ts w us
name_there ts us t w text e f g h = type_name_from _ _ _ _ (sym e) (type_name (path_is t w (sym f)) (type_text _ _ _ g h))

pub no_name_letter : (ts us : List Terminal) (t : Terminal) (w : Written) (text : List ℕ) → ts ≡ t ∷ us → Some w ≡ path_of t → text ≡ w.text → false ≡ is_type_name text
    → (v : Written) (vs : List Terminal) → IsTypeName ts v vs → ⊥
no_name_letter ts us t w text e f g h v vs k = at_name (path_is t w (sym f)) (type_text _ _ _ g h) (type_name_from _ _ _ _ e k)
  where
    at_name : {t : Terminal} {us vs : List Terminal} {w v : Written} → IsPath t w → is_type_name w.text ≡ false → IsTypeName (t ∷ us) v vs → ⊥
    at_name i f (type_name k l) = different _ (ap (λ z. is_type_name z.text) (one_path i k) ∙ l) f

one_type_name : {ts : List Terminal} (us vs : List Terminal) (w v : Written) → IsTypeName ts w us → IsTypeName ts v vs → (w ≡ v) × (us ≡ vs)
one_type_name us vs w v (type_name h i) (type_name k l) = (one_path h k, refl)

-- the parameters

pub params_there : (ts us vs : List Terminal) (ws : List Written) → ReadsVariables ts ws us → us ≡ Equals ∷ vs → ReadsVariables ts ws (Equals ∷ vs)
params_there ts us vs ws h e = let P : List Terminal → Type 0 = λ z. ReadsVariables ts ws z in subst P e h

pub no_params_equals : (ts us : List Terminal) (ws : List Written) → ReadsVariables ts ws us → ends_variables us ≡ true → ((vs : List Terminal) → us ≡ Equals ∷ vs → ⊥)
    → (xs : List Written) (vs : List Terminal) → ReadsVariables ts xs (Equals ∷ vs) → ⊥
no_params_equals ts us ws h p f xs vs k = f _ ((one_variables _ _ _ _ p refl h k).1)

-- a declaration up to its `=`

pub declared_there : (ts us vs xs : List Terminal) (s : DeclarationSort) (w v : Written) (ws : List Written) → ReadsSort ts s us → IsTypeName us w vs → v ≡ w
    → ReadsVariables vs ws (Equals ∷ xs) → IsDeclared ts s v ws xs
declared_there ts us vs xs s w v ws h i e k = let P : Written → Type 0 = λ z. IsTypeName us z vs in declared h (subst P (sym e) i) k

pub no_declared_sort : (ts : List Terminal) → ((s : DeclarationSort) (us : List Terminal) → ReadsSort ts s us → ⊥)
    → (s : DeclarationSort) (w : Written) (ws : List Written) (us : List Terminal) → IsDeclared ts s w ws us → ⊥
no_declared_sort ts f s w ws us (declared h i k) = f _ _ h

pub no_declared_name : (ts us : List Terminal) (s : DeclarationSort) → ReadsSort ts s us → ((w : Written) (vs : List Terminal) → IsTypeName us w vs → ⊥)
    → (r : DeclarationSort) (w : Written) (ws : List Written) (xs : List Terminal) → IsDeclared ts r w ws xs → ⊥
no_declared_name ts us s l f r w ws xs (declared h i k) = f _ _ (type_name_from _ _ _ _ (sym ((one_sort _ _ _ _ l h).1)) i)

pub no_declared_params : (ts us vs : List Terminal) (s : DeclarationSort) (v : Written) → ReadsSort ts s us → IsTypeName us v vs
    → ((ws : List Written) (xs : List Terminal) → ReadsVariables vs ws (Equals ∷ xs) → ⊥)
    → (r : DeclarationSort) (w : Written) (ws : List Written) (xs : List Terminal) → IsDeclared ts r w ws xs → ⊥
no_declared_params ts us vs s v l m f r w ws xs (declared h i k) =
    let x = one_type_name _ _ _ _ m (type_name_from _ _ _ _ (sym ((one_sort _ _ _ _ l h).1)) i) in f _ _ (variables_from x.1 k)

one_declared : {ts : List Terminal} (us vs : List Terminal) (s r : DeclarationSort) (w v : Written) (ws xs : List Written)
    → IsDeclared ts s w ws us → IsDeclared ts r v xs vs → (w ≡ v) × (us ≡ vs)
one_declared us vs s r w v ws xs (declared h i k) (declared l m n) =
    let x = one_sort _ _ _ _ h l in
    let y = one_type_name _ _ _ _ i (type_name_from _ _ _ _ (sym x.1) m) in
    let z = one_variables _ _ _ _ refl refl k (variables_from y.1 n) in (y.0, tail_same _ _ _ _ z.1)

pub fits_declared : (n : ℕ) (ts us : List Terminal) (s : DeclarationSort) (w : Written) (ws : List Written) → IsDeclared ts s w ws us → fits n ts ≡ true → fits n us ≡ true
fits_declared n ts us s w ws (declared h i k) f = fits_variables n k (fits_name n i (fits_sort n h f))
  where
    fits_tag : (n : ℕ) {t : Terminal} (ts : List Terminal) {w : Written} (q r : Place) → IsPath t w → fits n (LeftSquare q ∷ t ∷ RightSquare ∷ TypeWord r ∷ ts) ≡ true → fits n ts ≡ true
    fits_tag zero ts q r i f = cc
    fits_tag (suc n) ts q r small_path f = f
    fits_tag (suc n) ts q r capital_path f = f
    fits_tag (suc n) ts q r dotted_path f = f

    fits_sort : (n : ℕ) {ts us : List Terminal} {s : DeclarationSort} → ReadsSort ts s us → fits n ts ≡ true → fits n us ≡ true
    fits_sort n plain_sort f = f
    fits_sort n structural_sort f = f
    fits_sort n unique_sort f = f
    fits_sort n (tagged_sort {q = q} {r = r} {ts = ts} i) f = fits_tag n ts q r i f

    fits_name : (n : ℕ) {ts us : List Terminal} {w : Written} → IsTypeName ts w us → fits n ts ≡ true → fits n us ≡ true
    fits_name n (type_name {ts = ts} i k) f = fits_path n ts i f

-- a constructor

constructor_from : (ts us : List Terminal) (c : Constructor) (vs : List Terminal) → ts ≡ us → ReadsConstructor ts c vs → ReadsConstructor us c vs
constructor_from ts us c vs e h = let P : List Terminal → Type 0 = λ z. ReadsConstructor z c vs in subst P e h

pub constructor_found : (ts us vs : List Terminal) (t : Terminal) (w v : Written) (bs : TypeAtoms) → ts ≡ t ∷ us → Some w ≡ word_of t → v ≡ w → ReadsTypeAtoms us bs vs
    → ReadsConstructor ts (record { name = v; fields = bs }) vs
constructor_found ts us vs t w v bs e f g h =
    let P : Written → Type 0 = λ z. IsWord t z in
    constructor_from _ _ _ _ (sym e) (constructor_fields (subst P (sym g) (word_is t w (sym f))) h)

pub no_constructor_here : (ts : List Terminal) → ts ≡ [] → (c : Constructor) (us : List Terminal) → ReadsConstructor ts c us → ends_type_atoms us ≡ true → ⊥
no_constructor_here ts e c us h p = none (constructor_from _ _ _ _ e h)
  where
    none : {c : Constructor} {us : List Terminal} → ReadsConstructor [] c us → ⊥
    none h = elim h [ ]

pub no_constructor_word : (ts us : List Terminal) (t : Terminal) → ts ≡ t ∷ us → None ≡ word_of t → (c : Constructor) (vs : List Terminal) → ReadsConstructor ts c vs → ends_type_atoms vs ≡ true → ⊥
no_constructor_word ts us t e f c vs h p = at_word f (constructor_from _ _ _ _ e h)
  where
    no_word_is : {t : Terminal} {w : Written} → IsWord t w → None ≡ word_of t → ⊥
    no_word_is small_word f = cc
    no_word_is capital_word f = cc

    at_word : {t : Terminal} {us vs : List Terminal} {c : Constructor} → None ≡ word_of t → ReadsConstructor (t ∷ us) c vs → ⊥
    at_word f (constructor_fields i h) = no_word_is i f

pub no_constructor_fields : (ts us : List Terminal) (t : Terminal) → ts ≡ t ∷ us → ((bs : TypeAtoms) (vs : List Terminal) → ReadsTypeAtoms us bs vs → ends_type_atoms vs ≡ true → ⊥)
    → (c : Constructor) (vs : List Terminal) → ReadsConstructor ts c vs → ends_type_atoms vs ≡ true → ⊥
no_constructor_fields ts us t e f c vs h p = at_word f p (constructor_from _ _ _ _ e h)
  where
    at_word : {t : Terminal} {us vs : List Terminal} {c : Constructor} → ((bs : TypeAtoms) (vs : List Terminal) → ReadsTypeAtoms us bs vs → ends_type_atoms vs ≡ true → ⊥)
        → ends_type_atoms vs ≡ true → ReadsConstructor (t ∷ us) c vs → ⊥
    at_word f p (constructor_fields i h) = f _ _ h p

pub fits_behind_word : (n : ℕ) (ts us : List Terminal) (t : Terminal) (w : Written) → ts ≡ t ∷ us → Some w ≡ word_of t → fits n ts ≡ true → fits n us ≡ true
fits_behind_word n ts us t w e f g = fits_word n us (word_is t w (sym f)) (fits_at n _ _ e g)

one_constructor_there : {ts : List Terminal} (us vs : List Terminal) (c d : Constructor) → ends_type_atoms us ≡ true → ends_type_atoms vs ≡ true
    → ReadsConstructor ts c us → ReadsConstructor ts d vs → us ≡ vs
one_constructor_there us vs c d p q (constructor_fields h i) (constructor_fields k l) = (one_type_atoms _ _ _ _ p q i l).1

-- constructors

pub record ConstructorsSoFar (ts rest : List Terminal) (cs : List seen.Constructor) : Type 0 where
  pub found : (ds : List Constructor) → ReadsConstructors rest ds → ReadsConstructors ts (constructors_of cs ++ ds)
  pub only : (ds : List Constructor) → ReadsConstructors ts ds → (es : List Constructor) × ReadsConstructors rest es

constructors_push : (cs : List seen.Constructor) (c : seen.Constructor) (ds : List Constructor) → constructors_of (cs ++ c ∷ []) ++ ds ≡ constructors_of cs ++ constructor_of c ∷ ds
constructors_push [] c ds = refl
constructors_push (b ∷ cs) c ds = ap (λ l. constructor_of b ∷ l) (constructors_push cs c ds)

constructors_end_here : (cs : List seen.Constructor) (c : seen.Constructor) → constructors_of (cs ++ c ∷ []) ≡ constructors_of cs ++ constructor_of c ∷ []
constructors_end_here [] c = refl
constructors_end_here (b ∷ cs) c = ap (λ l. constructor_of b ∷ l) (constructors_end_here cs c)

constructors_as : (ts : List Terminal) (cs ds : List Constructor) → cs ≡ ds → ReadsConstructors ts ds → ReadsConstructors ts cs
constructors_as ts cs ds e h = let P : List Constructor → Type 0 = λ z. ReadsConstructors ts z in subst P (sym e) h

constructors_from : (ts us : List Terminal) (cs : List Constructor) → ts ≡ us → ReadsConstructors ts cs → ReadsConstructors us cs
constructors_from ts us cs e h = let P : List Terminal → Type 0 = λ z. ReadsConstructors z cs in subst P e h

constructor_up_to : (ts us vs : List Terminal) (c : Constructor) → us ≡ vs → ReadsConstructor ts c us → ReadsConstructor ts c vs
constructor_up_to ts us vs c e h = let P : List Terminal → Type 0 = λ z. ReadsConstructor ts c z in subst P e h

pub constructors_begin : (ts : List Terminal) (cs : List seen.Constructor) → cs ≡ [] → ConstructorsSoFar ts ts cs
constructors_begin ts cs e =
    let P : List seen.Constructor → Type 0 = λ z. ConstructorsSoFar ts ts z in
    subst P (sym e) (record { found = λ ds h. h; only = λ ds h. (ds, h) })

no_bar : (us : List Terminal) → Bar ∷ us ≡ [] → ⊥
no_bar us e = cc

behind_bar : {ts us : List Terminal} {c : Constructor} {ds : List Constructor} → ReadsConstructor ts c (Bar ∷ us) → ReadsConstructors ts ds → (es : List Constructor) × ReadsConstructors us es
behind_bar h (last_constructor k) = absurd (no_bar _ (one_constructor_there _ _ _ _ refl refl h k))
behind_bar h (more_constructors k l) = (_, constructors_from _ _ _ (sym (tail_same _ _ _ _ (one_constructor_there _ _ _ _ refl refl h k))) l)

pub constructors_bar : (ts rest after next : List Terminal) (c : seen.Constructor) (cs cs1 : List seen.Constructor) → ReadsConstructor rest (constructor_of c) after → after ≡ Bar ∷ next
    → cs1 ≡ cs ++ c ∷ [] → ConstructorsSoFar ts rest cs → ConstructorsSoFar ts next cs1
constructors_bar ts rest after next c cs cs1 h e p o =
    let k = constructor_up_to _ _ _ _ e h in record {
      found = λ ds w. constructors_as _ _ _ (ap (λ z. constructors_of z ++ ds) p ∙ constructors_push cs c ds) (o.found _ (more_constructors k w));
      only = λ ds w. (let x = o.only ds w in behind_bar k x.1);
    }

pub constructors_done : (ts rest after : List Terminal) (c : seen.Constructor) (cs cs1 : List seen.Constructor) → ReadsConstructor rest (constructor_of c) after → after ≡ []
    → cs1 ≡ cs ++ c ∷ [] → ConstructorsSoFar ts rest cs → ReadsConstructors ts (constructors_of cs1)
constructors_done ts rest after c cs cs1 h e p o =
    constructors_as _ _ _ (ap constructors_of p ∙ constructors_end_here cs c) (o.found _ (last_constructor (constructor_up_to _ _ _ _ e h)))

neither : {ts us : List Terminal} {c : Constructor} {ds : List Constructor} → ReadsConstructor ts c us → ends_type_atoms us ≡ true → length us ≢ 0 → ((vs : List Terminal) → us ≡ Bar ∷ vs → ⊥)
    → ReadsConstructors ts ds → ⊥
neither h p n f (last_constructor k) = n (ap length (one_constructor_there _ _ _ _ p refl h k))
neither h p n f (more_constructors k l) = f _ (one_constructor_there _ _ _ _ p refl h k)

pub constructors_stuck : (ts rest after : List Terminal) (c : Constructor) (cs : List seen.Constructor) → ReadsConstructor rest c after → ends_type_atoms after ≡ true → length after ≢ 0
    → ((vs : List Terminal) → after ≡ Bar ∷ vs → ⊥) → ConstructorsSoFar ts rest cs → (ds : List Constructor) → ReadsConstructors ts ds → ⊥
constructors_stuck ts rest after c cs h p n f o ds w = let x = o.only ds w in neither h p n f x.1

first_of : {ts : List Terminal} {ds : List Constructor} → ReadsConstructors ts ds → ((c : Constructor) (us : List Terminal) → ReadsConstructor ts c us → ends_type_atoms us ≡ true → ⊥) → ⊥
first_of (last_constructor k) f = f _ _ k refl
first_of (more_constructors k l) f = f _ _ k refl

pub constructors_none : (ts rest : List Terminal) (cs : List seen.Constructor) → ((c : Constructor) (us : List Terminal) → ReadsConstructor rest c us → ends_type_atoms us ≡ true → ⊥)
    → ConstructorsSoFar ts rest cs → (ds : List Constructor) → ReadsConstructors ts ds → ⊥
constructors_none ts rest cs f o ds w = let x = o.only ds w in first_of x.1 f

shorter : {ts us : List Terminal} {c : Constructor} → ReadsConstructor ts c us → length us < length ts
shorter (constructor_fields i h) = omega (arith, type_atoms_length h)

pub constructor_smaller : (rest after next : List Terminal) (c : Constructor) → ReadsConstructor rest c after → after ≡ Bar ∷ next → length next < length rest
constructor_smaller rest after next c h e = omega (arith, shorter h, ap length e)

fits_constructor : (n : ℕ) {ts us : List Terminal} {c : Constructor} → ReadsConstructor ts c us → fits n ts ≡ true → fits n us ≡ true
fits_constructor n (constructor_fields {ts = ts} i h) f = fits_type_atoms n h (fits_word n ts i f)

pub fits_next : (n : ℕ) (rest after next : List Terminal) (c : Constructor) → ReadsConstructor rest c after → after ≡ Bar ∷ next → fits n rest ≡ true → fits n next ≡ true
fits_next n rest after next c h e f = fits_at n _ _ e (fits_constructor n h f)

-- the whole declaration

pub declaration_there : (ts us : List Terminal) (s : DeclarationSort) (w : Written) (ws : List Written) (cs ds : List seen.Constructor) → IsDeclared ts s w ws us → ReadsConstructors us (constructors_of cs)
    → ds ≡ cs → true ≡ names_fit w (constructors_of ds) → IsDeclaration ts (declaration s w ws (constructors_of cs))
declaration_there ts us s w ws cs ds h i e f = whole_declaration h i (sym (f ∙ ap (λ z. names_fit w (constructors_of z)) e))

pub no_declaration_front : (ts : List Terminal) → ((s : DeclarationSort) (w : Written) (ws : List Written) (us : List Terminal) → IsDeclared ts s w ws us → ⊥)
    → (i : Item) → IsDeclaration ts i → ⊥
no_declaration_front ts f i (whole_declaration h k e) = f _ _ _ _ h

pub no_declaration_constructors : (ts us : List Terminal) (s : DeclarationSort) (w : Written) (ws : List Written) → IsDeclared ts s w ws us → ((cs : List Constructor) → ReadsConstructors us cs → ⊥)
    → (i : Item) → IsDeclaration ts i → ⊥
no_declaration_constructors ts us s w ws l f i (whole_declaration h k e) = f _ (constructors_from _ _ _ (sym ((one_declared _ _ _ _ _ _ _ _ l h).1)) k)

pub no_declaration_names : (ts us : List Terminal) (s : DeclarationSort) (w : Written) (ws : List Written) (cs ds : List seen.Constructor) → IsDeclared ts s w ws us → ReadsConstructors us (constructors_of cs)
    → ds ≡ cs → false ≡ names_fit w (constructors_of ds) → (i : Item) → IsDeclaration ts i → ⊥
no_declaration_names ts us s w ws cs ds l m q f i (whole_declaration {w = v} h k e) =
    let x = one_declared _ _ _ _ _ _ _ _ l h in
    let y = one_constructors _ _ m (constructors_from _ _ _ (sym x.1) k) in
    different _ (ap (λ z. names_fit z (constructors_of cs)) x.0 ∙ ap (names_fit v) y ∙ e) (sym (f ∙ ap (λ z. names_fit w (constructors_of z)) q))

-- the names

constructor_there : (cs : List seen.Constructor) (i : ℕ) (c : seen.Constructor) → i < length cs → c ≡ get_or cs i c
    → constructors_of (drop i cs) ≡ constructor_of c ∷ constructors_of (drop (i + 1) cs)
constructor_there cs i c h e = ap constructors_of (drop_more cs i c h) ∙ ap (λ d. constructor_of d ∷ constructors_of (drop (i + 1) cs)) (sym e)

le_true : (a b : ℕ) → a ≤ b → nat_le a b ≡ true
le_true a b h = grind (arith, nat_tests)

le_false : (a b : ℕ) → b < a → nat_le a b ≡ false
le_false a b h = grind (arith, nat_tests)

pub names_step : (w : Written) (cs : List seen.Constructor) (i : ℕ) (c : seen.Constructor) (r : Bool) → i < length cs → c ≡ get_or cs i c
    → length w.text + 1 + length c.name.text ≤ 128 → names_fit w (constructors_of (drop i cs)) ≡ r → names_fit w (constructors_of (drop (i + 1) cs)) ≡ r
names_step w cs i c r h e p k =
    let rest = names_fit w (constructors_of (drop (i + 1) cs)) in
    sym (ap (λ b. b && rest) (le_true _ _ p)) ∙ sym (ap (names_fit w) (constructor_there cs i c h e)) ∙ k

pub names_stop : (w : Written) (cs : List seen.Constructor) (i : ℕ) (c : seen.Constructor) (r : Bool) → i < length cs → c ≡ get_or cs i c
    → 128 < length w.text + 1 + length c.name.text → names_fit w (constructors_of (drop i cs)) ≡ r → false ≡ r
names_stop w cs i c r h e p k =
    let rest = names_fit w (constructors_of (drop (i + 1) cs)) in
    sym (ap (λ b. b && rest) (le_false _ _ p)) ∙ sym (ap (names_fit w) (constructor_there cs i c h e)) ∙ k

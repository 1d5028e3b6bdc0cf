-- An item before others.
use Rattle.std.proofs.Common.{◌≡◌, ℕ, ◌+◌, ◌<◌, List, [], ◌∷◌, ◌++◌, length, get_or, drop, refl, sym, ap, ◌∙◌, inl, inr, Option, None, Result, Ok, Err, OnOk}
use Rattle.std.specs.Prelude.{reverse}
use Rattle.std.proofs.lemmas.List.{drop_more}
use Rattle.uc_base.specs.declared.place.Place.{Place}
use Rattle.uc_base.specs.declared.fault.Fault.{Fault}
use Rattle.uc_scratch.specs.declared.block.BindingFront.{BindingFront}
use Rattle.uc_scratch.specs.declared.block.BindingFront.TheVariants as front
use Rattle.uc_scratch.specs.declared.file.DeclarationSort.{DeclarationSort}
use Rattle.uc_scratch.specs.declared.written.Written.{Written}
use Rattle.uc_scratch.specs.ExprGrammar.{head_name}
use Rattle.uc_scratch.specs.Exprs.{Expr, Block}
use Rattle.uc_scratch.specs.Files as file
use Rattle.uc_scratch.specs.Files.{Constructor, Item}
use Rattle.uc_scratch.specs.declared.file.Item as seen
use Rattle.uc_scratch.specs.FileViews.{binding_of, item_of, items_of}
use Rattle.uc_meaning.specs.Meanings.{Known}
use Rattle.uc_meaning.specs.TypeMeanings.{type_atoms_meaning}
use Rattle.uc_scratch.specs.TypeLevels.{texts_of}
use Rattle.uc_meaning.specs.ExprMeanings.{Scope, Signed, no_parts, expr_meaning}
use Rattle.uc_meaning.specs.Programs.{Meaning, named, ctors_meaning, fields_meaning, definition_meaning, with_kind, with_term, with_watch, items_meaning}
use Rattle.uc_meaning.specs.Results.{◌>>=◌}
use Rattle.uc_resolve.specs.declared.items.Before.{Before}
use Rattle.uc_resolve.specs.Passing.{rest_meaning, Passes}
use Rattle.uc_resolve.specs.ItemMeanings.{Adds, joined, behind, before_rest, fields_scope, declared, declaration_adds, binding_adds, watch_adds}

-- the fields of constructors ask for `use` clauses and type variables alone
pub fields_in_scope : (known : Known) (s t : Scope) (cs : List Constructor) → s.usings ≡ t.usings → s.variables ≡ t.variables → fields_meaning known s cs ≡ fields_meaning known t cs
fields_in_scope known s t [] u v = refl
fields_in_scope known s t (c ∷ cs) u v =
    ap (λ r. r >>= λ x. fields_meaning known s cs >>= λ xs. Ok (x.0 ∷ xs.0, x.1 ++ xs.1))
    (ap (λ us. type_atoms_meaning known us s.variables c.fields) u ∙ ap (λ vs. type_atoms_meaning known t.usings vs c.fields) v)
    ∙ ap (λ r. type_atoms_meaning known t.usings t.variables c.fields >>= λ x. r >>= λ xs. Ok (x.0 ∷ xs.0, x.1 ++ xs.1)) (fields_in_scope known s t cs u v)

-- ---- what an item adds, before what stands behind it

one_adds : {X : Type 0} (r : Result X Fault) (f : X → Meaning → Meaning) (rest : Result Meaning Fault)
    → (r >>= λ x. rest >>= λ m. Ok (f x m)) ≡ before_rest (r >>= λ x. Ok (f x)) rest
one_adds (Ok x) f rest = refl
one_adds (Err e) f rest = refl

two_add : {X Y : Type 0} (r : Result X Fault) (s : Result Y Fault) (f : X → Y → Meaning → Meaning) (rest : Result Meaning Fault)
    → (r >>= λ x. s >>= λ y. rest >>= λ m. Ok (f x y m)) ≡ before_rest (r >>= λ x. s >>= λ y. Ok (f x y)) rest
two_add (Ok x) s f rest = one_adds s (f x) rest
two_add (Err e) s f rest = refl

three_add : {X Y Z : Type 0} (r : Result X Fault) (s : Result Y Fault) (t : Result Z Fault) (f : X → Y → Z → Meaning → Meaning) (rest : Result Meaning Fault)
    → (r >>= λ x. s >>= λ y. t >>= λ z. rest >>= λ m. Ok (f x y z m)) ≡ before_rest (r >>= λ x. s >>= λ y. t >>= λ z. Ok (f x y z)) rest
three_add (Ok x) s t f rest = two_add s t (f x) rest
three_add (Err e) s t f rest = refl

pub declaration_step : (known : Known) (scope : Scope) (signed : Option Signed) (k : ℕ) (s : DeclarationSort) (w : Written) (ws : List Written) (cs : List Constructor) (is : List Item)
    → items_meaning known scope signed k (file.declaration s w ws cs ∷ is) ≡ before_rest (declaration_adds known scope.usings k s w ws cs) (items_meaning known scope None (k + 1) is)
declaration_step known scope signed k s w ws cs is =
    let rest = items_meaning known scope None (k + 1) is in
    ap (λ r. named w.text >>= λ name. ctors_meaning k w 0 cs >>= λ ctors. r >>= λ fields. rest >>= λ m. Ok (with_kind name ctors w.place (declared s w ws fields) m))
    (fields_in_scope known (record scope { variables = reverse (texts_of ws) }) (fields_scope scope.usings ws) cs refl refl)
    ∙ three_add (named w.text) (ctors_meaning k w 0 cs) (fields_meaning known (fields_scope scope.usings ws) cs) (λ name ctors fields. with_kind name ctors w.place (declared s w ws fields)) rest

pub binding_step : (known : Known) (scope : Scope) (signed : Option Signed) (k : ℕ) (f : BindingFront) (b : Block) (is : List Item)
    → items_meaning known scope signed k (binding_of f b ∷ is) ≡ before_rest (binding_adds known scope signed f b) (items_meaning known scope None k is)
binding_step known scope signed k (front.Prefix h ps) b is =
    two_add (named (head_name h).text) (definition_meaning known scope signed (head_name h) ps.items b) (λ name. with_term name (head_name h).place) (items_meaning known scope None k is)
binding_step known scope signed k (front.Infix x w y) b is =
    two_add (named w.text) (definition_meaning known scope signed w (x ∷ y ∷ []) b) (λ name. with_term name w.place) (items_meaning known scope None k is)

pub watch_step : (known : Known) (scope : Scope) (signed : Option Signed) (k : ℕ) (p : Place) (e : Expr) (is : List Item)
    → items_meaning known scope signed k (file.watch p e ∷ is) ≡ before_rest (watch_adds known scope p e) (items_meaning known scope None k is)
watch_step known scope signed k p e is = one_adds (expr_meaning known scope e no_parts []) (with_watch p) (items_meaning known scope None k is)

behind_added : (a : Meaning) (adds : Result (Meaning → Meaning) Fault) (rest : Result Meaning Fault)
    → behind a (before_rest adds rest) ≡ (adds >>= λ add. rest >>= λ m. Ok (joined a (add m)))
behind_added a (Ok add) (Ok m) = refl
behind_added a (Ok add) (Err e) = refl
behind_added a (Err e) rest = refl

-- an item that was added
passed : (old new : Meaning) (adds : Result (Meaning → Meaning) Fault) (rest whole : Result Meaning Fault) → whole ≡ before_rest adds rest
    → ((r : Result Meaning Fault) → (adds >>= λ add. r >>= λ m. Ok (joined old (add m))) ≡ behind new r) → behind old whole ≡ behind new rest
passed old new adds rest whole h k = ap (behind old) h ∙ behind_added old adds rest ∙ k rest

-- an item that has a fault
refused : (adds : Result (Meaning → Meaning) Fault) (rest whole : Result Meaning Fault) (e : Fault) → whole ≡ before_rest adds rest → adds ≡ Err e → whole ≡ Err e
refused adds rest whole e h k = h ∙ ap (λ r. before_rest r rest) k

-- what was added passes an item
pub passes : {X : Type 0} (known : Known) (old same new : Before) (a b : Meaning) (i : Item) (r : Result X Fault) (adds : Result (Meaning → Meaning) Fault)
    → ((is : List Item) → rest_meaning known old (i ∷ is) ≡ before_rest adds (rest_meaning known same is)) → Adds a b r adds → OnOk r (new ≡ same) → Passes known old new a b i r
passes known old same new a b i (Ok x) adds h k e = λ is.
    passed a b adds (rest_meaning known same is) (rest_meaning known old (i ∷ is)) (h is) k ∙ ap (λ n. behind b (rest_meaning known n is)) (sym e)
passes known old same new a b i (Err e) adds h k n = elim k [
  | inl m ↦ inl m
  | inr f ↦ inr (λ is. refused adds (rest_meaning known same is) (rest_meaning known old (i ∷ is)) e (h is) f)
]

pub on_any : {X P : Type 0} (r : Result X Fault) → P → OnOk r P
on_any (Ok x) p = p
on_any (Err e) p = tt

-- an item of a list and those behind it
pub item_there : (is : List seen.Item) (k : ℕ) (i : seen.Item) → k < length is → i ≡ get_or is k i → items_of (drop k is) ≡ item_of i ∷ items_of (drop (k + 1) is)
item_there is k i h e = ap items_of (drop_more is k i h ∙ ap (λ j. j ∷ drop (k + 1) is) (sym e))

pub ruleset item_steps = (declaration_step, binding_step, watch_step)

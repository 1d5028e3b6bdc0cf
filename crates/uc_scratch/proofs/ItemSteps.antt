-- What each step of the reader of items leaves to read.
use Rattle.std.proofs.Common.{◌≡◌, ◌≢◌, ℕ, ◌<◌, ◌≤◌, true, false, List, [], ◌∷◌, length, refl, subst, sym, ap, arith}
use Rattle.std.proofs.lemmas.Bool.Decides.{nat_tests}
use Rattle.std.specs.Prelude.{◌==◌}
use Rattle.uc_base.specs.declared.place.Place.{Place}
use Rattle.uc_scratch.specs.declared.written.Written.{Written}
use Rattle.uc_scratch.specs.declared.written.Param.{Param}
use Rattle.uc_scratch.specs.declared.written.Head.{Head}
use Rattle.uc_scratch.specs.declared.terminal.Terminal.{Terminal}
use Rattle.uc_scratch.specs.declared.terminal.Terminal.TheVariants.{Greater, Equals, Colon, Use, Item as ItemMark}
use Rattle.uc_scratch.specs.TypeExprs.{TypeExpr}
use Rattle.uc_scratch.specs.Exprs.{Expr, done, Block}
use Rattle.uc_scratch.specs.Files.{Item, using, declaration, signature, prefix, infix_operator, watch}
use Rattle.uc_scratch.specs.Terminals.{IsOperator}
use Rattle.uc_scratch.specs.TypeGrammar.{ReadsType}
use Rattle.uc_scratch.specs.ExprGrammar.{ReadsParams, ReadsUsed, ReadsHead, path_head, operator_head, ReadsBound, path_bound, ReadsExpr, ReadsBlock}
use Rattle.uc_scratch.specs.ItemGrammar.{ReadsItem, use_file_item, declaration_file_item, signature_file_item, prefix_file_item, infix_file_item, watch_file_item}
use Rattle.uc_scratch.specs.ItemParts.{IsBehindMark, NoItem, IsTypeName, type_name, IsDeclared, declared, IsDeclaration, whole_declaration}
use Rattle.uc_scratch.specs.Follows.{reach, ends_type, ends_used}
use Rattle.uc_scratch.specs.Fronts.{IsUse, use_front, IsSigned, IsPrefix, prefix_front, IsInfix, infix_front, NoFront}
use Rattle.uc_scratch.specs.Nesting.{fits}
use Rattle.uc_scratch.proofs.Classes.{one_params, one_head, bound_head}
use Rattle.uc_scratch.proofs.TypeReadings.{tail_same, type_from, one_type}
use Rattle.uc_scratch.proofs.ExprReadings.{block_from, params_from, one_expr, one_block, no_params_at_colon, no_infix_at_colon, no_prefix_at_operator}
use Rattle.uc_scratch.proofs.ItemReadings.{no_head, no_param, no_watch, no_watch_at_colon, no_bound_watch}
use Rattle.uc_scratch.proofs.ExprParts.{one_used_here}
use Rattle.uc_scratch.proofs.Fits.{fits_at, fits_head}

-- what reads all tokens

empty : (us : List Terminal) → true ≡ (length us == 0) → us ≡ []
empty us e = no_length us (no_number (length us) e)
  where
    no_number : (n : ℕ) → true ≡ (n == 0) → n ≡ 0
    no_number n e = grind (arith, nat_tests)

    no_length : (us : List Terminal) → length us ≡ 0 → us ≡ []
    no_length [] e = refl
    no_length (t ∷ us) e = absurd (omega arith)

pub type_ends : (ts us : List Terminal) (t : TypeExpr) → ReadsType ts t us → us ≡ [] → ReadsType ts t []
type_ends ts us t h e = let P : List Terminal → Type 0 = λ z. ReadsType ts t z in subst P e h

pub type_left : (ts us : List Terminal) (t : TypeExpr) → ReadsType ts t us → ends_type us ≡ true → length us ≢ 0 → (u : TypeExpr) → ReadsType ts u [] → ⊥
type_left ts us t h p n u k = n (ap length ((one_type _ _ _ _ p refl h k).1))

pub expr_ends : (ts us : List Terminal) (e : Expr) → ReadsExpr ts e us done → us ≡ [] → ReadsExpr ts e [] done
expr_ends ts us e h p = let P : List Terminal → Type 0 = λ z. ReadsExpr ts e z done in subst P p h

pub expr_left : (ts us : List Terminal) (e : Expr) → ReadsExpr ts e us done → 6 ≤ reach us → length us ≢ 0 → (f : Expr) → ReadsExpr ts f [] done → ⊥
expr_left ts us e h p n f k = n (ap length ((one_expr _ _ _ _ _ _ p (omega arith) h k).0))

pub block_ends : (ts us : List Terminal) (b : Block) → ReadsBlock ts b us → true ≡ (length us == 0) → ReadsBlock ts b []
block_ends ts us b h e = let P : List Terminal → Type 0 = λ z. ReadsBlock ts b z in subst P (empty us e) h

pub block_left : (ts us : List Terminal) (b : Block) → ReadsBlock ts b us → length us ≢ 0 → (c : Block) → ReadsBlock ts c [] → ⊥
block_left ts us b h n c k = n (ap length ((one_block _ _ _ _ h k).1))

-- uses

pub use_found : (ts us : List Terminal) (p : Place) (w : Written) (ws : List Written) → IsUse ts p w ws us → us ≡ [] → IsBehindMark ts (using p w ws)
use_found ts us p w ws (use_front {ts = rest} i k) e q = let P : List Terminal → Type 0 = λ z. ReadsUsed rest ws z in use_file_item i (subst P e k)

pub use_left : (ts us : List Terminal) (p : Place) (w : Written) (ws : List Written) → IsUse ts p w ws us → ends_used us ≡ true → length us ≢ 0 → NoItem ts
use_left ts us p w ws (use_front i k) f n q j (use_file_item l m) = n (ap length (one_used_here _ _ _ _ f refl k m))
use_left ts us p w ws (use_front i k) f n q j (declaration_file_item l m o r s u) = elim l [ ]
use_left ts us p w ws (use_front i k) f n q j (signature_file_item (path_head l) m) = elim l [ ]
use_left ts us p w ws (use_front i k) f n q j (signature_file_item (operator_head l) m) = elim l [ ]
use_left ts us p w ws (use_front i k) f n q j (prefix_file_item (path_bound l) m o) = elim l [ ]
use_left ts us p w ws (use_front i k) f n q j (infix_file_item l m o r) = elim l [ ]

-- signatures

pub signature_found : (ts us : List Terminal) (h : Head) (t : TypeExpr) → IsSigned ts h us → ReadsType us t [] → IsBehindMark ts (signature h t)
signature_found ts us h t i k p = signature_file_item i k

no_signature_at : {q : Place} {ts us : List Terminal} {h : Head} {i : Item} → ReadsHead ts h (Colon ∷ us) → ((t : TypeExpr) → ReadsType us t [] → ⊥) → ReadsItem (ItemMark q ∷ ts) i → ⊥
no_signature_at (path_head h) f (use_file_item k l) = elim h [ ]
no_signature_at (operator_head h) f (use_file_item k l) = elim h [ ]
no_signature_at h f (declaration_file_item k l m n o p) = no_head k h
no_signature_at h f (signature_file_item k l) = let x = one_head _ _ _ _ h k in f _ (type_from _ _ _ _ (tail_same _ _ _ _ x.1) l)
no_signature_at h f (prefix_file_item k l m) = let x = one_head _ _ _ _ h (bound_head k) in no_params_at_colon (params_from _ _ _ _ x.1 l)
no_signature_at h f (infix_file_item k l m n) = no_infix_at_colon h k l
no_signature_at h f (watch_file_item k) = no_watch_at_colon h k

pub no_signature : (ts us : List Terminal) (h : Head) → IsSigned ts h us → ((t : TypeExpr) → ReadsType us t [] → ⊥) → NoItem ts
no_signature ts us h i f q j k = no_signature_at i f k

pub fits_signed : (n : ℕ) (ts us : List Terminal) (h : Head) → IsSigned ts h us → fits n ts ≡ true → fits n us ≡ true
fits_signed n ts us h i f = fits_head n i f

-- bindings

pub prefix_found : (ts us : List Terminal) (h : Head) (ps : List Param) (b : Block) → IsPrefix ts h ps us → ReadsBlock us b [] → IsBehindMark ts (prefix h ps b)
prefix_found ts us h ps b (prefix_front i k) l p = prefix_file_item i k l

pub no_prefix : (ts us : List Terminal) (h : Head) (ps : List Param) → IsPrefix ts h ps us → ((b : Block) → ReadsBlock us b [] → ⊥) → NoItem ts
no_prefix ts us h ps (prefix_front (path_bound g) i) f q j (use_file_item k l) = elim g [ ]
no_prefix ts us h ps (prefix_front g i) f q j (declaration_file_item k l m n o p) = no_head k (bound_head g)
no_prefix ts us h ps (prefix_front g i) f q j (signature_file_item k l) =
    let x = one_head _ _ _ _ k (bound_head g) in no_params_at_colon (params_from _ _ _ _ x.1 i)
no_prefix ts us h ps (prefix_front g i) f q j (prefix_file_item k l m) =
    let x = one_head _ _ _ _ (bound_head g) (bound_head k) in
    let y = one_params _ _ _ _ refl refl i (params_from _ _ _ _ x.1 l) in f _ (block_from _ _ _ _ (tail_same _ _ _ _ y.1) m)
no_prefix ts us h ps (prefix_front g i) f q j (infix_file_item k l m n) = no_prefix_at_operator g i k l
no_prefix ts us h ps (prefix_front g i) f q j (watch_file_item k) = no_bound_watch g

pub infix_found : (ts us : List Terminal) (x y : Param) (w : Written) (b : Block) → IsInfix ts x w y us → ReadsBlock us b [] → IsBehindMark ts (infix_operator x w y b)
infix_found ts us x y w b (infix_front i j k) l p = infix_file_item i j k l

pub no_infix : (ts us : List Terminal) (x y : Param) (w : Written) → IsInfix ts x w y us → ((b : Block) → ReadsBlock us b [] → ⊥) → NoItem ts
no_infix ts us x y w (infix_front h i j) f q k (use_file_item l m) = elim h [ ]
no_infix ts us x y w (infix_front h i j) f q k (declaration_file_item l m n o p r) = no_param l h
no_infix ts us x y w (infix_front h i j) f q k (signature_file_item l m) = no_infix_at_colon l h i
no_infix ts us x y w (infix_front h i j) f q k (prefix_file_item l m n) = no_prefix_at_operator l m h i
no_infix ts us x y w (infix_front h i j) f q k (infix_file_item l m n o) = f _ o
no_infix ts us x y w (infix_front h i j) f q k (watch_file_item l) = elim h [ ]

-- watches and declarations

pub watch_found : (ts us : List Terminal) (w : Written) (e : Expr) → ts ≡ Greater w ∷ us → ReadsExpr us e [] done → IsBehindMark ts (watch w.place e)
watch_found ts us w e p h q = let P : List Terminal → Type 0 = λ z. ReadsItem (ItemMark q ∷ z) (watch w.place e) in subst P (sym p) (watch_file_item h)

item_at : (q : Place) (ts us : List Terminal) (i : Item) → ts ≡ us → ReadsItem (ItemMark q ∷ ts) i → ReadsItem (ItemMark q ∷ us) i
item_at q ts us i e h = let P : List Terminal → Type 0 = λ z. ReadsItem (ItemMark q ∷ z) i in subst P e h

front_at : (ts us : List Terminal) → ts ≡ us → NoFront ts → NoFront us
front_at ts us e h = let P : List Terminal → Type 0 = λ z. NoFront z in subst P e h

no_watch_at : {q : Place} {w : Written} {us : List Terminal} {i : Item} → NoFront (Greater w ∷ us) → ((e : Expr) → ReadsExpr us e [] done → ⊥) → ReadsItem (ItemMark q ∷ Greater w ∷ us) i → ⊥
no_watch_at f g (declaration_file_item k l m n o p) = no_watch k
no_watch_at f g (signature_file_item k l) = f.no_signature _ _ k
no_watch_at f g (prefix_file_item k l m) = no_bound_watch k
no_watch_at f g (infix_file_item k l m n) = elim k [ ]
no_watch_at f g (watch_file_item k) = g _ k

pub no_watched : (ts us : List Terminal) (w : Written) → NoFront ts → ts ≡ Greater w ∷ us → ((e : Expr) → ReadsExpr us e [] done → ⊥) → NoItem ts
no_watched ts us w f e g q i h = no_watch_at (front_at _ _ e f) g (item_at _ _ _ _ e h)

pub declaration_found : (ts : List Terminal) (i : Item) → IsDeclaration ts i → IsBehindMark ts i
declaration_found ts i (whole_declaration (declared h (type_name k l) m) n o) q = declaration_file_item h k l m n o

pub no_other : (ts : List Terminal) → NoFront ts → ((w : Written) (us : List Terminal) → ts ≡ Greater w ∷ us → ⊥) → ((i : Item) → IsDeclaration ts i → ⊥) → NoItem ts
no_other ts f g h q i (use_file_item k l) = f.no_use _ _ _ _ (use_front k l)
no_other ts f g h q i (declaration_file_item k l m n o p) = h _ (whole_declaration (declared k (type_name l m) n) o p)
no_other ts f g h q i (signature_file_item k l) = f.no_signature _ _ k
no_other ts f g h q i (prefix_file_item k l m) = f.no_prefix _ _ _ (prefix_front k l)
no_other ts f g h q i (infix_file_item k l m n) = f.no_infix _ _ _ _ (infix_front k l m)
no_other ts f g h q i (watch_file_item k) = g _ _ refl

-- the mark in front

pub item_found : (ts us : List Terminal) (p : Place) (i : Item) → ts ≡ ItemMark p ∷ us → IsBehindMark us i → ReadsItem ts i
item_found ts us p i e h = let P : List Terminal → Type 0 = λ z. ReadsItem z i in subst P (sym e) (h p)

pub no_item_there : (ts us : List Terminal) (p : Place) → ts ≡ ItemMark p ∷ us → NoItem us → (i : Item) → ReadsItem ts i → ⊥
no_item_there ts us p e f i h = let P : List Terminal → Type 0 = λ z. ReadsItem z i in f p i (subst P e h)

pub no_item_mark : (ts : List Terminal) → ((p : Place) (us : List Terminal) → ts ≡ ItemMark p ∷ us → ⊥) → (i : Item) → ReadsItem ts i → ⊥
no_item_mark ts f i (use_file_item k l) = f _ _ refl
no_item_mark ts f i (declaration_file_item k l m n o p) = f _ _ refl
no_item_mark ts f i (signature_file_item k l) = f _ _ refl
no_item_mark ts f i (prefix_file_item k l m) = f _ _ refl
no_item_mark ts f i (infix_file_item k l m n) = f _ _ refl
no_item_mark ts f i (watch_file_item k) = f _ _ refl

pub fits_behind_mark : (n : ℕ) (ts us : List Terminal) (p : Place) → ts ≡ ItemMark p ∷ us → fits n ts ≡ true → fits n us ≡ true
fits_behind_mark n ts us p e f = fits_at n _ _ e f

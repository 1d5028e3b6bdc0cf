-- What readers of atoms, cases and the lines of a block find.
use Rattle.std.proofs.Common.{◌≡◌, ◌≢◌, ℕ, suc, zero, ◌-◌, ◌<◌, ◌≤◌, Bool, true, false, List, [], ◌∷◌, ◌++◌, length, refl, subst, sym, ap, ◌∙◌, arith}
use Rattle.std.specs.Prelude.{Option, Some, None, nat_le}
use Rattle.uc_base.specs.declared.place.Place.{Place}
use Rattle.uc_scratch.specs.declared.written.Written.{Written}
use Rattle.uc_scratch.specs.declared.written.Literal as written
use Rattle.uc_scratch.specs.declared.written.Reference as reference_type
use Rattle.uc_scratch.specs.declared.written.Param.{Param}
use Rattle.uc_scratch.specs.declared.written.Head.{Head}
use Rattle.uc_scratch.specs.declared.terminal.Terminal.{Terminal}
use Rattle.uc_scratch.specs.declared.terminal.Terminal.TheVariants.{Literal, Reference, Left, Right, LeftSquare, RightSquare, Comma, Equals, Arrow, Colon, Bar, Use, Opens, Closes, Item}
use Rattle.uc_scratch.specs.declared.block.Case.{Case}
use Rattle.uc_scratch.specs.declared.block.Entry.{Entry}
use Rattle.uc_scratch.specs.TypeExprs.{TypeExpr}
use Rattle.uc_scratch.specs.Patterns.{Pattern}
use Rattle.uc_scratch.specs.Exprs as plain
use Rattle.uc_scratch.specs.Exprs.{Expr, done, Atom, Exprs, none, more, Cases, no_case, Block}
use Rattle.uc_scratch.specs.ExprViews.{case_before, cases_of, entry_before}
use Rattle.uc_scratch.specs.Terminals.{is_single, path_of, IsWord, small_word, capital_word, IsPath, IsOperator, cons_operator, snoc_operator, greater_operator, other_operator, IsParam}
use Rattle.uc_scratch.specs.TypeGrammar.{ReadsType}
use Rattle.uc_scratch.specs.PatternGrammar.{ReadsPattern}
use Rattle.uc_scratch.specs.ExprGrammar.{ReadsParams, ReadsUsed, no_used, used_word, used_operator, ReadsHead, path_head, bracketed_head, operator_head, ReadsBound, path_bound, bracketed_bound, head_name, has_case, ReadsExpr, lambda_expr, or_expr, ReadsOr, ReadsAtom, path_atom, bracketed_atom, literal_atom, reference_atom, unit_atom, group_atom, annotated_atom, tuple_atom, empty_list_atom, list_atom, ReadsExprs, ReadsCases, cases_block, ReadsCaseItems, no_case_item, case_item, guarded_item, ReadsBlock, block_block, ReadsBlockItems, result_item, use_item, signature_item, prefix_item, infix_item}
use Rattle.uc_scratch.specs.Follows.{goes_on, reach, ends_type, ends_pattern, ends_case, ends_used}
use Rattle.uc_scratch.specs.Nesting.{fits}
use Rattle.uc_scratch.specs.Marks.{IsRight, round, square}
use Rattle.uc_scratch.specs.Fronts.{IsLambda, lambda_front, NoLambda, IsUse, use_front, NoUse, IsSigned, IsPrefix, prefix_front, IsInfix, infix_front, NoFront}
use Rattle.uc_scratch.specs.Moves.{IsInside, inside_group, inside_annotated, inside_tuple, ReadsTested, tested, NoTested, ReadsGuarded, with_guard, NoGuarded, ReadsCase, plain_case, guarded_case, NoCase, RestOfBlock, IsEntry}
use Rattle.uc_scratch.proofs.Named.{path_is, no_path_is}
use Rattle.uc_scratch.proofs.Classes.{one_path, one_operator, one_param, one_params, one_head, bound_head, param_begins}
use Rattle.uc_scratch.proofs.TypeReadings.{tail_same, type_from, one_type}
use Rattle.uc_scratch.proofs.PatternReadings.{one_pattern}
use Rattle.uc_scratch.proofs.Begins.{no_expr_at_right, no_expr_at_use, at_same_arrow, no_result, colon_binder, equals_binder, head_stuck, params_stuck, param_stuck, at_operator, at_stop}
use Rattle.uc_scratch.proofs.ExprReadings.{expr_from, or_from, block_from, block_items_from, case_items_from, exprs_from, params_from, one_expr, one_or, one_exprs, one_block, one_case_items, one_block_items, right_no_comma, right_no_colon, comma_no_colon, items_end_type, no_params_at_colon, no_infix_at_colon, no_prefix_at_operator}
use Rattle.uc_scratch.proofs.Fits.{fits_at, fits_type, fits_pattern, fits_expr, fits_or, fits_block, fits_params, fits_used, fits_head, fits_bound, fits_path, fits_param, fits_operator}
use Rattle.uc_scratch.proofs.Lengths.{used_length, head_length, bound_length, params_length, type_length, pattern_length, expr_length, block_length}

head_is : (ts us : List Terminal) (t u : Terminal) → ts ≡ t ∷ us → t ≡ u → ts ≡ u ∷ us
head_is ts us t u e f = cc

-- atoms

atom_at : (ts us : List Terminal) (a b : Atom) (vs : List Terminal) → ts ≡ us → a ≡ b → ReadsAtom us b vs → ReadsAtom ts a vs
atom_at ts us a b vs e f h =
    let P : List Terminal → Type 0 = λ z. ReadsAtom z a vs in
    let Q : Atom → Type 0 = λ z. ReadsAtom us z vs in
    subst P (sym e) (subst Q (sym f) h)

pub path_found : (ts us : List Terminal) (t : Terminal) (w v : Written) → ts ≡ t ∷ us → Some w ≡ path_of t → v ≡ w → ReadsAtom ts (plain.path v) us
path_found ts us t w v e f g = atom_at _ _ _ _ _ e (ap plain.path g) (path_atom (path_is t w (sym f)))

pub literal_found : (ts us : List Terminal) (t : Terminal) (l m : written.Literal) → ts ≡ t ∷ us → t ≡ Literal l → m ≡ l → ReadsAtom ts (plain.literal m) us
literal_found ts us t l m e f g = atom_at _ _ _ _ _ (head_is _ _ _ _ e f) (ap plain.literal g) literal_atom

pub reference_found : (ts us : List Terminal) (t : Terminal) (r s : reference_type.Reference) → ts ≡ t ∷ us → t ≡ Reference r → s ≡ r → ReadsAtom ts (plain.reference s) us
reference_found ts us t r s e f g = atom_at _ _ _ _ _ (head_is _ _ _ _ e f) (ap plain.reference g) reference_atom

pub no_atom : (ts us : List Terminal) (t : Terminal) → ts ≡ t ∷ us → None ≡ path_of t → ((l : written.Literal) → t ≡ Literal l → ⊥) → ((r : reference_type.Reference) → t ≡ Reference r → ⊥)
    → ((p : Place) → t ≡ Left p → ⊥) → ((p : Place) → t ≡ LeftSquare p → ⊥) → (a : Atom) (vs : List Terminal) → ReadsAtom ts a vs → ⊥
no_atom ts us t e f g h i j a vs k = let P : List Terminal → Type 0 = λ z. ReadsAtom z a vs in at_head f g h i j (subst P e k)
  where
    no_path : {t : Terminal} {w : Written} → IsPath t w → None ≡ path_of t → ⊥
    no_path {t = t} {w = w} i f = no_path_is t w (sym f) i

    at_head : {t : Terminal} {us vs : List Terminal} {a : Atom} → None ≡ path_of t → ((l : written.Literal) → t ≡ Literal l → ⊥) → ((r : reference_type.Reference) → t ≡ Reference r → ⊥)
        → ((p : Place) → t ≡ Left p → ⊥) → ((p : Place) → t ≡ LeftSquare p → ⊥) → ReadsAtom (t ∷ us) a vs → ⊥
    at_head f g h i j (path_atom k) = no_path k f
    at_head f g h i j (bracketed_atom k) = i _ refl
    at_head f g h i j literal_atom = g _ refl
    at_head f g h i j reference_atom = h _ refl
    at_head f g h i j unit_atom = i _ refl
    at_head f g h i j (group_atom k) = i _ refl
    at_head f g h i j (annotated_atom k l) = i _ refl
    at_head f g h i j (tuple_atom k l) = i _ refl
    at_head f g h i j empty_list_atom = j _ refl
    at_head f g h i j (list_atom k) = j _ refl

pub block_found : (ts us vs : List Terminal) (b : Block) → ts ≡ Opens ∷ us → ReadsBlockItems us b vs → ReadsBlock ts b vs
block_found ts us vs b e h = let P : List Terminal → Type 0 = λ z. ReadsBlock z b vs in subst P (sym e) (block_block h)

-- in round brackets

pub unit_found : (ts us : List Terminal) (p : Place) → ts ≡ Right ∷ us → ReadsAtom (Left p ∷ ts) (plain.unit p) us
unit_found ts us p e = atom_at _ _ _ _ _ (ap (λ z. Left p ∷ z) e) refl unit_atom

pub operator_found : (ts us : List Terminal) (p : Place) (w v : Written) → ((x : Terminal) × (ts ≡ x ∷ Right ∷ us) × IsOperator x w) → v ≡ w → ReadsAtom (Left p ∷ ts) (plain.bracketed p v) us
operator_found ts us p w v x g = atom_at _ _ _ _ _ (ap (λ z. Left p ∷ z) x.1) (ap (plain.bracketed p) g) (bracketed_atom x.2)

pub round_none : (ts : List Terminal) (p : Place) → ((us : List Terminal) → ts ≡ Right ∷ us → ⊥)
    → ((t : Terminal) (w : Written) (us : List Terminal) → ts ≡ t ∷ Right ∷ us → IsOperator t w → ⊥)
    → ((a : Atom) (us : List Terminal) → IsInside p ts a us → ⊥) → (a : Atom) (us : List Terminal) → ReadsAtom (Left p ∷ ts) a us → ⊥
round_none ts p f g h a us (path_atom i) = elim i [ ]
round_none ts p f g h a us (bracketed_atom i) = g _ _ _ refl i
round_none ts p f g h a us unit_atom = f _ refl
round_none ts p f g h a us (group_atom i) = h _ _ (inside_group i)
round_none ts p f g h a us (annotated_atom i j) = h _ _ (inside_annotated i j)
round_none ts p f g h a us (tuple_atom i j) = h _ _ (inside_tuple i j)

expr_up_to : (ts us vs : List Terminal) (e : Expr) → us ≡ vs → ReadsExpr ts e us done → ReadsExpr ts e vs done
expr_up_to ts us vs e p h = let P : List Terminal → Type 0 = λ z. ReadsExpr ts e z done in subst P p h

type_up_to : (ts us vs : List Terminal) (t : TypeExpr) → us ≡ vs → ReadsType ts t us → ReadsType ts t vs
type_up_to ts us vs t p h = let P : List Terminal → Type 0 = λ z. ReadsType ts t z in subst P p h

pub group_found : (ts us vs : List Terminal) (p : Place) (e d : Expr) → ReadsExpr ts e us done → us ≡ Right ∷ vs → d ≡ e → ReadsAtom (Left p ∷ ts) (plain.group p d) vs
group_found ts us vs p e d h q g = atom_at _ _ _ _ _ refl (ap (plain.group p) g) (group_atom (expr_up_to _ _ _ _ q h))

pub annotated_found : (ts us vs ws xs : List Terminal) (p : Place) (e d : Expr) (t : TypeExpr) → ReadsExpr ts e us done → us ≡ Colon ∷ vs → ReadsType vs t ws → ws ≡ Right ∷ xs → d ≡ e
    → ReadsAtom (Left p ∷ ts) (plain.annotated p d t) xs
annotated_found ts us vs ws xs p e d t h q k r g =
    atom_at _ _ _ _ _ refl (ap (λ z. plain.annotated p z t) g) (annotated_atom (expr_up_to _ _ _ _ q h) (type_up_to _ _ _ _ r k))

pub tuple_found : (ts us vs xs : List Terminal) (p : Place) (e : Expr) (all rest : List Expr) → ReadsExpr ts e us done → us ≡ Comma ∷ vs → ReadsExprs Right vs (plain.exprs_of rest) xs
    → all ≡ e ∷ rest → ReadsAtom (Left p ∷ ts) (plain.tuple p (plain.exprs_of all)) xs
tuple_found ts us vs xs p e all rest h q k g =
    atom_at _ _ _ _ _ refl (ap (λ z. plain.tuple p (plain.exprs_of z)) g) (tuple_atom (expr_up_to _ _ _ _ q h) k)

pub inside_not_closed : (ts us : List Terminal) (p : Place) (e : Expr) → ReadsExpr ts e us done → 6 ≤ reach us → ((vs : List Terminal) → us ≡ Right ∷ vs → ⊥)
    → ((vs : List Terminal) → us ≡ Colon ∷ vs → ⊥) → ((vs : List Terminal) → us ≡ Comma ∷ vs → ⊥) → (a : Atom) (xs : List Terminal) → IsInside p ts a xs → ⊥
inside_not_closed ts us p e h q f g k a xs (inside_group i) = f _ ((one_expr _ _ _ _ _ _ q (omega arith) h i).0)
inside_not_closed ts us p e h q f g k a xs (inside_annotated i j) = g _ ((one_expr _ _ _ _ _ _ q (omega arith) h i).0)
inside_not_closed ts us p e h q f g k a xs (inside_tuple i j) = k _ ((one_expr _ _ _ _ _ _ q (omega arith) h i).0)

pub inside_no_expr : (ts : List Terminal) (p : Place) → ((e : Expr) (us : List Terminal) → ReadsExpr ts e us done → 6 ≤ reach us → ⊥) → (a : Atom) (xs : List Terminal) → IsInside p ts a xs → ⊥
inside_no_expr ts p f a xs (inside_group i) = f _ _ i (omega arith)
inside_no_expr ts p f a xs (inside_annotated i j) = f _ _ i (omega arith)
inside_no_expr ts p f a xs (inside_tuple i j) = f _ _ i (omega arith)

-- behind `:` stands a type
pub inside_colon : (ts us vs : List Terminal) (p : Place) (e : Expr) → ReadsExpr ts e us done → us ≡ Colon ∷ vs
    → ((t : TypeExpr) (xs : List Terminal) → ReadsType vs t (Right ∷ xs) → ⊥) → (a : Atom) (xs : List Terminal) → IsInside p ts a xs → ⊥
inside_colon ts us vs p e h q f a xs (inside_group i) =
    right_no_colon _ _ (sym ((one_expr _ _ _ _ _ _ (omega arith) (omega arith) (expr_up_to _ _ _ _ q h) i).0))
inside_colon ts us vs p e h q f a xs (inside_annotated i j) =
    f _ _ (type_from _ _ _ _ (tail_same _ _ _ _ ((one_expr _ _ _ _ _ _ (omega arith) (omega arith) (expr_up_to _ _ _ _ q h) i).0)) j)
inside_colon ts us vs p e h q f a xs (inside_tuple i j) =
    comma_no_colon _ _ (sym ((one_expr _ _ _ _ _ _ (omega arith) (omega arith) (expr_up_to _ _ _ _ q h) i).0))

pub type_not_closed : (ts us : List Terminal) (t : TypeExpr) → ReadsType ts t us → ends_type us ≡ true → ((vs : List Terminal) → us ≡ Right ∷ vs → ⊥)
    → (u : TypeExpr) (xs : List Terminal) → ReadsType ts u (Right ∷ xs) → ⊥
type_not_closed ts us t h q f u xs k = f _ ((one_type _ _ _ _ q refl h k).1)

-- behind a comma stand expressions
pub inside_comma : (ts us vs : List Terminal) (p : Place) (e : Expr) → ReadsExpr ts e us done → us ≡ Comma ∷ vs
    → ((es : Exprs) (xs : List Terminal) → ReadsExprs Right vs es xs → ⊥) → (a : Atom) (xs : List Terminal) → IsInside p ts a xs → ⊥
inside_comma ts us vs p e h q f a xs (inside_group i) =
    right_no_comma _ _ round (sym ((one_expr _ _ _ _ _ _ (omega arith) (omega arith) (expr_up_to _ _ _ _ q h) i).0))
inside_comma ts us vs p e h q f a xs (inside_annotated i j) =
    comma_no_colon _ _ ((one_expr _ _ _ _ _ _ (omega arith) (omega arith) (expr_up_to _ _ _ _ q h) i).0)
inside_comma ts us vs p e h q f a xs (inside_tuple i j) =
    f _ _ (exprs_from _ _ _ _ _ (tail_same _ _ _ _ ((one_expr _ _ _ _ _ _ (omega arith) (omega arith) (expr_up_to _ _ _ _ q h) i).0)) j)

pub fits_behind : (n : ℕ) (ts us vs : List Terminal) (t : Terminal) (e : Expr) → ReadsExpr ts e us done → us ≡ t ∷ vs
    → ((xs : List Terminal) → fits n (t ∷ xs) ≡ true → fits n xs ≡ true) → fits n ts ≡ true → fits n vs ≡ true
fits_behind n ts us vs t e h q f k = f vs (fits_at n _ _ q (fits_expr n h k))

-- in square brackets

pub empty_found : (ts us : List Terminal) (p : Place) (es : List Expr) → ts ≡ RightSquare ∷ us → es ≡ [] → ReadsAtom (LeftSquare p ∷ ts) (plain.list p (plain.exprs_of es)) us
empty_found ts us p es e f = atom_at _ _ _ _ _ (ap (λ z. LeftSquare p ∷ z) e) (ap (λ z. plain.list p (plain.exprs_of z)) f) empty_list_atom

-- cases

pub cases_found : (ts us vs : List Terminal) (cs : List Case) → ts ≡ Opens ∷ us → ReadsCaseItems us (cases_of cs) vs → length cs ≢ 0 → ReadsCases ts (cases_of cs) vs
cases_found ts us vs [] e h f = absurd (f refl)
cases_found ts us vs (c ∷ cs) e h f =
    let P : List Terminal → Type 0 = λ z. ReadsCases z (cases_of (c ∷ cs)) vs in subst P (sym e) (cases_block h (some_case c.guard))
  where
    some_case : (g : Option Expr) → has_case (case_before c.pattern g c.body (cases_of cs)) ≡ true
    some_case None = refl
    some_case (Some g) = refl

cases_inside : {ts us : List Terminal} {cs : Cases} → ReadsCases (Opens ∷ ts) cs us → ReadsCaseItems ts cs us × (has_case cs ≡ true)
cases_inside (cases_block h i) = (h, i)

cases_open : (ts us : List Terminal) (cs : Cases) (vs : List Terminal) → ts ≡ us → ReadsCases ts cs vs → ReadsCases us cs vs
cases_open ts us cs vs e h = let P : List Terminal → Type 0 = λ z. ReadsCases z cs vs in subst P e h

pub no_cases_found : (ts us vs : List Terminal) (cs : List Case) → ts ≡ Opens ∷ us → ReadsCaseItems us (cases_of cs) vs → length cs ≡ 0 → (ds : Cases) (xs : List Terminal) → ReadsCases ts ds xs → ⊥
no_cases_found ts us vs cs e h f ds xs k =
    let i = cases_inside (cases_open _ _ _ _ e k) in
    let x = one_case_items _ _ _ _ h i.0 in none_there _ (sym x.0 ∙ ap cases_of (empty cs f)) i.1
  where
    empty : (cs : List Case) → length cs ≡ 0 → cs ≡ []
    empty [] e = refl
    empty (c ∷ cs) e = absurd (omega (arith, e))

    none_there : (ds : Cases) → ds ≡ no_case → has_case ds ≡ true → ⊥
    none_there ds p q = let r : has_case ds ≡ has_case no_case = ap has_case p in cc

pub fits_inside : (n : ℕ) (ts us : List Terminal) → ts ≡ Opens ∷ us → fits n ts ≡ true → (0 < n) × (fits (n - 1) us ≡ true)
fits_inside n ts us e f = opened n us (fits_at n _ _ e f)
  where
    opened : (n : ℕ) (us : List Terminal) → fits n (Opens ∷ us) ≡ true → (0 < n) × (fits (n - 1) us ≡ true)
    opened zero us f = cc
    opened (suc n) us f = let p : suc n - 1 ≡ n = omega arith in (omega arith, rw p f)

pattern_up_to : (ts us vs : List Terminal) (x : Pattern) → us ≡ vs → ReadsPattern ts x us → ReadsPattern ts x vs
pattern_up_to ts us vs x p h = let P : List Terminal → Type 0 = λ z. ReadsPattern ts x z in subst P p h

case_as : (ts : List Terminal) (x : Pattern) (g h : Option Expr) (b : Block) (vs : List Terminal) → g ≡ h → ReadsCase ts x h b vs → ReadsCase ts x g b vs
case_as ts x g h b vs e k = let P : Option Expr → Type 0 = λ z. ReadsCase ts x z b vs in subst P (sym e) k

pub plain_found : (ts us vs ws : List Terminal) (x : Pattern) (g : Option Expr) (b : Block) → ReadsPattern ts x us → us ≡ Arrow ∷ vs → ReadsBlock vs b ws → g ≡ None → ReadsCase ts x g b ws
plain_found ts us vs ws x g b h e k f = case_as _ _ _ _ _ _ f (plain_case (pattern_up_to _ _ _ _ e h) k)

pub guarded_found : (ts us vs ws : List Terminal) (x : Pattern) (g : Option Expr) (d : Expr) (b : Block) → ReadsPattern ts x us → us ≡ Bar ∷ vs → ReadsGuarded vs d b ws → g ≡ Some d
    → ReadsCase ts x g b ws
guarded_found ts us vs ws x g d b h e k f = case_as _ _ _ _ _ _ f (guarded_case (pattern_up_to _ _ _ _ e h) k)

arrow_no_bar : (ts us : List Terminal) → Arrow ∷ ts ≡ Bar ∷ us → ⊥
arrow_no_bar ts us e = cc

different : (b : Bool) → b ≡ true → b ≡ false → ⊥
different b p q = cc

guarded_from : (ts us : List Terminal) (g : Expr) (b : Block) (vs : List Terminal) → ts ≡ us → ReadsGuarded ts g b vs → ReadsGuarded us g b vs
guarded_from ts us g b vs e h = let P : List Terminal → Type 0 = λ z. ReadsGuarded z g b vs in subst P e h

-- a case whose pattern an arrow follows has no guard
pub no_plain_case : (ts us vs : List Terminal) (x : Pattern) → ReadsPattern ts x us → us ≡ Arrow ∷ vs
    → ((b : Block) (xs : List Terminal) → ReadsBlock vs b xs → ends_case xs ≡ true → ⊥) → NoCase ts
no_plain_case ts us vs x h e f y g b xs (plain_case i j) q =
    f _ _ (block_from _ _ _ _ (tail_same _ _ _ _ ((one_pattern _ _ _ _ refl refl (pattern_up_to _ _ _ _ e h) i).1)) j) q
no_plain_case ts us vs x h e f y g b xs (guarded_case i j) q = arrow_no_bar _ _ ((one_pattern _ _ _ _ refl refl (pattern_up_to _ _ _ _ e h) i).1)

pub no_guarded_case : (ts us vs : List Terminal) (x : Pattern) → ReadsPattern ts x us → us ≡ Bar ∷ vs → NoGuarded vs → NoCase ts
no_guarded_case ts us vs x h e f y g b xs (plain_case i j) q = arrow_no_bar _ _ (sym ((one_pattern _ _ _ _ refl refl (pattern_up_to _ _ _ _ e h) i).1))
no_guarded_case ts us vs x h e f y g b xs (guarded_case i j) q =
    f _ _ _ (guarded_from _ _ _ _ _ (sym (tail_same _ _ _ _ ((one_pattern _ _ _ _ refl refl (pattern_up_to _ _ _ _ e h) i).1))) j) q

pub no_pattern_case : (ts : List Terminal) → ((x : Pattern) (us : List Terminal) → ReadsPattern ts x us → ends_pattern us ≡ true → ⊥) → NoCase ts
no_pattern_case ts f x g b us (plain_case i j) q = f _ _ i refl
no_pattern_case ts f x g b us (guarded_case i j) q = f _ _ i refl

pub neither_case : (ts us : List Terminal) (x : Pattern) → ReadsPattern ts x us → ends_pattern us ≡ true → ((vs : List Terminal) → us ≡ Arrow ∷ vs → ⊥) → ((vs : List Terminal) → us ≡ Bar ∷ vs → ⊥)
    → NoCase ts
neither_case ts us x h p f g y k b xs (plain_case i j) q = f _ ((one_pattern _ _ _ _ p refl h i).1)
neither_case ts us x h p f g y k b xs (guarded_case i j) q = g _ ((one_pattern _ _ _ _ p refl h i).1)

-- a body that isn't at the end of its case
pub body_no_end : (ts us : List Terminal) (b : Block) → ReadsBlock ts b us → ends_case us ≡ false → (c : Block) (xs : List Terminal) → ReadsBlock ts c xs → ends_case xs ≡ true → ⊥
body_no_end ts us b h f c xs k q = different _ (ap ends_case ((one_block _ _ _ _ h k).1) ∙ q) f

-- guards

or_up_to : (ts us vs : List Terminal) (e : Expr) → us ≡ vs → ReadsOr ts e us done → ReadsOr ts e vs done
or_up_to ts us vs e p h = let P : List Terminal → Type 0 = λ z. ReadsOr ts e z done in subst P p h

pub tested_found : (ts us vs ws : List Terminal) (g : Expr) (b : Block) → ReadsOr ts g us done → us ≡ Arrow ∷ vs → ReadsBlock vs b ws → ReadsTested ts g b ws
tested_found ts us vs ws g b h e k = tested (or_up_to _ _ _ _ e h) k

pub tested_no_or : (ts : List Terminal) → ((e : Expr) (us : List Terminal) → ReadsOr ts e us done → 5 ≤ reach us → ⊥) → NoTested ts
tested_no_or ts f g b us (tested h k) = f _ _ h (omega arith)

pub tested_no_arrow : (ts us : List Terminal) (g : Expr) → ReadsOr ts g us done → 5 ≤ reach us → ((vs : List Terminal) → us ≡ Arrow ∷ vs → ⊥) → NoTested ts
tested_no_arrow ts us g h p f e b xs (tested i k) = f _ ((one_or _ _ _ _ _ _ p (omega arith) h i).0)

pub tested_no_body : (ts us vs : List Terminal) (g : Expr) → ReadsOr ts g us done → us ≡ Arrow ∷ vs → ((b : Block) (xs : List Terminal) → ReadsBlock vs b xs → ⊥) → NoTested ts
tested_no_body ts us vs g h e f d b xs (tested i k) =
    f _ _ (block_from _ _ _ _ (tail_same _ _ _ _ ((one_or _ _ _ _ _ _ (omega arith) (omega arith) (or_up_to _ _ _ _ e h) i).0)) k)

pub fits_tested : (n : ℕ) (ts us vs : List Terminal) (g : Expr) → ReadsOr ts g us done → us ≡ Arrow ∷ vs → fits n ts ≡ true → fits n vs ≡ true
fits_tested n ts us vs g h e f = fits_at n _ _ e (fits_or n h f)

pub guarded_of_tested : (ts us : List Terminal) (g : Expr) (b : Block) → ReadsTested ts g b us → ReadsGuarded ts g b us
guarded_of_tested ts us g b (tested h k) = with_guard (or_expr h) k

-- no lambda begins: a guard is none
pub guarded_tested_only : (ts : List Terminal) → NoLambda ts → NoTested ts → NoGuarded ts
guarded_tested_only ts f g e b us (with_guard (lambda_expr h i) k) q = f _ _ (lambda_front h)
guarded_tested_only ts f g e b us (with_guard (or_expr h) k) q = g _ _ _ (tested h k)

-- the parameters of a lambda without a block behind its arrow
pub guarded_no_block : (ts body : List Terminal) (ps : List Param) → IsLambda ts ps body → ((b : Block) (us : List Terminal) → ReadsBlock body b us → ⊥) → NoGuarded ts
guarded_no_block ts body ps (lambda_front l) f e b us (with_guard (lambda_expr h i) k) q =
    f _ _ (block_from _ _ _ _ (tail_same _ _ _ _ ((one_params _ _ _ _ refl refl l h).1)) i)
guarded_no_block ts body ps (lambda_front l) f e b us (with_guard (or_expr h) k) q = f _ _ (block_from _ _ _ _ (sym (at_same_arrow l h)) k)

-- where no arrow follows the block, the words before the first arrow are an application
pub guarded_one_arrow : (ts body us : List Terminal) (ps : List Param) (b : Block) → IsLambda ts ps body → ReadsBlock body b us → ((vs : List Terminal) → us ≡ Arrow ∷ vs → ⊥)
    → NoTested ts → NoGuarded ts
guarded_one_arrow ts body us ps b (lambda_front l) m f g e c xs (with_guard (lambda_expr h i) k) q =
    f _ ((one_block _ _ _ _ m (block_from _ _ _ _ (tail_same _ _ _ _ ((one_params _ _ _ _ refl refl l h).1)) i)).1)
guarded_one_arrow ts body us ps b l m f g e c xs (with_guard (or_expr h) k) q = g _ _ _ (tested h k)

pub lambda_tested : (ts body us vs xs : List Terminal) (ps : List Param) (b : Block) (g : Expr) → IsLambda ts ps body → ReadsBlock body b us → ReadsOr ts g vs done → vs ≡ Arrow ∷ xs → ReadsTested ts g b us
lambda_tested ts body us vs xs ps b g (lambda_front l) m h e =
    let k = or_up_to _ _ _ _ e h in tested k (block_from _ _ _ _ (at_same_arrow l k) m)

no_case_at_arrow : (ts us : List Terminal) → ts ≡ Arrow ∷ us → ends_case ts ≡ true → ⊥
no_case_at_arrow ts us e q = let p : ends_case ts ≡ ends_case (Arrow ∷ us) = ap ends_case e in cc

block_up_to : (ts us vs : List Terminal) (b : Block) → us ≡ vs → ReadsBlock ts b us → ReadsBlock ts b vs
block_up_to ts us vs b p h = let P : List Terminal → Type 0 = λ z. ReadsBlock ts b z in subst P p h

-- where an arrow follows the block, they are the parameters of a lambda
pub guarded_two_arrows : (ts body us next : List Terminal) (ps : List Param) (b : Block) → IsLambda ts ps body → ReadsBlock body b us → us ≡ Arrow ∷ next
    → ((c : Block) (xs : List Terminal) → ReadsBlock next c xs → ⊥) → NoGuarded ts
guarded_two_arrows ts body us next ps b (lambda_front l) m e f g c xs (with_guard (lambda_expr h i) k) q =
    let x = one_block _ _ _ _ (block_up_to _ _ _ _ e m) (block_from _ _ _ _ (tail_same _ _ _ _ ((one_params _ _ _ _ refl refl l h).1)) i) in
    f _ _ (block_from _ _ _ _ (tail_same _ _ _ _ x.1) k)
guarded_two_arrows ts body us next ps b (lambda_front l) m e f g c xs (with_guard (or_expr h) k) q =
    let x = one_block _ _ _ _ m (block_from _ _ _ _ (sym (at_same_arrow l h)) k) in no_case_at_arrow _ _ (sym x.1 ∙ e) q

pub lambda_guard_found : (ts body us next last : List Terminal) (ps : List Param) (b c : Block) (g : Expr) → IsLambda ts ps body → ReadsBlock body b us → us ≡ Arrow ∷ next → ReadsBlock next c last
    → g ≡ plain.lambda ps b done → ReadsGuarded ts g c last
lambda_guard_found ts body us next last ps b c g (lambda_front l) m e k p =
    let P : Expr → Type 0 = λ z. ReadsGuarded ts z c last in
    subst P (sym p) (with_guard (lambda_expr l (block_up_to _ _ _ _ e m)) k)

-- where a guarded reading that ends a case ends

pub guarded_only_tested : (ts us : List Terminal) (g : Expr) (b : Block) → NoLambda ts → ReadsTested ts g b us → (d : Expr) (c : Block) (xs : List Terminal) → ReadsGuarded ts d c xs → ends_case xs ≡ true → xs ≡ us
guarded_only_tested ts us g b f (tested h k) d c xs (with_guard (lambda_expr l m) n) q = absurd (f _ _ (lambda_front l))
guarded_only_tested ts us g b f (tested h k) d c xs (with_guard (or_expr l) n) q =
    let x = one_or _ _ _ _ _ _ (omega arith) (omega arith) l h in (one_block _ _ _ _ n (block_from _ _ _ _ (tail_same _ _ _ _ x.0) k)).1

pub guarded_only_one : (ts body us vs : List Terminal) (ps : List Param) (e : Block) (g : Expr) (b : Block) → IsLambda ts ps body → ReadsBlock body e vs → ((ws : List Terminal) → vs ≡ Arrow ∷ ws → ⊥)
    → ReadsTested ts g b us → (d : Expr) (c : Block) (xs : List Terminal) → ReadsGuarded ts d c xs → ends_case xs ≡ true → xs ≡ us
guarded_only_one ts body us vs ps e g b (lambda_front i) j f t d c xs (with_guard (lambda_expr l m) n) q =
    absurd (f _ ((one_block _ _ _ _ j (block_from _ _ _ _ (tail_same _ _ _ _ ((one_params _ _ _ _ refl refl i l).1)) m)).1))
guarded_only_one ts body us vs ps e g b i j f (tested h k) d c xs (with_guard (or_expr l) n) q =
    let x = one_or _ _ _ _ _ _ (omega arith) (omega arith) l h in (one_block _ _ _ _ n (block_from _ _ _ _ (tail_same _ _ _ _ x.0) k)).1

pub guarded_only_two : (ts body us next last : List Terminal) (ps : List Param) (b c : Block) → IsLambda ts ps body → ReadsBlock body b us → us ≡ Arrow ∷ next → ReadsBlock next c last
    → (d : Expr) (e : Block) (xs : List Terminal) → ReadsGuarded ts d e xs → ends_case xs ≡ true → xs ≡ last
guarded_only_two ts body us next last ps b c (lambda_front l) m e k d f xs (with_guard (lambda_expr h i) n) q =
    let x = one_block _ _ _ _ i (block_from _ _ _ _ (tail_same _ _ _ _ ((one_params _ _ _ _ refl refl h l).1)) (block_up_to _ _ _ _ e m)) in
    (one_block _ _ _ _ n (block_from _ _ _ _ (tail_same _ _ _ _ x.1) k)).1
guarded_only_two ts body us next last ps b c (lambda_front l) m e k d f xs (with_guard (or_expr h) n) q =
    let x = one_block _ _ _ _ m (block_from _ _ _ _ (sym (at_same_arrow l h)) n) in absurd (no_case_at_arrow _ _ (sym x.1 ∙ e) q)

pub guarded_stops : (ts us : List Terminal) → ((d : Expr) (c : Block) (xs : List Terminal) → ReadsGuarded ts d c xs → ends_case xs ≡ true → xs ≡ us) → ends_case us ≡ false → NoGuarded ts
guarded_stops ts us f p d c xs h q = different _ (ap ends_case (sym (f d c xs h q)) ∙ q) p

one_guarded : {ts : List Terminal} (us vs : List Terminal) (g h : Expr) (b c : Block) → ends_case us ≡ true → ends_case vs ≡ true → ReadsGuarded ts g b us → ReadsGuarded ts h c vs → us ≡ vs
one_guarded us vs g h b c p q (with_guard (or_expr i) k) (with_guard (or_expr l) n) =
    let x = one_or _ _ _ _ _ _ (omega arith) (omega arith) i l in (one_block _ _ _ _ k (block_from _ _ _ _ (tail_same _ _ _ _ x.0) n)).1
one_guarded us vs g h b c p q (with_guard (lambda_expr i j) k) (with_guard (lambda_expr l m) n) =
    let x = one_params _ _ _ _ refl refl i l in
    let y = one_block _ _ _ _ j (block_from _ _ _ _ (tail_same _ _ _ _ x.1) m) in (one_block _ _ _ _ k (block_from _ _ _ _ (tail_same _ _ _ _ y.1) n)).1
one_guarded us vs g h b c p q (with_guard (lambda_expr i j) k) (with_guard (or_expr l) n) =
    let z = one_block _ _ _ _ j (block_from _ _ _ _ (sym (at_same_arrow i l)) n) in absurd (no_case_at_arrow _ _ (sym z.1) q)
one_guarded us vs g h b c p q (with_guard (or_expr i) k) (with_guard (lambda_expr l m) n) =
    let z = one_block _ _ _ _ m (block_from _ _ _ _ (sym (at_same_arrow l i)) k) in absurd (no_case_at_arrow _ _ (sym z.1) p)

-- a case ends at one place
pub one_case : {ts : List Terminal} (us vs : List Terminal) (x y : Pattern) (g h : Option Expr) (b c : Block) → ends_case us ≡ true → ends_case vs ≡ true
    → ReadsCase ts x g b us → ReadsCase ts y h c vs → us ≡ vs
one_case us vs x y g h b c p q (plain_case i j) (plain_case k l) =
    let z = one_pattern _ _ _ _ refl refl i k in (one_block _ _ _ _ j (block_from _ _ _ _ (tail_same _ _ _ _ z.1) l)).1
one_case us vs x y g h b c p q (plain_case i j) (guarded_case k l) = absurd (arrow_no_bar _ _ ((one_pattern _ _ _ _ refl refl i k).1))
one_case us vs x y g h b c p q (guarded_case i j) (plain_case k l) = absurd (arrow_no_bar _ _ (sym ((one_pattern _ _ _ _ refl refl i k).1)))
one_case us vs x y g h b c p q (guarded_case i j) (guarded_case k l) =
    let z = one_pattern _ _ _ _ refl refl i k in one_guarded _ _ _ _ _ _ p q j (guarded_from _ _ _ _ _ (sym (tail_same _ _ _ _ z.1)) l)

pub fits_case : (n : ℕ) {ts us : List Terminal} {x : Pattern} {g : Option Expr} {b : Block} → ReadsCase ts x g b us → fits n ts ≡ true → fits n us ≡ true
fits_case n (plain_case h i) f = fits_block n i (fits_pattern n h f)
fits_case n (guarded_case h (with_guard i j)) f = fits_block n j (fits_expr n i (fits_pattern n h f))

pub case_shorter : {ts us : List Terminal} {x : Pattern} {g : Option Expr} {b : Block} → ReadsCase ts x g b us → length us < length ts
case_shorter (plain_case h i) = omega (arith, pattern_length h, block_length i)
case_shorter (guarded_case h (with_guard i j)) = omega (arith, pattern_length h, expr_length i, block_length j)

-- the lines of a block

pub single_at : (a b : List ℕ) (r : Bool) → a ≡ b → r ≡ is_single a → is_single b ≡ r
single_at a b r e f = sym (f ∙ ap is_single e)

pub one_used_here : {ts : List Terminal} (us vs : List Terminal) (ws xs : List Written) → ends_used us ≡ true → ends_used vs ≡ true → ReadsUsed ts ws us → ReadsUsed ts xs vs → us ≡ vs
one_used_here us vs ws xs p q no_used no_used = refl
one_used_here us vs ws xs p q no_used (used_word small_word k) = cc
one_used_here us vs ws xs p q no_used (used_word capital_word k) = cc
one_used_here us vs ws xs p q no_used (used_operator cons_operator k) = cc
one_used_here us vs ws xs p q no_used (used_operator snoc_operator k) = cc
one_used_here us vs ws xs p q no_used (used_operator greater_operator k) = cc
one_used_here us vs ws xs p q no_used (used_operator other_operator k) = cc
one_used_here us vs ws xs p q (used_word small_word k) no_used = cc
one_used_here us vs ws xs p q (used_word capital_word k) no_used = cc
one_used_here us vs ws xs p q (used_operator cons_operator k) no_used = cc
one_used_here us vs ws xs p q (used_operator snoc_operator k) no_used = cc
one_used_here us vs ws xs p q (used_operator greater_operator k) no_used = cc
one_used_here us vs ws xs p q (used_operator other_operator k) no_used = cc
one_used_here us vs ws xs p q (used_word i h) (used_word j k) = one_used_here _ _ _ _ p q h k
one_used_here us vs ws xs p q (used_word i h) (used_operator j k) = one_used_here _ _ _ _ p q h k
one_used_here us vs ws xs p q (used_operator i h) (used_word j k) = one_used_here _ _ _ _ p q h k
one_used_here us vs ws xs p q (used_operator i h) (used_operator j k) = one_used_here _ _ _ _ p q h k

items_end_used : {ts us : List Terminal} {b : Block} → ReadsBlockItems ts b us → ends_used ts ≡ true
items_end_used (result_item h) = refl
items_end_used (use_item h i j) = refl
items_end_used (signature_item h i j) = refl
items_end_used (prefix_item h i j k l) = refl
items_end_used (infix_item h i j k l m) = refl

items_as : (ts us : List Terminal) (b c : Block) → b ≡ c → ReadsBlockItems ts c us → ReadsBlockItems ts b us
items_as ts us b c e h = let P : Block → Type 0 = λ z. ReadsBlockItems ts z us in subst P (sym e) h

rest_at : (ts us vs : List Terminal) → ts ≡ us → RestOfBlock ts vs → RestOfBlock us vs
rest_at ts us vs e r = let P : List Terminal → Type 0 = λ z. RestOfBlock z vs in subst P e r

behind_use : {q p : Place} {t : Terminal} {ws : List Written} {ts us xs : List Terminal} {b : Block} → ReadsUsed ts ws us → ends_used us ≡ true
    → ReadsBlockItems (Item q ∷ Use p ∷ t ∷ ts) b xs → RestOfBlock us xs
behind_use h f (result_item k) = absurd (no_expr_at_use k)
behind_use h f (use_item k l m) = rest_at _ _ _ (sym (one_used_here _ _ _ _ f (items_end_used m) h l)) (record { value = _; read = m })
behind_use h f (signature_item (path_head k) l m) = elim k [ ]
behind_use h f (signature_item (operator_head k) l m) = elim k [ ]
behind_use h f (prefix_item (path_bound k) l m n o) = elim k [ ]
behind_use h f (infix_item k l m n o p) = elim k [ ]

pub use_entry : (ts us : List Terminal) (p : Place) (w : Written) (ws : List Written) (before : Block → Block) → IsUse ts p w ws us → ends_used us ≡ true
    → ((b : Block) → before b ≡ plain.using p w ws b) → IsEntry ts before us
use_entry ts us p w ws before (use_front {ts = rest} i k) f g = record {
  found = λ q b vs h. items_as _ _ _ _ (g b) (use_item i k h);
  only = λ q b vs h. behind_use k f h;
  shorter = omega (arith, used_length k);
  fitting = λ n e. fits_used n k (fits_path n rest i e);
}

behind_signature : {q : Place} {h : Head} {t : TypeExpr} {ts us vs xs : List Terminal} {b : Block} → ReadsHead ts h (Colon ∷ us) → ReadsType us t vs → ends_type vs ≡ true
    → ReadsBlockItems (Item q ∷ ts) b xs → RestOfBlock vs xs
behind_signature h i f (result_item k) = absurd (no_result colon_binder (head_stuck h at_stop) k)
behind_signature (path_head h) i f (use_item k l m) = elim h [ ]
behind_signature (operator_head h) i f (use_item k l m) = elim h [ ]
behind_signature h i f (signature_item k l m) =
    let x = one_head _ _ _ _ h k in
    let y = one_type _ _ _ _ f (items_end_type m) i (type_from _ _ _ _ (tail_same _ _ _ _ x.1) l) in
    rest_at _ _ _ (sym y.1) (record { value = _; read = m })
behind_signature h i f (prefix_item k l m n o) = let x = one_head _ _ _ _ h (bound_head k) in absurd (no_params_at_colon (params_from _ _ _ _ x.1 m))
behind_signature h i f (infix_item k l m n o p) = absurd (no_infix_at_colon h k l)

pub signature_entry : (ts us vs : List Terminal) (h : Head) (t : TypeExpr) (before : Block → Block) → IsSigned ts h us → ReadsType us t vs → ends_type vs ≡ true
    → ((b : Block) → before b ≡ plain.signature h t b) → IsEntry ts before vs
signature_entry ts us vs h t before i k f g = record {
  found = λ q b xs l. items_as _ _ _ _ (g b) (signature_item i k l);
  only = λ q b xs l. behind_signature i k f l;
  shorter = omega (arith, head_length i, type_length k);
  fitting = λ n e. fits_type n k (fits_head n i e);
}

no_type_there : {q : Place} {h : Head} {ts us xs : List Terminal} {b : Block} → ReadsHead ts h (Colon ∷ us) → ((t : TypeExpr) (vs : List Terminal) → ReadsType us t vs → ends_type vs ≡ true → ⊥)
    → ReadsBlockItems (Item q ∷ ts) b xs → ⊥
no_type_there h f (result_item k) = no_result colon_binder (head_stuck h at_stop) k
no_type_there (path_head h) f (use_item k l m) = elim h [ ]
no_type_there (operator_head h) f (use_item k l m) = elim h [ ]
no_type_there h f (signature_item k l m) = f _ _ (type_from _ _ _ _ (tail_same _ _ _ _ ((one_head _ _ _ _ h k).1)) l) (items_end_type m)
no_type_there h f (prefix_item k l m n o) = let x = one_head _ _ _ _ h (bound_head k) in no_params_at_colon (params_from _ _ _ _ x.1 m)
no_type_there h f (infix_item k l m n o p) = no_infix_at_colon h k l

pub signature_none : (ts us : List Terminal) (h : Head) → IsSigned ts h us → ((t : TypeExpr) (vs : List Terminal) → ReadsType us t vs → ends_type vs ≡ true → ⊥)
    → (q : Place) (b : Block) (xs : List Terminal) → ReadsBlockItems (Item q ∷ ts) b xs → ⊥
signature_none ts us h i f q b xs k = no_type_there i f k

-- the front of a binding, and the body behind it
record PrefixRest (h : Head) (us xs : List Terminal) : Type 0 where
  single : is_single (head_name h).text ≡ true
  body : Block
  behind : List Terminal
  read : ReadsBlock us body behind
  rest : RestOfBlock behind xs

prefix_rest : {q : Place} {h : Head} {ps : List Param} {ts us xs : List Terminal} {b : Block} → IsPrefix ts h ps us → ReadsBlockItems (Item q ∷ ts) b xs → PrefixRest h us xs
prefix_rest (prefix_front h i) (result_item k) = absurd (no_result equals_binder (head_stuck (bound_head h) (params_stuck i)) k)
prefix_rest (prefix_front (path_bound h) i) (use_item k l m) = elim h [ ]
prefix_rest (prefix_front h i) (signature_item k l m) = let x = one_head _ _ _ _ k (bound_head h) in absurd (no_params_at_colon (params_from _ _ _ _ x.1 i))
prefix_rest (prefix_front h i) (prefix_item k l m n o) =
    let x = one_head _ _ _ _ (bound_head h) (bound_head k) in
    let y = one_params _ _ _ _ refl refl i (params_from _ _ _ _ x.1 m) in
    record {
      single = ap (λ z. is_single (head_name z).text) x.0 ∙ l;
      body = _;
      behind = _;
      read = block_from _ _ _ _ (tail_same _ _ _ _ y.1) n;
      rest = record { value = _; read = o };
    }
prefix_rest (prefix_front h i) (infix_item k l m n o p) = absurd (no_prefix_at_operator h i k l)

pub prefix_entry : (ts us vs : List Terminal) (h : Head) (ps : List Param) (c : Block) (before : Block → Block) → IsPrefix ts h ps us → is_single (head_name h).text ≡ true → ReadsBlock us c vs
    → ((b : Block) → before b ≡ plain.prefix h ps c b) → IsEntry ts before vs
prefix_entry ts us vs h ps c before (prefix_front i j) s k g = record {
  found = λ q b xs l. items_as _ _ _ _ (g b) (prefix_item i s j k l);
  only = λ q b xs l. (let r = prefix_rest (prefix_front i j) l in rest_at _ _ _ (sym ((one_block _ _ _ _ k r.read).1)) r.rest);
  shorter = omega (arith, bound_length i, params_length j, block_length k);
  fitting = λ n e. fits_block n k (fits_params n j (fits_bound n i e));
}

pub fits_prefix : (n : ℕ) (ts us : List Terminal) (h : Head) (ps : List Param) → IsPrefix ts h ps us → fits n ts ≡ true → fits n us ≡ true
fits_prefix n ts us h ps (prefix_front i j) f = fits_params n j (fits_bound n i f)

pub prefix_not_single : (ts us : List Terminal) (h : Head) (ps : List Param) → IsPrefix ts h ps us → is_single (head_name h).text ≡ false
    → (q : Place) (b : Block) (xs : List Terminal) → ReadsBlockItems (Item q ∷ ts) b xs → ⊥
prefix_not_single ts us h ps i f q b xs k = let r = prefix_rest i k in different _ r.single f

pub prefix_none : (ts us : List Terminal) (h : Head) (ps : List Param) → IsPrefix ts h ps us → ((c : Block) (vs : List Terminal) → ReadsBlock us c vs → ⊥)
    → (q : Place) (b : Block) (xs : List Terminal) → ReadsBlockItems (Item q ∷ ts) b xs → ⊥
prefix_none ts us h ps i f q b xs k = let r = prefix_rest i k in f _ _ r.read

record InfixRest (w : Written) (us xs : List Terminal) : Type 0 where
  single : is_single w.text ≡ true
  body : Block
  behind : List Terminal
  read : ReadsBlock us body behind
  rest : RestOfBlock behind xs

infix_rest : {q : Place} {x y : Param} {w : Written} {ts us xs : List Terminal} {b : Block} → IsInfix ts x w y us → ReadsBlockItems (Item q ∷ ts) b xs → InfixRest w us xs
infix_rest (infix_front i j k) (result_item l) = absurd (no_result equals_binder (param_stuck i (at_operator j (param_stuck k at_stop))) l)
infix_rest (infix_front i j k) (use_item l m n) = elim i [ ]
infix_rest (infix_front i j k) (signature_item l m n) = absurd (no_infix_at_colon l i j)
infix_rest (infix_front i j k) (prefix_item l m n o p) = absurd (no_prefix_at_operator l n i j)
infix_rest (infix_front i j k) (infix_item l m n o p q) =
    record { single = ap (λ z. is_single z.text) (one_operator j m) ∙ n; body = _; behind = _; read = p; rest = record { value = _; read = q } }

pub infix_entry : (ts us vs : List Terminal) (x y : Param) (w : Written) (c : Block) (before : Block → Block) → IsInfix ts x w y us → is_single w.text ≡ true → ReadsBlock us c vs
    → ((b : Block) → before b ≡ plain.infix_operator x w y c b) → IsEntry ts before vs
infix_entry ts us vs x y w c before (infix_front {u = u} {v = v} {ts = rest} i j k) s l g = record {
  found = λ q b xs m. items_as _ _ _ _ (g b) (infix_item i j s k l m);
  only = λ q b xs m. (let r = infix_rest (infix_front i j k) m in rest_at _ _ _ (sym ((one_block _ _ _ _ l r.read).1)) r.rest);
  shorter = omega (arith, block_length l);
  fitting = λ n e. fits_block n l (fits_param n (Equals ∷ rest) k (fits_operator n (v ∷ Equals ∷ rest) j (fits_param n (u ∷ v ∷ Equals ∷ rest) i e)));
}

pub fits_infix_front : (n : ℕ) (ts us : List Terminal) (x y : Param) (w : Written) → IsInfix ts x w y us → fits n ts ≡ true → fits n us ≡ true
fits_infix_front n ts us x y w (infix_front {u = u} {v = v} {ts = rest} i j k) e =
    fits_param n (Equals ∷ rest) k (fits_operator n (v ∷ Equals ∷ rest) j (fits_param n (u ∷ v ∷ Equals ∷ rest) i e))

pub infix_not_single : (ts us : List Terminal) (x y : Param) (w : Written) → IsInfix ts x w y us → is_single w.text ≡ false
    → (q : Place) (b : Block) (xs : List Terminal) → ReadsBlockItems (Item q ∷ ts) b xs → ⊥
infix_not_single ts us x y w i f q b xs k = let r = infix_rest i k in different _ r.single f

pub infix_none : (ts us : List Terminal) (x y : Param) (w : Written) → IsInfix ts x w y us → ((c : Block) (vs : List Terminal) → ReadsBlock us c vs → ⊥)
    → (q : Place) (b : Block) (xs : List Terminal) → ReadsBlockItems (Item q ∷ ts) b xs → ⊥
infix_none ts us x y w i f q b xs k = let r = infix_rest i k in f _ _ r.read

-- a line that is no entry is the expression at the end
pub other_none : (ts : List Terminal) → NoFront ts → ((e : Expr) (us : List Terminal) → ReadsExpr ts e (Closes ∷ us) done → ⊥)
    → (q : Place) (b : Block) (xs : List Terminal) → ReadsBlockItems (Item q ∷ ts) b xs → ⊥
other_none ts f g q b xs (result_item h) = g _ _ h
other_none ts f g q b xs (use_item h i j) = f.no_use _ _ _ _ (use_front h i)
other_none ts f g q b xs (signature_item h i j) = f.no_signature _ _ h
other_none ts f g q b xs (prefix_item h i j k l) = f.no_prefix _ _ _ (prefix_front h j)
other_none ts f g q b xs (infix_item h i j k l m) = f.no_infix _ _ _ _ (infix_front h i k)

pub not_closed : (ts us : List Terminal) (e : Expr) → ReadsExpr ts e us done → 6 ≤ reach us → ((vs : List Terminal) → us ≡ Closes ∷ vs → ⊥)
    → (d : Expr) (xs : List Terminal) → ReadsExpr ts d (Closes ∷ xs) done → ⊥
not_closed ts us e h q f d xs k = f _ ((one_expr _ _ _ _ _ _ q (omega arith) h k).0)

pub closed_found : (ts us vs : List Terminal) (e : Expr) → ReadsExpr ts e us done → us ≡ Closes ∷ vs → ReadsExpr ts e (Closes ∷ vs) done
closed_found ts us vs e h q = expr_up_to _ _ _ _ q h

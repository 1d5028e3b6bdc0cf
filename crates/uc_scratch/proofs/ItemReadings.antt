-- A file has at most one reading and at most one first fault, and not both.
use Rattle.std.proofs.Common.{◌≡◌, ℕ, ◌+◌, ◌<◌, ◌≤◌, Bool, true, false, List, [], ◌∷◌, refl, subst, sym, ap, ◌∙◌, arith}
use Rattle.std.specs.Prelude.{Option, Some, None}
use Rattle.uc_base.specs.declared.place.Place.{Place}
use Rattle.uc_base.specs.declared.fault.Fault.{Fault}
use Rattle.uc_base.specs.declared.fault.Fault.TheVariants.{BadSyntax, TooDeep}
use Rattle.uc_layout.specs.Tokens.{Seen}
use Rattle.uc_scratch.specs.declared.written.Written.{Written}
use Rattle.uc_scratch.specs.declared.written.Param.{Param}
use Rattle.uc_scratch.specs.declared.written.Head.{Head}
use Rattle.uc_scratch.specs.declared.file.DeclarationSort.{DeclarationSort}
use Rattle.uc_scratch.specs.declared.file.DeclarationSort.TheVariants as sort
use Rattle.uc_scratch.specs.declared.terminal.Terminal.{Terminal}
use Rattle.uc_scratch.specs.declared.terminal.Terminal.TheVariants.{Greater, Colon, Bar, Equals}
use Rattle.uc_scratch.specs.TypeExprs.{TypeExpr, TypeAtoms}
use Rattle.uc_scratch.specs.Exprs.{Expr, Block}
use Rattle.uc_scratch.specs.Files.{Constructor, Item, using, declaration, signature, prefix, infix_operator, watch}
use Rattle.uc_scratch.specs.Terminals.{IsWord, IsPath, IsOperator, IsParam, small_param, capital_param, any_param}
use Rattle.uc_scratch.specs.TypeGrammar.{ReadsVariables}
use Rattle.uc_scratch.specs.ExprGrammar.{ReadsHead, path_head, bracketed_head, operator_head, ReadsBound, path_bound, bracketed_bound, ReadsExpr}
use Rattle.uc_scratch.specs.ItemGrammar.{ReadsSort, plain_sort, structural_sort, unique_sort, tagged_sort, ReadsConstructor, constructor_fields, ReadsConstructors, last_constructor, more_constructors, ReadsItem, use_file_item, declaration_file_item, signature_file_item, prefix_file_item, infix_file_item, watch_file_item, items_among}
use Rattle.uc_scratch.specs.ExprLevels.{Signed}
use Rattle.uc_scratch.specs.FileLevels.{item_levels, signed_behind, AreShallow, no_items as shallow_none, more_items as shallow_more}
use Rattle.uc_scratch.specs.Nesting.{too_deep_place}
use Rattle.uc_scratch.specs.NameFaults.{name_fault}
use Rattle.uc_scratch.specs.Follows.{ends_type_atoms, goes_on, reach}
use Rattle.uc_scratch.specs.Reading.{ReadsTokens, ReadsItems, no_items, more_items, Reads, IsItemsFault, no_reading, too_many_levels, later, IsFileFault, nests_too_deep, at_item, at_name, ReadingIsUnique, FaultIsUnique, ReadingHasNoFault}
use Rattle.uc_scratch.proofs.TypeReadings.{tail_same, type_from, variables_from, one_type, one_type_atoms, one_variables}
use Rattle.uc_scratch.proofs.Classes.{one_word, one_path, one_operator, one_param, path_reach, operator_reach, no_path_operator, no_param_operator, one_params, one_used, one_head, bound_head}
use Rattle.uc_scratch.proofs.Begins.{expr_begins}
use Rattle.uc_scratch.proofs.ExprReadings.{block_from, params_from, one_expr, one_block, no_params_at_colon, no_infix_at_colon, no_prefix_at_operator}

head_same : (t u : Terminal) (ts us : List Terminal) → t ∷ ts ≡ u ∷ us → t ≡ u
head_same t u ts us e = cc

paths_meet : (t u : Terminal) (w v : Written) → t ≡ u → IsPath t w → IsPath u v → w ≡ v
paths_meet t u w v e h k = let P : Terminal → Type 0 = λ x. IsPath x v in one_path h (subst P (sym e) k)

same_tagged : (p : Place) (w v : Written) → w ≡ v → sort.Tagged p w ≡ sort.Tagged p v
same_tagged p w v e = cc

pub one_sort : {ts : List Terminal} (us vs : List Terminal) (s r : DeclarationSort) → ReadsSort ts s us → ReadsSort ts r vs → (s ≡ r) × (us ≡ vs)
one_sort us vs s r plain_sort plain_sort = (refl, refl)
one_sort us vs s r structural_sort structural_sort = (refl, refl)
one_sort us vs s r unique_sort unique_sort = (refl, refl)
one_sort us vs s r (tagged_sort h) (tagged_sort k) = (same_tagged _ _ _ (one_path h k), refl)

same_constructor : (w v : Written) (bs cs : TypeAtoms) (c d : Constructor) → w ≡ v → bs ≡ cs → c ≡ record { name = w; fields = bs } → d ≡ record { name = v; fields = cs } → c ≡ d
same_constructor w v bs cs c d e f g h = cc

-- what ends the fields of a constructor
data EndsFields : List Terminal → Type 0 where
  at_end : EndsFields []
  at_bar : {ts : List Terminal} → EndsFields (Bar ∷ ts)

fields_end : {ts : List Terminal} → EndsFields ts → ends_type_atoms ts ≡ true
fields_end at_end = refl
fields_end at_bar = refl

no_bar : (ts : List Terminal) → [] ≡ Bar ∷ ts → ⊥
no_bar ts e = cc

constructors_from : (us vs : List Terminal) (cs : List Constructor) → us ≡ vs → ReadsConstructors vs cs → ReadsConstructors us cs
constructors_from us vs cs e h = let P : List Terminal → Type 0 = λ x. ReadsConstructors x cs in subst P (sym e) h

same_constructors : (c d : Constructor) (cs ds : List Constructor) → c ≡ d → cs ≡ ds → c ∷ cs ≡ d ∷ ds
same_constructors c d cs ds e f = cc

one_constructor : {ts : List Terminal} (us vs : List Terminal) (c d : Constructor) → EndsFields us → EndsFields vs
    → ReadsConstructor ts c us → ReadsConstructor ts d vs → (c ≡ d) × (us ≡ vs)
one_constructor us vs c d p q (constructor_fields h i) (constructor_fields k l) =
    let x = one_type_atoms _ _ _ _ (fields_end p) (fields_end q) i l in (same_constructor _ _ _ _ _ _ (one_word h k) x.0 refl refl, x.1)

pub one_constructors : {ts : List Terminal} (cs ds : List Constructor) → ReadsConstructors ts cs → ReadsConstructors ts ds → cs ≡ ds
one_constructors cs ds (last_constructor h) (last_constructor k) = ap (λ c. c ∷ []) ((one_constructor _ _ _ _ at_end at_end h k).0)
one_constructors cs ds (last_constructor h) (more_constructors k l) = absurd (no_bar _ ((one_constructor _ _ _ _ at_end at_bar h k).1))
one_constructors cs ds (more_constructors h i) (last_constructor k) = absurd (no_bar _ (sym ((one_constructor _ _ _ _ at_bar at_end h k).1)))
one_constructors cs ds (more_constructors h i) (more_constructors k l) =
    let x = one_constructor _ _ _ _ at_bar at_bar h k in
    same_constructors _ _ _ _ x.0 (one_constructors _ _ i (constructors_from _ _ _ (tail_same _ _ _ _ x.1) l))

sort_reach : {ts us : List Terminal} {s : DeclarationSort} → ReadsSort ts s us → reach ts ≡ 6
sort_reach plain_sort = refl
sort_reach structural_sort = refl
sort_reach unique_sort = refl
sort_reach (tagged_sort h) = refl

head_reach : {ts us : List Terminal} {h : Head} → ReadsHead ts h us → reach ts ≤ 2
head_reach (path_head i) = omega (arith, path_reach i)
head_reach (bracketed_head i) = omega arith
head_reach (operator_head i) = omega (arith, operator_reach i)

param_reach : {t : Terminal} {p : Param} → IsParam t p → goes_on t ≤ 5
param_reach small_param = omega arith
param_reach capital_param = omega arith
param_reach any_param = omega arith

pub no_head : {ts us vs : List Terminal} {s : DeclarationSort} {h : Head} → ReadsSort ts s us → ReadsHead ts h vs → ⊥
no_head h k = absurd (omega (arith, sort_reach h, head_reach k))

pub no_param : {t : Terminal} {ts us : List Terminal} {s : DeclarationSort} {p : Param} → ReadsSort (t ∷ ts) s us → IsParam t p → ⊥
no_param h k = absurd (omega (arith, sort_reach h, param_reach k))

pub no_watch : {w : Written} {ts us : List Terminal} {s : DeclarationSort} → ReadsSort (Greater w ∷ ts) s us → ⊥
no_watch h = elim h [ ]

-- a signature of `>` is no watch
pub no_watch_at_colon : {w : Written} {ts us vs : List Terminal} {h : Head} {e f : Expr} → ReadsHead (Greater w ∷ ts) h (Colon ∷ us) → ReadsExpr ts e vs f → ⊥
no_watch_at_colon (path_head i) k = elim i [ ]
no_watch_at_colon (operator_head i) k = let f = expr_begins k in cc

pub no_bound_watch : {w : Written} {ts us : List Terminal} {h : Head} → ReadsBound (Greater w ∷ ts) h us → ⊥
no_bound_watch (path_bound i) = elim i [ ]

same_using : (p : Place) (w v : Written) (ws vs : List Written) → w ≡ v → ws ≡ vs → using p w ws ≡ using p v vs
same_using p w v ws vs q r = cc

same_declaration : (s r : DeclarationSort) (w v : Written) (ws vs : List Written) (cs ds : List Constructor)
    → s ≡ r → w ≡ v → ws ≡ vs → cs ≡ ds → declaration s w ws cs ≡ declaration r v vs ds
same_declaration s r w v ws vs cs ds e f g h = cc

same_signature : (h k : Head) (t u : TypeExpr) → h ≡ k → t ≡ u → signature h t ≡ signature k u
same_signature h k t u p q = cc

same_prefix : (h k : Head) (ps qs : List Param) (b c : Block) → h ≡ k → ps ≡ qs → b ≡ c → prefix h ps b ≡ prefix k qs c
same_prefix h k ps qs b c p q r = cc

same_infix : (p q r s : Param) (w v : Written) (b c : Block) → p ≡ r → w ≡ v → q ≡ s → b ≡ c → infix_operator p w q b ≡ infix_operator r v s c
same_infix p q r s w v b c e f g h = cc

same_watch : (p : Place) (e f : Expr) → e ≡ f → watch p e ≡ watch p f
same_watch p e f q = cc

pub one_item : {ts : List Terminal} (a b : Item) → ReadsItem ts a → ReadsItem ts b → a ≡ b
one_item a b (use_file_item h i) (use_file_item k l) =
    let x = one_used _ _ _ _ (omega arith) (omega arith) i l in same_using _ _ _ _ _ (one_path h k) x.0
one_item a b (use_file_item h i) (declaration_file_item k l m n o p) = elim k [ ]
one_item a b (use_file_item h i) (signature_file_item (path_head k) l) = elim k [ ]
one_item a b (use_file_item h i) (signature_file_item (operator_head k) l) = elim k [ ]
one_item a b (use_file_item h i) (prefix_file_item (path_bound k) l m) = elim k [ ]
one_item a b (use_file_item h i) (infix_file_item k l m n) = elim k [ ]
one_item a b (declaration_file_item h i j k l m) (use_file_item n o) = elim h [ ]
one_item a b (declaration_file_item h i j k l m) (declaration_file_item n o p q r s) =
    let x = one_sort _ _ _ _ h n in
    let y = one_variables _ _ _ _ refl refl k (variables_from (tail_same _ _ _ _ x.1) q) in
    same_declaration _ _ _ _ _ _ _ _ x.0 (paths_meet _ _ _ _ (head_same _ _ _ _ x.1) i o) y.0
    (one_constructors _ _ l (constructors_from _ _ _ (tail_same _ _ _ _ y.1) r))
one_item a b (declaration_file_item h i j k l m) (signature_file_item n o) = absurd (no_head h n)
one_item a b (declaration_file_item h i j k l m) (prefix_file_item n o p) = absurd (no_head h (bound_head n))
one_item a b (declaration_file_item h i j k l m) (infix_file_item n o p q) = absurd (no_param h n)
one_item a b (declaration_file_item h i j k l m) (watch_file_item n) = absurd (no_watch h)
one_item a b (signature_file_item (path_head h) i) (use_file_item k l) = elim h [ ]
one_item a b (signature_file_item (operator_head h) i) (use_file_item k l) = elim h [ ]
one_item a b (signature_file_item h i) (declaration_file_item k l m n o p) = absurd (no_head k h)
one_item a b (signature_file_item h i) (signature_file_item k l) =
    let x = one_head _ _ _ _ h k in
    let y = one_type _ _ _ _ refl refl i (type_from _ _ _ _ (tail_same _ _ _ _ x.1) l) in same_signature _ _ _ _ x.0 y.0
one_item a b (signature_file_item h i) (prefix_file_item k l m) =
    let x = one_head _ _ _ _ h (bound_head k) in absurd (no_params_at_colon (params_from _ _ _ _ x.1 l))
one_item a b (signature_file_item h i) (infix_file_item k l m n) = absurd (no_infix_at_colon h k l)
one_item a b (signature_file_item h i) (watch_file_item k) = absurd (no_watch_at_colon h k)
one_item a b (prefix_file_item (path_bound h) i j) (use_file_item k l) = elim h [ ]
one_item a b (prefix_file_item h i j) (declaration_file_item k l m n o p) = absurd (no_head k (bound_head h))
one_item a b (prefix_file_item h i j) (signature_file_item k l) =
    let x = one_head _ _ _ _ k (bound_head h) in absurd (no_params_at_colon (params_from _ _ _ _ x.1 i))
one_item a b (prefix_file_item h i j) (prefix_file_item k l m) =
    let x = one_head _ _ _ _ (bound_head h) (bound_head k) in
    let y = one_params _ _ _ _ refl refl i (params_from _ _ _ _ x.1 l) in
    let z = one_block _ _ _ _ j (block_from _ _ _ _ (tail_same _ _ _ _ y.1) m) in same_prefix _ _ _ _ _ _ x.0 y.0 z.0
one_item a b (prefix_file_item h i j) (infix_file_item k l m n) = absurd (no_prefix_at_operator h i k l)
one_item a b (prefix_file_item h i j) (watch_file_item k) = absurd (no_bound_watch h)
one_item a b (infix_file_item h i j k) (use_file_item l m) = elim h [ ]
one_item a b (infix_file_item h i j k) (declaration_file_item l m n o p q) = absurd (no_param l h)
one_item a b (infix_file_item h i j k) (signature_file_item l m) = absurd (no_infix_at_colon l h i)
one_item a b (infix_file_item h i j k) (prefix_file_item l m n) = absurd (no_prefix_at_operator l m h i)
one_item a b (infix_file_item h i j k) (infix_file_item l m n o) =
    same_infix _ _ _ _ _ _ _ _ (one_param h l) (one_operator i m) (one_param j n) ((one_block _ _ _ _ k o).0)
one_item a b (infix_file_item h i j k) (watch_file_item l) = elim h [ ]
one_item a b (watch_file_item h) (declaration_file_item k l m n o p) = absurd (no_watch k)
one_item a b (watch_file_item h) (signature_file_item k l) = absurd (no_watch_at_colon k h)
one_item a b (watch_file_item h) (prefix_file_item k l m) = absurd (no_bound_watch k)
one_item a b (watch_file_item h) (infix_file_item k l m n) = elim k [ ]
one_item a b (watch_file_item h) (watch_file_item k) = same_watch _ _ _ ((one_expr _ _ _ _ _ _ (omega arith) (omega arith) h k).1 refl)

-- items

same_items : (i j : Item) (is js : List Item) → i ≡ j → is ≡ js → i ∷ is ≡ j ∷ js
same_items i j is js e f = cc

one_items : {tss : List (List Seen)} (a b : List Item) → ReadsItems tss a → ReadsItems tss b → a ≡ b
one_items a b no_items no_items = refl
one_items a b (more_items h i) (more_items k l) = same_items _ _ _ _ (one_item _ _ h k) (one_items _ _ i l)

pub reading_unique : ReadingIsUnique
reading_unique blocks a b h k = one_items a b h.items k.items

-- an item whose trees are too deep is none whose trees aren't
levels_differ : (signed : Option Signed) (i j : Item) → i ≡ j → 512 < item_levels signed i → item_levels signed j ≤ 512 → ⊥
levels_differ signed i j e p q = let f : item_levels signed i ≡ item_levels signed j = ap (item_levels signed) e in absurd (omega arith)

faults_from : (i j : Item) (tss : List (List Seen)) (f : Fault) → i ≡ j → IsItemsFault (signed_behind j) tss f → IsItemsFault (signed_behind i) tss f
faults_from i j tss f e h = let P : Item → Type 0 = λ x. IsItemsFault (signed_behind x) tss f in subst P (sym e) h

one_items_fault : {signed : Option Signed} {tss : List (List Seen)} (f g : Fault) → IsItemsFault signed tss f → IsItemsFault signed tss g → f ≡ g
one_items_fault f g (no_reading h) (no_reading k) = refl
one_items_fault f g (no_reading h) (too_many_levels k l) = absurd (h _ k)
one_items_fault f g (no_reading h) (later k l m) = absurd (h _ k)
one_items_fault f g (too_many_levels h i) (no_reading k) = absurd (k _ h)
one_items_fault f g (too_many_levels h i) (too_many_levels k l) = refl
one_items_fault f g (too_many_levels h i) (later k l m) = absurd (levels_differ _ _ _ (one_item _ _ h k) i l)
one_items_fault f g (later h i j) (no_reading k) = absurd (k _ h)
one_items_fault f g (later h i j) (too_many_levels k l) = absurd (levels_differ _ _ _ (one_item _ _ k h) l i)
one_items_fault f g (later h i j) (later k l m) = one_items_fault _ _ j (faults_from _ _ _ _ (one_item _ _ h k) m)

shallow_from : (i j : Item) (is : List Item) → i ≡ j → AreShallow (signed_behind j) is → AreShallow (signed_behind i) is
shallow_from i j is e h = let P : Item → Type 0 = λ x. AreShallow (signed_behind x) is in subst P (sym e) h

-- items that are all read, and whose trees aren't too deep, have no fault
no_fault : {tss : List (List Seen)} {is : List Item} {f : Fault} → ReadsItems tss is → (signed : Option Signed) → AreShallow signed is → IsItemsFault signed tss f → ⊥
no_fault no_items signed s k = elim k [ ]
no_fault (more_items h i) signed (shallow_more p q) (no_reading k) = k _ h
no_fault (more_items h i) signed (shallow_more p q) (too_many_levels k l) = levels_differ _ _ _ (one_item _ _ k h) l p
no_fault (more_items h i) signed (shallow_more p q) (later k l m) = no_fault i _ (shallow_from _ _ _ (one_item _ _ k h) q) m

some_none : {A : Type 0} (o : Option A) (x : A) → o ≡ Some x → o ≡ None → ⊥
some_none o x p q = cc

same_place : (o : Option Place) (p q : Place) → o ≡ Some p → o ≡ Some q → TooDeep p ≡ TooDeep q
same_place o p q h k = cc

same_fault : (o : Option Fault) (p q : Fault) → o ≡ Some p → o ≡ Some q → p ≡ q
same_fault o p q h k = cc

pub fault_unique : FaultIsUnique
fault_unique blocks a b (nests_too_deep h) (nests_too_deep k) = same_place _ _ _ h k
fault_unique blocks a b (nests_too_deep h) (at_item k l) = absurd (some_none _ _ h k)
fault_unique blocks a b (nests_too_deep h) (at_name k l m n) = absurd (some_none _ _ h k)
fault_unique blocks a b (at_item h i) (nests_too_deep k) = absurd (some_none _ _ k h)
fault_unique blocks a b (at_item h i) (at_item k l) = one_items_fault _ _ i l
fault_unique blocks a b (at_item h i) (at_name k l m n) = absurd (no_fault l _ m i)
fault_unique blocks a b (at_name h i j o) (nests_too_deep k) = absurd (some_none _ _ k h)
fault_unique blocks a b (at_name h i j o) (at_item k l) = absurd (no_fault i _ j l)
fault_unique blocks a b (at_name h i j o) (at_name k l m n) =
    let e = one_items _ _ i l in same_fault _ _ _ o (ap name_fault e ∙ n)

pub reading_no_fault : ReadingHasNoFault
reading_no_fault blocks file fault h (nests_too_deep k) = some_none _ _ k h.nested
reading_no_fault blocks file fault h (at_item k l) = no_fault h.items _ h.shallow l
reading_no_fault blocks file fault h (at_name k l m n) = some_none _ _ (ap name_fault (one_items _ _ h.items l) ∙ n) h.named

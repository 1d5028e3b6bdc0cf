-- Walks over names that stand in sets.
use Rattle.std.proofs.Common.{◌≡◌, ℕ, ◌+◌, ◌<◌, ◌||◌, Bool, true, false, not, subst, List, [], ◌∷◌, ◌++◌, length, get_or, drop, Bor, map, refl, sym, ap, ◌∙◌, if◌then◌else◌, Option, Some, None}
use Rattle.std.specs.Prelude.{bytes_eq}
use Rattle.std.specs.declared.cmp.Ordering.{Ordering}
use Rattle.std.specs.declared.cmp.Ordering.TheVariants.{Less, Equal, Greater}
use Rattle.std.specs.Ordering.{nat_cmp, is_eq, match_ordering}
use Rattle.std.specs.Cmp.Lexicographic.{slice_cmp}
use Rattle.std.specs.List.{list_any}
use Rattle.std.specs.Option.{option_or}
use Rattle.std.specs.BTreeSet.{insert_key}
use Rattle.std.specs.BTreeMap.{is_at}
use Rattle.std.proofs.lemmas.Map.Text.{is_eq-slice_cmp}
use Rattle.std.proofs.lemmas.List.{drop_more}
use Rattle.std.proofs.lemmas.Slice.Eq.{bytes_eq-Decides}
use Rattle.uc_base.specs.Name.{is_one_of}
use Rattle.uc_base.specs.declared.fault.Fault.{Fault}
use Rattle.uc_base.specs.declared.fault.Fault.TheVariants.{DuplicateName}
use Rattle.uc_scratch.specs.declared.written.Written.{Written}
use Rattle.uc_scratch.specs.NameSets.{SameNames}
use Rattle.uc_scratch.specs.declared.written.Param.{Param}
use Rattle.uc_scratch.specs.declared.written.Param.TheVariants as param
use Rattle.uc_scratch.specs.declared.block.BindingFront.{BindingFront}
use Rattle.uc_scratch.specs.declared.block.BindingFront.TheVariants as front
use Rattle.uc_scratch.specs.Exprs as expr
use Rattle.uc_scratch.specs.Exprs.{Block}
use Rattle.uc_scratch.specs.ExprViews.{binding_before}
use Rattle.uc_scratch.specs.ExprGrammar.{head_name}
use Rattle.uc_scratch.specs.Files as file
use Rattle.uc_scratch.specs.Files.{Constructor, Item}
use Rattle.uc_scratch.specs.FileViews.{constructor_of, constructors_of, declaration_of, binding_of}
use Rattle.uc_scratch.specs.declared.file.Constructor as declared
use Rattle.uc_scratch.specs.declared.file.Declaration as declared_type
use Rattle.uc_scratch.specs.NameFaults.{repeated, repeated_among, param_names, lone, begins_with_binding, expr_fault, block_fault, front_name, binding_fault, constructor_name, constructors_before, constructors_fault, begin_with_binding, items_fault}

or_twice : (a b : Bool) → (a || b) ≡ (a || (a || b))
or_twice true b = refl
or_twice false b = refl

or_swapped : (a b c : Bool) → (a || (b || c)) ≡ (b || (a || c))
or_swapped true true c = refl
or_swapped true false c = refl
or_swapped false true c = refl
or_swapped false false c = refl

module _ {V : Type 0} (items : V → List ℕ) (cmp : V → V → Ordering) (by_items : (v w : V) → cmp v w ≡ slice_cmp nat_cmp (items v) (items w)) where
  same_items : (k x : V) → cmp k x ≡ Equal → items k ≡ items x
  same_items k x e = (bytes_eq-Decides (items k) (items x)).0 (sym (is_eq-slice_cmp (items k) (items x)) ∙ ap is_eq (sym (by_items k x) ∙ e))

  inserted_by : (o : Ordering) (x : V) (xs : List V) (k : V) (t : List ℕ) → cmp k x ≡ o
      → is_one_of (map items (insert_key cmp xs k)) t ≡ is_one_of (items k ∷ map items xs) t
      → is_one_of (map items (match_ordering o (k ∷ x ∷ xs) (x ∷ xs) (x ∷ insert_key cmp xs k))) t ≡ is_one_of (items k ∷ items x ∷ map items xs) t
  inserted_by Less x xs k t e f = refl
  inserted_by Equal x xs k t e f =
      or_twice (bytes_eq t (items x)) (is_one_of (map items xs) t) ∙ ap (λ i. bytes_eq t i || (bytes_eq t (items x) || is_one_of (map items xs) t)) (sym (same_items k x e))
  inserted_by Greater x xs k t e f =
      ap (λ b. bytes_eq t (items x) || b) f ∙ or_swapped (bytes_eq t (items x)) (bytes_eq t (items k)) (is_one_of (map items xs) t)

  -- a set of texts with one more
  pub inserted : (ks : List V) (k : V) (t : List ℕ) → is_one_of (map items (insert_key cmp ks k)) t ≡ is_one_of (items k ∷ map items ks) t
  inserted [] k t = refl
  inserted (x ∷ xs) k t = inserted_by (cmp k x) x xs k t refl (inserted xs k t)

  -- whether a set has a text
  pub has : (ks : List V) (k : V) → list_any (is_at (cmp k)) ks ≡ is_one_of (map items ks) (items k)
  has [] k = refl
  has (x ∷ xs) k =
      ap (λ b. b || list_any (is_at (cmp k)) xs) (ap is_eq (by_items k x) ∙ is_eq-slice_cmp (items k) (items x))
      ∙ ap (λ b. bytes_eq (items k) (items x) || b) (has xs k)

one_more_same : (t : List ℕ) {xs ys : List (List ℕ)} → SameNames xs ys → SameNames (t ∷ xs) (t ∷ ys)
one_more_same t h = record { same = λ u. ap (λ b. bytes_eq u t || b) (h.same u) }

pub repeated_same : {xs ys : List (List ℕ)} (w : Written) → SameNames xs ys → repeated xs w ≡ repeated ys w
repeated_same w h = ap (λ b. if b then Some (DuplicateName w.place) else None) (h.same w.text)

pub repeated_among_same : {xs ys : List (List ℕ)} (ws : List Written) → SameNames xs ys → repeated_among xs ws ≡ repeated_among ys ws
repeated_among_same [] h = refl
repeated_among_same {xs} {ys} (w ∷ ws) h =
    ap (λ f. option_or f (repeated_among (w.text ∷ xs) ws)) (repeated_same w h) ∙ ap (λ f. option_or (repeated ys w) f) (repeated_among_same ws (one_more_same w.text h))

pass_name : (before after : List (List ℕ)) (w : Written) (ws : List Written) (f : Option Fault) → f ≡ repeated before w → f ≡ None → SameNames after (w.text ∷ before)
    → repeated_among before (w ∷ ws) ≡ repeated_among after ws
pass_name before after w ws f e n h =
    ap (λ g. option_or g (repeated_among (w.text ∷ before) ws)) (sym e ∙ n) ∙ sym (repeated_among_same ws h)

-- a name of a list that is new
pub pass_item : (names : List (Bor Written)) (i : ℕ) (w : Bor Written) (before after : List (List ℕ)) (f : Option Fault) → i < length names → w ≡ get_or names i w
    → f ≡ repeated before w.now → f ≡ None → SameNames after (w.now.text ∷ before)
    → repeated_among after (map (λ x. x.now) (drop (i + 1) names)) ≡ repeated_among before (map (λ x. x.now) (drop i names))
pass_item names i w before after f h is e n s =
    sym (ap (λ l. repeated_among before (map (λ (x : Bor Written). x.now) l)) (drop_more names i w h ∙ ap (λ v. v ∷ drop (i + 1) names) (sym is))
    ∙ pass_name before after w.now (map (λ (x : Bor Written). x.now) (drop (i + 1) names)) f e n s)

pub block_fault_same : {xs ys : List (List ℕ)} (b : Block) → SameNames xs ys → block_fault xs b ≡ block_fault ys b
block_fault_same (expr.result e) h = refl
block_fault_same (expr.using q w ws b) h = block_fault_same b h
block_fault_same (expr.signature k t b) h = ap (λ f. option_or (lone k (begins_with_binding (head_name k) b)) f) (block_fault_same b h)
block_fault_same {xs} {ys} (expr.prefix k ps c b) h =
    ap (λ f. option_or f (option_or (repeated_among [] (param_names ps)) (option_or (block_fault [] c) (block_fault ((head_name k).text ∷ xs) b)))) (repeated_same (head_name k) h)
    ∙ ap (λ f. option_or (repeated ys (head_name k)) (option_or (repeated_among [] (param_names ps)) (option_or (block_fault [] c) f))) (block_fault_same b (one_more_same (head_name k).text h))
block_fault_same {xs} {ys} (expr.infix_operator p w q c b) h =
    ap (λ f. option_or f (option_or (repeated_among [] (param_names (p ∷ q ∷ []))) (option_or (block_fault [] c) (block_fault (w.text ∷ xs) b)))) (repeated_same w h)
    ∙ ap (λ f. option_or (repeated ys w) (option_or (repeated_among [] (param_names (p ∷ q ∷ []))) (option_or (block_fault [] c) f))) (block_fault_same b (one_more_same w.text h))

first_of_three : {A : Type 0} (f g h k : Option A) → option_or f (option_or g (option_or h k)) ≡ option_or (option_or f (option_or g h)) k
first_of_three (Some x) g h k = refl
first_of_three None (Some x) h k = refl
first_of_three None None h k = refl

-- a binding before the rest of a block
pub binding_step : (before after : List (List ℕ)) (f : BindingFront) (c b : Block) → SameNames after ((front_name f).text ∷ before)
    → block_fault before (binding_before f c b) ≡ option_or (binding_fault before f c) (block_fault after b)
binding_step before after (front.Prefix h ps) c b s =
    first_of_three (repeated before (head_name h)) (repeated_among [] (param_names ps.items)) (block_fault [] c) _ ∙ ap (λ g. option_or (binding_fault before (front.Prefix h ps) c) g) (sym (block_fault_same b s))
binding_step before after (front.Infix p w q) c b s =
    first_of_three (repeated before w) (repeated_among [] (param_names (p ∷ q ∷ []))) (block_fault [] c) _ ∙ ap (λ g. option_or (binding_fault before (front.Infix p w q) c) g) (sym (block_fault_same b s))

pub two_params : (p q : Param) → param_names (p ∷ q ∷ []) ≡ param_names (p ∷ []) ++ param_names (q ∷ [])
two_params (param.Name w) q = refl
two_params (param.Any r) q = refl

pub constructors_fault_same : {xs ys : List (List ℕ)} (w : Written) (cs : List Constructor) → SameNames xs ys → constructors_fault xs w cs ≡ constructors_fault ys w cs
constructors_fault_same w [] h = refl
constructors_fault_same {xs} {ys} w (c ∷ cs) h =
    ap (λ b. option_or (if b then Some (DuplicateName c.name.place) else None) (constructors_fault (constructor_name w c ∷ xs) w cs)) (h.same (constructor_name w c))
    ∙ ap (λ f. option_or (if is_one_of ys (constructor_name w c) then Some (DuplicateName c.name.place) else None) f) (constructors_fault_same w cs (one_more_same (constructor_name w c) h))

pub constructors_before_same : {xs ys : List (List ℕ)} (w : Written) (cs : List Constructor) → SameNames xs ys → SameNames (constructors_before w cs xs) (constructors_before w cs ys)
constructors_before_same w [] h = h
constructors_before_same w (c ∷ cs) h = constructors_before_same w cs (one_more_same (constructor_name w c) h)

pub items_fault_same : {ts us ks ls : List (List ℕ)} (is : List Item) → SameNames ts us → SameNames ks ls → items_fault ts ks is ≡ items_fault us ls is
items_fault_same [] t k = refl
items_fault_same (file.using q w ws ∷ is) t k = items_fault_same is t k
items_fault_same {ts} {us} {ks} {ls} (file.declaration s w ws cs ∷ is) t k =
    ap (λ f. option_or f (option_or (repeated_among [] ws) (option_or (constructors_fault ts w cs) (items_fault (constructors_before w cs ts) (w.text ∷ ks) is)))) (repeated_same w k)
    ∙ ap (λ f. option_or (repeated ls w) (option_or (repeated_among [] ws) (option_or f (items_fault (constructors_before w cs ts) (w.text ∷ ks) is)))) (constructors_fault_same w cs t)
    ∙ ap (λ f. option_or (repeated ls w) (option_or (repeated_among [] ws) (option_or (constructors_fault us w cs) f))) (items_fault_same is (constructors_before_same w cs t) (one_more_same w.text k))
items_fault_same (file.signature h u ∷ is) t k = ap (λ f. option_or (lone h (begin_with_binding (head_name h) is)) f) (items_fault_same is t k)
items_fault_same {ts} {us} {ks} {ls} (file.prefix h ps b ∷ is) t k =
    ap (λ f. option_or f (option_or (repeated_among [] (param_names ps)) (option_or (block_fault [] b) (items_fault ((head_name h).text ∷ ts) ks is)))) (repeated_same (head_name h) t)
    ∙ ap (λ f. option_or (repeated us (head_name h)) (option_or (repeated_among [] (param_names ps)) (option_or (block_fault [] b) f))) (items_fault_same is (one_more_same (head_name h).text t) k)
items_fault_same {ts} {us} {ks} {ls} (file.infix_operator p w q b ∷ is) t k =
    ap (λ f. option_or f (option_or (repeated_among [] (param_names (p ∷ q ∷ []))) (option_or (block_fault [] b) (items_fault (w.text ∷ ts) ks is)))) (repeated_same w t)
    ∙ ap (λ f. option_or (repeated us w) (option_or (repeated_among [] (param_names (p ∷ q ∷ []))) (option_or (block_fault [] b) f))) (items_fault_same is (one_more_same w.text t) k)
items_fault_same (file.watch q e ∷ is) t k = ap (λ f. option_or (expr_fault e) f) (items_fault_same is t k)

same_names : (xs : List (List ℕ)) → SameNames xs xs
same_names xs = record { same = λ t. refl }

-- a binding before other items
pub item_step : (before after kinds : List (List ℕ)) (f : BindingFront) (b : Block) (is : List Item) → SameNames after ((front_name f).text ∷ before)
    → items_fault before kinds (binding_of f b ∷ is) ≡ option_or (binding_fault before f b) (items_fault after kinds is)
item_step before after kinds (front.Prefix h ps) b is s =
    first_of_three (repeated before (head_name h)) (repeated_among [] (param_names ps.items)) (block_fault [] b) _
    ∙ ap (λ g. option_or (binding_fault before (front.Prefix h ps) b) g) (sym (items_fault_same is s (same_names kinds)))
item_step before after kinds (front.Infix p w q) b is s =
    first_of_three (repeated before w) (repeated_among [] (param_names (p ∷ q ∷ []))) (block_fault [] b) _
    ∙ ap (λ g. option_or (binding_fault before (front.Infix p w q) b) g) (sym (items_fault_same is s (same_names kinds)))

or_same : {A : Type 0} (f g h : Option A) → (f ≡ None → g ≡ h) → option_or f g ≡ option_or f h
or_same None g h e = e refl
or_same (Some x) g h e = refl

chained : {xs ys zs : List (List ℕ)} → SameNames xs ys → SameNames ys zs → SameNames xs zs
chained h k = record { same = λ t. h.same t ∙ k.same t }

new_name : (a b : Bool) → a ≡ not b → a ≡ true → b ≡ false
new_name a true e f = cc
new_name a false e f = refl

module _ (w : Written) (cs : List declared.Constructor) (i : ℕ) (c : declared.Constructor) where
  constructor_there : i < length cs → c ≡ get_or cs i c → constructors_of (drop i cs) ≡ constructor_of c ∷ constructors_of (drop (i + 1) cs)
  constructor_there h is = ap constructors_of (drop_more cs i c h) ∙ ap (λ d. constructor_of d ∷ constructors_of (drop (i + 1) cs)) (sym is)

  -- a constructor whose name is new
  pub constructor_step : (before after : List (List ℕ)) (name : List ℕ) (added : Bool) (all : List (List ℕ)) (fault : Option Fault)
      → i < length cs → c ≡ get_or cs i c → name ≡ constructor_name w (constructor_of c) → added ≡ not (is_one_of before name) → added ≡ true → SameNames after (name ∷ before)
      → constructors_fault before w (constructors_of (drop i cs)) ≡ fault → SameNames (constructors_before w (constructors_of (drop i cs)) before) all
      → (constructors_fault after w (constructors_of (drop (i + 1) cs)) ≡ fault) × SameNames (constructors_before w (constructors_of (drop (i + 1) cs)) after) all
  constructor_step before after name added all fault h is n a b s e k =
      let rest = constructors_of (drop (i + 1) cs) in
      let there = constructor_there h is in
      let whole = constructor_name w (constructor_of c) in
      let fresh : is_one_of before whole ≡ false = ap (is_one_of before) (sym n) ∙ new_name added (is_one_of before name) a b in
      let same : SameNames after (whole ∷ before) = subst (λ m. SameNames after (m ∷ before)) n s in
      let old : constructors_fault before w (constructors_of (drop i cs)) ≡ constructors_fault (whole ∷ before) w rest =
      ap (constructors_fault before w) there ∙ ap (λ t. option_or (if t then Some (DuplicateName c.name.place) else None) (constructors_fault (whole ∷ before) w rest)) fresh in (
        constructors_fault_same w rest same ∙ sym old ∙ e,
        chained (constructors_before_same w rest same) (subst (λ l. SameNames (constructors_before w l before) all) there k),
      )

-- a declaration before other items
pub declaration_step : (terms after kinds behind : List (List ℕ)) (d : declared_type.Declaration) (cs : List declared.Constructor) (is : List Item) (f : Option Fault)
    → cs ≡ d.constructors.items → f ≡ constructors_fault terms d.name (constructors_of cs) → (f ≡ None → SameNames after (constructors_before d.name (constructors_of cs) terms))
    → repeated kinds d.name ≡ None → repeated_among [] d.params.items ≡ None → SameNames behind (d.name.text ∷ kinds)
    → items_fault terms kinds (declaration_of d ∷ is) ≡ option_or f (items_fault after behind is)
declaration_step terms after kinds behind d cs is f at e s k p b =
    ap (λ g. option_or g (option_or (repeated_among [] d.params.items) (option_or (constructors_fault terms d.name (constructors_of d.constructors.items)) (last_part d.constructors.items)))) k
    ∙ ap (λ g. option_or g (option_or (constructors_fault terms d.name (constructors_of d.constructors.items)) (last_part d.constructors.items))) p
    ∙ ap (λ l. option_or (constructors_fault terms d.name (constructors_of l)) (last_part l)) (sym at)
    ∙ ap (λ g. option_or g (last_part cs)) (sym e)
    ∙ or_same f (last_part cs) (items_fault after behind is) (λ n. sym (items_fault_same is (s n) b))
  where
    last_part : List declared.Constructor → Option Fault
    last_part l = items_fault (constructors_before d.name (constructors_of l) terms) (d.name.text ∷ kinds) is

pub ruleset name_steps = (repeated_same, repeated_among_same, binding_step, two_params, item_step)

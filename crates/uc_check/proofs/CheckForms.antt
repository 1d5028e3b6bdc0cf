-- Which rule of its form checks a term.
use Rattle.std.proofs.Common.{◌≡◌, ℕ, ◌<◌, true, List, [], ◌∷◌, length, get_or, refl, sym, ap, ◌∙◌, arith}
use Rattle.std.proofs.lemmas.Bool.{eqb-true}
use Rattle.uc_base.specs.declared.reference.Ref.TheVariants.{Builtin}
use Rattle.uc_tree.specs.declared.target.Target.{Target}
use Rattle.uc_tree.specs.declared.target.Target.TheVariants.{Stored}
use Rattle.uc_tree.specs.declared.term.TermNode.{TermNode}
use Rattle.uc_tree.specs.declared.term.TermNode.TheVariants as node
use Rattle.uc_tree.specs.Terms.{Term, Terms, terms_of}
use Rattle.uc_tree.specs.Terms as terms
use Rattle.uc_tree.specs.TermViews.{term_of}
use Rattle.uc_context.specs.declared.open.OpenNode.{OpenNode}
use Rattle.uc_context.specs.declared.open.OpenNode.TheVariants as types
use Rattle.uc_context.specs.Opens.{Open, tuple, applied, none, more, opens_of}
use Rattle.uc_context.specs.OpenViews.{open_of}
use Rattle.uc_subtyping.specs.Instances.{opens_count}
use Rattle.uc_subtyping.proofs.Arms.{opens_count-of}
use Rattle.uc_typing.specs.Fronts.{list_of}
use Rattle.uc_typing.specs.Terms.{terms_count, is_list, has_rule_of_form}
use Rattle.uc_check.proofs.ListPending.{terms_count-of}

-- a list's type
pub record IsListType (t : Open) : Type 0 where
  pub element : Open
  pub is : t ≡ list_of element

pub list_type : (t : Open) → is_list t ≡ true → IsListType t
list_type (applied (Stored (Builtin n)) (more t none)) h = record { element = t; is = ap (λ (k : ℕ). applied (Stored (Builtin k)) (more t none)) (eqb-true n 5 h) }
list_type t h = absurd cc

-- what stands in a list of one type
pub record IsOneItem (items : List Open) (t : Open) : Type 0 where
  pub there : 0 < length items
  pub first : (d : Open) → get_or items 0 d ≡ t

pub one_item : (items : List Open) (t : Open) → opens_of items ≡ more t none → IsOneItem items t
one_item [] t is = absurd cc
one_item (v ∷ vs) t is = record { there = omega arith; first = λ d. let same : v ≡ t = cc in same }

-- a term that is a list, and its type
module _ (e : Term) (t : Open) (es : List Term) (h : Target) (items : List Open) (form : has_rule_of_form e t ≡ true) (e_is : e ≡ terms.list (terms_of es)) (t_is : t ≡ applied h (opens_of items)) where
  abbrev list_form : IsListType t
  list_form = list_type t (sym (ap (λ (d : Term). has_rule_of_form d t) e_is) ∙ form)

  abbrev pub list_element : Open
  list_element = list_form.element

  pub list_item : IsOneItem items list_element
  list_item = one_item items list_element (let same : applied h (opens_of items) ≡ list_of list_element = sym t_is ∙ list_form.is in cc)

  -- its argument is the type of the elements
  pub list_is : (u : Open) → u ≡ get_or items 0 u → t ≡ list_of u
  list_is u at = list_form.is ∙ ap list_of (sym (list_item.first u) ∙ sym at)

-- a tuple has as many types as parts
pub tuple_form : (e : Term) (t : Open) (es : List Term) (ts : List Open) → has_rule_of_form e t ≡ true → e ≡ terms.tuple (terms_of es) → t ≡ tuple (opens_of ts) → terms_count (terms_of es) ≡ opens_count (opens_of ts)
tuple_form e t es ts form e_is t_is = eqb-true (terms_count (terms_of es)) (opens_count (opens_of ts)) (sym (ap (λ (d : Term). has_rule_of_form d (tuple (opens_of ts))) e_is) ∙ sym (ap (has_rule_of_form e) t_is) ∙ form)

pub tuple_lengths : (es : List Term) (ts : List Open) → terms_count (terms_of es) ≡ opens_count (opens_of ts) → length es ≡ length ts
tuple_lengths es ts same = sym (terms_count-of es) ∙ same ∙ opens_count-of ts

-- a term whose form and type have no rule
module _ (n : OpenNode) (t : Open) (is : open_of n ≡ t) where
  pub no_arrow : (e : Term) → ((a : _) (b : _) → n ≡ types.Arrow a b → ⊥) → has_rule_of_form (terms.lambda e) t ≡ true → ⊥
  no_arrow e other form = go n other (ap (has_rule_of_form (terms.lambda e)) is ∙ form)
    where
      go : (m : OpenNode) → ((a : _) (b : _) → m ≡ types.Arrow a b → ⊥) → has_rule_of_form (terms.lambda e) (open_of m) ≡ true → ⊥
      go (types.Arrow a b) f h = f a b refl
      go m f h = absurd cc

  pub no_tuple : (es : Terms) → ((ts : _) → n ≡ types.Tuple ts → ⊥) → has_rule_of_form (terms.tuple es) t ≡ true → ⊥
  no_tuple es other form = go n other (ap (has_rule_of_form (terms.tuple es)) is ∙ form)
    where
      go : (m : OpenNode) → ((ts : _) → m ≡ types.Tuple ts → ⊥) → has_rule_of_form (terms.tuple es) (open_of m) ≡ true → ⊥
      go (types.Tuple ts) f h = f ts refl
      go m f h = absurd cc

  pub no_data : (es : Terms) → ((x : _) (ts : _) → n ≡ types.Data x ts → ⊥) → has_rule_of_form (terms.list es) t ≡ true → ⊥
  no_data es other form = go n other (ap (has_rule_of_form (terms.list es)) is ∙ form)
    where
      go : (m : OpenNode) → ((x : _) (ts : _) → m ≡ types.Data x ts → ⊥) → has_rule_of_form (terms.list es) (open_of m) ≡ true → ⊥
      go (types.Data x ts) f h = f x ts refl
      go m f h = absurd cc

pub no_rule : (n : TermNode) (e : Term) (t : Open) → term_of n ≡ e → has_rule_of_form e t ≡ true
    → ((a : _) → n ≡ node.Lambda a → ⊥) → ((es : _) → n ≡ node.Tuple es → ⊥) → ((es : _) → n ≡ node.List es → ⊥) → ((a : _) (b : _) (d : _) → n ≡ node.If a b d → ⊥)
    → ((s : _) (a : _) (b : _) → n ≡ node.Let s a b → ⊥) → ((a : _) (cs : _) → n ≡ node.Match a cs → ⊥) → ⊥
no_rule n e t is form f g h i j k = go n f g h i j k (ap (λ (d : Term). has_rule_of_form d t) is ∙ form)
  where
    go : (m : TermNode) → ((a : _) → m ≡ node.Lambda a → ⊥) → ((es : _) → m ≡ node.Tuple es → ⊥) → ((es : _) → m ≡ node.List es → ⊥) → ((a : _) (b : _) (d : _) → m ≡ node.If a b d → ⊥)
        → ((s : _) (a : _) (b : _) → m ≡ node.Let s a b → ⊥) → ((a : _) (cs : _) → m ≡ node.Match a cs → ⊥) → has_rule_of_form (term_of m) t ≡ true → ⊥
    go (node.Lambda a) f g h i j k r = f a refl
    go (node.Tuple es) f g h i j k r = g es refl
    go (node.List es) f g h i j k r = h es refl
    go (node.If a b d) f g h i j k r = i a b d refl
    go (node.Let s a b) f g h i j k r = j s a b refl
    go (node.Match a cs) f g h i j k r = k a cs refl
    go m f g h i j k r = absurd cc

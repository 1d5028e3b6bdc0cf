-- Lengths of lists of terms and of types.
use Rattle.std.proofs.Common.{◌≡◌, ℕ, suc, true, false, nat_eq, List, [], ◌∷◌, length, refl, sym, ap, ◌∙◌, arith}
use Rattle.std.proofs.lemmas.Bool.{eqb-true, false≢true, false_from_ne_true}
use Rattle.uc_base.specs.declared.reference.Ref.TheVariants.{Def, Ctor, Builtin}
use Rattle.uc_tree.specs.declared.target.Target.{Target}
use Rattle.uc_tree.specs.declared.target.Target.TheVariants.{Stored, Own, OwnCtor}
use Rattle.uc_tree.specs.Terms.{Term, terms_of}
use Rattle.uc_tree.specs.Terms as terms
use Rattle.uc_context.specs.Opens.{Open, tuple, applied, opens_of}
use Rattle.uc_subtyping.specs.Instances.{opens_count}
use Rattle.uc_typing.specs.Terms.{terms_count, is_list, has_rule_of_form}
use Rattle.uc_check.specs.Walks.{is_list_head}

pub terms_counted : (ts : List Term) → terms_count (terms_of ts) ≡ length ts
terms_counted [] = refl
terms_counted (t ∷ ts) = ap suc (terms_counted ts)

pub opens_counted : (ts : List Open) → opens_count (opens_of ts) ≡ length ts
opens_counted [] = refl
opens_counted (t ∷ ts) = ap suc (opens_counted ts)

-- a data type with one argument, of the builtin number 5
list_test : (n : ℕ) (ts : List Open) (k : ℕ) → nat_eq n 5 ≡ true → k ≡ length ts → nat_eq k 1 ≡ is_list (applied (Stored (Builtin n)) (opens_of ts))
list_test n [] k is many = ap (λ (m : ℕ). nat_eq m 1) many
list_test n (t ∷ []) k is many = ap (λ (m : ℕ). nat_eq m 1) many ∙ sym is
list_test n (t ∷ (u ∷ ts)) k is many = false_from_ne_true (nat_eq k 1) (λ e. absurd (let one : k ≡ 1 = eqb-true k 1 e in omega (arith, one, many)))

-- a data type that isn't that of lists
module _ (head : Target) (ts : List Open) where
  list_apart : (h : Target) → is_list_head h ≡ false → is_list (applied h (opens_of ts)) ≡ false
  list_apart (Stored (Def hash member)) h = refl
  list_apart (Stored (Ctor hash member ctor)) h = refl
  list_apart (Stored (Builtin n)) h = by_count ts h
    where
      by_count : (us : List Open) → nat_eq n 5 ≡ false → is_list (applied (Stored (Builtin n)) (opens_of us)) ≡ false
      by_count [] e = refl
      by_count (u ∷ []) e = e
      by_count (u ∷ (v ∷ us)) e = refl
  list_apart (Own member) h = refl
  list_apart (OwnCtor member ctor) h = refl

  list_same : (h : Target) → is_list_head h ≡ true → (k : ℕ) → k ≡ length ts → nat_eq k 1 ≡ is_list (applied h (opens_of ts))
  list_same (Stored (Def hash member)) h k many = absurd (false≢true h)
  list_same (Stored (Ctor hash member ctor)) h k many = absurd (false≢true h)
  list_same (Stored (Builtin n)) h k many = list_test n ts k h many
  list_same (Own member) h k many = absurd (false≢true h)
  list_same (OwnCtor member ctor) h k many = absurd (false≢true h)

  pub head_apart : (t : Open) → t ≡ applied head (opens_of ts) → is_list_head head ≡ false → false ≡ is_list t
  head_apart t is h = sym (ap is_list is ∙ list_apart head h)

  pub head_same : (t : Open) → t ≡ applied head (opens_of ts) → is_list_head head ≡ true → (k : ℕ) → k ≡ length ts → nat_eq k 1 ≡ is_list t
  head_same t is h k many = list_same head h k many ∙ ap is_list (sym is)

pub tuple_test : (es : List Term) (ts : List Open) (k m : ℕ) → k ≡ length es → m ≡ length ts → nat_eq k m ≡ has_rule_of_form (terms.tuple (terms_of es)) (tuple (opens_of ts))
tuple_test es ts k m p q = ap (λ (j : ℕ). nat_eq j m) (p ∙ sym (terms_counted es)) ∙ ap (λ (j : ℕ). nat_eq (terms_count (terms_of es)) j) (q ∙ sym (opens_counted ts))

pub tuple_rule : (e : Term) (t : Open) (es : List Term) (ts : List Open) (k m : ℕ) → e ≡ terms.tuple (terms_of es) → t ≡ tuple (opens_of ts) → k ≡ length es → m ≡ length ts → nat_eq k m ≡ has_rule_of_form e t
tuple_rule e t es ts k m is at p q = tuple_test es ts k m p q ∙ sym (ap (λ (f : Term). has_rule_of_form f t) is ∙ ap (has_rule_of_form (terms.tuple (terms_of es))) at)

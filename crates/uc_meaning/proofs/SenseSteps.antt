-- What some names stand for, name by name.
use Rattle.std.proofs.Common.{◌≡◌, Bool, true, false, cond, ◌&&◌, List, [], ◌∷◌, refl, sym, ap, ◌∙◌, subst}
use Rattle.std.specs.List.{filter, fold, list_all}
use Rattle.std.proofs.lemmas.Bool.{eqb-true, and_parts}
use Rattle.uc_tree.specs.declared.target.Target.{Target}
use Rattle.uc_tree.specs.declared.target.Target.TheVariants.{Stored, Own, OwnCtor}
use Rattle.uc_tree.proofs.Refs.{same_ref}
use Rattle.uc_meaning.specs.declared.senses.Senses.{Senses}
use Rattle.uc_meaning.specs.declared.senses.Senses.TheVariants.{None, One, Many}
use Rattle.uc_meaning.specs.declared.senses.Ending.{Ending}
use Rattle.uc_meaning.specs.Entries.{Entry}
use Rattle.uc_meaning.specs.Candidates.{is_same_target}
use Rattle.uc_meaning.specs.Meanings.{is_constructor}
use Rattle.uc_meaning.specs.Senses.{senses_of, ending_of, with_sense, no_names, with_name, with_names}

same_is : (t u : Target) → is_same_target t u ≡ true → t ≡ u
same_is (Stored r) (Stored s) e = ap Stored (same_ref r s e)
same_is (Own k) (Own l) e = ap Own (eqb-true k l e)
same_is (OwnCtor k c) (OwnCtor l d) e =
    let both = and_parts _ _ e in let k : k ≡ l = eqb-true k l both.0 in let c : c ≡ d = eqb-true c d both.1 in cc
same_is _ _ e = cc

-- ---- the order doesn't count

first_two : (b c : Bool) (t u : Target) → is_same_target t u ≡ b → is_same_target u t ≡ c
    → cond (is_same_target t u) (One u) Many ≡ cond (is_same_target u t) (One t) Many
first_two true c t u h k = subst (λ v. cond (is_same_target t v) (One v) Many ≡ cond (is_same_target v t) (One t) Many) (same_is t u h) refl
first_two false true t u h k = subst (λ v. cond (is_same_target t v) (One v) Many ≡ cond (is_same_target v t) (One t) Many) (sym (same_is u t k)) refl
first_two false false t u h k = ap (λ b. cond b (One u) Many) h ∙ sym (ap (λ b. cond b (One t) Many) k)

two_more : (b c : Bool) (t u v : Target) → is_same_target t v ≡ b → is_same_target u v ≡ c → with_sense t (cond c (One v) Many) ≡ with_sense u (cond b (One v) Many)
two_more true true t u v h k = ap (λ b. cond b (One v) Many) h ∙ sym (ap (λ b. cond b (One v) Many) k)
two_more true false t u v h k = sym (ap (λ b. cond b (One v) Many) k)
two_more false true t u v h k = ap (λ b. cond b (One v) Many) h
two_more false false t u v h k = refl

sense_swap : (t u : Target) (s : Senses) → with_sense t (with_sense u s) ≡ with_sense u (with_sense t s)
sense_swap t u None = first_two (is_same_target t u) (is_same_target u t) t u refl refl
sense_swap t u (One v) = two_more (is_same_target t v) (is_same_target u v) t u v refl refl
sense_swap t u Many = refl

kept_swap : (b c : Bool) (t u : Target) (s : Senses)
    → cond b (with_sense t (cond c (with_sense u s) s)) (cond c (with_sense u s) s) ≡ cond c (with_sense u (cond b (with_sense t s) s)) (cond b (with_sense t s) s)
kept_swap true true t u s = sense_swap t u s
kept_swap true false t u s = refl
kept_swap false true t u s = refl
kept_swap false false t u s = refl

pub name_swap : (t u : Target) (x : Ending) → with_name t (with_name u x) ≡ with_name u (with_name t x)
name_swap t u x = λ i. record { any = sense_swap t u x.any i; constructors = kept_swap (is_constructor t) (is_constructor u) t u x.constructors i }

-- ---- all of them

abbrev with_senses : Senses → List Entry → Senses
with_senses s es = fold (λ r e. with_sense e.1 r) s es

many_behind : (es : List Entry) → with_senses Many es ≡ Many
many_behind [] = refl
many_behind (e ∷ es) = many_behind es

one_behind : (t : Target) (es : List Entry) → with_senses (One t) es ≡ cond (list_all (λ f. is_same_target f.1 t) es) (One t) Many
one_behind t [] = refl
one_behind t (e ∷ es) = by (is_same_target e.1 t) (one_behind t es)
  where
    by : (b : Bool) → with_senses (One t) es ≡ cond (list_all (λ f. is_same_target f.1 t) es) (One t) Many
        → with_senses (cond b (One t) Many) es ≡ cond (b && list_all (λ f. is_same_target f.1 t) es) (One t) Many
    by true h = h
    by false h = many_behind es

all_senses : (es : List Entry) → with_senses None es ≡ senses_of es
all_senses [] = refl
all_senses (e ∷ es) = one_behind e.1 es

constructors_first : (b : Bool) (e : Entry) (s : Senses) (es : List Entry) → with_senses (cond b (with_sense e.1 s) s) es ≡ with_senses s (cond b (e ∷ es) es)
constructors_first true e s es = refl
constructors_first false e s es = refl

both_senses : (x : Ending) (es : List Entry)
    → with_names x es ≡ record { any = with_senses x.any es; constructors = with_senses x.constructors (filter (λ e. is_constructor e.1) es) }
both_senses x [] = refl
both_senses x (e ∷ es) =
    both_senses (with_name e.1 x) es
    ∙ ap (λ s. record { any = with_senses x.any (e ∷ es); constructors = s }) (constructors_first (is_constructor e.1) e x.constructors (filter (λ f. is_constructor f.1) es))

-- what names stand for is told name by name
pub all_told : (es : List Entry) → with_names no_names es ≡ ending_of es
all_told es = both_senses no_names es ∙ (λ i. record { any = all_senses es i; constructors = all_senses (filter (λ e. is_constructor e.1) es) i })

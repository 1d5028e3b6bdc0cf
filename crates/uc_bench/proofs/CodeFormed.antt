-- The code of each kind is formed, and its nodes can be counted.
use Rattle.std.proofs.Common.{◌≡◌, ℕ, zero, suc, ◌+◌, ◌-◌, ◌*◌, ◌/◌, ◌<◌, ◌≤◌, List, [], ◌∷◌, ◌++◌, length, refl, sym, subst, append_assoc, length-append, arith}
use Rattle.uc_base.specs.declared.reference.Ref.TheVariants.{Builtin}
use Rattle.uc_sound_typing.specs.Formed.{IsTyped, IsAnyType, IsFormed, AreFormedCases}
use Rattle.uc_tree.specs.declared.target.Target.TheVariants.{Stored}
use Rattle.uc_tree.specs.declared.term.Case.{Case}
use Rattle.uc_tree.specs.Nodes.{term_nodes, cases_nodes}
use Rattle.uc_tree.specs.Terms.{Term}
use Rattle.uc_tree.specs.Terms as terms
use Rattle.uc_tree.specs.TermViews.{cases_of}
use Rattle.uc_bench.specs.declared.request.Kind.{Kind}
use Rattle.uc_bench.specs.declared.request.Kind.TheVariants.{Applications, Bindings, Cases}
use Rattle.uc_bench.specs.Ordinary.{addition_type, alone, CanBeChecked, one, addition, IsSum, of_one, of_halves, bindings_behind, chain, case_of, cases_below, other_case, number_match}
use Rattle.uc_bench.specs.Requests.{IsWithin, IsCode}

plus_typed : IsTyped IsAnyType alone (Stored (Builtin 16))
plus_typed = record { ty = addition_type; is = refl; fits = tt }

addition_formed : (m : ℕ) (a b : Term) → IsFormed alone m 0 a → IsFormed alone m 0 b → IsFormed alone m 0 (addition a b)
addition_formed m a b f g = ((plus_typed, f), g)

addition_nodes : (a b : Term) → length (term_nodes (addition a b)) ≡ length (term_nodes a) + length (term_nodes b) + 3
addition_nodes a b = simp length-append (omega arith)

sum_formed : {n : ℕ} {e : Term} → IsSum n e → (m : ℕ) → IsFormed alone m 0 e
sum_formed of_one m = tt
sum_formed (of_halves {k} {a} {b} i j s t le ge is) m = addition_formed m a b (sum_formed s m) (sum_formed t m)

sum_nodes : {n : ℕ} {e : Term} → IsSum n e → length (term_nodes e) + 3 ≡ 4 * n
sum_nodes of_one = refl
sum_nodes (of_halves {k} {a} {b} i j s t le ge is) = omega (arith, addition_nodes a b, sum_nodes s, sum_nodes t, is)

bindings_formed : (n m : ℕ) → 0 < m → IsFormed alone m 0 (bindings_behind n)
bindings_formed zero m h = h
bindings_formed (suc n) m h =
    let used : 1 < suc m = omega arith in
    let behind : 0 < suc m = omega arith in
    (tt, addition_formed (suc m) (terms.variable 1) one used tt, bindings_formed n (suc m) behind)

bindings_nodes : (n : ℕ) → length (term_nodes (bindings_behind n)) ≡ 6 * n + 1
bindings_nodes zero = refl
bindings_nodes (suc n) =
    let bound = addition_nodes (terms.variable 1) one in
    let all = length-append (term_nodes (addition (terms.variable 1) one)) (term_nodes (bindings_behind n)) in
    omega (arith, bound, all, bindings_nodes n)

cases_formed : (n m : ℕ) (cs : List Case) → AreFormedCases alone m 0 (cases_of cs) → AreFormedCases alone m 0 (cases_of (cases_below n ++ cs))
cases_formed zero m cs h = h
cases_formed (suc n) m cs h =
    rw (append_assoc (cases_below n) (case_of n ∷ []) cs) (cases_formed n m (case_of n ∷ cs) (tt, tt, h))

cases_counted : (n : ℕ) (cs : List Case) → length (cases_nodes (cases_of (cases_below n ++ cs))) ≡ 2 * n + length (cases_nodes (cases_of cs))
cases_counted zero cs = omega arith
cases_counted (suc n) cs =
    rw (append_assoc (cases_below n) (case_of n ∷ []) cs) (omega (arith, cases_counted n (case_of n ∷ cs)))

sum_checkable : (n : ℕ) (e : Term) → IsSum n e → n < 1000000 → CanBeChecked e
sum_checkable n e s few = record { formed = sum_formed s 0; small = omega (arith, sum_nodes s, few) }

chain_checkable : (n : ℕ) → n ≤ 400 → CanBeChecked (chain n)
chain_checkable n few = record {
  formed = (tt, tt, bindings_formed (n - 1) 1 (omega arith));
  small = omega (arith, bindings_nodes (n - 1), few);
}

match_checkable : (n : ℕ) → n ≤ 100000 → CanBeChecked (number_match n)
match_checkable n few = record {
  formed = (tt, cases_formed n 0 (other_case ∷ []) (tt, tt, tt));
  small = omega (arith, cases_counted n (other_case ∷ []), few);
}

pub code_checkable : (kind : Kind) (n : ℕ) (e : Term) → IsWithin kind n → IsCode kind n e → CanBeChecked e
code_checkable Applications n e within is = sum_checkable ((n + 1) / 2 + 1) e is (omega (arith, within.few))
code_checkable Bindings n e within is = subst CanBeChecked (sym is) (chain_checkable n within.few)
code_checkable Cases n e within is = subst CanBeChecked (sym is) (match_checkable n within.few)

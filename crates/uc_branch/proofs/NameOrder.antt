-- What the order of two names says of them.
use Rattle.std.proofs.Common.{◌≡◌, ℕ, List, true, false, ap, ◌∙◌}
use Rattle.std.specs.Cmp.Lexicographic.{bytes_decides, texts_ties}
use Rattle.std.proofs.lemmas.Cmp.{nat_list_eq_equiv, nat_list_cmp_total, tied_itself}
use Rattle.std.specs.Ordering.{is_eq, ordering_reverse}
use Rattle.std.specs.declared.cmp.Ordering.TheVariants.{Less, Equal, Greater}
use Rattle.uc_branch.specs.Pairs.{name_order, is_same_name}

pub same_names : (m n : List ℕ) → is_same_name m n ≡ true → m ≡ n
same_names m n e = (bytes_decides m n).0 e

pub is_same_itself : (n : List ℕ) → is_same_name n n ≡ true
is_same_itself n = nat_list_eq_equiv.refl n

pub is_same_from : (m n : List ℕ) → m ≡ n → is_same_name m n ≡ true
is_same_from m n e = (bytes_decides m n).1 e

pub tied_names : (m n : List ℕ) → name_order m n ≡ Equal → m ≡ n
tied_names m n e = same_names m n (texts_ties m n ∙ ap is_eq e)

pub tied_from : (m n : List ℕ) → m ≡ n → name_order m n ≡ Equal
tied_from m n e = rw e (tied_itself nat_list_cmp_total n)

pub greater_from : (m n : List ℕ) → name_order m n ≡ Less → name_order n m ≡ Greater
greater_from m n e = nat_list_cmp_total.antisymm n m ∙ ap ordering_reverse e

pub less_from : (m n : List ℕ) → name_order m n ≡ Greater → name_order n m ≡ Less
less_from m n e = nat_list_cmp_total.antisymm n m ∙ ap ordering_reverse e

pub less_trans : (k m n : List ℕ) → name_order k m ≡ Less → name_order m n ≡ Less → name_order k n ≡ Less
less_trans k m n = nat_list_cmp_total.trans k m n

pub apart_if_less : (m n : List ℕ) → name_order m n ≡ Less → is_same_name n m ≡ false
apart_if_less m n e = nat_list_eq_equiv.symm n m ∙ (texts_ties m n ∙ ap is_eq e)

pub apart_if_greater : (m n : List ℕ) → name_order m n ≡ Greater → is_same_name n m ≡ false
apart_if_greater m n e = nat_list_eq_equiv.symm n m ∙ (texts_ties m n ∙ ap is_eq e)

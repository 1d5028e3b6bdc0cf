-- The least text among those of some starts.
use Rattle.std.proofs.Common.{◌≡◌, ℕ, zero, suc, ◌+◌, ◌<◌, ◌≤◌, ◌==◌, ◌⊎◌, List, [], ◌∷◌, ◌++◌, length, refl, sym, ap, subst, ◌∙◌, inl, inr, arith}
use Rattle.std.specs.List.{All, list_any, slice_get}
use Rattle.std.specs.Option.{option_map_or}
use Rattle.std.specs.Ordering.{nat_cmp}
use Rattle.std.specs.Cmp.Lexicographic.{slice_cmp, nat_list_cmp_total}
use Rattle.std.specs.declared.cmp.Ordering.TheVariants.{Less, Equal}
use Rattle.std.proofs.lemmas.Cmp.{tied_itself}
use Rattle.std.proofs.lemmas.Bool.{cases_lt, cases_Bool}
use Rattle.std.proofs.lemmas.List.{length-map, length_push}
use Rattle.uc_base.specs.Graph.{row}
use Rattle.uc_canon.specs.Members.{Members, items_of, count_of}
use Rattle.uc_canon.specs.Numbering.{links_of, rows_of, IsClosed, added, reached, IsTextFrom, IsLeastText, IsNumbering, IsBefore, order_from}
use Rattle.uc_canon.specs.Starts.{text_in}
use Rattle.uc_canon.proofs.Reach.{added_held, added_new}
use Rattle.uc_canon.proofs.Orders.{reached_below}
use Rattle.uc_canon.proofs.Arrangements.{reached_distinct, length_distinct}
use Rattle.uc_canon.proofs.Renumbered.{text_of-reordered}
use Rattle.uc_canon.proofs.TakenInOrder.{reordered_there}

-- ---- the text of a start

pub length-rows_of : (m : Members) → length (rows_of m) ≡ count_of m
length-rows_of m = length-map (items_of m) links_of

pub order_below : (m : Members) (start : ℕ) → IsClosed m → start < count_of m → All (λ u. u < count_of m) (order_from m start)
order_below m start closed lt = λ k d kl.
    let n = length-rows_of m in
    let b = reached_below (rows_of m) start (count_of m) closed (omega arith) k d kl in omega (arith, b)

pub length-order_from : (m : Members) (start : ℕ) → IsClosed m → start < count_of m → length (order_from m start) ≤ count_of m
length-order_from m start closed lt =
    length_distinct (order_from m start) (count_of m) (reached_distinct (rows_of m) start (count_of m)) (λ k kl. order_below m start closed lt k 0 kl)

added_longer : (seen xs : List ℕ) → length seen ≤ length (added seen xs)
added_longer seen [] = omega arith
added_longer seen (x ∷ xs) = elim (cases_Bool (list_any (λ y. y == x) seen)) [
  | inl e ↦ rw (added_held seen xs x e) (added_longer seen xs)
  | inr e ↦ rw (added_new seen xs x e) (omega (arith, added_longer (seen ++ x ∷ []) xs, length_push seen x))
]

pub reached_some : (g : List (List ℕ)) (start k : ℕ) → 0 < length (reached g start k)
reached_some g start zero = omega arith
reached_some g start (suc k) = omega (arith, reached_some g start k, added_longer (reached g start k) (option_map_or (row g) (slice_get (reached g start k) k) []))

pub text_there : (m : Members) (start : ℕ) → IsClosed m → start < count_of m → IsTextFrom m start (text_in (order_from m start) m)
text_there m start closed lt =
    let n = reordered_there (order_from m start) m closed (order_below m start closed lt) in
    record { renumbered = n.0; reordered = n.1; spelled = sym (text_of-reordered (order_from m start) m n.0 n.1) }

pub text_from_is : (m : Members) (start : ℕ) (text : List ℕ) → IsTextFrom m start text → text ≡ text_in (order_from m start) m
text_from_is m start text w = w.spelled ∙ text_of-reordered (order_from m start) m w.renumbered w.reordered

-- ---- the least so far

-- among the first starts, this order and text come from the first of those that give the least text
pub record IsLeastUpTo (m : Members) (count : ℕ) (order text : List ℕ) : Type 0 where
  pub start : ℕ
  pub below : start < count
  pub ordered : order ≡ order_from m start
  pub given : text ≡ text_in (order_from m start) m
  pub least : (other : ℕ) → other < count → IsBefore (text_in (order_from m other) m) text → ⊥
  pub first : (other : ℕ) → other < start → text_in (order_from m other) m ≡ text → ⊥

-- none, or the least so far
pub record IsLeastSoFar (m : Members) (count : ℕ) (order text : List ℕ) : Type 0 where
  pub none : count ≡ 0 → order ≡ []
  pub some : 0 < count → IsLeastUpTo m count order text

not_empty : (m : Members) (count : ℕ) (order text : List ℕ) → IsLeastUpTo m count order text → order ≡ [] → ⊥
not_empty m count order text l e = omega (arith, reached_some (rows_of m) l.start (count_of m), ap length (sym l.ordered ∙ e))

not_before_itself : (t u : List ℕ) → t ≡ u → IsBefore t u → ⊥
not_before_itself t u e h =
    let q : slice_cmp nat_cmp t t ≡ Equal = tied_itself nat_list_cmp_total t in
    let P : List ℕ → Type 0 = λ x. IsBefore t x in let r : slice_cmp nat_cmp t t ≡ Less = subst P (sym e) h in absurd cc

-- the text of the next start comes before the least so far
pub least_taken : (m : Members) (count : ℕ) (order text new : List ℕ) → IsLeastSoFar m count order text → new ≡ text_in (order_from m count) m
    → ((order ≡ []) ⊎ IsBefore new text) → IsLeastSoFar m (count + 1) (order_from m count) new
least_taken m count order text new l is before = record {
  none = λ e. absurd (omega arith);
  some = λ _. record {
    start = count;
    below = omega arith;
    ordered = refl;
    given = is;
    least = λ other lt h. elim (cases_lt other count) [
      | inl ol ↦ old other ol h
      | inr ge ↦ let e : count ≡ other = omega arith in let P : ℕ → Type 0 = λ s. IsBefore (text_in (order_from m s) m) new in not_before_itself (text_in (order_from m count) m) new (sym is) (subst P (sym e) h)
    ];
    first = λ other ol e. elim before [
      | inl n ↦ not_empty m count order text (l.some (omega arith)) n
      | inr b ↦ let P : List ℕ → Type 0 = λ x. IsBefore x text in (l.some (omega arith)).least other ol (subst P (sym e) b)
    ];
  };
}
  where
    old : (other : ℕ) → other < count → IsBefore (text_in (order_from m other) m) new → ⊥
    old other ol h = elim before [
      | inl n ↦ not_empty m count order text (l.some (omega arith)) n
      | inr b ↦ (l.some (omega arith)).least other ol (nat_list_cmp_total.trans (text_in (order_from m other) m) new text h b)
    ]

-- it doesn't
pub least_kept : (m : Members) (count : ℕ) (order text : List ℕ) → IsLeastSoFar m count order text
    → (((order ≡ []) ⊎ IsBefore (text_in (order_from m count) m) text) → ⊥) → IsLeastSoFar m (count + 1) order text
least_kept m count order text l behind = record {
  none = λ e. absurd (omega arith);
  some = λ _.
      let some : 0 < count = elim (cases_lt 0 count) [ inl p ↦ p | inr z ↦ absurd (behind (inl (l.none (omega arith)))) ] in
      let o = l.some some in record {
        start = o.start;
        below = omega (arith, o.below);
        ordered = o.ordered;
        given = o.given;
        least = λ other lt h. elim (cases_lt other count) [
          | inl ol ↦ o.least other ol h
          | inr ge ↦ let e : other ≡ count = omega arith in let P : ℕ → Type 0 = λ s. IsBefore (text_in (order_from m s) m) text in behind (inr (subst P e h))
        ];
        first = o.first;
      };
}

-- ---- the least of all

module _ (m : Members) (order text : List ℕ) (closed : IsClosed m) (l : IsLeastUpTo m (count_of m) order text) where
  start_given : IsTextFrom m l.start text
  start_given = let P : List ℕ → Type 0 = λ t. IsTextFrom m l.start t in subst P (sym l.given) (text_there m l.start closed l.below)

  pub least_text : IsLeastText m text
  least_text = record {
    start = l.start;
    below = l.below;
    given = start_given;
    least = λ other t lt w h. let P : List ℕ → Type 0 = λ x. IsBefore x text in l.least other lt (subst P (text_from_is m other t w) h);
  }

  pub numbering : IsNumbering m order
  numbering = record {
    start = l.start;
    text = text;
    least = least_text;
    below = l.below;
    given = start_given;
    first = λ other lt w. l.first other lt (sym (text_from_is m other text w));
    ordered = l.ordered;
  }

-- ---- the order of a start, as the code makes it from the graph

pub order_is : (m : Members) (g : List (List ℕ)) (start : ℕ) (order : List ℕ) → g ≡ rows_of m → order ≡ reached g start (length g) → order ≡ order_from m start
order_is m g start order e is = is ∙ ap (λ (h : List (List ℕ)). reached h start (length h)) e ∙ ap (reached (rows_of m) start) (length-rows_of m)

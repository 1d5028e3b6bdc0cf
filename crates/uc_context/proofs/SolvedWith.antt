-- Contexts in which an existential is solved by a type of new ones.
use Rattle.std.proofs.Common.{◌≡◌, ℕ, suc, ◌+◌, Bool, true, false, eqb, ◌||◌, List, [], ◌∷◌, ◌++◌, take, drop, map, arith, refl, sym, ap, subst, ◌∙◌, append_assoc, add-one}
use Rattle.std.specs.List.{list_any, splice}
use Rattle.std.proofs.lemmas.Bool.{or_from, or_left, or_right, or_parts, false≢true, ne_eqb, eq-eqb, and_from}
use Rattle.std.proofs.lemmas.List.{append-nil, length-take-le}
use Rattle.std.proofs.lemmas.List.Folds.{list_any-append}
use Rattle.uc_context.specs.declared.entry.Entry.{Entry}
use Rattle.uc_context.specs.declared.entry.Entry.TheVariants.{Exists, Solved}
use Rattle.uc_context.specs.declared.index.Index.{Index}
use Rattle.uc_tree.specs.declared.target.Target.{Target}
use Rattle.uc_context.specs.Opens.{Open, existential, tuple, applied, opens_of}
use Rattle.uc_context.specs.Contexts.{AreInOrder, IsContext}
use Rattle.uc_context.specs.Entries.{ContextEntries, is_numbered, declares, is_variable}
use Rattle.uc_context.specs.Fresh.{AreNew, fresh_numbers}
use Rattle.uc_context.specs.Indexes.{Indexes, Exchanges}
use Rattle.uc_context.specs.Kept.{IsKept}
use Rattle.uc_context.specs.Looking.{HasAt}
use Rattle.uc_context.specs.Solving.{solved_with}
use Rattle.uc_context.specs.Variables.{declares_all, declares_all_of}
use Rattle.uc_context.proofs.FreshNumbers.{fresh_numbers-AreNew}
use Rattle.uc_context.proofs.Noting.{numbered_fails, variable_by_number}
use Rattle.uc_context.proofs.Orders.{AreInOrder-front, AreInOrder-append, AreInOrder-with, declares_all-more}
use Rattle.uc_context.proofs.Solved.{exchanged_at, order_solved, unsolved_within, unsolved_stands, order_at}
use Rattle.uc_context.proofs.Standing.{Stands}

-- new numbers are new among entries with the same numbers
new_among : (ns : List ℕ) (es ds : ContextEntries) → ((m : ℕ) → list_any (is_numbered m) es ≡ list_any (is_numbered m) ds) → AreNew ns es → AreNew ns ds
new_among [] es ds same h = tt
new_among (n ∷ ns) es ds same h = (sym (same n) ∙ h.0, new_among ns (Exists n ∷ es) (Exists n ∷ ds) (λ m. ap (λ (b : Bool). eqb n m || b) (same m)) h.1)

turned : (a b c : Bool) → (a || (b || c)) ≡ ((b || (a || false)) || c)
turned true true c = refl
turned true false c = refl
turned false true c = refl
turned false false c = refl

module _ (x : ℕ) (t : Open) (right : ContextEntries) where
  -- a new existential stands in front of what is there
  in_order_after : (n : ℕ) (front : ContextEntries) → list_any (is_numbered n) (front ++ Exists x ∷ right) ≡ false → AreInOrder front (Exists x ∷ right) → AreInOrder (front ++ Exists n ∷ []) (Exists x ∷ right)
  in_order_after n front unused h =
      AreInOrder-with front (front ++ Exists n ∷ []) (Exists x ∷ right)
      (λ y used apart. list_any-append (is_variable y) front (Exists n ∷ []) ∙ or_from (list_any (is_variable y) front) (list_any (is_variable y) (Exists n ∷ [])) apart
      (or_from (eqb n y) false (ne_eqb n y (λ same. absurd (false≢true (sym (ap (λ (m : ℕ). list_any (is_numbered m) (front ++ Exists x ∷ right)) (sym same) ∙ unused) ∙ numbered_behind y used)))) refl))
      (λ y d. list_any-append (declares y) front (Exists n ∷ []) ∙ or_left (list_any (declares y) front) (list_any (declares y) (Exists n ∷ [])) d) h
    where
      numbered_behind : (y : ℕ) → list_any (is_numbered y) (Exists x ∷ right) ≡ true → list_any (is_numbered y) (front ++ Exists x ∷ right) ≡ true
      numbered_behind y used = list_any-append (is_numbered y) front (Exists x ∷ right) ∙ or_right (list_any (is_numbered y) front) (list_any (is_numbered y) (Exists x ∷ right)) used

  in_order_new : (ns : List ℕ) (front : ContextEntries) → AreNew ns (front ++ Exists x ∷ right) → declares_all (front ++ map (λ n. Exists n) ns) t ≡ true → AreInOrder front (Exists x ∷ right) → AreInOrder front (map (λ n. Exists n) ns ++ Solved x t ∷ right)
  in_order_new [] front new declared h = order_solved x t front right (ap (λ (cs : ContextEntries). declares_all cs t) (sym (append-nil front)) ∙ declared) h
  in_order_new (n ∷ ns) front new declared h = (
    (or_parts (list_any (is_variable n) front) (list_any (is_variable n) (Exists x ∷ right)) (sym (list_any-append (is_variable n) front (Exists x ∷ right)) ∙ numbered_fails is_variable variable_by_number n (front ++ Exists x ∷ right) new.0)).0,
    in_order_new ns (front ++ Exists n ∷ [])
        (new_among ns (Exists n ∷ (front ++ Exists x ∷ right)) (front ++ Exists n ∷ [] ++ Exists x ∷ right) (λ m. moved m) new.1)
        (ap (λ (cs : ContextEntries). declares_all cs t) (append_assoc front (Exists n ∷ []) (map (λ n. Exists n) ns)) ∙ declared)
        (in_order_after n front new.0 h),
  )
    where
      moved : (m : ℕ) → list_any (is_numbered m) (Exists n ∷ (front ++ Exists x ∷ right)) ≡ list_any (is_numbered m) (front ++ Exists n ∷ [] ++ Exists x ∷ right)
      moved m =
          ap (λ (b : Bool). eqb n m || b) (list_any-append (is_numbered m) front (Exists x ∷ right))
          ∙ turned (eqb n m) (list_any (is_numbered m) front) (list_any (is_numbered m) (Exists x ∷ right))
          ∙ sym (list_any-append (is_numbered m) (front ++ Exists n ∷ []) (Exists x ∷ right) ∙ ap (λ (b : Bool). b || list_any (is_numbered m) (Exists x ∷ right)) (list_any-append (is_numbered m) front (Exists n ∷ [])))

-- what is spliced in
pub spliced_with : (es items new new' : ContextEntries) (k : ℕ) (e : Entry) (numbers : List ℕ) → new ≡ map (λ n. Exists n) numbers → new' ≡ new ++ e ∷ [] → items ≡ splice es k (k + 1) new' → items ≡ splice es k (k + 1) (map (λ n. Exists n) numbers ++ e ∷ [])
spliced_with es items new new' k e numbers made pushed spliced = spliced ∙ ap (λ (cs : ContextEntries). splice es k (k + 1) cs) (pushed ∙ ap (λ (cs : ContextEntries). cs ++ e ∷ []) made)

-- an unsolved existential where it stands, and what comes in its place
module _ (x k : ℕ) (es seen : ContextEntries) (view : es ≡ seen) (order : IsContext es) (h : HasAt (is_variable x) seen k (Exists x)) (numbers : List ℕ) (t : Open) (items : ContextEntries)
    (spliced : items ≡ splice es k (k + 1) (map (λ n. Exists n) numbers ++ Solved x t ∷ [])) where
  stands : Stands x es (take k es) (Exists x) (drop (suc k) es)
  stands = unsolved_stands x k es seen view order h

  parts : items ≡ take k es ++ (map (λ n. Exists n) numbers ++ Solved x t ∷ drop (suc k) es)
  parts = spliced ∙ ap (λ (m : ℕ). take k es ++ (map (λ n. Exists n) numbers ++ Solved x t ∷ [] ++ drop m es)) (add-one k)
      ∙ ap (λ (cs : ContextEntries). take k es ++ cs) (append_assoc (map (λ n. Exists n) numbers) (Solved x t ∷ []) (drop (suc k) es))

  pub solve_with_gives : items ≡ solved_with seen x numbers t
  solve_with_gives =
      parts ∙ ap (λ (cs : ContextEntries). take k es ++ cs) (sym (append_assoc (map (λ n. Exists n) numbers) (Solved x t ∷ []) (drop (suc k) es)))
      ∙ sym (exchanged_at x (map (λ n. Exists n) numbers ++ Solved x t ∷ []) es (take k es) (drop (suc k) es) stands) ∙ ap (λ (cs : ContextEntries). solved_with cs x numbers t) view

  pub exchanges_at : (i : Index) (lent : ContextEntries) → Indexes i es → lent ≡ items → (cs : ContextEntries) × Indexes i cs × Exchanges cs k numbers lent
  exchanges_at i lent indexed same = (
    es,
    indexed,
    record {
      left = take k es;
      right = drop (suc k) es;
      which = x;
      with = t;
      at = sym (length-take-le k es (omega (arith, unsolved_within x k es seen view order h)));
      before = stands.whole;
      after = same ∙ parts;
    },
  )

  pub solve_with_keeps : (i : Index) (lent : ContextEntries) → lent ≡ items → AreNew numbers seen → declares_all (map (λ n. Exists n) numbers) t ≡ true → Indexes i lent → IsKept items i
  solve_with_keeps i lent same new declared indexed = record {
    in_order = subst IsContext (sym parts) (AreInOrder-append [] (take k es) (map (λ n. Exists n) numbers ++ Solved x t ∷ drop (suc k) es)
        (AreInOrder-front [] (take k es) (Exists x ∷ drop (suc k) es) (subst IsContext stands.whole order))
        (in_order_new x t (drop (suc k) es) numbers (take k es) (subst (AreNew numbers) (sym view ∙ stands.whole) new)
        (declares_all-more (map (λ n. Exists n) numbers) (take k es ++ map (λ n. Exists n) numbers) t
        (λ y d. list_any-append (declares y) (take k es) (map (λ n. Exists n) numbers) ∙ or_right (list_any (declares y) (take k es)) (list_any (declares y) (map (λ n. Exists n) numbers)) d) declared)
        (order_at x k es seen view order h)));
    indexed = subst (Indexes i) same indexed;
  }

-- new existentials declare the types of theirs
declares_middle : (n : ℕ) (front ns : List ℕ) → list_any (declares n) (map (λ m. Exists m) (front ++ n ∷ ns)) ≡ true
declares_middle n [] ns = or_left (eqb n n) (list_any (declares n) (map (λ m. Exists m) ns)) (eq-eqb n n refl)
declares_middle n (m ∷ front) ns = or_right (eqb m n) (list_any (declares n) (map (λ m. Exists m) (front ++ n ∷ ns))) (declares_middle n front ns)

all_declared : (front ns : List ℕ) → declares_all_of (map (λ n. Exists n) (front ++ ns)) (opens_of (map (λ n. existential n) ns)) ≡ true
all_declared front [] = refl
all_declared front (n ∷ ns) =
    and_from (list_any (declares n) (map (λ m. Exists m) (front ++ n ∷ ns))) (declares_all_of (map (λ m. Exists m) (front ++ n ∷ ns)) (opens_of (map (λ m. existential m) ns))) (declares_middle n front ns)
    (ap (λ (ms : List ℕ). declares_all_of (map (λ m. Exists m) ms) (opens_of (map (λ m. existential m) ns))) (sym (append_assoc front (n ∷ []) ns)) ∙ all_declared (front ++ n ∷ []) ns)

module _ (numbers lent again : List ℕ) (ts : List Open) (same : lent ≡ numbers) (made : ts ≡ map (λ n. existential n) lent) (t : Open) (once : again ≡ numbers) where
  declared_of : declares_all_of (map (λ n. Exists n) again) (opens_of ts) ≡ true
  declared_of = ap (λ (us : List Open). declares_all_of (map (λ n. Exists n) again) (opens_of us)) (made ∙ ap (λ (ns : List ℕ). map (λ n. existential n) ns) (same ∙ sym once)) ∙ all_declared [] again

  pub declared_data : (head : Target) → t ≡ applied head (opens_of ts) → declares_all (map (λ n. Exists n) again) t ≡ true
  declared_data head is = ap (declares_all (map (λ n. Exists n) again)) is ∙ declared_of

  pub declared_tuple : t ≡ tuple (opens_of ts) → declares_all (map (λ n. Exists n) again) t ≡ true
  declared_tuple is = ap (declares_all (map (λ n. Exists n) again)) is ∙ declared_of

pub new_numbers : (es : ContextEntries) (k : ℕ) (numbers lent : List ℕ) → numbers ≡ fresh_numbers k es → lent ≡ numbers → AreNew lent es
new_numbers es k numbers lent is same = subst (λ (ns : List ℕ). AreNew ns es) (sym (same ∙ is)) (fresh_numbers-AreNew k es)

-- Variables that terms use and patterns bind, in loops over lists; and nodes of parts.
use Rattle.std.proofs.Common.{◌≡◌, ℕ, zero, suc, ◌+◌, ◌<◌, ◌≤◌, ◌^◌, List, [], ◌∷◌, ◌++◌, Option, Some, None, length, get_or, drop, sym, ap, subst, ◌∙◌, arith, length-append}
use Rattle.std.proofs.lemmas.List.{drop_more, drop_all}
use Rattle.uc_tree.specs.declared.term.Case.{Case}
use Rattle.uc_tree.specs.Nodes.{term_nodes, terms_nodes, cases_nodes, pattern_nodes, patterns_nodes}
use Rattle.uc_tree.specs.Patterns.{Pattern, Patterns, patterns_of, pattern_size, patterns_size}
use Rattle.uc_tree.specs.Patterns as patterns
use Rattle.uc_tree.specs.Terms.{Term, Cases, terms_of, term_size, terms_size, cases_size}
use Rattle.uc_tree.proofs.Sizes.{guard_size, case_size, term_at, pattern_at, case_at}
use Rattle.uc_tree.specs.TermViews.{case_with, cases_of}
use Rattle.uc_kinds.specs.Typing.{binders_in, binders_among}

-- what is left of a list at a place in it
pub left_at : {A : Type 0} (xs : List A) (k : ℕ) (x : A) → k < length xs → x ≡ get_or xs k x → drop k xs ≡ x ∷ drop (k + 1) xs
left_at {A = A} xs k x h is = drop_more xs k x h ∙ ap (λ (y : A). y ∷ drop (k + 1) xs) (sym is)

pub left_none : {A : Type 0} (xs : List A) (k : ℕ) → length xs ≤ k → drop k xs ≡ []
left_none xs k h = drop_all k xs h

-- a pattern has a node for each variable that it binds
mutual
  pub binders_below : (p : Pattern) → binders_in p ≤ length (pattern_nodes p)
  binders_below patterns.any = omega arith
  binders_below patterns.variable = omega arith
  binders_below (patterns.alias p) = omega (arith, binders_below p)
  binders_below (patterns.literal l) = omega arith
  binders_below patterns.unit = omega arith
  binders_below (patterns.tuple ps) = omega (arith, binders_among_below ps)
  binders_below (patterns.list ps) = omega (arith, binders_among_below ps)
  binders_below (patterns.constructor x ps) = omega (arith, binders_among_below ps)
  binders_below (patterns.cons p q) = omega (arith, length-append (pattern_nodes p) (pattern_nodes q), binders_below p, binders_below q)
  binders_below (patterns.snoc p q) = omega (arith, length-append (pattern_nodes p) (pattern_nodes q), binders_below p, binders_below q)

  pub binders_among_below : (ps : Patterns) → binders_among ps ≤ length (patterns_nodes ps)
  binders_among_below patterns.none = omega arith
  binders_among_below (patterns.more p ps) = omega (arith, length-append (pattern_nodes p) (patterns_nodes ps), binders_below p, binders_among_below ps)

-- the nodes of a part of a list
pub pattern_nodes_at : (ps : List Pattern) (k : ℕ) (p : Pattern) → k < length ps → length (pattern_nodes (get_or ps k p)) ≤ length (patterns_nodes (patterns_of ps))
pattern_nodes_at [] k p h = absurd (omega arith)
pattern_nodes_at (q ∷ ps) zero p h = omega (arith, length-append (pattern_nodes q) (patterns_nodes (patterns_of ps)))
pattern_nodes_at (q ∷ ps) (suc k) p h = omega (arith, length-append (pattern_nodes q) (patterns_nodes (patterns_of ps)), pattern_nodes_at ps k p (omega arith))

pub term_nodes_at : (ts : List Term) (k : ℕ) (t : Term) → k < length ts → length (term_nodes (get_or ts k t)) ≤ length (terms_nodes (terms_of ts))
term_nodes_at [] k t h = absurd (omega arith)
term_nodes_at (u ∷ ts) zero t h = omega (arith, length-append (term_nodes u) (terms_nodes (terms_of ts)))
term_nodes_at (u ∷ ts) (suc k) t h = omega (arith, length-append (term_nodes u) (terms_nodes (terms_of ts)), term_nodes_at ts k t (omega arith))

abbrev pub guard_count : Option Term → ℕ
guard_count None = 0
guard_count (Some g) = length (term_nodes g)

-- the nodes of a case
abbrev pub case_count : Case → ℕ
case_count c = length (pattern_nodes c.pattern) + guard_count c.guard + length (term_nodes c.body)

one_case_nodes : (p : Pattern) (g : Option Term) (b : Term) (cs : Cases) → length (cases_nodes (case_with p g b cs)) ≡ length (pattern_nodes p) + guard_count g + length (term_nodes b) + length (cases_nodes cs)
one_case_nodes p None b cs = omega (arith, length-append (pattern_nodes p ++ term_nodes b) (cases_nodes cs), length-append (pattern_nodes p) (term_nodes b))
one_case_nodes p (Some g) b cs =
    omega (arith, length-append (pattern_nodes p ++ term_nodes g ++ term_nodes b) (cases_nodes cs), length-append (pattern_nodes p ++ term_nodes g) (term_nodes b), length-append (pattern_nodes p) (term_nodes g))

pub case_nodes_at : (cs : List Case) (k : ℕ) (c : Case) → k < length cs → case_count (get_or cs k c) ≤ length (cases_nodes (cases_of cs))
case_nodes_at [] k c h = absurd (omega arith)
case_nodes_at (d ∷ cs) zero c h = omega (arith, one_case_nodes d.pattern d.guard d.body (cases_of cs))
case_nodes_at (d ∷ cs) (suc k) c h = omega (arith, one_case_nodes d.pattern d.guard d.body (cases_of cs), case_nodes_at cs k c (omega arith))

-- binders as far as a loop has come
pub binders_on : (ps : List Pattern) (k : ℕ) (p : Pattern) → k < length ps → p ≡ get_or ps k p → binders_among (patterns_of (drop k ps)) ≡ binders_in p + binders_among (patterns_of (drop (k + 1) ps))
binders_on ps k p h is = ap (λ qs. binders_among (patterns_of qs)) (left_at ps k p h is)

-- counts of binders that fit
pub alias_fits : (p q : Pattern) (n : ℕ) → p ≡ patterns.alias q → n ≡ binders_in q → length (pattern_nodes p) < 2 ^ 32 → n + 1 < 2 ^ 32
alias_fits p q n is many few = let h : length (pattern_nodes (patterns.alias q)) < 2 ^ 32 = subst (λ (r : Pattern). length (pattern_nodes r) < 2 ^ 32) is few in omega (arith, h, many, binders_below q)

pub cons_fits : (p q r : Pattern) (n m : ℕ) → p ≡ patterns.cons q r → n ≡ binders_in q → m ≡ binders_in r → length (pattern_nodes p) < 2 ^ 32 → n + m < 2 ^ 32
cons_fits p q r n m is many more few =
    let h : length (pattern_nodes (patterns.cons q r)) < 2 ^ 32 = subst (λ (s : Pattern). length (pattern_nodes s) < 2 ^ 32) is few in
    omega (arith, h, many, more, binders_below (patterns.cons q r))

pub snoc_fits : (p q r : Pattern) (n m : ℕ) → p ≡ patterns.snoc q r → n ≡ binders_in q → m ≡ binders_in r → length (pattern_nodes p) < 2 ^ 32 → n + m < 2 ^ 32
snoc_fits p q r n m is many more few =
    let h : length (pattern_nodes (patterns.snoc q r)) < 2 ^ 32 = subst (λ (s : Pattern). length (pattern_nodes s) < 2 ^ 32) is few in
    omega (arith, h, many, more, binders_below (patterns.snoc q r))

-- the sizes and nodes of parts of lists
pub term_part : (ts : List Term) (k : ℕ) (t : Term) → k < length ts → t ≡ get_or ts k t → term_size t < terms_size (terms_of ts)
term_part ts k t within is = subst (λ (u : Term). term_size u < terms_size (terms_of ts)) (sym is) (term_at ts k t within)

pub term_part_nodes : (ts : List Term) (k : ℕ) (t : Term) → k < length ts → t ≡ get_or ts k t → length (term_nodes t) ≤ length (terms_nodes (terms_of ts))
term_part_nodes ts k t within is = subst (λ (u : Term). length (term_nodes u) ≤ length (terms_nodes (terms_of ts))) (sym is) (term_nodes_at ts k t within)

pub pattern_part : (ps : List Pattern) (k : ℕ) (p : Pattern) → k < length ps → p ≡ get_or ps k p → pattern_size p < patterns_size (patterns_of ps)
pattern_part ps k p within is = subst (λ (q : Pattern). pattern_size q < patterns_size (patterns_of ps)) (sym is) (pattern_at ps k p within)

pub pattern_part_nodes : (ps : List Pattern) (k : ℕ) (p : Pattern) → k < length ps → p ≡ get_or ps k p → length (pattern_nodes p) ≤ length (patterns_nodes (patterns_of ps))
pattern_part_nodes ps k p within is = subst (λ (q : Pattern). length (pattern_nodes q) ≤ length (patterns_nodes (patterns_of ps))) (sym is) (pattern_nodes_at ps k p within)

pub case_part : (cs : List Case) (k : ℕ) (c : Case) → k < length cs → c ≡ get_or cs k c → case_size c < cases_size (cases_of cs) + 1
case_part cs k c within is = subst (λ (d : Case). case_size d < cases_size (cases_of cs) + 1) (sym is) (case_at cs k c within)

pub case_part_nodes : (cs : List Case) (k : ℕ) (c : Case) → k < length cs → c ≡ get_or cs k c → case_count c ≤ length (cases_nodes (cases_of cs))
case_part_nodes cs k c within is = subst (λ (d : Case). case_count d ≤ length (cases_nodes (cases_of cs))) (sym is) (case_nodes_at cs k c within)

-- a loop that counts binders
pub binders_fit : (ps : List Pattern) (k : ℕ) (p : Pattern) (n m : ℕ) → k < length ps → p ≡ get_or ps k p → n + binders_among (patterns_of (drop k ps)) ≡ binders_among (patterns_of ps) → m ≡ binders_in p → length (patterns_nodes (patterns_of ps)) < 2 ^ 32 → n + m < 2 ^ 32
binders_fit ps k p n m within is so_far many few = omega (arith, binders_on ps k p within is, so_far, many, few, binders_among_below (patterns_of ps))

pub guard_room : (guard : Option Term) (g : Term) → guard ≡ Some g → guard_size guard ≡ term_size g + 1
guard_room guard g is = ap guard_size is

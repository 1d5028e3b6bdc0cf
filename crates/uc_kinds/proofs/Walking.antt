-- Walks over one list of flaws behind another.
use Rattle.std.proofs.Common.{◌≡◌, ℕ, ◌+◌, List, [], ◌∷◌, ◌++◌, length, Option, Some, None, Result, Ok, Err, refl, sym, ap, ◌∙◌, ◌≤◌, map, arith}
use Rattle.std.proofs.Common.{length-append}
use Rattle.std.proofs.lemmas.List.{length-map, append-nil}
use Rattle.uc_tree.specs.declared.term.Case.{Case}
use Rattle.uc_tree.specs.Types.{Ty, tys_of}
use Rattle.uc_tree.specs.Patterns.{Pattern}
use Rattle.uc_tree.specs.Terms.{Term, Cases}
use Rattle.uc_tree.specs.TermViews.{case_with, cases_of}
use Rattle.uc_tree.specs.Nodes.{Node, pattern_nodes}
use Rattle.uc_tree.proofs.Sizes.{type_at, pattern_at, term_at, case_at}
use Rattle.uc_kinds.specs.declared.flaw.Flaw.{Flaw}
use Rattle.uc_kinds.specs.declared.flaw.Flawed.{Flawed}
use Rattle.uc_kinds.specs.Flaws.{pattern_flaws, guard_flaws, case_flaws, term_flaws, cases_flaws}
use Rattle.uc_kinds.specs.Walks.{walked}
use Rattle.uc_kinds.specs.WellFormed.{Arity, tys_count}

pub goes_on : (before passed : ℕ) (xs ys : List (Option Flaw)) → walked before xs ≡ Ok passed → walked before (xs ++ ys) ≡ walked passed ys
goes_on before passed [] ys h = cc
goes_on before passed (None ∷ xs) ys h = goes_on (before + 1) passed xs ys h
goes_on before passed (Some flaw ∷ xs) ys h = cc

pub stops : (before : ℕ) (flawed : Flawed) (xs ys : List (Option Flaw)) → walked before xs ≡ Err flawed → walked before (xs ++ ys) ≡ Err flawed
stops before flawed [] ys h = cc
stops before flawed (None ∷ xs) ys h = stops (before + 1) flawed xs ys h
stops before flawed (Some flaw ∷ xs) ys h = h

-- the first of three lists has the first flaw
pub stops_first : (before : ℕ) (flawed : Flawed) (xs ys zs : List (Option Flaw)) → walked before xs ≡ Err flawed → walked before (xs ++ ys ++ zs) ≡ Err flawed
stops_first before flawed xs ys zs h = stops before flawed (xs ++ ys) zs (stops before flawed xs ys h)

-- the second of three lists has the first flaw
pub stops_second : (before passed : ℕ) (flawed : Flawed) (xs ys zs : List (Option Flaw)) → walked before xs ≡ Ok passed → walked passed ys ≡ Err flawed
    → walked before (xs ++ ys ++ zs) ≡ Err flawed
stops_second before passed flawed xs ys zs ok h = stops before flawed (xs ++ ys) zs (goes_on before passed xs ys ok ∙ h)

-- a walk that goes on has passed each node
pub passed : (before after : ℕ) (xs : List (Option Flaw)) → walked before xs ≡ Ok after → after ≡ before + length xs
passed before after [] h = let e : before ≡ after = cc in omega arith
passed before after (None ∷ xs) h = omega (arith, passed (before + 1) after xs h)
passed before after (Some flaw ∷ xs) h = cc

pub arguments : (ts : List Ty) → tys_count (tys_of ts) ≡ length ts
arguments [] = refl
arguments (t ∷ ts) = omega (arith, arguments ts)

flawless : (before : ℕ) (nodes : List Node) → walked before (map (λ _. None) nodes) ≡ Ok (before + length nodes)
flawless before [] = let e : before ≡ before + 0 = omega arith in ap Ok e
flawless before (n ∷ nodes) = let e : before + 1 + length nodes ≡ before + length (n ∷ nodes) = omega arith in flawless (before + 1) nodes ∙ ap Ok e

-- a walk over a pattern goes on
pub behind_pattern : (before passed : ℕ) (p : Pattern) → passed ≡ before + length (pattern_nodes p) → walked before (pattern_flaws p) ≡ Ok passed
behind_pattern before passed p h = flawless before (pattern_nodes p) ∙ ap Ok (sym h)

one_case : (arity : Arity) (p : Pattern) (g : Option Term) (b : Term) (cs : Cases)
    → cases_flaws arity (case_with p g b cs) ≡ pattern_flaws p ++ guard_flaws arity g ++ term_flaws arity b ++ cases_flaws arity cs
one_case arity p None b cs = simp append-nil
one_case arity p (Some g) b cs = refl

pub cases_split : (arity : Arity) (c : Case) (cs : List Case) → cases_flaws arity (cases_of (c ∷ cs)) ≡ case_flaws arity c ++ cases_flaws arity (cases_of cs)
cases_split arity c cs = one_case arity c.pattern c.guard c.body (cases_of cs)

pub pattern_nodes_count : (p : Pattern) → length (pattern_flaws p) ≡ length (pattern_nodes p)
pattern_nodes_count p = simp length-map

-- what each walk over nodes uses
pub ruleset walking = (goes_on, stops, stops_first, stops_second, passed, arguments, behind_pattern, pattern_nodes_count, length-append, type_at, pattern_at, term_at, case_at)

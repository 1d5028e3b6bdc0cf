-- Types and patterns with their places, behind others.
use Rattle.std.proofs.Common.{◌≡◌, ℕ, List, [], ◌∷◌, ◌++◌, length, take, drop, refl, sym, ap, ◌∙◌, subst, append_assoc, append-nil, add-one, ◌+◌, ◌<◌, ◌≤◌, zero, suc, Some, None, arith}
use Rattle.std.specs.Prelude.{reverse, slice_get, Result, Ok, Err}
use Rattle.std.proofs.lemmas.List.{length-reverse, length-map}
use Rattle.uc_base.specs.declared.place.Place.{Place}
use Rattle.uc_base.specs.declared.fault.Fault.{Fault}
use Rattle.uc_tree.specs.Types.{Ty, Tys, tys_of}
use Rattle.uc_tree.specs.Types as types
use Rattle.uc_scratch.specs.declared.written.Written.{Written}
use Rattle.uc_scratch.specs.TypeLevels.{texts_of}
use Rattle.uc_meaning.specs.Results.{◌>>=◌}
use Rattle.uc_meaning.specs.Placed.{Placed}
use Rattle.uc_tree.specs.Patterns.{Pattern, Patterns, patterns_of}
use Rattle.uc_tree.specs.Patterns as patterns
use Rattle.uc_meaning.specs.TypeMeanings.{ty_before}
use Rattle.uc_scratch.specs.Patterns.{PatternAtom}
use Rattle.uc_scratch.specs.PatternViews.{names_before}
use Rattle.uc_meaning.specs.Candidates.{Usings}
use Rattle.uc_meaning.specs.Meanings.{Known}
use Rattle.uc_meaning.specs.PatternMeanings.{pattern_before, atom_meaning}
use Rattle.uc_signatures.specs.PlacedViews.{aliases}
use Rattle.uc_signatures.specs.Joined.{tys_before, behind_types, patterns_before, behind_patterns}

tys_one : (ts : List Ty) (t : Ty) (us : Tys) → tys_before ts (types.more t us) ≡ tys_before (ts ++ t ∷ []) us
tys_one [] t us = refl
tys_one (s ∷ ts) t us = ap (types.more s) (tys_one ts t us)

-- one type more
pub type_added : (ts : List Ty) (ps : List Place) (x : Placed Ty) (m : Result (Placed Tys) Fault)
    → behind_types ts ps (m >>= λ xs. Ok (ty_before x xs)) ≡ behind_types (ts ++ x.0 ∷ []) (ps ++ x.1) m
type_added ts ps x (Ok xs) = ap (λ u. Ok (u, ps ++ (x.1 ++ xs.1))) (tys_one ts x.0 xs.0) ∙ ap (λ q. Ok (tys_before (ts ++ x.0 ∷ []) xs.0, q)) (sym (append_assoc ps x.1 xs.1))
type_added ts ps x (Err e) = refl

pub tys_all : (ts : List Ty) → tys_before ts types.none ≡ tys_of ts
tys_all [] = refl
tys_all (t ∷ ts) = ap (types.more t) (tys_all ts)

dropped : {A : Type 0} (xs ys : List A) → drop (length xs) (xs ++ ys) ≡ ys
dropped [] ys = refl
dropped (x ∷ xs) ys = dropped xs ys

-- quantifiers that are entered and left again
pub left_again : (ws : List Written) (scope : List (List ℕ)) → drop (length ws) (reverse (texts_of ws) ++ scope) ≡ scope
left_again ws scope =
    subst (λ n. drop n (reverse (texts_of ws) ++ scope) ≡ scope) (length-reverse (texts_of ws) ∙ length-map ws (λ w. w.text)) (dropped (reverse (texts_of ws)) scope)

pub names_left_again : (names : List (List ℕ)) (scope : List (List ℕ)) → drop (length names) (reverse names ++ scope) ≡ scope
names_left_again names scope = subst (λ n. drop n (reverse names ++ scope) ≡ scope) (length-reverse names) (dropped (reverse names) scope)

none_left : {A : Type 0} (n : ℕ) (xs : List A) → length xs ≤ n → drop n xs ≡ []
none_left zero [] h = refl
none_left zero (x ∷ xs) h = absurd (omega (arith, h))
none_left (suc n) [] h = refl
none_left (suc n) (x ∷ xs) h = none_left n xs (omega (arith, h))

-- no type is left
pub types_at_end : {A : Type 0} (meaning : List A → Result (Placed Tys) Fault) → meaning [] ≡ Ok (types.none, []) → (ts : List Ty) (ps : List Place) (n : ℕ) (all : List A)
    → length all ≤ n → behind_types ts ps (meaning (drop n all)) ≡ meaning all → meaning all ≡ Ok (tys_of ts, ps)
types_at_end meaning nothing ts ps n all h e =
    sym e ∙ ap (λ l. behind_types ts ps (meaning l)) (none_left n all h) ∙ ap (behind_types ts ps) nothing ∙ ap (λ u. Ok (u, ps ++ [])) (tys_all ts) ∙ ap (λ q. Ok (tys_of ts, q)) (append-nil ps)

some_is : {A : Type 0} (y x : A) → Some y ≡ Some x → y ≡ x
some_is y x e = cc

taken : {A : Type 0} (i : ℕ) (xs : List A) (x : A) → slice_get xs i ≡ Some x → take i xs ++ x ∷ [] ≡ take (suc i) xs
taken i [] x e = cc
taken zero (y ∷ xs) x e = ap (λ z. z ∷ []) (sym (some_is y x e))
taken (suc i) (y ∷ xs) x e = ap (λ l. y ∷ l) (taken i xs x e)

-- one element more
pub take_next : {A : Type 0} (i : ℕ) (xs : List A) (x : A) → slice_get xs i ≡ Some x → take i xs ++ x ∷ [] ≡ take (i + 1) xs
take_next i xs x e = taken i xs x e ∙ ap (λ k. take k xs) (sym (add-one i))

pub got : {A : Type 0} (i : ℕ) (xs : List A) → i < length xs → slice_get xs i ≡ None → ⊥
got i [] h e = omega (arith, h)
got zero (x ∷ xs) h e = cc
got (suc i) (x ∷ xs) h e = got i xs (omega (arith, h)) e

p_one : (ps : List Pattern) (p : Pattern) (qs : Patterns) → patterns_before ps (patterns.more p qs) ≡ patterns_before (ps ++ p ∷ []) qs
p_one [] p qs = refl
p_one (q ∷ ps) p qs = ap (patterns.more q) (p_one ps p qs)

-- one pattern more
pub pattern_added : (ts : List Pattern) (ps : List Place) (x : Placed Pattern) (m : Result (Placed Patterns) Fault)
    → behind_patterns ts ps (m >>= λ xs. Ok (pattern_before x xs)) ≡ behind_patterns (ts ++ x.0 ∷ []) (ps ++ x.1) m
pattern_added ts ps x (Ok xs) =
    ap (λ u. Ok (u, ps ++ (x.1 ++ xs.1))) (p_one ts x.0 xs.0) ∙ ap (λ q. Ok (patterns_before (ts ++ x.0 ∷ []) xs.0, q)) (sym (append_assoc ps x.1 xs.1))
pattern_added ts ps x (Err e) = refl

patterns_all : (ps : List Pattern) → patterns_before ps patterns.none ≡ patterns_of ps
patterns_all [] = refl
patterns_all (p ∷ ps) = ap (patterns.more p) (patterns_all ps)

-- no pattern is left
pub patterns_at_end : {A : Type 0} (meaning : List A → Result (Placed Patterns) Fault) → meaning [] ≡ Ok (patterns.none, []) → (ts : List Pattern) (ps : List Place) (n : ℕ) (all : List A)
    → length all ≤ n → behind_patterns ts ps (meaning (drop n all)) ≡ meaning all → meaning all ≡ Ok (patterns_of ts, ps)
patterns_at_end meaning nothing ts ps n all h e =
    sym e ∙ ap (λ l. behind_patterns ts ps (meaning l)) (none_left n all h) ∙ ap (behind_patterns ts ps) nothing ∙ ap (λ u. Ok (u, ps ++ [])) (patterns_all ts) ∙ ap (λ q. Ok (patterns_of ts, q)) (append-nil ps)

bound_ok : {X : Type 0} (m : Result X Fault) → m ≡ m >>= λ x. Ok x
bound_ok (Ok x) = refl
bound_ok (Err e) = refl

alias_step : (w : Written) (ws : List Written) (m : Result (Placed Pattern) Fault) → (m >>= λ x. Ok (aliases ws x)) >>= (λ y. Ok (patterns.alias y.0, w.place ∷ y.1)) ≡ m >>= λ x. Ok (aliases (w ∷ ws) x)
alias_step w ws (Ok x) = refl
alias_step w ws (Err e) = refl

-- names with `@` before an atom
pub aliases_of : (known : Known) (usings : Usings) (ws : List Written) (a : PatternAtom) → atom_meaning known usings (names_before ws a) ≡ atom_meaning known usings a >>= λ x. Ok (aliases ws x)
aliases_of known usings [] a = bound_ok (atom_meaning known usings a)
aliases_of known usings (w ∷ ws) a =
    ap (λ m. m >>= λ y. Ok (patterns.alias y.0, w.place ∷ y.1)) (aliases_of known usings ws a) ∙ alias_step w ws (atom_meaning known usings a)

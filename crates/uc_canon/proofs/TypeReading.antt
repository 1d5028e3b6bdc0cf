-- A type that is read is spelled so, and a type that is spelled is read.
use Rattle.std.proofs.Common.{◌≡◌, ℕ, zero, suc, ◌^◌, ◌<◌, ◌≤◌, true, cond, ltb, List, [], ◌∷◌, ◌++◌, length, Option, Some, None, refl, ap, subst, append_assoc, arith, lit<, IfSome}
use Rattle.std.proofs.lemmas.Bool.{lt-ltb, ltb-true}
use Rattle.std.specs.List.{AllByRecursion}
use Rattle.uc_base.specs.declared.hash.Hash.{Hash}
use Rattle.uc_base.specs.declared.reference.Ref.TheVariants.{Def, Ctor, Builtin}
use Rattle.uc_tree.specs.declared.target.Target.{Target}
use Rattle.uc_tree.specs.declared.target.Target.TheVariants.{Stored, Own, OwnCtor}
use Rattle.uc_tree.specs.Types.{Ty, variable, quantified, arrow, unit, tuple, applied, Tys, none, more, tys_of}
use Rattle.uc_tree.specs.Bound.{IsTypeBound, AreTypesBound, IsSignatureBound}
use Rattle.uc_tree.specs.Counts.{ty_levels, tys_levels, signature_levels}
use Rattle.uc_canon.specs.declared.scope.TypeScope.{TypeScope}
use Rattle.uc_canon.specs.Bounds.{IsCount, IsHash, IsTypeTarget, IsTypeInRange, AreTypesInRange, IsSignatureInRange}
use Rattle.uc_canon.specs.Scopes.{quantified_scope, with_more}
use Rattle.uc_canon.specs.Spelling.{number_text, type_target_text, types_count, type_text, types_text, counted_types, signature_text}
use Rattle.uc_canon.specs.Reading.{Read, ◌>>=◌, number_at, counted_at, hash_at}
use Rattle.uc_canon.specs.ReadingTypes.{builtin_at, stored_at, constructor_at, member_at, type_target_at, type_variable_at, quantified_at, arrow_at, tuple_type_at, applied_at, type_by, type_at, signature_at}
use Rattle.uc_canon.proofs.Counts.{types_count-tys_of}
use Rattle.uc_canon.proofs.ReadHashes.{hash_text, hash_takes, hash_again}
use Rattle.uc_canon.proofs.ReadLists.{Parts, parts_take, parts_again}
use Rattle.uc_canon.proofs.ReadNumbers.{last_u32, number_takes, number_again}
use Rattle.uc_canon.proofs.ReadSteps.{passed, bound, some_is, Takes, answered, by_first, joined, joined_three, laid}
use Rattle.uc_canon.proofs.ScopeSteps.{to_one, from_one, type_serves}

-- ---- targets

-- each target that is read after its first byte, by what has to hold of it

pub builtin_takes : (Q : Target × List ℕ → Type 0) (rest : List ℕ) (x : Target × List ℕ) → builtin_at rest ≡ Some x
    → ((n : ℕ) (after : List ℕ) → n < 2 ^ 16 → rest ≡ number_text n ++ after → Q (Stored (Builtin n), after)) → Q x
unfolding builtin_at
builtin_takes Q rest x e made =
    let a = bound (number_at 65535 rest) (λ n. Some (Stored (Builtin n.0), n.1)) x e in
    let n = number_takes 65535 rest a.0 (lit< tt) a.1 in
    subst Q (some_is (Stored (Builtin a.0.0), a.0.1) x a.2) (made a.0.0 a.0.1 (omega (arith, n.fits)) n.parts)

pub stored_takes : (Q : Target × List ℕ → Type 0) (rest : List ℕ) (x : Target × List ℕ) → stored_at rest ≡ Some x
    → ((hash : Hash) (n : ℕ) (after : List ℕ) → IsHash hash → n < 2 ^ 32 → rest ≡ (hash_text hash ++ number_text n) ++ after → Q (Stored (Def hash n), after)) → Q x
unfolding stored_at
stored_takes Q rest x e made =
    let a = bound (hash_at rest) (λ hash. number_at last_u32 hash.1 >>= λ n. Some (Stored (Def hash.0 n.0), n.1)) x e in
    let b = bound (number_at last_u32 a.0.1) (λ n. Some (Stored (Def a.0.0 n.0), n.1)) x a.2 in
    let h = hash_takes rest a.0 a.1 in
    let n = number_takes last_u32 a.0.1 b.0 (lit< tt) b.1 in
    subst Q (some_is (Stored (Def a.0.0 b.0.0), b.0.1) x b.2) (made a.0.0 b.0.0 b.0.1 h.fits (omega (arith, n.fits)) (joined rest (hash_text a.0.0) a.0.1 (number_text b.0.0) b.0.1 h.parts n.parts))

pub constructor_takes : (Q : Target × List ℕ → Type 0) (rest : List ℕ) (x : Target × List ℕ) → constructor_at rest ≡ Some x
    → ((hash : Hash) (n c : ℕ) (after : List ℕ) → IsHash hash → n < 2 ^ 32 → c < 2 ^ 32 → rest ≡ (hash_text hash ++ (number_text n ++ number_text c)) ++ after → Q (Stored (Ctor hash n c), after)) → Q x
unfolding constructor_at
constructor_takes Q rest x e made =
    let a = bound (hash_at rest) (λ hash. number_at last_u32 hash.1 >>= λ n. number_at last_u32 n.1 >>= λ c. Some (Stored (Ctor hash.0 n.0 c.0), c.1)) x e in
    let b = bound (number_at last_u32 a.0.1) (λ n. number_at last_u32 n.1 >>= λ c. Some (Stored (Ctor a.0.0 n.0 c.0), c.1)) x a.2 in
    let d = bound (number_at last_u32 b.0.1) (λ c. Some (Stored (Ctor a.0.0 b.0.0 c.0), c.1)) x b.2 in
    let h = hash_takes rest a.0 a.1 in
    let n = number_takes last_u32 a.0.1 b.0 (lit< tt) b.1 in
    let c = number_takes last_u32 b.0.1 d.0 (lit< tt) d.1 in
    subst Q (some_is (Stored (Ctor a.0.0 b.0.0 d.0.0), d.0.1) x d.2)
    (made a.0.0 b.0.0 d.0.0 d.0.1 h.fits (omega (arith, n.fits)) (omega (arith, c.fits))
    (joined_three rest (hash_text a.0.0) a.0.1 (number_text b.0.0) b.0.1 (number_text d.0.0) d.0.1 h.parts n.parts c.parts))

pub member_takes : (Q : Target × List ℕ → Type 0) (members : ℕ) (rest : List ℕ) (x : Target × List ℕ) → member_at members rest ≡ Some x
    → ((n : ℕ) (after : List ℕ) → n < members → rest ≡ number_text n ++ after → Q (Own n, after)) → Q x
unfolding member_at
member_takes Q members rest x e made =
    let a = bound (number_at last_u32 rest) (λ n. cond (ltb n.0 members) (Some (Own n.0, n.1)) None) x e in
    let n = number_takes last_u32 rest a.0 (lit< tt) a.1 in
    let g = passed (ltb a.0.0 members) (Some (Own a.0.0, a.0.1)) x a.2 in
    subst Q (some_is (Own a.0.0, a.0.1) x g.1) (made a.0.0 a.0.1 (ltb-true _ _ g.0) n.parts)

pub stored_again : (hash : Hash) (n : ℕ) (rest : List ℕ) → IsHash hash → n < 2 ^ 32 → stored_at ((hash_text hash ++ number_text n) ++ rest) ≡ Some (Stored (Def hash n), rest)
unfolding stored_at
stored_again hash n rest is small =
    rw (append_assoc, hash_again hash (number_text n ++ rest) is, number_again last_u32 n rest (omega arith) (omega arith)) refl

pub constructor_again : (hash : Hash) (n c : ℕ) (rest : List ℕ) → IsHash hash → n < 2 ^ 32 → c < 2 ^ 32
    → constructor_at ((hash_text hash ++ (number_text n ++ number_text c)) ++ rest) ≡ Some (Stored (Ctor hash n c), rest)
unfolding constructor_at
constructor_again hash n c rest is small few =
    simp append_assoc (rw (hash_again hash (number_text n ++ (number_text c ++ rest)) is, number_again last_u32 n (number_text c ++ rest) (omega arith) (omega arith), number_again last_u32 c rest (omega arith) (omega arith)) refl)

pub builtin_again : (n : ℕ) (rest : List ℕ) → n < 2 ^ 16 → builtin_at (number_text n ++ rest) ≡ Some (Stored (Builtin n), rest)
unfolding builtin_at
builtin_again n rest small = rw (number_again 65535 n rest (omega arith) (omega arith)) refl

pub member_again : (members n : ℕ) (rest : List ℕ) → members < 2 ^ 32 → n < members → member_at members (number_text n ++ rest) ≡ Some (Own n, rest)
unfolding member_at
member_again members n rest few lt =
    let test : ltb n members ≡ true = lt-ltb n members lt in
    rw (number_again last_u32 n rest (omega arith) (omega arith), test) refl

target_takes : (members : ℕ) (bytes : List ℕ) (x : Target × List ℕ) → type_target_at members bytes ≡ Some x → Takes type_target_text (IsTypeTarget members) bytes x
unfolding type_target_at
target_takes members [] x e = absurd cc
target_takes members (c ∷ rest) x e =
    let text = type_target_text in
    let P = IsTypeTarget members in
    by_first text P c 98 rest x _ _ e (λ e. builtin_takes (Takes text P (98 ∷ rest)) rest x e
    (λ n after small parts. record { parts = ap (λ (l : List ℕ). 98 ∷ l) parts; fits = small }))
    (λ e. by_first text P c 104 rest x _ _ e (λ e. stored_takes (Takes text P (104 ∷ rest)) rest x e
    (λ hash n after is small parts. record { parts = ap (λ (l : List ℕ). 104 ∷ l) parts; fits = (is, small) }))
    (λ e. by_first text P c 109 rest x _ _ e (λ e. member_takes (Takes text P (109 ∷ rest)) members rest x e
    (λ n after lt parts. record { parts = ap (λ (l : List ℕ). 109 ∷ l) parts; fits = lt }))
    (λ e. absurd cc)))

target_again : (members : ℕ) (x : Target) (rest : List ℕ) → members < 2 ^ 32 → IsTypeTarget members x → type_target_at members (type_target_text x ++ rest) ≡ Some (x, rest)
unfolding type_target_at
target_again members (Stored (Builtin n)) rest few fits = builtin_again n rest fits
target_again members (Stored (Def hash n)) rest few fits = stored_again hash n rest fits.0 fits.1
target_again members (Stored (Ctor hash n c)) rest few fits = absurd fits
target_again members (Own n) rest few fits = member_again members n rest few fits
target_again members (OwnCtor n c) rest few fits = absurd fits

-- ---- types as lists and as trees

pub list_of : Tys → List Ty
list_of none = []
list_of (more t ts) = t ∷ list_of ts

pub tys_of-list_of : (ts : Tys) → tys_of (list_of ts) ≡ ts
unfolding list_of
tys_of-list_of none = refl
tys_of-list_of (more t ts) = ap (more t) (tys_of-list_of ts)

laid_types : (ts : List Ty) → laid type_text ts ≡ types_text (tys_of ts)
laid_types [] = refl
laid_types (t ∷ ts) = ap (λ (l : List ℕ). type_text t ++ l) (laid_types ts)

pub counted_is : (ts : List Ty) → number_text (length ts) ++ laid type_text ts ≡ counted_types (tys_of ts)
counted_is ts = rw (types_count-tys_of ts, laid_types ts) refl

-- ---- types

-- a type is in bounds in a scope, of at most so many levels
pub record TypeFits (s : TypeScope) (d : ℕ) (t : Ty) : Type 0 where
  pub range : IsTypeInRange s.members t
  pub bound : IsTypeBound s.variables t
  pub levels : ty_levels t ≤ d

pub record TypesFit (s : TypeScope) (d : ℕ) (ts : Tys) : Type 0 where
  pub range : AreTypesInRange s.members ts
  pub bound : AreTypesBound s.variables ts
  pub levels : tys_levels ts ≤ d

types_from : (s : TypeScope) (d : ℕ) (ts : List Ty) → AllByRecursion (TypeFits s d) ts → TypesFit s d (tys_of ts)
types_from s d [] all = record { range = tt; bound = tt; levels = omega arith }
types_from s d (t ∷ ts) all =
    let r = types_from s d ts all.1 in
    record { range = (all.0.range, r.range); bound = (all.0.bound, r.bound); levels = omega (arith, all.0.levels, r.levels) }

types_to : (s : TypeScope) (d : ℕ) (ts : Tys) → TypesFit s d ts → AllByRecursion (TypeFits s d) (list_of ts)
unfolding list_of
types_to s d none fit = tt
types_to s d (more t ts) fit = (
  record { range = fit.range.0; bound = fit.bound.0; levels = omega (arith, fit.levels) },
  types_to s d ts (record { range = fit.range.1; bound = fit.bound.1; levels = omega (arith, fit.levels) }),
)

-- what was read after a number of parts
abbrev TypeParts : TypeScope → ℕ → ℕ → List ℕ → List Ty × List ℕ → Type 0
TypeParts s d = Parts type_text (TypeFits s d) tys_of (TypesFit s d) types_count counted_types types_count-tys_of counted_is

pub some_levels : (t : Ty) → 1 ≤ ty_levels t
some_levels (variable n) = omega arith
some_levels (quantified t) = omega arith
some_levels (arrow a b) = omega arith
some_levels unit = omega arith
some_levels (tuple ts) = omega arith
some_levels (applied x ts) = omega arith

variable_takes : (s : TypeScope) (d : ℕ) (rest : List ℕ) (x : Ty × List ℕ) → type_variable_at s rest ≡ Some x → Takes type_text (TypeFits s (suc d)) (118 ∷ rest) x
unfolding type_variable_at
variable_takes s d rest x e =
    let a = bound (number_at last_u32 rest) (λ n. cond (ltb n.0 s.variables) (Some (variable n.0, n.1)) None) x e in
    let n = number_takes last_u32 rest a.0 (lit< tt) a.1 in
    let g = passed (ltb a.0.0 s.variables) (Some (variable a.0.0, a.0.1)) x a.2 in
    answered type_text (TypeFits s (suc d)) (118 ∷ rest) (variable a.0.0, a.0.1) x g.1
    (record { parts = ap (λ (l : List ℕ). 118 ∷ l) n.parts; fits = record { range = omega (arith, n.fits); bound = ltb-true _ _ g.0; levels = omega arith } })

module _ (next : TypeScope → List ℕ → Read Ty) (d : ℕ)
    (take_one : (s : TypeScope) (bytes : List ℕ) (x : Ty × List ℕ) → next s bytes ≡ Some x → Takes type_text (TypeFits s d) bytes x) (s : TypeScope) where
  types_take : (least : ℕ) (bytes : List ℕ) (x : List Ty × List ℕ) → counted_at (next s) least bytes ≡ Some x → TypeParts s d least bytes x
  types_take = parts_take type_text (TypeFits s d) tys_of (TypesFit s d) types_count counted_types types_count-tys_of counted_is (next s) (types_from s d) (take_one s)

  quantified_takes : (rest : List ℕ) (x : Ty × List ℕ) → quantified_at next s rest ≡ Some x → Takes type_text (TypeFits s (suc d)) (113 ∷ rest) x
  unfolding quantified_at
  quantified_takes rest x e =
      let a = bound (next (quantified_scope s) rest) (λ t. Some (quantified t.0, t.1)) x e in
      let t = take_one (quantified_scope s) rest a.0 a.1 in
      let all = type_serves s.members (with_more 1 s.variables) (suc s.variables) a.0.0 (from_one s.variables) t.fits.range t.fits.bound in
      answered type_text (TypeFits s (suc d)) (113 ∷ rest) (quantified a.0.0, a.0.1) x a.2
      (record { parts = ap (λ (l : List ℕ). 113 ∷ l) t.parts; fits = record { range = t.fits.range; bound = all; levels = omega (arith, t.fits.levels) } })

  arrow_takes : (rest : List ℕ) (x : Ty × List ℕ) → arrow_at next s rest ≡ Some x → Takes type_text (TypeFits s (suc d)) (97 ∷ rest) x
  unfolding arrow_at
  arrow_takes rest x e =
      let a = bound (next s rest) (λ t. next s t.1 >>= λ u. Some (arrow t.0 u.0, u.1)) x e in
      let b = bound (next s a.0.1) (λ u. Some (arrow a.0.0 u.0, u.1)) x a.2 in
      let t = take_one s rest a.0 a.1 in
      let u = take_one s a.0.1 b.0 b.1 in
      answered type_text (TypeFits s (suc d)) (97 ∷ rest) (arrow a.0.0 b.0.0, b.0.1) x b.2
      (record {
        parts = ap (λ (l : List ℕ). 97 ∷ l) (joined rest (type_text a.0.0) a.0.1 (type_text b.0.0) b.0.1 t.parts u.parts);
        fits = record { range = (t.fits.range, u.fits.range); bound = (t.fits.bound, u.fits.bound); levels = omega (arith, t.fits.levels, u.fits.levels) };
      })

  tuple_takes : (rest : List ℕ) (x : Ty × List ℕ) → tuple_type_at next s rest ≡ Some x → Takes type_text (TypeFits s (suc d)) (112 ∷ rest) x
  unfolding tuple_type_at
  tuple_takes rest x e =
      let a = bound (counted_at (next s) 2 rest) (λ ts. Some (tuple (tys_of ts.0), ts.1)) x e in
      let ts = types_take 2 rest a.0 a.1 in
      answered type_text (TypeFits s (suc d)) (112 ∷ rest) (tuple (tys_of a.0.0), a.0.1) x a.2
      (record { parts = ap (λ (l : List ℕ). 112 ∷ l) ts.parts; fits = record { range = (ts.count, ts.fit.range); bound = ts.fit.bound; levels = omega (arith, ts.fit.levels) } })

  applied_takes : (rest : List ℕ) (x : Ty × List ℕ) → applied_at next s rest ≡ Some x → Takes type_text (TypeFits s (suc d)) (116 ∷ rest) x
  unfolding applied_at
  applied_takes rest x e =
      let a = bound (type_target_at s.members rest) (λ y. counted_at (next s) 0 y.1 >>= λ ts. Some (applied y.0 (tys_of ts.0), ts.1)) x e in
      let b = bound (counted_at (next s) 0 a.0.1) (λ ts. Some (applied a.0.0 (tys_of ts.0), ts.1)) x a.2 in
      let y = target_takes s.members rest a.0 a.1 in
      let ts = types_take 0 a.0.1 b.0 b.1 in
      answered type_text (TypeFits s (suc d)) (116 ∷ rest) (applied a.0.0 (tys_of b.0.0), b.0.1) x b.2
      (record {
        parts = ap (λ (l : List ℕ). 116 ∷ l) (joined rest (type_target_text a.0.0) a.0.1 (counted_types (tys_of b.0.0)) b.0.1 y.parts ts.parts);
        fits = record { range = (y.fits, ts.count, ts.fit.range); bound = ts.fit.bound; levels = omega (arith, ts.fit.levels) };
      })

  by_takes : (bytes : List ℕ) (x : Ty × List ℕ) → type_by next s bytes ≡ Some x → Takes type_text (TypeFits s (suc d)) bytes x
  unfolding type_by
  by_takes [] x e = absurd cc
  by_takes (c ∷ rest) x e =
      let text = type_text in
      let P = TypeFits s (suc d) in
      by_first text P c 118 rest x _ _ e (variable_takes s d rest x)
      (λ e. by_first text P c 113 rest x _ _ e (quantified_takes rest x)
      (λ e. by_first text P c 97 rest x _ _ e (arrow_takes rest x)
      (λ e. by_first text P c 101 rest x _ _ e (λ e. answered text P (101 ∷ rest) (unit, rest) x e (record { parts = refl; fits = record { range = tt; bound = tt; levels = omega arith } }))
      (λ e. by_first text P c 112 rest x _ _ e (tuple_takes rest x)
      (λ e. by_first text P c 116 rest x _ _ e (applied_takes rest x)
      (λ e. absurd cc))))))

-- what is read is spelled so
pub type_takes : (d : ℕ) (s : TypeScope) (bytes : List ℕ) (x : Ty × List ℕ) → type_at d s bytes ≡ Some x → Takes type_text (TypeFits s d) bytes x
type_takes zero s bytes x e = absurd cc
type_takes (suc d) s bytes x e = by_takes (type_at d) d (type_takes d) s bytes x e

types_again : (s : TypeScope) (d : ℕ) → ((t : Ty) (rest : List ℕ) → TypeFits s d t → type_at d s (type_text t ++ rest) ≡ Some (t, rest))
    → (least : ℕ) (ts : Tys) (rest : List ℕ) → IsCount least (types_count ts) → TypesFit s d ts → counted_at (type_at d s) least (counted_types ts ++ rest) ≡ Some (list_of ts, rest)
types_again s d = parts_again type_text (TypeFits s d) tys_of (TypesFit s d) types_count counted_types types_count-tys_of counted_is (type_at d s) list_of tys_of-list_of (types_to s d)

-- what is spelled is read
pub type_again : (d : ℕ) (s : TypeScope) (t : Ty) (rest : List ℕ) → s.members < 2 ^ 32 → TypeFits s d t → type_at d s (type_text t ++ rest) ≡ Some (t, rest)
unfolding type_by type_variable_at quantified_at arrow_at tuple_type_at applied_at
type_again zero s t rest few fits = absurd (omega (arith, fits.levels, some_levels t))
type_again (suc d) s (variable n) rest few fits =
    let test : ltb n s.variables ≡ true = lt-ltb n s.variables fits.bound in
    rw (number_again last_u32 n rest (omega (arith, fits.range)) (omega (arith, fits.range)), test) refl
type_again (suc d) s (quantified t) rest few fits =
    let all = type_serves s.members (suc s.variables) (with_more 1 s.variables) t (to_one s.variables) fits.range fits.bound in
    rw (type_again d (quantified_scope s) t rest few (record { range = fits.range; bound = all; levels = omega (arith, fits.levels) })) refl
type_again (suc d) s (arrow a b) rest few fits =
    rw (
      append_assoc,
      type_again d s a (type_text b ++ rest) few (record { range = fits.range.0; bound = fits.bound.0; levels = omega (arith, fits.levels) }),
      type_again d s b rest few (record { range = fits.range.1; bound = fits.bound.1; levels = omega (arith, fits.levels) }),
    ) refl
type_again (suc d) s unit rest few fits = refl
type_again (suc d) s (tuple ts) rest few fits =
    rw (types_again s d (λ u r f. type_again d s u r few f) 2 ts rest fits.range.0 (record { range = fits.range.1; bound = fits.bound; levels = omega (arith, fits.levels) }), tys_of-list_of ts) refl
type_again (suc d) s (applied x ts) rest few fits =
    rw (
      append_assoc,
      target_again s.members x (counted_types ts ++ rest) few fits.range.0,
      types_again s d (λ u r f. type_again d s u r few f) 0 ts rest fits.range.1 (record { range = fits.range.2; bound = fits.bound; levels = omega (arith, fits.levels) }),
      tys_of-list_of ts,
    ) refl

-- ---- signatures

pub record SignatureFits (s : TypeScope) (d : ℕ) (t : Option Ty) : Type 0 where
  pub range : IfSome t (IsTypeInRange s.members)
  pub bound : IsSignatureBound s.variables t
  pub levels : signature_levels t ≤ d

pub signature_takes : (d : ℕ) (s : TypeScope) (bytes : List ℕ) (x : Option Ty × List ℕ) → signature_at d s bytes ≡ Some x → Takes signature_text (SignatureFits s d) bytes x
unfolding signature_at
signature_takes d s [] x e = absurd cc
signature_takes d s (c ∷ rest) x e =
    let text = signature_text in
    let P = SignatureFits s d in
    by_first text P c 45 rest x _ _ e (λ e. answered text P (45 ∷ rest) (None, rest) x e (record { parts = refl; fits = record { range = tt; bound = tt; levels = omega arith } }))
    (λ e. by_first text P c 58 rest x _ _ e (λ e.
    let a = bound (type_at d s rest) (λ t. Some (Some t.0, t.1)) x e in
    let t = type_takes d s rest a.0 a.1 in
    answered text P (58 ∷ rest) (Some a.0.0, a.0.1) x a.2 (record { parts = ap (λ (l : List ℕ). 58 ∷ l) t.parts; fits = record { range = t.fits.range; bound = t.fits.bound; levels = t.fits.levels } }))
    (λ e. absurd cc))

pub signature_again : (d : ℕ) (s : TypeScope) (t : Option Ty) (rest : List ℕ) → s.members < 2 ^ 32 → SignatureFits s d t → signature_at d s (signature_text t ++ rest) ≡ Some (t, rest)
unfolding signature_at
signature_again d s None rest few fits = refl
signature_again d s (Some t) rest few fits = rw (type_again d s t rest few (record { range = fits.range; bound = fits.bound; levels = fits.levels })) refl

pub signature_range : (t : Option Ty) → IfSome t (IsTypeInRange 0) → IsSignatureInRange t
signature_range None range = tt
signature_range (Some t) range = range

pub range_signature : (t : Option Ty) → IsSignatureInRange t → IfSome t (IsTypeInRange 0)
range_signature None range = tt
range_signature (Some t) range = range

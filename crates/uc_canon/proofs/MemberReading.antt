-- A component that is read is spelled so, and a component that is spelled is read.
use Rattle.std.proofs.Common.{◌≡◌, ℕ, zero, suc, ◌+◌, ◌-◌, ◌^◌, ◌<◌, ◌≤◌, min, true, false, ltb, leb, List, [], ◌∷◌, ◌++◌, length, Option, Some, None, refl, sym, ap, subst, ◌∙◌, append_assoc, arith, lit<}
use Rattle.std.proofs.lemmas.Bool.{ltb-false, le-ltb, le-leb, leb-true, and_parts}
use Rattle.std.proofs.lemmas.List.{append-nil, nil_from_length}
use Rattle.std.specs.Cmp.Derive.{both_true}
use Rattle.std.specs.List.{AllByRecursion}
use Rattle.uc_base.specs.Name.{IsPath}
use Rattle.uc_tree.specs.declared.definition.Definition.{Definition}
use Rattle.uc_tree.specs.declared.target.Target.TheVariants.{Own}
use Rattle.uc_tree.specs.Declarations.{Decl}
use Rattle.uc_tree.specs.Types.{Ty, applied, Tys, none, more, tys_of}
use Rattle.uc_tree.specs.Bound.{AreTypesBound, AreFieldsBound, signature_quantifiers}
use Rattle.uc_tree.specs.Constructors.{quantified_over, arrows, parameters, constructor_type}
use Rattle.uc_tree.specs.Counts.{ty_levels, tys_levels, fields_levels}
use Rattle.uc_canon.specs.declared.scope.TypeScope.{TypeScope}
use Rattle.uc_canon.specs.Bounds.{IsCount, AreTypesInRange, IsDefinitionInBounds, IsTag, AreFieldsInBounds, IsDeclarationInBounds, InBounds}
use Rattle.uc_canon.specs.Canonical.{IsCanonical}
use Rattle.uc_canon.specs.Members.{Members, terms, kinds, text_of}
use Rattle.uc_canon.specs.Numbering.{IsLeastText}
use Rattle.uc_canon.specs.Scopes.{with_more, types_scope, signature_scope, top_scope}
use Rattle.uc_canon.specs.Spelling.{number_text, types_count, type_text, counted_types, signature_text, term_text, definition_text, definitions_text, tag_text, constructors_text, counted_constructors, declaration_text, declarations_text}
use Rattle.uc_canon.specs.Reading.{Read, ◌>>=◌, items_from, number_at, count_at, counted_at, bytes_at}
use Rattle.uc_canon.specs.ReadingTypes.{type_at, signature_at}
use Rattle.uc_canon.specs.ReadingTerms.{term_at}
use Rattle.uc_canon.specs.ReadingMembers.{definition_at, is_path, path_of, tag_at, fields_from, end_levels, fields_at, declaration_at, definitions_at, declarations_at, members_at}
use Rattle.uc_canon.proofs.Counts.{types_count-tys_of}
use Rattle.uc_canon.proofs.ReadLiterals.{bytes_take, bytes_again}
use Rattle.uc_canon.proofs.ReadNumbers.{last_u32, number_takes, number_again, count_takes, count_again, counted_takes, counted_again}
use Rattle.uc_canon.proofs.ReadSteps.{passed, not_passed, bound, some_is, Takes, answered, by_first, joined, joined_three, laid, items_take, items_again}
use Rattle.uc_canon.proofs.ScopeSteps.{Serves, itself, term_serves}
use Rattle.uc_canon.proofs.TypeReading.{type_takes, type_again, list_of, tys_of-list_of, counted_is, some_levels, signature_takes, signature_again, signature_range, range_signature}
use Rattle.uc_canon.proofs.TermReading.{term_takes, term_again}

-- ---- definitions

from_top : (q : ℕ) → Serves (with_more q 0) q
from_top q = record { below = λ lt. omega arith; above = λ le. omega arith }

to_top : (q : ℕ) → Serves q (with_more q 0)
to_top q = record { below = λ lt. omega arith; above = λ le. omega arith }

definition_takes : (count : ℕ) (bytes : List ℕ) (x : Definition × List ℕ) → definition_at count bytes ≡ Some x → Takes definition_text (IsDefinitionInBounds count) bytes x
unfolding definition_at
definition_takes count bytes x e =
    let s = top_scope count in
    let a = bound (signature_at 512 (types_scope s) bytes) (λ t. term_at 512 (signature_scope t.0 s) t.1 >>= λ b. Some (record { signature = t.0; body = b.0 }, b.1)) x e in
    let b = bound (term_at 512 (signature_scope a.0.0 s) a.0.1) (λ b. Some (record { signature = a.0.0; body = b.0 }, b.1)) x a.2 in
    let q = signature_quantifiers a.0.0 in
    let t = signature_takes 512 (types_scope s) bytes a.0 a.1 in
    let u = term_takes 512 (signature_scope a.0.0 s) a.0.1 b.0 b.1 in
    let body = term_serves count (with_more q 0) q 0 0 b.0.0 (from_top q) (itself 0) u.fits.range u.fits.bound in
    answered definition_text (IsDefinitionInBounds count) bytes (record { signature = a.0.0; body = b.0.0 }, b.0.1) x b.2
    (record {
      parts = joined bytes (signature_text a.0.0) a.0.1 (term_text b.0.0) b.0.1 t.parts u.parts;
      fits = record {
        signature = signature_range a.0.0 t.fits.range;
        body = u.fits.range;
        bound = (t.fits.bound, body);
        levels = omega (arith, t.fits.levels, u.fits.levels);
      };
    })

definition_again : (count : ℕ) (d : Definition) (rest : List ℕ) → count < 2 ^ 32 → IsDefinitionInBounds count d → definition_at count (definition_text d ++ rest) ≡ Some (d, rest)
unfolding definition_at
definition_again count d rest few fits =
    let s = top_scope count in
    let q = signature_quantifiers d.signature in
    let body = term_serves count q (with_more q 0) 0 0 d.body (to_top q) (itself 0) fits.body fits.bound.1 in
    rw (
      append_assoc,
      signature_again 512 (types_scope s) d.signature (term_text d.body ++ rest) (lit< tt) (record { range = range_signature d.signature fits.signature; bound = fits.bound.0; levels = omega (arith, fits.levels) }),
      term_again 512 (signature_scope d.signature s) d.body rest few (record { range = fits.body; bound = body; levels = omega (arith, fits.levels) }),
    ) refl

-- ---- tags

pub path_test : (text : List ℕ) → is_path text ≡ true → IsPath text
path_test text e = let t = and_parts (leb (length text) 128) _ e in record { words = t.1; short = leb-true _ _ t.0 }

path_passes : (text : List ℕ) → IsPath text → is_path text ≡ true
path_passes text path = both_true (le-leb _ _ path.short) path.words

tag_takes : (bytes : List ℕ) (x : Option (List ℕ) × List ℕ) → tag_at bytes ≡ Some x → Takes tag_text IsTag bytes x
unfolding tag_at path_of
tag_takes [] x e = absurd cc
tag_takes (c ∷ rest) x e =
    by_first tag_text IsTag c 115 rest x _ _ e (λ e. answered tag_text IsTag (115 ∷ rest) (None, rest) x e (record { parts = refl; fits = tt }))
    (λ e. by_first tag_text IsTag c 117 rest x _ _ e (λ e.
    let a = bound (bytes_at rest) (λ t. path_of t.0 >>= λ p. Some (Some p, t.1)) x e in
    let b = bound (path_of a.0.0) (λ p. Some (Some p, a.0.1)) x a.2 in
    let t = bytes_take rest a.0 a.1 in
    let g = passed (is_path a.0.0) (Some a.0.0) b.0 b.1 in
    let same : a.0.0 ≡ b.0 = some_is a.0.0 b.0 g.1 in
    answered tag_text IsTag (117 ∷ rest) (Some b.0, a.0.1) x b.2
    (subst (λ (p : List ℕ). Takes tag_text IsTag (117 ∷ rest) (Some p, a.0.1)) same (record { parts = ap (λ (l : List ℕ). 117 ∷ l) t.parts; fits = path_test a.0.0 g.0 })))
    (λ e. absurd cc))

tag_again : (tag : Option (List ℕ)) (rest : List ℕ) → IsTag tag → tag_at (tag_text tag ++ rest) ≡ Some (tag, rest)
unfolding tag_at path_of
tag_again None rest fits = refl
tag_again (Some tag) rest fits = rw (bytes_again tag rest (omega (arith, fits.short)), path_passes tag fits) refl

-- ---- the fields of a constructor

quantified_levels : (n : ℕ) (t : Ty) → ty_levels (quantified_over n t) ≡ n + ty_levels t
quantified_levels zero t = omega arith
quantified_levels (suc n) t = omega (arith, quantified_levels n t)

parameters_levels : (n : ℕ) → tys_levels (parameters n) ≡ min n 1
parameters_levels zero = omega arith
parameters_levels (suc n) = omega (arith, parameters_levels n)

-- the end of a constructor's type
abbrev end_type : ℕ → Ty
end_type params = applied (Own 0) (parameters params)

end_type_levels : (params : ℕ) → ty_levels (end_type params) ≡ end_levels params
end_type_levels params = omega (arith, parameters_levels params)

fields_below : (fields : Tys) (e : Ty) → tys_levels fields ≤ ty_levels (arrows fields e)
fields_below none e = omega arith
fields_below (more t ts) e = omega (arith, fields_below ts e)

module _ (s : TypeScope) (e : Ty) where
  -- what was read behind the fields that are done
  record Fields (done : List Ty) (d n : ℕ) (bytes : List ℕ) (x : List Ty × List ℕ) : Type 0 where
    rest : List Ty
    all : x.0 ≡ done ++ rest
    count : length rest ≡ n
    range : AreTypesInRange s.members (tys_of rest)
    bound : AreTypesBound s.variables (tys_of rest)
    levels : ty_levels (arrows (tys_of rest) e) ≤ d
    parts : bytes ≡ laid type_text rest ++ x.1

  fields_take : (n : ℕ) (done : List Ty) (d : ℕ) (bytes : List ℕ) (x : List Ty × List ℕ) → fields_from s (ty_levels e) done d n bytes ≡ Some x → Fields done d n bytes x
  fields_take zero done d bytes x h =
      let g = not_passed (ltb d (ty_levels e)) (Some (done, bytes)) x h in
      let room : ty_levels e ≤ d = ltb-false _ _ g.0 in
      subst (λ (y : List Ty × List ℕ). Fields done d 0 bytes y) (some_is (done, bytes) x g.1)
      (record { rest = []; all = sym (append-nil done); count = refl; range = tt; bound = tt; levels = room; parts = refl })
  fields_take (suc n) done zero bytes x h = absurd cc
  fields_take (suc n) done (suc d) bytes x h =
      let b = bound (type_at d s bytes) (λ t. fields_from s (ty_levels e) (done ++ t.0 ∷ []) d n t.1) x h in
      let t = type_takes d s bytes b.0 b.1 in
      let r = fields_take n (done ++ b.0.0 ∷ []) d b.0.1 x b.2 in
      record {
        rest = b.0.0 ∷ r.rest;
        all = r.all ∙ append_assoc done (b.0.0 ∷ []) r.rest;
        count = ap suc r.count;
        range = (t.fits.range, r.range);
        bound = (t.fits.bound, r.bound);
        levels = omega (arith, t.fits.levels, r.levels);
        parts = joined bytes (type_text b.0.0) b.0.1 (laid type_text r.rest) x.1 t.parts r.parts;
      }

  fields_again : (rest done : List Ty) (d : ℕ) (after : List ℕ) → s.members < 2 ^ 32 → AreTypesInRange s.members (tys_of rest) → AreTypesBound s.variables (tys_of rest) → ty_levels (arrows (tys_of rest) e) ≤ d
      → fields_from s (ty_levels e) done d (length rest) (laid type_text rest ++ after) ≡ Some (done ++ rest, after)
  fields_again [] done d after few range bound levels =
      let test : ltb d (ty_levels e) ≡ false = le-ltb _ _ levels in
      rw test (ap (λ (l : List Ty). Some (l, after)) (sym (append-nil done)))
  fields_again (t ∷ rest) done zero after few range bound levels = absurd (omega (arith, levels))
  fields_again (t ∷ rest) done (suc d) after few range bound levels =
      let regrouped : laid type_text (t ∷ rest) ++ after ≡ type_text t ++ (laid type_text rest ++ after) = append_assoc (type_text t) (laid type_text rest) after in
      ap (fields_from s (ty_levels e) done (suc d) (suc (length rest))) regrouped
      ∙ rw (type_again d s t (laid type_text rest ++ after) few (record { range = range.0; bound = bound.0; levels = omega (arith, levels) }))
      (fields_again rest (done ++ t ∷ []) d after few range.1 bound.1 (omega (arith, levels)))
      ∙ ap (λ (l : List Ty). Some (l, after)) (append_assoc done (t ∷ []) rest)

-- the fields of a constructor, with their variables
record FieldsFit (count params : ℕ) (fields : Tys) : Type 0 where
  bounds : AreFieldsInBounds count params fields
  bound : AreTypesBound params fields

fields_takes : (count params : ℕ) (bytes : List ℕ) (x : Tys × List ℕ) → fields_at count params bytes ≡ Some x → Takes counted_types (FieldsFit count params) bytes x
unfolding fields_at
fields_takes count params bytes x h =
    let s : TypeScope = record { members = count; variables = params } in
    let end = end_type params in
    let e = end_levels params in
    let a = bound (count_at 0 bytes) (λ n. fields_from s e [] (512 - params) n.0 n.1 >>= λ ts. Some (tys_of ts.0, ts.1)) x h in
    let b = bound (fields_from s e [] (512 - params) a.0.0 a.0.1) (λ ts. Some (tys_of ts.0, ts.1)) x a.2 in
    let n = count_takes 0 bytes a.0 a.1 in
    let read : fields_from s (ty_levels end) [] (512 - params) a.0.0 a.0.1 ≡ Some b.0 = ap (λ (k : ℕ). fields_from s k [] (512 - params) a.0.0 a.0.1) (end_type_levels params) ∙ b.1 in
    let r = fields_take s end a.0.0 [] (512 - params) a.0.1 b.0 read in
    let all : b.0.0 ≡ r.rest = r.all in
    let number : types_count (tys_of r.rest) ≡ a.0.0 = types_count-tys_of r.rest ∙ r.count in
    let levels : ty_levels (constructor_type (Own 0) params (tys_of r.rest)) ≤ 512 = omega (arith, r.levels, some_levels (arrows (tys_of r.rest) end), quantified_levels params (arrows (tys_of r.rest) end)) in
    answered counted_types (FieldsFit count params) bytes (tys_of b.0.0, b.0.1) x b.2
    (subst (λ (ts : List Ty). Takes counted_types (FieldsFit count params) bytes (tys_of ts, b.0.1)) (sym all) (record {
      parts = joined bytes (number_text (length r.rest)) a.0.1 (laid type_text r.rest) b.0.1 (n.parts ∙ ap (λ (k : ℕ). number_text k ++ a.0.1) (sym r.count)) r.parts
          ∙ ap (λ (l : List ℕ). l ++ b.0.1) (counted_is r.rest);
      fits = record {
        bounds = record { few = subst (λ (k : ℕ). IsCount 0 k) (sym number) n.fits; types = r.range; levels = levels };
        bound = r.bound;
      };
    }))

fields_again_at : (count params : ℕ) (fields : Tys) (rest : List ℕ) → count < 2 ^ 32 → FieldsFit count params fields → fields_at count params (counted_types fields ++ rest) ≡ Some (fields, rest)
unfolding fields_at
fields_again_at count params fields rest few fits =
    let s : TypeScope = record { members = count; variables = params } in
    let end = end_type params in
    let ts = list_of fields in
    let back : tys_of ts ≡ fields = tys_of-list_of fields in
    let size : types_count fields ≡ length ts = ap types_count (sym back) ∙ types_count-tys_of ts in
    let text : counted_types fields ≡ number_text (length ts) ++ laid type_text ts = ap counted_types (sym back) ∙ sym (counted_is ts) in
    let total : params + ty_levels (arrows fields end) ≤ 512 = omega (arith, fits.bounds.levels, quantified_levels params (arrows fields end)) in
    let same : ty_levels (arrows (tys_of ts) end) ≡ ty_levels (arrows fields end) = ap (λ (us : Tys). ty_levels (arrows us end)) back in
    let read = fields_again s end ts [] (512 - params) rest few (subst (λ (us : Tys). AreTypesInRange count us) (sym back) fits.bounds.types) (subst (λ (us : Tys). AreTypesBound params us) (sym back) fits.bound) (omega arith) in
    let read_end : fields_from s (end_levels params) [] (512 - params) (length ts) (laid type_text ts ++ rest) ≡ Some (ts, rest) =
    ap (λ (k : ℕ). fields_from s k [] (512 - params) (length ts) (laid type_text ts ++ rest)) (sym (end_type_levels params)) ∙ read in
    ap (λ (l : List ℕ). fields_at count params (l ++ rest)) text
    ∙ rw (append_assoc, count_again 0 (length ts) (laid type_text ts ++ rest) (subst (λ (k : ℕ). IsCount 0 k) size fits.bounds.few), read_end, back) refl

-- ---- declarations

laid_constructors : (ctors : List Tys) → laid counted_types ctors ≡ constructors_text ctors
laid_constructors [] = refl
laid_constructors (fields ∷ ctors) = ap (λ (l : List ℕ). counted_types fields ++ l) (laid_constructors ctors)

counted_constructors_is : (ctors : List Tys) → number_text (length ctors) ++ laid counted_types ctors ≡ counted_constructors ctors
counted_constructors_is ctors = rw (laid_constructors ctors) refl

record ConstructorsFit (count params : ℕ) (ctors : List Tys) : Type 0 where
  bounds : AllByRecursion (AreFieldsInBounds count params) ctors
  bound : AreFieldsBound params ctors
  levels : fields_levels ctors ≤ 512

constructors_from : (count params : ℕ) (ctors : List Tys) → AllByRecursion (FieldsFit count params) ctors → ConstructorsFit count params ctors
constructors_from count params [] all = record { bounds = tt; bound = tt; levels = omega arith }
constructors_from count params (fields ∷ ctors) all =
    let r = constructors_from count params ctors all.1 in
    let end = end_type params in
    record {
      bounds = (all.0.bounds, r.bounds);
      bound = (all.0.bound, r.bound);
      levels = omega (arith, r.levels, all.0.bounds.levels, quantified_levels params (arrows fields end), fields_below fields end);
    }

constructors_to : (count params : ℕ) (ctors : List Tys) → AllByRecursion (AreFieldsInBounds count params) ctors → AreFieldsBound params ctors → AllByRecursion (FieldsFit count params) ctors
constructors_to count params [] bounds bound = tt
constructors_to count params (fields ∷ ctors) bounds bound = (record { bounds = bounds.0; bound = bound.0 }, constructors_to count params ctors bounds.1 bound.1)

declaration_takes : (count : ℕ) (bytes : List ℕ) (x : Decl × List ℕ) → declaration_at count bytes ≡ Some x → Takes declaration_text (IsDeclarationInBounds count) bytes x
unfolding declaration_at
declaration_takes count bytes x e =
    let a = bound (tag_at bytes) (λ t. number_at last_u32 t.1 >>= λ n. counted_at (fields_at count n.0) 1 n.1 >>= λ c. Some (record { tag = t.0; params = n.0; ctors = c.0 }, c.1)) x e in
    let b = bound (number_at last_u32 a.0.1) (λ n. counted_at (fields_at count n.0) 1 n.1 >>= λ c. Some (record { tag = a.0.0; params = n.0; ctors = c.0 }, c.1)) x a.2 in
    let c = bound (counted_at (fields_at count b.0.0) 1 b.0.1) (λ c. Some (record { tag = a.0.0; params = b.0.0; ctors = c.0 }, c.1)) x b.2 in
    let t = tag_takes bytes a.0 a.1 in
    let n = number_takes last_u32 a.0.1 b.0 (lit< tt) b.1 in
    let r = counted_takes counted_types (FieldsFit count b.0.0) (fields_at count b.0.0) (fields_takes count b.0.0) 1 b.0.1 c.0 c.1 in
    let fit = constructors_from count b.0.0 c.0.0 r.fit in
    answered declaration_text (IsDeclarationInBounds count) bytes (record { tag = a.0.0; params = b.0.0; ctors = c.0.0 }, c.0.1) x c.2
    (record {
      parts = joined_three bytes (tag_text a.0.0) a.0.1 (number_text b.0.0) b.0.1 (counted_constructors c.0.0) c.0.1 t.parts n.parts (r.parts ∙ ap (λ (l : List ℕ). l ++ c.0.1) (counted_constructors_is c.0.0));
      fits = record { tag = t.fits; params = omega (arith, n.fits); some = r.count; ctors = fit.bounds; bound = fit.bound; levels = fit.levels };
    })

declaration_again : (count : ℕ) (d : Decl) (rest : List ℕ) → count < 2 ^ 32 → IsDeclarationInBounds count d → declaration_at count (declaration_text d ++ rest) ≡ Some (d, rest)
unfolding declaration_at
declaration_again count d rest few fits =
    let text : counted_constructors d.ctors ≡ number_text (length d.ctors) ++ laid counted_types d.ctors = sym (counted_constructors_is d.ctors) in
    let read : counted_at (fields_at count d.params) 1 (counted_constructors d.ctors ++ rest) ≡ Some (d.ctors, rest) =
    ap (λ (l : List ℕ). counted_at (fields_at count d.params) 1 (l ++ rest)) text
    ∙ counted_again counted_types (FieldsFit count d.params) (fields_at count d.params) (λ fields r f. fields_again_at count d.params fields r few f) 1 d.ctors rest fits.some (constructors_to count d.params d.ctors fits.ctors fits.bound) in
    rw (
      append_assoc,
      append_assoc,
      tag_again d.tag (number_text d.params ++ (counted_constructors d.ctors ++ rest)) fits.tag,
      number_again last_u32 d.params (counted_constructors d.ctors ++ rest) (omega (arith, fits.params)) (omega (arith, fits.params)),
      read,
    ) refl

-- ---- components

laid_definitions : (ds : List Definition) → laid definition_text ds ≡ definitions_text ds
laid_definitions [] = refl
laid_definitions (d ∷ ds) = ap (λ (l : List ℕ). definition_text d ++ l) (laid_definitions ds)

laid_declarations : (ds : List Decl) → laid declaration_text ds ≡ declarations_text ds
laid_declarations [] = refl
laid_declarations (d ∷ ds) = ap (λ (l : List ℕ). declaration_text d ++ l) (laid_declarations ds)

module _ {A : Type 0} (text : A → List ℕ) (P : ℕ → A → Type 0) (one : ℕ → List ℕ → Read A) where
  -- so many members, each among so many
  record AllRead (bytes : List ℕ) (x : List A × List ℕ) : Type 0 where
    parts : bytes ≡ (number_text (length x.0) ++ laid text x.0) ++ x.1
    count : IsCount 1 (length x.0)
    fit : AllByRecursion (P (length x.0)) x.0

  members_take : ((count : ℕ) (bytes : List ℕ) (x : A × List ℕ) → one count bytes ≡ Some x → Takes text (P count) bytes x)
      → (bytes : List ℕ) (x : List A × List ℕ) → (count_at 1 bytes >>= λ n. items_from (one n.0) [] n.0 n.1) ≡ Some x → AllRead bytes x
  members_take take_one bytes x e =
      let a = bound (count_at 1 bytes) (λ n. items_from (one n.0) [] n.0 n.1) x e in
      let n = count_takes 1 bytes a.0 a.1 in
      let r = items_take text (P a.0.0) (one a.0.0) (take_one a.0.0) a.0.0 [] a.0.1 x a.2 in
      let all : x.0 ≡ r.more = r.all in
      let number : length x.0 ≡ a.0.0 = ap length all ∙ r.count in
      record {
        parts = joined bytes (number_text (length x.0)) a.0.1 (laid text x.0) x.1
            (n.parts ∙ ap (λ (k : ℕ). number_text k ++ a.0.1) (sym number)) (r.parts ∙ ap (λ (l : List A). laid text l ++ x.1) (sym all));
        count = subst (λ (k : ℕ). IsCount 1 k) (sym number) n.fits;
        fit = subst (λ (l : List A). AllByRecursion (P (length x.0)) l) (sym all) (subst (λ (k : ℕ). AllByRecursion (P k) r.more) (sym number) r.fit);
      }

  all_again : ((count : ℕ) (x : A) (rest : List ℕ) → count < 2 ^ 32 → P count x → one count (text x ++ rest) ≡ Some (x, rest))
      → (xs : List A) (rest : List ℕ) → IsCount 1 (length xs) → AllByRecursion (P (length xs)) xs
      → (count_at 1 ((number_text (length xs) ++ laid text xs) ++ rest) >>= λ n. items_from (one n.0) [] n.0 n.1) ≡ Some (xs, rest)
  all_again again_one xs rest count fit =
      rw (append_assoc, count_again 1 (length xs) (laid text xs ++ rest) count)
      (items_again text (P (length xs)) (one (length xs)) (λ x r f. again_one (length xs) x r count.few f) xs [] rest fit)

pub members_takes : (bytes : List ℕ) (x : Members × List ℕ) → members_at bytes ≡ Some x → Takes text_of InBounds bytes x
unfolding members_at definitions_at declarations_at
members_takes [] x e = absurd cc
members_takes (c ∷ rest) x e =
    by_first text_of InBounds c 84 rest x _ _ e (λ e.
    let a = bound (definitions_at rest) (λ ds. Some (terms ds.0, ds.1)) x e in
    let r = members_take definition_text IsDefinitionInBounds definition_at definition_takes rest a.0 a.1 in
    answered text_of InBounds (84 ∷ rest) (terms a.0.0, a.0.1) x a.2
    (record { parts = ap (λ (l : List ℕ). 84 ∷ l) (r.parts ∙ ap (λ (l : List ℕ). (number_text (length a.0.0) ++ l) ++ a.0.1) (laid_definitions a.0.0)); fits = (r.count, r.fit) }))
    (λ e. by_first text_of InBounds c 68 rest x _ _ e (λ e.
    let a = bound (declarations_at rest) (λ ds. Some (kinds ds.0, ds.1)) x e in
    let r = members_take declaration_text IsDeclarationInBounds declaration_at declaration_takes rest a.0 a.1 in
    answered text_of InBounds (68 ∷ rest) (kinds a.0.0, a.0.1) x a.2
    (record { parts = ap (λ (l : List ℕ). 68 ∷ l) (r.parts ∙ ap (λ (l : List ℕ). (number_text (length a.0.0) ++ l) ++ a.0.1) (laid_declarations a.0.0)); fits = (r.count, r.fit) }))
    (λ e. absurd cc))

pub members_again : (m : Members) (rest : List ℕ) → InBounds m → members_at (text_of m ++ rest) ≡ Some (m, rest)
unfolding members_at definitions_at declarations_at
members_again (terms ds) rest fits =
    let read : definitions_at ((number_text (length ds) ++ definitions_text ds) ++ rest) ≡ Some (ds, rest) =
    ap (λ (l : List ℕ). definitions_at ((number_text (length ds) ++ l) ++ rest)) (sym (laid_definitions ds))
    ∙ all_again definition_text IsDefinitionInBounds definition_at definition_again ds rest fits.0 fits.1 in
    rw read refl
members_again (kinds ds) rest fits =
    let read : declarations_at ((number_text (length ds) ++ declarations_text ds) ++ rest) ≡ Some (ds, rest) =
    ap (λ (l : List ℕ). declarations_at ((number_text (length ds) ++ l) ++ rest)) (sym (laid_declarations ds))
    ∙ all_again declaration_text IsDeclarationInBounds declaration_at declaration_again ds rest fits.0 fits.1 in
    rw read refl

-- ---- what stands behind a component

pub whole_read : (bytes : List ℕ) (m : Members) (rest : List ℕ) → members_at bytes ≡ Some (m, rest) → length rest < 1 → (bytes ≡ text_of m) × InBounds m
whole_read bytes m rest e short =
    let t = members_takes bytes (m, rest) e in
    let nothing : rest ≡ [] = nil_from_length rest (omega arith) in
    (t.parts ∙ ap (λ (l : List ℕ). text_of m ++ l) nothing ∙ append-nil (text_of m), t.fits)

pub nothing_behind : (bytes : List ℕ) (read : Members) (rest : List ℕ) → members_at bytes ≡ Some (read, rest) → (m : Members) → InBounds m → bytes ≡ text_of m → rest ≡ []
nothing_behind bytes read rest e m fits is =
    let p = some_is (read, rest) (m, []) (sym e ∙ ap members_at (is ∙ sym (append-nil (text_of m))) ∙ members_again m [] fits) in
    ap (λ (y : Members × List ℕ). y.1) p

pub nothing_read : (bytes : List ℕ) → members_at bytes ≡ None → (m : Members) → InBounds m → bytes ≡ text_of m → ⊥
nothing_read bytes e m fits is =
    let p : ◌≡◌ {A = Option (Members × List ℕ)} None (Some (m, [])) = sym e ∙ ap members_at (is ∙ sym (append-nil (text_of m))) ∙ members_again m [] fits in
    cc

-- ---- laws

pub same_members : (m n : Members) → InBounds m → InBounds n → text_of m ≡ text_of n → m ≡ n
same_members m n fits others is =
    let p = some_is (m, []) (n, []) (sym (members_again m [] fits) ∙ ap (λ (l : List ℕ). members_at (l ++ [])) is ∙ members_again n [] others) in
    ap (λ (y : Members × List ℕ). y.0) p

pub text_whole : (m n : Members) (rest : List ℕ) → InBounds m → InBounds n → text_of n ≡ text_of m ++ rest → rest ≡ []
text_whole m n rest fits others is =
    let p = some_is (m, rest) (n, []) (sym (members_again m rest fits) ∙ ap members_at (sym is ∙ sym (append-nil (text_of n))) ∙ members_again n [] others) in
    ap (λ (y : Members × List ℕ). y.1) p

-- ---- canonical texts

pub canonical_is : (bytes : List ℕ) (m n : Members) → (bytes ≡ text_of m) × InBounds m → IsCanonical bytes n → n ≡ m
canonical_is bytes m n read canonical = same_members n m canonical.bounds read.1 (sym canonical.spelled ∙ read.0)

pub least_is : (bytes : List ℕ) (m n : Members) → (bytes ≡ text_of m) × InBounds m → IsCanonical bytes n → IsLeastText m (text_of m)
least_is bytes m n read canonical =
    subst (λ (k : Members). IsLeastText k (text_of m)) (canonical_is bytes m n read canonical) (subst (λ (t : List ℕ). IsLeastText n t) read.0 canonical.least)

-- What becomes of types when existentials that they don't mention are instantiated.
use Rattle.std.proofs.Common.{◌≡◌, ℕ, ◌+◌, Bool, true, false, eqb, List, [], ◌∷◌, arith, refl, sym, ap, subst, ◌∙◌}
use Rattle.std.specs.List.{list_any}
use Rattle.std.proofs.lemmas.Bool.{or_left, or_right, or_parts, or_from, eq-eqb}
use Rattle.uc_context.specs.Opens.{Open, bound, rigid, existential, quantified, arrow, unit, tuple, applied, Opens, none, more, open_size, opens_size}
use Rattle.uc_context.specs.Contexts.{IsContext, type_under, types_under}
use Rattle.uc_context.specs.Entries.{ContextEntries, is_rigid, is_unsolved, is_variable, declares}
use Rattle.uc_context.specs.Variables.{mentions, some_mentions, has_variables}
use Rattle.uc_context.proofs.Under.{under-bound, under-rigid, under-quantified, under-arrow, under-unit, under-tuple, under-applied}
use Rattle.uc_subtyping.proofs.Extending.{ExtendsByMonotypes, extends-passes}
use Rattle.uc_subtyping.proofs.Scoped.{up_to, known_among, rigid_up_to, known_earlier}
use Rattle.uc_subtyping.proofs.Settled.{Settled, known_under, mentioned_known, unsolved_declared}

-- an existential is still one, which is none of the others that there were, except those that were instantiated
pub record Moved (apart : ℕ → Type 0) (es fs : ContextEntries) (y : ℕ) : Type 0 where
  pub to : ℕ
  pub is : type_under fs (existential y) ≡ existential to
  pub other : (w : ℕ) → list_any (declares w) es ≡ true → apart w → eqb y w ≡ false → eqb to w ≡ false

-- a context goes on from another, where existentials were instantiated from which others are apart
pub record Turns (apart : ℕ → Type 0) (es fs : ContextEntries) : Type 0 where
  pub extends : ExtendsByMonotypes es fs
  pub order : IsContext fs
  pub moves : (y : ℕ) → list_any (is_unsolved y) es ≡ true → apart y → Moved apart es fs y
  pub known : (y : ℕ) → list_any (is_unsolved y) es ≡ true → has_variables (up_to y fs) (type_under fs (existential y)) ≡ true

-- a type is as large as another, and mentions of what there was only what that does, or what was instantiated
pub record Follows (apart : ℕ → Type 0) (es : ContextEntries) (t u : Open) : Type 0 where
  pub size : open_size u ≡ open_size t
  pub clear : (w : ℕ) → list_any (declares w) es ≡ true → apart w → mentions w t ≡ false → mentions w u ≡ false

record FollowAll (apart : ℕ → Type 0) (es : ContextEntries) (ts us : Opens) : Type 0 where
  size : opens_size us ≡ opens_size ts
  clear : (w : ℕ) → list_any (declares w) es ≡ true → apart w → some_mentions w ts ≡ false → some_mentions w us ≡ false

module _ (apart : ℕ → Type 0) (es fs : ContextEntries) where
  mutual
    follows : (t : Open) → ((y : ℕ) → mentions y t ≡ true → Moved apart es fs y) → Follows apart es t (type_under fs t)
    follows (bound i) f = subst (Follows apart es (bound i)) (sym (under-bound fs i)) (record { size = refl; clear = λ w d a n. n })
    follows (rigid y) f = subst (Follows apart es (rigid y)) (sym (under-rigid fs y)) (record { size = refl; clear = λ w d a n. n })
    follows (existential y) f = let m : Moved apart es fs y = f y (eq-eqb y y refl) in subst (Follows apart es (existential y)) (sym m.is) (record { size = refl; clear = λ w d a n. m.other w d a n })
    follows (quantified t) f =
        let r : Follows apart es t (type_under fs t) = follows t f in
        subst (Follows apart es (quantified t)) (sym (under-quantified fs t)) (record { size = ap (λ (n : ℕ). n + 1) r.size; clear = λ w d a n. r.clear w d a n })
    follows (arrow a b) f =
        let r : Follows apart es a (type_under fs a) = follows a (λ y m. f y (or_left (mentions y a) (mentions y b) m)) in
        let s : Follows apart es b (type_under fs b) = follows b (λ y m. f y (or_right (mentions y a) (mentions y b) m)) in
        subst (Follows apart es (arrow a b)) (sym (under-arrow fs a b)) (record {
          size = omega (arith, r.size, s.size);
          clear = λ w d p n. let q = or_parts (mentions w a) (mentions w b) n in or_from (mentions w (type_under fs a)) (mentions w (type_under fs b)) (r.clear w d p q.0) (s.clear w d p q.1);
        })
    follows unit f = subst (Follows apart es unit) (sym (under-unit fs)) (record { size = refl; clear = λ w d a n. n })
    follows (tuple ts) f =
        let r : FollowAll apart es ts (types_under fs ts) = follow_all ts f in
        subst (Follows apart es (tuple ts)) (sym (under-tuple fs ts)) (record { size = ap (λ (n : ℕ). n + 1) r.size; clear = λ w d a n. r.clear w d a n })
    follows (applied h ts) f =
        let r : FollowAll apart es ts (types_under fs ts) = follow_all ts f in
        subst (Follows apart es (applied h ts)) (sym (under-applied fs h ts)) (record { size = ap (λ (n : ℕ). n + 1) r.size; clear = λ w d a n. r.clear w d a n })

    follow_all : (ts : Opens) → ((y : ℕ) → some_mentions y ts ≡ true → Moved apart es fs y) → FollowAll apart es ts (types_under fs ts)
    follow_all none f = record { size = refl; clear = λ w d a n. n }
    follow_all (more t ts) f =
        let r : Follows apart es t (type_under fs t) = follows t (λ y m. f y (or_left (mentions y t) (some_mentions y ts) m)) in
        let s : FollowAll apart es ts (types_under fs ts) = follow_all ts (λ y m. f y (or_right (mentions y t) (some_mentions y ts) m)) in
        record {
          size = omega (arith, r.size, s.size);
          clear = λ w d p n. let q = or_parts (mentions w t) (some_mentions w ts) n in or_from (mentions w (type_under fs t)) (some_mentions w (types_under fs ts)) (r.clear w d p q.0) (s.clear w d p q.1);
        }

pub extends-declares : (es fs : ContextEntries) → ExtendsByMonotypes es fs → (y : ℕ) → list_any (declares y) es ≡ true → list_any (declares y) fs ≡ true
extends-declares es fs d y h = extends-passes (declares y) (λ x t p. p) d h

pub extends-rigids : (es fs : ContextEntries) → ExtendsByMonotypes es fs → (y : ℕ) → list_any (is_rigid y) es ≡ true → list_any (is_rigid y) fs ≡ true
extends-rigids es fs d y h = extends-passes (is_rigid y) (λ x t p. p) d h

-- a settled type that mentions only what is apart
pub turned_follows : (apart : ℕ → Type 0) (es fs : ContextEntries) → Turns apart es fs → (t : Open) → Settled es t → ((y : ℕ) → mentions y t ≡ true → apart y) → Follows apart es t (type_under fs t)
turned_follows apart es fs r t s a = follows apart es fs t (λ y m. r.moves y (s.unsolved y m) (a y m))

-- what an existential stands for has its variables
pub turned_one : (apart : ℕ → Type 0) (es fs : ContextEntries) → Turns apart es fs → (y : ℕ) → list_any (is_unsolved y) es ≡ true → has_variables fs (type_under fs (existential y)) ≡ true
turned_one apart es fs r y u = known_among y fs (extends-declares es fs r.extends y (unsolved_declared y es u)) (type_under fs (existential y)) (r.known y u)

-- each settled type has its variables
pub turned_known : (apart : ℕ → Type 0) (es fs : ContextEntries) → Turns apart es fs → (t : Open) → Settled es t → has_variables fs (type_under fs t) ≡ true
turned_known apart es fs r t s = known_under es fs (extends-rigids es fs r.extends) fs t s.known (λ y m. turned_one apart es fs r y (s.unsolved y m))

-- what an existential stands for keeps its variables before it
pub turned_up_to : (apart : ℕ → Type 0) (es fs : ContextEntries) → Turns apart es fs → (y : ℕ) → list_any (is_variable y) es ≡ true → (t : Open) → Settled es t → has_variables (up_to y es) t ≡ true → has_variables (up_to y fs) (type_under fs t) ≡ true
turned_up_to apart es fs r y v t s k =
    known_under (up_to y es) (up_to y fs) (rigid_up_to y es fs r.extends r.order v) fs t k
    (λ z m. known_earlier y es fs r.extends r.order v z (mentioned_known (up_to y es) t k z m) (type_under fs (existential z)) (r.known z (s.unsolved z m)))

-- Well-formed contexts.
use Rattle.std.proofs.Common.{◌≡◌, ℕ, Bool, true, false, eqb, ◌||◌, ◌⊎◌, List, [], ◌∷◌, ◌++◌, map, refl, sym, ap, subst, ◌∙◌, append_assoc, append-nil, inl, inr}
use Rattle.std.specs.List.{list_any}
use Rattle.std.proofs.lemmas.Bool.{or_left, or_right, or_from, or_parts, or_cases, ne_eqb, eq-eqb, false≢true, false_from_ne_true}
use Rattle.std.proofs.lemmas.List.Folds.{list_any-append}
use Rattle.uc_kinds.specs.WellFormed.{Arity}
use Rattle.uc_context.specs.declared.entry.Entry.{Entry}
use Rattle.uc_context.specs.declared.entry.Entry.TheVariants.{Rigid, Exists, Solved, Mark, Binder}
use Rattle.uc_context.specs.Opens.{Open}
use Rattle.uc_context.specs.Contexts.{AreInOrder, CanFollow, put_in, type_under}
use Rattle.uc_context.specs.Entries.{ContextEntries, is_numbered, is_rigid, is_unsolved, is_variable, declares, before}
use Rattle.uc_context.specs.Fresh.{AreNew}
use Rattle.uc_context.specs.Solving.{solved_with}
use Rattle.uc_context.proofs.Looked.{before_standing}
use Rattle.uc_context.proofs.Orders.{later_apart}
use Rattle.uc_context.proofs.Solved.{exchanged_at}
use Rattle.uc_context.proofs.Standing.{Stands}
use Rattle.uc_soundness.specs.WellFormed.{IsMonoIn, IsTypeIn, AreWellFormed, IsWellFormedContext}
use Rattle.uc_soundness.proofs.Extending.{unsolved_entry}
use Rattle.uc_soundness.proofs.Tests.{variable_numbered}
use Rattle.uc_soundness.proofs.Types.{Covered, Covered-refl, Covered-trans, Covered-front, mono_covered, type_covered, mono_declared, mono_anywhere, type_replaced}

-- an entry can stand behind others in a well-formed context
abbrev pub CanStand : Arity → ContextEntries → Entry → Type 0
CanStand arity front (Rigid x) = list_any (is_variable x) front ≡ false
CanStand arity front (Exists x) = list_any (is_variable x) front ≡ false
CanStand arity front (Solved x t) = (list_any (is_variable x) front ≡ false) × IsMonoIn arity front 0 t
CanStand arity front (Mark x) = Unit {0}
CanStand arity front (Binder x t) = IsTypeIn arity front 0 t

module _ (arity : Arity) where
  pub well_formed_parts : (front : ContextEntries) (e : Entry) (es : ContextEntries) → AreWellFormed arity front (e ∷ es) → CanStand arity front e × AreWellFormed arity (front ++ e ∷ []) es
  well_formed_parts front (Rigid x) es h = h
  well_formed_parts front (Exists x) es h = h
  well_formed_parts front (Solved x t) es h = ((h.0, h.1), h.2)
  well_formed_parts front (Mark x) es h = (tt, h)
  well_formed_parts front (Binder x t) es h = h

  pub well_formed_from : (front : ContextEntries) (e : Entry) (es : ContextEntries) → CanStand arity front e → AreWellFormed arity (front ++ e ∷ []) es → AreWellFormed arity front (e ∷ es)
  well_formed_from front (Rigid x) es s h = (s, h)
  well_formed_from front (Exists x) es s h = (s, h)
  well_formed_from front (Solved x t) es s h = (s.0, s.1, h)
  well_formed_from front (Mark x) es s h = h
  well_formed_from front (Binder x t) es s h = (s, h)

  -- well-formed entries are in order
  can_follow : (front : ContextEntries) (e : Entry) → CanStand arity front e → CanFollow front e
  can_follow front (Rigid x) s = s
  can_follow front (Exists x) s = s
  can_follow front (Solved x t) s = (s.0, mono_declared arity front 0 t s.1)
  can_follow front (Mark x) s = tt
  can_follow front (Binder x t) s = tt

  pub well_formed_order : (front es : ContextEntries) → AreWellFormed arity front es → AreInOrder front es
  well_formed_order front [] h = tt
  well_formed_order front (e ∷ es) h = let p = well_formed_parts front e es h in (can_follow front e p.0, well_formed_order (front ++ e ∷ []) es p.1)

  -- what comes first, and what comes behind
  pub well_formed_front : (front es ds : ContextEntries) → AreWellFormed arity front (es ++ ds) → AreWellFormed arity front es
  well_formed_front front [] ds h = tt
  well_formed_front front (e ∷ es) ds h = let p = well_formed_parts front e (es ++ ds) h in well_formed_from front e es p.0 (well_formed_front (front ++ e ∷ []) es ds p.1)

  pub well_formed_behind : (front es ds : ContextEntries) → AreWellFormed arity front (es ++ ds) → AreWellFormed arity (front ++ es) ds
  well_formed_behind front [] ds h = subst (λ (cs : ContextEntries). AreWellFormed arity cs ds) (sym (append-nil front)) h
  well_formed_behind front (e ∷ es) ds h =
      let p = well_formed_parts front e (es ++ ds) h in subst (λ (cs : ContextEntries). AreWellFormed arity cs ds) (append_assoc front (e ∷ []) es) (well_formed_behind (front ++ e ∷ []) es ds p.1)

  pub well_formed_append : (front es ds : ContextEntries) → AreWellFormed arity front es → AreWellFormed arity (front ++ es) ds → AreWellFormed arity front (es ++ ds)
  well_formed_append front [] ds h k = subst (λ (cs : ContextEntries). AreWellFormed arity cs ds) (append-nil front) k
  well_formed_append front (e ∷ es) ds h k =
      let p = well_formed_parts front e es h in
      well_formed_from front e (es ++ ds) p.0 (well_formed_append (front ++ e ∷ []) es ds p.1 (subst (λ (cs : ContextEntries). AreWellFormed arity cs ds) (sym (append_assoc front (e ∷ []) es)) k))

-- no variable of entries stands among the second ones that isn't among the first
abbrev pub Apart : ContextEntries → ContextEntries → ContextEntries → Type 0
Apart front ds es = (y : ℕ) → list_any (is_variable y) es ≡ true → list_any (is_variable y) front ≡ false → list_any (is_variable y) ds ≡ false

either_on : (a b c : Bool) → (a ≡ true → b ≡ true) → (a || c) ≡ true → (b || c) ≡ true
either_on true b c on h = or_left b c (on refl)
either_on false b c on h = or_right b c h

Covered-push : (front ds : ContextEntries) (e : Entry) → Covered front ds → Covered (front ++ e ∷ []) (ds ++ e ∷ [])
Covered-push front ds e c = record {
  rigid_too = λ x h. more (is_rigid x) (c.rigid_too x) h;
  existential_too = λ x h. more (declares x) (c.existential_too x) h;
}
  where
    more : (test : Entry → Bool) → (list_any test front ≡ true → list_any test ds ≡ true) → list_any test (front ++ e ∷ []) ≡ true → list_any test (ds ++ e ∷ []) ≡ true
    more test on h = list_any-append test ds (e ∷ []) ∙ either_on (list_any test front) (list_any test ds) (list_any test (e ∷ [])) on (sym (list_any-append test front (e ∷ [])) ∙ h)

Apart-push : (front ds : ContextEntries) (e : Entry) (es : ContextEntries) → Apart front ds (e ∷ es) → Apart (front ++ e ∷ []) (ds ++ e ∷ []) es
Apart-push front ds e es apart y there none =
    let p = or_parts (list_any (is_variable y) front) (list_any (is_variable y) (e ∷ [])) (sym (list_any-append (is_variable y) front (e ∷ [])) ∙ none) in
    list_any-append (is_variable y) ds (e ∷ []) ∙ or_from (list_any (is_variable y) ds) (list_any (is_variable y) (e ∷ [])) (apart y (or_right (is_variable y e) (list_any (is_variable y) es) there) p.0) p.1

module _ (arity : Arity) where
  can_stand_with : (front ds : ContextEntries) (e : Entry) → Apart front ds (e ∷ []) → Covered front ds → CanStand arity front e → CanStand arity ds e
  can_stand_with front ds (Rigid x) apart c s = apart x (or_left (eqb x x) false (eq-eqb x x refl)) s
  can_stand_with front ds (Exists x) apart c s = apart x (or_left (eqb x x) false (eq-eqb x x refl)) s
  can_stand_with front ds (Solved x t) apart c s = (apart x (or_left (eqb x x) false (eq-eqb x x refl)) s.0, mono_covered arity front ds c 0 t s.1)
  can_stand_with front ds (Mark x) apart c s = tt
  can_stand_with front ds (Binder x t) apart c s = type_covered arity front ds c 0 t s

  -- entries stay well-formed behind others that have more, and no variable of theirs
  pub well_formed_with : (front ds es : ContextEntries) → Apart front ds es → Covered front ds → AreWellFormed arity front es → AreWellFormed arity ds es
  well_formed_with front ds [] apart c h = tt
  well_formed_with front ds (e ∷ es) apart c h =
      let p = well_formed_parts arity front e es h in
      well_formed_from arity ds e es
      (can_stand_with front ds e (λ y there none. apart y (shown (is_variable y e) (list_any (is_variable y) es) there) none) c p.0)
      (well_formed_with (front ++ e ∷ []) (ds ++ e ∷ []) es (Apart-push front ds e es apart) (Covered-push front ds e c) p.1)
    where
      shown : (a b : Bool) → (a || false) ≡ true → (a || b) ≡ true
      shown true b is = refl
      shown false b is = absurd cc

-- what stands behind an existential stays well-formed where it is solved
solved_covers : (x : ℕ) (t : Open) (front : ContextEntries) → Covered (front ++ Exists x ∷ []) (front ++ Solved x t ∷ [])
solved_covers x t front = record {
  rigid_too = λ y h. same (is_rigid y) refl ∙ h;
  existential_too = λ y h. same (declares y) refl ∙ h;
}
  where
    same : (test : Entry → Bool) → test (Exists x) ≡ test (Solved x t) → list_any test (front ++ Solved x t ∷ []) ≡ list_any test (front ++ Exists x ∷ [])
    same test e = list_any-append test front (Solved x t ∷ []) ∙ ap (λ (b : Bool). list_any test front || (b || false)) (sym e) ∙ sym (list_any-append test front (Exists x ∷ []))

solved_apart : (x : ℕ) (t : Open) (front right : ContextEntries) → Apart (front ++ Exists x ∷ []) (front ++ Solved x t ∷ []) right
solved_apart x t front right y there none = list_any-append (is_variable y) front (Solved x t ∷ []) ∙ sym (list_any-append (is_variable y) front (Exists x ∷ [])) ∙ none

-- the variables of entries have numbers of others
abbrev pub Numbered : ContextEntries → ContextEntries → Type 0
Numbered es whole = (m : ℕ) → list_any (is_variable m) es ≡ true → list_any (is_numbered m) whole ≡ true

pub unnumbered : (es whole : ContextEntries) (n : ℕ) → Numbered es whole → list_any (is_numbered n) whole ≡ false → list_any (is_variable n) es ≡ false
unnumbered es whole n numbered none = false_from_ne_true (list_any (is_variable n) es) (λ h. false≢true (sym none ∙ numbered n h))

-- an existential solved by a type of new ones
module _ (arity : Arity) (x : ℕ) (t : Open) (right : ContextEntries) where
  behind_new : (n : ℕ) (front : ContextEntries) → list_any (is_variable n) (Exists x ∷ right) ≡ false → AreWellFormed arity front (Exists x ∷ right) → AreWellFormed arity (front ++ Exists n ∷ []) (Exists x ∷ right)
  behind_new n front none h =
      well_formed_with arity front (front ++ Exists n ∷ []) (Exists x ∷ right)
      (λ y there apart. list_any-append (is_variable y) front (Exists n ∷ []) ∙ or_from (list_any (is_variable y) front) (list_any (is_variable y) (Exists n ∷ [])) apart
      (or_from (eqb n y) false (ne_eqb n y (λ same. false≢true (sym none ∙ subst (λ (m : ℕ). list_any (is_variable m) (Exists x ∷ right) ≡ true) (sym same) there))) refl))
      (Covered-front front (Exists n ∷ [])) h

  solved_by_new : (ns : List ℕ) (front whole : ContextEntries) → AreNew ns whole → Numbered front whole → Numbered (Exists x ∷ right) whole → IsMonoIn arity (front ++ map (λ n. Exists n) ns) 0 t
      → AreWellFormed arity front (Exists x ∷ right) → AreWellFormed arity front (map (λ n. Exists n) ns ++ Solved x t ∷ right)
  solved_by_new [] front whole new in_front behind mono h = (
    h.0,
    subst (λ (cs : ContextEntries). IsMonoIn arity cs 0 t) (append-nil front) mono,
    well_formed_with arity (front ++ Exists x ∷ []) (front ++ Solved x t ∷ []) right (solved_apart x t front right) (solved_covers x t front) h.1,
  )
  solved_by_new (n ∷ ns) front whole new in_front behind mono h = (
    unnumbered front whole n in_front new.0,
    solved_by_new ns (front ++ Exists n ∷ []) (Exists n ∷ whole) new.1
        (λ m there. pushed m (or_cases (list_any (is_variable m) front) (list_any (is_variable m) (Exists n ∷ [])) (sym (list_any-append (is_variable m) front (Exists n ∷ [])) ∙ there)))
        (λ m there. or_right (eqb n m) (list_any (is_numbered m) whole) (behind m there))
        (subst (λ (cs : ContextEntries). IsMonoIn arity cs 0 t) (sym (append_assoc front (Exists n ∷ []) (map (λ n. Exists n) ns))) mono)
        (behind_new n front (unnumbered (Exists x ∷ right) whole n behind new.0) h),
  )
    where
      pushed : (m : ℕ) → (list_any (is_variable m) front ≡ true) ⊎ (list_any (is_variable m) (Exists n ∷ []) ≡ true) → list_any (is_numbered m) (Exists n ∷ whole) ≡ true
      pushed m (inl p) = or_right (eqb n m) (list_any (is_numbered m) whole) (in_front m p)
      pushed m (inr p) = elim (or_cases (eqb n m) false p) [
        | inl q ↦ or_left (eqb n m) (list_any (is_numbered m) whole) q
        | inr q ↦ absurd cc
      ]

-- where an unsolved existential stands
pub record Unsolved (x : ℕ) (es : ContextEntries) : Type 0 where
  pub left : ContextEntries
  pub right : ContextEntries
  pub whole : es ≡ left ++ Exists x ∷ right

pub unsolved_in : (x : ℕ) (es : ContextEntries) → list_any (is_unsolved x) es ≡ true → Unsolved x es
unsolved_in x [] h = absurd cc
unsolved_in x (e ∷ es) h = elim (or_cases (is_unsolved x e) (list_any (is_unsolved x) es) h) [
  | inl p ↦ record { left = []; right = es; whole = ap (λ (d : Entry). d ∷ es) (unsolved_entry x e p) }
  | inr p ↦ let r = unsolved_in x es p in record { left = e ∷ r.left; right = r.right; whole = ap (λ (ds : ContextEntries). e ∷ ds) r.whole }
]

module _ (arity : Arity) (x : ℕ) (es : ContextEntries) (wf : IsWellFormedContext arity es) (h : list_any (is_unsolved x) es ≡ true) where
  pub where_it_is : Unsolved x es
  where_it_is = unsolved_in x es h

  behind_it : AreWellFormed arity where_it_is.left (Exists x ∷ where_it_is.right)
  behind_it = well_formed_behind arity [] where_it_is.left (Exists x ∷ where_it_is.right) (subst (IsWellFormedContext arity) where_it_is.whole wf)

  pub stands : Stands x es where_it_is.left (Exists x) where_it_is.right
  stands = record {
    whole = where_it_is.whole;
    here = eq-eqb x x refl;
    none_left = behind_it.0;
    none_right = later_apart x (where_it_is.left ++ Exists x ∷ []) where_it_is.right (well_formed_order arity (where_it_is.left ++ Exists x ∷ []) where_it_is.right behind_it.1)
        (list_any-append (is_variable x) where_it_is.left (Exists x ∷ []) ∙ or_right (list_any (is_variable x) where_it_is.left) (list_any (is_variable x) (Exists x ∷ [])) (or_left (eqb x x) false (eq-eqb x x refl)));
  }

  -- a context in which an existential is solved
  module _ (numbers : List ℕ) (t : Open) where
    pub solved_whole : solved_with es x numbers t ≡ where_it_is.left ++ (map (λ n. Exists n) numbers ++ Solved x t ∷ where_it_is.right)
    solved_whole =
        exchanged_at x (map (λ n. Exists n) numbers ++ Solved x t ∷ []) es where_it_is.left where_it_is.right stands
        ∙ ap (λ (cs : ContextEntries). where_it_is.left ++ cs) (append_assoc (map (λ n. Exists n) numbers) (Solved x t ∷ []) where_it_is.right)

    pub well_formed_solved : AreNew numbers es → IsMonoIn arity (before x es ++ map (λ n. Exists n) numbers) 0 t → IsWellFormedContext arity (solved_with es x numbers t)
    well_formed_solved new mono =
        let numbered : Numbered (where_it_is.left ++ Exists x ∷ where_it_is.right) es = subst (Numbered (where_it_is.left ++ Exists x ∷ where_it_is.right)) (sym where_it_is.whole) (λ m there. variable_numbered m (where_it_is.left ++ Exists x ∷ where_it_is.right) there) in
        subst (IsWellFormedContext arity) (sym solved_whole)
        (well_formed_append arity [] where_it_is.left (map (λ n. Exists n) numbers ++ Solved x t ∷ where_it_is.right)
        (well_formed_front arity [] where_it_is.left (Exists x ∷ where_it_is.right) (subst (IsWellFormedContext arity) where_it_is.whole wf))
        (solved_by_new arity x t where_it_is.right numbers where_it_is.left es new
        (λ m there. numbered m (list_any-append (is_variable m) where_it_is.left (Exists x ∷ where_it_is.right) ∙ or_left (list_any (is_variable m) where_it_is.left) (list_any (is_variable m) (Exists x ∷ where_it_is.right)) there))
        (λ m there. numbered m (list_any-append (is_variable m) where_it_is.left (Exists x ∷ where_it_is.right) ∙ or_right (list_any (is_variable m) where_it_is.left) (list_any (is_variable m) (Exists x ∷ where_it_is.right)) there))
        (subst (λ (cs : ContextEntries). IsMonoIn arity (cs ++ map (λ n. Exists n) numbers) 0 t) (before_standing x es where_it_is.left (Exists x) where_it_is.right stands) mono) behind_it))

-- types stay well-formed with the solutions put in
module _ (arity : Arity) (whole : ContextEntries) where
  under_behind : (front es : ContextEntries) (k : ℕ) (t : Open) → AreWellFormed arity front es → Covered (front ++ es) whole → IsTypeIn arity whole k t → IsTypeIn arity whole k (type_under es t)
  under_behind front [] k t wf c h = h
  under_behind front (e ∷ es) k t wf c h =
      let p = well_formed_parts arity front e es wf in
      put_typed e p.0 (under_behind (front ++ e ∷ []) es k t p.1 (subst (λ (cs : ContextEntries). Covered cs whole) (sym (append_assoc front (e ∷ []) es)) c) h)
    where
      in_front : Covered front whole
      in_front = Covered-trans (Covered-front front (e ∷ es)) c

      put_typed : (d : Entry) → CanStand arity front d → IsTypeIn arity whole k (type_under es t) → IsTypeIn arity whole k (put_in d (type_under es t))
      put_typed (Rigid x) s u = u
      put_typed (Exists x) s u = u
      put_typed (Solved x t') s u = type_replaced arity whole x t' (λ j. mono_anywhere arity whole j t' (mono_covered arity front whole in_front 0 t' s.1)) k (type_under es t) u
      put_typed (Mark x) s u = u
      put_typed (Binder x t') s u = u

pub type_under_typed : (arity : Arity) (es : ContextEntries) (k : ℕ) (t : Open) → IsWellFormedContext arity es → IsTypeIn arity es k t → IsTypeIn arity es k (type_under es t)
type_under_typed arity es k t wf h = under_behind arity es [] es k t wf (Covered-refl es) h

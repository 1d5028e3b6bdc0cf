-- Contexts whose entries can follow those before them.
use Rattle.std.proofs.Common.{◌≡◌, ◌+◌, ◌<◌, get_or, take, drop, ℕ, Bool, true, false, ◌||◌, [], ◌∷◌, ◌++◌, length, refl, sym, ap, subst, ◌∙◌, append_assoc}
use Rattle.std.specs.List.{list_any}
use Rattle.std.proofs.lemmas.List.{append-nil, take-append-drop, drop_more}
use Rattle.std.proofs.lemmas.Bool.{or_from, or_left, or_right, or_parts, and_parts, and_from, eq-eqb, false_from_ne_true, false≢true}
use Rattle.std.proofs.lemmas.List.Folds.{list_any-append}
use Rattle.uc_context.specs.declared.entry.Entry.{Entry}
use Rattle.uc_context.specs.declared.entry.Entry.TheVariants.{Rigid, Exists, Solved, Mark, Binder}
use Rattle.uc_context.specs.Opens.{Open, bound, rigid, existential, quantified, arrow, unit, tuple, applied, Opens, none, more}
use Rattle.uc_context.specs.Variables.{declares_all, declares_all_of}
use Rattle.uc_context.specs.Entries.{ContextEntries, number_of, is_numbered, declares, is_variable}
use Rattle.uc_context.specs.Contexts.{CanFollow, AreInOrder, IsContext}
use Rattle.uc_context.proofs.Noting.{variable_by_number}

-- an entry more
pub AreInOrder-push : (front es : ContextEntries) (e : Entry) → AreInOrder front es → CanFollow (front ++ es) e → AreInOrder front (es ++ e ∷ [])
AreInOrder-push front [] e h follows = (subst (λ (ds : ContextEntries). CanFollow ds e) (append-nil front) follows, tt)
AreInOrder-push front (d ∷ es) e h follows = (h.0, AreInOrder-push (front ++ d ∷ []) es e h.1 (subst (λ (ds : ContextEntries). CanFollow ds e) (sym (append_assoc front (d ∷ []) es)) follows))

-- what comes first of entries in order
pub AreInOrder-front : (front es ds : ContextEntries) → AreInOrder front (es ++ ds) → AreInOrder front es
AreInOrder-front front [] ds h = tt
AreInOrder-front front (e ∷ es) ds h = (h.0, AreInOrder-front (front ++ e ∷ []) es ds h.1)

-- what comes behind
pub AreInOrder-behind : (front es ds : ContextEntries) → AreInOrder front (es ++ ds) → AreInOrder (front ++ es) ds
AreInOrder-behind front [] ds h = subst (λ (cs : ContextEntries). AreInOrder cs ds) (sym (append-nil front)) h
AreInOrder-behind front (e ∷ es) ds h = subst (λ (cs : ContextEntries). AreInOrder cs ds) (append_assoc front (e ∷ []) es) (AreInOrder-behind (front ++ e ∷ []) es ds h.1)

-- both again
pub AreInOrder-append : (front es ds : ContextEntries) → AreInOrder front es → AreInOrder (front ++ es) ds → AreInOrder front (es ++ ds)
AreInOrder-append front [] ds h k = subst (λ (cs : ContextEntries). AreInOrder cs ds) (append-nil front) k
AreInOrder-append front (e ∷ es) ds h k = (h.0, AreInOrder-append (front ++ e ∷ []) es ds h.1 (subst (λ (cs : ContextEntries). AreInOrder cs ds) (sym (append_assoc front (e ∷ []) es)) k))

-- entries at a place
module _ (es : ContextEntries) (k : ℕ) (e : Entry) (within : k < length es) (is : e ≡ get_or es k e) where
  pub split_at : es ≡ take k es ++ e ∷ drop (k + 1) es
  split_at = sym (take-append-drop k es) ∙ ap (λ (ds : ContextEntries). take k es ++ ds) (drop_more es k e within ∙ ap (λ (d : Entry). d ∷ drop (k + 1) es) (sym is))

  pub follows_at : IsContext es → CanFollow (take k es) e
  follows_at h = (AreInOrder-behind [] (take k es) (e ∷ drop (k + 1) es) (subst IsContext split_at h)).0

-- a variable is not among those that it follows
pub CanFollow-apart : (es : ContextEntries) (e : Entry) → CanFollow es e → is_variable (number_of e) e ≡ true → list_any (is_variable (number_of e)) es ≡ false
CanFollow-apart es (Rigid x) h p = h
CanFollow-apart es (Exists x) h p = h
CanFollow-apart es (Solved x t) h p = h.0
CanFollow-apart es (Mark x) h p = absurd cc
CanFollow-apart es (Binder x t) h p = absurd cc

pub apart_at : (es : ContextEntries) (k : ℕ) (e : Entry) → k < length es → e ≡ get_or es k e → IsContext es → is_variable (number_of e) e ≡ true → list_any (is_variable (number_of e)) (take k es) ≡ false
apart_at es k e within is h = CanFollow-apart (take k es) e (follows_at es k e within is h)

pub IsContext-take : (k : ℕ) (es : ContextEntries) → IsContext es → IsContext (take k es)
IsContext-take k es h = AreInOrder-front [] (take k es) (drop k es) (subst IsContext (sym (take-append-drop k es)) h)

-- what is declared in front isn't declared again
pub later_apart : (x : ℕ) (front es : ContextEntries) → AreInOrder front es → list_any (is_variable x) front ≡ true → list_any (is_variable x) es ≡ false
later_apart x front [] h declared = refl
later_apart x front (e ∷ es) h declared =
    or_from (is_variable x e) (list_any (is_variable x) es) (false_from_ne_true (is_variable x e) (λ p. again p))
    (later_apart x (front ++ e ∷ []) es h.1 (list_any-append (is_variable x) front (e ∷ []) ∙ or_left (list_any (is_variable x) front) (list_any (is_variable x) (e ∷ [])) declared))
  where
    again : is_variable x e ≡ true → ⊥
    again p =
        let n : number_of e ≡ x = variable_by_number x e p in
        let q : is_variable (number_of e) e ≡ true = ap (λ (y : ℕ). is_variable y e) n ∙ p in
        false≢true (sym (subst (λ (y : ℕ). list_any (is_variable y) front ≡ false) n (CanFollow-apart front e h.0 q)) ∙ declared)

-- where more is declared, all is declared
mutual
  pub declares_all-more : (es ds : ContextEntries) (t : Open) → ((y : ℕ) → list_any (declares y) es ≡ true → list_any (declares y) ds ≡ true) → declares_all es t ≡ true → declares_all ds t ≡ true
  declares_all-more es ds (bound i) more' h = refl
  declares_all-more es ds (rigid y) more' h = refl
  declares_all-more es ds (existential y) more' h = more' y h
  declares_all-more es ds (quantified t) more' h = declares_all-more es ds t more' h
  declares_all-more es ds (arrow a b) more' h =
      let p = and_parts (declares_all es a) (declares_all es b) h in and_from (declares_all ds a) (declares_all ds b) (declares_all-more es ds a more' p.0) (declares_all-more es ds b more' p.1)
  declares_all-more es ds unit more' h = refl
  declares_all-more es ds (tuple ts) more' h = declares_all_of-more es ds ts more' h
  declares_all-more es ds (applied x ts) more' h = declares_all_of-more es ds ts more' h

  pub declares_all_of-more : (es ds : ContextEntries) (ts : Opens) → ((y : ℕ) → list_any (declares y) es ≡ true → list_any (declares y) ds ≡ true) → declares_all_of es ts ≡ true → declares_all_of ds ts ≡ true
  declares_all_of-more es ds none more' h = refl
  declares_all_of-more es ds (more t ts) more' h =
      let p = and_parts (declares_all es t) (declares_all_of es ts) h in
      and_from (declares_all ds t) (declares_all_of ds ts) (declares_all-more es ds t more' p.0) (declares_all_of-more es ds ts more' p.1)

CanFollow-with : (front ds : ContextEntries) (e : Entry) → (list_any (is_variable (number_of e)) front ≡ false → list_any (is_variable (number_of e)) ds ≡ false) → ((y : ℕ) → list_any (declares y) front ≡ true → list_any (declares y) ds ≡ true) → CanFollow front e → CanFollow ds e
CanFollow-with front ds (Rigid x) apart declared h = apart h
CanFollow-with front ds (Exists x) apart declared h = apart h
CanFollow-with front ds (Solved x t) apart declared h = (apart h.0, declares_all-more front ds t declared h.1)
CanFollow-with front ds (Mark x) apart declared h = tt
CanFollow-with front ds (Binder x t) apart declared h = tt

-- entries stay in order behind others that declare more, and no variable of theirs
pub AreInOrder-with : (front ds es : ContextEntries) → ((y : ℕ) → list_any (is_numbered y) es ≡ true → list_any (is_variable y) front ≡ false → list_any (is_variable y) ds ≡ false)
    → ((y : ℕ) → list_any (declares y) front ≡ true → list_any (declares y) ds ≡ true) → AreInOrder front es → AreInOrder ds es
AreInOrder-with front ds [] apart declared h = tt
AreInOrder-with front ds (e ∷ es) apart declared h = (
  CanFollow-with front ds e (apart (number_of e) (or_left (is_numbered (number_of e) e) (list_any (is_numbered (number_of e)) es) (eq-eqb (number_of e) (number_of e) refl))) declared h.0,
  AreInOrder-with (front ++ e ∷ []) (ds ++ e ∷ []) es
      (λ y used none_yet.
      let p = or_parts (list_any (is_variable y) front) (list_any (is_variable y) (e ∷ [])) (sym (list_any-append (is_variable y) front (e ∷ [])) ∙ none_yet) in
      list_any-append (is_variable y) ds (e ∷ []) ∙ or_from (list_any (is_variable y) ds) (list_any (is_variable y) (e ∷ [])) (apart y (or_right (is_numbered y e) (list_any (is_numbered y) es) used) p.0) p.1)
      (λ y d.
      list_any-append (declares y) ds (e ∷ [])
      ∙ either (list_any (declares y) front) (list_any (declares y) ds) (list_any (declares y) (e ∷ [])) (declared y) (sym (list_any-append (declares y) front (e ∷ [])) ∙ d))
      h.1,
)
  where
    either : (a b c : Bool) → (a ≡ true → b ≡ true) → (a || c) ≡ true → (b || c) ≡ true
    either true b c to h = or_left b c (to refl)
    either false b c to h = or_right b c h

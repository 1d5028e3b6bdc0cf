-- One link more.
use Rattle.std.proofs.Common.{◌≡◌, ℕ, ◌<◌, ◌≤◌, ◌+◌, ◌⊎◌, List, [], ◌∷◌, ◌++◌, length, get_or, set, refl, sym, ◌∙◌, ap, subst, inl, inr, arith}
use Rattle.std.proofs.lemmas.Bool.{cases_lt, cases_eq}
use Rattle.std.proofs.lemmas.List.{length-set, get_or_default}
use Rattle.std.specs.List.{Contains}
use Rattle.std.proofs.lemmas.List.Elements.{Contains-get_or}
use Rattle.uc_base.specs.Graph.{row, Edge}
use Rattle.uc_components.specs.Rows.{pushed}
use Rattle.uc_components.specs.Links.{IsLink, AreLinks, IsCovered, Keeps}
use Rattle.uc_components.proofs.Pushed.{edge_new, edge_keeps, edge_cases}

edge_along : (g : List (List ℕ)) (a b u v : ℕ) → a ≡ u → b ≡ v → Edge g a b → Edge g u v
edge_along g a b u v e f h = let P : ℕ → Type 0 = λ x. Edge g x v in let Q : ℕ → Type 0 = λ x. Edge g a x in subst P e (subst Q f h)

link_along : (g : List (List ℕ)) (home : List ℕ) (a b c d : ℕ) → a ≡ c → b ≡ d → IsLink g home a b → IsLink g home c d
link_along g home a b c d e f h = let P : ℕ → Type 0 = λ x. IsLink g home x d in let Q : ℕ → Type 0 = λ x. IsLink g home a x in subst P e (subst Q f h)

pub linked_more : (g : List (List ℕ)) (home : List ℕ) (n a b : ℕ) (references referrers : List (List ℕ)) → AreLinks g home n references referrers
    → IsLink g home a b → a < n → b < n → AreLinks g home n (pushed references a b) (pushed referrers b a)
linked_more g home n a b references referrers h link al bl =
    let af : a < length references = omega (arith, h.len) in
    let bf : b < length referrers = omega (arith, h.back_len) in
    record {
      len = length-set references a (row references a ++ b ∷ []) ∙ h.len;
      back_len = length-set referrers b (row referrers b ++ a ∷ []) ∙ h.back_len;
      sound = λ c d ed. elim (edge_cases references a b af c d ed) [ inl o ↦ h.sound c d o | inr p ↦ link_along g home a b c d (sym p.0) (sym p.1) link ];
      mirrored = λ c d ed. elim (edge_cases references a b af c d ed) [
        | inl o ↦ edge_keeps referrers b a bf d c (h.mirrored c d o)
        | inr p ↦ edge_along (pushed referrers b a) b a d c (sym p.1) (sym p.0) (edge_new referrers b a bf)
      ];
      back = λ c d ed. elim (edge_cases referrers b a bf d c ed) [
        | inl o ↦ edge_keeps references a b af c d (h.back c d o)
        | inr p ↦ edge_along (pushed references a b) a b c d (sym p.1) (sym p.0) (edge_new references a b af)
      ];
    }

-- a reference that was looked at
pub covered_keeps : (home : List ℕ) (before after : List (List ℕ)) (u v : ℕ) → Keeps before after → IsCovered home before u v → IsCovered home after u v
covered_keeps home before after u v k (inl e) = inl e
covered_keeps home before after u v k (inr ed) = inr (k (get_or home u 0) (get_or home v 0) ed)

pub covered_at : (g : List (List ℕ)) (home : List ℕ) (links : List (List ℕ)) (u i v : ℕ) → ((k : ℕ) → k < i → IsCovered home links u (get_or (row g u) k 0)) → length (row g u) ≤ i → Edge g u v → IsCovered home links u v
covered_at g home links u i v all le ed = let P : ℕ → Type 0 = λ x. IsCovered home links u x in subst P (get_or_default (row g u) ed.0 0 v ed.1 ∙ ed.2) (all ed.0 (omega (arith, ed.1)))

pub edge_here : (xs : List ℕ) (k t : ℕ) → k < length xs → t ≡ get_or xs k 0 → Contains xs t
edge_here xs k t lt e = let P : ℕ → Type 0 = λ x. Contains xs x in subst P (sym e) (Contains-get_or xs k 0 lt)

pub links_len : (g : List (List ℕ)) (home : List ℕ) (m n : ℕ) (references referrers : List (List ℕ)) → m ≡ n → AreLinks g home m references referrers → AreLinks g home n references referrers
links_len g home m n references referrers e h = let P : ℕ → Type 0 = λ x. AreLinks g home x references referrers in subst P e h

pub keeps_trans : (a b c : List (List ℕ)) → Keeps a b → Keeps b c → Keeps a c
keeps_trans a b c p q u v ed = q u v (p u v ed)

pub covered_more : (g : List (List ℕ)) (home : List ℕ) (before after : List (List ℕ)) (u i t : ℕ) → Keeps before after → ((k : ℕ) → k < i → IsCovered home before u (get_or (row g u) k 0))
    → t ≡ get_or (row g u) i 0 → IsCovered home after u t → (k : ℕ) → k < i + 1 → IsCovered home after u (get_or (row g u) k 0)
covered_more g home before after u i t keeps old e new k lt = elim (cases_lt k i) [
  | inl l ↦ covered_keeps home before after u (get_or (row g u) k 0) keeps (old k l)
  | inr ge ↦
      let q : i ≡ k = omega arith in
      let P : ℕ → Type 0 = λ x. IsCovered home after u x in
      subst P (e ∙ ap (λ x. get_or (row g u) x 0) q) new
]

pub vertices_more : (g : List (List ℕ)) (home : List ℕ) (before after : List (List ℕ)) (i : ℕ) → Keeps before after → ((u v : ℕ) → u < i → Edge g u v → IsCovered home before u v)
    → ((v : ℕ) → Edge g i v → IsCovered home after i v) → (u v : ℕ) → u < i + 1 → Edge g u v → IsCovered home after u v
vertices_more g home before after i keeps old new u v lt ed = elim (cases_lt u i) [
  | inl l ↦ covered_keeps home before after u v keeps (old u v l ed)
  | inr ge ↦
      let q : i ≡ u = omega arith in
      let P : ℕ → Type 0 = λ x. Edge g x v → IsCovered home after x v in
      subst P q (new v) ed
]

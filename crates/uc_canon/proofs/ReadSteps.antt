-- What is read is spelled so, and what is spelled so is read: the steps that every form shares.
use Rattle.std.proofs.Common.{◌≡◌, ℕ, zero, suc, Bool, true, false, cond, eqb, List, [], ◌∷◌, ◌++◌, length, Option, Some, None, refl, sym, ap, subst, ◌∙◌, append_assoc}
use Rattle.std.proofs.lemmas.Bool.{eqb-true}
use Rattle.std.proofs.lemmas.List.{append-nil}
use Rattle.std.specs.List.{AllByRecursion}
use Rattle.uc_canon.specs.Reading.{Read, ◌>>=◌, items_from}

-- ---- steps that may fail

-- a test that chooses between two readings
pub chosen : {A P : Type 0} (c k : ℕ) (a b : Option A) (x : A) → cond (eqb c k) a b ≡ Some x → ((c ≡ k) → a ≡ Some x → P) → (b ≡ Some x → P) → P
chosen {A} {P} c k a b x e here there = go (eqb c k) refl e
  where
    go : (t : Bool) → eqb c k ≡ t → cond t a b ≡ Some x → P
    go true is e = here (eqb-true c k is) e
    go false is e = there e

pub passed : {A : Type 0} (t : Bool) (a : Option A) (x : A) → cond t a None ≡ Some x → (t ≡ true) × (a ≡ Some x)
passed true a x e = (refl, e)
passed false a x e = absurd cc

pub not_passed : {A : Type 0} (t : Bool) (a : Option A) (x : A) → cond t None a ≡ Some x → (t ≡ false) × (a ≡ Some x)
not_passed true a x e = absurd cc
not_passed false a x e = (refl, e)

pub untested : {A : Type 0} (t : Bool) (a : Option A) → (t ≡ true → ⊥) → cond t a None ≡ None
untested true a other = absurd (other refl)
untested false a other = refl

pub bound : {A B : Type 0} (o : Option A) (f : A → Option B) (y : B) → (o >>= f) ≡ Some y → (x : A) × (o ≡ Some x) × (f x ≡ Some y)
bound (Some x) f y e = (x, refl, e)
bound None f y e = absurd cc

pub some_is : {A : Type 0} (x y : A) → ◌≡◌ {A = Option A} (Some x) (Some y) → x ≡ y
some_is x y e = cc

-- ---- what was read from the front

pub record Takes {A : Type 0} (text : A → List ℕ) (P : A → Type 0) (bytes : List ℕ) (x : A × List ℕ) : Type 0 where
  pub parts : bytes ≡ text x.0 ++ x.1
  pub fits : P x.0

-- two texts one after the other
pub joined : (bytes a r b rest : List ℕ) → bytes ≡ a ++ r → r ≡ b ++ rest → bytes ≡ (a ++ b) ++ rest
joined bytes a r b rest p q = p ∙ ap (λ (l : List ℕ). a ++ l) q ∙ sym (append_assoc a b rest)

pub joined_three : (bytes a r b s c rest : List ℕ) → bytes ≡ a ++ r → r ≡ b ++ s → s ≡ c ++ rest → bytes ≡ (a ++ (b ++ c)) ++ rest
joined_three bytes a r b s c rest p q t = joined bytes a r (b ++ c) rest p (joined r b s c rest q t)

-- what was answered is what was read
pub answered : {A : Type 0} (text : A → List ℕ) (P : A → Type 0) (bytes : List ℕ) (y x : A × List ℕ) → ◌≡◌ {A = Read A} (Some y) (Some x) → Takes text P bytes y → Takes text P bytes x
answered text P bytes y x e t = subst (λ z. Takes text P bytes z) (some_is y x e) t

-- a first byte chooses what is read behind it
pub by_first : {A : Type 0} (text : A → List ℕ) (P : A → Type 0) (c k : ℕ) (rest : List ℕ) (x : A × List ℕ) (a b : Read A) → cond (eqb c k) a b ≡ Some x
    → (a ≡ Some x → Takes text P (k ∷ rest) x) → (b ≡ Some x → Takes text P (c ∷ rest) x) → Takes text P (c ∷ rest) x
by_first text P c k rest x a b e here there =
    chosen c k a b x e (λ is e. subst (λ (d : ℕ). Takes text P (d ∷ rest) x) (sym is) (here e)) there

-- ---- so many items

abbrev pub laid : {A : Type 0} → (A → List ℕ) → List A → List ℕ
laid text [] = []
laid text (x ∷ xs) = text x ++ laid text xs

module _ {A : Type 0} (text : A → List ℕ) (P : A → Type 0) (next : List ℕ → Read A) where
  pub record Repeats (done : List A) (n : ℕ) (bytes : List ℕ) (x : List A × List ℕ) : Type 0 where
    pub more : List A
    pub all : x.0 ≡ done ++ more
    pub count : length more ≡ n
    pub fit : AllByRecursion P more
    pub parts : bytes ≡ laid text more ++ x.1

  pub items_take : ((bytes : List ℕ) (x : A × List ℕ) → next bytes ≡ Some x → Takes text P bytes x)
      → (n : ℕ) (done : List A) (bytes : List ℕ) (x : List A × List ℕ) → items_from next done n bytes ≡ Some x → Repeats done n bytes x
  items_take take_one zero done bytes x e =
      subst (λ (y : List A × List ℕ). Repeats done 0 bytes y) (some_is (done, bytes) x e) (record { more = []; all = sym (append-nil done); count = refl; fit = tt; parts = refl })
  items_take take_one (suc n) done bytes x e =
      let b = bound (next bytes) (λ y. items_from next (done ++ y.0 ∷ []) n y.1) x e in
      let t = take_one bytes b.0 b.1 in
      let r = items_take take_one n (done ++ b.0.0 ∷ []) b.0.1 x b.2 in
      record {
        more = b.0.0 ∷ r.more;
        all = r.all ∙ append_assoc done (b.0.0 ∷ []) r.more;
        count = ap suc r.count;
        fit = (t.fits, r.fit);
        parts = joined bytes (text b.0.0) b.0.1 (laid text r.more) x.1 t.parts r.parts;
      }

  pub items_again : ((x : A) (rest : List ℕ) → P x → next (text x ++ rest) ≡ Some (x, rest))
      → (more done : List A) (rest : List ℕ) → AllByRecursion P more → items_from next done (length more) (laid text more ++ rest) ≡ Some (done ++ more, rest)
  items_again again_one [] done rest fit = ap (λ (l : List A). Some (l, rest)) (sym (append-nil done))
  items_again again_one (x ∷ more) done rest fit =
      let regrouped : laid text (x ∷ more) ++ rest ≡ text x ++ (laid text more ++ rest) = append_assoc (text x) (laid text more) rest in
      ap (items_from next done (suc (length more))) regrouped ∙ rw (again_one x (laid text more ++ rest) fit.0) (items_again again_one more (done ++ x ∷ []) rest fit.1)
      ∙ ap (λ (l : List A). Some (l, rest)) (append_assoc done (x ∷ []) more)

-- Paths in a row.
use Rattle.std.proofs.Common.{◌≡◌, ℕ, ◌⊎◌, List, refl, sym, ◌∙◌, ap, subst, inl, inr}
use Rattle.uc_base.specs.Graph.{row, Edge, Reaches, Together}
use Rattle.uc_components.specs.Searched.{Comes}
use Rattle.uc_base.specs.Graph.Reaches.{one, more}

pub reaches_trans : {g : List (List ℕ)} {u v w : ℕ} → Reaches g u v → Reaches g v w → Reaches g u w
reaches_trans (one e) q = more e q
reaches_trans (more e p) q = more e (reaches_trans p q)

pub comes_trans : (g : List (List ℕ)) (u v w : ℕ) → Comes g u v → Comes g v w → Comes g u w
comes_trans g u v w (inl e) q = let P : ℕ → Type 0 = λ x. Comes g x w in subst P (sym e) q
comes_trans g u v w (inr p) (inl e) = let P : ℕ → Type 0 = λ x. Comes g u x in subst P e (inr p)
comes_trans g u v w (inr p) (inr q) = inr (reaches_trans p q)

pub comes_edge : (g : List (List ℕ)) (u v : ℕ) → Edge g u v → Comes g u v
comes_edge g u v e = inr (one e)

pub together : (g : List (List ℕ)) (u v : ℕ) → Comes g u v → Comes g v u → Together g u v
together g u v (inl e) q = inl e
together g u v (inr p) (inl e) = inl (sym e)
together g u v (inr p) (inr q) = inr (p, q)

pub comes_at : (g : List (List ℕ)) (u v a b : ℕ) → u ≡ a → v ≡ b → Comes g a b → Comes g u v
comes_at g u v a b e f h = let P : ℕ → Type 0 = λ x. Comes g x v in subst P (sym e) (let Q : ℕ → Type 0 = λ x. Comes g a x in subst Q (sym f) h)

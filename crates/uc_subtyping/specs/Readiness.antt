-- Lists of instances that can be solved one after another.
use Rattle.std.specs.Prelude.{◌≡◌, ℕ, true, false, ◌==◌}
use Rattle.std.specs.List.{list_any}
use Rattle.uc_context.specs.Contexts.{IsContext, type_under}
use Rattle.uc_context.specs.Entries.{ContextEntries, declares}
use Rattle.uc_context.specs.Opens.{Open, open_size}
use Rattle.uc_context.specs.Variables.{mentions, has_variables}
use Rattle.uc_subtyping.specs.declared.side.Side.{Side}
use Rattle.uc_subtyping.specs.Instances.{Instances, no_instances, instance}

-- an existential is to be instantiated to a type, among others
pub data Has (n : ℕ) (t : Open) : Instances → Type 0 where
  has_here : {s : Side} {rest : Instances} → Has n t (instance s n t rest)
  has_later : {s : Side} {m : ℕ} {u : Open} {rest : Instances} → Has n t rest → Has n t (instance s m u rest)

-- each existential is another one
abbrev pub AreDistinct : Instances → Type 0
AreDistinct no_instances = Unit {0}
AreDistinct (instance s n t rest) = ((m : ℕ) (u : Open) → Has m u rest → (m == n) ≡ false) × AreDistinct rest

-- each existential is declared, and with the solutions put in no type mentions one of them, nor is it larger
pub record IsReady (es : ContextEntries) (instances : Instances) : Type 0 where
  pub in_order : IsContext es
  pub distinct : AreDistinct instances
  pub declared : (n : ℕ) (t : Open) → Has n t instances → list_any (declares n) es ≡ true
  pub known : (n : ℕ) (t : Open) → Has n t instances → has_variables es (type_under es t) ≡ true
  pub apart : (n : ℕ) (t : Open) (m : ℕ) (u : Open) → Has n t instances → Has m u instances → mentions m (type_under es t) ≡ false
  pub same_size : (n : ℕ) (t : Open) → Has n t instances → open_size (type_under es t) ≡ open_size t

-- What falls in subtyping.
use Rattle.std.proofs.Common.{◌≡◌, ℕ, zero, suc, ◌+◌, ◌*◌, ◌<◌, ◌≤◌, ◌^◌, min, List, [], ◌∷◌, ◌++◌, length, arith, refl, sym, ap, subst, ◌∙◌, inl, inr, ◌⊎◌}
use Rattle.uc_context.specs.declared.entry.Entry.TheVariants.{Rigid, Exists, Mark}
use Rattle.uc_context.specs.Opens.{Open, Opens, none, more, rigid, existential, quantified, arrow, tuple, applied}
use Rattle.uc_context.specs.Contexts.{type_under}
use Rattle.uc_context.specs.Counts.{open_node_count, opens_node_count}
use Rattle.uc_context.specs.Entries.{ContextEntries}
use Rattle.uc_context.specs.Variables.{opened_at}
use Rattle.uc_subtyping.specs.InHand.{SolvesByMonotypes}
use Rattle.uc_subtyping.proofs.Costs.{Spends}
use Rattle.uc_subtyping.proofs.Counting.{quantifiers, quantifiers_of, unsolved_count, quantifiers-under, quantifiers-opened, unsolved-append}
use Rattle.uc_subtyping.proofs.Opened.{nodes-opened}

-- quantifiers count twice, since an unsolved existential comes in for one; the nodes, of which there are fewer than 2 ^ 16, come last
abbrev pub rank : ℕ → ℕ → ℕ
rank weight size = weight * 2 ^ 20 + size

abbrev pub weight : ContextEntries → ℕ → ℕ
weight es quantity = 2 * quantity + unsolved_count es

abbrev pub types_rank : ContextEntries → Open → Open → ℕ
types_rank es t u = rank (weight es (quantifiers t + quantifiers u)) (8 * (open_node_count t + open_node_count u))

abbrev pub lists_rank : ContextEntries → Opens → Opens → ℕ
lists_rank es ts us = rank (weight es (quantifiers_of ts + quantifiers_of us)) (8 * (opens_node_count ts + opens_node_count us))

-- types that are too large don't count in full
abbrev pub part_rank : ContextEntries → Open → Open → ℕ
part_rank es t u = rank (weight es (quantifiers t + quantifiers u)) (8 * min (open_node_count (type_under es t) + open_node_count (type_under es u)) 40000)

-- the context is as it was, or what is left weighs less than all did
abbrev pub Falls : ContextEntries → ContextEntries → ℕ → ℕ → Type 0
Falls start es bound left = (es ≡ start) ⊎ (weight es left < bound)

pub falls-next : (start es fs : ContextEntries) (bound quantity left : ℕ) → weight start (quantity + left) ≤ bound → Falls start es bound (quantity + left) → Spends es fs quantity → Falls start fs bound left
falls-next start es fs bound zero left enough (inl same) spent = go (spent.flat refl)
  where
    go : (fs ≡ es) ⊎ (unsolved_count fs < unsolved_count es) → Falls start fs bound left
    go (inl e) = inl (e ∙ same)
    go (inr l) = inr (omega (arith, enough, ap unsolved_count same))
falls-next start es fs bound (suc quantity) left enough (inl same) spent = inr (omega (arith, enough, spent.count, ap unsolved_count same))
falls-next start es fs bound quantity left enough (inr less) spent = inr (omega (arith, less, spent.count))

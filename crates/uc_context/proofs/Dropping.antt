-- A context with its last entries dropped.
use Rattle.std.proofs.Common.{◌≡◌, ℕ, ◌≤◌, length, take, Option, Some, None, arith, sym, ap, subst, ◌∙◌}
use Rattle.uc_context.specs.declared.entry.Entry.{Entry}
use Rattle.uc_context.specs.declared.index.Index.{Index}
use Rattle.uc_context.specs.Entries.{ContextEntries, is_same_entry, dropped_from}
use Rattle.uc_context.specs.Index.{last_place}
use Rattle.uc_context.specs.Indexes.{Indexes}
use Rattle.uc_context.specs.Kept.{IsKept}
use Rattle.uc_context.proofs.LastPlaces.{kept_by, dropped_from-place, last_place-within}
use Rattle.uc_context.proofs.Orders.{IsContext-take}

module _ (es seen lent : ContextEntries) (d : Entry) (found : Option ℕ) (view : es ≡ seen) (same : lent ≡ es) (is : found ≡ last_place (is_same_entry d) lent) where
  found_in : found ≡ last_place (is_same_entry d) es
  found_in = is ∙ ap (last_place (is_same_entry d)) same

  dropped : dropped_from d seen ≡ kept_by found es
  dropped = ap (dropped_from d) (sym view) ∙ dropped_from-place d es ∙ ap (λ (o : Option ℕ). kept_by o es) (sym found_in)

  pub dropped_at : (k : ℕ) (items : ContextEntries) → found ≡ Some k → items ≡ take k es → items ≡ dropped_from d seen
  dropped_at k items some cut = cut ∙ sym (dropped ∙ ap (λ (o : Option ℕ). kept_by o es) some)

  pub none_dropped : found ≡ None → seen ≡ dropped_from d seen
  none_dropped none = sym view ∙ sym (dropped ∙ ap (λ (o : Option ℕ). kept_by o es) none)

  pub place_within : (k : ℕ) (again : ContextEntries) → found ≡ Some k → again ≡ es → k ≤ length again
  place_within k again some once = omega (arith, last_place-within (is_same_entry d) es k (sym found_in ∙ some), ap length once)

pub kept_take : (es items again : ContextEntries) (k : ℕ) (i j : Index) → items ≡ take k es → again ≡ es → IsKept es i → Indexes j (take k again) → IsKept items j
kept_take es items again k i j cut once h indexed =
    subst (λ (cs : ContextEntries). IsKept cs j) (sym cut) (record { in_order = IsContext-take k es h.in_order; indexed = subst (λ (cs : ContextEntries). Indexes j (take k cs)) once indexed })

-- A context with an entry more.
use Rattle.std.proofs.Common.{◌≡◌, ℕ, [], ◌∷◌, ◌++◌, length, get_or, take, sym, ap, subst, ◌∙◌}
use Rattle.std.proofs.lemmas.List.{take_at, get_or_push}
use Rattle.uc_context.specs.declared.entry.Entry.{Entry}
use Rattle.uc_context.specs.declared.index.Index.{Index}
use Rattle.uc_context.specs.Contexts.{CanFollow, IsContext}
use Rattle.uc_context.specs.Entries.{ContextEntries}
use Rattle.uc_context.specs.Indexes.{Indexes}
use Rattle.uc_context.specs.Kept.{IsKept}
use Rattle.uc_context.proofs.Orders.{AreInOrder-push}

-- an index that knows a whole view
pub indexed_as : (i : Index) (es seen : ContextEntries) → es ≡ seen → Indexes i es → Indexes i seen
indexed_as i es seen view h = subst (Indexes i) view h

-- an index that is longer, and entries that stay
pub kept_with : (es ds : ContextEntries) (i j : Index) → ds ≡ es → ((cs : ContextEntries) → Indexes i cs → Indexes j cs) → IsKept es i → IsKept ds j
kept_with es ds i j same longer h = subst (λ (cs : ContextEntries). IsKept cs j) (sym same) (record { in_order = h.in_order; indexed = longer es h.indexed })

module _ (es items lent : ContextEntries) (e x : Entry) (place : ℕ) (pushed : items ≡ es ++ e ∷ []) (same : lent ≡ items) (at : place ≡ length es) where
  pub front_of_pushed : take place lent ≡ es
  front_of_pushed = ap (take place) (same ∙ pushed) ∙ take_at es (e ∷ []) place (sym at)

  pub last_of_pushed : x ≡ get_or items place x → x ≡ e
  last_of_pushed is = is ∙ ap (λ (ds : ContextEntries). get_or ds place x) pushed ∙ get_or_push es e x place (sym at)

  pub indexed_front : (i j : Index) → Indexes i es → ((cs : ContextEntries) → Indexes i cs → Indexes j cs) → Indexes j (take place lent)
  indexed_front i j h longer = subst (Indexes j) (sym front_of_pushed) (longer es h)

  pub kept_push : (j : Index) (view : ContextEntries) → es ≡ view → IsContext es → CanFollow view e → x ≡ get_or items place x → Indexes j (take place lent ++ x ∷ []) → IsKept items j
  kept_push j view seen order follows is h =
      subst (λ (cs : ContextEntries). IsKept cs j) (sym pushed) (record {
        in_order = AreInOrder-push [] es e order (subst (λ (cs : ContextEntries). CanFollow cs e) (sym seen) follows);
        indexed = subst (λ (cs : ContextEntries). Indexes j (cs ++ e ∷ [])) front_of_pushed (subst (λ (d : Entry). Indexes j (take place lent ++ d ∷ [])) (last_of_pushed is) h);
      })

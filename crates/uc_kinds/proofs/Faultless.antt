-- First flaws, and faults that there are none of.
use Rattle.std.proofs.Common.{◌≡◌, ℕ, ◌+◌, ◌<◌, ◌≤◌, suc, List, [], ◌∷◌, length, get_or, drop, Option, Some, None, Result, Ok, Err, refl, sym, ap, ◌∙◌, add-one}
use Rattle.std.proofs.Math.Seq.{drop-cons}
use Rattle.std.proofs.lemmas.List.{drop_all}
use Rattle.std.specs.Option.{option_map, option_or}
use Rattle.uc_base.specs.declared.fault.Fault.{Fault}
use Rattle.uc_tree.specs.declared.item.Item.{Item}
use Rattle.uc_tree.specs.declared.item.Item.TheVariants as item
use Rattle.uc_tree.specs.declared.definition.Definition.{Definition}
use Rattle.uc_tree.specs.Declarations.{Decl}
use Rattle.uc_kinds.specs.declared.flaw.Flaw.{Flaw}
use Rattle.uc_kinds.specs.declared.flaw.Flawed.{Flawed}
use Rattle.uc_kinds.specs.Faults.{first_flaw, fault_in, item_fault, definition_fault, decls_fault_from, decls_fault, arity_among}
use Rattle.uc_kinds.specs.Flaws.{IsFlawless, item_flaws}
use Rattle.uc_kinds.specs.Walks.{walked}
use Rattle.uc_kinds.specs.WellFormed.{Arity, IsWellFormedItem, IsWellFormedDefinition, AreWellFormedDecls}
use Rattle.uc_kinds.proofs.Clean.{flawless_item, well_formed_item}

no_first : (number : ℕ) (flaws : List (Option Flaw)) → IsFlawless flaws → first_flaw number flaws ≡ None
no_first number [] h = refl
no_first number (None ∷ flaws) h = no_first (number + 1) flaws h
no_first number (Some flaw ∷ flaws) h = absurd h

no_flaw : (number : ℕ) (flaws : List (Option Flaw)) → first_flaw number flaws ≡ None → IsFlawless flaws
no_flaw number [] h = tt
no_flaw number (None ∷ flaws) h = no_flaw (number + 1) flaws h
no_flaw number (Some flaw ∷ flaws) h = cc

none_mapped : (member : ℕ) (o : Option Flawed) → option_map (fault_in member) o ≡ None → o ≡ None
none_mapped member None h = refl
none_mapped member (Some flawed) h = cc

pub no_item_fault : (arity : Arity) (member : ℕ) (i : Item) → IsWellFormedItem arity i → item_fault arity member i ≡ None
no_item_fault arity member i w = ap (option_map (fault_in member)) (no_first 1 (item_flaws arity i) (flawless_item arity i w))

pub well_formed_without : (arity : Arity) (member : ℕ) (i : Item) → item_fault arity member i ≡ None → IsWellFormedItem arity i
well_formed_without arity member i h =
    well_formed_item arity i (no_flaw 1 (item_flaws arity i) (none_mapped member (first_flaw 1 (item_flaws arity i)) h))

pub no_decls_fault : (arity : Arity) (member : ℕ) (decls : List Decl) → AreWellFormedDecls arity decls → decls_fault_from arity member decls ≡ None
no_decls_fault arity member [] w = refl
no_decls_fault arity member (d ∷ decls) w =
    ap (λ (o : Option Fault). option_or o (decls_fault_from arity (member + 1) decls)) (no_item_fault arity member (item.Kind d) w.0) ∙ no_decls_fault arity (member + 1) decls w.1

first_none : (o p : Option Fault) → option_or o p ≡ None → o ≡ None
first_none None p h = refl
first_none (Some fault) p h = cc

second_none : (o p : Option Fault) → option_or o p ≡ None → p ≡ None
second_none None p h = h
second_none (Some fault) p h = cc

pub well_formed_decls : (arity : Arity) (member : ℕ) (decls : List Decl) → decls_fault_from arity member decls ≡ None → AreWellFormedDecls arity decls
well_formed_decls arity member [] h = tt
well_formed_decls arity member (d ∷ decls) h = (
  well_formed_without arity member (item.Kind d) (first_none (item_fault arity member (item.Kind d)) (decls_fault_from arity (member + 1) decls) h),
  well_formed_decls arity (member + 1) decls (second_none (item_fault arity member (item.Kind d)) (decls_fault_from arity (member + 1) decls) h),
)

walked_none : (before after : ℕ) (flaws : List (Option Flaw)) → Ok after ≡ walked before flaws → first_flaw (before + 1) flaws ≡ None
walked_none before after [] h = refl
walked_none before after (None ∷ flaws) h = walked_none (before + 1) after flaws h
walked_none before after (Some flaw ∷ flaws) h = cc

walked_some : (before : ℕ) (flawed : Flawed) (flaws : List (Option Flaw)) → Err flawed ≡ walked before flaws → first_flaw (before + 1) flaws ≡ Some flawed
walked_some before flawed [] h = cc
walked_some before flawed (None ∷ flaws) h = walked_some (before + 1) flawed flaws h
walked_some before flawed (Some flaw ∷ flaws) h = cc

-- where a walk over an item goes on, there is no fault
pub accepted : (arity : Arity) (member after : ℕ) (i : Item) → Ok after ≡ walked 0 (item_flaws arity i) → item_fault arity member i ≡ None
accepted arity member after i h = ap (option_map (fault_in member)) (walked_none 0 after (item_flaws arity i) h)

-- where it ends at a flaw, that is the fault
pub refused : (arity : Arity) (member : ℕ) (flawed : Flawed) (i : Item) → Err flawed ≡ walked 0 (item_flaws arity i) → item_fault arity member i ≡ Some (fault_in member flawed)
refused arity member flawed i h = ap (option_map (fault_in member)) (walked_some 0 flawed (item_flaws arity i) h)

-- no fault and a fault are not one
pub apart : (o : Option Fault) (fault : Fault) → o ≡ Some fault → o ≡ None → ⊥
apart o fault h k = cc

-- declarations at the place of one of them
module _ (arity : Arity) (decls : List Decl) (i : ℕ) (d : Decl) (below : i < length decls) (is : d ≡ get_or decls i d) where
  front : decls_fault_from arity i (drop i decls) ≡ option_or (item_fault arity i (item.Kind d)) (decls_fault_from arity (i + 1) (drop (i + 1) decls))
  front =
      let parts : drop i decls ≡ d ∷ drop (suc i) decls = rw (drop-cons decls i d) (ap (λ (z : Decl). z ∷ drop (suc i) decls) (sym is)) in
      let step : decls_fault_from arity i (drop i decls) ≡ option_or (item_fault arity i (item.Kind d)) (decls_fault_from arity (i + 1) (drop (suc i) decls)) = ap (decls_fault_from arity i) parts in
      step ∙ ap (λ (k : ℕ). option_or (item_fault arity i (item.Kind d)) (decls_fault_from arity (i + 1) (drop k decls))) (sym (add-one i))

  -- a declaration without a fault is passed
  pub passes_decl : (whole : Option Fault) → item_fault arity i (item.Kind d) ≡ None → decls_fault_from arity i (drop i decls) ≡ whole
      → decls_fault_from arity (i + 1) (drop (i + 1) decls) ≡ whole
  passes_decl whole none so_far =
      sym (front ∙ ap (λ (o : Option Fault). option_or o (decls_fault_from arity (i + 1) (drop (i + 1) decls))) none) ∙ so_far

  -- the fault of a declaration is that of all
  pub fails_decl : (whole : Option Fault) (fault : Fault) → item_fault arity i (item.Kind d) ≡ Some fault → decls_fault_from arity i (drop i decls) ≡ whole → whole ≡ Some fault
  fails_decl whole fault some so_far =
      sym so_far ∙ front ∙ ap (λ (o : Option Fault). option_or o (decls_fault_from arity (i + 1) (drop (i + 1) decls))) some

-- behind the last declaration there is no fault
pub no_more : (arity : Arity) (decls : List Decl) (i : ℕ) (whole : Option Fault) → length decls ≤ i → decls_fault_from arity i (drop i decls) ≡ whole → whole ≡ None
no_more arity decls i whole past so_far = sym so_far ∙ ap (decls_fault_from arity i) (drop_all i decls past)

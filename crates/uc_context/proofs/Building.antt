-- Types built with solutions put in, within limits.
use Rattle.std.proofs.Common.{◌≡◌, ℕ, ◌+◌, ◌-◌, ◌<◌, ◌≤◌, ◌⊎◌, inl, inr, max, List, [], ◌∷◌, ◌++◌, length, get_or, take, drop, map, arith, refl, sym, ap, ◌∙◌}
use Rattle.std.proofs.lemmas.List.{take-append-drop, take_more, take_all, map_more}
use Rattle.uc_base.specs.declared.fault.Fault.{Fault}
use Rattle.uc_base.specs.declared.fault.Fault.TheVariants.{Memory, TypeTooLarge}
use Rattle.uc_base.specs.declared.place.At.TheVariants.{Nowhere}
use Rattle.uc_tree.specs.declared.target.Target.{Target}
use Rattle.uc_context.specs.Opens.{Open, bound, rigid, existential, quantified, arrow, unit, tuple, applied, Opens, more, opens_of}
use Rattle.uc_context.specs.Applying.{front_solution, IsSettled, IsWithin, IsPast, AreWithin, ArePast}
use Rattle.uc_context.specs.Contexts.{type_under, types_under}
use Rattle.uc_context.specs.Counts.{open_node_count, levels_of_open, opens_node_count, levels_of_opens}
use Rattle.uc_context.specs.Entries.{ContextEntries}
use Rattle.uc_context.proofs.Under.{under-bound, under-rigid, under-quantified, under-arrow, under-unit, under-tuple, under-applied, under-unsolved}

-- a type has a node and a level
some_nodes : (t : Open) → 0 < open_node_count t
some_nodes (bound i) = omega arith
some_nodes (rigid x) = omega arith
some_nodes (existential x) = omega arith
some_nodes (quantified t) = omega arith
some_nodes (arrow a b) = omega arith
some_nodes unit = omega arith
some_nodes (tuple ts) = omega arith
some_nodes (applied h ts) = omega arith

some_levels : (t : Open) → 0 < levels_of_open t
some_levels (bound i) = omega arith
some_levels (rigid x) = omega arith
some_levels (existential x) = omega arith
some_levels (quantified t) = omega arith
some_levels (arrow a b) = omega arith
some_levels unit = omega arith
some_levels (tuple ts) = omega arith
some_levels (applied h ts) = omega arith

module _ (levels room : ℕ) where
  pub no_level : (t : Open) → levels ≡ 0 → IsPast levels room t (TypeTooLarge Nowhere)
  no_level t is = inr (refl, inl (omega (arith, some_levels t)))

  pub no_room : (t : Open) → room ≡ 0 → IsPast levels room t (TypeTooLarge Nowhere)
  no_room t is = inr (refl, inr (omega (arith, some_nodes t)))

-- the type under a context by its front, once solutions are followed
module _ (es : ContextEntries) (of front : Open) (same : type_under es front ≡ type_under es of) where
  pub as_bound : (i : ℕ) → front ≡ bound i → type_under es of ≡ bound i
  as_bound i is = sym same ∙ ap (type_under es) is ∙ under-bound es i

  pub as_rigid : (x : ℕ) → front ≡ rigid x → type_under es of ≡ rigid x
  as_rigid x is = sym same ∙ ap (type_under es) is ∙ under-rigid es x

  pub as_existential : (x : ℕ) → IsSettled es front → front ≡ existential x → type_under es of ≡ existential x
  as_existential x settled is = sym same ∙ ap (type_under es) is ∙ under-unsolved es x (sym (ap (front_solution es) is) ∙ settled)

  pub as_quantified : (t u : Open) → front ≡ quantified t → u ≡ t → type_under es of ≡ quantified (type_under es u)
  as_quantified t u is e = sym same ∙ ap (type_under es) is ∙ under-quantified es t ∙ ap (λ (a : Open). quantified (type_under es a)) (sym e)

  pub as_arrow : (a b c d : Open) → front ≡ arrow a b → c ≡ a → d ≡ b → type_under es of ≡ arrow (type_under es c) (type_under es d)
  as_arrow a b c d is e f = sym same ∙ ap (type_under es) is ∙ under-arrow es a b ∙ ap (λ (t : Open). arrow (type_under es t) (type_under es b)) (sym e) ∙ ap (λ (t : Open). arrow (type_under es c) (type_under es t)) (sym f)

  pub as_unit : front ≡ unit → type_under es of ≡ unit
  as_unit is = sym same ∙ ap (type_under es) is ∙ under-unit es

  pub as_tuple : (ts us : List Open) → front ≡ tuple (opens_of ts) → us ≡ ts → type_under es of ≡ tuple (types_under es (opens_of us))
  as_tuple ts us is e = sym same ∙ ap (type_under es) is ∙ under-tuple es (opens_of ts) ∙ ap (λ (vs : List Open). tuple (types_under es (opens_of vs))) (sym e)

  pub as_applied : (h : Target) (ts us : List Open) → front ≡ applied h (opens_of ts) → us ≡ ts → type_under es of ≡ applied h (types_under es (opens_of us))
  as_applied h ts us is e = sym same ∙ ap (type_under es) is ∙ under-applied es h (opens_of ts) ∙ ap (λ (vs : List Open). applied h (types_under es (opens_of vs))) (sym e)

-- what is built within limits
module _ (levels room : ℕ) (some_level : 0 < levels) (some_room : 0 < room) (t u : Open) where
  pub leaf_within : (v : Open) → t ≡ v → u ≡ v → open_node_count v ≡ 1 → levels_of_open v ≡ 1 → (u ≡ t) × IsWithin levels room (room - 1) u
  leaf_within v is made nodes depth = (made ∙ sym is, (omega (arith, ap open_node_count made), omega (arith, ap levels_of_open made)))

  pub quantified_within : (a b : Open) (left : ℕ) → t ≡ quantified a → u ≡ quantified b → (b ≡ a) × IsWithin (levels - 1) (room - 1) left b → (u ≡ t) × IsWithin levels room left u
  quantified_within a b left is made h = (made ∙ ap quantified h.0 ∙ sym is, (omega (arith, ap open_node_count made, h.1.0), omega (arith, ap levels_of_open made, h.1.1)))

  pub arrow_within : (a b c d : Open) (between left : ℕ) → t ≡ arrow a b → u ≡ arrow c d → (c ≡ a) × IsWithin (levels - 1) (room - 1) between c → (d ≡ b) × IsWithin (levels - 1) between left d → (u ≡ t) × IsWithin levels room left u
  arrow_within a b c d between left is made h k =
      (made ∙ ap (λ (x : Open). arrow x d) h.0 ∙ ap (arrow a) k.0 ∙ sym is, (omega (arith, ap open_node_count made, h.1.0, k.1.0), omega (arith, ap levels_of_open made, h.1.1, k.1.1)))

  pub tuple_within : (ts us : Opens) (left : ℕ) → t ≡ tuple ts → u ≡ tuple us → (us ≡ ts) × AreWithin (levels - 1) (room - 1) left us → (u ≡ t) × IsWithin levels room left u
  tuple_within ts us left is made h = (made ∙ ap tuple h.0 ∙ sym is, (omega (arith, ap open_node_count made, h.1.0), omega (arith, ap levels_of_open made, h.1.1)))

  pub applied_within : (x : Target) (ts us : Opens) (left : ℕ) → t ≡ applied x ts → u ≡ applied x us → (us ≡ ts) × AreWithin (levels - 1) (room - 1) left us → (u ≡ t) × IsWithin levels room left u
  applied_within x ts us left is made h = (made ∙ ap (applied x) h.0 ∙ sym is, (omega (arith, ap open_node_count made, h.1.0), omega (arith, ap levels_of_open made, h.1.1)))

-- what is past limits
module _ (levels room : ℕ) (some_level : 0 < levels) (some_room : 0 < room) (t : Open) (fault : Fault) where
  -- where a part is past what is left
  past_with : (l r m n : ℕ) → (l < m → levels < levels_of_open t) → (r < n → room < open_node_count t) → (fault ≡ Memory) ⊎ ((fault ≡ TypeTooLarge Nowhere) × ((l < m) ⊎ (r < n))) → IsPast levels room t fault
  past_with l r m n deeper larger (inl memory) = inl memory
  past_with l r m n deeper larger (inr large) = inr (large.0, elim large.1 [ inl d ↦ inl (deeper d) | inr s ↦ inr (larger s) ])

  pub quantified_past : (a : Open) → t ≡ quantified a → IsPast (levels - 1) (room - 1) a fault → IsPast levels room t fault
  quantified_past a is h =
      past_with (levels - 1) (room - 1) (levels_of_open a) (open_node_count a) (λ d. omega (arith, ap levels_of_open is)) (λ s. omega (arith, ap open_node_count is)) h

  pub argument_past : (a b : Open) → t ≡ arrow a b → IsPast (levels - 1) (room - 1) a fault → IsPast levels room t fault
  argument_past a b is h =
      past_with (levels - 1) (room - 1) (levels_of_open a) (open_node_count a) (λ d. omega (arith, ap levels_of_open is)) (λ s. omega (arith, ap open_node_count is)) h

  pub result_past : (a b c : Open) (between : ℕ) → t ≡ arrow a b → (c ≡ a) × IsWithin (levels - 1) (room - 1) between c → IsPast (levels - 1) between b fault → IsPast levels room t fault
  result_past a b c between is k h =
      past_with (levels - 1) between (levels_of_open b) (open_node_count b) (λ d. omega (arith, ap levels_of_open is)) (λ s. omega (arith, ap open_node_count is, ap open_node_count k.0, k.1.0)) h

  pub tuple_past : (ts : Opens) → t ≡ tuple ts → ArePast (levels - 1) (room - 1) ts fault → IsPast levels room t fault
  tuple_past ts is h =
      past_with (levels - 1) (room - 1) (levels_of_opens ts) (opens_node_count ts) (λ d. omega (arith, ap levels_of_open is)) (λ s. omega (arith, ap open_node_count is)) h

  pub applied_past : (x : Target) (ts : Opens) → t ≡ applied x ts → ArePast (levels - 1) (room - 1) ts fault → IsPast levels room t fault
  applied_past x ts is h =
      past_with (levels - 1) (room - 1) (levels_of_opens ts) (opens_node_count ts) (λ d. omega (arith, ap levels_of_open is)) (λ s. omega (arith, ap open_node_count is)) h

-- a list of types, built one by one
module _ (es : ContextEntries) where
  nodes : List Open → ℕ
  nodes ts = opens_node_count (types_under es (opens_of ts))

  depth : List Open → ℕ
  depth ts = levels_of_opens (types_under es (opens_of ts))

  nodes-append : (ts us : List Open) → nodes (ts ++ us) ≡ nodes ts + nodes us
  unfolding nodes
  nodes-append [] us = omega arith
  nodes-append (t ∷ ts) us = omega (arith, nodes-append ts us)

  depth-append : (ts us : List Open) → depth (ts ++ us) ≡ max (depth ts) (depth us)
  unfolding depth
  depth-append [] us = omega arith
  depth-append (t ∷ ts) us = omega (arith, depth-append ts us)

  opens_of-under : (ts : List Open) → opens_of (map (type_under es) ts) ≡ types_under es (opens_of ts)
  opens_of-under [] = refl
  opens_of-under (t ∷ ts) = ap (more (type_under es t)) (opens_of-under ts)

  module _ (ts : List Open) (i : ℕ) (t : Open) (within : i < length ts) (is : t ≡ get_or ts i t) where
    one_more : take (i + 1) ts ≡ take i ts ++ t ∷ []
    one_more = take_more ts i t within ∙ ap (λ (u : Open). take i ts ++ u ∷ []) (sym is)

    nodes-more : opens_node_count (types_under es (opens_of (take (i + 1) ts))) ≡ opens_node_count (types_under es (opens_of (take i ts))) + open_node_count (type_under es t)
    unfolding nodes
    nodes-more = ap (λ (us : List Open). opens_node_count (types_under es (opens_of us))) one_more ∙ omega (arith, nodes-append (take i ts) (t ∷ []))

    depth-more : levels_of_opens (types_under es (opens_of (take (i + 1) ts))) ≡ max (levels_of_opens (types_under es (opens_of (take i ts)))) (levels_of_open (type_under es t))
    unfolding depth
    depth-more = ap (λ (us : List Open). levels_of_opens (types_under es (opens_of us))) one_more ∙ omega (arith, depth-append (take i ts) (t ∷ []))

    nodes-front : (j : ℕ) → opens_node_count (types_under es (opens_of (take j ts))) ≤ opens_node_count (types_under es (opens_of ts))
    unfolding nodes
    nodes-front j = omega (arith, nodes-append (take j ts) (drop j ts), ap (λ (us : List Open). opens_node_count (types_under es (opens_of us))) (take-append-drop j ts))

    depth-front : (j : ℕ) → levels_of_opens (types_under es (opens_of (take j ts))) ≤ levels_of_opens (types_under es (opens_of ts))
    unfolding depth
    depth-front j = omega (arith, depth-append (take j ts) (drop j ts), ap (λ (us : List Open). levels_of_opens (types_under es (opens_of us))) (take-append-drop j ts))

    module _ (levels room now : ℕ) (so_far : now + opens_node_count (types_under es (opens_of (take i ts))) ≡ room) where
      pub list_past : (fault : Fault) → IsPast levels now (type_under es t) fault → ArePast levels room (types_under es (opens_of ts)) fault
      list_past fault (inl memory) = inl memory
      list_past fault (inr large) = inr (
        large.0,
        elim large.1 [
          | inl d ↦ inl (omega (arith, depth-front (i + 1), depth-more))
          | inr s ↦ inr (omega (arith, nodes-front (i + 1), nodes-more, so_far))
        ],
      )

      pub list_more : (built built' : List Open) (u : Open) (left : ℕ) → built ≡ map (type_under es) (take i ts) → levels_of_opens (types_under es (opens_of (take i ts))) ≤ levels
          → (u ≡ type_under es t) × IsWithin levels now left u → built' ≡ built ++ u ∷ []
          → (built' ≡ map (type_under es) (take (i + 1) ts)) × (left + opens_node_count (types_under es (opens_of (take (i + 1) ts))) ≡ room) × (levels_of_opens (types_under es (opens_of (take (i + 1) ts))) ≤ levels)
      list_more built built' u left done shallow h pushed = (
        pushed ∙ ap (λ (us : List Open). us ++ u ∷ []) done ∙ ap (λ (v : Open). map (type_under es) (take i ts) ++ v ∷ []) (h.0 ∙ ap (type_under es) is) ∙ sym (map_more (type_under es) ts i t within),
        omega (arith, nodes-more, so_far, h.1.0, ap open_node_count h.0),
        omega (arith, depth-more, shallow, h.1.1, ap levels_of_open h.0),
      )

  pub list_ends : (ts built : List Open) (i : ℕ) (levels room left : ℕ) → length ts ≤ i → built ≡ map (type_under es) (take i ts) → left + opens_node_count (types_under es (opens_of (take i ts))) ≡ room
      → levels_of_opens (types_under es (opens_of (take i ts))) ≤ levels → (opens_of built ≡ types_under es (opens_of ts)) × AreWithin levels room left (opens_of built)
  list_ends ts built i levels room left end done filled shallow =
      let whole : take i ts ≡ ts = take_all i ts end in
      let made : opens_of built ≡ types_under es (opens_of ts) = ap opens_of (done ∙ ap (map (type_under es)) whole) ∙ opens_of-under ts in (
        made,
        (
          omega (arith, filled, ap opens_node_count made, ap (λ (us : List Open). opens_node_count (types_under es (opens_of us))) whole),
          omega (arith, shallow, ap levels_of_opens made, ap (λ (us : List Open). levels_of_opens (types_under es (opens_of us))) whole),
        ),
      )

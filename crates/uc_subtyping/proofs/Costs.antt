-- What solving costs: existentials that are unsolved.
use Rattle.std.proofs.Common.{◌≡◌, ℕ, zero, suc, ◌+◌, ◌<◌, ◌≤◌, Bool, true, false, List, [], ◌∷◌, ◌++◌, map, length, arith, refl, sym, ap, subst, ◌∙◌, inl, inr, ◌⊎◌}
use Rattle.std.specs.List.{list_any}
use Rattle.std.proofs.lemmas.Bool.{and_parts}
use Rattle.uc_context.specs.declared.entry.Entry.{Entry}
use Rattle.uc_context.specs.declared.entry.Entry.TheVariants.{Rigid, Exists, Solved, Mark}
use Rattle.uc_context.specs.Opens.{Open, rigid, existential, quantified, arrow, tuple, applied, Opens, none, more, opens_of}
use Rattle.uc_context.specs.Contexts.{type_under}
use Rattle.uc_context.specs.Entries.{ContextEntries, is_unsolved, declares, before, dropped_from}
use Rattle.uc_context.specs.Fresh.{fresh_numbers}
use Rattle.uc_context.specs.Variables.{opened_at, is_monotype, has_variables}
use Rattle.uc_subtyping.specs.declared.side.Side.{Side}
use Rattle.uc_subtyping.specs.Instances.{Instances, no_instances, instance, other, all_at, opens_count}
use Rattle.uc_subtyping.specs.Instantiation.{is_after, SolvesInstance, SolvesInstances, instance_solved, instance_reached, instance_arrow, instance_tuple, instance_data, instance_below_quantified, instance_above_quantified, instance_ill, instances_done, instances_next, instances_refused, instances_large}
use Rattle.uc_subtyping.specs.InHand.{SolvesByMonotypes}
use Rattle.uc_subtyping.specs.Outcomes.{Outcome, done, refused, Refusal, without}
use Rattle.uc_subtyping.specs.Subtyping.{SolvesSubtype, SolvesSubtypes, subtype_right, subtype_left, subtype_rigid, subtype_existential, subtype_unit, subtype_arrow, subtype_tuple, subtype_data, subtype_below, subtype_above, subtype_ill, subtypes_done, subtypes_next, subtypes_refused, subtypes_large}
use Rattle.uc_subtyping.proofs.Arms.{fresh_numbers-length}
use Rattle.uc_subtyping.proofs.Counting.{quantifiers, quantifiers_of, unsolved_count, monotype-none, quantifiers-under, quantifiers-opened, unsolved-append, unsolved-with, unsolved-exchanged, unsolved-dropped}
use Rattle.uc_subtyping.proofs.Extending.{extends-monotypes, extends-solved, extends-solved_with}
use Rattle.uc_subtyping.proofs.InstancesTurn.{done_is, CutFrom, cut_from}
use Rattle.uc_subtyping.proofs.Monotypes.{monotypes-append, monotypes-dropped}
use Rattle.uc_subtyping.proofs.SolvingWith.{mono_list}

-- a context is left in which so many more existentials are unsolved, or fewer by some
pub record Costs (es fs : ContextEntries) (less plus : ℕ) : Type 0 where
  pub monotypes : SolvesByMonotypes fs
  pub count : unsolved_count fs + less ≤ unsolved_count es + plus

instance_count : Instances → ℕ
instance_count no_instances = 0
instance_count (instance s n t rest) = instance_count rest + 1

instance_quantifiers : Instances → ℕ
instance_quantifiers no_instances = 0
instance_quantifiers (instance s n t rest) = quantifiers t + instance_quantifiers rest

costs-cut : (d : Entry) (es gs fs : ContextEntries) (less plus : ℕ) → dropped_from d gs ≡ fs → Costs es gs less plus → Costs es fs less plus
costs-cut d es gs fs less plus is c = subst (λ (cs : ContextEntries). Costs es cs less plus) is (record { monotypes = monotypes-dropped d gs c.monotypes; count = omega (arith, c.count, unsolved-dropped d gs) })

count_at : (s : Side) (ns : List ℕ) (ts : Opens) → length ns ≡ opens_count ts → instance_count (all_at s ns ts) ≡ length ns
unfolding instance_count
count_at s [] ts h = refl
count_at s (n ∷ ns) none h = absurd (omega (arith, h))
count_at s (n ∷ ns) (more t ts) h = omega (arith, count_at s ns ts (omega (arith, h)))

quantifiers_at : (s : Side) (ns : List ℕ) (ts : Opens) → length ns ≡ opens_count ts → instance_quantifiers (all_at s ns ts) ≡ quantifiers_of ts
unfolding instance_quantifiers
quantifiers_at s [] none h = refl
quantifiers_at s [] (more t ts) h = absurd (omega (arith, h))
quantifiers_at s (n ∷ ns) none h = absurd (omega (arith, h))
quantifiers_at s (n ∷ ns) (more t ts) h = omega (arith, quantifiers_at s ns ts (omega (arith, h)))

mutual
  unfolding instance_count instance_quantifiers

  pub instance_costs : {s : Side} {es : ContextEntries} {x : ℕ} {t : Open} {o : Outcome} → SolvesInstance s es x t o → (fs : ContextEntries) → o ≡ done fs → SolvesByMonotypes es → Costs es fs 1 (quantifiers t)
  instance_costs {es = es} {x = x} {t = t} (instance_solved {fs = ds} u c is) fs e h =
      let p = and_parts (is_monotype t) (has_variables (before x es) t) c in
      subst (λ (cs : ContextEntries). Costs es cs 1 (quantifiers t)) (sym is ∙ done_is ds fs e) (record {
        monotypes = extends-monotypes (extends-solved es x t p.0) h;
        count = omega (arith, unsolved-exchanged x (Solved x t ∷ []) es u);
      })
  instance_costs {es = es} {x = x} (instance_reached {fs = ds} {y = y} u c after is) fs e h =
      let p = and_parts (list_any (is_unsolved y) es) (list_any (declares x) (before y es)) after in
      subst (λ (cs : ContextEntries). Costs es cs 1 0) (sym is ∙ done_is ds fs e) (record {
        monotypes = extends-monotypes (extends-solved es y (existential x) refl) h;
        count = omega (arith, unsolved-exchanged y (Solved y (existential x) ∷ []) es p.0);
      })
  instance_costs {s = s} {es = es} {x = x} (instance_arrow {argument = m} {result = n} {a = a} {b = b} u c fresh d) fs e h =
      let k = instances_cost d fs e (extends-monotypes (extends-solved_with es x (n ∷ m ∷ []) (arrow (existential m) (existential n)) refl) h) in
      record { monotypes = k.monotypes; count = omega (arith, k.count, unsolved-exchanged x (Exists n ∷ Exists m ∷ Solved x (arrow (existential m) (existential n)) ∷ []) es u) }
  instance_costs {s = s} {es = es} {x = x} (instance_tuple {numbers = ns} {ts = ts} u c fresh d) fs e h =
      let k = instances_cost d fs e (extends-monotypes (extends-solved_with es x ns (tuple (opens_of (map (λ n. existential n) ns))) (mono_list ns)) h) in
      let l : length ns ≡ opens_count ts = ap length fresh ∙ fresh_numbers-length (opens_count ts) es in
      record {
        monotypes = k.monotypes;
        count = omega (
          arith,
          k.count,
          count_at s ns ts l,
          quantifiers_at s ns ts l,
          unsolved-exchanged x (map (λ n. Exists n) ns ++ Solved x (tuple (opens_of (map (λ n. existential n) ns))) ∷ []) es u,
          unsolved-with ns x (tuple (opens_of (map (λ n. existential n) ns))),
        );
      }
  instance_costs {s = s} {es = es} {x = x} (instance_data {numbers = ns} {h = hd} {ts = ts} u c fresh d) fs e h =
      let k = instances_cost d fs e (extends-monotypes (extends-solved_with es x ns (applied hd (opens_of (map (λ n. existential n) ns))) (mono_list ns)) h) in
      let l : length ns ≡ opens_count ts = ap length fresh ∙ fresh_numbers-length (opens_count ts) es in
      record {
        monotypes = k.monotypes;
        count = omega (
          arith,
          k.count,
          count_at s ns ts l,
          quantifiers_at s ns ts l,
          unsolved-exchanged x (map (λ n. Exists n) ns ++ Solved x (applied hd (opens_of (map (λ n. existential n) ns))) ∷ []) es u,
          unsolved-with ns x (applied hd (opens_of (map (λ n. existential n) ns))),
        );
      }
  instance_costs {es = es} {x = x} (instance_below_quantified {n = n} {t = b} {o = o} {p = p} u fresh d is) fs e h =
      let c : CutFrom (Rigid n) o fs = cut_from (Rigid n) o p fs is e in
      let k = instance_costs d c.whole c.is (monotypes-append es (Rigid n ∷ []) h tt) in
      costs-cut (Rigid n) es c.whole fs 1 (quantifiers b + 1) c.cut (record { monotypes = k.monotypes; count = omega (arith, k.count, unsolved-append es (Rigid n ∷ []), quantifiers-opened (rigid n) refl 0 b) })
  instance_costs {es = es} {x = x} (instance_above_quantified {n = n} {t = b} {o = o} {p = p} u fresh d is) fs e h =
      let c : CutFrom (Mark n) o fs = cut_from (Mark n) o p fs is e in
      let k = instance_costs d c.whole c.is (monotypes-append es (Mark n ∷ Exists n ∷ []) h tt) in
      costs-cut (Mark n) es c.whole fs 1 (quantifiers b + 1) c.cut (record { monotypes = k.monotypes; count = omega (arith, k.count, unsolved-append es (Mark n ∷ Exists n ∷ []), quantifiers-opened (existential n) refl 0 b) })
  instance_costs (instance_ill c) fs e h = absurd cc

  instances_cost : {es : ContextEntries} {is : Instances} {o : Outcome} → SolvesInstances es is o → (fs : ContextEntries) → o ≡ done fs → SolvesByMonotypes es → Costs es fs (instance_count is) (instance_quantifiers is)
  instances_cost {es = es} instances_done fs e h = subst (λ (cs : ContextEntries). Costs es cs 0 0) (done_is es fs e) (record { monotypes = h; count = omega arith })
  instances_cost {es = es} (instances_next {s = s} {fs = ds} {x = n} {t = t} {rest = rest} small d l) fs e h =
      let j = instance_costs d ds refl h in
      let k = instances_cost l fs e j.monotypes in
      record { monotypes = k.monotypes; count = omega (arith, j.count, k.count, quantifiers-under es t h) }
  instances_cost (instances_refused small d) fs e h = absurd cc
  instances_cost (instances_large small) fs e h = absurd cc

-- a subtyping between types with so many quantifiers leaves no more unsolved existentials than those; where there are none it leaves the context, or fewer
pub record Spends (es fs : ContextEntries) (q : ℕ) : Type 0 where
  pub monotypes : SolvesByMonotypes fs
  pub count : unsolved_count fs ≤ unsolved_count es + q
  pub flat : q ≡ 0 → (fs ≡ es) ⊎ (unsolved_count fs < unsolved_count es)

spends-none : (es fs : ContextEntries) (q : ℕ) → es ≡ fs → SolvesByMonotypes es → Spends es fs q
spends-none es fs q is h = subst (λ (cs : ContextEntries). Spends es cs q) is (record { monotypes = h; count = omega arith; flat = λ z. inl refl })

spends-instance : (es fs : ContextEntries) (q r : ℕ) → q ≡ r → Costs es fs 1 q → Spends es fs r
spends-instance es fs q r is c = record { monotypes = c.monotypes; count = omega (arith, c.count); flat = λ z. inr (omega (arith, c.count)) }

spends-then : (es fs gs : ContextEntries) (q r p : ℕ) → q + r ≡ p → Spends es fs q → Spends fs gs r → Spends es gs p
spends-then es fs gs q r p is a b = record {
  monotypes = b.monotypes;
  count = omega (arith, a.count, b.count);
  flat = λ z. both (a.flat (omega (arith, is))) (b.flat (omega (arith, is)));
}
  where
    both : (fs ≡ es) ⊎ (unsolved_count fs < unsolved_count es) → (gs ≡ fs) ⊎ (unsolved_count gs < unsolved_count fs) → (gs ≡ es) ⊎ (unsolved_count gs < unsolved_count es)
    both (inl e) (inl f) = inl (f ∙ e)
    both (inl e) (inr f) = inr (omega (arith, ap unsolved_count e))
    both (inr e) (inl f) = inr (omega (arith, ap unsolved_count f))
    both (inr e) (inr f) = inr (omega arith)

spends-cut : (d : Entry) (es gs fs : ContextEntries) (plus : ℕ) → dropped_from d gs ≡ fs → SolvesByMonotypes gs → unsolved_count gs ≤ unsolved_count es + plus + 1 → Spends es fs (plus + 1)
spends-cut d es gs fs plus is h c = subst (λ (cs : ContextEntries). Spends es cs (plus + 1)) is (record { monotypes = monotypes-dropped d gs h; count = omega (arith, c, unsolved-dropped d gs); flat = λ z. absurd (omega arith) })

mutual
  pub subtype_spends : {es : ContextEntries} {a b : Open} {o : Outcome} → SolvesSubtype es a b o → (fs : ContextEntries) → o ≡ done fs → SolvesByMonotypes es → Spends es fs (quantifiers a + quantifiers b)
  subtype_spends {es = es} {a = a} (subtype_right {n = n} {b = b} {o = o} {p = p} fresh d is) fs e h =
      let c : CutFrom (Rigid n) o fs = cut_from (Rigid n) o p fs is e in
      let k = subtype_spends d c.whole c.is (monotypes-append es (Rigid n ∷ []) h tt) in
      let same : quantifiers a + quantifiers b + 1 ≡ quantifiers a + (quantifiers b + 1) = omega arith in
      subst (Spends es fs) same (spends-cut (Rigid n) es c.whole fs (quantifiers a + quantifiers b) c.cut k.monotypes (omega (arith, k.count, unsolved-append es (Rigid n ∷ []), quantifiers-opened (rigid n) refl 0 b)))
  subtype_spends {es = es} {b = b} (subtype_left {n = n} {a = a} {o = o} {p = p} plain fresh d is) fs e h =
      let c : CutFrom (Mark n) o fs = cut_from (Mark n) o p fs is e in
      let k = subtype_spends d c.whole c.is (monotypes-append es (Mark n ∷ Exists n ∷ []) h tt) in
      let same : quantifiers a + quantifiers b + 1 ≡ quantifiers a + 1 + quantifiers b = omega arith in
      subst (Spends es fs) same (spends-cut (Mark n) es c.whole fs (quantifiers a + quantifiers b) c.cut k.monotypes (omega (arith, k.count, unsolved-append es (Mark n ∷ Exists n ∷ []), quantifiers-opened (existential n) refl 0 a)))
  subtype_spends {es = es} subtype_rigid fs e h = spends-none es fs 0 (done_is es fs e) h
  subtype_spends {es = es} subtype_existential fs e h = spends-none es fs 0 (done_is es fs e) h
  subtype_spends {es = es} subtype_unit fs e h = spends-none es fs 0 (done_is es fs e) h
  subtype_spends {es = es} (subtype_arrow {a = a} {b = b} {c = c} {d = d} l) fs e h =
      let same : quantifiers c + (quantifiers b + 0) + (quantifiers a + (quantifiers d + 0)) ≡ quantifiers a + quantifiers b + (quantifiers c + quantifiers d) = omega arith in
      subst (Spends es fs) same (subtypes_spend l fs e h)
  subtype_spends (subtype_tuple n l) fs e h = subtypes_spend l fs e h
  subtype_spends (subtype_data n l) fs e h = subtypes_spend l fs e h
  subtype_spends {es = es} (subtype_below {x = x} {b = b} plain apart d) fs e h = spends-instance es fs (quantifiers b) (0 + quantifiers b) (omega arith) (instance_costs d fs e h)
  subtype_spends {es = es} (subtype_above {y = y} {a = a} plain other apart d) fs e h = spends-instance es fs (quantifiers a) (quantifiers a + 0) (omega arith) (instance_costs d fs e h)
  subtype_spends (subtype_ill p q r) fs e h = absurd cc

  subtypes_spend : {es : ContextEntries} {ts us : Opens} {o : Outcome} → SolvesSubtypes es ts us o → (fs : ContextEntries) → o ≡ done fs → SolvesByMonotypes es → Spends es fs (quantifiers_of ts + quantifiers_of us)
  subtypes_spend {es = es} subtypes_done fs e h = spends-none es fs 0 (done_is es fs e) h
  subtypes_spend {es = es} (subtypes_next {fs = ds} {t = t} {u = u} {ts = ts} {us = us} small d l) fs e h =
      let j = subtype_spends d ds refl h in
      let k = subtypes_spend l fs e j.monotypes in
      spends-then es ds fs (quantifiers (type_under es t) + quantifiers (type_under es u)) (quantifiers_of ts + quantifiers_of us) (quantifiers t + quantifiers_of ts + (quantifiers u + quantifiers_of us)) (omega (arith, quantifiers-under es t h, quantifiers-under es u h)) j k
  subtypes_spend (subtypes_refused small d) fs e h = absurd cc
  subtypes_spend (subtypes_large small) fs e h = absurd cc

-- What becomes of a context where types become subtypes.
use Rattle.std.proofs.Common.{◌≡◌, ℕ, Bool, true, false, [], ◌∷◌, ◌++◌, refl, sym, ap, subst, ◌∙◌}
use Rattle.std.specs.List.{list_any}
use Rattle.std.proofs.lemmas.Bool.{or_left, or_right, and_parts, and_from, eqb-true}
use Rattle.std.proofs.lemmas.List.Folds.{list_any-append}
use Rattle.uc_tree.specs.declared.target.Target.{Target}
use Rattle.uc_context.specs.declared.entry.Entry.{Entry}
use Rattle.uc_context.specs.declared.entry.Entry.TheVariants.{Rigid, Exists, Mark}
use Rattle.uc_context.specs.Opens.{Open, rigid, existential, quantified, arrow, tuple, applied, Opens, none, more}
use Rattle.uc_context.specs.Contexts.{IsContext, type_under, types_under}
use Rattle.uc_context.specs.Entries.{ContextEntries, is_rigid, is_unsolved, declares, dropped_from}
use Rattle.uc_context.specs.Variables.{mentions, has_variables, has_variables_of}
use Rattle.uc_context.proofs.Under.{under-tuple, under-applied}
use Rattle.uc_subtyping.specs.Outcomes.{Outcome, done, refused, Refusal}
use Rattle.uc_subtyping.specs.Subtyping.{SolvesSubtype, SolvesSubtypes, subtype_right, subtype_left, subtype_rigid, subtype_existential, subtype_unit, subtype_arrow, subtype_tuple, subtype_data, subtype_below, subtype_above, subtype_ill, subtypes_done, subtypes_next, subtypes_refused, subtypes_large}
use Rattle.uc_subtyping.proofs.Absorbing.{absorb}
use Rattle.uc_subtyping.proofs.Extending.{extends-refl, extends-trans}
use Rattle.uc_subtyping.proofs.InOrder.{fresh_unused, in_order_rigid, in_order_exists}
use Rattle.uc_subtyping.proofs.InstancesTurn.{done_is, CutFrom, cut_from, instance_turns}
use Rattle.uc_subtyping.proofs.Instantiated.{turns-rigid, turns-mark, settled-rigid, settled-exists}
use Rattle.uc_subtyping.proofs.Ready.{Other, known_through}
use Rattle.uc_subtyping.proofs.Scoped.{up_to, self_up_to}
use Rattle.uc_subtyping.proofs.Settled.{Settled, settled-same, settled-under, settled-part, known-more, unsolved_declared, unsolved_stays}
use Rattle.uc_subtyping.proofs.Turning.{Turns, extends-declares, turned_known}

-- nothing is said of where existentials go
abbrev pub Never : ℕ → Type 0
Never w = ⊥

pub goes : (apart : ℕ → Type 0) (es fs : ContextEntries) → Turns apart es fs → Turns Never es fs
goes apart es fs turn = record { extends = turn.extends; order = turn.order; moves = λ y u a. absurd a; known = turn.known }

goes-same : (es fs : ContextEntries) → IsContext es → es ≡ fs → Turns Never es fs
goes-same es fs order is =
    subst (Turns Never es) is (record {
      extends = extends-refl es;
      order = order;
      moves = λ y u a. absurd a;
      known = λ y u. ap (has_variables (up_to y es)) (unsolved_stays y es order u) ∙ self_up_to y es;
    })

pub goes-then : (es fs gs : ContextEntries) → Turns Never es fs → Turns Never fs gs → Turns Never es gs
goes-then es fs gs first second = record {
  extends = extends-trans first.extends second.extends;
  order = second.order;
  moves = λ y u a. absurd a;
  known = λ y u. known_through Never fs gs first.order second y (extends-declares es fs first.extends y (unsolved_declared y es u)) (first.known y u);
}

there : (test : Entry → Bool) (es ds : ContextEntries) → list_any test es ≡ true → list_any test (es ++ ds) ≡ true
there test es ds h = list_any-append test es ds ∙ or_left (list_any test es) (list_any test ds) h

pub settled-more : (es ds : ContextEntries) (t : Open) → Settled es t → Settled (es ++ ds) t
settled-more es ds t s = record {
  known = known-more es (es ++ ds) (λ y h. there (is_rigid y) es ds h) (λ y h. there (declares y) es ds h) t s.known;
  unsolved = λ y m. there (is_unsolved y) es ds (s.unsolved y m);
}

pub settled-left : (es : ContextEntries) (a b : Open) → Settled es (arrow a b) → Settled es a
settled-left es a b s = settled-part es (arrow a b) a s (and_parts (has_variables es a) (has_variables es b) s.known).0 (λ y m. or_left (mentions y a) (mentions y b) m)

pub settled-right : (es : ContextEntries) (a b : Open) → Settled es (arrow a b) → Settled es b
settled-right es a b s = settled-part es (arrow a b) b s (and_parts (has_variables es a) (has_variables es b) s.known).1 (λ y m. or_right (mentions y a) (mentions y b) m)

-- variables of types with the solutions put in
pub pair_known : (es : ContextEntries) (a b : Open) → IsContext es → Settled es a → Settled es b → has_variables_of es (types_under es (more a (more b none))) ≡ true
pair_known es a b order s r =
    and_from (has_variables es (type_under es a)) (has_variables_of es (types_under es (more b none))) (ap (has_variables es) (settled-same es order a s) ∙ s.known)
    (and_from (has_variables es (type_under es b)) true (ap (has_variables es) (settled-same es order b r) ∙ r.known) refl)

pub tuple_known : (es : ContextEntries) (ts : Opens) → IsContext es → Settled es (tuple ts) → has_variables_of es (types_under es ts) ≡ true
tuple_known es ts order s = ap (has_variables es) (sym (under-tuple es ts) ∙ settled-same es order (tuple ts) s) ∙ s.known

pub data_known : (es : ContextEntries) (h : Target) (ts : Opens) → IsContext es → Settled es (applied h ts) → has_variables_of es (types_under es ts) ≡ true
data_known es h ts order s = ap (has_variables es) (sym (under-applied es h ts) ∙ settled-same es order (applied h ts) s) ∙ s.known

pub known_rest : (es fs : ContextEntries) → IsContext es → Turns Never es fs → (ts : Opens) → has_variables_of es (types_under es ts) ≡ true → has_variables_of fs (types_under fs ts) ≡ true
known_rest es fs order turn none k = refl
known_rest es fs order turn (more t ts) k =
    let p = and_parts (has_variables es (type_under es t)) (has_variables_of es (types_under es ts)) k in
    and_from (has_variables fs (type_under fs t)) (has_variables_of fs (types_under fs ts))
    (ap (has_variables fs) (sym (absorb es fs turn.extends turn.order t)) ∙ turned_known Never es fs turn (type_under es t) (settled-under es order t p.0)) (known_rest es fs order turn ts p.1)

mutual
  pub subtype_goes : {es : ContextEntries} {a b : Open} {o : Outcome} → SolvesSubtype es a b o → (fs : ContextEntries) → o ≡ done fs → IsContext es → Settled es a → Settled es b → Turns Never es fs
  subtype_goes {es = es} {a = a} (subtype_right {n = n} {b = b} {o = o} {p = p} fresh d is) fs e order s r =
      let c : CutFrom (Rigid n) o fs = cut_from (Rigid n) o p fs is e in
      subst (Turns Never es) c.cut (turns-rigid Never es c.whole n
      (subtype_goes d c.whole c.is (in_order_rigid es n order (fresh_unused es n fresh)) (settled-more es (Rigid n ∷ []) a s) (settled-rigid es n b (record { known = r.known; unsolved = r.unsolved }))))
  subtype_goes {es = es} {b = b} (subtype_left {n = n} {a = a} {o = o} {p = p} plain fresh d is) fs e order s r =
      let c : CutFrom (Mark n) o fs = cut_from (Mark n) o p fs is e in
      subst (Turns Never es) c.cut (turns-mark Never es c.whole n
      (subtype_goes d c.whole c.is (in_order_exists es n order (fresh_unused es n fresh)) (settled-exists es n a (record { known = s.known; unsolved = s.unsolved })) (settled-more es (Mark n ∷ Exists n ∷ []) b r)))
  subtype_goes {es = es} subtype_rigid fs e order s r = goes-same es fs order (done_is es fs e)
  subtype_goes {es = es} subtype_existential fs e order s r = goes-same es fs order (done_is es fs e)
  subtype_goes {es = es} subtype_unit fs e order s r = goes-same es fs order (done_is es fs e)
  subtype_goes {es = es} (subtype_arrow {a = a} {b = b} {c = c} {d = d} l) fs e order s r =
      subtypes_go l fs e order (pair_known es c b order (settled-left es c d r) (settled-right es a b s)) (pair_known es a d order (settled-left es a b s) (settled-right es c d r))
  subtype_goes {es = es} (subtype_tuple {ts = ts} {us = us} n l) fs e order s r = subtypes_go l fs e order (tuple_known es ts order s) (tuple_known es us order r)
  subtype_goes {es = es} (subtype_data {h = h} {ts = ts} {us = us} n l) fs e order s r = subtypes_go l fs e order (data_known es h ts order s) (data_known es h us order r)
  subtype_goes {es = es} (subtype_below {x = x} {b = b} plain apart d) fs e order s r = goes (Other x) es fs (instance_turns d fs e order r apart)
  subtype_goes {es = es} (subtype_above {y = y} {a = a} plain other apart d) fs e order s r = goes (Other y) es fs (instance_turns d fs e order s apart)
  subtype_goes (subtype_ill p q n) fs e order s r = absurd cc

  pub subtypes_go : {es : ContextEntries} {ts us : Opens} {o : Outcome} → SolvesSubtypes es ts us o → (fs : ContextEntries) → o ≡ done fs → IsContext es → has_variables_of es (types_under es ts) ≡ true → has_variables_of es (types_under es us) ≡ true → Turns Never es fs
  subtypes_go {es = es} subtypes_done fs e order s r = goes-same es fs order (done_is es fs e)
  subtypes_go {es = es} (subtypes_next {fs = ds} {t = t} {u = u} {ts = ts} {us = us} small d l) fs e order s r =
      let p = and_parts (has_variables es (type_under es t)) (has_variables_of es (types_under es ts)) s in
      let q = and_parts (has_variables es (type_under es u)) (has_variables_of es (types_under es us)) r in
      let first : Turns Never es ds = subtype_goes d ds refl order (settled-under es order t p.0) (settled-under es order u q.0) in
      goes-then es ds fs first (subtypes_go l fs e first.order (known_rest es ds order first ts p.1) (known_rest es ds order first us q.1))
  subtypes_go (subtypes_refused small d) fs e order s r = absurd cc
  subtypes_go (subtypes_large small) fs e order s r = absurd cc

-- Each arm of subtyping is a rule.
use Rattle.std.proofs.Common.{◌≡◌, Box, Global, ℕ, zero, suc, ◌+◌, ◌*◌, ◌<◌, ◌≤◌, ◌^◌, Bool, true, false, eqb, List, [], ◌∷◌, ◌++◌, length, get_or, drop, arith, refl, sym, ap, subst, ◌∙◌, inl, inr}
use Rattle.std.proofs.lemmas.Bool.{ne_eqb, eqb-true, eq-eqb, false≢true}
use Rattle.std.proofs.lemmas.List.{drop_more, drop_all}
use Rattle.uc_base.specs.declared.fault.Fault.{Fault}
use Rattle.uc_tree.specs.declared.target.Target.{Target}
use Rattle.uc_context.specs.declared.open.Open as declared_open
use Rattle.uc_context.specs.declared.open.OpenNode.{OpenNode}
use Rattle.uc_context.specs.declared.open.OpenNode.TheVariants as node
use Rattle.uc_context.specs.OpenViews.{open_of}
use Rattle.uc_context.specs.declared.entry.Entry.{Entry}
use Rattle.uc_context.specs.declared.entry.Entry.TheVariants.{Rigid, Exists, Mark}
use Rattle.uc_context.specs.Opens.{Open, bound, rigid, existential, quantified, arrow, unit, tuple, applied, Opens, none, more, opens_of}
use Rattle.uc_context.specs.Contexts.{IsContext, type_under, types_under}
use Rattle.uc_context.specs.Counts.{open_node_count, opens_node_count, IsSmall}
use Rattle.uc_context.specs.Entries.{ContextEntries, dropped_from}
use Rattle.uc_context.specs.Fresh.{fresh_number}
use Rattle.uc_context.specs.Variables.{opened_at, mentions, has_variables, has_variables_of}
use Rattle.uc_context.proofs.Under.{under-tuple, under-applied}
use Rattle.uc_subtyping.specs.declared.side.Side.TheVariants.{Below, Above}
use Rattle.uc_subtyping.specs.Ends.{IsRefused}
use Rattle.uc_subtyping.specs.InHand.{IsInHand, SolvesByMonotypes}
use Rattle.uc_subtyping.specs.Instances.{opens_count}
use Rattle.uc_subtyping.specs.Instantiation.{SolvesInstance}
use Rattle.uc_subtyping.specs.Outcomes.{Outcome, done, refused, ill, Refusal, without}
use Rattle.uc_subtyping.specs.Subtyping.{is_quantified, is_existential, HasRule, SolvesSubtype, SolvesSubtypes, subtype_right, subtype_left, subtype_rigid, subtype_existential, subtype_unit, subtype_arrow, subtype_tuple, subtype_data, subtype_below, subtype_above, subtype_ill}
use Rattle.uc_subtyping.proofs.Arms.{opens_count-of}
use Rattle.uc_subtyping.proofs.Counting.{quantifiers, quantifiers_of, unsolved_count, quantifiers-opened, unsolved-append}
use Rattle.uc_subtyping.proofs.Falling.{weight, rank, types_rank, lists_rank, Falls}
use Rattle.uc_subtyping.proofs.InOrder.{fresh_unused, in_order_rigid, in_order_exists}
use Rattle.uc_subtyping.proofs.Opened.{nodes-opened}
use Rattle.uc_subtyping.proofs.Pairs.{PendingPairs}
use Rattle.uc_subtyping.proofs.Pending.{refused_as}
use Rattle.uc_subtyping.proofs.Settled.{Settled, settled-current, settled-same}
use Rattle.uc_subtyping.proofs.SubtypesGo.{settled-more, settled-left, settled-right, pair_known, tuple_known, data_known}

-- a type in hand is so behind new entries
module _ (es ds : ContextEntries) (n : ℕ) (t : Open) (order : IsContext es) (fresh : n ≡ fresh_number es) (hand : IsInHand es t) where
  still_settled : Settled es t
  still_settled = settled-current es order t hand.known hand.current

  pub in_hand_rigid : ds ≡ es ++ Rigid n ∷ [] → IsInHand ds t
  in_hand_rigid at =
      let s : Settled (es ++ Rigid n ∷ []) t = settled-more es (Rigid n ∷ []) t still_settled in
      subst (λ (cs : ContextEntries). IsInHand cs t) (sym at) (record { known = s.known; current = settled-same (es ++ Rigid n ∷ []) (in_order_rigid es n order (fresh_unused es n fresh)) t s; small = hand.small })

  pub in_hand_exists : ds ≡ es ++ Mark n ∷ Exists n ∷ [] → IsInHand ds t
  in_hand_exists at =
      let s : Settled (es ++ Mark n ∷ Exists n ∷ []) t = settled-more es (Mark n ∷ Exists n ∷ []) t still_settled in
      subst (λ (cs : ContextEntries). IsInHand cs t) (sym at) (record { known = s.known; current = settled-same (es ++ Mark n ∷ Exists n ∷ []) (in_order_exists es n order (fresh_unused es n fresh)) t s; small = hand.small })

-- quantified types
module _ (es ds : ContextEntries) (n : ℕ) (a b u : Open) (fresh : n ≡ fresh_number es) where
  pub right_ends : (o : Outcome) → ds ≡ es ++ Rigid n ∷ [] → u ≡ opened_at 0 (rigid n) b → SolvesSubtype ds a u o → SolvesSubtype es a (quantified b) (without (Rigid n) o)
  right_ends o at is d = subtype_right fresh (subst (λ (v : Open). SolvesSubtype (es ++ Rigid n ∷ []) a v o) is (subst (λ (cs : ContextEntries). SolvesSubtype cs a u o) at d)) refl

  pub right_refused : (fault : Fault) → ds ≡ es ++ Rigid n ∷ [] → u ≡ opened_at 0 (rigid n) b → IsRefused (SolvesSubtype ds a u) fault → IsRefused (SolvesSubtype es a (quantified b)) fault
  right_refused fault at is r = refused_as (SolvesSubtype ds a u) (SolvesSubtype es a (quantified b)) fault (λ why d. right_ends (refused why) at is d) r

  pub left_ends : (o : Outcome) → is_quantified b ≡ false → ds ≡ es ++ Mark n ∷ Exists n ∷ [] → u ≡ opened_at 0 (existential n) a → SolvesSubtype ds u b o → SolvesSubtype es (quantified a) b (without (Mark n) o)
  left_ends o plain at is d = subtype_left plain fresh (subst (λ (v : Open). SolvesSubtype (es ++ Mark n ∷ Exists n ∷ []) v b o) is (subst (λ (cs : ContextEntries). SolvesSubtype cs u b o) at d)) refl

  pub left_refused : (fault : Fault) → is_quantified b ≡ false → ds ≡ es ++ Mark n ∷ Exists n ∷ [] → u ≡ opened_at 0 (existential n) a → IsRefused (SolvesSubtype ds u b) fault → IsRefused (SolvesSubtype es (quantified a) b) fault
  left_refused fault plain at is r = refused_as (SolvesSubtype ds u b) (SolvesSubtype es (quantified a) b) fault (λ why d. left_ends (refused why) plain at is d) r

  -- and what falls
  pub right_falls : ds ≡ es ++ Rigid n ∷ [] → u ≡ opened_at 0 (rigid n) b → IsSmall a → IsSmall u → types_rank ds a u + 3 < rank (weight es (quantifiers a + quantifiers b) + 1) (8 * (open_node_count a + open_node_count b)) + 4
  right_falls at is small tiny =
      let p = small.nodes in
      let q = tiny.nodes in
      omega (arith, p, q, ap unsolved_count at ∙ unsolved-append es (Rigid n ∷ []), ap quantifiers is ∙ quantifiers-opened (rigid n) refl 0 b)

  pub left_falls : ds ≡ es ++ Mark n ∷ Exists n ∷ [] → u ≡ opened_at 0 (existential n) a → types_rank ds u b + 3 < rank (weight es (quantifiers a + quantifiers b) + 1) (8 * (open_node_count a + open_node_count b)) + 4
  left_falls at is =
      omega (arith, ap unsolved_count at ∙ unsolved-append es (Mark n ∷ Exists n ∷ []), ap quantifiers is ∙ quantifiers-opened (existential n) refl 0 a, ap open_node_count is ∙ nodes-opened (existential n) refl 0 a)

-- rules by form
module _ (es : ContextEntries) (a b : Open) (rule : HasRule a b) where
  rule_as : (v w : Open) → a ≡ v → b ≡ w → HasRule v w
  rule_as v w is at = subst (λ (c : Open). HasRule c w) is (subst (HasRule a) at rule)

  subtype_as : (v w : Open) (o : Outcome) → a ≡ v → b ≡ w → SolvesSubtype es v w o → SolvesSubtype es a b o
  subtype_as v w o is at d = subst (λ (c : Open). SolvesSubtype es c b o) (sym is) (subst (λ (c : Open). SolvesSubtype es v c o) (sym at) d)

  pub by_existential : (x y : ℕ) → a ≡ existential x → b ≡ existential y → x ≡ y → SolvesSubtype es a b (done es)
  by_existential x y is at same = subtype_as (existential x) (existential x) (done es) is (at ∙ ap existential (sym same)) subtype_existential

  pub by_rigid : (x y : ℕ) → a ≡ rigid x → b ≡ rigid y → SolvesSubtype es a b (done es)
  by_rigid x y is at = let same : x ≡ y = rule_as (rigid x) (rigid y) is at in subtype_as (rigid x) (rigid x) (done es) is (at ∙ ap rigid (sym same)) subtype_rigid

  pub by_unit : a ≡ unit → b ≡ unit → SolvesSubtype es a b (done es)
  by_unit is at = subtype_as unit unit (done es) is at subtype_unit

  pub by_arrow : (c d f g : Open) (o : Outcome) → a ≡ arrow c d → b ≡ arrow f g → SolvesSubtypes es (more f (more d none)) (more c (more g none)) o → SolvesSubtype es a b o
  by_arrow c d f g o is at l = subtype_as (arrow c d) (arrow f g) o is at (subtype_arrow l)

  pub tuple_count : (ts us : Opens) → a ≡ tuple ts → b ≡ tuple us → opens_count ts ≡ opens_count us
  tuple_count ts us is at = rule_as (tuple ts) (tuple us) is at

  pub by_tuple : (ts us : Opens) (o : Outcome) → a ≡ tuple ts → b ≡ tuple us → SolvesSubtypes es ts us o → SolvesSubtype es a b o
  by_tuple ts us o is at l = subtype_as (tuple ts) (tuple us) o is at (subtype_tuple (tuple_count ts us is at) l)

  pub data_count : (h k : Target) (ts us : Opens) → a ≡ applied h ts → b ≡ applied k us → opens_count ts ≡ opens_count us
  data_count h k ts us is at = let r : (h ≡ k) × (opens_count ts ≡ opens_count us) = rule_as (applied h ts) (applied k us) is at in r.1

  pub by_data : (h k : Target) (ts us : Opens) (o : Outcome) → a ≡ applied h ts → b ≡ applied k us → SolvesSubtypes es ts us o → SolvesSubtype es a b o
  by_data h k ts us o is at l =
      let r : (h ≡ k) × (opens_count ts ≡ opens_count us) = rule_as (applied h ts) (applied k us) is at in
      subtype_as (applied h ts) (applied h us) o is (at ∙ ap (λ (j : Target). applied j us) (sym r.0)) (subtype_data r.1 l)

-- an existential on one side
apart_below : (x : ℕ) (b : Open) → HasRule (existential x) b → ((y : ℕ) → b ≡ existential y → x ≡ y → ⊥) → mentions x b ≡ false
apart_below x (bound i) r other = r
apart_below x (rigid y) r other = r
apart_below x (existential y) r other = ne_eqb y x (λ same. other y refl (sym same))
apart_below x (quantified t) r other = r
apart_below x (arrow c d) r other = r
apart_below x unit r other = r
apart_below x (tuple ts) r other = r
apart_below x (applied h ts) r other = r

apart_above : (y : ℕ) (a : Open) → HasRule a (existential y) → is_existential a ≡ false → mentions y a ≡ false
apart_above y (bound i) r other = r
apart_above y (rigid x) r other = r
apart_above y (existential x) r other = absurd (false≢true (sym other))
apart_above y (quantified t) r other = r
apart_above y (arrow c d) r other = r
apart_above y unit r other = r
apart_above y (tuple ts) r other = r
apart_above y (applied h ts) r other = r

module _ (es : ContextEntries) (a b : Open) (rule : HasRule a b) where
  pub below_apart : (x : ℕ) → a ≡ existential x → ((y : ℕ) → b ≡ existential y → x ≡ y → ⊥) → mentions x b ≡ false
  below_apart x is other = apart_below x b (subst (λ (c : Open). HasRule c b) is rule) other

  pub above_apart : (y : ℕ) → b ≡ existential y → is_existential a ≡ false → mentions y a ≡ false
  above_apart y at other = apart_above y a (subst (HasRule a) at rule) other

  pub by_below : (x : ℕ) (o : Outcome) → a ≡ existential x → is_quantified b ≡ false → mentions x b ≡ false → SolvesInstance Below es x b o → SolvesSubtype es a b o
  by_below x o is plain apart d = subst (λ (c : Open). SolvesSubtype es c b o) (sym is) (subtype_below plain apart d)

  pub by_above : (y : ℕ) (o : Outcome) → b ≡ existential y → is_quantified a ≡ false → is_existential a ≡ false → mentions y a ≡ false → SolvesInstance Above es y a o → SolvesSubtype es a b o
  by_above y o at plain other apart d = subst (λ (c : Open). SolvesSubtype es a c o) (sym at) (subtype_above plain other apart d)

-- the parts of two arrows
module _ (es : ContextEntries) (a b c d f g : Open) (mono : SolvesByMonotypes es) (order : IsContext es) (left : IsInHand es a) (right : IsInHand es b) (rule : HasRule a b) (is : a ≡ arrow c d) (at : b ≡ arrow f g) where
  arrow_left : Settled es (arrow c d)
  arrow_left = subst (Settled es) is (settled-current es order a left.known left.current)

  arrow_right : Settled es (arrow f g)
  arrow_right = subst (Settled es) at (settled-current es order b right.known right.current)

  pub arrow_pairs : PendingPairs (SolvesSubtype es a b) es (weight es (quantifiers a + quantifiers b)) es (more f (more d none)) (more c (more g none))
  arrow_pairs = record {
    monotypes = mono;
    in_order = order;
    lower = pair_known es f d order (settled-left es f g arrow_right) (settled-right es c d arrow_left);
    upper = pair_known es c g order (settled-left es c d arrow_left) (settled-right es f g arrow_right);
    ends = λ o l. by_arrow es a b rule c d f g o is at l;
    falls = inl refl;
    enough = omega (arith, ap quantifiers is, ap quantifiers at);
  }

  pub argument_left : type_under es c ≡ c
  argument_left = settled-same es order c (settled-left es c d arrow_left)

  pub result_left : type_under es d ≡ d
  result_left = settled-same es order d (settled-right es c d arrow_left)

  pub argument_right : type_under es f ≡ f
  argument_right = settled-same es order f (settled-left es f g arrow_right)

  pub result_right : type_under es g ≡ g
  result_right = settled-same es order g (settled-right es f g arrow_right)

  pub arrow_room : rank (weight es (quantifiers a + quantifiers b)) (8 * (open_node_count c + open_node_count d + open_node_count f + open_node_count g)) + 6 ≤ types_rank es a b + 2
  arrow_room = omega (arith, ap open_node_count is, ap open_node_count at)

-- the parts of a tuple or of a declared type
tuple_injective : (ts us : Opens) → tuple ts ≡ tuple us → ts ≡ us
tuple_injective ts us e = cc

applied_injective : (h : Target) (ts us : Opens) → applied h ts ≡ applied h us → ts ≡ us
applied_injective h ts us e = cc

module _ (es : ContextEntries) (a : Open) (hand : IsInHand es a) (ts : Opens) where
  pub tuple_parts : a ≡ tuple ts → (has_variables_of es ts ≡ true) × (types_under es ts ≡ ts)
  tuple_parts is = (ap (has_variables es) (sym is) ∙ hand.known, tuple_injective (types_under es ts) ts (sym (under-tuple es ts) ∙ ap (type_under es) (sym is) ∙ hand.current ∙ is))

  pub data_parts : (h : Target) → a ≡ applied h ts → (has_variables_of es ts ≡ true) × (types_under es ts ≡ ts)
  data_parts h is = (ap (has_variables es) (sym is) ∙ hand.known, applied_injective h (types_under es ts) ts (sym (under-applied es h ts) ∙ ap (type_under es) (sym is) ∙ hand.current ∙ is))

pub same_length : (ts us : List Open) → opens_count (opens_of ts) ≡ opens_count (opens_of us) → length ts ≡ length us
same_length ts us e = sym (opens_count-of ts) ∙ e ∙ opens_count-of us

module _ (es : ContextEntries) (a b : Open) (ts us : Opens) where
  pub tuple_room : a ≡ tuple ts → b ≡ tuple us → lists_rank es ts us + 6 < types_rank es a b + 2
  tuple_room is at = omega (arith, ap quantifiers is, ap quantifiers at, ap open_node_count is, ap open_node_count at)

  pub data_room : (h k : Target) → a ≡ applied h ts → b ≡ applied k us → lists_rank es ts us + 6 < types_rank es a b + 2
  data_room h k is at = omega (arith, ap quantifiers is, ap quantifiers at, ap open_node_count is, ap open_node_count at)

-- types of two lists, from a place on
pub lists_pairs : (es : ContextEntries) (ts us : Opens) → SolvesByMonotypes es → IsContext es → has_variables_of es ts ≡ true → has_variables_of es us ≡ true → types_under es ts ≡ ts → types_under es us ≡ us
    → PendingPairs (SolvesSubtypes es ts us) es (weight es (quantifiers_of ts + quantifiers_of us)) es ts us
lists_pairs es ts us mono order k l p q = record {
  monotypes = mono;
  in_order = order;
  lower = ap (has_variables_of es) p ∙ k;
  upper = ap (has_variables_of es) q ∙ l;
  ends = λ o d. d;
  falls = inl refl;
  enough = omega arith;
}

pub opens_left : List Open → ℕ → Opens
opens_left ts at = opens_of (drop at ts)

pub opens_left-more : (ts : List Open) (at : ℕ) (t : Open) → at < length ts → t ≡ get_or ts at t → opens_left ts at ≡ more t (opens_left ts (at + 1))
unfolding opens_left
opens_left-more ts at t within is = ap opens_of (drop_more ts at t within ∙ ap (λ (u : Open). u ∷ drop (at + 1) ts) (sym is))

pub opens_left-none : (ts : List Open) (at : ℕ) → length ts ≤ at → opens_left ts at ≡ none
unfolding opens_left
opens_left-none ts at end = ap opens_of (drop_all at ts end)

pub opens_left-all : (ts : List Open) → opens_of ts ≡ opens_left ts 0
unfolding opens_left
opens_left-all ts = refl

more_first : (t u : Open) (ts us : Opens) → more t ts ≡ more u us → t ≡ u
more_first t u ts us e = cc

more_rest : (t u : Open) (ts us : Opens) → more t ts ≡ more u us → ts ≡ us
more_rest t u ts us e = cc

pub current_at : (es : ContextEntries) (ts : List Open) (at : ℕ) (t : Open) → types_under es (opens_of ts) ≡ opens_of ts → at < length ts → t ≡ get_or ts at t → type_under es t ≡ t
current_at es [] at t same within is = absurd (omega arith)
current_at es (u ∷ ts) zero t same within is = ap (type_under es) is ∙ more_first (type_under es u) u (types_under es (opens_of ts)) (opens_of ts) same ∙ sym is
current_at es (u ∷ ts) (suc at) t same within is = current_at es ts at t (more_rest (type_under es u) u (types_under es (opens_of ts)) (opens_of ts) same) (omega arith) is

pub nodes_at : (ts : List Open) (at : ℕ) (t : Open) → at < length ts → t ≡ get_or ts at t → open_node_count t ≤ opens_node_count (opens_of ts)
nodes_at [] at t within is = absurd (omega arith)
nodes_at (u ∷ ts) zero t within is = omega (arith, ap open_node_count is)
nodes_at (u ∷ ts) (suc at) t within is = omega (arith, nodes_at ts at t (omega arith) is)

-- the same pairs of a context and lists that are the same
pub pairs_as : (P : Outcome → Type 0) (start : ContextEntries) (limit : ℕ) (es ds : ContextEntries) (ts ts' us us' : Opens) → es ≡ ds → ts ≡ ts' → us ≡ us' → PendingPairs P start limit es ts us → PendingPairs P start limit ds ts' us'
pairs_as P start limit es ds ts ts' us us' e f g p =
    subst (λ (vs : Opens). PendingPairs P start limit ds ts' vs) g (subst (λ (vs : Opens). PendingPairs P start limit ds vs us) f (subst (λ (cs : ContextEntries). PendingPairs P start limit cs ts us) e p))

-- whether a rule fits two tuples, or two declared types with one head
module _ (a b : Open) (ts us : List Open) (m n : ℕ) (left : m ≡ length ts) (right : n ≡ length us) where
  same_count : eqb m n ≡ true → opens_count (opens_of ts) ≡ opens_count (opens_of us)
  same_count h = opens_count-of ts ∙ sym left ∙ eqb-true m n h ∙ right ∙ sym (opens_count-of us)

  count_same : opens_count (opens_of ts) ≡ opens_count (opens_of us) → eqb m n ≡ true
  count_same e = eq-eqb m n (left ∙ same_length ts us e ∙ sym right)

  pub tuple_rule : a ≡ tuple (opens_of ts) → b ≡ tuple (opens_of us) → (eqb m n ≡ true → HasRule a b) × (HasRule a b → eqb m n ≡ true)
  tuple_rule is at = (
    λ h. subst (λ (c : Open). HasRule c b) (sym is) (subst (HasRule (tuple (opens_of ts))) (sym at) (same_count h)),
    λ r. count_same (subst (HasRule (tuple (opens_of ts))) at (subst (λ (c : Open). HasRule c b) is r)),
  )

  pub data_rule : (h k : Target) → a ≡ applied h (opens_of ts) → b ≡ applied k (opens_of us) → h ≡ k → (eqb m n ≡ true → HasRule a b) × (HasRule a b → eqb m n ≡ true)
  data_rule h k is at heads = (
    λ e. subst (λ (c : Open). HasRule c b) (sym is) (subst (HasRule (applied h (opens_of ts))) (sym at) (heads, same_count e)),
    λ r. let q : (h ≡ k) × (opens_count (opens_of ts) ≡ opens_count (opens_of us)) = subst (HasRule (applied h (opens_of ts))) at (subst (λ (c : Open). HasRule c b) is r) in count_same q.1,
  )

-- a type that isn't quantified, or isn't an existential, by its node
pub node_plain : (n : OpenNode) (t : Open) → open_of n ≡ t → ((b : Box declared_open.Open Global) → n ≡ node.Forall b → ⊥) → is_quantified t ≡ false
node_plain (node.Bound i) t e f = ap is_quantified (sym e)
node_plain (node.Rigid x) t e f = ap is_quantified (sym e)
node_plain (node.Exists x) t e f = ap is_quantified (sym e)
node_plain (node.Forall b) t e f = absurd (f b refl)
node_plain (node.Arrow a b) t e f = ap is_quantified (sym e)
node_plain node.Unit t e f = ap is_quantified (sym e)
node_plain (node.Tuple ts) t e f = ap is_quantified (sym e)
node_plain (node.Data h ts) t e f = ap is_quantified (sym e)

pub node_other : (n : OpenNode) (t : Open) → open_of n ≡ t → ((x : ℕ) → n ≡ node.Exists x → ⊥) → is_existential t ≡ false
node_other (node.Bound i) t e f = ap is_existential (sym e)
node_other (node.Rigid x) t e f = ap is_existential (sym e)
node_other (node.Exists x) t e f = absurd (f x refl)
node_other (node.Forall b) t e f = ap is_existential (sym e)
node_other (node.Arrow a b) t e f = ap is_existential (sym e)
node_other node.Unit t e f = ap is_existential (sym e)
node_other (node.Tuple ts) t e f = ap is_existential (sym e)
node_other (node.Data h ts) t e f = ap is_existential (sym e)

-- subtyping between quantified types falls
module _ (es : ContextEntries) (a b c : Open) (left : IsSmall a) (right : IsSmall b) where
  pub right_room : b ≡ quantified c → rank (weight es (quantifiers a + quantifiers c) + 1) (8 * (open_node_count a + open_node_count c)) + 4 < types_rank es a b + 3
  right_room at = let p = left.nodes in let q = right.nodes in omega (arith, p, q, ap quantifiers at, ap open_node_count at)

  pub left_room : a ≡ quantified c → rank (weight es (quantifiers c + quantifiers b) + 1) (8 * (open_node_count c + open_node_count b)) + 4 < types_rank es a b + 3
  left_room is = let p = left.nodes in let q = right.nodes in omega (arith, p, q, ap quantifiers is, ap open_node_count is)

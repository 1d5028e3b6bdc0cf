-- Fronts of types as loops and walks go over them.
use Rattle.std.proofs.Common.{◌≡◌, Box, Global, ℕ, zero, suc, ◌+◌, ◌<◌, ◌^◌, List, [], ◌∷◌, ◌++◌, map, length, Some, refl, sym, ap, ◌∙◌, arith, append_assoc, append-nil}
use Rattle.uc_tree.specs.declared.target.Target.{Target}
use Rattle.uc_tree.specs.Types.{Ty}
use Rattle.uc_kinds.specs.PatternTyping.{Known, target_type}
use Rattle.uc_context.specs.declared.entry.Entry.TheVariants.{Exists}
use Rattle.uc_context.specs.declared.open.Open as declared_open
use Rattle.uc_context.specs.declared.open.OpenNode.{OpenNode}
use Rattle.uc_context.specs.declared.open.OpenNode.TheVariants as node
use Rattle.uc_context.specs.Closing.{open_from}
use Rattle.uc_context.specs.Counts.{levels_of_open}
use Rattle.uc_context.specs.Entries.{ContextEntries}
use Rattle.uc_context.specs.Fresh.{fresh_number, fresh_numbers}
use Rattle.uc_context.specs.Opens.{Open, existential, quantified, arrow, Opens, none, more, opens_of}
use Rattle.uc_context.specs.OpenViews.{open_of}
use Rattle.uc_context.specs.Variables.{opened_at}
use Rattle.uc_context.proofs.Closed.{levels_from}
use Rattle.uc_subtyping.proofs.Opened.{levels-opened}
use Rattle.uc_typing.specs.Fronts.{front_count, behind_front, existentials, arguments_of, result_of, repeated}
use Rattle.uc_sound_typing.proofs.Sights.{front_opened}
use Rattle.uc_patterns.specs.Asking.{IsKnown}
use Rattle.uc_patterns.proofs.FreshOrder.{fresh_behind, fresh_next}

-- a type without a quantifier at its front, by its node
pub node_front : (n : OpenNode) (t : Open) → open_of n ≡ t → ((b : Box declared_open.Open Global) → n ≡ node.Forall b → ⊥) → front_count t ≡ 0
node_front (node.Bound i) t e f = ap front_count (sym e)
node_front (node.Rigid x) t e f = ap front_count (sym e)
node_front (node.Exists x) t e f = ap front_count (sym e)
node_front (node.Forall b) t e f = absurd (f b refl)
node_front (node.Arrow a b) t e f = ap front_count (sym e)
node_front node.Unit t e f = ap front_count (sym e)
node_front (node.Tuple ts) t e f = ap front_count (sym e)
node_front (node.Data h ts) t e f = ap front_count (sym e)

-- a type that is no function, by its node
pub node_arguments : (n : OpenNode) (t : Open) → open_of n ≡ t → ((a b : Box declared_open.Open Global) → n ≡ node.Arrow a b → ⊥) → arguments_of t ≡ none
node_arguments (node.Bound i) t e f = ap arguments_of (sym e)
node_arguments (node.Rigid x) t e f = ap arguments_of (sym e)
node_arguments (node.Exists x) t e f = ap arguments_of (sym e)
node_arguments (node.Forall b) t e f = ap arguments_of (sym e)
node_arguments (node.Arrow a b) t e f = absurd (f a b refl)
node_arguments node.Unit t e f = ap arguments_of (sym e)
node_arguments (node.Tuple ts) t e f = ap arguments_of (sym e)
node_arguments (node.Data h ts) t e f = ap arguments_of (sym e)

pub node_result : (n : OpenNode) (t : Open) → open_of n ≡ t → ((a b : Box declared_open.Open Global) → n ≡ node.Arrow a b → ⊥) → result_of t ≡ t
node_result (node.Bound i) t e f = ap result_of (sym e) ∙ e
node_result (node.Rigid x) t e f = ap result_of (sym e) ∙ e
node_result (node.Exists x) t e f = ap result_of (sym e) ∙ e
node_result (node.Forall b) t e f = ap result_of (sym e) ∙ e
node_result (node.Arrow a b) t e f = absurd (f a b refl)
node_result node.Unit t e f = ap result_of (sym e) ∙ e
node_result (node.Tuple ts) t e f = ap result_of (sym e) ∙ e
node_result (node.Data h ts) t e f = ap result_of (sym e) ∙ e

-- arguments in front of others
abbrev pub in_front : List Open → Opens → Opens
in_front [] ts = ts
in_front (s ∷ ss) ts = more s (in_front ss ts)

pub in_front-push : (ss : List Open) (t : Open) (ts : Opens) → in_front (ss ++ t ∷ []) ts ≡ in_front ss (more t ts)
in_front-push [] t ts = refl
in_front-push (s ∷ ss) t ts = ap (more s) (in_front-push ss t ts)

pub in_front-none : (ss : List Open) → in_front ss none ≡ opens_of ss
in_front-none [] = refl
in_front-none (s ∷ ss) = ap (more s) (in_front-none ss)

-- one argument more, and all of them
pub arguments_more : (whole : Opens) (ss us : List Open) (t a b v : Open) → in_front ss (arguments_of t) ≡ whole → t ≡ arrow a b → us ≡ ss ++ v ∷ [] → v ≡ a → in_front us (arguments_of b) ≡ whole
arguments_more whole ss us t a b v so_far is pushed copied =
    ap (λ (xs : List Open). in_front xs (arguments_of b)) (pushed ∙ ap (λ (w : Open). ss ++ w ∷ []) copied)
    ∙ in_front-push ss a (arguments_of b) ∙ ap (λ (u : Open). in_front ss (arguments_of u)) (sym is) ∙ so_far

pub arguments_all : (whole : Opens) (ss : List Open) (t : Open) → in_front ss (arguments_of t) ≡ whole → arguments_of t ≡ none → opens_of ss ≡ whole
arguments_all whole ss t so_far is = sym (in_front-none ss) ∙ ap (in_front ss) (sym is) ∙ so_far

pub result_more : (whole t a b : Open) → result_of t ≡ whole → t ≡ arrow a b → result_of b ≡ whole
result_more whole t a b so_far is = ap result_of (sym is) ∙ so_far

-- one time more
pub repeated_push : (k : ℕ) (t : Open) (ss : List Open) → opens_of ss ≡ repeated k t → opens_of (ss ++ t ∷ []) ≡ repeated (suc k) t
repeated_push zero t [] e = refl
repeated_push zero t (s ∷ ss) e = absurd cc
repeated_push (suc k) t [] e = absurd cc
repeated_push (suc k) t (s ∷ ss) e =
    let first : s ≡ t = cc in
    let rest : opens_of ss ≡ repeated k t = cc in
    ap (λ (u : Open). more u (opens_of (ss ++ t ∷ []))) first ∙ ap (more t) (repeated_push k t ss rest)

pub repeated_more : (k : ℕ) (t v : Open) (ss us : List Open) → opens_of ss ≡ repeated k t → us ≡ ss ++ v ∷ [] → v ≡ t → opens_of us ≡ repeated (k + 1) t
repeated_more k t v ss us so_far pushed copied =
    let next : suc k ≡ k + 1 = omega arith in
    ap opens_of (pushed ∙ ap (λ (w : Open). ss ++ w ∷ []) copied) ∙ repeated_push k t ss so_far ∙ ap (λ (j : ℕ). repeated j t) next

pub repeated_length : (k : ℕ) (t : Open) (ss : List Open) → opens_of ss ≡ repeated k t → length ss ≡ k
repeated_length zero t [] e = refl
repeated_length zero t (s ∷ ss) e = absurd cc
repeated_length (suc k) t [] e = absurd cc
repeated_length (suc k) t (s ∷ ss) e = ap suc (repeated_length k t ss (let rest : opens_of ss ≡ repeated k t = cc in rest))

-- one more declared
module _ (k n : ℕ) (start es ds : ContextEntries) (ns ms : List ℕ) (taken : ns ≡ fresh_numbers k start) (here : es ≡ start ++ map (λ m. Exists m) ns) (number : n ≡ fresh_number es) where
  pub taken_next : ms ≡ ns ++ n ∷ [] → ms ≡ fresh_numbers (k + 1) start
  taken_next pushed =
      let next : suc k ≡ k + 1 = omega arith in
      pushed
      ∙ ap (λ (m : ℕ). ns ++ m ∷ []) (number ∙ ap fresh_number (here ∙ ap (λ (js : List ℕ). start ++ map (λ m. Exists m) js) taken))
      ∙ ap (λ (js : List ℕ). js ++ fresh_number (start ++ map (λ m. Exists m) (fresh_numbers k start)) ∷ []) taken
      ∙ sym (fresh_next k start)
      ∙ ap (λ (j : ℕ). fresh_numbers j start) next

  pub declared_next : ms ≡ ns ++ n ∷ [] → ds ≡ es ++ Exists n ∷ [] → ds ≡ start ++ map (λ m. Exists m) ms
  declared_next pushed behind =
      behind ∙ ap (λ (cs : ContextEntries). cs ++ Exists n ∷ []) here ∙ append_assoc start (map (λ m. Exists m) ns) (Exists n ∷ [])
      ∙ ap (λ (cs : ContextEntries). start ++ cs) (sym (numbers_push ns n)) ∙ ap (λ (js : List ℕ). start ++ map (λ m. Exists m) js) (sym pushed)
    where
      numbers_push : (js : List ℕ) (j : ℕ) → map (λ (m : ℕ). Exists m) (js ++ j ∷ []) ≡ map (λ (m : ℕ). Exists m) js ++ Exists j ∷ []
      numbers_push [] j = refl
      numbers_push (i ∷ js) j = ap (λ (cs : ContextEntries). Exists i ∷ cs) (numbers_push js j)

-- behind the first quantifier
module _ (es ds : ContextEntries) (n : ℕ) (t body opened : Open) (is : t ≡ quantified body) (number : n ≡ fresh_number es) (pushed : ds ≡ es ++ Exists n ∷ []) (at : opened ≡ opened_at 0 (existential n) body) where
  same_front : front_count opened ≡ front_count body
  same_front = ap front_count at ∙ front_opened (existential n) refl 0 body

  pub front_falls : front_count opened < front_count t
  front_falls = omega (arith, same_front, ap front_count is)

  pub opened_levels : levels_of_open t < 2 ^ 32 → levels_of_open opened < 2 ^ 32
  opened_levels h = omega (arith, ap levels_of_open at ∙ levels-opened (existential n) refl 0 body, ap levels_of_open is)

  rest_of_numbers : fresh_numbers (front_count opened) ds ≡ fresh_numbers (front_count body) (Exists n ∷ es)
  rest_of_numbers = ap (λ (k : ℕ). fresh_numbers k ds) same_front ∙ ap (fresh_numbers (front_count body)) pushed ∙ fresh_behind (front_count body) n es

  all_numbers : n ∷ fresh_numbers (front_count opened) ds ≡ fresh_numbers (front_count t) es
  all_numbers =
      ap (λ (ns : List ℕ). n ∷ ns) rest_of_numbers
      ∙ ap (λ (m : ℕ). m ∷ fresh_numbers (front_count body) (Exists m ∷ es)) number
      ∙ ap (λ (u : Open). fresh_numbers (front_count u) es) (sym is)

  pub behind_first : (u : Open) → u ≡ behind_front (existentials (fresh_numbers (front_count opened) ds)) opened → u ≡ behind_front (existentials (fresh_numbers (front_count t) es)) t
  behind_first u e =
      e
      ∙ ap (behind_front (existentials (fresh_numbers (front_count opened) ds))) at
      ∙ ap (λ (ns : List ℕ). behind_front (existentials ns) (quantified body)) all_numbers
      ∙ ap (behind_front (existentials (fresh_numbers (front_count t) es))) (sym is)

  pub context_first : (cs : ContextEntries) → cs ≡ ds ++ map (λ m. Exists m) (fresh_numbers (front_count opened) ds) → cs ≡ es ++ map (λ m. Exists m) (fresh_numbers (front_count t) es)
  context_first cs e =
      e
      ∙ ap (λ (bs : ContextEntries). bs ++ map (λ m. Exists m) (fresh_numbers (front_count opened) ds)) pushed
      ∙ append_assoc es (Exists n ∷ []) (map (λ m. Exists m) (fresh_numbers (front_count opened) ds))
      ∙ ap (λ (ns : List ℕ). es ++ map (λ m. Exists m) ns) all_numbers

-- the levels of a body
pub body_levels : (t body : Open) → t ≡ quantified body → levels_of_open t < 2 ^ 32 → levels_of_open body < 2 ^ 32
body_levels t body is h = omega (arith, ap levels_of_open is)

-- no quantifier at the front
module _ (t : Open) (plain : front_count t ≡ 0) where
  pub behind_none : (es : ContextEntries) (u : Open) → u ≡ t → u ≡ behind_front (existentials (fresh_numbers (front_count t) es)) t
  behind_none es u e = e ∙ ap (λ (k : ℕ). behind_front (existentials (fresh_numbers k es)) t) (sym plain)

  pub context_none : (es : ContextEntries) → es ≡ es ++ map (λ n. Exists n) (fresh_numbers (front_count t) es)
  context_none es = sym (append-nil es) ∙ ap (λ (k : ℕ). es ++ map (λ n. Exists n) (fresh_numbers k es)) (sym plain)

-- the levels of a type that is known
pub known_levels : (known : Known) (x : Target) (ty : Ty) (t : Open) → IsKnown known → target_type known x ≡ Some ty → t ≡ open_from ty → levels_of_open t < 2 ^ 32
known_levels known x ty t k is opened = omega (arith, ap levels_of_open opened ∙ levels_from ty, k.counted x ty is)

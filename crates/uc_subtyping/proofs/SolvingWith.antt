-- An existential is solved by a type of new ones, which are to be instantiated.
use Rattle.std.proofs.Common.{◌≡◌, ℕ, Bool, true, false, eqb, ◌||◌, List, [], ◌∷◌, ◌++◌, map, refl, sym, ap, subst, ◌∙◌, append_assoc}
use Rattle.std.specs.List.{list_any}
use Rattle.std.proofs.lemmas.Bool.{or_left, or_right, or_from, and_from, eqb-true, eq-eqb, false≢true, false_from_ne_true}
use Rattle.std.proofs.lemmas.List.Folds.{list_any-append}
use Rattle.uc_context.specs.declared.entry.Entry.{Entry}
use Rattle.uc_context.specs.declared.entry.Entry.TheVariants.{Exists, Solved}
use Rattle.uc_context.specs.Opens.{Open, existential, Opens, open_size, opens_of}
use Rattle.uc_context.specs.Contexts.{IsContext, type_under}
use Rattle.uc_context.specs.Entries.{ContextEntries, is_numbered, is_rigid, is_unsolved, is_variable, declares, before}
use Rattle.uc_context.specs.Fresh.{AreNew}
use Rattle.uc_context.specs.Solving.{exchanged, solved_with}
use Rattle.uc_context.specs.Variables.{mentions, is_monotype, are_monotypes, has_variables, has_variables_of}
use Rattle.uc_context.proofs.Declared.{variables_declared}
use Rattle.uc_context.proofs.Looked.{before_standing}
use Rattle.uc_context.proofs.Solved.{exchanged_at}
use Rattle.uc_subtyping.specs.Instances.{Instances}
use Rattle.uc_subtyping.specs.Readiness.{Has, AreDistinct, IsReady}
use Rattle.uc_subtyping.proofs.Absorbing.{Solves, solves-solved_with, solves-under}
use Rattle.uc_subtyping.proofs.Extending.{ExtendsByMonotypes, extends-solved_with, extends-trans}
use Rattle.uc_subtyping.proofs.InOrder.{StandsUnsolved, stands_unsolved, in_order_solved_with}
use Rattle.uc_subtyping.proofs.Ready.{Other, ApartFrom, known_through}
use Rattle.uc_subtyping.proofs.Scoped.{up_to, known_up_to, self_up_to}
use Rattle.uc_subtyping.proofs.Settled.{Settled, settled-same, mentioned_known, known-more, exchanged_passes, exchanged_new, eqb-flip, differ, differ_new, unsolved_declared, unsolved_stays}
use Rattle.uc_subtyping.proofs.Turning.{Moved, Turns, extends-declares, extends-rigids}

-- new existentials are unsolved ones
new_unsolved : (y : ℕ) (ns : List ℕ) → list_any (declares y) (map (λ n. Exists n) ns) ≡ list_any (is_unsolved y) (map (λ n. Exists n) ns)
new_unsolved y [] = refl
new_unsolved y (n ∷ ns) = ap (λ (b : Bool). eqb n y || b) (new_unsolved y ns)

-- new existentials are other ones
others_new : (ns : List ℕ) (es : ContextEntries) (x : ℕ) → list_any (declares x) es ≡ true → AreNew ns es → list_any (is_variable x) (map (λ n. Exists n) ns) ≡ false
others_new [] es x d new = refl
others_new (n ∷ ns) es x d new =
    or_from (eqb n x) (list_any (is_variable x) (map (λ m. Exists m) ns)) (eqb-flip x n (differ_new es x n d new.0)) (others_new ns (Exists n ∷ es) x (or_right (eqb n x) (list_any (declares x) es) d) new.1)

-- the existentials that are to be instantiated, and the types that they are instantiated to
pub record Starts (es : ContextEntries) (x : ℕ) (ns : List ℕ) (is : Instances) : Type 0 where
  pub distinct : AreDistinct is
  pub number : (n : ℕ) (t : Open) → Has n t is → list_any (declares n) (map (λ m. Exists m) ns) ≡ true
  pub new : (n : ℕ) (t : Open) → Has n t is → list_any (is_numbered n) es ≡ false
  pub part : (n : ℕ) (t : Open) → Has n t is → Settled es t × (mentions x t ≡ false)

module _ (es : ContextEntries) (x : ℕ) (ns : List ℕ) (t : Open) (order : IsContext es) (u : list_any (is_unsolved x) es ≡ true) (new : AreNew ns es) (mono : is_monotype t ≡ true) (own : has_variables (map (λ n. Exists n) ns) t ≡ true) where
  pub with-order : IsContext (solved_with es x ns t)
  with-order = in_order_solved_with x es ns t order u new (variables_declared (map (λ n. Exists n) ns) t own)

  with-extends : ExtendsByMonotypes es (solved_with es x ns t)
  with-extends = extends-solved_with es x ns t mono

  -- other existentials stay unsolved
  with-stays : (y : ℕ) → list_any (is_unsolved y) es ≡ true → Other x y → list_any (is_unsolved y) (solved_with es x ns t) ≡ true
  with-stays y v other = exchanged_passes (is_unsolved y) x (map (λ n. Exists n) ns ++ Solved x t ∷ []) (eqb-flip y x other) es v

  -- new ones are there
  with-has : (test : Entry → Bool) → list_any test (map (λ n. Exists n) ns) ≡ true → list_any test (solved_with es x ns t) ≡ true
  with-has test h =
      exchanged_new test x (map (λ n. Exists n) ns ++ Solved x t ∷ [])
      (list_any-append test (map (λ n. Exists n) ns) (Solved x t ∷ []) ∙ or_left (list_any test (map (λ n. Exists n) ns)) (list_any test (Solved x t ∷ [])) h) es u

  with-settled : Settled (solved_with es x ns t) t
  with-settled = record {
    known = known-more (map (λ n. Exists n) ns) (solved_with es x ns t) (λ y h. with-has (is_rigid y) h) (λ y h. with-has (declares y) h) t own;
    unsolved = λ y m. with-has (is_unsolved y) (sym (new_unsolved y ns) ∙ mentioned_known (map (λ n. Exists n) ns) t own y m);
  }

  with-same : type_under (solved_with es x ns t) (existential x) ≡ t
  with-same = solves-under x t (solved_with es x ns t) with-order (solves-solved_with es x ns t u) ∙ settled-same (solved_with es x ns t) with-order t with-settled

  -- the new ones stand before the one that is solved
  with-before : (s : StandsUnsolved x es) → before x (solved_with es x ns t) ≡ s.left ++ map (λ n. Exists n) ns
  with-before s =
      let parts : solved_with es x ns t ≡ (s.left ++ map (λ n. Exists n) ns) ++ Solved x t ∷ s.right =
      exchanged_at x (map (λ n. Exists n) ns ++ Solved x t ∷ []) es s.left s.right s.stands ∙ ap (λ (cs : ContextEntries). s.left ++ cs) (append_assoc (map (λ n. Exists n) ns) (Solved x t ∷ []) s.right)
      ∙ sym (append_assoc s.left (map (λ n. Exists n) ns) (Solved x t ∷ s.right)) in
      before_standing x (solved_with es x ns t) (s.left ++ map (λ n. Exists n) ns) (Solved x t) s.right (record {
        whole = parts;
        here = eq-eqb x x refl;
        none_left = list_any-append (is_variable x) s.left (map (λ n. Exists n) ns) ∙ or_from (list_any (is_variable x) s.left) (list_any (is_variable x) (map (λ n. Exists n) ns)) s.stands.none_left (others_new ns es x (unsolved_declared x es u) new);
        none_right = s.stands.none_right;
      })

  with-own : has_variables (before x (solved_with es x ns t)) t ≡ true
  with-own =
      let s : StandsUnsolved x es = stands_unsolved x es order u in
      ap (λ (cs : ContextEntries). has_variables cs t) (with-before s)
      ∙ known-more (map (λ n. Exists n) ns) (s.left ++ map (λ n. Exists n) ns)
      (λ y h. list_any-append (is_rigid y) s.left (map (λ n. Exists n) ns) ∙ or_right (list_any (is_rigid y) s.left) (list_any (is_rigid y) (map (λ n. Exists n) ns)) h)
      (λ y h. list_any-append (declares y) s.left (map (λ n. Exists n) ns) ∙ or_right (list_any (declares y) s.left) (list_any (declares y) (map (λ n. Exists n) ns)) h) t own

  with-known : (y : ℕ) → list_any (is_unsolved y) es ≡ true → has_variables (up_to y (solved_with es x ns t)) (type_under (solved_with es x ns t) (existential y)) ≡ true
  with-known y v = go (eqb y x) refl
    where
      go : (b : Bool) → eqb y x ≡ b → has_variables (up_to y (solved_with es x ns t)) (type_under (solved_with es x ns t) (existential y)) ≡ true
      go true is =
          ap (λ (z : ℕ). has_variables (up_to z (solved_with es x ns t)) (type_under (solved_with es x ns t) (existential z))) (eqb-true y x is)
          ∙ ap (has_variables (up_to x (solved_with es x ns t))) with-same ∙ known_up_to x (solved_with es x ns t) t with-own
      go false is = ap (has_variables (up_to y (solved_with es x ns t))) (unsolved_stays y (solved_with es x ns t) with-order (with-stays y v is)) ∙ self_up_to y (solved_with es x ns t)

  module _ (is : Instances) (starts : Starts es x ns is) where
    part-settled : (n : ℕ) (a : Open) → Has n a is → Settled (solved_with es x ns t) a
    part-settled n a h =
        let p = starts.part n a h in
        record {
          known = known-more es (solved_with es x ns t) (extends-rigids es (solved_with es x ns t) with-extends) (extends-declares es (solved_with es x ns t) with-extends) a p.0.known;
          unsolved = λ y m. with-stays y (p.0.unsolved y m) (differ x y a p.1 m);
        }

    part-same : (n : ℕ) (a : Open) → Has n a is → type_under (solved_with es x ns t) a ≡ a
    part-same n a h = settled-same (solved_with es x ns t) with-order a (part-settled n a h)

    part-clear : (n : ℕ) (a : Open) (m : ℕ) (b : Open) → Has n a is → Has m b is → mentions m a ≡ false
    part-clear n a m b h l =
        false_from_ne_true (mentions m a) (λ k. false≢true (sym (differ_new es m m (mentioned_known es a (starts.part n a h).0.known m k) (starts.new m b l)) ∙ eq-eqb m m refl))

    pub with-ready : IsReady (solved_with es x ns t) is
    with-ready = record {
      in_order = with-order;
      distinct = starts.distinct;
      declared = λ n a h. with-has (declares n) (starts.number n a h);
      known = λ n a h. ap (has_variables (solved_with es x ns t)) (part-same n a h) ∙ (part-settled n a h).known;
      apart = λ n a m b h l. ap (mentions m) (part-same n a h) ∙ part-clear n a m b h l;
      same_size = λ n a h. ap open_size (part-same n a h);
    }

    module _ (gs : ContextEntries) (turn : Turns (ApartFrom is) (solved_with es x ns t) gs) where
      with-apart : (y : ℕ) → list_any (declares y) es ≡ true → ApartFrom is y
      with-apart y d n a h = differ_new es y n d (starts.new n a h)

      with-moved : (y : ℕ) → list_any (is_unsolved y) es ≡ true → Other x y → Moved (Other x) es gs y
      with-moved y v other =
          let m : Moved (ApartFrom is) (solved_with es x ns t) gs y = turn.moves y (with-stays y v other) (with-apart y (unsolved_declared y es v)) in
          record {
            to = m.to;
            is = m.is;
            other = λ w d a ne. m.other w (extends-declares es (solved_with es x ns t) with-extends w d) (with-apart w d) ne;
          }

      pub with-turns : Turns (Other x) es gs
      with-turns = record {
        extends = extends-trans with-extends turn.extends;
        order = turn.order;
        moves = with-moved;
        known = λ y v. known_through (ApartFrom is) (solved_with es x ns t) gs with-order turn y (extends-declares es (solved_with es x ns t) with-extends y (unsolved_declared y es v)) (with-known y v);
      }

-- types of new existentials
own_middle : (n : ℕ) (front ns : List ℕ) → list_any (declares n) (map (λ m. Exists m) (front ++ n ∷ ns)) ≡ true
own_middle n [] ns = or_left (eqb n n) (list_any (declares n) (map (λ m. Exists m) ns)) (eq-eqb n n refl)
own_middle n (m ∷ front) ns = or_right (eqb m n) (list_any (declares n) (map (λ m. Exists m) (front ++ n ∷ ns))) (own_middle n front ns)

own_all : (front ns : List ℕ) → has_variables_of (map (λ n. Exists n) (front ++ ns)) (opens_of (map (λ n. existential n) ns)) ≡ true
own_all front [] = refl
own_all front (n ∷ ns) =
    and_from (list_any (declares n) (map (λ m. Exists m) (front ++ n ∷ ns))) (has_variables_of (map (λ m. Exists m) (front ++ n ∷ ns)) (opens_of (map (λ m. existential m) ns))) (own_middle n front ns)
    (ap (λ (ms : List ℕ). has_variables_of (map (λ m. Exists m) ms) (opens_of (map (λ m. existential m) ns))) (sym (append_assoc front (n ∷ []) ns)) ∙ own_all (front ++ n ∷ []) ns)

pub own_list : (ns : List ℕ) → has_variables_of (map (λ n. Exists n) ns) (opens_of (map (λ n. existential n) ns)) ≡ true
own_list ns = own_all [] ns

pub mono_list : (ns : List ℕ) → are_monotypes (opens_of (map (λ n. existential n) ns)) ≡ true
mono_list [] = refl
mono_list (n ∷ ns) = mono_list ns

pub own_pair : (a b : ℕ) → (list_any (declares a) (Exists b ∷ Exists a ∷ []) ≡ true) × (list_any (declares b) (Exists b ∷ Exists a ∷ []) ≡ true)
own_pair a b = (
  or_right (eqb b a) (list_any (declares a) (Exists a ∷ [])) (or_left (eqb a a) false (eq-eqb a a refl)),
  or_left (eqb b b) (list_any (declares b) (Exists a ∷ [])) (eq-eqb b b refl),
)

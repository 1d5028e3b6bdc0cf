-- What instantiation does to a context.
use Rattle.std.proofs.Common.{◌≡◌, ℕ, Bool, true, false, eqb, List, [], ◌∷◌, ◌++◌, map, refl, sym, ap, subst, ◌∙◌, inl, inr}
use Rattle.std.specs.List.{list_any}
use Rattle.std.proofs.lemmas.Bool.{or_left, or_right, or_parts, and_parts, and_from, eqb-true, eq-eqb}
use Rattle.std.proofs.lemmas.List.Folds.{list_any-append}
use Rattle.uc_context.specs.declared.entry.Entry.{Entry}
use Rattle.uc_context.specs.declared.entry.Entry.TheVariants.{Rigid, Exists, Solved, Mark}
use Rattle.uc_context.specs.Opens.{Open, rigid, existential, quantified, arrow, tuple, applied, Opens}
use Rattle.uc_context.specs.Contexts.{IsContext, AreInOrder, type_under}
use Rattle.uc_context.specs.Entries.{ContextEntries, is_numbered, is_rigid, is_unsolved, is_variable, is_same_entry, declares, before, dropped_from}
use Rattle.uc_context.specs.Solvable.{can_solve}
use Rattle.uc_context.specs.Solving.{solved, solved_with_arrow, solved_with_data, solved_with_tuple}
use Rattle.uc_context.specs.Variables.{opened_at, mentions, is_monotype, has_variables, has_variables_of}
use Rattle.uc_context.proofs.Declared.{variables_declared}
use Rattle.uc_context.proofs.Looked.{before_standing, solution_without}
use Rattle.uc_context.proofs.Orders.{AreInOrder-behind, later_apart}
use Rattle.uc_context.proofs.Solutions.{declared_variable}
use Rattle.uc_context.proofs.Solved.{exchanged_at}
use Rattle.uc_context.proofs.Under.{under-append, under-unsolved}
use Rattle.uc_subtyping.specs.Instantiation.{is_after}
use Rattle.uc_subtyping.proofs.Absorbing.{solves-solved, solves-under}
use Rattle.uc_subtyping.proofs.Extending.{ExtendsByMonotypes, extends-solved, Cut, extends-cut}
use Rattle.uc_subtyping.proofs.InOrder.{StandsUnsolved, stands_unsolved, in_order_solved, fresh_unused, in_order_rigid, in_order_exists, in_order_front}
use Rattle.uc_subtyping.proofs.Ready.{Other}
use Rattle.uc_subtyping.proofs.Scoped.{up_to, self_up_to, known_up_to, before_front}
use Rattle.uc_subtyping.proofs.Settled.{Settled, settled-same, settled-under, known-more, known-opened, mentioned-opened, unmentioned-opened, exchanged_passes, eqb-flip, differ, differ_new, unsolved_declared, unsolved_stays}
use Rattle.uc_subtyping.proofs.Turning.{Moved, Turns, extends-declares, extends-rigids}

-- an existential is solved by a type that stands before it
module _ (es : ContextEntries) (x : ℕ) (t : Open) (order : IsContext es) (u : list_any (is_unsolved x) es ≡ true) (mono : is_monotype t ≡ true) (k : has_variables (before x es) t ≡ true) (s : Settled es t) (n : mentions x t ≡ false) where
  solved-order : IsContext (solved es x t)
  solved-order = in_order_solved x es order u t (variables_declared (before x es) t k)

  solved-extends : ExtendsByMonotypes es (solved es x t)
  solved-extends = extends-solved es x t mono

  solved-stays : (y : ℕ) → list_any (is_unsolved y) es ≡ true → Other x y → list_any (is_unsolved y) (solved es x t) ≡ true
  solved-stays y v o = exchanged_passes (is_unsolved y) x (Solved x t ∷ []) (eqb-flip y x o) es v

  solved-settled : Settled (solved es x t) t
  solved-settled = record {
    known = known-more es (solved es x t) (extends-rigids es (solved es x t) solved-extends) (extends-declares es (solved es x t) solved-extends) t s.known;
    unsolved = λ y m. solved-stays y (s.unsolved y m) (differ x y t n m);
  }

  solved-same : type_under (solved es x t) (existential x) ≡ t
  solved-same = solves-under x t (solved es x t) solved-order (solves-solved es x t u) ∙ settled-same (solved es x t) solved-order t solved-settled

  solved-before : before x (solved es x t) ≡ before x es
  solved-before =
      let p : StandsUnsolved x es = stands_unsolved x es order u in
      before_standing x (solved es x t) p.left (Solved x t) p.right (record { whole = exchanged_at x (Solved x t ∷ []) es p.left p.right p.stands; here = eq-eqb x x refl; none_left = p.stands.none_left; none_right = p.stands.none_right })
      ∙ sym (before_standing x es p.left (Exists x) p.right p.stands)

  solved-known : (y : ℕ) → list_any (is_unsolved y) es ≡ true → has_variables (up_to y (solved es x t)) (type_under (solved es x t) (existential y)) ≡ true
  solved-known y v = go (eqb y x) refl
    where
      go : (b : Bool) → eqb y x ≡ b → has_variables (up_to y (solved es x t)) (type_under (solved es x t) (existential y)) ≡ true
      go true is =
          ap (λ (z : ℕ). has_variables (up_to z (solved es x t)) (type_under (solved es x t) (existential z))) (eqb-true y x is)
          ∙ ap (has_variables (up_to x (solved es x t))) solved-same
          ∙ known_up_to x (solved es x t) t (ap (λ (cs : ContextEntries). has_variables cs t) solved-before ∙ k)
      go false is = ap (has_variables (up_to y (solved es x t))) (unsolved_stays y (solved es x t) solved-order (solved-stays y v is)) ∙ self_up_to y (solved es x t)

  solved-moved : (y : ℕ) → list_any (is_unsolved y) es ≡ true → Other x y → (apart : ℕ → Type 0) → Moved apart es (solved es x t) y
  solved-moved y v o apart = record { to = y; is = unsolved_stays y (solved es x t) solved-order (solved-stays y v o); other = λ w d a ne. ne }

  pub turns-solved : Turns (Other x) es (solved es x t)
  turns-solved = record { extends = solved-extends; order = solved-order; moves = λ y v o. solved-moved y v o (Other x); known = solved-known }

-- an existential is solved by another that stands before it
pub turns-reached : (es : ContextEntries) (x y : ℕ) → IsContext es → list_any (is_unsolved x) es ≡ true → is_after es x y ≡ true → eqb y x ≡ false → Turns (Other x) es (solved es y (existential x))
turns-reached es x y order u after ne =
    let p = and_parts (list_any (is_unsolved y) es) (list_any (declares x) (before y es)) after in
    let s : Settled es (existential x) = record { known = unsolved_declared x es u; unsolved = λ z m. ap (λ (w : ℕ). list_any (is_unsolved w) es) (sym (eqb-true x z m)) ∙ u } in
    let xy : eqb x y ≡ false = eqb-flip y x ne in
    record {
      extends = solved-extends es y (existential x) order p.0 refl p.1 s xy;
      order = solved-order es y (existential x) order p.0 refl p.1 s xy;
      moves = λ z v o. moved z v o p.0 p.1 s xy (eqb z y) refl;
      known = solved-known es y (existential x) order p.0 refl p.1 s xy;
    }
  where
    moved : (z : ℕ) → list_any (is_unsolved z) es ≡ true → Other x z → (v : list_any (is_unsolved y) es ≡ true) (k : list_any (declares x) (before y es) ≡ true) (s : Settled es (existential x)) (xy : eqb x y ≡ false) (b : Bool) → eqb z y ≡ b
        → Moved (Other x) es (solved es y (existential x)) z
    moved z w o v k s xy true is = record {
      to = x;
      is = ap (λ (c : ℕ). type_under (solved es y (existential x)) (existential c)) (eqb-true z y is) ∙ solved-same es y (existential x) order v refl k s xy;
      other = λ c d a e. eqb-flip c x a;
    }
    moved z w o v k s xy false is = solved-moved es y (existential x) order v refl k s xy z w is (Other x)

-- a context is cut at an entry that came in with others
module _ (d : Entry) (self : is_same_entry d d ≡ true) (not_exists : (m : ℕ) → is_same_entry d (Exists m) ≡ false) (not_solved : (m : ℕ) (t : Open) → is_same_entry d (Solved m t) ≡ false)
    (apart : ℕ → Type 0) (es rest gs : ContextEntries) (none : list_any (is_same_entry d) rest ≡ false) (turn : Turns apart (es ++ d ∷ rest) gs) where
  cut : Cut d es rest gs
  cut = extends-cut d self not_exists not_solved es rest gs none turn.extends

  cut-order : IsContext cut.front
  cut-order = in_order_front cut.front d cut.tail gs cut.whole turn.order

  cut-there : (y : ℕ) → list_any (is_unsolved y) es ≡ true → list_any (is_unsolved y) (es ++ d ∷ rest) ≡ true
  cut-there y v = list_any-append (is_unsolved y) es (d ∷ rest) ∙ or_left (list_any (is_unsolved y) es) (list_any (is_unsolved y) (d ∷ rest)) v

  cut-front : (y : ℕ) → list_any (declares y) es ≡ true → list_any (is_variable y) cut.front ≡ true
  cut-front y v = declared_variable y cut.front (extends-declares es cut.front cut.extends y v)

  cut-same : (y : ℕ) → list_any (declares y) es ≡ true → type_under gs (existential y) ≡ type_under cut.front (existential y)
  cut-same y v =
      let tail_order : AreInOrder cut.front (d ∷ cut.tail) = AreInOrder-behind [] cut.front (d ∷ cut.tail) (subst IsContext cut.whole turn.order) in
      ap (λ (cs : ContextEntries). type_under cs (existential y)) cut.whole ∙ under-append cut.front (d ∷ cut.tail) (existential y)
      ∙ ap (type_under cut.front) (under-unsolved (d ∷ cut.tail) y (solution_without y (d ∷ cut.tail) (later_apart y cut.front (d ∷ cut.tail) tail_order (cut-front y v))))

  cut-moved : (y : ℕ) → list_any (is_unsolved y) es ≡ true → apart y → Moved apart es cut.front y
  cut-moved y v a =
      let m : Moved apart (es ++ d ∷ rest) gs y = turn.moves y (cut-there y v) a in
      record {
        to = m.to;
        is = sym (cut-same y (unsolved_declared y es v)) ∙ m.is;
        other = λ w k b ne. m.other w (list_any-append (declares w) es (d ∷ rest) ∙ or_left (list_any (declares w) es) (list_any (declares w) (d ∷ rest)) k) b ne;
      }

  cut-known : (y : ℕ) → list_any (is_unsolved y) es ≡ true → has_variables (up_to y cut.front) (type_under cut.front (existential y)) ≡ true
  cut-known y v =
      let k = unsolved_declared y es v in
      let same : before y gs ≡ before y cut.front = ap (before y) cut.whole ∙ before_front y cut.front (d ∷ cut.tail) (cut-front y k) in
      ap (has_variables (up_to y cut.front)) (sym (cut-same y k)) ∙ ap (λ (cs : ContextEntries). has_variables (cs ++ Exists y ∷ []) (type_under gs (existential y))) (sym same) ∙ turn.known y (cut-there y v)

  pub turns-cut : Turns apart es (dropped_from d gs)
  turns-cut = subst (Turns apart es) (sym cut.dropped) (record { extends = cut.extends; order = cut-order; moves = cut-moved; known = cut-known })

pub turns-rigid : (apart : ℕ → Type 0) (es gs : ContextEntries) (n : ℕ) → Turns apart (es ++ Rigid n ∷ []) gs → Turns apart es (dropped_from (Rigid n) gs)
turns-rigid apart es gs n turn = turns-cut (Rigid n) (eq-eqb n n refl) (λ m. refl) (λ m t. refl) apart es [] gs refl turn

pub turns-mark : (apart : ℕ → Type 0) (es gs : ContextEntries) (n : ℕ) → Turns apart (es ++ Mark n ∷ Exists n ∷ []) gs → Turns apart es (dropped_from (Mark n) gs)
turns-mark apart es gs n turn = turns-cut (Mark n) (eq-eqb n n refl) (λ m. refl) (λ m t. refl) apart es (Exists n ∷ []) gs refl turn

-- a quantified type opened by a new variable
module _ (es : ContextEntries) (n : ℕ) (t : Open) (s : Settled es t) where
  more_there : (test : Entry → Bool) (ds : ContextEntries) → list_any test es ≡ true → list_any test (es ++ ds) ≡ true
  more_there test ds h = list_any-append test es ds ∙ or_left (list_any test es) (list_any test ds) h

  pub settled-rigid : Settled (es ++ Rigid n ∷ []) (opened_at 0 (rigid n) t)
  settled-rigid = record {
    known = known-opened (es ++ Rigid n ∷ []) (rigid n)
        (list_any-append (is_rigid n) es (Rigid n ∷ []) ∙ or_right (list_any (is_rigid n) es) (list_any (is_rigid n) (Rigid n ∷ [])) (or_left (eqb n n) false (eq-eqb n n refl))) 0 t
        (known-more es (es ++ Rigid n ∷ []) (λ y h. more_there (is_rigid y) (Rigid n ∷ []) h) (λ y h. more_there (declares y) (Rigid n ∷ []) h) t s.known);
    unsolved = λ y m. more_there (is_unsolved y) (Rigid n ∷ []) (elim (mentioned-opened y (rigid n) 0 t m) [ inl p ↦ s.unsolved y p | inr p ↦ absurd cc ]);
  }

  new_there : (test : Entry → Bool) → test (Exists n) ≡ true → list_any test (es ++ Mark n ∷ Exists n ∷ []) ≡ true
  new_there test h = list_any-append test es (Mark n ∷ Exists n ∷ []) ∙ or_right (list_any test es) (list_any test (Mark n ∷ Exists n ∷ [])) (or_right (test (Mark n)) (list_any test (Exists n ∷ [])) (or_left (test (Exists n)) false h))

  pub settled-exists : Settled (es ++ Mark n ∷ Exists n ∷ []) (opened_at 0 (existential n) t)
  settled-exists = record {
    known = known-opened (es ++ Mark n ∷ Exists n ∷ []) (existential n) (new_there (declares n) (eq-eqb n n refl)) 0 t
        (known-more es (es ++ Mark n ∷ Exists n ∷ []) (λ y h. more_there (is_rigid y) (Mark n ∷ Exists n ∷ []) h) (λ y h. more_there (declares y) (Mark n ∷ Exists n ∷ []) h) t s.known);
    unsolved = λ y m. elim (mentioned-opened y (existential n) 0 t m) [ inl p ↦ more_there (is_unsolved y) (Mark n ∷ Exists n ∷ []) (s.unsolved y p) | inr p ↦ new_there (is_unsolved y) p ];
  }

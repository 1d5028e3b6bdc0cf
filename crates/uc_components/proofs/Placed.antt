-- What is taken from the queue is the next component, and at the end all are placed.
use Rattle.std.proofs.Common.{◌≡◌, ℕ, ◌<◌, ◌≤◌, ◌+◌, ◌⊎◌, suc, zero, List, [], ◌∷◌, ◌++◌, Bool, true, false, not, cond, length, get_or, set, refl, sym, ◌∙◌, ap, subst, inl, inr, arith, append_assoc}
use Rattle.std.proofs.Common.{replicate, map, Vec, Option, Some, None}
use Rattle.std.specs.declared.alloc.Global.{Global}
use Rattle.std.specs.Option.{IfSome, IfNone}
use Rattle.std.specs.List.{Contains, count_by, sum_by}
use Rattle.std.proofs.lemmas.Bool.{cases_lt, cases_eq}
use Rattle.std.proofs.lemmas.List.{length-set, get_or-set_same, get_or-set_other}
use Rattle.std.proofs.lemmas.List.Sums.{sum_by-set}
use Rattle.std.proofs.lemmas.List.Elements.{Contains-append_cases, Contains-append_left, Contains-append_right}
use Rattle.uc_base.specs.Graph.{row, Edge, Reaches, Together, IsReady, IsNext, InRange, IsOrderFrom}
use Rattle.uc_base.specs.Graph.Reaches.{one, more}
use Rattle.uc_components.specs.Searched.{flag, IsHome}
use Rattle.uc_components.specs.Links.{IsLink, AreLinks, IsCovered}
use Rattle.uc_components.specs.Order.{Stage, IsStage, IsFree, IsKnown, AllKnown, IsMembers, IsTaken, ArePlaced, IsOrderUpTo}
use Rattle.uc_components.proofs.Members.{first_in}
use Rattle.uc_components.proofs.Stages.{edge_in, edge_value, flag_along}
use Rattle.uc_components.proofs.Taking.{bool_cases, differ}

last_in : {g : List (List ℕ)} {u v : ℕ} → InRange g → Reaches g u v → v < length g
last_in {u = u} {v = v} range (one ed) = range u v ed
last_in range (more ed p) = last_in range p

-- references lead to components of a lesser number
pub descending : (g : List (List ℕ)) (home : List ℕ) (count : ℕ) (references referrers : List (List ℕ)) → IsHome g home count → AreLinks g home count references referrers → (c d : ℕ) → Edge references c d → d < c
descending g home count references referrers w links c d ed =
    let l : IsLink g home c d = links.sound c d ed in
    let q : get_or home l.2 0 ≤ get_or home l.1 0 = w.edges l.1 l.2 l.3 l.4 in
    elim (cases_lt d c) [ inl lt ↦ lt | inr ge ↦ absurd (l.0 (omega (arith, l.5, l.6))) ]

module _ (g : List (List ℕ)) (home : List ℕ) (count : ℕ) (references referrers : List (List ℕ)) (w : IsHome g home count) (range : InRange g) (links : AreLinks g home count references referrers)
    (covered : (u v : ℕ) → u < length g → Edge g u v → IsCovered home references u v) where
  together_in : (u v : ℕ) → u < length g → Together g u v → v < length g
  together_in u v lt (inl e) = omega arith
  together_in u v lt (inr p) = last_in range p.0

  leads : (placed : List Bool) (c u v : ℕ) → IsFree references placed c → u < length g → get_or home u 0 ≡ c → Edge g u v → (get_or home v 0 ≡ c) ⊎ (flag placed (get_or home v 0) ≡ true)
  leads placed c u v f lt e ed = elim (covered u v lt ed) [
    | inl q ↦ inl (q ∙ e)
    | inr l ↦ let P : ℕ → Type 0 = λ z. Edge references z (get_or home v 0) in inr (f (get_or home v 0) (subst P e l))
  ]

  ready_free : (placed : List Bool) (before : List ℕ) (v : ℕ) → ArePlaced home placed before → IsReady g before v → IsFree references placed (get_or home v 0)
  ready_free placed before v a r d ed =
      let l : IsLink g home (get_or home v 0) d = links.sound (get_or home v 0) d ed in
      elim (r.referred l.1 l.2 (w.sound v l.1 r.vertex l.3 (sym l.5)) l.4) [
        | inl t ↦ absurd (l.0 (sym l.6 ∙ sym (w.complete v l.2 r.vertex t)))
        | inr c ↦ flag_along placed (get_or home l.2 0) d true l.6 (a.to l.2 (let q : l.2 < length g = range l.1 l.2 l.4 in omega (arith, w.len)) c)
      ]

  ready_new : (placed : List Bool) (before : List ℕ) (v : ℕ) → ArePlaced home placed before → IsReady g before v → flag placed (get_or home v 0) ≡ false
  ready_new placed before v a r = elim (bool_cases (flag placed (get_or home v 0))) [
    | inl t ↦ absurd (r.free (a.from v (omega (arith, w.len, r.vertex)) t))
    | inr f ↦ f
  ]

  next_at : (placed : List Bool) (before xs : List ℕ) (c u : ℕ) → ArePlaced home placed before → IsMembers home c xs → Contains xs u → flag placed c ≡ false → IsFree references placed c
      → ((v : ℕ) → v < length home → flag placed (get_or home v 0) ≡ false → IsFree references placed (get_or home v 0) → u ≤ v) → IsNext g before u xs
  next_at placed before xs c u a m in_xs new free least =
      let o : (u < length home) × (get_or home u 0 ≡ c) = m.sound u in_xs in
      let ul : u < length g = omega (arith, w.len, o.0) in
      record {
        ready = record {
          vertex = ul;
          free = λ b. absurd (differ (sym (a.to u o.0 b) ∙ flag_along placed c (get_or home u 0) false (sym o.1) new));
          referred = λ v y t ed.
              let vl : v < length g = together_in u v ul t in
              let e : get_or home u 0 ≡ get_or home v 0 = w.complete u v ul t in
              let yl : y < length g = range v y ed in
              elim (leads placed c v y free vl (sym e ∙ o.1) ed) [
                | inl q ↦ inl (w.sound u y ul yl (o.1 ∙ sym q))
                | inr p ↦ inr (a.from y (omega (arith, w.len)) p)
              ];
        };
        least = λ v r. least v (omega (arith, w.len, r.vertex)) (ready_new placed before v a r) (ready_free placed before v a r);
        component = record {
          ascending = m.ascending;
          sound = λ v i. let q : (v < length home) × (get_or home v 0 ≡ c) = m.sound v i in w.sound u v ul (omega (arith, w.len, q.0)) (o.1 ∙ sym q.1);
          complete = λ v t. m.complete v (let q : v < length g = together_in u v ul t in omega (arith, w.len)) (sym (w.complete u v ul t) ∙ o.1);
        };
      }

  -- a component more is placed
  placed_more : (placed after : List Bool) (before xs : List ℕ) (c : ℕ) → ArePlaced home placed before → IsMembers home c xs
      → (flag after c ≡ true) → ((d : ℕ) → (d ≡ c → ⊥) → flag after d ≡ flag placed d) → ArePlaced home after (before ++ xs)
  placed_more placed after before xs c a m new other = record {
    to = λ v lt b. elim (cases_eq (get_or home v 0) c) [
      | inl e ↦ ap (λ x. flag after x) e ∙ new
      | inr ne ↦ elim (Contains-append_cases before xs v b) [
        | inl i ↦ other (get_or home v 0) ne ∙ a.to v lt i
        | inr i ↦ absurd (ne (m.sound v i).1)
      ]
    ];
    from = λ v lt p. elim (cases_eq (get_or home v 0) c) [
      | inl e ↦ Contains-append_right before xs v (m.complete v lt e)
      | inr ne ↦ Contains-append_left before xs v (a.from v lt (sym (other (get_or home v 0) ne) ∙ p))
    ];
  }

  members_at : (h : List ℕ) (c : ℕ) (xs : List ℕ) → h ≡ home → IsMembers h c xs → IsMembers home c xs
  members_at h c xs e m = let P : List ℕ → Type 0 = λ z. IsMembers z c xs in subst P e m

  taken_next : (s t : Stage) (members before : List ℕ) → s.home ≡ home → IsTaken references s t members → ArePlaced home s.placed before → IsNext g before (get_or members 0 0) members
  taken_next s t members before e k a =
      let P : List ℕ → Type 0 = λ z. (v : ℕ) → v < length z → flag s.placed (get_or z v 0) ≡ false → IsFree references s.placed (get_or z v 0) → get_or members 0 0 ≤ v in
      next_at s.placed before members k.part (get_or members 0 0) a (members_at s.home k.part members e k.is_part) (first_in members k.filled) k.new k.free (subst P e k.least)

  taken_placed : (s t : Stage) (members before : List ℕ) → s.home ≡ home → IsTaken references s t members → ArePlaced home s.placed before → ArePlaced home t.placed (before ++ members)
  taken_placed s t members before e k a =
      let P : List Bool → Type 0 = λ z. ArePlaced home z (before ++ members) in
      subst P (sym k.placed) (placed_more s.placed (set s.placed k.part true) before members k.part a (members_at s.home k.part members e k.is_part)
      (get_or-set_same s.placed k.part true false k.below) (λ d ne. get_or-set_other s.placed k.part d true false ne))

  -- one component more, in order
  order_more : (before : List ℕ) (cs : List (List ℕ)) (after : List ℕ) (u : ℕ) (xs : List ℕ) → IsOrderUpTo g before cs after → IsNext g after u xs → IsOrderUpTo g before (cs ++ xs ∷ []) (after ++ xs)
  order_more before [] after u xs e n =
      let P : List ℕ → Type 0 = λ z. IsNext g z u xs in
      ((u, subst P (sym e) n), ap (λ z. z ++ xs) e)
  order_more before (c ∷ cs) after u xs o n = (o.0, order_more (before ++ c) cs after u xs o.1 n)

  pub order_step : (s t : Stage) (members : List ℕ) (cs : List (List ℕ)) → s.home ≡ home → IsTaken references s t members
      → (before : List ℕ) × IsOrderUpTo g [] cs before × ArePlaced home s.placed before → (before : List ℕ) × IsOrderUpTo g [] (cs ++ members ∷ []) before × ArePlaced home t.placed before
  order_step s t members cs e k o = (o.0 ++ members, order_more [] cs o.0 (get_or members 0 0) members o.1 (taken_next s t members o.0 e k o.2), taken_placed s t members o.0 e k o.2)

  order_done : (before : List ℕ) (cs : List (List ℕ)) (after : List ℕ) → IsOrderUpTo g before cs after → ((v : ℕ) → v < length g → Contains after v) → IsOrderFrom g before cs
  order_done before [] after e all = λ v lt. let P : List ℕ → Type 0 = λ z. Contains z v in subst P (sym e) (all v lt)
  order_done before (c ∷ cs) after o all = (o.0, order_done (before ++ c) cs after o.1 all)

  -- where nothing is ready, nothing waits
  all_below : (s : Stage) → IsStage references s → AllKnown references s → ((x : ℕ) → Contains s.ready x → ⊥) → (n c : ℕ) → c < n → c < length s.placed → flag s.placed c ≡ true
  all_below s h all none zero c lt cl = absurd (omega arith)
  all_below s h all none (suc n) c lt cl = elim (bool_cases (flag s.placed c)) [
    | inl t ↦ t
    | inr f ↦ elim (all c cl f) [
      | inl m ↦ absurd (none (get_or (row s.parts c) 0 0) m)
      | inr k ↦
          let d : ℕ = get_or (row references c) (get_or s.cursors c 0) 0 in
          let dl : d < c = h.descends c d (edge_value references c (get_or s.cursors c 0) k.0) in
          absurd (differ (sym (all_below s h all none n d (omega arith) (omega arith)) ∙ k.1))
    ]
  ]

  pub finished : (s : Stage) (cs : List (List ℕ)) → s.home ≡ home → IsStage references s → AllKnown references s → ((x : ℕ) → Contains s.ready x → ⊥)
      → (before : List ℕ) × IsOrderUpTo g [] cs before × ArePlaced home s.placed before → IsOrderFrom g [] cs
  finished s cs e h all none o = order_done [] cs o.0 o.1 (λ v lt.
      let vl : v < length home = omega (arith, w.len) in
      let le : length s.home ≡ length home = ap (λ z. length z) e in
      let q : get_or s.home v 0 < length s.placed = h.home_in v (omega arith) in
      let f : get_or s.home v 0 ≡ get_or home v 0 = ap (λ z. get_or z v 0) e in
      o.2.from v vl (all_below s h all none (get_or home v 0 + 1) (get_or home v 0) (omega arith) (omega arith)))

  pub nothing_placed : (placed : List Bool) → ((c : ℕ) → flag placed c ≡ false) → (before : List ℕ) × IsOrderUpTo g [] [] before × ArePlaced home placed before
  nothing_placed placed new = ([], refl, record { to = λ v lt b. absurd (omega (arith, b.1)); from = λ v lt p. absurd (differ (sym p ∙ new (get_or home v 0))) })

-- nothing is placed yet
pub start_stage : (references parts : List (List ℕ)) (home cursors ready : List ℕ) (placed : List Bool) (count : ℕ) → length references ≡ count → length parts ≡ count → length placed ≡ count → length cursors ≡ count
    → ((v : ℕ) → v < length home → get_or home v 0 < count) → ((c d : ℕ) → Edge references c d → d < c) → ((c : ℕ) → c < count → IsMembers home c (row parts c))
    → ((c : ℕ) → c < count → (v : ℕ) × (v < length home) × (get_or home v 0 ≡ c)) → ((c : ℕ) → get_or cursors c 0 ≡ 0) → ((c : ℕ) → flag placed c ≡ false) → ready ≡ []
    → IsStage references (record { home = home; parts = parts; placed = placed; cursors = cursors; ready = ready })
start_stage references parts home cursors ready placed count rl pl al cl below down members used zeros new none = record {
  len = rl ∙ sym al;
  parts_len = pl ∙ sym al;
  cursors_len = cl ∙ sym al;
  home_in = λ v lt. let q : get_or home v 0 < count = below v lt in omega arith;
  descends = down;
  parts = λ c lt f.
      let cc_lt : c < count = omega arith in
      let m : IsMembers home c (row parts c) = members c cc_lt in
      let u : (v : ℕ) × (v < length home) × (get_or home v 0 ≡ c) = used c cc_lt in
      (m, let i : Contains (row parts c) u.0 = m.complete u.0 u.1 u.2 in omega (arith, i.1));
  passed = λ c k lt kl. absurd (omega (arith, zeros c));
  ready = λ x m. let P : List ℕ → Type 0 = λ z. Contains z x in let i : Contains [] x = subst P none m in absurd (omega (arith, i.1));
  closed = λ c p. absurd (differ (sym p ∙ new c));
}

pub copies : {X : Type 0} (n c : ℕ) (x : X) → get_or (replicate n x) c x ≡ x
copies zero c x = refl
copies (suc n) zero x = refl
copies (suc n) (suc c) x = copies n c x

pub lists_more : (xs : List (Vec ℕ Global)) (v : Vec ℕ Global) → map (λ (x : Vec ℕ Global). x.items) (xs ++ v ∷ []) ≡ map (λ (x : Vec ℕ Global). x.items) xs ++ v.items ∷ []
lists_more [] v = refl
lists_more (x ∷ xs) v = ap (λ ys. x.items ∷ ys) (lists_more xs v)

pub links_at : (g : List (List ℕ)) (home other : List ℕ) (count : ℕ) (references referrers : List (List ℕ)) → home ≡ other → AreLinks g home count references referrers → AreLinks g other count references referrers
links_at g home other count references referrers e h = let P : List ℕ → Type 0 = λ z. AreLinks g z count references referrers in subst P e h

pub covered_in : (g : List (List ℕ)) (home other : List ℕ) (references : List (List ℕ)) → home ≡ other → ((u v : ℕ) → u < length g → Edge g u v → IsCovered home references u v) → (u v : ℕ) → u < length g → Edge g u v → IsCovered other references u v
covered_in g home other references e h = let P : List ℕ → Type 0 = λ z. (u v : ℕ) → u < length g → Edge g u v → IsCovered z references u v in subst P e h

pub some_at : {X : Type 0} (P : X → Type 0) (o : Option X) (x : X) → o ≡ Some x → IfSome o P → P x
some_at {X} P o x e h = let Q : Option X → Type 0 = λ z. IfSome z P in subst Q e h

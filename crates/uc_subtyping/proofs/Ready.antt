-- Lists of instances that are ready to be solved one after another.
use Rattle.std.proofs.Common.{◌≡◌, ℕ, Bool, true, false, eqb, List, [], ◌∷◌, map, refl, sym, ap, ◌∙◌}
use Rattle.std.specs.List.{list_any}
use Rattle.std.proofs.lemmas.Bool.{or_left, or_right, or_parts, and_parts, eq-eqb}
use Rattle.uc_context.specs.declared.entry.Entry.TheVariants.{Exists}
use Rattle.uc_context.specs.Opens.{Open, existential, Opens, none, more, open_size}
use Rattle.uc_context.specs.Contexts.{IsContext, type_under}
use Rattle.uc_context.specs.Entries.{ContextEntries, is_numbered, is_unsolved, declares}
use Rattle.uc_context.specs.Fresh.{AreNew}
use Rattle.uc_context.specs.Variables.{mentions, some_mentions, has_variables, has_variables_of}
use Rattle.uc_subtyping.specs.declared.side.Side.{Side}
use Rattle.uc_subtyping.specs.Instances.{Instances, no_instances, instance, all_at}
use Rattle.uc_subtyping.specs.Readiness.{Has, has_here, has_later, AreDistinct, IsReady}
use Rattle.uc_subtyping.proofs.Absorbing.{absorb}
use Rattle.uc_subtyping.proofs.Extending.{ExtendsByMonotypes, extends-refl, extends-trans}
use Rattle.uc_context.proofs.Solutions.{declared_variable}
use Rattle.uc_subtyping.proofs.Scoped.{up_to, known_among, self_up_to}
use Rattle.uc_subtyping.proofs.Settled.{Settled, settled-under, differ, eqb-flip, unsolved_declared, unsolved_stays}
use Rattle.uc_subtyping.proofs.Turning.{Moved, Turns, Follows, extends-declares, turned_follows, turned_one, turned_known, turned_up_to}

-- an existential is another one
abbrev pub Other : ℕ → ℕ → Type 0
Other x w = eqb w x ≡ false

-- an existential is none of those that are to be instantiated
abbrev pub ApartFrom : Instances → ℕ → Type 0
ApartFrom is w = (n : ℕ) (t : Open) → Has n t is → eqb w n ≡ false

pub ready_rest : (s : Side) (n : ℕ) (t : Open) (rest : Instances) (es fs : ContextEntries) → IsReady es (instance s n t rest) → Turns (Other n) es fs → IsReady fs rest
ready_rest s n t rest es fs ready turn =
    let settled : (m : ℕ) (u : Open) → Has m u rest → Settled es (type_under es u) = λ m u h. settled-under es ready.in_order u (ready.known m u (has_later h)) in
    let same : (u : Open) → type_under fs u ≡ type_under fs (type_under es u) = λ u. sym (absorb es fs turn.extends turn.order u) in
    let part : (m : ℕ) (u : Open) → Has m u rest → Follows (Other n) es (type_under es u) (type_under fs (type_under es u)) =
    λ m u h. turned_follows (Other n) es fs turn (type_under es u) (settled m u h) (λ y my. differ n y (type_under es u) (ready.apart m u n t (has_later h) has_here) my) in
    record {
      in_order = turn.order;
      distinct = ready.distinct.1;
      declared = λ m u h. extends-declares es fs turn.extends m (ready.declared m u (has_later h));
      known = λ m u h. ap (has_variables fs) (same u) ∙ turned_known (Other n) es fs turn (type_under es u) (settled m u h);
      apart = λ m u k v h l. ap (mentions k) (same u) ∙ (part m u h).clear k (ready.declared k v (has_later l)) (ready.distinct.0 k v l) (ready.apart m u k v (has_later h) (has_later l));
      same_size = λ m u h. ap open_size (same u) ∙ (part m u h).size ∙ ready.same_size m u (has_later h);
    }

-- variables of what an existential stands for are known through both
pub known_through : (apart : ℕ → Type 0) (fs gs : ContextEntries) → IsContext fs → Turns apart fs gs → (y : ℕ) → list_any (declares y) fs ≡ true → has_variables (up_to y fs) (type_under fs (existential y)) ≡ true
    → has_variables (up_to y gs) (type_under gs (existential y)) ≡ true
known_through apart fs gs order turn y d k =
    ap (has_variables (up_to y gs)) (sym (absorb fs gs turn.extends turn.order (existential y)))
    ∙ turned_up_to apart fs gs turn y (declared_variable y fs d) (type_under fs (existential y)) (settled-under fs order (existential y) (known_among y fs d (type_under fs (existential y)) k)) k

-- nothing happens
pub turns-none : (es : ContextEntries) → IsContext es → Turns (ApartFrom no_instances) es es
turns-none es order = record {
  extends = extends-refl es;
  order = order;
  moves = λ y u a. record { to = y; is = unsolved_stays y es order u; other = λ w d b n. n };
  known = λ y u. ap (has_variables (up_to y es)) (unsolved_stays y es order u) ∙ self_up_to y es;
}

-- one instance, and the others behind it
module _ (s : Side) (n : ℕ) (t : Open) (rest : Instances) (es fs gs : ContextEntries) (ready : IsReady es (instance s n t rest)) (first : Turns (Other n) es fs) (second : Turns (ApartFrom rest) fs gs) where
  moved_unsolved : (y : ℕ) → list_any (is_unsolved y) es ≡ true → (m : Moved (Other n) es fs y) → list_any (is_unsolved m.to) fs ≡ true
  moved_unsolved y u m = (settled-under fs first.order (existential y) (turned_one (Other n) es fs first y u)).unsolved m.to (ap (mentions m.to) m.is ∙ eq-eqb m.to m.to refl)

  moved_next : (y : ℕ) → list_any (is_unsolved y) es ≡ true → ApartFrom (instance s n t rest) y → Moved (ApartFrom (instance s n t rest)) es gs y
  moved_next y u a =
      let m : Moved (Other n) es fs y = first.moves y u (a n t has_here) in
      let b : ApartFrom rest m.to = λ k v h. m.other k (ready.declared k v (has_later h)) (ready.distinct.0 k v h) (a k v (has_later h)) in
      let l : Moved (ApartFrom rest) fs gs m.to = second.moves m.to (moved_unsolved y u m) b in
      record {
        to = l.to;
        is = sym (absorb fs gs second.extends second.order (existential y)) ∙ ap (type_under gs) m.is ∙ l.is;
        other = λ w d aw ne. l.other w (extends-declares es fs first.extends w d) (λ k v h. aw k v (has_later h)) (m.other w d (aw n t has_here) ne);
      }

  pub turns-next : Turns (ApartFrom (instance s n t rest)) es gs
  turns-next = record {
    extends = extends-trans first.extends second.extends;
    order = second.order;
    moves = moved_next;
    known = λ y u. known_through (ApartFrom rest) fs gs first.order second y (extends-declares es fs first.extends y (unsolved_declared y es u)) (first.known y u);
  }

-- instances for the types of a list
module _ (s : Side) (n : ℕ) (t : Open) where
  pub has_number : (ns : List ℕ) (ts : Opens) → Has n t (all_at s ns ts) → list_any (declares n) (map (λ m. Exists m) ns) ≡ true
  has_number [] ts h = elim h [ ]
  has_number (m ∷ ns) none h = elim h [ ]
  has_number (m ∷ ns) (more u ts) has_here = or_left (eqb n n) (list_any (declares n) (map (λ m. Exists m) ns)) (eq-eqb n n refl)
  has_number (m ∷ ns) (more u ts) (has_later h) = or_right (eqb m n) (list_any (declares n) (map (λ m. Exists m) ns)) (has_number ns ts h)

  pub has_new : (ns : List ℕ) (ts : Opens) (es : ContextEntries) → AreNew ns es → Has n t (all_at s ns ts) → list_any (is_numbered n) es ≡ false
  has_new [] ts es new h = elim h [ ]
  has_new (m ∷ ns) none es new h = elim h [ ]
  has_new (m ∷ ns) (more u ts) es new has_here = new.0
  has_new (m ∷ ns) (more u ts) es new (has_later h) = (or_parts (eqb m n) (list_any (is_numbered n) es) (has_new ns ts (Exists m ∷ es) new.1 h)).1

  pub has_part : (ns : List ℕ) (ts : Opens) (es : ContextEntries) (x : ℕ) → has_variables_of es ts ≡ true → ((y : ℕ) → some_mentions y ts ≡ true → list_any (is_unsolved y) es ≡ true) → some_mentions x ts ≡ false → Has n t (all_at s ns ts) → Settled es t × (mentions x t ≡ false)
  has_part [] ts es x k u o h = elim h [ ]
  has_part (m ∷ ns) none es x k u o h = elim h [ ]
  has_part (m ∷ ns) (more v ts) es x k u o has_here = (
    record { known = (and_parts (has_variables es t) (has_variables_of es ts) k).0; unsolved = λ y my. u y (or_left (mentions y t) (some_mentions y ts) my) },
    (or_parts (mentions x t) (some_mentions x ts) o).0,
  )
  has_part (m ∷ ns) (more v ts) es x k u o (has_later h) =
      has_part ns ts es x (and_parts (has_variables es v) (has_variables_of es ts) k).1 (λ y my. u y (or_right (mentions y v) (some_mentions y ts) my)) (or_parts (mentions x v) (some_mentions x ts) o).1 h

pub distinct_at : (s : Side) (ns : List ℕ) (ts : Opens) (es : ContextEntries) → AreNew ns es → AreDistinct (all_at s ns ts)
distinct_at s [] ts es new = tt
distinct_at s (n ∷ ns) none es new = tt
distinct_at s (n ∷ ns) (more t ts) es new = (
  λ m u h. eqb-flip n m (or_parts (eqb n m) (list_any (is_numbered m) es) (has_new s m u ns ts (Exists n ∷ es) new.1 h)).0,
  distinct_at s ns ts (Exists n ∷ es) new.1,
)

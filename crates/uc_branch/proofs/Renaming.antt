-- Names that move: their fronts, and that they keep their order.
use Rattle.std.proofs.Common.{◌≡◌, ℕ, zero, suc, ◌<◌, ◌≤◌, List, [], ◌∷◌, ◌++◌, length, length-append, get_or, drop, map, Bool, true, false, not, cond, ◌||◌, refl, sym, ap, ◌∙◌, append_assoc, append-nil, arith}
use Rattle.std.proofs.Math.Seq.{drop-append_seam}
use Rattle.std.proofs.lemmas.Bool.{le-leb, leb-true}
use Rattle.std.specs.Prelude.{nat_le}
use Rattle.std.proofs.lemmas.Cmp.{nat_cmp_total, tied_itself}
use Rattle.std.specs.List.{filter, list_any}
use Rattle.std.specs.List.Sorted.{IsStrictlySortedBy}
use Rattle.std.specs.declared.cmp.Ordering.TheVariants.{Less}
use Rattle.uc_base.specs.Name.{is_name, IsName, are_segments, segments_of}
use Rattle.uc_base.specs.declared.reference.Ref.{Ref}
use Rattle.uc_tree.specs.Lookups.{Pairs, pair_order}
use Rattle.uc_branch.specs.Pairs.{name_order, is_same_name}
use Rattle.uc_branch.specs.Moving.{is_below, is_moved, renamed, renamed_pairs, makes_no_name}
use Rattle.uc_branch.proofs.NameOrder.{same_names}
use Rattle.uc_branch.proofs.Prefixes.{rest_from}
use Rattle.uc_branch.proofs.PairEdits.{AllAbove}

-- a name that moves begins with the one that is moved
pub moved_rest : (from name : List ℕ) → is_moved from name ≡ true → (rest : List ℕ) × (name ≡ from ++ rest)
moved_rest from name h = go (is_same_name from name) refl h
  where
    go : (b : Bool) → is_same_name from name ≡ b → (b || is_below from name) ≡ true → (rest : List ℕ) × (name ≡ from ++ rest)
    go true same k = ([], sym (same_names from name same) ∙ sym (append-nil from))
    go false same k = let r = rest_from (from ++ 46 ∷ []) name k in (46 ∷ r.0, r.1 ∙ append_assoc from (46 ∷ []) r.0)

pub moved_longer : (from name : List ℕ) → is_moved from name ≡ true → length from ≤ length name
moved_longer from name h = let r = moved_rest from name h in omega (arith, ap length r.1, length-append from r.0)

pub renamed_is : (from to name : List ℕ) (h : is_moved from name ≡ true) → renamed from to name ≡ to ++ (moved_rest from name h).0
renamed_is from to name h =
    let r = moved_rest from name h in
    ap (λ (x : List ℕ). to ++ drop (length from) x) r.1 ∙ ap (λ (x : List ℕ). to ++ x) (drop-append_seam from r.0)

-- texts with one front are in the order of the rests
order_behind : (front a b : List ℕ) → name_order (front ++ a) (front ++ b) ≡ name_order a b
order_behind [] a b = refl
order_behind (c ∷ front) a b = rw (tied_itself nat_cmp_total c) (order_behind front a b)

pub keeps_order : (from to m n : List ℕ) → is_moved from m ≡ true → is_moved from n ≡ true → name_order m n ≡ Less → name_order (renamed from to m) (renamed from to n) ≡ Less
keeps_order from to m n h k e =
    let r = moved_rest from m h in
    let s = moved_rest from n k in
    rw (renamed_is from to m h, renamed_is from to n k) (order_behind to r.0 s.0 ∙ (sym (order_behind from r.0 s.0) ∙ (ap (λ (x : List ℕ). name_order x (from ++ s.0)) (sym r.1) ∙ (ap (name_order m) (sym s.1) ∙ e))))

or_true : (b : Bool) → (b || true) ≡ true
or_true true = refl
or_true false = refl

module _ (from to : List ℕ) where
  all_renamed : (m : List ℕ) → is_moved from m ≡ true → (ps : Pairs) → AllAbove m ps → AllAbove (renamed from to m) (renamed_pairs from to ps)
  all_renamed m h [] a = tt
  all_renamed m h (p ∷ ps) a = go (is_moved from p.0) refl (all_renamed m h ps a.1)
    where
      go : (b : Bool) → is_moved from p.0 ≡ b → AllAbove (renamed from to m) (renamed_pairs from to ps) → AllAbove (renamed from to m) (map (λ q. (renamed from to q.0, q.1)) (cond b (p ∷ filter (λ q. is_moved from q.0) ps) (filter (λ q. is_moved from q.0) ps)))
      go true k rest = (keeps_order from to m p.0 h k a.0, rest)
      go false k rest = rest

  -- names that move keep their order
  pub sorted_renamed : (ps : Pairs) → IsStrictlySortedBy pair_order ps → IsStrictlySortedBy pair_order (renamed_pairs from to ps)
  unfolding IsStrictlySortedBy
  sorted_renamed [] s = tt
  sorted_renamed (p ∷ ps) s = go (is_moved from p.0) refl (sorted_renamed ps s.1)
    where
      go : (b : Bool) → is_moved from p.0 ≡ b → IsStrictlySortedBy pair_order (renamed_pairs from to ps) → IsStrictlySortedBy pair_order (map (λ q. (renamed from to q.0, q.1)) (cond b (p ∷ filter (λ q. is_moved from q.0) ps) (filter (λ q. is_moved from q.0) ps)))
      go true k rest = (all_renamed p.0 k ps s.0, rest)
      go false k rest = rest

  -- a new name that is none is found out
  pub no_name_at : (ps : Pairs) (i : ℕ) (p : List ℕ × Ref) → i < length ps → p ≡ get_or ps i p → is_moved from p.0 ≡ true → is_name (renamed from to p.0) ≡ false → makes_no_name from to ps ≡ true
  no_name_at [] i p h is moves bad = absurd (omega (arith, h))
  no_name_at (q ∷ ps) zero p h is moves bad = rw (← is) (rw moves (rw bad refl))
  no_name_at (q ∷ ps) (suc i) p h is moves bad = go (is_moved from q.0) (no_name_at ps i p (omega (arith, h)) is moves bad)
    where
      go : (b : Bool) → makes_no_name from to ps ≡ true → list_any (λ (r : List ℕ × Ref). not (is_name r.0)) (map (λ r. (renamed from to r.0, r.1)) (cond b (q ∷ filter (λ r. is_moved from r.0) ps) (filter (λ r. is_moved from r.0) ps))) ≡ true
      go true e = rw e (or_true (not (is_name (renamed from to q.0))))
      go false e = e

pub good_name : (text : List ℕ) → IsName text → is_name text ≡ true
good_name text h = rw (le-leb (length text) 128 h.short, h.segments) refl

pub bad_name : (text : List ℕ) → (IsName text → ⊥) → is_name text ≡ false
bad_name text h = go (nat_le (length text) 128) (are_segments (segments_of text)) refl refl
  where
    go : (a b : Bool) → nat_le (length text) 128 ≡ a → are_segments (segments_of text) ≡ b → is_name text ≡ false
    go false b e k = rw e refl
    go true false e k = rw (e, k) refl
    go true true e k = absurd (h (record { segments = k; short = leb-true (length text) 128 e }))

-- Counting the hashes that begin with some digits, one after another.
use Rattle.std.proofs.Common.{◌≡◌, ℕ, zero, suc, ◌+◌, ◌<◌, ◌≤◌, Bool, true, false, List, [], ◌∷◌, length, get_or, take, drop, nat_eq, add-one, drop-cons, arith, refl}
use Rattle.std.specs.List.{filter}
use Rattle.std.specs.Cmp.Lexicographic.{pointwise}
use Rattle.std.specs.declared.boxed.Box.{Box}
use Rattle.hex.specs.Hex.{encode_lower}
use Rattle.uc_base.specs.declared.hash.Hash.{Hash}
use Rattle.uc_tree.specs.declared.lookups.Found.{Found}
use Rattle.uc_tree.specs.declared.lookups.Found.TheVariants as found
use Rattle.uc_tree.specs.Lookups.{begins_with, found_among}
use Rattle.uc_store.specs.Entries.{Entry}
use Rattle.uc_store.specs.Places.{boxed}
use Rattle.uc_store.specs.Table.{hashes_of}

pub begins_as : (ds text : List ℕ) → pointwise nat_eq ds (take (length ds) text) ≡ begins_with ds text
begins_as [] text = refl
begins_as (d ∷ ds) [] = refl
begins_as (d ∷ ds) (c ∷ text) = go (begins_as ds text) (nat_eq d c) refl
  where
    go : pointwise nat_eq ds (take (length ds) text) ≡ begins_with ds text → (b : Bool) → nat_eq d c ≡ b → pointwise nat_eq (d ∷ ds) (take (length (d ∷ ds)) (c ∷ text)) ≡ begins_with (d ∷ ds) (c ∷ text)
    go rest true e = rw e rest
    go rest false e = rw e refl

-- what was found among some hashes, with more that begin with the digits
abbrev pub more : Found → List Hash → Found
more found.None hashes = found_among hashes
more (found.One h) hashes = found_among (h ∷ hashes)
more found.Many hashes = found.Many

abbrev pub has_digits : List ℕ → Hash → Bool
has_digits digits h = begins_with digits (encode_lower h.0)

pub step_none : (digits : List ℕ) (f : Found) (h : Hash) (hashes : List Hash) → has_digits digits h ≡ false → more f (filter (has_digits digits) (h ∷ hashes)) ≡ more f (filter (has_digits digits) hashes)
step_none digits f h hashes e = rw e refl

pub step_first : (digits : List ℕ) (h : Hash) (hashes : List Hash) → has_digits digits h ≡ true → more found.None (filter (has_digits digits) (h ∷ hashes)) ≡ more (found.One h) (filter (has_digits digits) hashes)
step_first digits h hashes e = rw e refl

pub step_many : (digits : List ℕ) (g h : Hash) (hashes : List Hash) → has_digits digits h ≡ true → more (found.One g) (filter (has_digits digits) (h ∷ hashes)) ≡ found.Many
step_many digits g h hashes e = rw e refl

pub step_end : (f : Found) → more f [] ≡ f
step_end found.None = refl
step_end (found.One h) = refl
step_end found.Many = refl

-- the hashes from a place on
pub hashes_from : {A : Type 0} (entries : List (Box Entry A)) (i : ℕ) (b : Box Entry A) → i < length entries → b ≡ get_or entries i b
    → hashes_of (boxed (drop i entries)) ≡ b.value.hash ∷ hashes_of (boxed (drop (i + 1) entries))
hashes_from entries i b l e = rw (add-one, drop-cons entries i b, ← e) refl

pub hashes_past : {A : Type 0} (entries : List (Box Entry A)) (i : ℕ) → length entries ≤ i → hashes_of (boxed (drop i entries)) ≡ []
hashes_past [] zero l = refl
hashes_past [] (suc i) l = refl
hashes_past (b ∷ entries) zero l = absurd (omega arith)
hashes_past (b ∷ entries) (suc i) l = hashes_past entries i (omega arith)

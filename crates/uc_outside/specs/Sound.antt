-- A disk in memory tells what a disk has to.
use Rattle.std.specs.Prelude.{◌≡◌, ℕ, List, [], ◌∷◌, length, refl}
use Rattle.std.proofs.Common.{inl, sym, subst, arith}
use Rattle.std.proofs.lemmas.List.{take_all}
use Rattle.uc_outside.specs.Call.{Call, Wrote, Spoilt, Synced}
use Rattle.uc_outside.specs.Disk.{Torn, IsSound}
use Rattle.uc_outside.specs.Replay.{over, contents, images, told_by}

pub torn_here : (at n : ℕ) (c : List ℕ) → Torn at n c c
torn_here at n c = record { before = refl; after = refl; no_shorter = omega arith; no_longer = omega arith }

-- what a read gives is an image
pub read_is_image : (calls : List Call) (file : List ℕ) (before : List ℕ → Type 0) → before file → images file before calls (contents file calls)
read_is_image [] file before here = here
read_is_image (Wrote at bytes ∷ calls) file before here = read_is_image calls (over file at bytes) _ (inl refl)
read_is_image (Spoilt at len ∷ calls) file before here = read_is_image calls file _ (file, here, torn_here at len file)
read_is_image (Synced ∷ calls) file before here = read_is_image calls file _ refl

pub told_by_sound : (first : List ℕ) (calls : List Call) → IsSound (told_by first calls)
told_by_sound first calls = record {
  seen_left = read_is_image calls first (λ d. d ≡ first) refl;
  counts_now = λ t c le now. (length calls, le, omega arith, subst (λ (l : List Call). images first (λ d. d ≡ first) l c) (sym (take_all (length calls) calls (omega arith))) now);
  only_now = λ c left. subst (λ (l : List Call). images first (λ d. d ≡ first) l c) (take_all left.0 calls left.1) left.3;
}

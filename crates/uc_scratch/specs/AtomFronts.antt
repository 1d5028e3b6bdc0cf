-- What stands at the front of tokens, as the readers of types and patterns see it.
use Rattle.std.specs.Prelude.{◌≡◌, ◌⊎◌, false, List, ◌∷◌}
use Rattle.uc_scratch.specs.declared.written.Con.{Con}
use Rattle.uc_scratch.specs.declared.terminal.Terminal.{Terminal}
use Rattle.uc_scratch.specs.declared.terminal.Terminal.TheVariants as terminal
use Rattle.uc_scratch.specs.declared.atom_front.AtomFront.{AtomFront}
use Rattle.uc_scratch.specs.declared.atom_front.AtomFront.TheVariants.{Variable, Path, Reference, Wildcard, Literal, Left, LeftSquare, Other}
use Rattle.uc_scratch.specs.Terminals.{IsCon}
use Rattle.uc_scratch.specs.Follows.{begins_pattern_atom}

-- what an atom begins with, and what stands behind it
abbrev pub IsAtomFront : List Terminal → AtomFront → Type 0
IsAtomFront ts (Variable w us) = ts ≡ terminal.Small w.now ∷ us.now
IsAtomFront ts (Path w us) = (ts ≡ terminal.Capital w.now ∷ us.now) ⊎ (ts ≡ terminal.Dotted w.now ∷ us.now)
IsAtomFront ts (Reference r us) = ts ≡ terminal.Reference r.now ∷ us.now
IsAtomFront ts (Wildcard p us) = ts ≡ terminal.Wildcard p ∷ us.now
IsAtomFront ts (Literal l us) = ts ≡ terminal.Literal l.now ∷ us.now
IsAtomFront ts (Left p us) = ts ≡ terminal.Left p ∷ us.now
IsAtomFront ts (LeftSquare p us) = ts ≡ terminal.LeftSquare p ∷ us.now
IsAtomFront ts Other = (t : Terminal) (us : List Terminal) → ts ≡ t ∷ us → begins_pattern_atom t ≡ false

-- the name of a constructor or of a declared type at the front, and what stands behind it
pub data BeginsCon : List Terminal → Con → List Terminal → Type 0 where
  begins_con : {t : Terminal} {c : Con} {ts : List Terminal} → IsCon t c → BeginsCon (t ∷ ts) c ts

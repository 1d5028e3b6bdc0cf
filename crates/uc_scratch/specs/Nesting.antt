-- How brackets and blocks nest.
use Rattle.std.specs.Prelude.{ℕ, zero, suc, Bool, true, false, ◌==◌, List, [], ◌∷◌, Option, Some, None, length, if◌then◌else◌}
use Rattle.std.specs.Option.{option_or, option_map_or}
use Rattle.uc_base.specs.declared.place.Place.{Place}
use Rattle.uc_layout.specs.Tokens.{Seen}
use Rattle.uc_scratch.specs.declared.nesting.Open.{Open}
use Rattle.uc_scratch.specs.declared.nesting.Open.TheVariants.{Bracket, Block}
use Rattle.uc_scratch.specs.declared.nesting.Nests.{Nests}
use Rattle.uc_scratch.specs.declared.nesting.Nests.TheVariants.{OpensBracket, ClosesBracket, OpensBlock, ClosesBlock, Neither}
use Rattle.uc_scratch.specs.declared.terminal.Terminal.{Terminal}
use Rattle.uc_scratch.specs.declared.terminal.Terminal.TheVariants.{Left, Right, LeftSquare, RightSquare, Opens, Closes}
use Rattle.uc_scratch.specs.Terminals.{terminal_of}

-- what a token does to what is open
abbrev pub nests_of : Terminal → Nests
nests_of (Left p) = OpensBracket
nests_of (LeftSquare p) = OpensBracket
nests_of Right = ClosesBracket
nests_of RightSquare = ClosesBracket
nests_of Opens = OpensBlock
nests_of Closes = ClosesBlock
nests_of _ = Neither

-- what is open behind the end of a block: it ends the innermost block, with all that is open inside
abbrev pub behind_block : List Open → List Open
behind_block [] = []
behind_block (Bracket ∷ os) = behind_block os
behind_block (Block ∷ os) = os

-- what is open behind a closing bracket: it closes the innermost bracket, and nothing where none is open
abbrev pub behind_bracket : List Open → List Open
behind_bracket [] = []
behind_bracket (Bracket ∷ os) = os
behind_bracket (Block ∷ os) = Block ∷ os

-- what is open behind a token, the innermost first
abbrev pub open_behind : Nests → List Open → List Open
open_behind OpensBracket os = Bracket ∷ os
open_behind ClosesBracket os = behind_bracket os
open_behind OpensBlock os = Block ∷ os
open_behind ClosesBlock os = behind_block os
open_behind Neither os = os

-- The place of what opens level 129, where this is open: the bracket, or the token before the mark of a block, whose
-- place comes first.
abbrev pub opened_place : Place → Place → Nests → Option Place
opened_place before here OpensBracket = Some here
opened_place before here OpensBlock = Some before
opened_place before here _ = None

-- the first place that opens level 129, behind a token of this place
abbrev pub too_deep_from : Place → List Open → List Seen → Option Place
too_deep_from before os [] = None
too_deep_from before os (t ∷ ts) =
    let n = nests_of (terminal_of t) in
    option_or (if length os == 128 then opened_place before t.place n else None) (too_deep_from t.place (open_behind n os) ts)

-- the first place of a text that opens level 129 of brackets and blocks
abbrev pub too_deep_place : List Seen → Option Place
too_deep_place ts = too_deep_from (record { line = 1; column = 1 }) [] ts

-- how many levels may still be opened behind a token; `None` where it opens one too many
abbrev pub levels_behind : ℕ → Nests → Option ℕ
levels_behind zero OpensBracket = None
levels_behind zero OpensBlock = None
levels_behind (suc n) OpensBracket = Some n
levels_behind (suc n) OpensBlock = Some n
levels_behind n ClosesBracket = Some (suc n)
levels_behind n ClosesBlock = Some (suc n)
levels_behind n Neither = Some n

-- whether never more than so many levels are opened at once from here on
abbrev pub fits : ℕ → List Terminal → Bool
fits n [] = true
fits n (t ∷ ts) = option_map_or (λ m. fits m ts) (levels_behind n (nests_of t)) false

-- Which tokens can go on with what is read up to them.
use Rattle.std.specs.Prelude.{ℕ, Bool, true, false, not, List, [], ◌∷◌}
use Rattle.uc_scratch.specs.declared.terminal.Terminal.{Terminal}
use Rattle.uc_scratch.specs.declared.terminal.Terminal.TheVariants.{Small, Capital, Dotted, Cons, Snoc, Greater, Operator, Wildcard, Literal, Reference, Left, LeftSquare, At, Arrow, AndAnd, OrOr, If, Match, Cases, Let, Closes, Item}

-- whether the next token can begin an atom of a type
abbrev pub begins_type_atom : Terminal → Bool
begins_type_atom (Small w) = true
begins_type_atom (Capital w) = true
begins_type_atom (Dotted w) = true
begins_type_atom (Reference r) = true
begins_type_atom (Left p) = true
begins_type_atom (LeftSquare p) = true
begins_type_atom _ = false

-- whether the next token can't go on with atoms of a type
abbrev pub ends_type_atoms : List Terminal → Bool
ends_type_atoms [] = true
ends_type_atoms (t ∷ ts) = not (begins_type_atom t)

-- whether the next token can't go on with a type
abbrev pub ends_type : List Terminal → Bool
ends_type (Arrow ∷ ts) = false
ends_type ts = ends_type_atoms ts

-- whether the next token can't go on with variables
abbrev pub ends_variables : List Terminal → Bool
ends_variables (Small w ∷ ts) = false
ends_variables _ = true

-- whether a token can begin an atom of a pattern
abbrev pub begins_pattern_atom : Terminal → Bool
begins_pattern_atom (Small w) = true
begins_pattern_atom (Capital w) = true
begins_pattern_atom (Dotted w) = true
begins_pattern_atom (Wildcard p) = true
begins_pattern_atom (Literal l) = true
begins_pattern_atom (Reference r) = true
begins_pattern_atom (Left p) = true
begins_pattern_atom (LeftSquare p) = true
begins_pattern_atom _ = false

-- whether the next token isn't `@`
abbrev pub ends_name : List Terminal → Bool
ends_name (At ∷ ts) = false
ends_name _ = true

-- whether the next token can't go on with atoms of a pattern
abbrev pub ends_pattern_atoms : List Terminal → Bool
ends_pattern_atoms [] = true
ends_pattern_atoms (At ∷ ts) = false
ends_pattern_atoms (t ∷ ts) = not (begins_pattern_atom t)

-- whether the next token can't go on with a pattern
abbrev pub ends_pattern : List Terminal → Bool
ends_pattern (Cons w ∷ ts) = false
ends_pattern (Snoc w ∷ ts) = false
ends_pattern ts = ends_pattern_atoms ts

-- With what of an expression a token can go on: 0 with atoms, 1 with a form behind them, 2 with operands and operators, 3
-- with `&&`, 4 with `||`, 5 with the parameters and the arrow of a lambda, 6 with nothing.
abbrev pub goes_on : Terminal → ℕ
goes_on (Small w) = 0
goes_on (Capital w) = 0
goes_on (Dotted w) = 0
goes_on (Literal l) = 0
goes_on (Reference r) = 0
goes_on (Left p) = 0
goes_on (LeftSquare p) = 0
goes_on (If p) = 1
goes_on (Match p) = 1
goes_on (Cases p) = 1
goes_on (Let p) = 1
goes_on (Cons w) = 2
goes_on (Snoc w) = 2
goes_on (Greater w) = 2
goes_on (Operator w) = 2
goes_on AndAnd = 3
goes_on OrOr = 4
goes_on Arrow = 5
goes_on (Wildcard p) = 5
goes_on _ = 6

-- with what the next token can go on
abbrev pub reach : List Terminal → ℕ
reach [] = 6
reach (t ∷ ts) = goes_on t

-- whether the next token is no parameter
abbrev pub ends_params : List Terminal → Bool
ends_params [] = true
ends_params (Small w ∷ ts) = false
ends_params (Capital w ∷ ts) = false
ends_params (Wildcard p ∷ ts) = false
ends_params _ = true

-- whether the next token is no name of a `use`
abbrev pub ends_used : List Terminal → Bool
ends_used [] = true
ends_used (Small w ∷ ts) = false
ends_used (Capital w ∷ ts) = false
ends_used (Cons w ∷ ts) = false
ends_used (Snoc w ∷ ts) = false
ends_used (Greater w ∷ ts) = false
ends_used (Operator w ∷ ts) = false
ends_used _ = true

-- whether an item or the end of a block is next, which end a case
abbrev pub ends_case : List Terminal → Bool
ends_case (Item p ∷ ts) = true
ends_case (Closes ∷ ts) = true
ends_case _ = false

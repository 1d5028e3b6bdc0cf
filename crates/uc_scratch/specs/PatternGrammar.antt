-- The grammar of patterns. Each relation says: the first tokens are read so, and the last ones stand behind them.
use Rattle.std.specs.Prelude.{List, [], ◌∷◌}
use Rattle.uc_base.specs.declared.place.Place.{Place}
use Rattle.uc_scratch.specs.declared.written.Written.{Written}
use Rattle.uc_scratch.specs.declared.written.Con.{Con}
use Rattle.uc_scratch.specs.declared.written.Literal as written
use Rattle.uc_scratch.specs.declared.terminal.Terminal.{Terminal}
use Rattle.uc_scratch.specs.declared.terminal.Terminal.TheVariants.{Small, Cons, Snoc, Wildcard, Literal, Left, Right, LeftSquare, RightSquare, Comma, At}
use Rattle.uc_scratch.specs.Patterns.{Pattern, cons, snocs, PatternOperand, applied, atom, PatternAtom, any, variable, named, literal, constant, unit, group, tuple, list, Patterns, none, more, PatternOperands, no_operand, more_operands, PatternAtoms, no_atom, more_atoms}
use Rattle.uc_scratch.specs.Terminals.{IsCon}

mutual
  -- pattern = papp '+:' pattern | papp (':+' papp)*
  pub data ReadsPattern : List Terminal → Pattern → List Terminal → Type 0 where
    cons_pattern : {w : Written} {a : PatternOperand} {p : Pattern} {ts us vs : List Terminal}
        → ReadsPatternOperand ts a (Cons w ∷ us) → ReadsPattern us p vs → ReadsPattern ts (cons a p) vs
    snoc_pattern : {a : PatternOperand} {bs : PatternOperands} {ts us vs : List Terminal}
        → ReadsPatternOperand ts a us → ReadsSnocs us bs vs → ReadsPattern ts (snocs a bs) vs

  -- (':+' papp)*
  pub data ReadsSnocs : List Terminal → PatternOperands → List Terminal → Type 0 where
    no_snoc : {ts : List Terminal} → ReadsSnocs ts no_operand ts
    more_snocs : {w : Written} {a : PatternOperand} {bs : PatternOperands} {ts us vs : List Terminal}
        → ReadsPatternOperand ts a us → ReadsSnocs us bs vs → ReadsSnocs (Snoc w ∷ ts) (more_operands a bs) vs

  -- papp = con patom+ | patom
  pub data ReadsPatternOperand : List Terminal → PatternOperand → List Terminal → Type 0 where
    applied_pattern : {t : Terminal} {c : Con} {a : PatternAtom} {bs : PatternAtoms} {ts us : List Terminal}
        → IsCon t c → ReadsPatternAtoms ts (more_atoms a bs) us → ReadsPatternOperand (t ∷ ts) (applied c (more_atoms a bs)) us
    atom_pattern : {a : PatternAtom} {ts us : List Terminal} → ReadsPatternAtom ts a us → ReadsPatternOperand ts (atom a) us

  -- patom*
  pub data ReadsPatternAtoms : List Terminal → PatternAtoms → List Terminal → Type 0 where
    no_pattern_atom : {ts : List Terminal} → ReadsPatternAtoms ts no_atom ts
    more_pattern_atoms : {a : PatternAtom} {bs : PatternAtoms} {ts us vs : List Terminal}
        → ReadsPatternAtom ts a us → ReadsPatternAtoms us bs vs → ReadsPatternAtoms ts (more_atoms a bs) vs

  -- patom = '_' | var | var '@' patom | literal | con | '(' ')' | '(' pattern ')' | '(' pattern (',' pattern)+ ')'
  --       | '[' [pattern (',' pattern)*] ']'
  pub data ReadsPatternAtom : List Terminal → PatternAtom → List Terminal → Type 0 where
    any_pattern : {p : Place} {ts : List Terminal} → ReadsPatternAtom (Wildcard p ∷ ts) (any p) ts
    variable_pattern : {w : Written} {ts : List Terminal} → ReadsPatternAtom (Small w ∷ ts) (variable w) ts
    named_pattern : {w : Written} {a : PatternAtom} {ts us : List Terminal}
        → ReadsPatternAtom ts a us → ReadsPatternAtom (Small w ∷ At ∷ ts) (named w a) us
    literal_pattern : {l : written.Literal} {ts : List Terminal} → ReadsPatternAtom (Literal l ∷ ts) (literal l) ts
    constant_pattern : {t : Terminal} {c : Con} {ts : List Terminal} → IsCon t c → ReadsPatternAtom (t ∷ ts) (constant c) ts
    unit_pattern : {p : Place} {ts : List Terminal} → ReadsPatternAtom (Left p ∷ Right ∷ ts) (unit p) ts
    group_pattern : {p : Place} {x : Pattern} {ts us : List Terminal}
        → ReadsPattern ts x (Right ∷ us) → ReadsPatternAtom (Left p ∷ ts) (group p x) us
    tuple_pattern : {p : Place} {x : Pattern} {xs : Patterns} {ts us vs : List Terminal}
        → ReadsPattern ts x (Comma ∷ us) → ReadsPatterns Right us xs vs → ReadsPatternAtom (Left p ∷ ts) (tuple p (more x xs)) vs
    empty_list_pattern : {p : Place} {ts : List Terminal} → ReadsPatternAtom (LeftSquare p ∷ RightSquare ∷ ts) (list p none) ts
    list_pattern : {p : Place} {xs : Patterns} {ts us : List Terminal}
        → ReadsPatterns RightSquare ts xs us → ReadsPatternAtom (LeftSquare p ∷ ts) (list p xs) us

  -- pattern (',' pattern)* and a closing bracket of this shape
  pub data ReadsPatterns : Terminal → List Terminal → Patterns → List Terminal → Type 0 where
    last_pattern : {t : Terminal} {x : Pattern} {ts us : List Terminal}
        → ReadsPattern ts x (t ∷ us) → ReadsPatterns t ts (more x none) us
    more_patterns : {t : Terminal} {x : Pattern} {xs : Patterns} {ts us vs : List Terminal}
        → ReadsPattern ts x (Comma ∷ us) → ReadsPatterns t us xs vs → ReadsPatterns t ts (more x xs) vs

-- The grammar of types. Each relation says: the first tokens are read so, and the last ones stand behind them.
use Rattle.std.specs.Prelude.{List, [], ◌∷◌}
use Rattle.uc_base.specs.declared.place.Place.{Place}
use Rattle.uc_scratch.specs.declared.written.Written.{Written}
use Rattle.uc_scratch.specs.declared.written.Con.{Con}
use Rattle.uc_scratch.specs.declared.terminal.Terminal.{Terminal}
use Rattle.uc_scratch.specs.declared.terminal.Terminal.TheVariants.{Small, Left, Right, LeftSquare, RightSquare, Comma, Dot, Arrow, Forall}
use Rattle.uc_scratch.specs.TypeExprs.{TypeExpr, quantified, arrow, operand, TypeOperand, applied, atom, TypeAtom, variable, constant, unit, group, tuple, list, TypeExprs, none, more, TypeAtoms, no_atom, more_atoms}
use Rattle.uc_scratch.specs.Terminals.{IsCon}

-- var*
pub data ReadsVariables : List Terminal → List Written → List Terminal → Type 0 where
  no_variable : {ts : List Terminal} → ReadsVariables ts [] ts
  more_variables : {w : Written} {ws : List Written} {ts us : List Terminal}
      → ReadsVariables ts ws us → ReadsVariables (Small w ∷ ts) (w ∷ ws) us

mutual
  -- type = 'forall' var+ '.' type | tapp '->' type | tapp
  pub data ReadsType : List Terminal → TypeExpr → List Terminal → Type 0 where
    forall_type : {p : Place} {w : Written} {ws : List Written} {t : TypeExpr} {ts us vs : List Terminal}
        → ReadsVariables ts (w ∷ ws) (Dot ∷ us) → ReadsType us t vs → ReadsType (Forall p ∷ ts) (quantified p (w ∷ ws) t) vs
    arrow_type : {a : TypeOperand} {t : TypeExpr} {ts us vs : List Terminal}
        → ReadsTypeOperand ts a (Arrow ∷ us) → ReadsType us t vs → ReadsType ts (arrow a t) vs
    operand_type : {a : TypeOperand} {ts us : List Terminal} → ReadsTypeOperand ts a us → ReadsType ts (operand a) us

  -- tapp = con tatom+ | tatom
  pub data ReadsTypeOperand : List Terminal → TypeOperand → List Terminal → Type 0 where
    applied_type : {t : Terminal} {c : Con} {a : TypeAtom} {bs : TypeAtoms} {ts us : List Terminal}
        → IsCon t c → ReadsTypeAtoms ts (more_atoms a bs) us → ReadsTypeOperand (t ∷ ts) (applied c (more_atoms a bs)) us
    atom_type : {a : TypeAtom} {ts us : List Terminal} → ReadsTypeAtom ts a us → ReadsTypeOperand ts (atom a) us

  -- tatom*
  pub data ReadsTypeAtoms : List Terminal → TypeAtoms → List Terminal → Type 0 where
    no_type_atom : {ts : List Terminal} → ReadsTypeAtoms ts no_atom ts
    more_type_atoms : {a : TypeAtom} {bs : TypeAtoms} {ts us vs : List Terminal}
        → ReadsTypeAtom ts a us → ReadsTypeAtoms us bs vs → ReadsTypeAtoms ts (more_atoms a bs) vs

  -- tatom = var | con | '(' ')' | '(' type ')' | '(' type (',' type)+ ')' | '[' type ']'
  pub data ReadsTypeAtom : List Terminal → TypeAtom → List Terminal → Type 0 where
    variable_type : {w : Written} {ts : List Terminal} → ReadsTypeAtom (Small w ∷ ts) (variable w) ts
    constant_type : {t : Terminal} {c : Con} {ts : List Terminal} → IsCon t c → ReadsTypeAtom (t ∷ ts) (constant c) ts
    unit_type : {p : Place} {ts : List Terminal} → ReadsTypeAtom (Left p ∷ Right ∷ ts) (unit p) ts
    group_type : {p : Place} {t : TypeExpr} {ts us : List Terminal}
        → ReadsType ts t (Right ∷ us) → ReadsTypeAtom (Left p ∷ ts) (group p t) us
    tuple_type : {p : Place} {t : TypeExpr} {ss : TypeExprs} {ts us vs : List Terminal}
        → ReadsType ts t (Comma ∷ us) → ReadsTypes us ss vs → ReadsTypeAtom (Left p ∷ ts) (tuple p (more t ss)) vs
    list_type : {p : Place} {t : TypeExpr} {ts us : List Terminal}
        → ReadsType ts t (RightSquare ∷ us) → ReadsTypeAtom (LeftSquare p ∷ ts) (list p t) us

  -- type (',' type)* ')'
  pub data ReadsTypes : List Terminal → TypeExprs → List Terminal → Type 0 where
    last_type : {t : TypeExpr} {ts us : List Terminal} → ReadsType ts t (Right ∷ us) → ReadsTypes ts (more t none) us
    more_types : {t : TypeExpr} {ss : TypeExprs} {ts us vs : List Terminal}
        → ReadsType ts t (Comma ∷ us) → ReadsTypes us ss vs → ReadsTypes ts (more t ss) vs

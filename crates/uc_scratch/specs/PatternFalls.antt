-- Each part of a written pattern is smaller than the pattern.
use Rattle.std.specs.Prelude.{◌+◌, ◌≤◌, max, List, [], ◌∷◌}
use Rattle.std.proofs.Common.{arith}
use denote.Param.Weighed.{most}
use Rattle.uc_scratch.specs.declared.written.Written.{Written}
use Rattle.uc_scratch.specs.declared.pattern.PatternOperand.{PatternOperand}
use Rattle.uc_scratch.specs.declared.pattern.PatternOperand.TheVariants as operand_of
use Rattle.uc_scratch.specs.declared.pattern.PatternAtom.{PatternAtom}
use Rattle.uc_scratch.specs.declared.pattern.PatternForm.{PatternForm}
use Rattle.uc_scratch.specs.declared.pattern.PatternForm.TheVariants as form
use Rattle.uc_scratch.specs.declared.pattern.Pattern.TheInside.{Inside}
use Rattle.uc_scratch.specs.declared.pattern.Pattern.TheDeep.{deep-PatternOperand, deep-PatternAtom, deep-PatternForm}
use Rattle.uc_scratch.specs.Patterns as plain
use Rattle.uc_scratch.specs.Patterns.{Pattern, snocs, patterns_of, pattern_size, operand_size, atom_size, patterns_size, operands_size, atoms_size}
use Rattle.uc_scratch.specs.PatternViews.{pattern_form, names_before, pattern_atom, pattern_atoms, pattern_operand, pattern_operands, heads_before, pattern_of}

some_patterns : (ts : List Pattern) → most (λ t. pattern_size t + 1) ts ≤ patterns_size (patterns_of ts) + 1
some_patterns [] = omega arith
some_patterns (t ∷ ts) = omega (arith, some_patterns ts)

a_form : (a : PatternForm) → deep-PatternForm a ≤ atom_size (pattern_form a)
a_form (form.Any p) = omega arith
a_form (form.Variable w) = omega arith
a_form (form.Literal l) = omega arith
a_form (form.Con c) = omega arith
a_form (form.Unit p) = omega arith
a_form (form.Group p t) = omega arith
a_form (form.Tuple p ts) = omega (arith, some_patterns ts.items)
a_form (form.List p ts) = omega (arith, some_patterns ts.items)

names_size : (ws : List Written) (a : plain.PatternAtom) → atom_size a ≤ atom_size (names_before ws a)
names_size [] a = omega arith
names_size (w ∷ ws) a = omega (arith, names_size ws a)

an_atom : (a : PatternAtom) → deep-PatternAtom a ≤ atom_size (pattern_atom a)
an_atom a = omega (arith, a_form a.form, names_size a.names.items (pattern_form a.form))

some_atoms : (bs : List PatternAtom) → most deep-PatternAtom bs ≤ atoms_size (pattern_atoms bs)
some_atoms [] = omega arith
some_atoms (b ∷ bs) = omega (arith, an_atom b, some_atoms bs)

an_operand : (a : PatternOperand) → deep-PatternOperand a ≤ operand_size (pattern_operand a)
an_operand (operand_of.Applied c bs) = omega (arith, some_atoms bs.items)
an_operand (operand_of.Atom a) = omega (arith, an_atom a)

some_operands : (bs : List PatternOperand) → most deep-PatternOperand bs ≤ operands_size (pattern_operands bs)
some_operands [] = omega arith
some_operands (b ∷ bs) = omega (arith, an_operand b, some_operands bs)

heads_size : (bs : List PatternOperand) (p : Pattern) → pattern_size p ≤ pattern_size (heads_before bs p)
heads_size [] p = omega arith
heads_size (b ∷ bs) p = omega (arith, heads_size bs p)

some_heads : (bs : List PatternOperand) (p : Pattern) → most deep-PatternOperand bs ≤ pattern_size (heads_before bs p)
some_heads [] p = omega arith
some_heads (b ∷ bs) p = omega (arith, an_operand b, some_heads bs p)

pub falls : (p : Inside) → max (most deep-PatternOperand p.heads.items) (max (deep-PatternOperand p.middle) (max (most deep-PatternOperand p.tails.items) 0)) ≤ pattern_size (pattern_of p.heads.items p.middle p.tails.items)
falls p =
    let q = snocs (pattern_operand p.middle) (pattern_operands p.tails.items) in
    omega (arith, some_heads p.heads.items q, heads_size p.heads.items q, an_operand p.middle, some_operands p.tails.items)

-- The pattern that operands stand for.
use Rattle.std.specs.Prelude.{List, [], ◌∷◌}
use Rattle.uc_scratch.specs.declared.written.Written.{Written}
use Rattle.uc_scratch.specs.Patterns.{Pattern, cons, snocs, PatternOperand, applied, atom, PatternAtom, any, variable, named, literal, constant, unit, group, tuple, list, PatternOperands, no_operand, more_operands, PatternAtoms, no_atom, more_atoms, patterns_of}
use Rattle.uc_scratch.specs.declared.pattern.PatternOperand as seen_operand
use Rattle.uc_scratch.specs.declared.pattern.PatternOperand.TheVariants as operand_of
use Rattle.uc_scratch.specs.declared.pattern.PatternAtom as seen_atom
use Rattle.uc_scratch.specs.declared.pattern.PatternForm.{PatternForm}
use Rattle.uc_scratch.specs.declared.pattern.PatternForm.TheVariants as form

abbrev pub pattern_form : PatternForm → PatternAtom
pattern_form (form.Any p) = any p
pattern_form (form.Variable w) = variable w
pattern_form (form.Literal l) = literal l
pattern_form (form.Con c) = constant c
pattern_form (form.Unit p) = unit p
pattern_form (form.Group p t) = group p t.value
pattern_form (form.Tuple p ts) = tuple p (patterns_of ts.items)
pattern_form (form.List p ts) = list p (patterns_of ts.items)

-- names with `@` before an atom
abbrev pub names_before : List Written → PatternAtom → PatternAtom
names_before [] a = a
names_before (w ∷ ws) a = named w (names_before ws a)

abbrev pub pattern_atom : seen_atom.PatternAtom → PatternAtom
pattern_atom a = names_before a.names.items (pattern_form a.form)

abbrev pub pattern_atoms : List seen_atom.PatternAtom → PatternAtoms
pattern_atoms [] = no_atom
pattern_atoms (a ∷ bs) = more_atoms (pattern_atom a) (pattern_atoms bs)

abbrev pub pattern_operand : seen_operand.PatternOperand → PatternOperand
pattern_operand (operand_of.Applied c bs) = applied c (pattern_atoms bs.items)
pattern_operand (operand_of.Atom a) = atom (pattern_atom a)

abbrev pub pattern_operands : List seen_operand.PatternOperand → PatternOperands
pattern_operands [] = no_operand
pattern_operands (a ∷ bs) = more_operands (pattern_operand a) (pattern_operands bs)

-- operands with `+:` behind each, before a pattern
abbrev pub heads_before : List seen_operand.PatternOperand → Pattern → Pattern
heads_before [] p = p
heads_before (a ∷ bs) p = cons (pattern_operand a) (heads_before bs p)

abbrev pub pattern_of : List seen_operand.PatternOperand → seen_operand.PatternOperand → List seen_operand.PatternOperand → Pattern
pattern_of heads middle tails = heads_before heads (snocs (pattern_operand middle) (pattern_operands tails))

-- Each pattern that is meant has as many places as nodes.
use Rattle.std.proofs.Common.{◌≡◌, suc, ◌++◌, length, refl, ap, arith, length-append}
use Rattle.uc_base.specs.declared.place.Place.{Place}
use Rattle.uc_tree.specs.Patterns as trees
use Rattle.uc_tree.specs.Patterns.{Pattern as Tree, Patterns as Trees}
use Rattle.uc_tree.specs.Nodes.{pattern_nodes, patterns_nodes}
use Rattle.uc_scratch.specs.Patterns.{Pattern, cons, snocs, PatternOperand, applied, atom, PatternAtom, any, variable, named, literal, constant, unit, group, tuple, list, Patterns, none, more, PatternOperands, no_operand, more_operands, PatternAtoms, no_atom, more_atoms}
use Rattle.uc_meaning.specs.declared.wanted.Wanted.TheVariants as wanted
use Rattle.uc_meaning.specs.Candidates.{Usings}
use Rattle.uc_meaning.specs.Meanings.{Known, con_meaning}
use Rattle.uc_meaning.specs.Placed.{Placed}
use Rattle.uc_meaning.specs.PatternMeanings.{operand_start, pattern_meaning, snocs_meaning, operand_meaning, atom_meaning, patterns_meaning, atoms_meaning, snoc_at}
use Rattle.uc_resolve.proofs.Answered.{Answers, answer, then_answers, any_answer}

abbrev pub IsPatternPlaced : Placed Tree → Type 0
IsPatternPlaced x = length x.1 ≡ length (pattern_nodes x.0)

abbrev pub ArePatternsPlaced : Placed Trees → Type 0
ArePatternsPlaced x = length x.1 ≡ length (patterns_nodes x.0)

two_patterns : (x y : Placed Tree) → IsPatternPlaced x → IsPatternPlaced y → length (x.1 ++ y.1) ≡ length (pattern_nodes x.0 ++ pattern_nodes y.0)
two_patterns x y h k = simp length-append (omega (arith, h, k))

pattern_before_placed : (x : Placed Tree) (xs : Placed Trees) → IsPatternPlaced x → ArePatternsPlaced xs → length (x.1 ++ xs.1) ≡ length (patterns_nodes (trees.more x.0 xs.0))
pattern_before_placed x xs h k = simp length-append (omega (arith, h, k))

module _ (known : Known) (usings : Usings) where
  mutual
    pub pattern_placed : (x : Pattern) → Answers IsPatternPlaced (pattern_meaning known usings x)
    pattern_placed (cons a p) =
        then_answers _ (operand_placed a) (λ x h. then_answers _ (pattern_placed p) (λ y k. answer (ap suc (two_patterns x y h k))))
    pattern_placed (snocs a bs) = then_answers _ (operand_placed a) (λ x h. snocs_placed (operand_start a) x bs h)

    snocs_placed : (p : Place) (x : Placed Tree) (bs : PatternOperands) → IsPatternPlaced x → Answers IsPatternPlaced (snocs_meaning known usings p x bs)
    snocs_placed p x no_operand h = answer h
    snocs_placed p x (more_operands b bs) h =
        then_answers _ (operand_placed b) (λ y k. snocs_placed p (snoc_at p x y) bs (ap suc (two_patterns x y h k)))

    operand_placed : (a : PatternOperand) → Answers IsPatternPlaced (operand_meaning known usings a)
    operand_placed (applied c bs) =
        then_answers {P = λ _. Unit {0}} _ (any_answer (con_meaning known wanted.Constructor usings c)) (λ x _. then_answers _ (atoms_placed bs) (λ ps h. answer (ap suc h)))
    operand_placed (atom a) = atom_placed a

    atom_placed : (a : PatternAtom) → Answers IsPatternPlaced (atom_meaning known usings a)
    atom_placed (any p) = answer refl
    atom_placed (variable w) = answer refl
    atom_placed (named w a) = then_answers _ (atom_placed a) (λ x h. answer (ap suc h))
    atom_placed (literal l) = answer refl
    atom_placed (constant c) =
        then_answers {P = λ _. Unit {0}} _ (any_answer (con_meaning known wanted.Constructor usings c)) (λ x _. answer refl)
    atom_placed (unit p) = answer refl
    atom_placed (group p t) = pattern_placed t
    atom_placed (tuple p ts) = then_answers _ (patterns_placed ts) (λ xs h. answer (ap suc h))
    atom_placed (list p ts) = then_answers _ (patterns_placed ts) (λ xs h. answer (ap suc h))

    patterns_placed : (ps : Patterns) → Answers ArePatternsPlaced (patterns_meaning known usings ps)
    patterns_placed none = answer refl
    patterns_placed (more p ps) =
        then_answers _ (pattern_placed p) (λ x h. then_answers _ (patterns_placed ps) (λ xs k. answer (pattern_before_placed x xs h k)))

    atoms_placed : (bs : PatternAtoms) → Answers ArePatternsPlaced (atoms_meaning known usings bs)
    atoms_placed no_atom = answer refl
    atoms_placed (more_atoms a bs) =
        then_answers _ (atom_placed a) (λ x h. then_answers _ (atoms_placed bs) (λ xs k. answer (pattern_before_placed x xs h k)))

-- What opens or closes a level: brackets, and marks of blocks.
use Rattle.std.proofs.Common.{◌≡◌, refl, rules, tests}
use Rattle.uc_layout.specs.declared.token.Kind.{Kind}
use Rattle.uc_layout.specs.declared.token.Kind.TheVariants as kind
use Rattle.uc_scratch.specs.declared.written.Written.{Written}
use Rattle.uc_scratch.specs.declared.nesting.Nests.TheVariants.{Neither}
use Rattle.uc_scratch.specs.Terminals.{name_terminal, keyword_terminal, terminal_by}
use Rattle.uc_scratch.specs.Nesting.{nests_of}

name_neither : (w : Written) → nests_of (name_terminal w) ≡ Neither
name_neither w = search (tests, rules)

keyword_neither : (w : Written) → nests_of (keyword_terminal w) ≡ Neither
keyword_neither w = search (tests, rules)

-- what is neither a symbol nor the mark of a block's begin or end
pub kind_neither : (k : Kind) (w : Written) → (k ≡ kind.Symbol → ⊥) → (k ≡ kind.Opens → ⊥) → (k ≡ kind.Closes → ⊥) → nests_of (terminal_by k w) ≡ Neither
kind_neither kind.Name w s o c = name_neither w
kind_neither kind.Wildcard w s o c = refl
kind_neither kind.Keyword w s o c = keyword_neither w
kind_neither kind.Symbol w s o c = absurd (s refl)
kind_neither kind.Nat w s o c = refl
kind_neither kind.Int w s o c = refl
kind_neither kind.Text w s o c = refl
kind_neither kind.Char w s o c = refl
kind_neither kind.Hash w s o c = refl
kind_neither kind.Builtin w s o c = refl
kind_neither kind.Opens w s o c = absurd (o refl)
kind_neither kind.Closes w s o c = absurd (c refl)
kind_neither kind.Item w s o c = refl

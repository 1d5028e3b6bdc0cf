-- That types and patterns are read in one way.
use Rattle.std.specs.Prelude.{◌≡◌, true, List}
use Rattle.uc_scratch.specs.declared.terminal.Terminal.{Terminal}
use Rattle.uc_scratch.specs.TypeExprs.{TypeExpr}
use Rattle.uc_scratch.specs.TypeGrammar.{ReadsType}
use Rattle.uc_scratch.specs.Patterns.{Pattern}
use Rattle.uc_scratch.specs.PatternGrammar.{ReadsPattern}
use Rattle.uc_scratch.specs.Follows.{ends_type, ends_pattern}

-- two types behind the same tokens are equal, each up to a token that can't go on with it, and so is what stands behind
abbrev pub TypeIsUnique : Type 0
TypeIsUnique =
    (ts us vs : List Terminal) (t u : TypeExpr) → ends_type us ≡ true → ends_type vs ≡ true → ReadsType ts t us → ReadsType ts u vs → (t ≡ u) × (us ≡ vs)

-- the same of two patterns
abbrev pub PatternIsUnique : Type 0
PatternIsUnique =
    (ts us vs : List Terminal) (x y : Pattern) → ends_pattern us ≡ true → ends_pattern vs ≡ true → ReadsPattern ts x us → ReadsPattern ts y vs → (x ≡ y) × (us ≡ vs)

-- Types without quantifiers.
use Rattle.uc_tree.specs.Types.{Ty, Tys}
use Rattle.uc_tree.specs.Types as types

abbrev mutual
  -- no quantifier stands in a type
  pub IsMonotype : Ty → Type 0
  IsMonotype (types.variable n) = Unit {0}
  IsMonotype (types.quantified t) = ⊥
  IsMonotype (types.arrow a b) = IsMonotype a × IsMonotype b
  IsMonotype types.unit = Unit {0}
  IsMonotype (types.tuple ts) = AreMonotypes ts
  IsMonotype (types.applied x ts) = AreMonotypes ts

  pub AreMonotypes : Tys → Type 0
  AreMonotypes types.none = Unit {0}
  AreMonotypes (types.more t ts) = IsMonotype t × AreMonotypes ts

-- What an item or a lambda begins with.
use Rattle.std.specs.Prelude.{◌≡◌, true, List, ◌∷◌}
use Rattle.uc_base.specs.declared.place.Place.{Place}
use Rattle.uc_scratch.specs.declared.written.Written.{Written}
use Rattle.uc_scratch.specs.declared.written.Param.{Param}
use Rattle.uc_scratch.specs.declared.written.Head.{Head}
use Rattle.uc_scratch.specs.declared.terminal.Terminal.{Terminal}
use Rattle.uc_scratch.specs.declared.terminal.Terminal.TheVariants.{Equals, Arrow, Colon, Use}
use Rattle.uc_scratch.specs.declared.heads.ItemFront.{ItemFront}
use Rattle.uc_scratch.specs.declared.heads.ItemFront.TheVariants as front
use Rattle.uc_scratch.specs.Terminals.{IsWord, IsPath, IsOperator, IsParam}
use Rattle.uc_scratch.specs.ExprGrammar.{ReadsParams, ReadsUsed, ReadsHead, ReadsBound}
use Rattle.uc_scratch.specs.Follows.{ends_used}

-- the next token is this parameter
pub data IsParamFront : List Terminal → Param → List Terminal → Type 0 where
  param_front : {t : Terminal} {p : Param} {ts : List Terminal} → IsParam t p → IsParamFront (t ∷ ts) p ts

-- the next token is this name of a `use`
pub data IsUsedFront : List Terminal → Written → List Terminal → Type 0 where
  word_front : {t : Terminal} {w : Written} {ts : List Terminal} → IsWord t w → IsUsedFront (t ∷ ts) w ts
  operator_front : {t : Terminal} {w : Written} {ts : List Terminal} → IsOperator t w → IsUsedFront (t ∷ ts) w ts

-- the next token is this operator
pub data IsOperatorFront : List Terminal → Written → List Terminal → Type 0 where
  operator_first : {t : Terminal} {w : Written} {ts : List Terminal} → IsOperator t w → IsOperatorFront (t ∷ ts) w ts

-- parameters and an arrow, with the last tokens behind it
pub data IsLambda : List Terminal → List Param → List Terminal → Type 0 where
  lambda_front : {p : Param} {ps : List Param} {ts us : List Terminal} → ReadsParams ts (p ∷ ps) (Arrow ∷ us) → IsLambda ts (p ∷ ps) us

-- no lambda begins
abbrev pub NoLambda : List Terminal → Type 0
NoLambda ts = (ps : List Param) (us : List Terminal) → IsLambda ts ps us → ⊥

-- `use`, a path, and all names behind it
pub data IsUse : List Terminal → Place → Written → List Written → List Terminal → Type 0 where
  use_front : {p : Place} {t : Terminal} {w : Written} {ws : List Written} {ts us : List Terminal}
      → IsPath t w → ReadsUsed ts ws us → IsUse (Use p ∷ t ∷ ts) p w ws us

-- `use` and a path
pub data IsUsePath : List Terminal → Place → Written → List Terminal → Type 0 where
  use_path : {p : Place} {t : Terminal} {w : Written} {ts : List Terminal} → IsPath t w → IsUsePath (Use p ∷ t ∷ ts) p w ts

-- no `use` begins
abbrev pub NoUse : List Terminal → Type 0
NoUse ts = (p : Place) (w : Written) (ws : List Written) (us : List Terminal) → IsUse ts p w ws us → ⊥

-- a head and `:`
abbrev pub IsSigned : List Terminal → Head → List Terminal → Type 0
IsSigned ts h us = ReadsHead ts h (Colon ∷ us)

-- a head, parameters and `=`
pub data IsPrefix : List Terminal → Head → List Param → List Terminal → Type 0 where
  prefix_front : {h : Head} {ps : List Param} {ts us vs : List Terminal} → ReadsBound ts h us → ReadsParams us ps (Equals ∷ vs) → IsPrefix ts h ps vs

-- an operator between two parameters and `=`
pub data IsInfix : List Terminal → Param → Written → Param → List Terminal → Type 0 where
  infix_front : {t u v : Terminal} {x y : Param} {w : Written} {ts : List Terminal}
      → IsParam t x → IsOperator u w → IsParam v y → IsInfix (t ∷ u ∷ v ∷ Equals ∷ ts) x w y ts

-- neither of these
pub record NoFront (ts : List Terminal) : Type 0 where
  pub no_use : NoUse ts
  pub no_signature : (h : Head) (us : List Terminal) → IsSigned ts h us → ⊥
  pub no_prefix : (h : Head) (ps : List Param) (us : List Terminal) → IsPrefix ts h ps us → ⊥
  pub no_infix : (x : Param) (w : Written) (y : Param) (us : List Terminal) → IsInfix ts x w y us → ⊥

-- what stands at the front of an item, and the tokens behind it
abbrev pub IsItemFront : List Terminal → ItemFront → Type 0
IsItemFront ts (front.Used p w ws us) = IsUse ts p w ws.items us.now × (ends_used us.now ≡ true)
IsItemFront ts (front.Signed h us) = IsSigned ts h us.now
IsItemFront ts (front.Prefix h ps us) = IsPrefix ts h ps.items us.now
IsItemFront ts (front.Infix x w y us) = IsInfix ts x w y us.now
IsItemFront ts front.Other = NoFront ts

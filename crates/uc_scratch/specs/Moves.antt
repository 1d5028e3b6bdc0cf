-- What a reader finds at a stage of an expression.
use Rattle.std.specs.Prelude.{◌≡◌, ℕ, ◌<◌, ◌≤◌, true, List, ◌∷◌, Option, Some, None, length}
use Rattle.uc_base.specs.declared.place.Place.{Place}
use Rattle.uc_scratch.specs.declared.terminal.Terminal.{Terminal}
use Rattle.uc_scratch.specs.declared.walk.Stage.{Stage}
use Rattle.uc_scratch.specs.declared.walk.Stage.TheVariants as stage
use Rattle.uc_scratch.specs.declared.read_exprs.Move.{Move}
use Rattle.uc_scratch.specs.declared.read_exprs.Move.TheVariants.{Takes, Opens, Ends}
use Rattle.uc_scratch.specs.declared.read_exprs.Line.{Line}
use Rattle.uc_scratch.specs.declared.read_exprs.Line.TheVariants as line
use Rattle.uc_scratch.specs.declared.terminal.Terminal.TheVariants.{Left, Arrow, Bar, Closes, Item, Right, Colon, Comma}
use Rattle.uc_scratch.specs.Patterns.{Pattern}
use Rattle.uc_scratch.specs.TypeExprs.{TypeExpr}
use Rattle.uc_scratch.specs.Exprs.{Expr, done, Atom, Block, group, annotated, tuple, Exprs, more}
use Rattle.uc_scratch.specs.ExprViews.{entry_before}
use Rattle.uc_scratch.specs.TypeGrammar.{ReadsType}
use Rattle.uc_scratch.specs.PatternGrammar.{ReadsPattern}
use Rattle.uc_scratch.specs.ExprGrammar.{ReadsExpr, ReadsOr, ReadsExprs, ReadsBlock, ReadsBlockItems}
use Rattle.uc_scratch.specs.Follows.{reach, ends_case}
use Rattle.uc_scratch.specs.Nesting.{fits}
use Rattle.uc_scratch.specs.Walks.{TakesAtom, EndsOperand, EndsExpr, EndsAt, Leads, LeadsInto}

-- a move at this stage
abbrev pub IsMove : Stage → List Terminal → Move → Type 0
IsMove s ts (Takes x next us) = Leads s ts x next us.now
IsMove s ts (Opens f x us) = LeadsInto s ts x f us.now
IsMove s ts Ends = EndsAt s (reach ts) × EndsExpr s

-- a move with an atom or a form, or none where neither stands here
abbrev pub IsPart : List Terminal → Move → Type 0
IsPart ts (Takes x next us) = (s : Stage) → TakesAtom s → Leads s ts x next us.now
IsPart ts (Opens f x us) = (s : Stage) → TakesAtom s → LeadsInto s ts x f us.now
IsPart ts Ends = 2 ≤ reach ts

-- a move with a connective, or none where none stands here
abbrev pub IsConnective : List Terminal → Move → Type 0
IsConnective ts (Takes x next us) = (s : Stage) → EndsOperand s → Leads s ts x next us.now
IsConnective ts (Opens f x us) = ⊥
IsConnective ts Ends = 2 ≤ reach ts → 5 ≤ reach ts

-- what stands in round brackets and is no unit and no operator
pub data IsInside : Place → List Terminal → Atom → List Terminal → Type 0 where
  inside_group : {p : Place} {e : Expr} {ts us : List Terminal} → ReadsExpr ts e (Right ∷ us) done → IsInside p ts (group p e) us
  inside_annotated : {p : Place} {e : Expr} {t : TypeExpr} {ts us vs : List Terminal}
      → ReadsExpr ts e (Colon ∷ us) done → ReadsType us t (Right ∷ vs) → IsInside p ts (annotated p e t) vs
  inside_tuple : {p : Place} {e : Expr} {es : Exprs} {ts us vs : List Terminal}
      → ReadsExpr ts e (Comma ∷ us) done → ReadsExprs Right us es vs → IsInside p ts (tuple p (more e es)) vs

-- a guard that is no lambda, its arrow and a body
pub data ReadsTested : List Terminal → Expr → Block → List Terminal → Type 0 where
  tested : {g : Expr} {b : Block} {ts us vs : List Terminal} → ReadsOr ts g (Arrow ∷ us) done → ReadsBlock us b vs → ReadsTested ts g b vs

abbrev pub NoTested : List Terminal → Type 0
NoTested ts = (g : Expr) (b : Block) (us : List Terminal) → ReadsTested ts g b us → ⊥

-- a guard, its arrow and a body
pub data ReadsGuarded : List Terminal → Expr → Block → List Terminal → Type 0 where
  with_guard : {g : Expr} {b : Block} {ts us vs : List Terminal} → ReadsExpr ts g (Arrow ∷ us) done → ReadsBlock us b vs → ReadsGuarded ts g b vs

-- a case and what ends it
pub data ReadsCase : List Terminal → Pattern → Option Expr → Block → List Terminal → Type 0 where
  plain_case : {x : Pattern} {b : Block} {ts us vs : List Terminal} → ReadsPattern ts x (Arrow ∷ us) → ReadsBlock us b vs → ReadsCase ts x None b vs
  guarded_case : {x : Pattern} {g : Expr} {b : Block} {ts us vs : List Terminal}
      → ReadsPattern ts x (Bar ∷ us) → ReadsGuarded us g b vs → ReadsCase ts x (Some g) b vs

abbrev pub NoGuarded : List Terminal → Type 0
NoGuarded ts = (g : Expr) (b : Block) (us : List Terminal) → ReadsGuarded ts g b us → ends_case us ≡ true → ⊥

abbrev pub NoCase : List Terminal → Type 0
NoCase ts = (x : Pattern) (g : Option Expr) (b : Block) (us : List Terminal) → ReadsCase ts x g b us → ends_case us ≡ true → ⊥

-- the rest of a block
pub record RestOfBlock (ts xs : List Terminal) : Type 0 where
  pub value : Block
  pub read : ReadsBlockItems ts value xs

-- an entry of a block, before the rest of it and nothing else
pub record IsEntry (ts : List Terminal) (before : Block → Block) (us : List Terminal) : Type 0 where
  pub found : (p : Place) (b : Block) (vs : List Terminal) → ReadsBlockItems us b vs → ReadsBlockItems (Item p ∷ ts) (before b) vs
  pub only : (p : Place) (b : Block) (vs : List Terminal) → ReadsBlockItems (Item p ∷ ts) b vs → RestOfBlock us vs
  pub shorter : length us < length ts
  pub fitting : (n : ℕ) → fits n ts ≡ true → fits n us ≡ true

abbrev pub IsLine : List Terminal → Line → Type 0
IsLine ts (line.Entry x us) = IsEntry ts (entry_before x) us.now
IsLine ts (line.Result e us) = ReadsExpr ts e (Closes ∷ us.now) done

abbrev pub NoLine : List Terminal → Type 0
NoLine ts = (p : Place) (b : Block) (us : List Terminal) → ReadsBlockItems (Item p ∷ ts) b us → ⊥

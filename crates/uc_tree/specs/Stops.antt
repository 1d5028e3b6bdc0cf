-- Walks that give no tree, and what stands for targets as the code has it.
use Rattle.std.specs.Prelude.{◌≡◌, Option, Some, None, Result, Ok, Err}
use Rattle.uc_tree.specs.declared.replacing.Stop.{Stop}
use Rattle.uc_tree.specs.declared.replacing.Stop.TheVariants.{Memory, Gone}
use Rattle.uc_tree.specs.declared.replacing.Standing.{Standing}
use Rattle.uc_tree.specs.declared.replacing.Standing.TheVariants.{Images, Members, References}
use Rattle.uc_tree.specs.Replacing.{Replacement, by_images, by_members, by_references}

-- what stands for targets
abbrev pub replacement_of : Standing → Replacement
replacement_of (Images images) = by_images images.now
replacement_of (Members members) = by_members members.now
replacement_of (References numbering) = by_references numbering.now

-- no tree: memory ran out, or there is none
abbrev pub Fails : {Y : Type 0} → Stop → Option Y → Type 0
Fails Memory tree = Unit {0}
Fails Gone tree = tree ≡ None

-- what a walk returned, seen by a view, is the tree or nothing, unless memory ran out
abbrev pub Gives : {X Y : Type 0} → (X → Y) → Result X Stop → Option Y → Type 0
Gives view (Ok x) tree = tree ≡ Some (view x)
Gives view (Err stop) tree = Fails stop tree

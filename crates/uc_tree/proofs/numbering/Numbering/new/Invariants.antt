use Rattle.std.proofs.Common.{◌≡◌, take}
use Rattle.std.specs.BTreeMap.{get}
use Rattle.uc_base.specs.declared.reference.Ref.{Ref}
use Rattle.uc_tree.specs.References.{ref_order, number_of}
use Rattle.uc_tree.proofs.numbering.Numbering.new.Given as goal

abbrev pub invariant-loop-number : goal.invariant-loop-number
invariant-loop-number l = (r : Ref) → get ref_order l.numbers r ≡ number_of r (take l.number l.refs)

use Rattle.std.proofs.Common.{◌≡◌, drop}
use Rattle.uc_base.specs.Name.{is_one_of}
use Rattle.uc_scratch.specs.TypeLevels.{texts_of}
use Rattle.uc_scratch.proofs.quantified.is_written.Given as goal

abbrev pub invariant-loop-name : goal.invariant-loop-name
invariant-loop-name l = is_one_of (texts_of (drop l.name-index l.names)) l.text ≡ is_one_of (texts_of l.names) l.text

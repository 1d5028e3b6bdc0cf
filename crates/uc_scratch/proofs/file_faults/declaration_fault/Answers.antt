use Rattle.std.proofs.Common.{[], sym, ap, ◌∙◌}
use Rattle.uc_scratch.specs.NameFaults.{repeated_among}
use Rattle.uc_scratch.proofs.NameSteps.{declaration_step}
use Rattle.uc_scratch.proofs.file_faults.declaration_fault.Goals as goal

pub returns : goal.returns
returns c = λ is.
    declaration_step _ _ _ _ c.args.declaration.now _ is _ c.deref-2.ensures.value c.in_ok-fault.ensures.fault c.in_ok-fault.ensures.names
    (sym c.in_ok-add.ensures.fault ∙ c.in-None.is)
    (ap (repeated_among []) (sym c.deref.ensures.value) ∙ sym c.in_ok-names_fault.ensures ∙ c.in-None-2.is)
    c.in_ok-add.ensures.names

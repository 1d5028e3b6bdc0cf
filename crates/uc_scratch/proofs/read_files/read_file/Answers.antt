use Rattle.std.proofs.Common.{inr}
use Rattle.std.proofs.lemmas.Result.{err_from_is_err_and}
use Rattle.uc_scratch.proofs.FileSteps.{text, text_room, fault_of_nesting, fault_of_items, fault_of_names}
use Rattle.uc_scratch.proofs.read_files.read_file.Goals as goal

pub returns-in-Some-clause-fault : goal.returns-in-Some-clause-fault
returns-in-Some-clause-fault c = inr (fault_of_nesting _ _ _ _ c.tokens-tokens.ensures c.in_ok-place.ensures c.in-Some.is)

pub read_items-requires : goal.read_items-requires
read_items-requires c = text_room _ _ (text _ _ _ c.tokens-tokens.ensures c.in_ok-place.ensures c.in_default.not-Some)

pub returns-in_err-items-clause-fault : goal.returns-in_err-items-clause-fault
returns-in_err-items-clause-fault c =
    let p = err_from_is_err_and c.from_residual-in_err-items.result c.from_residual-in_err-items.ensures.1 in
    rw (p.1, p.2) (fault_of_items _ _ _ (text _ _ _ c.tokens-tokens.ensures c.in_ok-place.ensures c.in_default.not-Some) c.in_err-items.ensures.fault)

pub returns-in-Some-2-clause-fault : goal.returns-in-Some-2-clause-fault
returns-in-Some-2-clause-fault c =
    inr (fault_of_names _ _ _ _ _ _ (text _ _ _ c.tokens-tokens.ensures c.in_ok-place.ensures c.in_default.not-Some)
    c.in_ok-items.ensures.items c.in_ok-items.ensures.levels c.as_slice.ensures.value c.in_ok-name_fault.ensures c.in-Some-2.is)

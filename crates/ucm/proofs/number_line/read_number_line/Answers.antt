use Rattle.ucm.proofs.Lines.{line_parted, line_number, stands_for, where_none}
use Rattle.std.proofs.Common.{subst, sym}
use Rattle.uc_base.specs.Name.{IsPath}
use Rattle.ucm.proofs.number_line.read_number_line.Goals as goal

pub returns-in_default-clause-none : goal.returns-in_default-clause-none
returns-in_default-clause-none c = λ e name digits line.
    c.in_default.ensures.only name digits (line_parted c.args.text.now name digits line)

pub returns-in_default-number_for-clause-none : goal.returns-in_default-number_for-clause-none
returns-in_default-number_for-clause-none c = λ e name digits line.
    let parts = c.in-Some.ensures.only name digits (line_parted c.args.text.now name digits line) in
    c.in_default-number_for.ensures
    (stands_for c.in-Some.name.now c.in-Some.digits.now name digits parts.0 parts.1 (line_number c.args.text.now name digits line))

pub returns-in-None-clause-none : goal.returns-in-None-clause-none
returns-in-None-clause-none c = λ e name digits line.
    let parts = c.in-Some.ensures.only name digits (line_parted c.args.text.now name digits line) in
    where_none c.in_ok-name.field-0 _ _ c.in-None.is c.in_ok-name.ensures.path (subst IsPath (sym parts.0) line.path)

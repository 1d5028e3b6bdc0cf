use Rattle.std.proofs.Common.{◌≡◌, true, false, refl, sym, ◌∙◌, inl}
use Rattle.uc_branch.specs.Pairs.{is_same_name}
use Rattle.uc_branch.specs.Branches.{main_name}
use Rattle.uc_branch.proofs.BranchEdits.{drop_at, are_left}
use Rattle.uc_branch.proofs.Preparing.{drop_fault_is}
use Rattle.uc_branch.proofs.branches.Branches.prepare_drop.Goals as goal

pub returns-then-eq-clause-refused : goal.returns-then-eq-clause-refused
returns-then-eq-clause-refused c =
    let same : is_same_name c.args.branch.now main_name ≡ c.eq.result = sym (c.eq.ensures ∙ rw (c.text.ensures.value, c.as_slice.ensures) refl) in
    inl (drop_fault_is c.args.branch.now c.args.self.now c.in_ok-at.at true c.in_ok-at.ensures.found (same ∙ c.if-eq.true))

pub returns-clause-fits : goal.returns-clause-fits
returns-clause-fits c =
    let same : is_same_name c.args.branch.now main_name ≡ c.eq.result = sym (c.eq.ensures ∙ rw (c.text.ensures.value, c.as_slice.ensures) refl) in
    record {
      in_range = c.in_ok-at.ensures.found.in_range;
      good = rw (drop_at c.args.branch.now c.args.self.now c.in_ok-at.at c.in_ok-at.ensures.found) (are_left c.args.branch.now c.args.self.now (same ∙ c.if-eq.false) c.in_ok-at.ensures.good);
    }

pub returns-clause-promised : goal.returns-clause-promised
returns-clause-promised c = drop_at c.args.branch.now c.args.self.now c.in_ok-at.at c.in_ok-at.ensures.found

pub returns-clause-accepted : goal.returns-clause-accepted
returns-clause-accepted c =
    let same : is_same_name c.args.branch.now main_name ≡ c.eq.result = sym (c.eq.ensures ∙ rw (c.text.ensures.value, c.as_slice.ensures) refl) in
    drop_fault_is c.args.branch.now c.args.self.now c.in_ok-at.at false c.in_ok-at.ensures.found (same ∙ c.if-eq.false)

use Rattle.std.proofs.Common.{◌<◌, length, refl}
use Rattle.uc_branch.specs.Changes.{advanced, set_back}
use Rattle.uc_branch.proofs.BranchEdits.{set_changed, are_changed, back_keeps}
use Rattle.uc_branch.proofs.branches.Branches.commit.Goals as goal

pub invariant_of-self : goal.invariant_of-self
invariant_of-self c =
    let at = c.in-Advance.at in
    let items = c.self.inside.branches.items in
    let within : at < length items = rw (c.self.view_is) (rw c.in-Advance.is at c.requires.in_range) in
    (rw (c.advance.ensures, set_changed at (advanced c.in-Advance.head) items c.index_mut-branch.result.now within c.index_mut-branch.ensures.value) (are_changed (advanced c.in-Advance.head) (λ b. refl) at items c.self.invariant.0), c.self.invariant.1)

pub invariant_of-self-in-Undo : goal.invariant_of-self-in-Undo
invariant_of-self-in-Undo c =
    let at = c.in-Undo.at in
    let items = c.self.inside.branches.items in
    let within : at < length items = rw (c.self.view_is) (rw c.in-Undo.is at c.requires.in_range) in
    (rw (c.undo.ensures, set_changed at (λ b. set_back b b.past) items c.index_mut-branch-in-Undo.result.now within c.index_mut-branch-in-Undo.ensures.value) (are_changed (λ b. set_back b b.past) back_keeps at items c.self.invariant.0), c.self.invariant.1)

pub returns-in-Advance : goal.returns-in-Advance
returns-in-Advance c =
    let at = c.in-Advance.at in
    let items = c.self.inside.branches.items in
    let within : at < length items = rw (c.self.view_is) (rw c.in-Advance.is at c.requires.in_range) in
    rw (c.advance.ensures, c.in-Advance.is, ← c.self.view_is) (set_changed at (advanced c.in-Advance.head) items c.index_mut-branch.result.now within c.index_mut-branch.ensures.value)

pub returns-in-Undo : goal.returns-in-Undo
returns-in-Undo c =
    let at = c.in-Undo.at in
    let items = c.self.inside.branches.items in
    let within : at < length items = rw (c.self.view_is) (rw c.in-Undo.is at c.requires.in_range) in
    rw (c.undo.ensures, c.in-Undo.is, ← c.self.view_is) (set_changed at (λ b. set_back b b.past) items c.index_mut-branch-in-Undo.result.now within c.index_mut-branch-in-Undo.ensures.value)

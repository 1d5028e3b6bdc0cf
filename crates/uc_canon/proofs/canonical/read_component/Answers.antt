use Rattle.std.proofs.Common.{◌≡◌, subst, rules}
use Rattle.uc_canon.specs.Members.{Members, members_of}
use Rattle.uc_canon.specs.Numbering.{IsOneComponent}
use Rattle.uc_canon.proofs.MemberReading.{canonical_is, least_is}
use Rattle.uc_canon.proofs.canonical.read_component.Goals as goal

pub returns-then-not-branch-clause-none : goal.returns-then-not-branch-clause-none
returns-then-not-branch-clause-none c =
    λ n canonical. let m = members_of c.in-Some.component in
    let same : n ≡ m = canonical_is c.args.bytes.now m n (rw c.in-Some.is at c.in_ok-component.ensures.found) canonical in
    let yes = c.in_ok-is_one_component.ensures.yes.1 (subst (λ (k : Members). IsOneComponent k) same canonical.one) in
    let no = c.if-not-branch.true in
    search rules

pub returns-then-not-branch-2-clause-none : goal.returns-then-not-branch-2-clause-none
returns-then-not-branch-2-clause-none c =
    λ n canonical. let m = members_of c.in-Some.component in
    let yes = c.in_ok-is_least.ensures.yes.1 (least_is c.args.bytes.now m n (rw c.in-Some.is at c.in_ok-component.ensures.found) canonical) in
    let no = c.if-not-branch-2.true in
    search rules

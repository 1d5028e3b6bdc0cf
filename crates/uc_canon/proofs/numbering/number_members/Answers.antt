use Rattle.std.proofs.Common.{List, ℕ, sym, subst}
use Rattle.uc_canon.specs.Members.{members_of, count_of}
use Rattle.uc_canon.specs.Numbering.{IsArrangement}
use Rattle.uc_canon.proofs.Complete.{order_arranged}
use Rattle.uc_canon.proofs.numbering.number_members.Goals as goal

pub returns-clause-arrangement : goal.returns-clause-arrangement
returns-clause-arrangement c =
    let m = members_of c.args.of.now in
    let w = c.in_ok-least.ensures.numbering in
    let P : List ℕ → Type 0 = λ xs. IsArrangement (count_of m) xs in
    subst P (sym w.ordered) (order_arranged m w.start c.requires.one w.below)

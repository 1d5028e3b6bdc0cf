use Rattle.std.proofs.Common.{◌≡◌, [], get_or, true, false, sym, ◌∙◌}
use Rattle.std.specs.BTreeMap.{get}
use Rattle.std.specs.Option.{is_some}
use Rattle.uc_base.specs.declared.reference.Ref.{Ref}
use Rattle.uc_base.specs.declared.reference.Ref.TheVariants.{Def}
use Rattle.uc_tree.specs.References.{ref_order}
use Rattle.uc_tree.proofs.Lists.{get_or-in}
use Rattle.uc_tree.proofs.Numbers.{seen_before, seen_first, all_numbered}
use Rattle.uc_tree.proofs.numbering.Numbering.new.Goals as goal
use Rattle.uc_tree.proofs.numbering.Numbering.new.Goals.{then-not-contains_key+in_ok-insert, else-not-contains_key}

pub loop-number-preserved : goal.loop-number-preserved
loop-number-preserved c =
    let refs = c.args.refs.now in
    let i = c.loop-number.number in
    let s : Ref = get_or refs i (Def (record { 0 = [] }) 0) in
    let is : s ≡ get_or refs i s = get_or-in refs i (Def (record { 0 = [] }) 0) s c.loop-number-test.true in
    elim c.if-not-contains_key.branch [
      | then-not-contains_key+in_ok-insert w ↦
          let unseen : is_some (get ref_order c.loop-number.numbers s) ≡ false = sym c.contains_key.ensures ∙ w.if-not-contains_key.true in
          rw w.numbers-is (seen_first (get ref_order c.loop-number.numbers) refs i s c.loop-number-test.true is c.loop-number.invariant (get ref_order w.insert.new.self) unseen w.in_ok-insert.ensures.updates.0)
      | else-not-contains_key w ↦
          let seen : is_some (get ref_order c.loop-number.numbers s) ≡ true = sym c.contains_key.ensures ∙ w.if-not-contains_key.false in
          rw w.numbers-is (seen_before (get ref_order c.loop-number.numbers) refs i s c.loop-number-test.true is c.loop-number.invariant seen)
    ]

pub invariant_of-result : goal.invariant_of-result
invariant_of-result c = λ r. all_numbered c.args.refs.now c.loop-number.number r (get ref_order c.loop-number.numbers r) c.loop-number-test.false (c.loop-number.invariant r)

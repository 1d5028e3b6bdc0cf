use Rattle.std.proofs.Common.{sym, ap, ◌∙◌, option_map}
use Rattle.uc_branch.specs.Pairs.{pair_name}
use Rattle.uc_tree.specs.References.{is_same_ref}
use Rattle.uc_branch.proofs.Least.{scan_on, scan_hit, scan_end}
use Rattle.uc_branch.proofs.sorted_pairs.first_for.Goals as goal

pub loop-pair-preserved : goal.loop-pair-preserved
loop-pair-preserved c = scan_on (λ p. is_same_ref c.args.of.now p.1) c.args.pairs.now c.loop-pair.pair-index c.pair-item.result c.loop-pair-test.true c.pair-item.is (sym c.is_same.ensures ∙ c.if-is_same.false) c.loop-pair.invariant

pub returns-then-is_same : goal.returns-then-is_same
returns-then-is_same c = sym (ap (option_map pair_name) (scan_hit (λ p. is_same_ref c.args.of.now p.1) c.args.pairs.now c.loop-pair.pair-index c.pair-item.result c.loop-pair-test.true c.pair-item.is (sym c.is_same.ensures ∙ c.if-is_same.true) c.loop-pair.invariant))

pub returns : goal.returns
returns c = sym (ap (option_map pair_name) (scan_end (λ p. is_same_ref c.args.of.now p.1) c.args.pairs.now c.loop-pair.pair-index c.loop-pair-test.false c.loop-pair.invariant))

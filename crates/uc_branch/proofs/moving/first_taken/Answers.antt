use Rattle.std.proofs.Common.{sym, ap, ◌∙◌, option_map}
use Rattle.uc_branch.specs.Pairs.{pair_name, has_pair}
use Rattle.uc_branch.proofs.Least.{least_name_passing, scan_hit, scan_end}
use Rattle.uc_branch.proofs.moving.first_taken.Goals as goal

pub returns-then-has : goal.returns-then-has
returns-then-has c =
    sym (least_name_passing (λ name. has_pair name c.args.staying.now) c.args.new.now c.requires ∙ ap (option_map pair_name) (scan_hit (λ p. has_pair p.0 c.args.staying.now) c.args.new.now c.loop-pair.pair-index c.pair-item.result c.loop-pair-test.true c.pair-item.is (sym c.has.ensures ∙ c.if-has.true) c.loop-pair.invariant))

pub returns : goal.returns
returns c =
    sym (least_name_passing (λ name. has_pair name c.args.staying.now) c.args.new.now c.requires ∙ ap (option_map pair_name) (scan_end (λ p. has_pair p.0 c.args.staying.now) c.args.new.now c.loop-pair.pair-index c.loop-pair-test.false c.loop-pair.invariant))

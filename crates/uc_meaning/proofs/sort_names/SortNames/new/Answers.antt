use Rattle.std.proofs.Common.{ap, ◌∙◌}
use Rattle.uc_base.specs.Name.{is_one_of}
use Rattle.uc_meaning.specs.Candidates.{ending_in}
use Rattle.uc_meaning.specs.Entries.{head_entries, unhidden}
use Rattle.uc_meaning.specs.Suffixes.{ending_at, told_all}
use Rattle.uc_meaning.proofs.Names.{in_order_head}
use Rattle.uc_meaning.proofs.SuffixSteps.{tells, same_words}
use Rattle.uc_meaning.proofs.sort_names.SortNames.new.Goals as goal

pub invariant_of-result : goal.invariant_of-result
invariant_of-result g c =
    let pairs = g.N.Names.pairs c.args.names.now c.args.sort in
    let head = head_entries pairs in
    record {
      names = c.add_head.ensures.names;
      endings = λ w.
          tells w c.args.own head (is_one_of c.args.words.now w) (ending_at c.add_head.new.suffixes w) c.add_to.ensures.order
          (in_order_head pairs (g.N.Names.in_order c.args.names.now c.args.sort))
          (c.add_head.ensures.told w
          ∙ ap (told_all (ending_in (unhidden c.args.own head) w)) (c.add_to.ensures.told w ∙ ap (told_all (ending_in c.args.own w)) (c.in_ok-suffixes.ensures w)));
    }

pub returns-clause-words : goal.returns-clause-words
returns-clause-words g c = λ w.
    same_words w (ending_in (unhidden c.args.own (head_entries (g.N.Names.pairs c.args.names.now c.args.sort))) w) (ending_in c.args.own w) c.add_head.new.suffixes (is_one_of c.args.words.now w)
    (c.add_head.ensures.told w
    ∙ ap (told_all (ending_in (unhidden c.args.own (head_entries (g.N.Names.pairs c.args.names.now c.args.sort))) w))
    (c.add_to.ensures.told w ∙ ap (told_all (ending_in c.args.own w)) (c.in_ok-suffixes.ensures w)))

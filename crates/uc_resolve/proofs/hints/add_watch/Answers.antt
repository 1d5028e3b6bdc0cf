use Rattle.std.proofs.Common.{◌∷◌, ◌++◌, sym, ap, ◌∙◌}
use Rattle.uc_scratch.specs.FileViews.{item_of}
use Rattle.uc_tree.specs.Hints.{names_of}
use Rattle.uc_meaning.specs.Hints.{expr_hints, watches_hints}
use Rattle.uc_resolve.proofs.HintSteps.{member_added}
use Rattle.uc_resolve.proofs.hints.add_watch.Goals as goal

pub returns-in_ok-push-in-Watch : goal.returns-in_ok-push-in-Watch
returns-in_ok-push-in-Watch c = λ is.
    member_added c.args.out.now.items c.push.new.self.items _ (expr_hints c.in-Watch.watch.of) (watches_hints is) c.in_ok-push-in-Watch.ensures.items c.in_ok-expr_names-in-Watch.ensures
    ∙ ap (λ i. names_of c.args.out.now.items ++ watches_hints (item_of i ∷ is)) (sym c.in-Watch.is)

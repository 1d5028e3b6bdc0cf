use Rattle.std.proofs.Common.{List, [], ◌∷◌, ◌++◌, ap, ◌∙◌}
use Rattle.std.proofs.lemmas.Result.{on_ok_weaker}
use Rattle.uc_tree.specs.Terms.{Term}
use Rattle.uc_signatures.specs.PlacedViews.{placed_of}
use Rattle.uc_meaning.specs.Programs.{PlacesOf}
use Rattle.uc_resolve.specs.ItemMeanings.{joined}
use Rattle.uc_resolve.specs.ProgramViews.{draft_of}
use Rattle.uc_resolve.proofs.Joins.{watch_joined}
use Rattle.uc_resolve.proofs.draft.Draft.add_watch.Goals as goal

pub returns : goal.returns
returns c =
    let old = draft_of c.args.self.now in
    on_ok_weaker c.add.result
    (λ added m.
    ap (λ (ws : List Term). joined (record old { watches = ws; places = c.add.new.self }) m) c.in_ok-push.ensures.items
    ∙ ap (λ (p : PlacesOf). joined (record { kinds = old.kinds; ctors = old.ctors; terms = old.terms; watches = old.watches ++ c.args.watch.tree ∷ []; places = p }) m) added
    ∙ watch_joined old m c.args.place (placed_of c.args.watch)) c.add.ensures

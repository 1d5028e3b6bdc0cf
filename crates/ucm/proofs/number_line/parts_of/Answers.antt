use Rattle.std.proofs.Common.{◌≡◌, [], ◌∷◌, ◌++◌, sym, ◌∙◌, ap, drop}
use Rattle.std.proofs.lemmas.List.{append_cancel_right}
use Rattle.ucm.proofs.Lines.{parts_at}
use Rattle.ucm.proofs.number_line.parts_of.Goals as goal

pub returns-in-None-clause-only : goal.returns-in-None-clause-only
returns-in-None-clause-only c = λ name digits parted.
    let end = c.before_space-end.ensures in
    let parts = parts_at c.args.text.now name digits c.before_space-end.result end.within end.before end.space parted in
    c.in-None.ensures (digits ++ 10 ∷ []) parts.rest_is

pub returns-in-None-before_line_feed-clause-only : goal.returns-in-None-before_line_feed-clause-only
returns-in-None-before_line_feed-clause-only c = λ name digits parted.
    let end = c.before_space-end.ensures in
    let parts = parts_at c.args.text.now name digits c.before_space-end.result end.within end.before end.space parted in
    c.in-None-before_line_feed.ensures digits (ap (drop 3) (sym c.in-Some.ensures ∙ parts.rest_is))

pub returns-in-Some-before_line_feed-clause-only : goal.returns-in-Some-before_line_feed-clause-only
returns-in-Some-before_line_feed-clause-only c = λ name digits parted.
    let end = c.before_space-end.ensures in
    let parts = parts_at c.args.text.now name digits c.before_space-end.result end.within end.before end.space parted in
    let same : c.in-Some-before_line_feed.digits.now ++ 10 ∷ [] ≡ digits ++ 10 ∷ [] =
    sym c.in-Some-before_line_feed.ensures ∙ ap (drop 3) (sym c.in-Some.ensures ∙ parts.rest_is) in
    (parts.name_is, append_cancel_right c.in-Some-before_line_feed.digits.now digits (10 ∷ []) same)

use Rattle.std.proofs.Common.{refl, inr, ◌∙◌}
use Rattle.uc_layout.proofs.Scanning.{left, comment_some, token_some, text_end, fold, wrong, no_token, white, comment, line_feed, token}
use Rattle.uc_layout.proofs.scan.advance.Goals as goal

pub on_next_line-requires-clause-some : goal.on_next_line-requires-clause-some
on_next_line-requires-clause-some c = left _ _ _ (λ e. let p = c.in-LineFeed.ensures ∙ e in cc)

pub behind-requires-clause-within : goal.behind-requires-clause-within
behind-requires-clause-within c = left _ _ _ (λ e. let p = c.in-White.ensures ∙ e in cc)

pub behind-requires-in-Comment-clause-some : goal.behind-requires-in-Comment-clause-some
behind-requires-in-Comment-clause-some c = rw c.line_len.ensures.value (comment_some _ _ _ c.in-Comment.ensures)

pub behind-requires-in-Token-clause-some : goal.behind-requires-in-Token-clause-some
behind-requires-in-Token-clause-some c = token_some _ _ c.longest-count.result _ c.args.here.rest.now refl c.in-Token.ensures

pub returns-in-TextEnd-clause-reads : goal.returns-in-TextEnd-clause-reads
returns-in-TextEnd-clause-reads c = text_end _ _ c.in-TextEnd.ensures

pub returns-in-Fold-clause-reads : goal.returns-in-Fold-clause-reads
returns-in-Fold-clause-reads c = fold _ _ c.in-Fold.ensures

pub returns-in-Wrong-clause-fault : goal.returns-in-Wrong-clause-fault
returns-in-Wrong-clause-fault c = inr (wrong _ _ _ _ c.in-Wrong.ensures c.fault_of.ensures)

pub returns-in-LineFeed-clause-reads : goal.returns-in-LineFeed-clause-reads
returns-in-LineFeed-clause-reads c = λ all e h. line_feed _ _ _ _ _ c.in-LineFeed.ensures (c.on_next_line.ensures.place, c.on_next_line.ensures.before, c.on_next_line.ensures.rest) h

pub returns-in-White-clause-reads : goal.returns-in-White-clause-reads
returns-in-White-clause-reads c = λ all e h. white _ _ _ _ _ c.in-White.ensures (c.behind.ensures.place, c.behind.ensures.before, c.behind.ensures.rest) h

pub returns-in-Comment-clause-reads : goal.returns-in-Comment-clause-reads
returns-in-Comment-clause-reads c = λ all e h. comment _ _ _ _ _ _ c.in-Comment.ensures c.line_len.ensures.value (c.behind-in-Comment.ensures.place, c.behind-in-Comment.ensures.before, c.behind-in-Comment.ensures.rest) h

pub returns-in-Wrong-judged-clause-fault : goal.returns-in-Wrong-judged-clause-fault
returns-in-Wrong-judged-clause-fault c = inr (no_token _ _ _ _ c.longest-count.result _ _ c.in-Lexeme.ensures c.longest-count.ensures refl c.in-Wrong-judged.ensures c.fault_of-in-Wrong-judged.ensures)

pub returns-in_ok-push-in-Token-clause-reads : goal.returns-in_ok-push-in-Token-clause-reads
returns-in_ok-push-in-Token-clause-reads c = λ all e h. token _ _ _ _ c.longest-count.result _ _ _ _ _ c.in-Lexeme.ensures c.longest-count.ensures refl c.in-Token.ensures (c.behind-in-Token.ensures.place, c.behind-in-Token.ensures.before, c.behind-in-Token.ensures.rest) c.in_ok-push-in-Token.ensures h

use Rattle.std.proofs.Common.{◌≡◌, ◌≤◌, length, IfOk, sym, ◌∙◌, subst, List, ℕ}
use Rattle.ucm.proofs.Endings.{reply_runs}
use Rattle.ucm.specs.Program.{Runs, texts_of, text_limit}
use Rattle.ucm.proofs.adding.respond.Goals as goal

pub returns-clause-reply : goal.returns-clause-reply
returns-clause-reply g c = λ t.
    let read = c.in_ok-text.ensures.whole t in
    let line = c.in_ok-line.ensures.found in
    let text = c.deref.ensures.value in
    let is : g.I.Source.left c.args.input.now ≡ c.deref.result.now = read.0 ∙ sym text in
    let words : List (List ℕ) = texts_of c.args.words.now in
    subst (λ (i : List ℕ). IfOk c.added.result (λ reply. Runs words i reply 0)) (sym is)
    (reply_runs words c.deref.result.now c.in_ok-line.line.name line.0 c.in_ok-line.line.number (c.is_add.ensures.0 c.if-not-is_add.false)
    (subst (λ (l : List ℕ). length l ≤ text_limit) (sym text) read.1) line.1 line.2 c.added.result c.added.ensures.text)

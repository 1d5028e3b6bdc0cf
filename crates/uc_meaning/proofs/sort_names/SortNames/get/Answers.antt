use Rattle.std.proofs.Common.{◌≡◌, sym, ap, ◌∙◌, subst}
use Rattle.std.specs.Prelude.{bytes_eq}
use Rattle.std.specs.Map.{lookup}
use Rattle.std.specs.Option.{option_or}
use Rattle.std.specs.Result.{IfOk}
use Rattle.uc_meaning.specs.Entries.{IsInOrder, head_entries}
use Rattle.uc_meaning.proofs.Names.{in_order_head, in_order_over, lookup_over}
use Rattle.uc_meaning.proofs.sort_names.SortNames.get.Goals as goal

pub returns-in-Some-clause-found : goal.returns-in-Some-clause-found
returns-in-Some-clause-found g c =
    let head = head_entries (g.N.Names.pairs c.self.inside.names.now c.self.inside.sort) in
    sym (ap (λ s. lookup (bytes_eq c.args.text.now) s.entries) (sym c.self.view_is) ∙ lookup_over c.args.text.now c.self.inside.own head
    ∙ ap (λ r. option_or r (lookup (bytes_eq c.args.text.now) head)) (sym c.in-Some.ensures))

pub returns-in-None-clause-found : goal.returns-in-None-clause-found
returns-in-None-clause-found g c =
    let head = head_entries (g.N.Names.pairs c.self.inside.names.now c.self.inside.sort) in
    subst (λ r. IfOk c.head_target.result (λ target. target ≡ r))
    (sym (ap (λ s. lookup (bytes_eq c.args.text.now) s.entries) (sym c.self.view_is) ∙ lookup_over c.args.text.now c.self.inside.own head
    ∙ ap (λ r. option_or r (lookup (bytes_eq c.args.text.now) head)) (sym c.in-None.ensures)))
    c.head_target.ensures.found

pub returns-in-Some-clause-order : goal.returns-in-Some-clause-order
returns-in-Some-clause-order g c =
    subst (λ s. IsInOrder s.entries) c.self.view_is
    (in_order_over c.self.inside.own (head_entries (g.N.Names.pairs c.self.inside.names.now c.self.inside.sort))
    (in_order_head (g.N.Names.pairs c.self.inside.names.now c.self.inside.sort) (g.N.Names.in_order c.self.inside.names.now c.self.inside.sort)))

pub returns-in-None-clause-order : goal.returns-in-None-clause-order
returns-in-None-clause-order g c =
    subst (λ s. IsInOrder s.entries) c.self.view_is
    (in_order_over c.self.inside.own (head_entries (g.N.Names.pairs c.self.inside.names.now c.self.inside.sort))
    (in_order_head (g.N.Names.pairs c.self.inside.names.now c.self.inside.sort) (g.N.Names.in_order c.self.inside.names.now c.self.inside.sort)))

use Rattle.std.proofs.Common.{◌≡◌, ◌<◌, ℕ, List, length, refl, sym, subst, inr, arith}
use Rattle.uc_components.specs.Links.{Keeps}
use Rattle.uc_components.specs.Rows.{lists}
use Rattle.uc_components.proofs.Linking.{linked_more}
use Rattle.uc_components.proofs.Pushed.{edge_new, edge_keeps}
use Rattle.uc_components.proofs.links.link_reference.Goals as goal

pub returns-in_ok-link-clause-links : goal.returns-in_ok-link-clause-links
returns-in_ok-link-clause-links c = rw (c.in_ok-link.ensures.references, c.in_ok-link.ensures.referrers)
    (linked_more _ _ _ _ _ _ _ c.requires.links (c.if-to-from.true, c.args._vertex, c.args.target, c.requires.vertex, c.requires.edge, refl, refl)
    (c.requires.below _ c.requires.vertex) (c.requires.below _ (omega (arith, c.requires.home, c.requires.target))))

pub returns-in_ok-link-clause-covered : goal.returns-in_ok-link-clause-covered
returns-in_ok-link-clause-covered c = rw c.in_ok-link.ensures.references (inr (edge_new _ _ _ (c.requires.below _ c.requires.vertex)))

pub returns-in_ok-link-clause-keeps : goal.returns-in_ok-link-clause-keeps
returns-in_ok-link-clause-keeps c =
    let P : List (List ℕ) → Type 0 = λ x. Keeps (lists c.args.links.now.references) x in
    subst P (sym c.in_ok-link.ensures.references) (edge_keeps _ _ _ (c.requires.below _ c.requires.vertex))

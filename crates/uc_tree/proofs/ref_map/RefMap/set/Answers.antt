use Rattle.std.proofs.Common.{Option, unwrap_or, ap, ◌∙◌}
use Rattle.uc_tree.specs.Images.{Images, image_of}
use Rattle.uc_tree.specs.declared.ref_map.Image.{Image}
use Rattle.uc_tree.specs.declared.ref_map.Image.TheVariants.{Same}
use Rattle.uc_tree.proofs.Refs.{apart_refs}
use Rattle.uc_tree.proofs.ref_map.RefMap.set.Goals as goal

pub returns-clause-others : goal.returns-clause-others
returns-clause-others c = λ r h.
    ap (λ (image : Option Image). unwrap_or image Same) (c.in_ok-insert.ensures.updates.2 r (apart_refs c.args.of r h)) ∙ ap (λ (images : Images). image_of images r) c.self.view_is

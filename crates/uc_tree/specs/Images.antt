-- What stands for a stored reference.
use Rattle.std.specs.Prelude.{List, unwrap_or}
use Rattle.std.specs.Ordering.{is_eq}
use Rattle.std.specs.Map.{lookup}
use Rattle.uc_base.specs.declared.reference.Ref.{Ref}
use Rattle.uc_tree.specs.declared.ref_map.Image.{Image}
use Rattle.uc_tree.specs.declared.ref_map.Image.TheVariants.{Same}
use Rattle.uc_tree.specs.References.{ref_order}

-- references with their images; all others have the image `Same`
abbrev pub Images : Type 0
Images = List (Ref × Image)

-- the image of a reference
abbrev pub image_of : Images → Ref → Image
image_of images r = unwrap_or (lookup (λ key. is_eq (ref_order r key)) images) Same

-- Passing an item of a file.
use Rattle.std.specs.Prelude.{◌≡◌, ◌⊎◌, List, ◌∷◌, Result, Ok, Err}
use Rattle.std.specs.Option.{option_map}
use Rattle.uc_base.specs.declared.fault.Fault.{Fault}
use Rattle.uc_base.specs.declared.fault.Fault.TheVariants.{Memory}
use Rattle.uc_scratch.specs.declared.block.Signature.{Signature}
use Rattle.uc_scratch.specs.declared.file.Watch.{Watch}
use Rattle.uc_scratch.specs.Files.{Item, signature, watch}
use Rattle.uc_meaning.specs.Meanings.{Known}
use Rattle.uc_meaning.specs.Programs.{Meaning, items_meaning}
use Rattle.uc_bodies.specs.BodyViews.{signed_of}
use Rattle.uc_resolve.specs.declared.items.Before.{Before}
use Rattle.uc_resolve.specs.ItemMeanings.{behind}

abbrev pub signature_of : Signature → Item
signature_of s = signature s.head s.of

abbrev pub watch_of : Watch → Item
watch_of w = watch w.place w.of

-- the meaning of items behind what stands before them
abbrev pub rest_meaning : Known → Before → List Item → Result Meaning Fault
rest_meaning known before is = items_meaning known before.locals (option_map signed_of before.signed) before.kinds is

-- an item was passed: what it means was added to what those before it mean, whatever stands behind it; or it has this fault, unless memory ran out
abbrev pub Passes : {X : Type 0} → Known → Before → Before → Meaning → Meaning → Item → Result X Fault → Type 0
Passes known old new a b i (Ok x) = (is : List Item) → behind a (rest_meaning known old (i ∷ is)) ≡ behind b (rest_meaning known new is)
Passes known old new a b i (Err e) = (e ≡ Memory) ⊎ ((is : List Item) → rest_meaning known old (i ∷ is) ≡ Err e)

use Rattle.std.proofs.Common.{refl, sym, ap, ◌∙◌}
use Rattle.std.specs.Prelude.{bytes_eq}
use Rattle.std.specs.Map.{lookup}
use Rattle.std.specs.Option.{option_copied_mut}
use Rattle.uc_signatures.specs.LocalViews.{place_in, places_of}
use Rattle.uc_signatures.proofs.Locals.{looked_up, changed, set_places, none_is}
use Rattle.uc_signatures.proofs.local_names.set_place.Goals as goal

pub returns-in-Some : goal.returns-in-Some
returns-in-Some c = λ w.
    ap (λ es. place_in (places_of es) w) (c.get_mut.follows.holds c.args.place).0
    ∙ ap (λ ps. place_in ps w) (set_places c.args.text.now _ (λ v. refl) c.args.last.now.entries c.args.place)
    ∙ changed w c.args.text.now (places_of c.args.last.now.entries) c.args.place c.requires

pub returns-in_default : goal.returns-in_default
returns-in_default c =
    absurd (none_is (lookup (bytes_eq c.args.text.now) (places_of c.args.last.now.entries))
    (sym (ap option_copied_mut (sym c.in_default.is) ∙ c.get_mut.ensures.value ∙ looked_up c.args.text.now _ (λ v. refl) c.args.last.now.entries)) c.requires)

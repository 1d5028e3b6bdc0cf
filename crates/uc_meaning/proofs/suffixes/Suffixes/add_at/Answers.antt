use Rattle.std.proofs.Common.{◌≡◌, cond, refl, sym, ap, ◌∙◌, None, Some}
use Rattle.std.specs.Prelude.{bytes_eq, is_some}
use Rattle.std.specs.Option.{option_copied_mut}
use Rattle.uc_meaning.specs.Suffixes.{suffixes_of, ending_at, told}
use Rattle.uc_meaning.proofs.SuffixSteps.{text_found, text_set, told_once, told_nothing, found_at}
use Rattle.uc_meaning.proofs.suffixes.Suffixes.add_at.Goals as goal
use Rattle.uc_meaning.proofs.suffixes.Suffixes.add_at.Goals.{in-None, in-Some}

pub returns : goal.returns
returns c = λ w. elim c.match-get_mut.branch [
  | in-None b ↦
      let old = suffixes_of c.self.inside.endings.entries in
      let missing : None ≡ ending_at old c.args.text.now =
      ap option_copied_mut (sym b.in-None.is) ∙ c.get_mut.ensures.value ∙ text_found c.args.text.now _ (λ v. refl) c.self.inside.endings.entries in
      ap (λ s. ending_at (suffixes_of s.endings.entries) w) b.self-inside-is ∙ ap (λ m. ending_at (suffixes_of m.entries) w) c.get_mut.follows.holds-at-none
      ∙ told_nothing (bytes_eq w c.args.text.now) c.args.target.now (ending_at old w) (found_at w c.args.text.now old None missing)
      ∙ ap (λ s. told (bytes_eq w c.args.text.now) c.args.target.now (ending_at s w)) c.self.view_is
  | in-Some b ↦
      let old = suffixes_of c.self.inside.endings.entries in
      let found = ap option_copied_mut (sym b.in-Some.is) ∙ c.get_mut.ensures.value in
      let known : Some b.in-Some.ending.now ≡ ending_at old c.args.text.now = found ∙ text_found c.args.text.now _ (λ v. refl) c.self.inside.endings.entries in
      ap (λ s. ending_at (suffixes_of s.endings.entries) w) b.self-inside-is ∙ ap (λ es. ending_at (suffixes_of es) w) (c.get_mut.follows.holds b.with.result).0
      ∙ text_set c.args.text.now _ (λ v. refl) w b.with.result c.self.inside.endings.entries (ap is_some (sym found))
      ∙ ap (λ y. cond (bytes_eq w c.args.text.now) (Some y) (ending_at old w)) b.with.ensures
      ∙ told_once (bytes_eq w c.args.text.now) c.args.target.now (ending_at old w) b.in-Some.ending.now (found_at w c.args.text.now old (Some b.in-Some.ending.now) known)
      ∙ ap (λ s. told (bytes_eq w c.args.text.now) c.args.target.now (ending_at s w)) c.self.view_is
]

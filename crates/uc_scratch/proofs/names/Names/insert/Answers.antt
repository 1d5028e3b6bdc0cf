use Rattle.std.proofs.Common.{not, refl, ap, ◌∙◌, ◌∷◌, map}
use Rattle.uc_base.specs.Name.{is_one_of}
use Rattle.uc_scratch.proofs.NameSteps.{inserted, has}
use Rattle.uc_scratch.proofs.names.Names.insert.Goals as goal

pub returns : goal.returns
returns c = record {
  added = c.in_ok-added.ensures.added ∙ ap not (has (λ v. v.items) _ (λ v w. refl) c.self.inside.texts.keys c.args.text ∙ ap (λ l. is_one_of l c.args.text.items) c.self.view_is);
  names = record {
    same = λ t.
        ap (λ ks. is_one_of (map (λ v. v.items) ks) t) c.in_ok-added.ensures.keys ∙ inserted (λ v. v.items) _ (λ v w. refl) c.self.inside.texts.keys c.args.text t
        ∙ ap (λ l. is_one_of (c.args.text.items ∷ l) t) c.self.view_is;
  };
}

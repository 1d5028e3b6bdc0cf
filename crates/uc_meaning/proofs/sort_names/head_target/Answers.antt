use Rattle.std.proofs.Common.{sym, ap, ◌∙◌, nat_eq}
use Rattle.std.specs.Map.{lookup}
use Rattle.std.specs.Option.{option_map}
use Rattle.std.specs.Cmp.Lexicographic.{pointwise}
use Rattle.uc_tree.specs.declared.target.Target.TheVariants.{Stored}
use Rattle.uc_meaning.proofs.Names.{no_name, lookup_head}
use Rattle.uc_meaning.proofs.sort_names.head_target.Goals as goal

pub returns-then-not-is_name-clause-found : goal.returns-then-not-is_name-clause-found
returns-then-not-is_name-clause-found g c =
    sym (no_name c.args.text.now (g.N.Names.pairs c.args.names.now c.args.sort) c.requires (λ n. let h = c.if-not-is_name.ensures.name.1 n in cc))

pub returns-in-None-clause-found : goal.returns-in-None-clause-found
returns-in-None-clause-found g c =
    let pairs = g.N.Names.pairs c.args.names.now c.args.sort in
    sym (lookup_head c.args.text.now pairs
    ∙ ap (option_map Stored) (ap (λ w. lookup (pointwise nat_eq w) pairs) (sym c.in_ok-name.ensures.value) ∙ sym c.in-None.ensures))

pub returns-clause-found : goal.returns-clause-found
returns-clause-found g c =
    let pairs = g.N.Names.pairs c.args.names.now c.args.sort in
    sym (lookup_head c.args.text.now pairs
    ∙ ap (option_map Stored) (ap (λ w. lookup (pointwise nat_eq w) pairs) (sym c.in_ok-name.ensures.value) ∙ sym c.in-Some.ensures))

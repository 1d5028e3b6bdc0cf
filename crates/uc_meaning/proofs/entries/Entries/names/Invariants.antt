use Rattle.std.proofs.Common.{◌≡◌, ◌++◌, map, true}
use Rattle.std.specs.List.{list_all}
use Rattle.uc_base.specs.Name.{is_name}
use Rattle.uc_meaning.proofs.entries.Entries.names.Given as goal

abbrev pub invariant-loop-text : goal.invariant-loop-text
invariant-loop-text l = record {
  texts : l.names.items ++ map (λ text. text.items) l.text-iterator ≡ map (λ e. e.0) l.self;
  named : list_all is_name l.names.items ≡ true;
}

use Rattle.std.proofs.Common.{◌≡◌, map, drop}
use Rattle.uc_base.specs.Name.{is_one_of}
use Rattle.uc_scratch.proofs.scope.Scope.contains.Given as goal

abbrev pub invariant-loop-name : goal.invariant-loop-name
invariant-loop-name l = is_one_of (map (λ x. x.now) (drop l.name-index l.name-items)) l.text ≡ is_one_of l.self l.text

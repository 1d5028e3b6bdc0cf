use Rattle.std.proofs.Common.{◌≡◌, ℕ, List, map, drop, cond, Some, None}
use Rattle.uc_base.specs.Name.{is_one_of}
use Rattle.uc_meaning.specs.Senses.{no_names}
use Rattle.uc_meaning.specs.Suffixes.{suffixes_of, ending_at}
use Rattle.uc_meaning.proofs.suffixes.Suffixes.new.Given as goal

abbrev pub invariant-loop-text : goal.invariant-loop-text
invariant-loop-text l = (w : List ℕ)
    → cond (is_one_of (map (λ text. text.now) (drop l.text-index l.text-items)) w) (Some no_names) (ending_at (suffixes_of l.endings.entries) w)
    ≡ cond (is_one_of l.words w) (Some no_names) None

-- What is answered.
use Rattle.std.specs.Prelude.{ℕ, true, false, List}
use Rattle.uc_bench.specs.Requests.{Asks, IsCheckedCode}
use Rattle.uc_bench.specs.declared.request.Request.{Request}
use Rattle.uc_bench.specs.declared.Answer.{Answer}
use Rattle.uc_bench.specs.declared.Answer.TheVariants.{Checked, Refused, Usage, Memory}

-- what the words of a command line are answered; want of memory may come at any time
abbrev pub IsAnswerTo : List (List ℕ) → Answer → Type 0
IsAnswerTo words (Checked request) = Asks words request × IsCheckedCode request.kind request.count true
IsAnswerTo words (Refused request) = Asks words request × IsCheckedCode request.kind request.count false
IsAnswerTo words Usage = (request : Request) → Asks words request → ⊥
IsAnswerTo words Memory = Unit {0}

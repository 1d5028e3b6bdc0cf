use Rattle.ucm.proofs.Lines.{path_is_name}
use Rattle.ucm.proofs.number_line.path_of.Goals as goal

pub returns-in-Err-BadName-clause-path : goal.returns-in-Err-BadName-clause-path
returns-in-Err-BadName-clause-path c = λ path. c.in-Err-BadName.ensures.bad.0 (let is = c.in-Err-BadName.field-0-is in cc) (path_is_name c.args.text.now path)

use Rattle.std.proofs.Common.{sym, ap, ◌∙◌}
use Rattle.std.proofs.lemmas.Bool.{eq-eqb}
use Rattle.uc_meaning.specs.Candidates.{ends_in}
use Rattle.uc_meaning.specs.Suffixes.{ending_at, told}
use Rattle.uc_meaning.proofs.SuffixSteps.{told_dot}
use Rattle.uc_meaning.proofs.suffixes.Suffixes.add.Goals as goal

pub bytes-preserved-then-c-eq46 : goal.bytes-preserved-then-c-eq46
bytes-preserved-then-c-eq46 c = λ w.
    ap (told (ends_in w c.in-Some.after.now) c.args.target.now) (c.add_at.ensures w)
    ∙ told_dot c.args.target.now w c.in-Some.after.now c.in-Some.c.now (ending_at c.bytes.self w) (eq-eqb c.in-Some.c.now 46 c.if-c-eq46.true)
    ∙ ap (λ rest. told (ends_in w rest) c.args.target.now (ending_at c.bytes.self w)) (sym c.in-Some.ensures.cases.0) ∙ c.bytes.invariant w

use Rattle.std.proofs.Common.{Some}
use Rattle.uc_meaning.proofs.WantedSenses.{kind_senses, term_senses, constructor_senses}
use Rattle.uc_meaning.proofs.lookup.Lookup.senses.Goals as goal

pub returns-in_ok-ending-in-Kind : goal.returns-in_ok-ending-in-Kind
returns-in_ok-ending-in-Kind g c =
    kind_senses c.args.self.now.kinds c.args.self.now.terms c.args.wanted c.args.text.now (Some c.in_ok-ending-in-Kind.field-0) c.in-Kind.is c.in_ok-ending-in-Kind.ensures

pub returns-in_ok-ending-in-Term : goal.returns-in_ok-ending-in-Term
returns-in_ok-ending-in-Term g c =
    term_senses c.args.self.now.kinds c.args.self.now.terms c.args.wanted c.args.text.now (Some c.in_ok-ending-in-Term.field-0) c.in-Term.is c.in_ok-ending-in-Term.ensures

pub returns-in_ok-ending-in-Constructor : goal.returns-in_ok-ending-in-Constructor
returns-in_ok-ending-in-Constructor g c =
    constructor_senses c.args.self.now.kinds c.args.self.now.terms c.args.wanted c.args.text.now (Some c.in_ok-ending-in-Constructor.field-0) c.in-Constructor.is c.in_ok-ending-in-Constructor.ensures

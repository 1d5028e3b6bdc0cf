use Rattle.uc_scratch.proofs.heads.binding_front.Goals as goal

pub returns-in-None-infix : goal.returns-in-None-infix
returns-in-None-infix c = record {
  no_use = c.requires.used;
  no_signature = c.requires.signature;
  no_prefix = rw c.in-None.is at c.in_ok-prefix.ensures;
  no_infix = rw c.in-None-infix.is at c.in_ok-infix-in-None.ensures;
}

pub returns-in-Some : goal.returns-in-Some
returns-in-Some c = rw c.in-Some.is at c.in_ok-prefix.ensures

pub returns-in-Some-infix : goal.returns-in-Some-infix
returns-in-Some-infix c = rw c.in-Some-infix.is at c.in_ok-infix-in-None.ensures

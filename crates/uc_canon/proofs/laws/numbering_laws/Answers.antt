use Rattle.uc_canon.proofs.GivenOrder.{given_order_is_free}
use Rattle.uc_canon.proofs.LeastLaws.{least_text_is_unique, numbering_is_unique}
use Rattle.uc_canon.proofs.laws.numbering_laws.Goals as goal

pub returns : goal.returns
returns c = record { text = least_text_is_unique; numbering = numbering_is_unique; given_order = given_order_is_free }

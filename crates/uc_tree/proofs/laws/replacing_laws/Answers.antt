use Rattle.uc_tree.proofs.ClosedAgain.{closes_again, opens_again}
use Rattle.uc_tree.proofs.ReplacedParts.{targets_are_replaced, levels_stay, node_count_stays, bound_stays}
use Rattle.uc_tree.proofs.ReplacingLaws.{item_stays, item_is_replaced, items_in_turn}
use Rattle.uc_tree.proofs.laws.replacing_laws.Goals as goal

pub returns : goal.returns
returns c = record {
  stays = item_stays;
  replaced = item_is_replaced;
  in_turn = items_in_turn;
  targets = targets_are_replaced;
  levels = levels_stay;
  nodes = node_count_stays;
  bound = bound_stays;
  closes = closes_again;
  opens = opens_again;
}

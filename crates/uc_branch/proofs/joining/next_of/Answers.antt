use Rattle.std.proofs.Common.{refl, sym, ◌∙◌}
use Rattle.uc_branch.proofs.PutInOrder.{sorted_rest, old_taken, new_taken, new_replaces, new_left}
use Rattle.uc_branch.proofs.joining.next_of.Goals as goal

pub returns-in-Less-clause-next : goal.returns-in-Less-clause-next
returns-in-Less-clause-next c =
    old_taken c.args.old.now.items c.args.new.now.items c.in-Some-Some.one.now c.in-Some-Some.other.now c.pop_front.result c.pop_front.new.self.items
    c.in-Some-Some.ensures.lookup c.in-Some-Some.ensures'.lookup c.in-Some-Some.ensures'.item.0 (sym c.cmp.ensures ∙ c.in-Less.is) c.requires.old_in_order c.requires.new_in_order c.pop_front.ensures.items

pub returns-in-Less-clause-old_in_order : goal.returns-in-Less-clause-old_in_order
returns-in-Less-clause-old_in_order c = sorted_rest _ _ _ c.requires.old_in_order c.pop_front.ensures.items

pub returns-in-Equal-clause-next : goal.returns-in-Equal-clause-next
returns-in-Equal-clause-next c =
    new_replaces c.args.old.now.items c.args.new.now.items c.in-Some-Some.one.now c.in-Some-Some.other.now c.pop_front-in-Equal.result c.pop_front-in-Equal-2.result c.pop_front-in-Equal.new.self.items c.pop_front-in-Equal-2.new.self.items
    c.in-Some-Some.ensures.lookup c.in-Some-Some.ensures'.lookup (c.pop_front-in-Equal.ensures.variant.1 (c.in-Some-Some.ensures.variant.0 refl)) (c.pop_front-in-Equal-2.ensures.variant.1 (c.in-Some-Some.ensures'.variant.0 refl)) (sym c.cmp.ensures ∙ c.in-Equal.is)
    c.requires.old_in_order c.requires.new_in_order c.pop_front-in-Equal.ensures.items c.pop_front-in-Equal-2.ensures.items

pub returns-in-Equal-clause-old_in_order : goal.returns-in-Equal-clause-old_in_order
returns-in-Equal-clause-old_in_order c = sorted_rest _ _ _ c.requires.old_in_order c.pop_front-in-Equal.ensures.items

pub returns-in-Equal-clause-new_in_order : goal.returns-in-Equal-clause-new_in_order
returns-in-Equal-clause-new_in_order c = sorted_rest _ _ _ c.requires.new_in_order c.pop_front-in-Equal-2.ensures.items

pub returns-in-Greater-clause-next : goal.returns-in-Greater-clause-next
returns-in-Greater-clause-next c =
    new_taken c.args.old.now.items c.args.new.now.items c.in-Some-Some.one.now c.in-Some-Some.other.now c.pop_front-in-Greater.result c.pop_front-in-Greater.new.self.items
    c.in-Some-Some.ensures.lookup c.in-Some-Some.ensures'.lookup c.in-Some-Some.ensures.item.0 (sym c.cmp.ensures ∙ c.in-Greater.is) c.requires.old_in_order c.requires.new_in_order c.pop_front-in-Greater.ensures.items

pub returns-in-Greater-clause-new_in_order : goal.returns-in-Greater-clause-new_in_order
returns-in-Greater-clause-new_in_order c = sorted_rest _ _ _ c.requires.new_in_order c.pop_front-in-Greater.ensures.items

pub returns-in-Some-None-clause-old_in_order : goal.returns-in-Some-None-clause-old_in_order
returns-in-Some-None-clause-old_in_order c = sorted_rest _ _ _ c.requires.old_in_order c.pop_front-in-Some-None.ensures.items

pub returns-in-None-default-clause-next : goal.returns-in-None-default-clause-next
returns-in-None-default-clause-next c = new_left c.args.old.now.items c.args.new.now.items c.pop_front-in-None-default.result c.pop_front-in-None-default.new.self.items c.in-None-default.ensures.item.3 c.requires.new_in_order c.pop_front-in-None-default.ensures.items

pub returns-in-None-default-clause-new_in_order : goal.returns-in-None-default-clause-new_in_order
returns-in-None-default-clause-new_in_order c = sorted_rest _ _ _ c.requires.new_in_order c.pop_front-in-None-default.ensures.items

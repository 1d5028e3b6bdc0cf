use Rattle.uc_tree.specs.declared.item.Item.TheVariants as item
use Rattle.uc_kinds.specs.Faults.{arity_among}
use Rattle.uc_kinds.proofs.Clean.{flawless_type, well_formed_type, flawless_item, well_formed_item}
use Rattle.uc_kinds.proofs.Faultless.{no_item_fault, well_formed_without, no_decls_fault, well_formed_decls}
use Rattle.uc_kinds.proofs.Insides.{from_inside, to_inside}
use Rattle.uc_kinds.proofs.NodeCounts.{item_count}
use Rattle.uc_kinds.proofs.laws.kinds_laws.Goals as goal

pub returns-clause-types : goal.returns-clause-types
returns-clause-types c = λ arity at t. (flawless_type arity at t, well_formed_type arity at t)

pub returns-clause-items : goal.returns-clause-items
returns-clause-items c = λ arity i. (flawless_item arity i, well_formed_item arity i)

pub returns-clause-definitions : goal.returns-clause-definitions
returns-clause-definitions c = λ arity d. (no_item_fault arity 0 (item.Term d), well_formed_without arity 0 (item.Term d))

pub returns-clause-declarations : goal.returns-clause-declarations
returns-clause-declarations c = λ known decls. (no_decls_fault (arity_among decls known) 0 decls, well_formed_decls (arity_among decls known) 0 decls)

pub returns-clause-nodes : goal.returns-clause-nodes
returns-clause-nodes c = item_count

pub returns-clause-inside : goal.returns-clause-inside
returns-clause-inside c = λ arity t. (from_inside arity t, to_inside arity t)

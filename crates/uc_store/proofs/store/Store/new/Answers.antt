use Rattle.uc_store.proofs.Making.{sound_empty}
use Rattle.uc_store.proofs.store.Store.new.Goals as goal

pub invariant_of-result : goal.invariant_of-result
invariant_of-result g c =
    rw c.new.ensures.items
    (sound_empty g.H.Digester.digest_of c.in_ok-builtin_types.field-0.items c.zero.result c.in_ok-builtin_types.ensures c.zero.ensures.members c.zero.ensures.bytes c.zero.ensures.type_nodes)

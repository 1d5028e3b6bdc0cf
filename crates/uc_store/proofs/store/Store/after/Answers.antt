use Rattle.std.proofs.Common.{◌≡◌, sym, ◌∙◌}
use Rattle.std.specs.Prelude.{option_map, slice_get}
use Rattle.std.specs.Option.{option_copied}
use Rattle.uc_store.specs.Places.{boxed, IsPlaceBehind}
use Rattle.uc_store.proofs.Tables.{next_hash-place, first_hash}
use Rattle.uc_store.proofs.store.Store.after.Goals as goal

pub returns-in-Some : goal.returns-in-Some
returns-in-Some g c =
    let behind : IsPlaceBehind c.in-Some.hash.now (boxed c.self.inside.entries.items) c.place_behind.result = rw c.deref-in-Some.ensures.value at c.place_behind.ensures in
    let found : option_copied c.hash_at.result ≡ option_map (λ e. e.hash) (slice_get (boxed c.self.inside.entries.items) c.place_behind.result) = rw c.deref.ensures.value at c.hash_at.ensures in
    rw (c.in-Some.is, ← c.self.view_is) (found ∙ sym (next_hash-place c.in-Some.hash.now (boxed c.self.inside.entries.items) c.place_behind.result behind))

pub returns-in-None : goal.returns-in-None
returns-in-None g c =
    let found : option_copied c.hash_at-in-None.result ≡ option_map (λ e. e.hash) (slice_get (boxed c.self.inside.entries.items) 0) = rw c.deref-in-None.ensures.value at c.hash_at-in-None.ensures in
    rw (c.in-None.is, ← c.self.view_is) (found ∙ sym (first_hash (boxed c.self.inside.entries.items)))

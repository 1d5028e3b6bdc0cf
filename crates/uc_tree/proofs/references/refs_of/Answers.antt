use Rattle.std.proofs.Common.{◌∙◌, ap}
use Rattle.std.proofs.lemmas.List.Filters.{dedup_is}
use Rattle.std.proofs.lemmas.List.Kept.{Contains-dedup, Contains-from_dedup, IsStrictlySortedBy-dedup}
use Rattle.std.proofs.lemmas.List.Sorted.{Contains-permutation, IsPermutation-sym}
use Rattle.uc_base.specs.contracts.reference.RefOrd.TheImpl.Laws as ord
use Rattle.uc_base.specs.contracts.reference.RefEq.TheImpl.Laws as equal
use Rattle.uc_tree.specs.References.{stored_among}
use Rattle.uc_tree.proofs.Refs.{same_refs, from_stored_among, to_stored_among}
use Rattle.uc_tree.proofs.references.refs_of.Goals as goal

pub returns : goal.returns
returns c =
    let is = dedup_is _ _ _ c.dedup.ensures.filtered in
    let moved = c.sort_unstable.ensures.permutation in
    let among = c.in_ok-refs.ensures ∙ ap stored_among (c.deref.ensures.value ∙ c.in_ok-targets.ensures.targets) in
    record {
      ascending = rw is (IsStrictlySortedBy-dedup ord.total-law ord.matches_eq-law _ c.sort_unstable.ensures.sorted);
      refs = λ r. (
        λ h. from_stored_among _ r (rw among at (Contains-permutation _ _ r (IsPermutation-sym _ _ moved) (Contains-from_dedup _ _ r (rw is at h)))),
        λ h. rw is (Contains-dedup equal.laws-law same_refs _ r (Contains-permutation _ _ r moved (rw among (to_stored_among _ r h)))),
      );
      err = tt;
    }

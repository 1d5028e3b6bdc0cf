use Rattle.uc_scratch.specs.FileViews.{items_of}
use Rattle.uc_meaning.specs.Meanings.{Known}
use Rattle.uc_resolve.specs.ProgramViews.{draft_of}
use Rattle.uc_resolve.proofs.FilePlaces.{file_placed}
use Rattle.uc_resolve.proofs.resolving.resolve.Goals as goal

pub finish-requires : goal.finish-requires
finish-requires g c =
    let lookup = c.in_ok-lookup.lookup in
    let known : Known = record { kinds = lookup.kinds.entries; terms = lookup.terms.entries; hashes = g.N.Names.hashes lookup.stored.now; holds = g.N.Names.is_held lookup.stored.now } in
    file_placed known (items_of c.deref.result.now) (draft_of c.in_ok-draft.draft) c.in_ok-draft.ensures

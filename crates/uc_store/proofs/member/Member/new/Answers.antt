use Rattle.uc_store.proofs.DirectRefs.{is_refs_in}
use Rattle.uc_store.proofs.member.Member.new.Goals as goal

pub returns-clause-kept : goal.returns-clause-kept
returns-clause-kept c = record {
  refs = is_refs_in c.in_ok-refs.refs.items c.args.item c.in_ok-refs.ensures.ascending c.in_ok-refs.ensures.refs;
  ctors = c.in_ok-ctors.ensures;
}

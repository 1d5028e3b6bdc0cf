use Rattle.std.proofs.lemmas.Result.{err_from_is_err_and}
use Rattle.uc_journal.proofs.Steps.{settle_err, settle_time, settle_ok}
use Rattle.uc_journal.proofs.tail.Tail.close.Goals as goal

pub returns-in_err-write_through-clause-kept : goal.returns-in_err-write_through-clause-kept
returns-in_err-write_through-clause-kept g c ps u k =
    let e = err_from_is_err_and c.from_residual.result c.from_residual.ensures.1 in
    rw (e.1) (settle_err _ _ _ _ _ c.if-self.true u 0 _ k (c.write_through.ensures.told k.told))

pub returns-in_err-write_through-clause-any_moment : goal.returns-in_err-write_through-clause-any_moment
returns-in_err-write_through-clause-any_moment g c ps u k = settle_time _ _ _ _ _ c.if-self.true u 0 _ k (c.write_through.ensures.told k.told)

pub returns-in_ok-write_through-clause-settled : goal.returns-in_ok-write_through-clause-settled
returns-in_ok-write_through-clause-settled g c ps u k =
    settle_ok _ _ _ _ _ c.if-self.true u (g.met.D.Disk.sound c.args.disk.now k.told) k (c.in_ok-write_through.ensures.told k.told).durable

pub returns-in_ok-write_through-clause-any_moment : goal.returns-in_ok-write_through-clause-any_moment
returns-in_ok-write_through-clause-any_moment g c ps u k = settle_time _ _ _ _ _ c.if-self.true u 0 _ k (c.write_through.ensures.told k.told)

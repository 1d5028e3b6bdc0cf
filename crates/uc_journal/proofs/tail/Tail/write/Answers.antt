use Rattle.std.proofs.Common.{inl, inr, refl, arith, Some, None}
use Rattle.std.proofs.lemmas.Result.{err_from_is_err_and}
use Rattle.uc_outside.proofs.Moments.{leaves_then}
use Rattle.uc_journal.proofs.Steps.{settle_err, settle_time, stage_err, stage_time, stage_ok, open_ok, reaches_next}
use Rattle.uc_journal.proofs.tail.Tail.write.Goals as goal

pub returns-in_err-close-clause-any_moment : goal.returns-in_err-close-clause-any_moment
returns-in_err-close-clause-any_moment g c ps u k = inl (c.close.ensures.any_moment ps u k)

pub returns-in_err-write_through-clause-kept : goal.returns-in_err-write_through-clause-kept
returns-in_err-write_through-clause-kept g c ps u k =
    let e = err_from_is_err_and c.from_residual-in_err-write_through.result c.from_residual-in_err-write_through.ensures.1 in
    let k1 = c.in_ok-close.ensures.settled ps u k in
    rw (e.1) (None, stage_err _ _ _ _ _ c.args.packed.now _ _ k1 (c.write_through.ensures.told k.told), inr (inl refl))

pub returns-in_err-write_through-clause-any_moment : goal.returns-in_err-write_through-clause-any_moment
returns-in_err-write_through-clause-any_moment g c ps u k =
    let k1 = c.in_ok-close.ensures.settled ps u k in
    inr (c.close.new.disk, c.close.ensures.any_moment ps u k, stage_time _ _ _ _ _ c.args.packed.now _ _ k1 (c.write_through.ensures.told k.told))

pub returns-in_err-write_through-2-clause-kept : goal.returns-in_err-write_through-2-clause-kept
returns-in_err-write_through-2-clause-kept g c ps u k =
    let e = err_from_is_err_and c.from_residual-in_err-write_through-2.result c.from_residual-in_err-write_through-2.ensures.1 in
    let k1 = c.in_ok-close.ensures.settled ps u k in
    let k2 = stage_ok _ _ _ _ _ c.args.packed.now _ c.write_through.result (g.met.D.Disk.sound c.close.new.disk k.told) (omega (arith, c.requires.fits, c.close.ensures.same)) c.bytes-bytes.ensures.written k1 (c.in_ok-write_through.ensures.told k.told).durable in
    rw (e.1) (Some c.args.packed.now, settle_err _ _ _ _ _ refl (Some c.args.packed.now) 1 _ k2 (c.write_through-2.ensures.told k.told), inr (inr refl))

pub returns-in_err-write_through-2-clause-any_moment : goal.returns-in_err-write_through-2-clause-any_moment
returns-in_err-write_through-2-clause-any_moment g c ps u k =
    let k1 = c.in_ok-close.ensures.settled ps u k in
    let k2 = stage_ok _ _ _ _ _ c.args.packed.now _ c.write_through.result (g.met.D.Disk.sound c.close.new.disk k.told) (omega (arith, c.requires.fits, c.close.ensures.same)) c.bytes-bytes.ensures.written k1 (c.in_ok-write_through.ensures.told k.told).durable in
    let first = stage_time _ _ _ _ _ c.args.packed.now _ _ k1 (c.write_through.ensures.told k.told) in
    let second = settle_time _ _ _ _ _ refl (Some c.args.packed.now) 1 _ k2 (c.write_through-2.ensures.told k.told) in
    inr (c.close.new.disk, c.close.ensures.any_moment ps u k, leaves_then _ _ _ _ first second)

pub returns-clause-reaches : goal.returns-clause-reaches
returns-clause-reaches g c told =
    reaches_next _ _ _ _ _ _ (g.met.D.Disk.sound c.close.new.disk told) (c.close.ensures.reaches told) (c.in_ok-write_through.ensures.told told).durable (c.write_through-2.ensures.told told)

pub returns-clause-appended : goal.returns-clause-appended
returns-clause-appended g c ps u k =
    let k1 = c.in_ok-close.ensures.settled ps u k in
    let k2 = stage_ok _ _ _ _ _ c.args.packed.now _ c.write_through.result (g.met.D.Disk.sound c.close.new.disk k.told) (omega (arith, c.requires.fits, c.close.ensures.same)) c.bytes-bytes.ensures.written k1 (c.in_ok-write_through.ensures.told k.told).durable in
    open_ok _ _ _ _ _ _ (omega (arith, c.bytes-bytes.ensures.size)) (g.met.D.Disk.sound c.write_through.new.disk k.told) k2 (c.in_ok-write_through-2.ensures.told k.told).durable

pub returns-clause-any_moment : goal.returns-clause-any_moment
returns-clause-any_moment g c ps u k =
    let k1 = c.in_ok-close.ensures.settled ps u k in
    let k2 = stage_ok _ _ _ _ _ c.args.packed.now _ c.write_through.result (g.met.D.Disk.sound c.close.new.disk k.told) (omega (arith, c.requires.fits, c.close.ensures.same)) c.bytes-bytes.ensures.written k1 (c.in_ok-write_through.ensures.told k.told).durable in
    let first = stage_time _ _ _ _ _ c.args.packed.now _ _ k1 (c.write_through.ensures.told k.told) in
    let second = settle_time _ _ _ _ _ refl (Some c.args.packed.now) 1 _ k2 (c.write_through-2.ensures.told k.told) in
    inr (c.close.new.disk, c.close.ensures.any_moment ps u k, leaves_then _ _ _ _ first second)

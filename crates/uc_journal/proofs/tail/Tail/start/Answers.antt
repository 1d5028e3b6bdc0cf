use Rattle.std.proofs.Common.{◌≤◌, length, inr, arith, ap}
use Rattle.uc_journal.proofs.Opening.{first_time, begun_time, loaded_time, short_now}
use Rattle.uc_journal.proofs.tail.Tail.start.Goals as goal

pub returns-in_default-begin-clause-any_moment : goal.returns-in_default-begin-clause-any_moment
returns-in_default-begin-clause-any_moment g c told ps file =
    let sync = c.in-Ok.ensures.told told in
    let rests = c.len.ensures.told told in
    let sound = g.met.D.Disk.sound c.args.disk.now told in
    let le : length (g.D.Disk.view c.args.disk.now).seen ≤ 9 = omega (arith, c.if-len-le9.true, c.in-Ok-len.ensures.length told, ap length sync.seen) in
    inr (
      c.sync.new.self,
      sync.counted,
      first_time _ _ _ sound sync rests,
      begun_time _ _ _ sound sync rests _ ps (g.met.D.Disk.sound c.sync.new.self told) file le (c.begin.ensures.any_moment told (short_now _ _ _ sound sync rests le)),
    )

pub returns-then-len-le9-clause-any_moment : goal.returns-then-len-le9-clause-any_moment
returns-then-len-le9-clause-any_moment g c told ps file =
    let sync = c.in-Ok.ensures.told told in
    let rests = c.len.ensures.told told in
    let sound = g.met.D.Disk.sound c.args.disk.now told in
    let le : length (g.D.Disk.view c.args.disk.now).seen ≤ 9 = omega (arith, c.if-len-le9.true, c.in-Ok-len.ensures.length told, ap length sync.seen) in
    inr (
      c.sync.new.self,
      sync.counted,
      first_time _ _ _ sound sync rests,
      begun_time _ _ _ sound sync rests _ ps (g.met.D.Disk.sound c.sync.new.self told) file le (c.begin.ensures.any_moment told (short_now _ _ _ sound sync rests le)),
    )

pub returns-in_err-gate-clause-any_moment : goal.returns-in_err-gate-clause-any_moment
returns-in_err-gate-clause-any_moment g c told ps file =
    let sync = c.in-Ok.ensures.told told in
    let rests = c.len.ensures.told told in
    let sound = g.met.D.Disk.sound c.args.disk.now told in
    inr (
      c.sync.new.self,
      sync.counted,
      first_time _ _ _ sound sync rests,
      loaded_time _ _ _ sound sync rests _ ps (g.met.D.Disk.sound c.sync.new.self told) (g.met.D.Disk.sound c.len.new.self told) file (c.load.ensures.told told),
    )

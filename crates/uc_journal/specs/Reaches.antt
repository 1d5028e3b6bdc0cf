use Rattle.std.specs.Prelude.{ℕ, ◌<◌, List, length}
use Rattle.uc_outside.specs.Disk.{DiskView}

-- every image that a crash may leave is longer than that
abbrev pub Reaches : DiskView → ℕ → Type 0
Reaches disk at = (c : List ℕ) → disk.may_leave c → at < length c

-- What is left to scan, while a text is read forward.
use Rattle.std.specs.Prelude.{◌≡◌, ℕ, ◌+◌, ◌≤◌, List, ◌++◌, length}
use Rattle.uc_base.specs.declared.place.Place.{Place}
use Rattle.uc_base.specs.declared.fault.Fault.{Fault}
use Rattle.uc_base.specs.declared.fault.Fault.TheVariants.{BadToken, LeftOut}
use Rattle.uc_layout.specs.declared.start.Wrong.{Wrong}
use Rattle.uc_layout.specs.declared.start.Wrong.TheVariants as wrong
use Rattle.uc_layout.specs.declared.scan.Cursor.{Cursor}
use Rattle.uc_layout.specs.Tokens.{Seen, Ending, failed, ScansFrom, IsTokenized}

-- no line or column passes the number of bytes
pub record IsBounded (here : Cursor) : Type 0 where
  pub lines : here.place.line + length here.rest.now ≤ 262145
  pub columns : here.place.column + length here.rest.now ≤ 262145

-- these are all the tokens of a text that ends so, where these are there already
pub record Completes (out : List Seen) (here : Cursor) (all : List Seen) (e : Ending) : Type 0 where
  pub tokens : List Seen
  pub whole : all ≡ out ++ tokens
  pub scans : ScansFrom here.place here.before here.rest.now tokens e

-- the fault of what is no token
abbrev pub fault_of : Wrong → Place → Fault
fault_of wrong.Bad p = BadToken p
fault_of wrong.LeftOut p = LeftOut p

-- a fault that what begins here is the cause of, behind these tokens
pub record Refuses (out : List Seen) (here : Cursor) (fault : Fault) : Type 0 where
  pub wrong : Wrong
  pub cause : fault ≡ fault_of wrong here.place
  pub completes : Completes out here out (failed wrong here.place)

-- the fault of the first place in a text at which something is no token
pub record IsTokenFault (text : List ℕ) (fault : Fault) : Type 0 where
  pub tokens : List Seen
  pub wrong : Wrong
  pub place : Place
  pub cause : fault ≡ fault_of wrong place
  pub scanned : IsTokenized text tokens (failed wrong place)

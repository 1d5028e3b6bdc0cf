-- Digests.
use Rattle.std.specs.Prelude.{ℕ, ◌%◌, List, sum, replicate}
use Rattle.sha2.specs.Sha512.{sha512}
use Rattle.uc_base.specs.declared.hash.Hash.{Hash}

-- SHA-512
abbrev pub sha512_hash : List ℕ → Hash
sha512_hash bytes = record { 0 = sha512 bytes }

-- 64 times the sum of the bytes modulo 256
abbrev pub sum_hash : List ℕ → Hash
sum_hash bytes = record { 0 = replicate 64 (sum bytes % 256) }

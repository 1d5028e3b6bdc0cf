use Rattle.std.proofs.Common.{List, ℕ, take, refl, sym, ◌∙◌, subst}
use Rattle.uc_base.specs.Hash.{IsHashText}
use Rattle.uc_canon.proofs.ReadHashes.{hash_short, hash_other, hash_found}
use Rattle.uc_canon.proofs.read_basics.read_hash.Goals as goal

pub returns-then-bytes-lt-HASH_TEXT_LEN : goal.returns-then-bytes-lt-HASH_TEXT_LEN
returns-then-bytes-lt-HASH_TEXT_LEN c = hash_short c.args.bytes.now c.if-bytes-lt-HASH_TEXT_LEN.true

pub returns-in-None : goal.returns-in-None
returns-in-None c =
    hash_other c.args.bytes.now (λ is.
    let text : IsHashText c.split_at.result.0.now = subst (λ (l : List ℕ). IsHashText l) (sym c.split_at.ensures.front) is in
    let none = c.in-None.ensures.found.1 text in cc)

pub returns-in-Some : goal.returns-in-Some
returns-in-Some c =
    let text : IsHashText (take 128 c.args.bytes.now) = subst (λ (l : List ℕ). IsHashText l) c.split_at.ensures.front (c.in-Some.ensures.found.0 refl) in
    rw c.split_at.ensures.back (hash_found c.args.bytes.now c.in-Some.hash text (sym c.split_at.ensures.front ∙ c.in-Some.ensures.value))

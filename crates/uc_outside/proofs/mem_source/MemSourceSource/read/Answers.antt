use Rattle.std.proofs.Common.{◌≡◌, ℕ, ◌+◌, ◌-◌, List, ◌++◌, length, take, drop, length-drop, sym, ap, ◌∙◌, arith}
use Rattle.std.proofs.lemmas.List.{take_all, take-append-drop, drop-drop}
use Rattle.uc_outside.specs.MemSource.{MemInput}
use Rattle.uc_outside.proofs.mem_source.MemSourceSource.read.Goals as goal

-- a piece and what is left behind it
piece_left : (bytes room : List ℕ) (at n : ℕ) → take n room ≡ take n (take (length bytes - at) (drop at bytes)) → take n room ++ drop (at + n) bytes ≡ drop at bytes
piece_left bytes room at n copied =
    let whole : take (length bytes - at) (drop at bytes) ≡ drop at bytes = take_all (length bytes - at) (drop at bytes) (omega (arith, length-drop at bytes)) in
    let front : take n room ≡ take n (drop at bytes) = copied ∙ ap (take n) whole in
    rw (front, ← drop-drop n at bytes) (take-append-drop n (drop at bytes))

pub returns-clause-read : goal.returns-clause-read
returns-clause-read c =
    sym (ap (λ (m : MemInput). m.left) c.self.view_is)
    ∙ sym (piece_left c.self.inside.bytes _ c.self.inside.at c.copy_piece-size.result (rw (← c.as_slice.ensures) c.copy_piece-size.ensures.copied))

use Rattle.std.proofs.Common.{◌≡◌, ℕ, ◌+◌, ◌++◌, length, List, [], ◌∷◌, arith, drop, refl, sym, ◌∙◌, ap, subst, length-drop}
use Rattle.uc_journal.specs.Text.{front, IsDamagedAt}
use Rattle.uc_journal.proofs.Bytes.{length-front-push}
use Rattle.uc_journal.proofs.Scan.{slice_tail, read_more, damaged}
use Rattle.uc_journal.proofs.read.read_records.Goals as goal

pub returns-in_default-clause-damaged : goal.returns-in_default-clause-damaged
returns-in_default-clause-damaged c at is =
    let i = c.loop-gate.invariant in
    let same : c.loop-gate.gate ≡ at = cc in
    subst (λ (n : ℕ). IsDamagedAt n c.args.bytes.now) same
    (damaged c.loop-gate.payloads.items c.args.bytes.now _ c.loop-gate.gate (slice_tail (c.loop-gate.gate + 1) c.args.bytes.now) i.read i.inside c.loop-gate-test.true _ c.requires i.small (omega (arith, i.small)) i.at (c.in_default.ensures.none refl))

pub loop-gate-preserved : goal.loop-gate-preserved
loop-gate-preserved c =
    let i = c.loop-gate.invariant in
    let ps = c.loop-gate.payloads.items in
    let p = c.in-Some.payload.now in
    let pushed : c.push.new.self.items ≡ c.loop-gate.payloads.items ++ c.in-Some.payload.now ∷ [] = c.in_ok-push.ensures.items ∙ ap (λ (b : List ℕ). c.loop-gate.payloads.items ++ b ∷ []) c.in_ok-from_slice.ensures in
    let next = c.loop-gate.gate + (length c.in-Some.payload.now + 5) in
    record {
      read = subst (λ (l : List (List ℕ)). c.args.bytes.now ≡ front l ++ drop (c.loop-gate.gate + (length c.in-Some.payload.now + 5)) c.args.bytes.now) (sym pushed)
          (read_more ps c.args.bytes.now _ c.loop-gate.gate (slice_tail (c.loop-gate.gate + 1) c.args.bytes.now) i.read i.inside c.loop-gate-test.true p next c.in-Some.ensures.some refl);
      at = omega (arith, i.at, length-front-push ps p) ∙ ap (λ (l : List (List ℕ)). length (front l)) (sym pushed);
      inside = omega (arith, c.in-Some.ensures.size, ap length (slice_tail (c.loop-gate.gate + 1) c.args.bytes.now), length-drop (c.loop-gate.gate + 1) c.args.bytes.now, i.inside);
      small = omega (arith, c.in-Some.ensures.fits);
    }

use Rattle.std.proofs.Common.{◌≡◌, ℕ, List, Bool, true, false, Result, Ok, Err, refl, sym, ◌∙◌}
use Rattle.std.specs.Result.{MatchResult, is_ok}
use Rattle.std.specs.Str.{IsUtf8, is_utf8}
use Rattle.std.proofs.lemmas.Str.{IsUtf8-from_is_utf8, is_utf8-from_IsUtf8}
use Rattle.uc_canon.proofs.read_basics.is_text.Goals as goal

tested : {X Y : Type 0} (r : Result X Y) (bytes : List ℕ) (P : X → Type 0) (Q : Y → Type 0) → MatchResult r (λ x. P x × IsUtf8 bytes) (λ y. (IsUtf8 bytes → ⊥) × Q y) → is_ok r ≡ is_utf8 bytes
tested (Ok x) bytes P Q told = sym (is_utf8-from_IsUtf8 bytes told.1)
tested (Err y) bytes P Q told = go (is_utf8 bytes) refl
  where
    go : (t : Bool) → is_utf8 bytes ≡ t → false ≡ t
    go true is = absurd (told.0 (IsUtf8-from_is_utf8 bytes is))
    go false is = refl

pub returns : goal.returns
returns c = c.is_ok.ensures.value ∙ tested _ c.args.bytes.now _ _ c.from_utf8.ensures.cases

-- A text has one layout or one fault.
use Rattle.std.proofs.Common.{◌≡◌, ℕ, ◌≤◌, ◌⊎◌, inl, inr, List, length, refl, ap, sym, ◌∙◌, subst, arith}
use Rattle.std.specs.Prelude.{IsUtf8}
use Rattle.uc_base.specs.declared.place.Place.{Place}
use Rattle.uc_base.specs.declared.fault.Fault.{Fault}
use Rattle.uc_base.specs.declared.fault.Fault.TheVariants.{BadToken, LeftOut, Memory}
use Rattle.uc_layout.specs.declared.start.Wrong.{Wrong}
use Rattle.uc_layout.specs.declared.start.Wrong.TheVariants as wrong
use Rattle.uc_layout.specs.Tokens.{Seen, ended, failed, IsTokenized}
use Rattle.uc_layout.specs.Scan.{fault_of, IsTokenFault}
use Rattle.uc_layout.specs.Layout.{LaysPieces}
use Rattle.uc_layout.specs.Text.{pieces_of, joined, IsMarked, IsFirstFault, too_long, not_utf8, bad_token, left_out, LayoutIsUnique, FaultIsUnique, LayoutHasNoFault}
use Rattle.uc_layout.proofs.Cut.{tokens_unique}
use Rattle.uc_layout.proofs.Marked.{unique}

same_end : (p q : Place) → ended p ≡ ended q → p ≡ q
same_end p q h = cc

same_failure : (w v : Wrong) (p q : Place) → failed w p ≡ failed v q → (w ≡ v) × (p ≡ q)
same_failure w v p q h = (cc, cc)

no_failure : (w : Wrong) (p q : Place) → ended p ≡ failed w q → ⊥
no_failure w p q h = cc

marked_unique : (ts us : List Seen) (p q : Place) (a b : List Seen) → ts ≡ us → p ≡ q → IsMarked ts p a → IsMarked us q b → a ≡ b
marked_unique ts us p q a b d e h k =
    let P : List Seen → Type 0 = λ x. LaysPieces (pieces_of 0 x) h.marks in
    let m : h.marks ≡ k.marks = unique _ h.marks k.marks (subst P d h.laid) k.laid in
    h.whole ∙ ap (λ x. joined x ts p) m ∙ ap (λ x. joined k.marks x p) d ∙ ap (λ x. joined k.marks us x) e ∙ sym k.whole

pub layout_unique : LayoutIsUnique
layout_unique text a b h k =
    let t = tokens_unique text _ _ _ _ h.tokenized k.tokenized in
    marked_unique _ _ _ _ a b t.0 (same_end _ _ t.1) h.marked k.marked

bad_or_left_out : (p q : Place) → failed wrong.Bad p ≡ failed wrong.LeftOut q → ⊥
bad_or_left_out p q h = cc

pub fault_unique : FaultIsUnique
fault_unique text a b (too_long h) (too_long k) = refl
fault_unique text a b (too_long h) (not_utf8 k u) = absurd (omega arith)
fault_unique text a b (too_long h) (bad_token k u t) = absurd (omega arith)
fault_unique text a b (too_long h) (left_out k u t) = absurd (omega arith)
fault_unique text a b (not_utf8 k u) (too_long h) = absurd (omega arith)
fault_unique text a b (not_utf8 h u) (not_utf8 k v) = refl
fault_unique text a b (not_utf8 h u) (bad_token k v t) = absurd (u v)
fault_unique text a b (not_utf8 h u) (left_out k v t) = absurd (u v)
fault_unique text a b (bad_token k u t) (too_long h) = absurd (omega arith)
fault_unique text a b (bad_token k v t) (not_utf8 h u) = absurd (u v)
fault_unique text a b (bad_token h u t) (bad_token k v s) = ap BadToken (same_failure _ _ _ _ ((tokens_unique text _ _ _ _ t s).1)).1
fault_unique text a b (bad_token h u t) (left_out k v s) = absurd (bad_or_left_out _ _ ((tokens_unique text _ _ _ _ t s).1))
fault_unique text a b (left_out k u t) (too_long h) = absurd (omega arith)
fault_unique text a b (left_out k v t) (not_utf8 h u) = absurd (u v)
fault_unique text a b (left_out h u t) (bad_token k v s) = absurd (bad_or_left_out _ _ (sym ((tokens_unique text _ _ _ _ t s).1)))
fault_unique text a b (left_out h u t) (left_out k v s) = ap LeftOut (same_failure _ _ _ _ ((tokens_unique text _ _ _ _ t s).1)).1

pub no_fault : LayoutHasNoFault
no_fault text blocks fault h (too_long k) = let p : length text ≤ 262144 = h.short in omega arith
no_fault text blocks fault h (not_utf8 k u) = u h.utf8
no_fault text blocks fault h (bad_token k u t) = no_failure _ _ _ ((tokens_unique text _ _ _ _ h.tokenized t).1)
no_fault text blocks fault h (left_out k u t) = no_failure _ _ _ ((tokens_unique text _ _ _ _ h.tokenized t).1)

-- the fault of a scan is that of its text
pub token_fault : (text : List ℕ) (fault : Fault) → length text ≤ 262144 → IsUtf8 text → IsTokenFault text fault → IsFirstFault text fault
token_fault text fault s u h = by_wrong h.wrong h.cause h.scanned
  where
    by_wrong : (w : Wrong) → fault ≡ fault_of w h.place → IsTokenized text h.tokens (failed w h.place) → IsFirstFault text fault
    by_wrong wrong.Bad c t = let P : Fault → Type 0 = λ x. IsFirstFault text x in subst P (sym c) (bad_token s u t)
    by_wrong wrong.LeftOut c t = let P : Fault → Type 0 = λ x. IsFirstFault text x in subst P (sym c) (left_out s u t)

pub scan_fault : (text : List ℕ) (fault : Fault) → length text ≤ 262144 → IsUtf8 text → (fault ≡ Memory) ⊎ IsTokenFault text fault → (fault ≡ Memory) ⊎ IsFirstFault text fault
scan_fault text fault s u (inl m) = inl m
scan_fault text fault s u (inr t) = inr (token_fault text fault s u t)

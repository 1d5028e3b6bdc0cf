-- Fresh numbers don't depend on the order of entries.
use Rattle.std.proofs.Common.{◌≡◌, ℕ, zero, suc, Bool, true, false, eqb, ◌||◌, List, [], ◌∷◌, ◌++◌, map, refl, sym, ap, ◌∙◌, append-nil}
use Rattle.std.specs.List.{list_any}
use Rattle.std.proofs.lemmas.List.Folds.{list_any-append}
use Rattle.uc_context.specs.declared.entry.Entry.TheVariants.{Exists}
use Rattle.uc_context.specs.Entries.{ContextEntries, is_numbered}
use Rattle.uc_context.specs.Fresh.{fresh_number, fresh_numbers}
use Rattle.uc_context.proofs.FreshNumbers.{fresh_number-IsFresh, fresh_number-from}

-- entries have the same numbers
abbrev pub HaveSameNumbers : ContextEntries → ContextEntries → Type 0
HaveSameNumbers es ds = (m : ℕ) → list_any (is_numbered m) es ≡ list_any (is_numbered m) ds

pub fresh_among : (es ds : ContextEntries) → HaveSameNumbers es ds → fresh_number es ≡ fresh_number ds
fresh_among es ds same =
    fresh_number-from ds (fresh_number es) (record {
      unused = λ used. (fresh_number-IsFresh es).unused (same (fresh_number es) ∙ used);
      least = λ m below. sym (same m) ∙ (fresh_number-IsFresh es).least m below;
    })

pub fresh_numbers_among : (k : ℕ) (es ds : ContextEntries) → HaveSameNumbers es ds → fresh_numbers k es ≡ fresh_numbers k ds
fresh_numbers_among zero es ds same = refl
fresh_numbers_among (suc k) es ds same =
    ap (λ (n : ℕ). n ∷ fresh_numbers k (Exists n ∷ es)) (fresh_among es ds same)
    ∙ ap (λ (ns : List ℕ). fresh_number ds ∷ ns) (fresh_numbers_among k (Exists (fresh_number ds) ∷ es) (Exists (fresh_number ds) ∷ ds) (λ m. ap (λ (b : Bool). eqb (fresh_number ds) m || b) (same m)))

turned : (a b c : Bool) → (a || (b || c)) ≡ (b || (a || c))
turned true true c = refl
turned true false c = refl
turned false true c = refl
turned false false c = refl

-- an entry in front, or between others
moved : (n : ℕ) (es ds : ContextEntries) → HaveSameNumbers (Exists n ∷ (es ++ ds)) (es ++ Exists n ∷ ds)
moved n es ds m =
    ap (λ (b : Bool). eqb n m || b) (list_any-append (is_numbered m) es ds)
    ∙ turned (eqb n m) (list_any (is_numbered m) es) (list_any (is_numbered m) ds)
    ∙ sym (list_any-append (is_numbered m) es (Exists n ∷ ds))

-- so many numbers where one is taken behind the others
pub fresh_behind : (k n : ℕ) (es : ContextEntries) → fresh_numbers k (es ++ Exists n ∷ []) ≡ fresh_numbers k (Exists n ∷ es)
fresh_behind k n es = sym (ap (λ (cs : ContextEntries). fresh_numbers k (Exists n ∷ cs)) (sym (append-nil es)) ∙ fresh_numbers_among k (Exists n ∷ (es ++ [])) (es ++ Exists n ∷ []) (moved n es []))

-- the next number where so many are taken behind the others
pub fresh_next : (k : ℕ) (es : ContextEntries) → fresh_numbers (suc k) es ≡ fresh_numbers k es ++ fresh_number (es ++ map (λ n. Exists n) (fresh_numbers k es)) ∷ []
fresh_next zero es = ap (λ (cs : ContextEntries). fresh_number cs ∷ []) (sym (append-nil es))
fresh_next (suc k) es =
    let n : ℕ = fresh_number es in
    let ns : List ℕ = fresh_numbers k (Exists n ∷ es) in
    ap (λ (ms : List ℕ). n ∷ ms) (fresh_next k (Exists n ∷ es) ∙ ap (λ (m : ℕ). ns ++ m ∷ []) (fresh_among (Exists n ∷ (es ++ map (λ n. Exists n) ns)) (es ++ Exists n ∷ map (λ n. Exists n) ns) (moved n es (map (λ n. Exists n) ns))))

-- So many parts, which a tree keeps as a list of its own.
use Rattle.std.proofs.Common.{◌≡◌, ℕ, List, ◌++◌, length, Some, sym, ap, subst, ◌∙◌}
use Rattle.std.specs.List.{AllByRecursion}
use Rattle.uc_canon.specs.Bounds.{IsCount}
use Rattle.uc_canon.specs.Spelling.{number_text}
use Rattle.uc_canon.specs.Reading.{Read, counted_at}
use Rattle.uc_canon.proofs.ReadNumbers.{counted_takes, counted_again}
use Rattle.uc_canon.proofs.ReadSteps.{Takes, laid}

-- parts with what holds of each, and the tree that has them with what then holds of it, its size and its text
module _ {A T : Type 0} (text : A → List ℕ) (P : A → Type 0) (of : List A → T) (Q : T → Type 0) (size : T → ℕ) (counted : T → List ℕ)
    (sizes : (xs : List A) → size (of xs) ≡ length xs) (texts : (xs : List A) → number_text (length xs) ++ laid text xs ≡ counted (of xs)) where
  pub record Parts (least : ℕ) (bytes : List ℕ) (x : List A × List ℕ) : Type 0 where
    pub parts : bytes ≡ counted (of x.0) ++ x.1
    pub count : IsCount least (size (of x.0))
    pub fit : Q (of x.0)

  pub parts_take : (next : List ℕ → Read A) → ((xs : List A) → AllByRecursion P xs → Q (of xs)) → ((bytes : List ℕ) (x : A × List ℕ) → next bytes ≡ Some x → Takes text P bytes x)
      → (least : ℕ) (bytes : List ℕ) (x : List A × List ℕ) → counted_at next least bytes ≡ Some x → Parts least bytes x
  parts_take next from take_one least bytes x e =
      let r = counted_takes text P next take_one least bytes x e in
      record {
        parts = r.parts ∙ ap (λ (l : List ℕ). l ++ x.1) (texts x.0);
        count = subst (λ (n : ℕ). IsCount least n) (sym (sizes x.0)) r.count;
        fit = from x.0 r.fit;
      }

  pub parts_again : (next : List ℕ → Read A) (list : T → List A) → ((t : T) → of (list t) ≡ t) → ((t : T) → Q t → AllByRecursion P (list t)) → ((x : A) (rest : List ℕ) → P x → next (text x ++ rest) ≡ Some (x, rest))
      → (least : ℕ) (t : T) (rest : List ℕ) → IsCount least (size t) → Q t → counted_at next least (counted t ++ rest) ≡ Some (list t, rest)
  parts_again next list back to again_one least t rest count fit =
      let xs = list t in
      let count_is : size t ≡ length xs = ap size (sym (back t)) ∙ sizes xs in
      let text_is : counted t ≡ number_text (length xs) ++ laid text xs = ap counted (sym (back t)) ∙ sym (texts xs) in
      ap (λ (l : List ℕ). counted_at next least (l ++ rest)) text_is
      ∙ counted_again text P next again_one least xs rest (subst (λ (n : ℕ). IsCount least n) count_is count) (to t fit)

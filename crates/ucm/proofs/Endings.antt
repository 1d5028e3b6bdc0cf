-- How a run ends, by how its parts end.
use Rattle.std.proofs.Common.{◌≡◌, ℕ, ◌≤◌, ◌⊎◌, inl, inr, List, [], ◌∷◌, ◌++◌, length, get_or, Result, Ok, Err, IfOk, codes, lit<, lit≤, refl, sym, ap, subst, ◌∙◌, arith}
use Rattle.std.proofs.lemmas.Fmt.{decimal_step, decimal_digit}
use Rattle.std.specs.Str.Parse.{digits_value}
use Rattle.std.specs.String.{string_bytes}
use Rattle.std.specs.declared.alloc.Global.{Global}
use Rattle.std.specs.declared.string.String.{String}
use Rattle.uc_base.specs.declared.fault.Fault.{Fault}
use Rattle.uc_base.specs.declared.fault.Fault.TheVariants.{Memory, NotBuilt, TextTooLong, Usage}
use Rattle.ucm.specs.Ends.{Does, Ends, EndsRefused, IsBegun, RefusesFor, StandsAfterFault, whole, cut, with_line, without_memory, by_run, by_input, by_memory, of_run, of_input, of_memory, input_failed, output_failed}
use Rattle.ucm.specs.NumberLine.{IsNumberLine}
use Rattle.ucm.specs.Program.{IsAdd, Runs, adds, added_text, refusal_text, status_of, texts_of, text_limit}

-- one word alone
pub one_text : (words : List (String Global)) (word : String Global) → word ≡ get_or words 0 word → length words ≡ 1 → texts_of words ≡ string_bytes word ∷ []
one_text [] word is one = absurd (omega arith)
one_text (w ∷ []) word is one = rw is refl
one_text (w ∷ v ∷ ws) word is one = absurd (omega arith)

-- the line of `Memory`
pub memory_text : refusal_text Memory ≡ codes "refused 50 Memory\n"
memory_text = rw (decimal_step 50 (lit≤ tt) (lit< tt), decimal_digit 5 (lit< tt)) refl

-- the reply to a line of the form
pub reply_runs : (words : List (List ℕ)) (input name digits : List ℕ) (number : ℕ) → IsAdd words → length input ≤ text_limit → IsNumberLine input name digits
    → number ≡ digits_value 10 digits → (r : Result (List ℕ) Fault) → IfOk r (λ text. text ≡ added_text name number) → IfOk r (λ text. Runs words input text 0)
reply_runs words input name digits number form short line is (Ok text) h = adds name digits form short line (h ∙ ap (added_text name) is) refl
reply_runs words input name digits number form short line is (Err e) h = tt

-- a refusal by the words or the input has another status than 5
other_status : (fault : Fault) → (fault ≡ Usage) ⊎ (fault ≡ TextTooLong) ⊎ (fault ≡ NotBuilt) → status_of fault ≡ 5 → ⊥
other_status fault (inl is) five = let e : status_of Usage ≡ 5 = subst (λ (f : Fault). status_of f ≡ 5) is five in omega (arith, e)
other_status fault (inr (inl is)) five = let e : status_of TextTooLong ≡ 5 = subst (λ (f : Fault). status_of f ≡ 5) is five in omega (arith, e)
other_status fault (inr (inr is)) five = let e : status_of NotBuilt ≡ 5 = subst (λ (f : Fault). status_of f ≡ 5) is five in omega (arith, e)

-- the line of a fault was to be written
begun : {tells input_rose : Type 0} (words : List (List ℕ)) (input : List ℕ) (fault : Fault) → tells → RefusesFor tells words input input_rose fault
    → IsBegun words input input_rose (refusal_text fault)
begun words input fault t (by_run runs which) = of_run (status_of fault) (runs t)
begun words input fault t (by_input is r) = of_input r (ap refusal_text is)
begun words input fault t (by_memory is) = of_memory (ap refusal_text is)

-- it was written whole, with status 5
wholly : {tells input_rose rose : Type 0} (words : List (List ℕ)) (input old new : List ℕ) (fault : Fault) → RefusesFor tells words input input_rose fault
    → new ≡ old ++ refusal_text fault → status_of fault ≡ 5 → StandsAfterFault words input old new input_rose rose
wholly words input old new fault (by_run runs which) written five = absurd (other_status fault which five)
wholly words input old new fault (by_input is r) written five = input_failed r (written ∙ ap (λ (f : Fault). old ++ refusal_text f) is)
wholly words input old new fault (by_memory is) written five =
    let e : status_of Memory ≡ 5 = subst (λ (f : Fault). status_of f ≡ 5) is five in absurd (omega (arith, e))

module _ {tells rose : Type 0} (words : List (List ℕ)) (input old new : List ℕ) (result : ℕ) where
  pub replied : (text : List ℕ) (status : ℕ) → tells → Runs words input text status → Ends tells text old new status rose result → (result ≡ 5 → ⊥) → Does words input old new result
  replied text status t runs (whole written is) not5 = record { text = text; runs = subst (λ (s : ℕ). Runs words input text s) (sym is) runs; written = written t }
  replied text status t runs (cut front r is) not5 = absurd (not5 is)

  -- the output failed behind a part of the reply
  pub reply_cut : {input_rose : Type 0} (text : List ℕ) (status : ℕ) → tells → Runs words input text status → (status ≡ 5 → ⊥) → Ends tells text old new status rose result → result ≡ 5
      → StandsAfterFault words input old new input_rose rose
  reply_cut text status t runs other (whole written is) five = absurd (other (sym is ∙ five))
  reply_cut text status t runs other (cut front r is) five = output_failed text r (of_run status runs) (front t)

  pub refused_so : {input_tells input_rose : Type 0} (fault : Fault) → tells → input_tells → RefusesFor input_tells words input input_rose fault → EndsRefused tells fault old new rose result → result ≡ 5
      → StandsAfterFault words input old new input_rose rose
  refused_so fault t u why (with_line (whole written is)) five = wholly words input old new fault why (written t) (sym is ∙ five)
  refused_so fault t u why (with_line (cut front r is)) five = output_failed (refusal_text fault) r (begun words input fault u why) (front t)
  refused_so fault t u why (without_memory (whole written is)) five = let e : 6 ≡ 5 = sym is ∙ five in absurd (omega (arith, e))
  refused_so fault t u why (without_memory (cut front r is)) five = output_failed (refusal_text Memory) r (of_memory refl) (front t)

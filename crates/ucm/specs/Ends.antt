-- How a run may end.
use Rattle.std.specs.Prelude.{◌≡◌, ℕ, ◌⊎◌, List, ◌++◌}
use Rattle.uc_base.specs.declared.fault.Fault.{Fault}
use Rattle.uc_base.specs.declared.fault.Fault.TheVariants.{InputFault, Memory, NotBuilt, TextTooLong, Usage}
use Rattle.ucm.specs.Program.{Runs, refusal_text, status_of}

-- why a reply was refused: by the words or the input, by a failed read, or for want of memory
pub data RefusesFor (tells : Type 0) (words : List (List ℕ)) (input : List ℕ) (input_rose : Type 0) (fault : Fault) : Type 0 where
  by_run : (tells → Runs words input (refusal_text fault) (status_of fault)) → (fault ≡ Usage) ⊎ (fault ≡ TextTooLong) ⊎ (fault ≡ NotBuilt)
      → RefusesFor tells words input input_rose fault
  by_input : fault ≡ InputFault → input_rose → RefusesFor tells words input input_rose fault
  by_memory : fault ≡ Memory → RefusesFor tells words input input_rose fault

-- the output gained just the text of this run
pub record Does (words : List (List ℕ)) (input old new : List ℕ) (status : ℕ) : Type 0 where
  pub text : List ℕ
  pub runs : Runs words input text status
  pub written : new ≡ old ++ text

-- the output gained the front of a text
pub record GainsFront (text old new : List ℕ) : Type 0 where
  pub front : List ℕ
  pub rest : List ℕ
  pub is : text ≡ front ++ rest
  pub written : new ≡ old ++ front

-- the text was written whole, with this status, or the output failed
pub data Ends (tells : Type 0) (text old new : List ℕ) (status : ℕ) (rose : Type 0) (result : ℕ) : Type 0 where
  whole : (tells → new ≡ old ++ text) → result ≡ status → Ends tells text old new status rose result
  cut : (tells → GainsFront text old new) → rose → result ≡ 5 → Ends tells text old new status rose result

-- a text that a run may have begun to write when the output failed
pub data IsBegun (words : List (List ℕ)) (input : List ℕ) (input_rose : Type 0) (text : List ℕ) : Type 0 where
  of_run : (status : ℕ) → Runs words input text status → IsBegun words input input_rose text
  of_input : input_rose → text ≡ refusal_text InputFault → IsBegun words input input_rose text
  of_memory : text ≡ refusal_text Memory → IsBegun words input input_rose text

-- what stands on the output after a fault of the input or of the output
pub data StandsAfterFault (words : List (List ℕ)) (input old new : List ℕ) (input_rose output_rose : Type 0) : Type 0 where
  input_failed : input_rose → new ≡ old ++ refusal_text InputFault → StandsAfterFault words input old new input_rose output_rose
  output_failed : (text : List ℕ) → output_rose → IsBegun words input input_rose text → GainsFront text old new
      → StandsAfterFault words input old new input_rose output_rose

-- the front of the text before that rest was written
pub record IsSplit (text rest : List ℕ) (tells : Type 0) (old new : List ℕ) : Type 0 where
  pub front : List ℕ
  pub is : text ≡ front ++ rest
  pub written : tells → new ≡ old ++ front

-- the line of a fault was to be written, or that of `Memory` where there was none to make it
pub data EndsRefused (tells : Type 0) (fault : Fault) (old new : List ℕ) (rose : Type 0) (result : ℕ) : Type 0 where
  with_line : Ends tells (refusal_text fault) old new (status_of fault) rose result → EndsRefused tells fault old new rose result
  without_memory : Ends tells (refusal_text Memory) old new 6 rose result → EndsRefused tells fault old new rose result

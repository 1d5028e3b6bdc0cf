-- What the names that are wanted and end in a word stand for.
use Rattle.std.proofs.Common.{◌≡◌, ℕ, Bool, true, false, cond, List, refl, sym, ap, ◌∙◌, Option, Some, None}
use Rattle.std.specs.Option.{option_map}
use Rattle.uc_base.specs.Name.{is_one_of}
use Rattle.uc_meaning.specs.declared.senses.Senses.{Senses}
use Rattle.uc_meaning.specs.declared.senses.Ending.{Ending}
use Rattle.uc_meaning.specs.declared.wanted.Wanted.{Wanted}
use Rattle.uc_meaning.specs.declared.wanted.Wanted.TheVariants.{Kind, Term, Constructor}
use Rattle.uc_meaning.specs.Candidates.{ends_in, ending_in}
use Rattle.uc_meaning.specs.Meanings.{is_constructor}
use Rattle.uc_meaning.specs.Senses.{ending_of, senses_of}
use Rattle.uc_meaning.specs.SortNames.{Indexed, ending_among, senses_wanted}
use Rattle.uc_meaning.proofs.CandidateSteps.{filter_either}

part_found : (b : Bool) (part : Ending → Senses) (y : Ending) → option_map part (cond b (Some y) None) ≡ cond b (Some (part y)) None
part_found true part y = refl
part_found false part y = refl

pub kind_senses : (kinds terms : Indexed) (wanted : Wanted) (w : List ℕ) (x : Option Ending) → wanted ≡ Kind → x ≡ ending_among kinds w
    → option_map (λ e. e.any) x ≡ senses_wanted kinds terms wanted w
kind_senses kinds terms wanted w x k h =
    ap (option_map (λ e. e.any)) h ∙ part_found (is_one_of kinds.words w) (λ e. e.any) (ending_of (ending_in kinds.entries w))
    ∙ ap (λ v. senses_wanted kinds terms v w) (sym k)

pub term_senses : (kinds terms : Indexed) (wanted : Wanted) (w : List ℕ) (x : Option Ending) → wanted ≡ Term → x ≡ ending_among terms w
    → option_map (λ e. e.any) x ≡ senses_wanted kinds terms wanted w
term_senses kinds terms wanted w x k h =
    ap (option_map (λ e. e.any)) h ∙ part_found (is_one_of terms.words w) (λ e. e.any) (ending_of (ending_in terms.entries w))
    ∙ ap (λ v. senses_wanted kinds terms v w) (sym k)

pub constructor_senses : (kinds terms : Indexed) (wanted : Wanted) (w : List ℕ) (x : Option Ending) → wanted ≡ Constructor → x ≡ ending_among terms w
    → option_map (λ e. e.constructors) x ≡ senses_wanted kinds terms wanted w
constructor_senses kinds terms wanted w x k h =
    ap (option_map (λ e. e.constructors)) h ∙ part_found (is_one_of terms.words w) (λ e. e.constructors) (ending_of (ending_in terms.entries w))
    ∙ ap (λ es. cond (is_one_of terms.words w) (Some (senses_of es)) None) (filter_either (λ e. is_constructor e.1) (λ e. ends_in w e.0) terms.entries)
    ∙ ap (λ v. senses_wanted kinds terms v w) (sym k)

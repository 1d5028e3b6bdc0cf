-- The names of one sort, with what those that end in a text stand for.
use Rattle.uc_tree.specs.Lookups.{Pairs}
use Rattle.uc_base.specs.Name.{is_one_of}
use Rattle.uc_meaning.specs.declared.senses.Senses.{Senses}
use Rattle.uc_meaning.specs.declared.senses.Ending.{Ending}
use Rattle.uc_meaning.specs.declared.wanted.Wanted.{Wanted}
use Rattle.uc_meaning.specs.declared.wanted.Wanted.TheVariants.{Kind, Term, Constructor}
use Rattle.uc_meaning.specs.Candidates.{ending_in}
use Rattle.uc_meaning.specs.Entries.{Entry, entries_over, head_entries}
use Rattle.uc_meaning.specs.HeadNames.{AreNames}
use Rattle.uc_meaning.specs.Meanings.{entries_wanted}
use Rattle.uc_meaning.specs.Senses.{ending_of, senses_of}
use Rattle.uc_meaning.specs.Suffixes.{Suffixes, TellsEndings}
use Rattle.std.specs.Prelude.{ℕ, List, Option, Some, None, if◌then◌else◌}

-- the names of a sort, and the words at which it is known what the names that end in them stand for
pub record Indexed : Type 0 where
  pub entries : List Entry
  pub words : List (List ℕ)

-- what the names that end in a text stand for, where it is one of the words
abbrev pub ending_among : Indexed → List ℕ → Option Ending
ending_among names w = if is_one_of names.words w then Some (ending_of (ending_in names.entries w)) else None

-- the names that may stand where a type, a term or a constructor is wanted
abbrev pub indexed_wanted : Indexed → Indexed → Wanted → List Entry
indexed_wanted kinds terms = entries_wanted kinds.entries terms.entries

-- the words of the sort of what is wanted
abbrev pub words_wanted : Indexed → Indexed → Wanted → List (List ℕ)
words_wanted kinds terms Kind = kinds.words
words_wanted kinds terms Term = terms.words
words_wanted kinds terms Constructor = terms.words

-- what those that are wanted and end in a text stand for, where it is one of the words
abbrev pub senses_wanted : Indexed → Indexed → Wanted → List ℕ → Option Senses
senses_wanted kinds terms wanted w =
    if is_one_of (words_wanted kinds terms wanted) w then Some (senses_of (ending_in (indexed_wanted kinds terms wanted) w)) else None

-- the texts are told what the names of a file over those of a head stand for
pub record IsIndexed (own : List Entry) (pairs : Pairs) (suffixes : Suffixes) : Type 0 where
  pub names : AreNames pairs
  pub endings : TellsEndings (entries_over own (head_entries pairs)) suffixes

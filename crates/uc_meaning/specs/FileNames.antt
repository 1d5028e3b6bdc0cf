-- The names of a file, each with what it stands for, in the order of its text.
use Rattle.std.specs.Prelude.{ℕ, ◌+◌, Bool, List, [], ◌∷◌, ◌++◌}
use Rattle.uc_base.specs.declared.hash.Hash.{Hash}
use Rattle.uc_base.specs.declared.place.Sort.{Sort}
use Rattle.uc_base.specs.declared.reference.Ref.{Ref}
use Rattle.uc_tree.specs.Lookups.{Pairs}
use Rattle.uc_tree.specs.declared.target.Target.TheVariants.{Own, OwnCtor}
use Rattle.uc_scratch.specs.declared.written.Written.{Written}
use Rattle.uc_scratch.specs.Files.{Constructor, Item, declaration, prefix, infix_operator}
use Rattle.uc_scratch.specs.ExprGrammar.{head_name}
use Rattle.uc_scratch.specs.NameFaults.{constructor_name}
use Rattle.uc_meaning.specs.Entries.{Entry}
use Rattle.uc_meaning.specs.Meanings.{Known, known_over}

-- the declared types of a file, from this number on
abbrev pub kind_entries : ℕ → List Item → List Entry
kind_entries k [] = []
kind_entries k (declaration s w ws cs ∷ is) = (w.text, Own k) ∷ kind_entries (k + 1) is
kind_entries k (_ ∷ is) = kind_entries k is

-- the constructors of a declared type, from this number on
abbrev pub ctor_entries : ℕ → Written → ℕ → List Constructor → List Entry
ctor_entries k w c [] = []
ctor_entries k w c (x ∷ cs) = (constructor_name w x, OwnCtor k c) ∷ ctor_entries k w (c + 1) cs

-- the definitions and constructors of a file, from these numbers of declared types and of definitions on
abbrev pub term_entries : ℕ → ℕ → List Item → List Entry
term_entries k n [] = []
term_entries k n (declaration s w ws cs ∷ is) = ctor_entries k w 0 cs ++ term_entries (k + 1) n is
term_entries k n (prefix h ps b ∷ is) = ((head_name h).text, Own n) ∷ term_entries k (n + 1) is
term_entries k n (infix_operator x w y b ∷ is) = (w.text, Own n) ∷ term_entries k (n + 1) is
term_entries k n (_ ∷ is) = term_entries k n is

-- the names that can be meant in a file: its own over those of a head
abbrev pub known_of : List Item → (Sort → Pairs) → List Hash → (Sort → Ref → Bool) → Known
known_of is = known_over (kind_entries 0 is) (term_entries 0 0 is)

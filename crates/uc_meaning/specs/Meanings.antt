-- What written names, hashes and builtins mean.
use Rattle.std.specs.Prelude.{ℕ, Bool, true, false, not, ◌==◌, ◌&&◌, ◌||◌, List, [], ◌∷◌, drop, Option, Some, None, Result, Ok, Err, nat_lt, if◌then◌else◌}
use Rattle.std.specs.List.{filter}
use Rattle.uc_base.specs.declared.hash.Hash.{Hash}
use Rattle.uc_base.specs.declared.reference.Ref.{Ref}
use Rattle.uc_base.specs.declared.reference.Ref.TheVariants.{Def, Ctor, Builtin}
use Rattle.uc_base.specs.declared.place.Sort.{Sort}
use Rattle.uc_base.specs.declared.place.Sort.TheVariants as sort
use Rattle.uc_base.specs.declared.place.At.TheVariants.{Place}
use Rattle.uc_base.specs.declared.fault.Fault.{Fault}
use Rattle.uc_base.specs.declared.fault.Fault.TheVariants.{NoSuchHash, AmbiguousHash}
use Rattle.uc_base.specs.Builtin.{builtin_number}
use Rattle.uc_tree.specs.Lookups.{Pairs, found_by_prefix}
use Rattle.uc_tree.specs.declared.lookups.Found.{Found}
use Rattle.uc_tree.specs.declared.lookups.Found.TheVariants as found
use Rattle.uc_tree.specs.declared.target.Target.{Target}
use Rattle.uc_tree.specs.declared.target.Target.TheVariants.{Stored, Own, OwnCtor}
use Rattle.uc_scratch.specs.declared.written.Written.{Written}
use Rattle.uc_scratch.specs.declared.written.Reference.{Reference}
use Rattle.uc_scratch.specs.declared.written.Reference.TheVariants as reference
use Rattle.uc_scratch.specs.declared.written.Con.{Con}
use Rattle.uc_scratch.specs.declared.written.Con.TheVariants as con
use Rattle.uc_meaning.specs.declared.wanted.Wanted.{Wanted}
use Rattle.uc_meaning.specs.declared.wanted.Wanted.TheVariants.{Kind, Term, Constructor}
use Rattle.uc_meaning.specs.Literals.{number_written}
use Rattle.uc_meaning.specs.Entries.{Entry, head_entries, entries_over}
use Rattle.uc_meaning.specs.Candidates.{Usings, candidates_of, meaning_among}

-- what can be meant in a file: names of types and of terms, and what is stored
pub record Known : Type 0 where
  pub kinds : List Entry
  pub terms : List Entry
  pub hashes : List Hash
  pub holds : Sort → Ref → Bool

-- the names of a file over those of a head, and what is stored
abbrev pub known_over : List Entry → List Entry → (Sort → Pairs) → List Hash → (Sort → Ref → Bool) → Known
known_over kinds terms pairs hashes holds = record {
  kinds = entries_over kinds (head_entries (pairs sort.Kind));
  terms = entries_over terms (head_entries (pairs sort.Term));
  hashes = hashes;
  holds = holds;
}

-- whether something is a constructor
abbrev pub is_constructor : Target → Bool
is_constructor (Stored (Ctor hash member ctor)) = true
is_constructor (Stored _) = false
is_constructor (Own k) = false
is_constructor (OwnCtor k c) = true

-- what is found, if it is a constructor
abbrev pub constructor_among : Option Target → Option Target
constructor_among None = None
constructor_among (Some t) = if is_constructor t then Some t else None

-- the names that may stand where a type, a term or a constructor is wanted
abbrev pub entries_wanted : List Entry → List Entry → Wanted → List Entry
entries_wanted kinds terms Kind = kinds
entries_wanted kinds terms Term = terms
entries_wanted kinds terms Constructor = filter (λ e. is_constructor e.1) terms

abbrev pub entries_for : Known → Wanted → List Entry
entries_for known = entries_wanted known.kinds known.terms

-- what a written name means, behind the step of local binders
abbrev pub name_meaning : Known → Wanted → Usings → Written → Result Target Fault
name_meaning known wanted usings w = meaning_among w.place w.text (candidates_of (entries_for known wanted) usings w.text)

-- whether a stored reference exists and is what is wanted
abbrev pub is_held : (Sort → Ref → Bool) → Wanted → Ref → Bool
is_held holds Kind r = holds sort.Kind r
is_held holds Term r = holds sort.Term r
is_held holds Constructor r = is_constructor (Stored r) && holds sort.Term r

-- the characters before the first `.` or `#`
abbrev pub before_mark : List ℕ → List ℕ
before_mark [] = []
before_mark (c ∷ cs) = if c == 46 || c == 35 then [] else c ∷ before_mark cs

-- the characters from the first `.` or `#` on
abbrev pub from_mark : List ℕ → List ℕ
from_mark [] = []
from_mark (c ∷ cs) = if c == 46 || c == 35 then c ∷ cs else from_mark cs

-- the reference to a member, or to a constructor of it behind `#`
abbrev pub member_ref : Hash → ℕ → List ℕ → Ref
member_ref hash member [] = Def hash member
member_ref hash member (c ∷ cs) = Ctor hash member (number_written 32 cs)

-- the reference that a hash and what is written behind its digits stand for: `.` and a member, `#` and a constructor
abbrev pub ref_from : Hash → List ℕ → Ref
ref_from hash [] = Def hash 0
ref_from hash (c ∷ cs) = if c == 46 then member_ref hash (number_written 32 (before_mark cs)) (from_mark cs) else member_ref hash 0 (c ∷ cs)

-- what hashes that begin with the digits mean
abbrev pub found_meaning : (Sort → Ref → Bool) → Wanted → Written → List ℕ → Found → Result Target Fault
found_meaning holds wanted w behind found.None = Err (NoSuchHash (Place w.place))
found_meaning holds wanted w behind found.Many = Err (AmbiguousHash (Place w.place))
found_meaning holds wanted w behind (found.One hash) =
    if is_held holds wanted (ref_from hash behind) then Ok (Stored (ref_from hash behind)) else Err (NoSuchHash (Place w.place))

-- what a hash means: `#` and digits, with which exactly one stored hash begins
abbrev pub hash_meaning : List Hash → (Sort → Ref → Bool) → Wanted → Written → Result Target Fault
hash_meaning hashes holds wanted w =
    let text = drop 1 w.text in
    found_meaning holds wanted w (from_mark text) (found_by_prefix (before_mark text) hashes)

-- whether a builtin is what is wanted
abbrev pub is_wanted_builtin : Wanted → ℕ → Bool
is_wanted_builtin Kind n = nat_lt n 16
is_wanted_builtin Term n = not (nat_lt n 16)
is_wanted_builtin Constructor n = false

-- what the number of a builtin means
abbrev pub numbered_meaning : Wanted → Written → Option ℕ → Result Target Fault
numbered_meaning wanted w None = Err (NoSuchHash (Place w.place))
numbered_meaning wanted w (Some n) = if is_wanted_builtin wanted n then Ok (Stored (Builtin n)) else Err (NoSuchHash (Place w.place))

-- what `##` and a name of the table means
abbrev pub builtin_meaning : Wanted → Written → Result Target Fault
builtin_meaning wanted w = numbered_meaning wanted w (builtin_number (drop 2 w.text))

-- what a hash or a builtin means
abbrev pub reference_meaning : Known → Wanted → Reference → Result Target Fault
reference_meaning known wanted (reference.Hash w) = hash_meaning known.hashes known.holds wanted w
reference_meaning known wanted (reference.Builtin w) = builtin_meaning wanted w

-- what the name of a type or of a constructor means
abbrev pub con_meaning : Known → Wanted → Usings → Con → Result Target Fault
con_meaning known wanted usings (con.Path w) = name_meaning known wanted usings w
con_meaning known wanted usings (con.Reference r) = reference_meaning known wanted r

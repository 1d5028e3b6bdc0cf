-- The table of faults, and the line of each.
use Rattle.std.specs.Prelude.{ℕ, List, [], ◌∷◌, ◌++◌, codes, take}
use Rattle.std.specs.Fmt.{decimal}
use Rattle.hex.specs.Hex.{encode_lower}
use Rattle.uc_base.specs.Place.{place_text}
use Rattle.uc_base.specs.declared.place.At.{At}
use Rattle.uc_base.specs.declared.place.At.TheVariants.{Nowhere, Spot, Place}
use Rattle.uc_base.specs.declared.fault.Fault.{Fault}
use Rattle.uc_base.specs.declared.fault.Fault.TheVariants.{NotUtf8, TextTooLong, BadToken, NotBuilt, BadSyntax, LeftOut, TooDeep, DuplicateName, LoneSignature, Unbound, Ambiguous, BadArity, Impredicative, NeedsSignature, IllTyped, TypeTooLarge, NoSuchBranch, BranchTaken, NoSuchName, NameTaken, SameName, StillUsed, NothingToUndo, MainKept, BadName, Collision, NoSuchHash, JournalFull, TooManyBranches, AmbiguousHash, TooManyNames, StoreFull, JournalFault, NotACodebase, Damaged, InputFault, OutputFault, Memory, Usage}

abbrev pub fault_number : Fault → ℕ
fault_number NotUtf8 = 1
fault_number TextTooLong = 2
fault_number (BadToken place) = 3
fault_number NotBuilt = 4
fault_number (BadSyntax place) = 5
fault_number (LeftOut place) = 6
fault_number (TooDeep place) = 7
fault_number (DuplicateName place) = 8
fault_number (LoneSignature place) = 9
fault_number (Unbound place name) = 10
fault_number (Ambiguous place names) = 11
fault_number (BadArity at) = 12
fault_number (Impredicative at) = 13
fault_number (NeedsSignature at) = 14
fault_number (IllTyped at) = 15
fault_number (TypeTooLarge at) = 16
fault_number (NoSuchBranch name) = 20
fault_number (BranchTaken name) = 21
fault_number (NoSuchName name) = 22
fault_number (NameTaken name) = 23
fault_number (SameName name) = 24
fault_number (StillUsed name) = 25
fault_number (NothingToUndo name) = 27
fault_number MainKept = 28
fault_number BadName = 29
fault_number (Collision hash old new) = 32
fault_number (NoSuchHash at) = 33
fault_number JournalFull = 34
fault_number TooManyBranches = 35
fault_number (AmbiguousHash at) = 39
fault_number TooManyNames = 40
fault_number StoreFull = 41
fault_number JournalFault = 42
fault_number NotACodebase = 43
fault_number (Damaged offset) = 44
fault_number InputFault = 45
fault_number OutputFault = 46
fault_number Memory = 50
fault_number Usage = 60

abbrev pub fault_name : Fault → List ℕ
fault_name NotUtf8 = codes "NotUtf8"
fault_name TextTooLong = codes "TextTooLong"
fault_name (BadToken place) = codes "BadToken"
fault_name NotBuilt = codes "NotBuilt"
fault_name (BadSyntax place) = codes "BadSyntax"
fault_name (LeftOut place) = codes "LeftOut"
fault_name (TooDeep place) = codes "TooDeep"
fault_name (DuplicateName place) = codes "DuplicateName"
fault_name (LoneSignature place) = codes "LoneSignature"
fault_name (Unbound place name) = codes "Unbound"
fault_name (Ambiguous place names) = codes "Ambiguous"
fault_name (BadArity at) = codes "BadArity"
fault_name (Impredicative at) = codes "Impredicative"
fault_name (NeedsSignature at) = codes "NeedsSignature"
fault_name (IllTyped at) = codes "IllTyped"
fault_name (TypeTooLarge at) = codes "TypeTooLarge"
fault_name (NoSuchBranch name) = codes "NoSuchBranch"
fault_name (BranchTaken name) = codes "BranchTaken"
fault_name (NoSuchName name) = codes "NoSuchName"
fault_name (NameTaken name) = codes "NameTaken"
fault_name (SameName name) = codes "SameName"
fault_name (StillUsed name) = codes "StillUsed"
fault_name (NothingToUndo name) = codes "NothingToUndo"
fault_name MainKept = codes "MainKept"
fault_name BadName = codes "BadName"
fault_name (Collision hash old new) = codes "Collision"
fault_name (NoSuchHash at) = codes "NoSuchHash"
fault_name JournalFull = codes "JournalFull"
fault_name TooManyBranches = codes "TooManyBranches"
fault_name (AmbiguousHash at) = codes "AmbiguousHash"
fault_name TooManyNames = codes "TooManyNames"
fault_name StoreFull = codes "StoreFull"
fault_name JournalFault = codes "JournalFault"
fault_name NotACodebase = codes "NotACodebase"
fault_name (Damaged offset) = codes "Damaged"
fault_name InputFault = codes "InputFault"
fault_name OutputFault = codes "OutputFault"
fault_name Memory = codes "Memory"
fault_name Usage = codes "Usage"

-- a place is printed, a node isn't
abbrev pub at_detail : At → List ℕ
at_detail Nowhere = []
at_detail (Spot spot) = []
at_detail (Place place) = 32 ∷ place_text place

-- names, each with a space before it
abbrev pub names_detail : List (List ℕ) → List ℕ
names_detail [] = []
names_detail (name ∷ names) = 32 ∷ (name ++ names_detail names)

-- what stands behind the name, with a space before it
abbrev pub fault_detail : Fault → List ℕ
fault_detail (BadToken place) = 32 ∷ place_text place
fault_detail (BadSyntax place) = 32 ∷ place_text place
fault_detail (LeftOut place) = 32 ∷ place_text place
fault_detail (TooDeep place) = 32 ∷ place_text place
fault_detail (DuplicateName place) = 32 ∷ place_text place
fault_detail (LoneSignature place) = 32 ∷ place_text place
fault_detail (Unbound place name) = 32 ∷ (place_text place ++ (32 ∷ name))
fault_detail (Ambiguous place names) = 32 ∷ (place_text place ++ names_detail (take 10 names))
fault_detail (BadArity at) = at_detail at
fault_detail (Impredicative at) = at_detail at
fault_detail (NeedsSignature at) = at_detail at
fault_detail (IllTyped at) = at_detail at
fault_detail (TypeTooLarge at) = at_detail at
fault_detail (NoSuchBranch name) = 32 ∷ name
fault_detail (BranchTaken name) = 32 ∷ name
fault_detail (NoSuchName name) = 32 ∷ name
fault_detail (NameTaken name) = 32 ∷ name
fault_detail (SameName name) = 32 ∷ name
fault_detail (StillUsed name) = 32 ∷ name
fault_detail (NothingToUndo name) = 32 ∷ name
fault_detail (Collision hash old new) = 32 ∷ 35 ∷ encode_lower hash.0
fault_detail (NoSuchHash at) = at_detail at
fault_detail (AmbiguousHash at) = at_detail at
fault_detail (Damaged offset) = 32 ∷ decimal offset
fault_detail _ = []

-- `refused`, the number, the name, and the detail where there is one
abbrev pub fault_line : Fault → List ℕ
fault_line fault = codes "refused " ++ decimal (fault_number fault) ++ (32 ∷ fault_name fault) ++ fault_detail fault

-- What an item adds to the meaning of those behind it.
use Rattle.std.specs.Prelude.{◌≡◌, ◌⊎◌, ℕ, List, [], ◌++◌, reverse, length, Option, Result, Ok, Err}
use Rattle.uc_base.specs.declared.fault.Fault.{Fault}
use Rattle.uc_base.specs.declared.fault.Fault.TheVariants.{Memory}
use Rattle.uc_tree.specs.Declarations.{Decl}
use Rattle.uc_tree.specs.Types.{Tys}
use Rattle.uc_scratch.specs.declared.block.BindingFront.{BindingFront}
use Rattle.uc_scratch.specs.declared.file.DeclarationSort.{DeclarationSort}
use Rattle.uc_scratch.specs.declared.written.Written.{Written}
use Rattle.uc_scratch.specs.Exprs.{Expr, Block}
use Rattle.uc_scratch.specs.Files.{Constructor}
use Rattle.uc_scratch.specs.TypeLevels.{texts_of}
use Rattle.uc_scratch.specs.NameFaults.{front_name}
use Rattle.uc_base.specs.declared.place.Place.{Place}
use Rattle.uc_meaning.specs.Candidates.{Usings}
use Rattle.uc_meaning.specs.ExprMeanings.{Scope, Signed, no_parts, expr_meaning}
use Rattle.uc_meaning.specs.Meanings.{Known}
use Rattle.uc_meaning.specs.Placed.{Placed}
use Rattle.uc_meaning.specs.Programs.{Meaning, named, tag_of, ctors_meaning, fields_meaning, definition_meaning, with_kind, with_term, with_watch}
use Rattle.uc_meaning.specs.Results.{◌>>=◌}
use Rattle.uc_bodies.specs.BodyViews.{params_of}

-- nothing
abbrev pub no_meaning : Meaning
no_meaning = record { kinds = []; ctors = []; terms = []; watches = []; places = record { kinds = []; terms = []; watches = [] } }

-- a meaning before another
abbrev pub joined : Meaning → Meaning → Meaning
joined a b = record {
  kinds = a.kinds ++ b.kinds;
  ctors = a.ctors ++ b.ctors;
  terms = a.terms ++ b.terms;
  watches = a.watches ++ b.watches;
  places = record { kinds = a.places.kinds ++ b.places.kinds; terms = a.places.terms ++ b.places.terms; watches = a.places.watches ++ b.places.watches };
}

-- a meaning before another, unless there is a fault
abbrev pub behind : Meaning → Result Meaning Fault → Result Meaning Fault
behind a r = r >>= λ b. Ok (joined a b)

-- what is added, before the meaning of what stands behind it
abbrev pub before_rest : Result (Meaning → Meaning) Fault → Result Meaning Fault → Result Meaning Fault
before_rest adds rest = adds >>= λ add. rest >>= λ m. Ok (add m)

-- the scope of a declaration's fields
abbrev pub fields_scope : Usings → List Written → Scope
fields_scope usings ws = record { binders = []; variables = reverse (texts_of ws); usings = usings }

-- a declared type
abbrev pub declared : DeclarationSort → Written → List Written → Placed (List Tys) → Placed Decl
declared s w ws fields = (record { tag = tag_of s w; params = length ws; ctors = fields.0 }, fields.1)

abbrev pub declared_meaning : Known → Usings → DeclarationSort → Written → List Written → List Constructor → Result (Placed Decl) Fault
declared_meaning known usings s w ws cs = fields_meaning known (fields_scope usings ws) cs >>= λ fields. Ok (declared s w ws fields)

-- what a declaration adds, where so many types are declared before it
abbrev pub declaration_adds : Known → Usings → ℕ → DeclarationSort → Written → List Written → List Constructor → Result (Meaning → Meaning) Fault
declaration_adds known usings k s w ws cs =
    named w.text >>= λ name. ctors_meaning k w 0 cs >>= λ ctors. fields_meaning known (fields_scope usings ws) cs >>= λ fields.
    Ok (with_kind name ctors w.place (declared s w ws fields))

-- what a binding adds, behind a signature or none
abbrev pub binding_adds : Known → Scope → Option Signed → BindingFront → Block → Result (Meaning → Meaning) Fault
binding_adds known scope signed f b =
    named (front_name f).text >>= λ name. definition_meaning known scope signed (front_name f) (params_of f) b >>= λ d. Ok (with_term name (front_name f).place d)

-- what a watch adds
abbrev pub watch_adds : Known → Scope → Place → Expr → Result (Meaning → Meaning) Fault
watch_adds known scope p e = expr_meaning known scope e no_parts [] >>= λ t. Ok (with_watch p t)

-- what is meant was added to a meaning, whatever stands behind it, or is the fault that was given, unless memory ran out
abbrev pub Adds : {X : Type 0} → Meaning → Meaning → Result X Fault → Result (Meaning → Meaning) Fault → Type 0
Adds old new (Ok x) meant = (rest : Result Meaning Fault) → (meant >>= λ add. rest >>= λ m. Ok (joined old (add m))) ≡ behind new rest
Adds old new (Err e) meant = (e ≡ Memory) ⊎ (meant ≡ Err e)

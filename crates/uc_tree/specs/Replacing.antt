-- Trees with their targets replaced.
use Rattle.std.specs.Prelude.{ℕ, List, [], ◌∷◌, Option, Some, None, option_and_then, option_map, unwrap_or, slice_get}
use Rattle.uc_base.specs.declared.reference.Ref.{Ref}
use Rattle.uc_base.specs.declared.reference.Ref.TheVariants.{Def, Ctor, Builtin}
use Rattle.uc_tree.specs.declared.target.Target.{Target}
use Rattle.uc_tree.specs.declared.target.Target.TheVariants.{Stored, Own, OwnCtor}
use Rattle.uc_tree.specs.declared.ref_map.Image.{Image}
use Rattle.uc_tree.specs.declared.ref_map.Image.TheVariants.{Same, New, Gone}
use Rattle.uc_tree.specs.declared.term.Case.{Case}
use Rattle.uc_tree.specs.declared.definition.Definition.{Definition}
use Rattle.uc_tree.specs.declared.item.Item.{Item}
use Rattle.uc_tree.specs.declared.item.Item.TheVariants as item
use Rattle.uc_tree.specs.Images.{Images, image_of}
use Rattle.uc_tree.specs.References.{number_of}
use Rattle.uc_tree.specs.Types.{Ty, Tys}
use Rattle.uc_tree.specs.Types as types
use Rattle.uc_tree.specs.Patterns.{Pattern, Patterns}
use Rattle.uc_tree.specs.Patterns as patterns
use Rattle.uc_tree.specs.Terms.{Term, Terms, Cases}
use Rattle.uc_tree.specs.Terms as terms
use Rattle.uc_tree.specs.Declarations.{Decl}

infixl 10 ◌>>=◌
abbrev pub ◌>>=◌ : {A B : Type 0} → Option A → (A → Option B) → Option B
o >>= f = option_and_then f o

-- what stands for targets: images for stored references, targets for the members of the component, or numbers for the references of its members
pub data Replacement : Type 0 where
  by_images : Images → Replacement
  by_members : List Target → Replacement
  by_references : List Ref → Replacement

-- a stored reference by its image
abbrev pub imaged : Ref → Image → Option Target
imaged r Same = Some (Stored r)
imaged r (New s) = Some (Stored s)
imaged r Gone = None

-- a stored constructor by its image, which has to be a constructor
abbrev pub imaged_constructor : Ref → Image → Option Target
imaged_constructor r Same = Some (Stored r)
imaged_constructor r (New (Ctor hash member ctor)) = Some (Stored (Ctor hash member ctor))
imaged_constructor r (New (Def hash member)) = None
imaged_constructor r (New (Builtin number)) = None
imaged_constructor r Gone = None

-- the constructor with a number of a declaration
abbrev pub constructor_of : ℕ → Target → Option Target
constructor_of ctor (Stored (Def hash member)) = Some (Stored (Ctor hash member ctor))
constructor_of ctor (Stored (Ctor hash member other)) = None
constructor_of ctor (Stored (Builtin number)) = None
constructor_of ctor (Own member) = Some (OwnCtor member ctor)
constructor_of ctor (OwnCtor member other) = None

-- what stands for a member, or for a constructor of one
abbrev pub member_under : List Target → Target → Option Target
member_under ms (Stored r) = Some (Stored r)
member_under ms (Own member) = slice_get ms member
member_under ms (OwnCtor member ctor) = slice_get ms member >>= constructor_of ctor

-- a reference of a list as the member with its number, a constructor of one as that of the member, and all else as it is
abbrev pub own_under : List Ref → Target → Target
own_under refs (Stored (Def hash member)) = unwrap_or (option_map (λ number. Own number) (number_of (Def hash member) refs)) (Stored (Def hash member))
own_under refs (Stored (Ctor hash member ctor)) = unwrap_or (option_map (λ number. OwnCtor number ctor) (number_of (Def hash member) refs)) (Stored (Ctor hash member ctor))
own_under refs (Stored (Builtin number)) = Stored (Builtin number)
own_under refs (Own member) = Own member
own_under refs (OwnCtor member ctor) = OwnCtor member ctor

-- what stands for a target in a type or a term
abbrev pub target_under : Replacement → Target → Option Target
target_under (by_members ms) x = member_under ms x
target_under (by_references refs) x = Some (own_under refs x)
target_under (by_images images) (Stored r) = imaged r (image_of images r)
target_under (by_images images) (Own member) = Some (Own member)
target_under (by_images images) (OwnCtor member ctor) = Some (OwnCtor member ctor)

-- what stands for a target in a pattern
abbrev pub constructor_under : Replacement → Target → Option Target
constructor_under (by_members ms) x = member_under ms x
constructor_under (by_references refs) x = Some (own_under refs x)
constructor_under (by_images images) (Stored r) = imaged_constructor r (image_of images r)
constructor_under (by_images images) (Own member) = Some (Own member)
constructor_under (by_images images) (OwnCtor member ctor) = Some (OwnCtor member ctor)

abbrev mutual
  -- a type with its targets replaced, or nothing where nothing stands for one
  pub replaced_ty : Replacement → Ty → Option Ty
  replaced_ty m (types.variable n) = Some (types.variable n)
  replaced_ty m (types.quantified t) = replaced_ty m t >>= λ u. Some (types.quantified u)
  replaced_ty m (types.arrow a b) = replaced_ty m a >>= λ c. replaced_ty m b >>= λ d. Some (types.arrow c d)
  replaced_ty m types.unit = Some types.unit
  replaced_ty m (types.tuple ts) = replaced_tys m ts >>= λ us. Some (types.tuple us)
  replaced_ty m (types.applied x ts) = target_under m x >>= λ y. replaced_tys m ts >>= λ us. Some (types.applied y us)

  pub replaced_tys : Replacement → Tys → Option Tys
  replaced_tys m types.none = Some types.none
  replaced_tys m (types.more t ts) = replaced_ty m t >>= λ u. replaced_tys m ts >>= λ us. Some (types.more u us)

-- a signature with its targets replaced
abbrev pub replaced_signature : Replacement → Option Ty → Option (Option Ty)
replaced_signature m None = Some None
replaced_signature m (Some t) = replaced_ty m t >>= λ u. Some (Some u)

abbrev mutual
  -- a pattern with its constructors replaced
  pub replaced_pattern : Replacement → Pattern → Option Pattern
  replaced_pattern m patterns.any = Some patterns.any
  replaced_pattern m patterns.variable = Some patterns.variable
  replaced_pattern m (patterns.alias p) = replaced_pattern m p >>= λ q. Some (patterns.alias q)
  replaced_pattern m (patterns.literal l) = Some (patterns.literal l)
  replaced_pattern m patterns.unit = Some patterns.unit
  replaced_pattern m (patterns.tuple ps) = replaced_patterns m ps >>= λ qs. Some (patterns.tuple qs)
  replaced_pattern m (patterns.list ps) = replaced_patterns m ps >>= λ qs. Some (patterns.list qs)
  replaced_pattern m (patterns.constructor x ps) = constructor_under m x >>= λ y. replaced_patterns m ps >>= λ qs. Some (patterns.constructor y qs)
  replaced_pattern m (patterns.cons p q) = replaced_pattern m p >>= λ r. replaced_pattern m q >>= λ s. Some (patterns.cons r s)
  replaced_pattern m (patterns.snoc p q) = replaced_pattern m p >>= λ r. replaced_pattern m q >>= λ s. Some (patterns.snoc r s)

  pub replaced_patterns : Replacement → Patterns → Option Patterns
  replaced_patterns m patterns.none = Some patterns.none
  replaced_patterns m (patterns.more p ps) = replaced_pattern m p >>= λ q. replaced_patterns m ps >>= λ qs. Some (patterns.more q qs)

abbrev mutual
  -- a term with its targets replaced
  pub replaced_term : Replacement → Term → Option Term
  replaced_term m (terms.variable n) = Some (terms.variable n)
  replaced_term m (terms.literal l) = Some (terms.literal l)
  replaced_term m terms.unit = Some terms.unit
  replaced_term m (terms.link x) = target_under m x >>= λ y. Some (terms.link y)
  replaced_term m (terms.lambda t) = replaced_term m t >>= λ u. Some (terms.lambda u)
  replaced_term m (terms.apply a b) = replaced_term m a >>= λ d. replaced_term m b >>= λ e. Some (terms.apply d e)
  replaced_term m (terms.annotated t ty) = replaced_term m t >>= λ u. replaced_ty m ty >>= λ uy. Some (terms.annotated u uy)
  replaced_term m (terms.tuple ts) = replaced_terms m ts >>= λ us. Some (terms.tuple us)
  replaced_term m (terms.list ts) = replaced_terms m ts >>= λ us. Some (terms.list us)
  replaced_term m (terms.conditional a b c) = replaced_term m a >>= λ d. replaced_term m b >>= λ e. replaced_term m c >>= λ f. Some (terms.conditional d e f)
  replaced_term m (terms.and a b) = replaced_term m a >>= λ d. replaced_term m b >>= λ e. Some (terms.and d e)
  replaced_term m (terms.or a b) = replaced_term m a >>= λ d. replaced_term m b >>= λ e. Some (terms.or d e)
  replaced_term m (terms.binding s a b) = replaced_signature m s >>= λ r. replaced_term m a >>= λ d. replaced_term m b >>= λ e. Some (terms.binding r d e)
  replaced_term m (terms.match t cs) = replaced_term m t >>= λ u. replaced_cases m cs >>= λ ds. Some (terms.match u ds)

  pub replaced_terms : Replacement → Terms → Option Terms
  replaced_terms m terms.none = Some terms.none
  replaced_terms m (terms.more t ts) = replaced_term m t >>= λ u. replaced_terms m ts >>= λ us. Some (terms.more u us)

  pub replaced_cases : Replacement → Cases → Option Cases
  replaced_cases m terms.no_case = Some terms.no_case
  replaced_cases m (terms.case p b cs) = replaced_pattern m p >>= λ q. replaced_term m b >>= λ d. replaced_cases m cs >>= λ ds. Some (terms.case q d ds)
  replaced_cases m (terms.guarded p g b cs) =
      replaced_pattern m p >>= λ q. replaced_term m g >>= λ h. replaced_term m b >>= λ d. replaced_cases m cs >>= λ ds. Some (terms.guarded q h d ds)

-- two terms with their targets replaced
abbrev pub replaced_two : Replacement → Term → Term → Option (Term × Term)
replaced_two m t u = replaced_term m t >>= λ v. replaced_term m u >>= λ w. Some (v, w)

-- a guard with its targets replaced
abbrev pub replaced_guard : Replacement → Option Term → Option (Option Term)
replaced_guard m None = Some None
replaced_guard m (Some t) = replaced_term m t >>= λ u. Some (Some u)

-- a case with its targets replaced
abbrev pub replaced_case : Replacement → Case → Option Case
replaced_case m c = replaced_pattern m c.pattern >>= λ p. replaced_guard m c.guard >>= λ g. replaced_term m c.body >>= λ b. Some (record { pattern = p; guard = g; body = b })

-- fields with their targets replaced
abbrev pub replaced_fields : Replacement → List Tys → Option (List Tys)
replaced_fields m [] = Some []
replaced_fields m (ts ∷ ctors) = replaced_tys m ts >>= λ us. replaced_fields m ctors >>= λ rest. Some (us ∷ rest)

-- a definition with its targets replaced
abbrev pub replaced_definition : Replacement → Definition → Option Definition
replaced_definition m d = replaced_signature m d.signature >>= λ s. replaced_term m d.body >>= λ b. Some (record { signature = s; body = b })

-- a declaration with its targets replaced
abbrev pub replaced_declaration : Replacement → Decl → Option Decl
replaced_declaration m d = replaced_fields m d.ctors >>= λ ctors. Some (record { tag = d.tag; params = d.params; ctors = ctors })

-- an item with its targets replaced
abbrev pub replaced : Replacement → Item → Option Item
replaced m (item.Term d) = replaced_definition m d >>= λ e. Some (item.Term e)
replaced m (item.Kind d) = replaced_declaration m d >>= λ e. Some (item.Kind e)

-- an item with its stored references replaced by their images
abbrev pub rewritten : Images → Item → Option Item
rewritten images i = replaced (by_images images) i

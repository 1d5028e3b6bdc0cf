-- Terms with other references in their links and patterns.
use Rattle.std.specs.Prelude.{◌≡◌, Some}
use Rattle.uc_base.specs.declared.reference.Ref.{Ref}
use Rattle.uc_tree.specs.declared.definition.Definition.{Definition}
use Rattle.uc_tree.specs.declared.target.Target.{Target}
use Rattle.uc_tree.specs.declared.target.Target.TheVariants.{Stored, Own, OwnCtor}
use Rattle.uc_tree.specs.Patterns.{Pattern, Patterns}
use Rattle.uc_tree.specs.Patterns as patterns
use Rattle.uc_tree.specs.Terms.{Term, Terms, Cases}
use Rattle.uc_tree.specs.Terms as terms
use Rattle.uc_tree.specs.Types.{Ty}
use Rattle.uc_kinds.specs.PatternTyping.{Known}

-- a stored reference gives way to another; a component's own members stay
abbrev pub relinked_target : (Ref → Ref) → Target → Target
relinked_target f (Stored r) = Stored (f r)
relinked_target f (Own k) = Own k
relinked_target f (OwnCtor k c) = OwnCtor k c

abbrev mutual
  pub relinked_pattern : (Ref → Ref) → Pattern → Pattern
  relinked_pattern f patterns.any = patterns.any
  relinked_pattern f patterns.variable = patterns.variable
  relinked_pattern f (patterns.alias p) = patterns.alias (relinked_pattern f p)
  relinked_pattern f (patterns.literal l) = patterns.literal l
  relinked_pattern f patterns.unit = patterns.unit
  relinked_pattern f (patterns.tuple ps) = patterns.tuple (relinked_patterns f ps)
  relinked_pattern f (patterns.list ps) = patterns.list (relinked_patterns f ps)
  relinked_pattern f (patterns.constructor x ps) = patterns.constructor (relinked_target f x) (relinked_patterns f ps)
  relinked_pattern f (patterns.cons p q) = patterns.cons (relinked_pattern f p) (relinked_pattern f q)
  relinked_pattern f (patterns.snoc p q) = patterns.snoc (relinked_pattern f p) (relinked_pattern f q)

  pub relinked_patterns : (Ref → Ref) → Patterns → Patterns
  relinked_patterns f patterns.none = patterns.none
  relinked_patterns f (patterns.more p ps) = patterns.more (relinked_pattern f p) (relinked_patterns f ps)

abbrev mutual
  pub relinked : (Ref → Ref) → Term → Term
  relinked f (terms.variable n) = terms.variable n
  relinked f (terms.literal l) = terms.literal l
  relinked f terms.unit = terms.unit
  relinked f (terms.link x) = terms.link (relinked_target f x)
  relinked f (terms.lambda e) = terms.lambda (relinked f e)
  relinked f (terms.apply a b) = terms.apply (relinked f a) (relinked f b)
  relinked f (terms.annotated e ty) = terms.annotated (relinked f e) ty
  relinked f (terms.tuple es) = terms.tuple (all_relinked f es)
  relinked f (terms.list es) = terms.list (all_relinked f es)
  relinked f (terms.conditional a b c) = terms.conditional (relinked f a) (relinked f b) (relinked f c)
  relinked f (terms.and a b) = terms.and (relinked f a) (relinked f b)
  relinked f (terms.or a b) = terms.or (relinked f a) (relinked f b)
  relinked f (terms.binding s a b) = terms.binding s (relinked f a) (relinked f b)
  relinked f (terms.match e cs) = terms.match (relinked f e) (cases_relinked f cs)

  pub all_relinked : (Ref → Ref) → Terms → Terms
  all_relinked f terms.none = terms.none
  all_relinked f (terms.more e es) = terms.more (relinked f e) (all_relinked f es)

  pub cases_relinked : (Ref → Ref) → Cases → Cases
  cases_relinked f terms.no_case = terms.no_case
  cases_relinked f (terms.case p b cs) = terms.case (relinked_pattern f p) (relinked f b) (cases_relinked f cs)
  cases_relinked f (terms.guarded p g b cs) = terms.guarded (relinked_pattern f p) (relinked f g) (relinked f b) (cases_relinked f cs)

-- a definition with its signature as it is
abbrev pub definition_relinked : (Ref → Ref) → Definition → Definition
definition_relinked f d = record { signature = d.signature; body = relinked f d.body }

-- each reference that has a type gives way to one that has this type
abbrev pub KeepsTypes : (Ref → Ref) → Known → Known → Type 0
KeepsTypes f known known' = (r : Ref) (ty : Ty) → known.type_of r ≡ Some ty → known'.type_of (f r) ≡ Some ty

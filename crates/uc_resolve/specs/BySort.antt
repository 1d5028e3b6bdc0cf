-- Tests: one thing for types and one for terms.
use Rattle.uc_base.specs.declared.place.Sort.{Sort}
use Rattle.uc_base.specs.declared.place.Sort.TheVariants.{Kind, Term}

abbrev pub by_sort : {A : Type 0} → A → A → Sort → A
by_sort kinds terms Kind = kinds
by_sort kinds terms Term = terms

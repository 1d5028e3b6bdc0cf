-- What a context keeps of its fields.
use Rattle.uc_context.specs.declared.index.Index.{Index}
use Rattle.uc_context.specs.Contexts.{IsContext}
use Rattle.uc_context.specs.Entries.{ContextEntries}
use Rattle.uc_context.specs.Indexes.{Indexes}

-- the entries are in order, and the index tells of them
pub record IsKept (es : ContextEntries) (index : Index) : Type 0 where
  pub in_order : IsContext es
  pub indexed : Indexes index es

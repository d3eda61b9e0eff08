-- What contracts see of a writer and of a reader.
use Rattle.std.specs.Prelude.{ℕ, List}
use Rattle.atomic_table.specs.Seated.{TableId}

-- which watch it is of, and the words that it last stored or loaded
pub record View : Type 0 where
  pub watch : TableId
  pub words : List ℕ

-- the view of this watch and these words
abbrev pub view_of : TableId → List ℕ → View
view_of watch words = record { watch = watch; words = words }

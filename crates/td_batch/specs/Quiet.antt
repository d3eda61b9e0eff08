-- What brings records into a turn of a loop: its enters, in its first turn, and its feedbacks, in each later one.
use Rattle.std.specs.Prelude.{◌≡◌, ◌<◌, ℕ, List, [], ◌++◌, false, Option}
use Rattle.std.specs.List.{AllByRecursion}
use Rattle.td_plan.specs.declared.vertex.Kind.{Kind}
use Rattle.td_plan.specs.declared.vertex.Kind.TheVariants.{Enter, Feedback}
use Rattle.td_plan.specs.Lines.{Vertex}
use Rattle.td_plan.specs.Faults.{is_input}
use Rattle.td_plan.specs.Tree.{Nodes}
use Rattle.td_plan.specs.Tree.Nodes.{done, node, block}
use Rattle.td_plan.specs.Placed.{read_in, IsWellPlaced}
use Rattle.td_batch.specs.Meaning.{Bags, emitted, entered, returned}

-- no vertex of a tree is an input
abbrev pub HasNoInputs : Nodes → Type 0
HasNoInputs done = Unit {0}
HasNoInputs (node v rest) = (is_input v.kind ≡ false) × HasNoInputs rest
HasNoInputs (block bound body rest) = HasNoInputs body × HasNoInputs rest

-- the sources of the feedbacks of a block, but for those of the loops in it
abbrev pub fed_back_by : Vertex → Kind → List ℕ
fed_back_by v Feedback = v.sources
fed_back_by v _ = []

abbrev pub fed_back : Nodes → List ℕ
fed_back done = []
fed_back (node v rest) = fed_back_by v v.kind ++ fed_back rest
fed_back (block bound body rest) = fed_back rest

-- and those of its enters
abbrev pub entered_by : Vertex → Kind → List ℕ
entered_by v Enter = v.sources
entered_by v _ = []

abbrev pub entered_from : Nodes → List ℕ
entered_from done = []
entered_from (node v rest) = entered_by v v.kind ++ entered_from rest
entered_from (block bound body rest) = entered_from rest

-- nothing enters
abbrev pub NothingEnters : Option Bags → Bags → Nodes → Type 0
NothingEnters before bags body = AllByRecursion (λ s. emitted (entered before bags) s ≡ []) (entered_from body)

-- nothing comes back
abbrev pub NothingReturns : Option Bags → Nodes → Type 0
NothingReturns before body = AllByRecursion (λ s. emitted (returned before) s ≡ []) (fed_back body)

-- the body of a loop, whose first vertex has number n: each source is read where its reader reads, those of enters are among
-- the vertices outside, which come before it, and no vertex is an input
abbrev pub IsLoopBody : List ℕ → ℕ → Nodes → Type 0
IsLoopBody outer n body = AllByRecursion (λ s. s < n) outer × IsWellPlaced (read_in body) outer [] n body × HasNoInputs body

-- Whether the closures that a plan calls for are stored.
use Rattle.std.specs.Prelude.{ℕ, List, [], ◌∷◌, Option, Some, None, if◌then◌else◌}
use Rattle.td_plan.specs.declared.vertex.Kind.{Kind}
use Rattle.td_plan.specs.declared.vertex.Kind.TheVariants.{Map, Group, Fold}
use Rattle.td_plan.specs.Blocks.{PlacedVertex}
use Rattle.td_calls.specs.declared.error.CallsError.{CallsError}
use Rattle.td_calls.specs.declared.error.CallsError.TheVariants.{NoCall}
use Rattle.td_calls.specs.Stored.{Codes}

-- the code for which a vertex of this kind lacks a closure
abbrev pub lacking_code : Codes → Kind → Option ℕ
lacking_code stored (Map code) = if stored.map code then None else Some code
lacking_code stored (Group code) = if stored.group code then None else Some code
lacking_code stored (Fold code) = if stored.fold code then None else Some code
lacking_code stored _ = None

-- the lowest vertex without its closure: the refusal with its number and its code
abbrev pub first_lack : Codes → List PlacedVertex → Option CallsError
first_lack stored [] = None
first_lack stored (p ∷ ps) =
    elim (lacking_code stored p.vertex.kind) [ None ↦ first_lack stored ps | Some code ↦ Some (NoCall p.vertex.number code) ]

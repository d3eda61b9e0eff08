use Rattle.std.proofs.Common.{◌≡◌, ◌==◌, drop}
use Rattle.std.specs.Prelude.{find}
use Rattle.td_states.proofs.rename.renamed.Given as goal

-- none so far is of this vertex
abbrev pub invariant-loop-rename : goal.invariant-loop-rename
invariant-loop-rename l = find (λ r. r.from == l.vertex) l.renames ≡ find (λ r. r.from == l.vertex) (drop l.rename-index l.renames)

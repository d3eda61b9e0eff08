use Rattle.std.proofs.Common.{◌≡◌, map, Some}
use Rattle.td_states.specs.Renames.{rename_of}
use Rattle.td_states.proofs.rename.read_renames.Given as goal

-- the pairs so far write the renamings so far
abbrev pub invariant-loop-pair : goal.invariant-loop-pair
invariant-loop-pair l = map (λ pair. rename_of pair.now) l.yielded ≡ map Some l.renames.items

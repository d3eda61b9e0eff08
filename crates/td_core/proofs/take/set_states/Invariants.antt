use Rattle.std.proofs.Common.{◌≡◌, nat_le, filter}
use Rattle.td_stamp.specs.States.{state_of}
use Rattle.td_machine.specs.State.{with_left}
use Rattle.td_task.specs.KeyLists.{with_state}
use Rattle.td_core.proofs.TakeLists.{first_mapped}
use Rattle.td_core.proofs.take.set_states.Given as goal

abbrev pub invariant-loop-index : goal.invariant-loop-index
invariant-loop-index l = l.items ≡ first_mapped (λ k. with_state k (state_of (with_left l.base (filter (λ one. nat_le one.epoch l.epoch) l.versions)) l.vertex k.key)) l.index l.fn.items

-- A hall that was cut at an epoch.
use Rattle.std.specs.Prelude.{◌≡◌, ℕ, ◌-◌, nat_le, nat_lt, drop, filter}
use Rattle.td_stamp.specs.States.{StateList}
use Rattle.td_machine.specs.State.{with_left}
use Rattle.td_core.specs.declared.hall.Parts.{Parts}

-- the states after an epoch: those of the base, and what folds left up to it
abbrev pub states_after : Parts → ℕ → StateList
states_after parts epoch = with_left parts.states (filter (λ k. nat_le k.epoch epoch) parts.versions)

-- they are the base, and what belongs to epochs up to it is let go
pub record IsCutAt (epoch : ℕ) (parts new : Parts) : Type 0 where
  pub fields : new ≡ record parts {
    base = epoch;
    states = states_after parts epoch;
    batches = new.batches;
    seen = filter (λ x. nat_lt epoch x.time.epoch) parts.seen;
    versions = filter (λ k. nat_lt epoch k.epoch) parts.versions;
  }
  pub batches : new.batches.items ≡ drop (epoch - parts.base) parts.batches.items

-- How runs of calls come one after another.
use Rattle.std.proofs.Common.{inl, inr, ⊎_elim, ℕ, ◌≤◌, List, arith}
use Rattle.td_disk.specs.Disk.{DiskState, ImagesFollow, TimePasses}
use Rattle.td_gate.specs.CrashSafe.{CrashSafe}

-- what the laws of a disk say of one moment
pub record HasClock (state : DiskState) : Type 0 where
  pub counts_now : (t : ℕ) (c : List ℕ) → t ≤ state.moment → state.images c → state.since t c
  pub only_now : (c : List ℕ) → state.since state.moment c → state.images c

-- one call
pub one_call : (step : List ℕ → List ℕ → Type 0) (old new : DiskState) → HasClock old → ((c : List ℕ) → step c c) → TimePasses old new → ImagesFollow step old new → CrashSafe step old new
one_call step old new clock same time follows = record {
  later = time.later;
  each = λ c left. ⊎_elim (λ was. let now = clock.only_now c was in (c, now, same c)) (λ now. follows c now) (time.nothing_else old.moment c (omega arith) left);
  before = λ t c le left. ⊎_elim (λ was. inl was) (λ now. inr (follows c now)) (time.nothing_else t c le left);
}

-- What a run leaves at its end is what a crash since its start leaves.
pub at_the_end : (step : List ℕ → List ℕ → Type 0) (old new : DiskState) → HasClock new → CrashSafe step old new → ImagesFollow step old new
at_the_end step old new clock one c now = one.each c (clock.counts_now old.moment c one.later now)

-- a run and then another
pub in_turn : (first second both : List ℕ → List ℕ → Type 0) (old mid new : DiskState) → HasClock mid → CrashSafe first old mid → CrashSafe second mid new
    → ((d c : List ℕ) → first d c → both d c) → ((d e c : List ℕ) → first d e → second e c → both d c) → CrashSafe both old new
in_turn first second both old mid new clock one two weaker join = record {
  later = omega (arith, one.later, two.later);
  each = λ c left. ⊎_elim
      (λ was. let from = one.each c was in (from.0, from.1, weaker from.0 c from.2))
      (λ now. let at = at_the_end first old mid clock one now.0 now.1 in (at.0, at.1, join at.0 now.0 c at.2 now.2))
      (two.before old.moment c one.later left);
  before = λ t c le left. ⊎_elim
      (λ was. ⊎_elim (λ earlier. inl earlier) (λ from. inr (from.0, from.1, weaker from.0 c from.2)) (one.before t c le was))
      (λ now. let at = at_the_end first old mid clock one now.0 now.1 in inr (at.0, at.1, join at.0 now.0 c at.2 now.2))
      (two.before t c (omega (arith, le, one.later)) left);
}

-- a run of which less is said
pub weaker_step : (first both : List ℕ → List ℕ → Type 0) (old new : DiskState) → CrashSafe first old new → ((d c : List ℕ) → first d c → both d c) → CrashSafe both old new
weaker_step first both old new one weaker = record {
  later = one.later;
  each = λ c left. let from = one.each c left in (from.0, from.1, weaker from.0 c from.2);
  before = λ t c le left. ⊎_elim (λ was. inl was) (λ from. inr (from.0, from.1, weaker from.0 c from.2)) (one.before t c le left);
}

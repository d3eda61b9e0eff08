-- Timestamps (Naiad, section 2.1): an epoch, and a counter for each loop that the time is in. Here the innermost
-- counter stands first, so that entering, leaving and going round a loop are steps at the head of the list.
use Rattle.std.specs.Prelude.{◌≡◌, ℕ, ◌+◌, ◌<◌, ◌≤◌, Bool, ◌&&◌, ◌⊎◌, List, [], ◌∷◌, length, reverse, nat_le}
use Rattle.std.specs.declared.cmp.Ordering.{Ordering}
use Rattle.std.specs.Ordering.{nat_cmp, ordering_then, is_le}
use Rattle.std.specs.Cmp.Lexicographic.{slice_cmp}

pub record Timestamp : Type 0 where
  pub epoch : ℕ
  pub turns : List ℕ

-- how many loops the time is in
abbrev pub depth : Timestamp → ℕ
depth t = length t.turns

-- the counters of the loop around, without the innermost one
abbrev pub outer_turns : List ℕ → List ℕ
outer_turns [] = []
outer_turns (k ∷ cs) = cs

-- the innermost counter, or 0 outside all loops
abbrev pub innermost : List ℕ → ℕ
innermost [] = 0
innermost (k ∷ cs) = k

-- the counters with n added to the innermost one
abbrev pub raised : ℕ → List ℕ → List ℕ
raised n [] = []
raised n (k ∷ cs) = (k + n) ∷ cs

-- into a loop: one more counter, 0
abbrev pub enter : Timestamp → Timestamp
enter t = record t { turns = 0 ∷ t.turns }

-- out of a loop: without the innermost counter
abbrev pub leave : Timestamp → Timestamp
leave t = record t { turns = outer_turns t.turns }

-- n times once more round a loop: the innermost counter rises by n
abbrev pub rounds : ℕ → Timestamp → Timestamp
rounds n t = record t { turns = raised n t.turns }

-- once more round a loop
abbrev pub again : Timestamp → Timestamp
again t = rounds 1 t

-- counters of one depth: the first are earlier in lexicographic order, which looks at the outermost first
abbrev pub AreEarlier : List ℕ → List ℕ → Type 0
AreEarlier [] [] = ⊥
AreEarlier [] (k ∷ cs) = ⊥
AreEarlier (j ∷ bs) [] = ⊥
AreEarlier (j ∷ bs) (k ∷ cs) = AreEarlier bs cs ⊎ ((bs ≡ cs) × (j < k))

-- counters of one depth: the first are not later
abbrev pub AreNotLater : List ℕ → List ℕ → Type 0
AreNotLater bs cs = AreEarlier bs cs ⊎ (bs ≡ cs)

-- the order of times, a partial one, between times of one depth: the epoch is not later, and the counters are not later
pub record IsAtMost (t u : Timestamp) : Type 0 where
  pub epoch : t.epoch ≤ u.epoch
  pub turns : AreNotLater t.turns u.turns

-- counters compared as lists, the outermost first: the first that differ decide, and of two lists of which one begins the
-- other the shorter comes first
abbrev pub counters_cmp : List ℕ → List ℕ → Ordering
counters_cmp bs cs = slice_cmp nat_cmp (reverse bs) (reverse cs)

-- the order of times as a test
abbrev pub time_le : Timestamp → Timestamp → Bool
time_le t u = nat_le t.epoch u.epoch && is_le (counters_cmp t.turns u.turns)

-- a total order of times, in which lists of times are kept: by epoch, then by counters
abbrev pub time_cmp : Timestamp → Timestamp → Ordering
time_cmp t u = ordering_then (nat_cmp t.epoch u.epoch) (counters_cmp t.turns u.turns)

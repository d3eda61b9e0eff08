-- Request numbers, 0 for none. Version 1 of the format has no numbers, and so no floor; in version 2 the floor is the greatest number of the epochs before.
use Rattle.std.specs.Prelude.{ℕ, ◌==◌, ◌||◌, not, max, Bool, nat_lt, List, [], ◌∷◌, map, filter, Option, Some, None}
use Rattle.std.specs.List.{list_all}
use Rattle.td_gate.specs.Fields.{is_chain}
use Rattle.td_journal.specs.declared.payload.Submitted.{Submitted}

-- whether a number may come after a floor: it is 0, or above it
abbrev pub may_come : Option ℕ → ℕ → Bool
may_come None r = r == 0
may_come (Some q) r = (r == 0) || nat_lt q r

-- the floor after one number more
abbrev pub raised : Option ℕ → ℕ → Option ℕ
raised None r = None
raised (Some q) r = Some (max q r)

-- the greatest of a number and those of these epochs
abbrev pub greatest : ℕ → List Submitted → ℕ
greatest q [] = q
greatest q (s ∷ w) = greatest (max q s.request) w

-- the floor after these epochs
abbrev pub floor_after : Option ℕ → List Submitted → Option ℕ
floor_after None w = None
floor_after (Some q) w = Some (greatest q w)

-- THE RULE ON NUMBERS: in version 1 each is 0, and in version 2 those that are not 0 rise, from above the floor on
abbrev pub rise : Option ℕ → List Submitted → Bool
rise None w = list_all (λ s. s.request == 0) w
rise (Some q) w = is_chain nat_lt (q ∷ filter (λ r. not (r == 0)) (map (λ s. s.request) w))

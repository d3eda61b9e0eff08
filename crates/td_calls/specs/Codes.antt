-- Closures that are stored by their codes: each stands under its own code.
use Rattle.std.specs.Prelude.{◌≡◌, ℕ, Bool, false, ◌==◌, ◌||◌, List, Option, Some, None}
use Rattle.std.specs.Map.{lookup}
use Rattle.std.specs.Ordering.{nat_cmp}
use Rattle.std.specs.BTreeMap.{is_at}

-- the closure that is found under a code
abbrev pub call_at : {C : Type 0} → List (ℕ × C) → ℕ → Option C
call_at calls code = lookup (is_at (nat_cmp code)) calls

-- whether it is one of that code
abbrev pub is_of_code : {C : Type 0} → (C → ℕ) → ℕ → Option C → Bool
is_of_code code_of code None = false
is_of_code code_of code (Some call) = code_of call == code

-- whether a closure of this code is stored
abbrev pub has_code : {C : Type 0} → (C → ℕ) → List (ℕ × C) → ℕ → Bool
has_code code_of calls code = is_of_code code_of code (call_at calls code)

-- a closure of this code came to those that were stored: its code is there too, and no other came or went
abbrev pub GainsCode : {C : Type 0} → (C → ℕ) → List (ℕ × C) → List (ℕ × C) → ℕ → Type 0
GainsCode code_of old new added = (code : ℕ) → has_code code_of new code ≡ ((code == added) || has_code code_of old code)

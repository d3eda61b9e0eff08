-- What a call answers.
use Rattle.std.specs.Prelude.{◌≡◌, ◌⊎◌, ℕ}
use Rattle.td_c.specs.declared.refusal.Refusal.{Refusal}
use Rattle.td_c.specs.Refusals.{number_of, place_of}

-- the number and the place of a refusal that has this reason
pub record IsRefused (reason : Refusal → Type 0) (number place : ℕ) : Type 0 where
  pub refusal : Refusal
  pub holds : reason refusal
  pub number_is : number ≡ number_of refusal
  pub place_is : place ≡ place_of refusal

-- 0 where the call was done, or a refusal's number and place
abbrev pub Answered : Type 0 → (Refusal → Type 0) → ℕ → ℕ → Type 0
Answered done reason number place = ((number ≡ 0) × (place ≡ 0) × done) ⊎ IsRefused reason number place

-- One read after others.
use Rattle.std.proofs.Common.{◌≡◌, ℕ, suc, ◌+◌, ◌-◌, ◌<◌, ◌^◌, ◌⊎◌, inl, inr, Bool, true, List, ◌++◌, Option, Some, None, sym, ap, ◌∙◌, cond, arith}
use Rattle.std.specs.Io.KnownBytes.{Consumes, Keeps}
use Rattle.std.proofs.lemmas.List.{append_assoc}

-- what two reads took
pub consumed_on : (old mid new : Option (List ℕ)) (a b : List ℕ) → Consumes old mid a → Consumes mid new b → Consumes old new (a ++ b)
consumed_on None mid new a b h k = h
consumed_on (Some xs) None new a b h k = absurd h
consumed_on (Some xs) (Some ys) None a b h k = absurd k
consumed_on (Some xs) (Some ys) (Some zs) a b h k = h ∙ ap (λ r. a ++ r) k ∙ sym (append_assoc a b zs)

-- a read that took nothing
pub consumed_still : (old mid new : Option (List ℕ)) (a : List ℕ) → Consumes old mid a → Keeps mid new → Consumes old new a
consumed_still None mid new a h k = h
consumed_still (Some xs) None new a h k = absurd h
consumed_still (Some xs) (Some ys) None a h k = absurd k
consumed_still (Some xs) (Some ys) (Some zs) a h k = h ∙ ap (λ r. a ++ r) (sym k)

-- the reads that are left, counted
pub left_suc : (n : ℕ) → n < 2 ^ 32 → 2 ^ 32 - n ≡ suc (2 ^ 32 - (n + 1))
left_suc n h = omega arith

-- some bytes came, so it goes on
pub goes_on : {A : Type 0} (k : ℕ) → (k ≡ 0 → ⊥) → (k ≡ 0) ⊎ A → A
goes_on k h (inl e) = absurd (h e)
goes_on k h (inr a) = a

-- bytes that were appended
pub appended : (done : Bool) (new old more : List ℕ) → new ≡ cond done (old ++ more) old → done ≡ true → new ≡ old ++ more
appended done new old more e h = e ∙ ap (λ b. cond b (old ++ more) old) h

-- What a call answers, part by part.
use Rattle.std.specs.Prelude.{◌≡◌, ◌⊎◌, Result, Ok, Err, IsErrAnd}
use Rattle.std.proofs.Common.{ap, sym, ◌∙◌, inl, inr, subst}
use Rattle.td_closures.specs.declared.fault.Wrong.{Wrong}
use Rattle.td_closures.specs.declared.fault.Wrong.TheVariants.{Memory}
use Rattle.td_closures.specs.Reading.{and_then}
use Rattle.td_closures.specs.Kept.{Answers}

-- a part was refused, so the whole is
pub refused : {A B : Type 0} (r : Result A Wrong) (f : A → Result B Wrong) (w : Wrong) → (w ≡ Memory) ⊎ (r ≡ Err w) → (w ≡ Memory) ⊎ (and_then r f ≡ Err w)
refused {A} {B} r f w (inl m) = inl m
refused {A} {B} r f w (inr e) = inr (ap (λ (s : Result A Wrong). and_then s f) e)

-- the whole is this part
pub along : {B : Type 0} (x y : Result B Wrong) (w : Wrong) → x ≡ y → (w ≡ Memory) ⊎ (y ≡ Err w) → (w ≡ Memory) ⊎ (x ≡ Err w)
along x y w e (inl m) = inl m
along x y w e (inr k) = inr (e ∙ k)

-- a refusal is handed on
pub handed_on : {A B : Type 0} (by : A → B) (w : Wrong) (r : Result A Wrong) (wanted : Result B Wrong) → IsErrAnd r (λ f. f ≡ w) → (w ≡ Memory) ⊎ (wanted ≡ Err w) → Answers by r wanted
handed_on by w (Ok x) wanted h p = absurd h
handed_on by w (Err f) wanted h p = subst (λ (x : Wrong). (x ≡ Memory) ⊎ (wanted ≡ Err x)) (sym h) p

-- a growth was refused
pub no_memory : {A B : Type 0} (by : A → B) (r : Result A Wrong) (wanted : Result B Wrong) → IsErrAnd r (λ f. f ≡ Memory) → Answers by r wanted
no_memory by (Ok x) wanted h = absurd h
no_memory by (Err f) wanted h = inl h

-- another way to say what is wanted
pub answers_along : {A B : Type 0} (by : A → B) (r : Result A Wrong) (x y : Result B Wrong) → x ≡ y → Answers by r y → Answers by r x
answers_along by (Ok v) x y e h = e ∙ h
answers_along by (Err w) x y e (inl m) = inl m
answers_along by (Err w) x y e (inr k) = inr (e ∙ k)

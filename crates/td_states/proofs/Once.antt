-- A text spells at most one checkpoint.
use Rattle.std.proofs.Common.{◌≡◌, ℕ, zero, suc, List, [], ◌∷◌, ◌++◌, map, refl, sym, ap, ◌∙◌}
use Rattle.td_stamp.specs.States.{StateList}
use Rattle.td_slots.specs.declared.slots.Checkpoint.{Checkpoint}
use Rattle.td_states.specs.declared.rename.Rename.{Rename}
use Rattle.td_states.specs.declared.line.StatesLine.{StatesLine}
use Rattle.td_states.specs.declared.line.StatesLine.TheVariants.{Last}
use Rattle.td_states.specs.Spelled.{renamed, last_said, state_said, sayings, Spells}

same_states : (xs ys : StateList) → map state_said xs ≡ map state_said ys → xs ≡ ys
same_states [] [] e = refl
same_states [] (y ∷ ys) e = absurd (let no = e in cc)
same_states (x ∷ xs) [] e = absurd (let no = e in cc)
same_states (((v, k), s) ∷ xs) (((w, l), t) ∷ ys) e = let more : map state_said xs ≡ map state_said ys = cc in let rest = same_states xs ys more in cc

no_last_among : (q : ℕ) (rest : List StatesLine) (xs : StateList) → Last q ∷ rest ≡ map state_said xs → ⊥
no_last_among q rest [] e = cc
no_last_among q rest (((v, k), s) ∷ xs) e = cc

-- the request number and the states that are said
same_rest : (p q : ℕ) (xs ys : StateList) → last_said p ++ map state_said xs ≡ last_said q ++ map state_said ys → (p ≡ q) × (xs ≡ ys)
same_rest zero zero xs ys e = (refl, same_states xs ys e)
same_rest zero (suc q) xs ys e = absurd (no_last_among (suc q) (map state_said ys) xs (sym e))
same_rest (suc p) zero xs ys e = absurd (no_last_among (suc p) (map state_said xs) ys e)
same_rest (suc p) (suc q) xs ys e = let more : map state_said xs ≡ map state_said ys = cc in let same : suc p ≡ suc q = cc in (same, same_states xs ys more)

pub spelled_once : (folds : List ℕ) (renames : List Rename) (lines : List (List ℕ)) (c d : Checkpoint) → Spells folds renames lines c → Spells folds renames lines d → c ≡ d
spelled_once folds renames lines c d one other =
    let said : sayings c.epoch c.last one.written ≡ sayings d.epoch d.last other.written = sym one.said ∙ other.said in
    let epoch : c.epoch ≡ d.epoch = cc in
    let rest : last_said c.last ++ map state_said one.written ≡ last_said d.last ++ map state_said other.written = cc in
    let parts = same_rest c.last d.last one.written other.written rest in
    let states : c.states ≡ d.states = one.renames_to ∙ ap (map (renamed renames)) parts.1 ∙ sym other.renames_to in
    let slot : c.slot ≡ d.slot = one.slot ∙ sym other.slot in
    λ i. record { slot = slot i; epoch = epoch i; last = parts.0 i; states = states i }

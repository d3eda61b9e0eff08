-- A state that stands behind all others is found where those are not.
use Rattle.std.proofs.Common.{◌≡◌, ℕ, [], ◌∷◌, ◌++◌, refl, ap, sym, ◌∙◌, subst, Bool, true, false, cond}
use Rattle.std.specs.Prelude.{Some, None}
use Rattle.std.specs.List.{AllByRecursion}
use Rattle.std.specs.List.Sorted.{IsStrictlySortedBy}
use Rattle.std.specs.Map.{keys_of, lookup}
use Rattle.std.specs.Ordering.{is_eq}
use Rattle.std.specs.declared.cmp.Ordering.TheVariants.{Less}
use Rattle.td_stamp.specs.declared.values.State.{State}
use Rattle.td_stamp.specs.Orders.{state_key_cmp}
use Rattle.td_stamp.specs.States.{StateList, AreStates, same_place}
use Rattle.td_stamp.proofs.Placed.{is_there, there, seen_from}

-- what stands among those above another is above it
among_above : (q p : ℕ × ℕ) (s : State) (es rest : StateList) → AllByRecursion (λ r. state_key_cmp q r ≡ Less) (keys_of (es ++ ((p, s) ∷ rest))) → state_key_cmp q p ≡ Less
among_above q p s [] rest above = above.0
among_above q p s (e ∷ es) rest above = among_above q p s es rest above.1

-- a look-up among those and it
pub found_behind : (q p : ℕ × ℕ) (s : State) (es rest : StateList) → AreStates (es ++ ((p, s) ∷ rest))
    → cond (same_place p q) (Some s) (lookup (is_there q) es) ≡ lookup (is_there q) (es ++ ((p, s) ∷ []))
unfolding IsStrictlySortedBy
found_behind q p s [] rest ordered = ap (λ b. cond b (Some s) None) (sym (seen_from q p))
found_behind q p s (e ∷ es) rest ordered = by (is_there q e.0) refl (found_behind q p s es rest ordered.1)
  where
    apart : is_there q e.0 ≡ true → same_place p q ≡ false
    apart h = sym (seen_from q p) ∙ ap is_eq (subst (λ r. state_key_cmp r p ≡ Less) (sym (there q e.0 h)) (among_above e.0 p s es rest ordered.0))

    by : (b : Bool) → is_there q e.0 ≡ b
        → cond (same_place p q) (Some s) (lookup (is_there q) es) ≡ lookup (is_there q) (es ++ ((p, s) ∷ []))
        → cond (same_place p q) (Some s) (cond b (Some e.1) (lookup (is_there q) es)) ≡ cond b (Some e.1) (lookup (is_there q) (es ++ ((p, s) ∷ [])))
    by true h later = ap (λ b. cond b (Some s) (Some e.1)) (apart h)
    by false h later = later

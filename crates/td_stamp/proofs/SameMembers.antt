-- Tests of equality decide it, member by member.
use Rattle.std.proofs.Common.{◌≡◌, ◌≢◌, ℕ, ◌==◌, ◌&&◌, eqb-true, List, [], ◌∷◌, ◌++◌, length, length-append, append-nil, arith, refl, ap, sym, ◌∙◌, subst, Bool, true, false, not}
use Rattle.std.specs.Prelude.{Option, Some, None}
use Rattle.std.specs.declared.cmp.Ordering.{Ordering}
use Rattle.std.specs.declared.cmp.Ordering.TheVariants.{Less, Equal, Greater}
use Rattle.std.specs.Ordering.{is_eq, int_eq}
use Rattle.std.specs.Option.{option_eq}
use Rattle.std.specs.Bool.{Decides}
use Rattle.std.specs.Cmp.{IsTotalOrder}
use Rattle.std.specs.Cmp.Lexicographic.{pointwise, pointwise_decides}
use Rattle.std.specs.FinMap.{IsAntisymmetric}
use Rattle.std.specs.Iterator.{YieldsFirst}
use Rattle.std.proofs.lemmas.Cmp.{tied_itself}
use Rattle.std.proofs.lemmas.Bool.{and_parts}
use Rattle.std.proofs.lemmas.Bool.Decides.{Decides-int_eq}
use Rattle.td_stamp.specs.declared.values.State.{State}
use Rattle.td_stamp.specs.States.{same_entry}
use Rattle.td_stamp.specs.ProvedOrders.{same_entry_equiv}

-- the test of two members
pub members_decide : {X : Type 0} (cmp : X → X → Ordering) → IsTotalOrder cmp → IsAntisymmetric cmp → (eq : X → X → Bool) → ((x y : X) → eq x y ≡ is_eq (cmp x y)) → (x y : X) → Decides (eq x y) (x ≡ y)
members_decide cmp total same eq matches x y = (λ h. by (cmp x y) refl (sym (matches x y) ∙ h), λ e. subst (λ z. eq x z ≡ true) e (matches x x ∙ ap is_eq (tied_itself total x)))
  where
    by : (r : Ordering) → cmp x y ≡ r → is_eq (cmp x y) ≡ true → x ≡ y
    by Equal e h = same x y e
    by Less e h = let c : false ≡ true = sym (ap is_eq e) ∙ h in cc
    by Greater e h = let c : false ≡ true = sym (ap is_eq e) ∙ h in cc

module _ {X : Type 0} (eq : X → X → Bool) (decide : (x y : X) → Decides (eq x y) (x ≡ y)) where
  -- and of two lists
  pub lists_decide : (xs ys : List X) → Decides (pointwise eq xs ys) (xs ≡ ys)
  lists_decide = pointwise_decides decide

  -- two answers to one question are the same
  pub told_by : (b : Bool) (xs ys : List X) → Decides b (xs ≡ ys) → b ≡ pointwise eq xs ys
  told_by true xs ys h = sym ((lists_decide xs ys).1 (h.0 refl))
  told_by false xs ys h = by (pointwise eq xs ys) (lists_decide xs ys).0
    where
      by : (b : Bool) → (b ≡ true → xs ≡ ys) → false ≡ b
      by true f = h.1 (f refl)
      by false f = refl

  -- an iterator whose next item was tested against a member
  pub next_is : (r : Option X) (s t : List X) (x : X) → YieldsFirst (λ l. l) s r t → not (option_eq eq r (Some x)) ≡ false → s ≡ x ∷ t
  next_is None s t x step h = cc
  next_is (Some y) s t x step h = step ∙ ap (λ z. z ∷ t) ((decide y x).0 (by (eq y x) h))
    where
      by : (b : Bool) → not b ≡ false → b ≡ true
      by true g = refl
      by false g = cc

  pub next_is_not : (r : Option X) (s t rest : List X) (x : X) → YieldsFirst (λ l. l) s r t → not (option_eq eq r (Some x)) ≡ true → s ≢ x ∷ rest
  next_is_not None s t rest x step h e = let c : [] ≡ x ∷ rest = sym step.0 ∙ e in cc
  next_is_not (Some y) s t rest x step h e =
      let c : y ∷ t ≡ x ∷ rest = sym step ∙ e in
      let d : y ≡ x = cc in
      let f : false ≡ true = sym (ap not ((decide y x).1 d)) ∙ h in cc

-- what follows the same beginning
pub after_same : {X : Type 0} (xs ys zs : List X) → xs ++ ys ≡ xs ++ zs → ys ≡ zs
after_same [] ys zs e = e
after_same (x ∷ xs) ys zs e = after_same xs ys zs cc

-- lists of one length, one of which begins the other
pub as_long : {X : Type 0} (all xs rest : List X) → all ≡ xs ++ rest → length xs ≡ length all → xs ≡ all
as_long all xs [] e n = sym (e ∙ append-nil xs)
as_long all xs (y ∷ rest) e n = absurd (omega (arith, ap length e, length-append xs (y ∷ rest), n))

-- the test of two kept states with their places
pub entries_decide : (d e : (ℕ × ℕ) × State) → Decides (same_entry d e) (d ≡ e)
entries_decide d e = (same, λ h. subst (λ f. same_entry d f ≡ true) h (same_entry_equiv.refl d))
  where
    same : same_entry d e ≡ true → d ≡ e
    same h =
        let parts = and_parts (d.0.0 == e.0.0 && d.0.1 == e.0.1) (int_eq d.1.a e.1.a && int_eq d.1.b e.1.b) h in
        let place = and_parts (d.0.0 == e.0.0) (d.0.1 == e.0.1) parts.0 in
        let state = and_parts (int_eq d.1.a e.1.a) (int_eq d.1.b e.1.b) parts.1 in
        let vertex = eqb-true d.0.0 e.0.0 place.0 in
        let key = eqb-true d.0.1 e.0.1 place.1 in
        let a = (Decides-int_eq d.1.a e.1.a).0 state.0 in
        let b = (Decides-int_eq d.1.b e.1.b).0 state.1 in
        λ i. ((vertex i, key i), record { a = a i; b = b i })

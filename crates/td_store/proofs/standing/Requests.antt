-- Request numbers: the greatest of them.
use Rattle.std.proofs.Common.{◌≡◌, ℕ, ◌+◌, ◌-◌, ◌≤◌, max, Bool, true, false, nat_le, Option, Some, None, List, [], ◌∷◌, ◌++◌, length, take, drop, refl, sym, ap, ◌∙◌, subst, arith}
use Rattle.std.proofs.lemmas.List.{append_assoc, take-append-drop, length-append, length-take-le, map-append, take_at}
use Rattle.std.proofs.Math.Seq.{take-append-add}
use Rattle.std.proofs.Math.Nat.{le-max_left, le-max_right}
use Rattle.td_stamp.specs.declared.values.Entry.{Entry}
use Rattle.td_stamp.specs.States.{StateList}
use Rattle.td_journal.specs.declared.payload.Submitted.{Submitted}
use Rattle.td_journal.specs.Numbers.{greatest, floor_after, may_come}
use Rattle.td_store.specs.standing.Standing.{Standing, last_epoch, last_request, batches_of, with_more, cut_at}
use Rattle.td_store.specs.standing.Stops.{Advance, Holds}
use Rattle.td_store.specs.standing.Told.{floor_of}
use Rattle.td_store.specs.standing.Tells.{IsFresh}

pub greatest-append : (q : ℕ) (x y : List Submitted) → greatest q (x ++ y) ≡ greatest (greatest q x) y
greatest-append q [] y = refl
greatest-append q (s ∷ x) y = greatest-append (max q s.request) x y

pub batches-append : (x y : List Submitted) → batches_of (x ++ y) ≡ batches_of x ++ batches_of y
batches-append x y = map-append (λ (s : Submitted). s.batch) x y

pub greatest-le : (q : ℕ) (x : List Submitted) → q ≤ greatest q x
greatest-le q [] = omega arith
greatest-le q (s ∷ x) = let e = greatest-le (max q s.request) x in let m = le-max_left q s.request in omega (arith, e, m)

-- the first of a list, where it is a beginning of another that is as long
begins_both : {X : Type 0} (a x v rest : List X) → a ++ x ≡ v ++ rest → length a ≤ length v → v ≡ a ++ take (length v - length a) x
begins_both a x v rest same le =
    let sum : length v ≡ length a + (length v - length a) = omega (arith, le) in
    sym (take_at v rest (length v) refl) ∙ ap (take (length v)) (sym same)
    ∙ ap (λ n. take n (a ++ x)) sum ∙ take-append-add a x (length v - length a)

-- an advance that holds all epochs has all requests of before
pub advance-last : (run : StateList → List (List Entry) → StateList) (s t : Standing) (x : List Submitted) → Advance run (with_more s x) t → Holds t (last_epoch s) → last_request s ≤ last_request t
advance-last run s t x step holds =
    let w : List Submitted = s.submitted ++ x in
    let done : List Submitted = take step.k w in
    let v : List Submitted = done ++ t.submitted in
    let rest : List Submitted = step.submitted.0 in
    let whole : w ≡ v ++ rest = sym (take-append-drop step.k w) ∙ ap (λ (l : List Submitted). done ++ l) step.submitted.1 ∙ sym (append_assoc done t.submitted rest) in
    let len : length v ≡ step.k + length t.submitted = length-append done t.submitted ∙ ap (λ (n : ℕ). n + length t.submitted) (length-take-le step.k w step.most) in
    let le : length s.submitted ≤ length v = let e = step.epoch in omega (arith, len, e, holds) in
    let m : List Submitted = take (length v - length s.submitted) x in
    let is : last_request t ≡ greatest (last_request s) m =
    ap (λ (q : ℕ). greatest q t.submitted) step.last ∙ sym (greatest-append s.last done t.submitted)
    ∙ ap (greatest s.last) (begins_both s.submitted x v rest whole le) ∙ greatest-append s.last s.submitted m in
    let e = greatest-le (last_request s) m in subst (λ (n : ℕ). last_request s ≤ n) (sym is) e

pub more-last : (s : Standing) (x : Submitted) → (last_request s ≤ last_request (with_more s (x ∷ []))) × (x.request ≤ last_request (with_more s (x ∷ [])))
more-last s x =
    let is : last_request (with_more s (x ∷ [])) ≡ max (last_request s) x.request = greatest-append s.last s.submitted (x ∷ []) in
    (subst (λ (n : ℕ). last_request s ≤ n) (sym is) (le-max_left (last_request s) x.request), subst (λ (n : ℕ). x.request ≤ n) (sym is) (le-max_right (last_request s) x.request))

pub cut-last : (s : Standing) (k : ℕ) (states : StateList) → last_request (cut_at s k states) ≡ last_request s
cut-last s k states = sym (greatest-append s.last (take k s.submitted) (drop k s.submitted)) ∙ ap (greatest s.last) (take-append-drop k s.submitted)

-- the floor after some epochs
pub floor-after : (version q : ℕ) (x : List Submitted) → floor_after (floor_of version q) x ≡ floor_of version (greatest q x)
floor-after version q x = cases (nat_le 2 version)
  where
    cases : (b : Bool) → floor_after (elim b [ true ↦ Some q | false ↦ None ]) x ≡ elim b [ true ↦ Some (greatest q x) | false ↦ None ]
    cases true = refl
    cases false = refl

-- a number may come after all of a standing
pub fresh_after : (version : ℕ) (s : Standing) (request : ℕ) → IsFresh version s request → may_come (floor_after (floor_of version s.last) s.submitted) request ≡ true
fresh_after version s request fresh = subst (λ (f : Option ℕ). may_come f request ≡ true) (sym (floor-after version s.last s.submitted)) fresh

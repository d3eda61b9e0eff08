-- Request numbers of a history: they rise, also where a beginning is taken, or where more come that may follow.
use Rattle.std.proofs.Common.{◌≡◌, ℕ, Bool, true, false, List, [], ◌∷◌, ◌++◌, refl, sym, ap, ◌∙◌, subst}
use Rattle.std.specs.Prelude.{Option, Some, ◌&&◌, max}
use Rattle.std.proofs.lemmas.List.{append-nil, append_assoc}
use Rattle.td_journal.specs.Numbers.{may_come, greatest, floor_after, rise}
use Rattle.td_journal.specs.declared.payload.Submitted.{Submitted}
use Rattle.td_store.specs.group.Groups.{may_follow}
use Rattle.td_stamp.specs.declared.values.Entry.{Entry}
use Rattle.td_stamp.specs.States.{StateList}
use Rattle.td_store.specs.standing.Standing.{Standing, last_request}
use Rattle.td_store.specs.standing.Stops.{Begins, Stands}

-- the laws, as they are handed in
abbrev pub OneMore : Type 0
OneMore = (floor : Option ℕ) (w : List Submitted) (x : Submitted) → rise floor (w ++ x ∷ []) ≡ (rise floor w && may_come (floor_after floor w) x.request)

abbrev pub Joined : Type 0
Joined = (q : ℕ) (v w : List Submitted) → greatest q (v ++ w) ≡ greatest (greatest q v) w

-- both of two
first_true : (a b : Bool) → (a && b) ≡ true → a ≡ true
first_true true b is = refl
first_true false b is = is

second_true : (a b : Bool) → (a && b) ≡ true → b ≡ true
second_true true b is = is
second_true false b is = absurd (cc)

both_true : (a b : Bool) → a ≡ true → b ≡ true → (a && b) ≡ true
both_true a b one other = ap (λ (c : Bool). c && b) one ∙ other

module _ (one_more : OneMore) (joined : Joined) (q : ℕ) where
  -- numbers that may follow keep the rule
  pub rise_on : (w x : List Submitted) → rise (Some q) w ≡ true → may_follow (Some (greatest q w)) x ≡ true → rise (Some q) (w ++ x) ≡ true
  rise_on w [] rises follow = subst (λ (l : List Submitted). rise (Some q) l ≡ true) (sym (append-nil w)) rises
  rise_on w (x ∷ xs) rises follow =
      subst (λ (l : List Submitted). rise (Some q) l ≡ true) (append_assoc w (x ∷ []) xs)
      (rise_on (w ++ x ∷ []) xs
      (one_more (Some q) w x ∙ both_true (rise (Some q) w) (may_come (Some (greatest q w)) x.request) rises may)
      (subst (λ (n : ℕ). may_follow (Some n) xs ≡ true) (sym (joined q w (x ∷ []))) others))
    where
      may : may_come (Some (greatest q w)) x.request ≡ true
      may = first_true (may_come (Some (greatest q w)) x.request) (may_follow (Some (max (greatest q w) x.request)) xs) follow

      others : may_follow (Some (max (greatest q w) x.request)) xs ≡ true
      others = second_true (may_come (Some (greatest q w)) x.request) (may_follow (Some (max (greatest q w) x.request)) xs) follow

  -- a beginning keeps it
  rise_first : (w x : List Submitted) → rise (Some q) (w ++ x) ≡ true → rise (Some q) w ≡ true
  rise_first w [] rises = subst (λ (l : List Submitted). rise (Some q) l ≡ true) (append-nil w) rises
  rise_first w (x ∷ xs) rises =
      first_true (rise (Some q) w) (may_come (Some (greatest q w)) x.request)
      (sym (one_more (Some q) w x)
      ∙ rise_first (w ++ x ∷ []) xs (subst (λ (l : List Submitted). rise (Some q) l ≡ true) (sym (append_assoc w (x ∷ []) xs)) rises))

  pub rise_of : (w whole : List Submitted) → Begins w whole → rise (Some q) whole ≡ true → rise (Some q) w ≡ true
  rise_of w whole begins rises = rise_first w begins.0 (subst (λ (l : List Submitted). rise (Some q) l ≡ true) begins.1 rises)

-- the last request number of what stands for a history is its greatest
pub greatest_of : (joined : Joined) (comes : StateList → List (List Entry) → StateList) (s : Standing) (history : List Submitted) → Stands comes s history → greatest 0 history ≡ last_request s
greatest_of joined comes s history stands =
    ap (greatest 0) stands.whole ∙ (joined 0 stands.before s.submitted ∙ ap (λ (n : ℕ). greatest n s.submitted) (sym stands.last))

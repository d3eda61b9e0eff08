-- Pointstamps that are added, or taken off, one change after another.
use Rattle.std.proofs.Common.{◌≡◌, ℕ, zero, suc, ◌+◌, ◌<◌, ◌≤◌, true, List, [], ◌∷◌, ◌++◌, map, take, drop, length, replicate, slice_index_or, refl, ap, sym, ◌∙◌, arith}
use Rattle.std.specs.Prelude.{cond}
use Rattle.std.proofs.lemmas.Grind.{flat_map-append}
use Rattle.std.proofs.lemmas.List.{take_more, take-append-drop}
use Rattle.td_stamp.specs.Time.{Timestamp}
use Rattle.td_reach.specs.declared.stamp.Stamp.{Stamp}
use Rattle.td_progress.specs.Bag.{is_stamp, occurrences, IsSameBag}
use Rattle.td_core.specs.declared.post.Change.{Change}
use Rattle.td_shard.specs.declared.outlet.Outlet.{Outlet}
use Rattle.td_core.specs.Posted.{occurring, stamps_on, stamp_on_outlet}
use Rattle.td_core.proofs.CloseSteps.{CountsAppend}

module _ (append : CountsAppend) where
  -- as many times as it changes
  pub as_often : (p : Stamp) → is_stamp p p ≡ true → (n : ℕ) → occurrences p (replicate n p) ≡ n
  as_often p same zero = refl
  as_often p same (suc n) =
      let two = append p (p ∷ []) (replicate n p) in
      let one : occurrences p (p ∷ []) ≡ 1 = ap (λ b. 0 + cond b 1 0) same in
      let later = as_often p same n in
      omega (arith, two, one, later)

  -- the changes up to the next one
  pub one_more : (p : Stamp) (changes : List Change) (i : ℕ) (x : Change) → i < length changes → x ≡ slice_index_or changes i x
      → occurrences p (occurring (take (i + 1) changes)) ≡ occurrences p (occurring (take i changes)) + occurrences p (replicate x.times x.stamp)
  one_more p changes i x within is =
      let one = append p (replicate x.times x.stamp) [] in
      let none : occurrences p [] ≡ 0 = refl in
      let more = ap (λ l. occurrences p (occurring l)) (take_more changes i x within ∙ ap (λ y. take i changes ++ y ∷ []) (sym is))
      ∙ ap (occurrences p) (flat_map-append (λ (r : Change). replicate r.times r.stamp) (take i changes) (x ∷ [])) ∙ append p (occurring (take i changes)) (replicate x.times x.stamp ++ []) in
      omega (arith, one, none, more)

  -- a beginning changes at most as often
  pub beginning : (p : Stamp) (changes : List Change) (i : ℕ) → occurrences p (occurring (take i changes)) ≤ occurrences p (occurring changes)
  beginning p changes i =
      let all = ap (λ l. occurrences p (occurring l)) (sym (take-append-drop i changes)) in
      let two = ap (occurrences p) (flat_map-append (λ (r : Change). replicate r.times r.stamp) (take i changes) (drop i changes)) ∙ append p (occurring (take i changes)) (occurring (drop i changes)) in
      omega (arith, all, two)

  -- LOWERED: what is left when the next ones are taken off
  pub next_off : (changes : List Change) (i : ℕ) (x : Change) → i < length changes → x ≡ slice_index_or changes i x → (old now left : List Stamp)
      → IsSameBag old (occurring (take i changes) ++ now) → IsSameBag now (replicate x.times x.stamp ++ left)
      → IsSameBag old (occurring (take (i + 1) changes) ++ left)
  next_off changes i x within at old now left so_far off p =
      let before = append p (occurring (take i changes)) now in
      let after = append p (occurring (take (i + 1) changes)) left in
      let these = append p (replicate x.times x.stamp) left in
      let more = one_more p changes i x within at in
      let was = so_far p in
      let is = off p in
      omega (arith, before, after, these, more, was, is)

  -- they are there to be taken off
  pub are_there : (same : (p : Stamp) → is_stamp p p ≡ true) → (changes : List Change) (i : ℕ) (x : Change) → i < length changes → x ≡ slice_index_or changes i x → (old now : List Stamp)
      → ((p : Stamp) → occurrences p (occurring changes) ≤ occurrences p old) → IsSameBag old (occurring (take i changes) ++ now)
      → x.times ≤ occurrences x.stamp now
  are_there same changes i x within at old now enough so_far =
      let p = x.stamp in
      let before = append p (occurring (take i changes)) now in
      let more = one_more p changes i x within at in
      let most = beginning p changes (i + 1) in
      let often = as_often p (same p) x.times in
      let was = so_far p in
      let all = enough p in
      omega (arith, before, more, most, often, was, all)

  -- RAISED: the next ones come to those before
  pub next_on : (changes : List Change) (i : ℕ) (x : Change) → i < length changes → x ≡ slice_index_or changes i x → (old now then : List Stamp)
      → IsSameBag now (occurring (take i changes) ++ old) → IsSameBag then (replicate x.times x.stamp ++ now)
      → IsSameBag then (occurring (take (i + 1) changes) ++ old)
  next_on changes i x within at old now then so_far on p =
      let before = append p (occurring (take i changes)) old in
      let after = append p (occurring (take (i + 1) changes)) old in
      let these = append p (replicate x.times x.stamp) now in
      let more = one_more p changes i x within at in
      let was = so_far p in
      let is = on p in
      omega (arith, before, after, these, more, was, is)

  -- and can be taken off again
  pub can_go : (changes : List Change) (old now : List Stamp) → IsSameBag now (occurring changes ++ old) → (p : Stamp) → occurrences p (occurring changes) ≤ occurrences p now
  can_go changes old now on p =
      let two = append p (occurring changes) old in
      let is = on p in
      omega (arith, two, is)

  -- after which as many are left as there were
  pub as_before : (changes : List Change) (old now left : List Stamp) → IsSameBag now (occurring changes ++ old) → IsSameBag now (occurring changes ++ left) → IsSameBag left old
  as_before changes old now left on off p =
      let two = append p (occurring changes) old in
      let left_two = append p (occurring changes) left in
      let is = on p in
      let was = off p in
      omega (arith, two, left_two, is, was)

-- a change on each outlet
abbrev pub change_on : Timestamp → ℕ → Outlet → Change
change_on t times o = record { stamp = stamp_on_outlet t o; times = times }

pub occurring_on : (t : Timestamp) (times : ℕ) (outlets : List Outlet) → occurring (map (change_on t times) outlets) ≡ stamps_on outlets t times
occurring_on t times [] = refl
occurring_on t times (o ∷ outlets) = ap (λ l. replicate times (stamp_on_outlet t o) ++ l) (occurring_on t times outlets)

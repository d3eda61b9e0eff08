-- What is posted to several edges at once.
use Rattle.std.proofs.Common.{◌≡◌, ℕ, zero, suc, ◌+◌, ◌-◌, ◌*◌, ◌<◌, ◌≤◌, ◌==◌, inr, Bool, true, false, cond, List, [], ◌∷◌, ◌++◌, map, filter, take, length, get_or, refl, sym, ap, ◌∙◌, subst, arith, append_assoc, append-nil, length-append, ◌^◌}
use Rattle.std.specs.List.{AllByRecursion}
use Rattle.std.proofs.lemmas.List.{take_more, length-map}
use Rattle.std.proofs.lemmas.List.Elements.{filter-append}
use Rattle.td_machine.specs.Steps.{coming}
use Rattle.std.proofs.lemmas.Grind.{flat_map-append}
use Rattle.td_stamp.specs.declared.values.Rec.{Rec}
use Rattle.td_stamp.specs.Time.{Timestamp}
use Rattle.td_machine.specs.declared.records.Message.{Message}
use Rattle.td_shard.specs.declared.runs.Lane.{Lane}
use Rattle.td_shard.specs.declared.outlet.Outlet.{Outlet}
use Rattle.td_shard.specs.declared.runs.Numbered.{Numbered}
use Rattle.td_shard.specs.Messages.{on_outlet, on_each, same_edge, AreApart}
use Rattle.td_shard.specs.Order.{at_number, below, AreAscending}
use Rattle.td_shard.specs.Runs.{Part, Parts, message, messages_of, all_of, on_lane, lane_to, lane_eq, numbered, to_each, AreAppended, AreNumbered, AreOlder, AreUpTo, FrontWaits}
use Rattle.td_shard.proofs.Numbers.{AreBelow, AreFrom, all_append, equal, not_equal, at_append, none_at, none_below, nothing_below, below_later, by_number, older_first, ascending_below, length-in_order}
use Rattle.td_shard.proofs.InOneList.{length-numbered}
use Rattle.td_shard.proofs.Extended.{numbered_from, numbered_below}
use Rattle.td_shard.proofs.Lanes.{lane_eq-sound}

-- nothing yet
pub none_appended : (n many : ℕ) (ps : Parts) → AreAppended n many [] ps ps
none_appended n many ps = record { all = sym (append-nil (all_of ps.parts)); first = refl; front = λ f. f; grouped = λ u g. g; older = λ o. o }

-- one after the other
pub appended_then : (n many : ℕ) (xs ys : List (ℕ × Message)) (a b c : Parts) → (AreUpTo n a.parts → AreUpTo n b.parts) → AreAppended n many xs a b → AreAppended n many ys b c → AreAppended n many (xs ++ ys) a c
appended_then n many xs ys a b c u x y = record {
  all = y.all ∙ (ap (λ l. l ++ ys) x.all ∙ append_assoc (all_of a.parts) xs ys);
  first = y.first ∙ x.first;
  front = λ f. y.front (x.front f);
  grouped = λ v g. y.grouped (u v) (x.grouped v g);
  older = λ o. y.older (x.older o);
}

-- an outlet more
pub one_outlet : (t : Timestamp) (n : ℕ) (recs : List Rec) (outlets : List Outlet) (i : ℕ) (d : Outlet) → i < length outlets
    → to_each t n recs (take i outlets) ++ map (on_lane (lane_to t (get_or outlets i d))) (numbered n recs) ≡ to_each t n recs (take (i + 1) outlets)
one_outlet t n recs outlets i d h =
    let one = map (on_lane (lane_to t (get_or outlets i d))) (numbered n recs) in
    sym (ap (to_each t n recs) (take_more outlets i d h) ∙ (flat_map-append (λ o. map (on_lane (lane_to t o)) (numbered n recs)) (take i outlets) (get_or outlets i d ∷ []) ∙ ap (λ l. to_each t n recs (take i outlets) ++ l) (append-nil one)))

-- THEIR NUMBERS
module _ {X : Type 0} where
  pub all_filter : (P : ℕ × X → Type 0) (p : ℕ × X → Bool) (xs : List (ℕ × X)) → AllByRecursion P xs → AllByRecursion P (filter p xs)
  all_filter P p [] h = tt
  all_filter P p (x ∷ xs) h = by (p x) (all_filter P p xs h.1)
    where
      by : (b : Bool) → AllByRecursion P (filter p xs) → AllByRecursion P (cond b (x ∷ filter p xs) (filter p xs))
      by true rest = (h.0, rest)
      by false rest = rest

  above_all : (x : ℕ × X) (n : ℕ) (ys : List (ℕ × X)) → x.0 < n → AreFrom n ys → AllByRecursion (λ y. x.0 < y.0) ys
  above_all x n [] l h = tt
  above_all x n (y ∷ ys) l h = let here = h.0 in (omega (arith, l, here), above_all x n ys l h.1)

  pub ascending_two : (n : ℕ) (xs ys : List (ℕ × X)) → AreAscending xs → AreBelow n xs → AreAscending ys → AreFrom n ys → AreAscending (xs ++ ys)
  ascending_two n [] ys a b c d = c
  ascending_two n (x ∷ xs) ys a b c d = (all_append (λ y. x.0 < y.0) xs ys a.0 (above_all x n ys b.0 d), ascending_two n xs ys a.1 b.1 c d)

pub its_below : (n : ℕ) (k : Lane) (rs : List Numbered) → AllByRecursion (λ r. r.number < n) rs → AreBelow n (map (on_lane k) rs)
its_below n k [] h = tt
its_below n k (r ∷ rs) h = (h.0, its_below n k rs h.1)

pub its_from : (n : ℕ) (k : Lane) (rs : List Numbered) → AllByRecursion (λ r. n ≤ r.number) rs → AreFrom n (map (on_lane k) rs)
its_from n k [] h = tt
its_from n k (r ∷ rs) h = (h.0, its_from n k rs h.1)

pub all_below : (n : ℕ) (ps : List Part) → AreOlder n ps → AreBelow n (all_of ps)
all_below n [] h = tt
all_below n (p ∷ ps) h = all_append (λ x. x.0 < n) (map (on_lane p.lane) p.recs) (all_of ps) (its_below n p.lane p.recs h.0.1) (all_below n ps h.1)

older_later : (n m : ℕ) (ps : List Part) → n ≤ m → AreOlder n ps → AreOlder m ps
older_later n m [] l h = tt
older_later n m (p ∷ ps) l h = let base = h.0.0 in ((omega (arith, l, base), later p.recs h.0.1), older_later n m ps l h.1)
  where
    later : (rs : List Numbered) → AllByRecursion (λ r. r.number < n) rs → AllByRecursion (λ r. r.number < m) rs
    later [] h = tt
    later (r ∷ rs) h = let here = h.0 in (omega (arith, l, here), later rs h.1)

up_to_of : (n : ℕ) (ps : List Part) → AreOlder n ps → AreUpTo n ps
up_to_of n [] h = tt
up_to_of n (p ∷ ps) h = (inr h.0, up_to_of n ps h.1)

module _ (next many : ℕ) (more : List (ℕ × Message)) (old new : Parts) (was : AreNumbered next old.parts) (now : AreAppended next many more old new) (from : AreFrom next more) where
  pub posted_numbers : ((c : Message) → AreAscending (filter (λ x. same_edge c x.1) more)) → AreNumbered (next + many) new.parts
  posted_numbers ascend = record {
    older = now.older (older_later next (next + many) old.parts (omega arith) was.older);
    ascending = λ c. subst AreAscending (sym (ap (filter (λ x. same_edge c x.1)) now.all ∙ filter-append (λ x. same_edge c x.1) (all_of old.parts) more))
        (ascending_two next (filter (λ x. same_edge c x.1) (all_of old.parts)) (filter (λ x. same_edge c x.1) more) (was.ascending c)
        (all_filter (λ x. x.0 < next) (λ x. same_edge c x.1) (all_of old.parts) (all_below next old.parts was.older)) (ascend c)
        (all_filter (λ x. next ≤ x.0) (λ x. same_edge c x.1) more from));
    grouped = now.grouped (up_to_of next old.parts was.older) was.grouped;
  }

  pub posted_messages : AreBelow (next + many) more → messages_of new.parts ≡ messages_of old.parts ++ below (next + many) more
  posted_messages low =
      let b = next + many in
      let older = all_below next old.parts was.older in
      by_number b (all_of new.parts) (subst (AreBelow b) (sym now.all) (all_append (λ x. x.0 < b) (all_of old.parts) more (below_later next b (all_of old.parts) (omega arith) older) low))
      ∙ (ap (below b) now.all ∙ (older_first next many (all_of old.parts) more older from
      ∙ ap (λ l. l ++ below b more) (sym (by_number next (all_of old.parts) older))))

-- ONE RUN
ascending_its : (k : Lane) (n : ℕ) (rs : List Rec) → AreAscending (map (on_lane k) (numbered n rs))
ascending_its k n [] = tt
ascending_its k n (r ∷ rs) = (above_all (n, message k r) (n + 1) (map (on_lane k) (numbered (n + 1) rs)) (omega arith) (its_from (n + 1) k (numbered (n + 1) rs) (numbered_from (n + 1) rs (n + 1) (omega arith))), ascending_its k (n + 1) rs)

messages_its : (k : Lane) (n : ℕ) (rs : List Rec) → map (λ x. x.1) (map (on_lane k) (numbered n rs)) ≡ coming k.vertex k.port k.time rs
messages_its k n [] = refl
messages_its k n (r ∷ rs) = ap (λ l. message k r ∷ l) (messages_its k (n + 1) rs)

-- on a lane all are on one edge, or none is
abbrev on_edge_of : Message → Lane → Bool
on_edge_of c k = lane_eq (record { vertex = c.vertex; port = c.port; time = c.time }) k

pub its_on : (c : Message) (k : Lane) (rs : List Numbered) → on_edge_of c k ≡ true → filter (λ x. same_edge c x.1) (map (on_lane k) rs) ≡ map (on_lane k) rs
its_on c k [] e = refl
its_on c k (r ∷ rs) e = ap (λ b. cond b (on_lane k r ∷ filter (λ x. same_edge c x.1) (map (on_lane k) rs)) (filter (λ x. same_edge c x.1) (map (on_lane k) rs))) e ∙ ap (λ l. on_lane k r ∷ l) (its_on c k rs e)

pub its_off : (c : Message) (k : Lane) (rs : List Numbered) → on_edge_of c k ≡ false → filter (λ x. same_edge c x.1) (map (on_lane k) rs) ≡ []
its_off c k [] e = refl
its_off c k (r ∷ rs) e = ap (λ b. cond b (on_lane k r ∷ filter (λ x. same_edge c x.1) (map (on_lane k) rs)) (filter (λ x. same_edge c x.1) (map (on_lane k) rs))) e ∙ its_off c k rs e

pub ascend_on : (k : Lane) (n : ℕ) (rs : List Rec) (c : Message) → AreAscending (filter (λ x. same_edge c x.1) (map (on_lane k) (numbered n rs)))
ascend_on k n rs c = by (on_edge_of c k) refl
  where
    by : (b : Bool) → on_edge_of c k ≡ b → AreAscending (filter (λ x. same_edge c x.1) (map (on_lane k) (numbered n rs)))
    by true e = subst AreAscending (sym (its_on c k (numbered n rs) e)) (ascending_its k n rs)
    by false e = subst AreAscending (sym (its_off c k (numbered n rs) e)) tt

pub run_from : (k : Lane) (n : ℕ) (rs : List Rec) → AreFrom n (map (on_lane k) (numbered n rs))
run_from k n rs = its_from n k (numbered n rs) (numbered_from n rs n (omega arith))

pub run_below : (k : Lane) (n : ℕ) (rs : List Rec) → AreBelow (n + length rs) (map (on_lane k) (numbered n rs))
run_below k n rs = its_below (n + length rs) k (numbered n rs) (numbered_below n rs (n + length rs) (omega arith))

pub run_messages : (k : Lane) (n : ℕ) (rs : List Rec) → below (n + length rs) (map (on_lane k) (numbered n rs)) ≡ coming k.vertex k.port k.time rs
run_messages k n rs = ascending_below (n + length rs) (map (on_lane k) (numbered n rs)) (ascending_its k n rs) (run_below k n rs) ∙ messages_its k n rs

-- SEVERAL EDGES
module _ (t : Timestamp) where
  pub each_from : (n b : ℕ) (rs : List Rec) (os : List Outlet) → b ≤ n → AreFrom b (to_each t n rs os)
  each_from n b rs [] l = tt
  each_from n b rs (o ∷ os) l =
      all_append (λ x. b ≤ x.0) (map (on_lane (lane_to t o)) (numbered n rs)) (to_each t n rs os) (its_from b (lane_to t o) (numbered n rs) (numbered_from n rs b l)) (each_from n b rs os l)

  pub each_below : (n b : ℕ) (rs : List Rec) (os : List Outlet) → n + length rs ≤ b → AreBelow b (to_each t n rs os)
  each_below n b rs [] l = tt
  each_below n b rs (o ∷ os) l =
      all_append (λ x. x.0 < b) (map (on_lane (lane_to t o)) (numbered n rs)) (to_each t n rs os) (its_below b (lane_to t o) (numbered n rs) (numbered_below n rs b l)) (each_below n b rs os l)

  -- the first record, on each
  first_at : (n : ℕ) (r : Rec) (rs : List Rec) (os : List Outlet) → at_number n (to_each t n (r ∷ rs) os) ≡ map (on_outlet t r) os
  first_at n r rs [] = refl
  first_at n r rs (o ∷ os) =
      let later = map (on_lane (lane_to t o)) (numbered (n + 1) rs) in
      at_append n ((n, on_outlet t r o) ∷ later) (to_each t n (r ∷ rs) os)
      ∙ ((λ i. (ap (λ b. cond b (on_outlet t r o ∷ at_number n later) (at_number n later)) (equal n n refl)
      ∙ ap (λ l. on_outlet t r o ∷ l) (none_at n (n + 1) later (omega arith) (its_from (n + 1) (lane_to t o) (numbered (n + 1) rs) (numbered_from (n + 1) rs (n + 1) (omega arith))))) i ++ first_at n r rs os i))

  -- and the others
  others_at : (m n : ℕ) (r : Rec) (rs : List Rec) (os : List Outlet) → n < m → at_number m (to_each t n (r ∷ rs) os) ≡ at_number m (to_each t (n + 1) rs os)
  others_at m n r rs [] l = refl
  others_at m n r rs (o ∷ os) l =
      let later = map (on_lane (lane_to t o)) (numbered (n + 1) rs) in
      at_append m ((n, on_outlet t r o) ∷ later) (to_each t n (r ∷ rs) os)
      ∙ ((λ i. ap (λ b. cond b (on_outlet t r o ∷ at_number m later) (at_number m later)) (not_equal n m (λ e. omega (arith, l, e))) i ++ others_at m n r rs os l i)
      ∙ sym (at_append m later (to_each t (n + 1) rs os)))

  first_below : (m n : ℕ) (r : Rec) (rs : List Rec) (os : List Outlet) → below (suc (n + m)) (to_each t n (r ∷ rs) os) ≡ map (on_outlet t r) os ++ below (suc (n + m)) (to_each t (n + 1) rs os)
  first_below zero n r rs os =
      let none : n + 0 ≡ n = omega arith in
      let all = to_each t n (r ∷ rs) os in
      let left = to_each t (n + 1) rs os in
      let nothing : below (suc n) left ≡ [] = none_below (suc n) left (each_from (n + 1) (suc n) rs os (omega arith)) in
      ap (λ k. below (suc k) all) none
      ∙ ((λ i. none_below n all (each_from n n (r ∷ rs) os (omega arith)) i ++ first_at n r rs os i)
      ∙ (sym (append-nil (map (on_outlet t r) os)) ∙ ap (λ l. map (on_outlet t r) os ++ l) (sym (ap (λ k. below (suc k) left) none ∙ nothing))))
  first_below (suc m) n r rs os =
      let next : n + suc m ≡ suc (n + m) = omega arith in
      let left = to_each t (n + 1) rs os in
      ap (λ k. below (suc k) (to_each t n (r ∷ rs) os)) next
      ∙ ((λ i. first_below m n r rs os i ++ others_at (suc (n + m)) n r rs os (omega arith) i)
      ∙ (append_assoc (map (on_outlet t r) os) (below (suc (n + m)) left) (at_number (suc (n + m)) left) ∙ ap (λ k. map (on_outlet t r) os ++ below (suc k) left) (sym next)))

  none_of : (n : ℕ) (os : List Outlet) → to_each t n [] os ≡ []
  none_of n [] = refl
  none_of n (o ∷ os) = none_of n os

  pub each_messages : (n : ℕ) (rs : List Rec) (os : List Outlet) → below (n + length rs) (to_each t n rs os) ≡ on_each os t rs
  each_messages n [] os = ap (below (n + 0)) (none_of n os) ∙ nothing_below (n + 0)
  each_messages n (r ∷ rs) os =
      let last : n + suc (length rs) ≡ suc (n + length rs) = omega arith in
      let next : suc (n + length rs) ≡ n + 1 + length rs = omega arith in
      ap (λ k. below k (to_each t n (r ∷ rs) os)) last
      ∙ (first_below (length rs) n r rs os ∙ ap (λ l. map (on_outlet t r) os ++ l) (ap (λ k. below k (to_each t (n + 1) rs os)) next ∙ each_messages (n + 1) rs os))

  -- on each lane their numbers ascend
  none_on : (c : Message) (n : ℕ) (rs : List Rec) (os : List Outlet) → AllByRecursion (λ q. on_edge_of c (lane_to t q) ≡ false) os → filter (λ x. same_edge c x.1) (to_each t n rs os) ≡ []
  none_on c n rs [] h = refl
  none_on c n rs (o ∷ os) h =
      filter-append (λ x. same_edge c x.1) (map (on_lane (lane_to t o)) (numbered n rs)) (to_each t n rs os) ∙ (λ i. its_off c (lane_to t o) (numbered n rs) h.0 i ++ none_on c n rs os h.1 i)

  others_off : (c : Message) (o : Outlet) (os : List Outlet) → on_edge_of c (lane_to t o) ≡ true → AllByRecursion (λ q. o.reader ≡ q.reader → o.port ≡ q.port → ⊥) os → AllByRecursion (λ q. on_edge_of c (lane_to t q) ≡ false) os
  others_off c o [] e h = tt
  others_off c o (q ∷ os) e h = (by (on_edge_of c (lane_to t q)) refl, others_off c o os e h.1)
    where
      here : record { vertex = c.vertex; port = c.port; time = c.time } ≡ lane_to t o
      here = lane_eq-sound (record { vertex = c.vertex; port = c.port; time = c.time }) (lane_to t o) e

      by : (b : Bool) → on_edge_of c (lane_to t q) ≡ b → on_edge_of c (lane_to t q) ≡ false
      by false f = f
      by true f =
          let there = lane_eq-sound (record { vertex = c.vertex; port = c.port; time = c.time }) (lane_to t q) f in
          absurd (h.0 (ap (λ (k : Lane). k.vertex) (sym here ∙ there)) (ap (λ (k : Lane). k.port) (sym here ∙ there)))

  pub ascend_each : (n : ℕ) (rs : List Rec) (os : List Outlet) → AreApart os → (c : Message) → AreAscending (filter (λ x. same_edge c x.1) (to_each t n rs os))
  ascend_each n rs [] h c = tt
  ascend_each n rs (o ∷ os) h c = by (on_edge_of c (lane_to t o)) refl (ascend_each n rs os h.1 c)
    where
      mine : List (ℕ × Message)
      mine = map (on_lane (lane_to t o)) (numbered n rs)

      two : filter (λ x. same_edge c x.1) (mine ++ to_each t n rs os) ≡ filter (λ x. same_edge c x.1) mine ++ filter (λ x. same_edge c x.1) (to_each t n rs os)
      two = filter-append (λ x. same_edge c x.1) mine (to_each t n rs os)

      by : (b : Bool) → on_edge_of c (lane_to t o) ≡ b → AreAscending (filter (λ x. same_edge c x.1) (to_each t n rs os)) → AreAscending (filter (λ x. same_edge c x.1) (mine ++ to_each t n rs os))
      by true e rest =
          subst AreAscending (sym (two ∙ ((λ i. its_on c (lane_to t o) (numbered n rs) e i ++ none_on c n rs os (others_off c o os e h.0) i) ∙ append-nil mine))) (ascending_its (lane_to t o) n rs)
      by false e rest = subst AreAscending (sym (two ∙ ap (λ l. l ++ filter (λ x. same_edge c x.1) (to_each t n rs os)) (its_off c (lane_to t o) (numbered n rs) e))) rest

-- WHAT A MAILBOX KEEPS TRUE when so many records were posted as k messages
pub record StaysKept (number many : ℕ) (v : Parts) : Type 0 where
  pub front : FrontWaits v.parts
  pub len : many ≡ length (messages_of v.parts)
  pub counted : length (messages_of v.parts) + v.room < 2 ^ 64
  pub numbers : AreNumbered number v.parts
  pub next : number + v.room < 2 ^ 64

pub stays_kept : (next n len k : ℕ) (more : List (ℕ × Message)) (old new : Parts) → AreAppended next n more old new → FrontWaits old.parts → len ≡ length (messages_of old.parts) → length (messages_of old.parts) + old.room < 2 ^ 64
    → AreNumbered next old.parts → next + old.room < 2 ^ 64 → AreFrom next more → ((c : Message) → AreAscending (filter (λ x. same_edge c x.1) more)) → length more ≡ k → n ≤ k → k ≤ old.room → new.room ≡ old.room - k
    → StaysKept (next + n) (len + k) new
stays_kept next n len k more old new now front many counted numbers fits from ascend long few enough room =
    let all : length (messages_of new.parts) ≡ length (messages_of old.parts) + k =
    omega (arith, length-in_order (all_of new.parts), length-in_order (all_of old.parts), ap length now.all, length-append (all_of old.parts) more, long) in
    record {
      front = now.front front;
      len = omega (arith, many, all);
      counted = omega (arith, all, counted, room, enough);
      numbers = posted_numbers next n more old new numbers now from ascend;
      next = omega (arith, fits, room, few, enough);
    }

length-its : (k : Lane) (rs : List Numbered) → length (map (on_lane k) rs) ≡ length rs
length-its k rs = length-map rs (on_lane k)

pub length-run : (k : Lane) (n : ℕ) (rs : List Rec) → length (map (on_lane k) (numbered n rs)) ≡ length rs
length-run k n rs = length-its k (numbered n rs) ∙ length-numbered n rs

pub length-each : (t : Timestamp) (n : ℕ) (rs : List Rec) (os : List Outlet) → length (to_each t n rs os) ≡ length rs * length os
length-each t n rs [] = omega arith
length-each t n rs (o ∷ os) =
    let one = length-run (lane_to t o) n rs in
    let rest = length-each t n rs os in
    let all = length-append (map (on_lane (lane_to t o)) (numbered n rs)) (to_each t n rs os) in
    grind (arith, one, rest, all)

-- none is posted where there is no outlet
pub to_none : (t : Timestamp) (rs : List Rec) (os : List Outlet) → length os ≡ 0 → on_each os t rs ≡ []
to_none t [] os e = refl
to_none t (r ∷ rs) [] e = to_none t rs [] e
to_none t (r ∷ rs) (o ∷ os) e = absurd (omega (arith, e))

pub no_fewer : (a b : ℕ) → (b == 0) ≡ false → a ≤ a * b
no_fewer a zero e = absurd (cc)
no_fewer a (suc b) e = let all : a * suc b ≡ a + a * b = grind arith in omega (arith, all)

-- NONE WAITS
pub none_left : (ps : List Part) → FrontWaits ps → length (messages_of ps) ≡ 0 → ps ≡ []
none_left [] f e = refl
none_left (p ∷ ps) f e = absurd (omega (arith, e, f, length-in_order (all_of (p ∷ ps)), length-append (map (on_lane p.lane) p.recs) (all_of ps), length-its p.lane p.recs))

pub none_numbered : (ps : List Part) → FrontWaits ps → length (messages_of ps) ≡ 0 → AreNumbered 0 ps
none_numbered ps f e = subst (AreNumbered 0) (sym (none_left ps f e)) (record { older = tt; ascending = λ c. tt; grouped = tt })

-- one outlet alone
pub to_one : (os : List Outlet) (d : Outlet) (t : Timestamp) (recs : List Rec) → length os ≡ 1 → coming (get_or os 0 d).reader (get_or os 0 d).port t recs ≡ on_each os t recs
to_one os d t [] e = refl
to_one [] d t (r ∷ recs) e = absurd (omega (arith, e))
to_one (o ∷ []) d t (r ∷ recs) e = ap (λ l. on_outlet t r o ∷ l) (to_one (o ∷ []) d t recs e)
to_one (o ∷ p ∷ os) d t (r ∷ recs) e = absurd (omega (arith, e))

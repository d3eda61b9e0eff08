-- How what a vertex sends, all in all, is made of what its callbacks send: for what closures answer, the state of each key
-- before the epoch, and a kind.
use Rattle.std.specs.Prelude.{◌≡◌, ◌||◌, ℕ, Bool, true, false, List, [], ◌∷◌, ◌++◌, Option, map}
use Rattle.td_stamp.specs.declared.values.Rec.{Rec}
use Rattle.td_stamp.specs.declared.values.State.{State}
use Rattle.td_stamp.specs.declared.values.Arrival.{Arrival}
use Rattle.td_stamp.specs.Orders.{rec_cmp, arrival_cmp}
use Rattle.td_stamp.specs.Bag.{bag_of, join, has}
use Rattle.td_stamp.specs.Groups.{rec_of}
use Rattle.td_plan.specs.declared.vertex.Kind.{Kind}
use Rattle.td_plan.specs.declared.vertex.Kind.TheVariants.{Distinct}
use Rattle.td_calls.specs.Answers.{Answers}
use Rattle.td_calls.specs.Callbacks.{Kept, Added, on_arrival, on_arrivals, with_added, sends, is_notified, sent_when_notified, of_keys, without_keys}

module _ (answers : Answers) (state : ℕ → Option State) (kind : Kind) where
  -- Of a record and the rest: what its callback sends, and what is sent of the rest once the callback's additions are kept
  abbrev pub SendsOneByOne : Type 0
  SendsOneByOne = (kept : Kept) (a : Arrival) (rest : List Arrival) →
      let added : Added = on_arrival answers kind kept a in
      sends answers state kind kept (a ∷ rest) ≡ join rec_cmp added.sent (sends answers state kind (with_added kept added) rest)

  -- The same of several records, whose callbacks run one after another
  abbrev pub SendsBySeveral : Type 0
  SendsBySeveral = (kept : Kept) (first rest : List Arrival) →
      let added : Added = on_arrivals answers kind kept first in
      sends answers state kind kept (first ++ rest) ≡ join rec_cmp added.sent (sends answers state kind (with_added kept added) rest)

  -- A distinct that had seen some records, and then was given others, has seen this record by then or not
  abbrev pub HasSeenBy : Kept → Kept → List Arrival → Rec → Type 0
  HasSeenBy kept by_then others r = has rec_cmp r by_then.seen ≡ (has rec_cmp r kept.seen || has rec_cmp r (map rec_of others))

  -- Of a record that arrives after others, where no notification is waited for: what its callback sends, and what is sent
  -- of the others
  abbrev pub SendsOneMore : Type 0
  SendsOneMore = (kept by_then : Kept) (a : Arrival) (others : List Arrival) → is_notified kind ≡ false →
      (kind ≡ Distinct → HasSeenBy kept by_then others (rec_of a)) →
      sends answers state kind kept (a ∷ others) ≡ join rec_cmp (on_arrival answers kind by_then a).sent (sends answers state kind kept others)

  -- Where nothing more arrives: what is sent when the keys of all that is kept are notified, which is nothing for a kind
  -- that is not notified
  abbrev pub SendsWhenNotified : Type 0
  SendsWhenNotified = (kept : Kept) → sends answers state kind kept [] ≡ bag_of rec_cmp (sent_when_notified answers state kind kept.buffered)

  -- The keys that pass a test may be notified first, as those of one shard, and then the others
  abbrev pub SendsByKeys : Type 0
  SendsByKeys = (kept : Kept) (p : ℕ → Bool) →
      sends answers state kind kept []
      ≡ join rec_cmp (sent_when_notified answers state kind (of_keys p kept.buffered)) (sends answers state kind (without_keys p kept) [])

  -- No order matters: of a distinct, what it has seen, record by record; of a group and a fold, the bag of what they keep; and
  -- the bag of what arrives. An engine may keep either in the order that suits it
  abbrev pub SendsInAnyOrder : Type 0
  SendsInAnyOrder = (k l : Kept) (xs ys : List Arrival) →
      (kind ≡ Distinct → (r : Rec) → has rec_cmp r k.seen ≡ has rec_cmp r l.seen) →
      (is_notified kind ≡ true → bag_of arrival_cmp k.buffered ≡ bag_of arrival_cmp l.buffered) →
      bag_of arrival_cmp xs ≡ bag_of arrival_cmp ys →
      sends answers state kind k xs ≡ sends answers state kind l ys

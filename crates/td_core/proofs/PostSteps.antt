-- What is posted to the shards comes to the bag of all messages, each shard keeps its own, and what waits is as it was.
use Rattle.std.proofs.Common.{◌≡◌, ℕ, suc, ◌+◌, ◌<◌, ◌≤◌, ◌==◌, ◌%◌, Bool, true, false, cond, List, [], ◌∷◌, ◌++◌, map, flat_map, length, refl, ap, sym, ◌∙◌, subst, append_assoc, append-nil, arith}
use Rattle.std.specs.List.{AllByRecursion, enumerate_from}
use Rattle.std.specs.List.Sorted.{IsStrictlySortedBy}
use Rattle.std.specs.Map.{keys_of}
use Rattle.std.proofs.lemmas.Bool.Decides.{nat_tests}
use Rattle.std.proofs.lemmas.List.Elements.{filter-append}
use Rattle.td_stamp.specs.Bag.{bag_insert, bag_of, join}
use Rattle.td_stamp.specs.BagLaws.{BagLaws}
use Rattle.td_machine.specs.declared.records.Message.{Message}
use Rattle.td_machine.specs.State.{message_cmp, shard_of_key}
use Rattle.td_shard.specs.Asked.{noted_cmp}
use Rattle.td_shard.specs.declared.shard.Shard.{Shard}
use Rattle.td_core.specs.Parts.{in_mailboxes, waiting_in, asked_in, asked_of_shard, waiting_at, IsShard}
use Rattle.td_core.specs.Posted.{of_shard, mails, mails_with, waits, IsPosted, HasNoLess, IsRoomier}

-- the mailboxes of shards from a number on
abbrev pub posted_from : ℕ → ℕ → List Message → List Shard → List (List Message)
posted_from workers k cs shards = map (λ p. p.1.mailbox.messages ++ of_shard workers p.0 cs) (enumerate_from k shards)

-- AS MANY SHARDS
pub as_many_waits : (old new : List Shard) → waits new ≡ waits old → length new ≡ length old
as_many_waits [] [] e = refl
as_many_waits [] (t ∷ new) e = absurd (cc)
as_many_waits (s ∷ old) [] e = absurd (cc)
as_many_waits (s ∷ old) (t ∷ new) e = let rest : waits new ≡ waits old = cc in ap suc (as_many_waits old new rest)

pub as_many_mails : (old new : List Shard) → mails new ≡ mails old → length new ≡ length old
as_many_mails [] [] e = refl
as_many_mails [] (t ∷ new) e = absurd (cc)
as_many_mails (s ∷ old) [] e = absurd (cc)
as_many_mails (s ∷ old) (t ∷ new) e = let rest : mails new ≡ mails old = cc in ap suc (as_many_mails old new rest)

-- NOTHING POSTED, and more room
pub none_posted : (workers k : ℕ) (shards : List Shard) → posted_from workers k [] shards ≡ mails shards
none_posted workers k [] = refl
none_posted workers k (s ∷ ss) = λ i. append-nil s.mailbox.messages i ∷ none_posted workers (k + 1) ss i

pub posted_roomier : (old new : List Shard) → IsRoomier old new → IsPosted [] old new
posted_roomier old new is = record { mails = is.mails ∙ sym (none_posted (length old) 0 old); waiting = is.waiting }

no_less_same : (shards : List Shard) → HasNoLess shards shards
no_less_same [] = tt
no_less_same (s ∷ ss) = (omega arith, omega arith, no_less_same ss)

no_less_then : (a b c : List Shard) → HasNoLess a b → HasNoLess b c → HasNoLess a c
no_less_then [] [] [] x y = tt
no_less_then [] [] (u ∷ c) x y = y
no_less_then [] (t ∷ b) c x y = absurd x
no_less_then (s ∷ a) [] c x y = absurd x
no_less_then (s ∷ a) (t ∷ b) [] x y = y
no_less_then (s ∷ a) (t ∷ b) (u ∷ c) x y =
    let rooms = x.0 in
    let runs = x.1 in
    let more_rooms = y.0 in
    let more_runs = y.1 in
    (omega (arith, rooms, more_rooms), omega (arith, runs, more_runs), no_less_then a b c x.2 y.2)

pub roomier_same : (shards : List Shard) → IsRoomier shards shards
roomier_same shards = record { mails = refl; waiting = refl; room = no_less_same shards }

pub roomier_then : (a b c : List Shard) → IsRoomier a b → IsRoomier b c → IsRoomier a c
roomier_then a b c x y = record { mails = y.mails ∙ x.mails; waiting = y.waiting ∙ x.waiting; room = no_less_then a b c x.room y.room }

-- POSTED AFTER ONE ANOTHER
posted_after : (workers k : ℕ) (cs ds : List Message) (a b : List Shard) → mails b ≡ posted_from workers k cs a → posted_from workers k ds b ≡ posted_from workers k (cs ++ ds) a
posted_after workers k cs ds [] [] e = refl
posted_after workers k cs ds [] (t ∷ b) e = absurd (cc)
posted_after workers k cs ds (s ∷ a) [] e = absurd (cc)
posted_after workers k cs ds (s ∷ a) (t ∷ b) e =
    let here : t.mailbox.messages ≡ s.mailbox.messages ++ of_shard workers k cs = cc in
    let rest : mails b ≡ posted_from workers (k + 1) cs a = cc in
    let two : of_shard workers k (cs ++ ds) ≡ of_shard workers k cs ++ of_shard workers k ds = filter-append (λ c. shard_of_key workers c.rec.key == k) cs ds in
    let first : t.mailbox.messages ++ of_shard workers k ds ≡ s.mailbox.messages ++ of_shard workers k (cs ++ ds) =
    ap (λ l. l ++ of_shard workers k ds) here ∙ (append_assoc s.mailbox.messages (of_shard workers k cs) (of_shard workers k ds) ∙ ap (λ l. s.mailbox.messages ++ l) (sym two)) in
    λ i. first i ∷ posted_after workers (k + 1) cs ds a b rest i

pub posted_then : (cs ds : List Message) (a b c : List Shard) → IsPosted cs a b → IsPosted ds b c → IsPosted (cs ++ ds) a c
posted_then cs ds a b c x y =
    let many = as_many_waits a b x.waiting in
    record {
      mails = y.mails ∙ (ap (λ w. posted_from w 0 ds b) many ∙ posted_after (length a) 0 cs ds a b x.mails);
      waiting = y.waiting ∙ x.waiting;
    }

pub roomier_then_posted : (cs : List Message) (a b c : List Shard) → IsRoomier a b → IsPosted cs b c → IsPosted cs a c
roomier_then_posted cs a b c x y = posted_then [] cs a b c (posted_roomier a b x) y

-- THE BAG OF ALL MESSAGES
module _ (laws : BagLaws message_cmp) where
  -- the messages of shards from a number on
  abbrev of_each : ℕ → ℕ → List Message → List Shard → List Message
  of_each workers k cs shards = flat_map (λ p. of_shard workers p.0 cs) (enumerate_from k shards)

  in_new : (workers k : ℕ) (cs : List Message) (old new : List Shard) → mails new ≡ posted_from workers k cs old → (zs : List Message)
      → join message_cmp (in_mailboxes new) zs ≡ join message_cmp (of_each workers k cs old) (join message_cmp (in_mailboxes old) zs)
  in_new workers k cs [] [] e zs = refl
  in_new workers k cs [] (t ∷ new) e zs = absurd (cc)
  in_new workers k cs (s ∷ old) [] e zs = absurd (cc)
  in_new workers k cs (s ∷ old) (t ∷ new) e zs =
      let here : t.mailbox.messages ≡ s.mailbox.messages ++ of_shard workers k cs = cc in
      let rest : mails new ≡ posted_from workers (k + 1) cs old = cc in
      let m = s.mailbox.messages in
      let o = of_shard workers k cs in
      let others = of_each workers (k + 1) cs old in
      let before = join message_cmp (in_mailboxes old) zs in
      laws.append t.mailbox.messages (in_mailboxes new) zs ∙ (ap (λ l. join message_cmp l (join message_cmp (in_mailboxes new) zs)) here
      ∙ (ap (join message_cmp (m ++ o)) (in_new workers (k + 1) cs old new rest zs) ∙ (laws.append m o (join message_cmp others before)
      ∙ (laws.swaps m o (join message_cmp others before) ∙ (ap (join message_cmp o) (laws.swaps m others before ∙ ap (join message_cmp others) (sym (laws.append m (in_mailboxes old) zs)))
      ∙ sym (laws.append o others (join message_cmp (m ++ in_mailboxes old) zs)))))))

  -- a message is of none of the shards before, or of none after, its own
  of_others : (workers k : ℕ) (c : Message) (cs : List Message) (shards : List Shard) → shard_of_key workers c.rec.key < k → of_each workers k (c ∷ cs) shards ≡ of_each workers k cs shards
  of_others workers k c cs [] h = refl
  of_others workers k c cs (s ∷ ss) h =
      let not_here : (shard_of_key workers c.rec.key == k) ≡ false = grind (arith, nat_tests, h) in
      λ i. cond (not_here i) (c ∷ of_shard workers k cs) (of_shard workers k cs) ++ of_others workers (k + 1) c cs ss (omega (arith, h)) i

  of_one : (workers k : ℕ) (c : Message) (cs : List Message) (shards : List Shard) → k ≤ shard_of_key workers c.rec.key → shard_of_key workers c.rec.key < k + length shards
      → (zs : List Message) → join message_cmp (of_each workers k (c ∷ cs) shards) zs ≡ bag_insert message_cmp c (join message_cmp (of_each workers k cs shards) zs)
  of_one workers k c cs [] from before zs = absurd (omega (arith, from, before))
  of_one workers k c cs (s ∷ ss) from before zs = by (shard_of_key workers c.rec.key == k) refl (of_one workers (k + 1) c cs ss)
    where
      by : (b : Bool) → (shard_of_key workers c.rec.key == k) ≡ b
          → (k + 1 ≤ shard_of_key workers c.rec.key → shard_of_key workers c.rec.key < k + 1 + length ss → (ys : List Message)
          → join message_cmp (of_each workers (k + 1) (c ∷ cs) ss) ys ≡ bag_insert message_cmp c (join message_cmp (of_each workers (k + 1) cs ss) ys))
          → join message_cmp (of_each workers k (c ∷ cs) (s ∷ ss)) zs ≡ bag_insert message_cmp c (join message_cmp (of_each workers k cs (s ∷ ss)) zs)
      by true e later =
          let past : shard_of_key workers c.rec.key < k + 1 = grind (arith, nat_tests, e) in
          λ i. join message_cmp (cond (e i) (c ∷ of_shard workers k cs) (of_shard workers k cs) ++ of_others workers (k + 1) c cs ss past i) zs
      by false e later =
          let next : k + 1 ≤ shard_of_key workers c.rec.key = grind (arith, nat_tests, e, from) in
          let within : shard_of_key workers c.rec.key < k + 1 + length ss = omega (arith, before) in
          let all = of_each workers (k + 1) (c ∷ cs) ss in
          ap (λ b. join message_cmp (cond b (c ∷ of_shard workers k cs) (of_shard workers k cs) ++ all) zs) e
          ∙ (laws.append (of_shard workers k cs) all zs ∙ (ap (join message_cmp (of_shard workers k cs)) (later next within zs)
          ∙ (laws.swaps (of_shard workers k cs) (c ∷ []) (join message_cmp (of_each workers (k + 1) cs ss) zs)
          ∙ ap (bag_insert message_cmp c) (sym (laws.append (of_shard workers k cs) (of_each workers (k + 1) cs ss) zs)))))

  none_of : (workers k : ℕ) (shards : List Shard) → of_each workers k [] shards ≡ []
  none_of workers k [] = refl
  none_of workers k (s ∷ ss) = none_of workers (k + 1) ss

  -- each message is of one of the shards
  parted : (workers : ℕ) (shards : List Shard) → workers ≡ length shards → 1 ≤ workers → (cs zs : List Message) → join message_cmp (of_each workers 0 cs shards) zs ≡ join message_cmp cs zs
  parted workers shards all some [] zs = ap (λ l. join message_cmp l zs) (none_of workers 0 shards)
  parted workers shards all some (c ∷ cs) zs =
      let below : c.rec.key % workers < workers = omega (arith, some) in
      of_one workers 0 c cs shards (omega arith) (omega (arith, below, all)) zs ∙ ap (bag_insert message_cmp c) (parted workers shards all some cs zs)

  -- it is told by the mailboxes alone
  pub mails_bag : (cs : List Message) (old new : List Shard) → 1 ≤ length old → mails new ≡ mails_with cs old → (xs : List Message)
      → bag_of message_cmp (in_mailboxes new ++ xs) ≡ join message_cmp cs (bag_of message_cmp (in_mailboxes old ++ xs))
  mails_bag cs old new some mail xs =
      laws.append (in_mailboxes new) xs [] ∙ (in_new (length old) 0 cs old new mail (bag_of message_cmp xs)
      ∙ (parted (length old) old refl some cs (join message_cmp (in_mailboxes old) (bag_of message_cmp xs)) ∙ ap (join message_cmp cs) (sym (laws.append (in_mailboxes old) xs []))))

  pub posted_bag : (cs : List Message) (old new : List Shard) → 1 ≤ length old → IsPosted cs old new → (xs : List Message)
      → bag_of message_cmp (in_mailboxes new ++ xs) ≡ join message_cmp cs (bag_of message_cmp (in_mailboxes old ++ xs))
  posted_bag cs old new some is xs = mails_bag cs old new some is.mails xs

  pub roomier_bag : (old new : List Shard) → 1 ≤ length old → IsRoomier old new → (xs : List Message)
      → bag_of message_cmp (in_mailboxes new ++ xs) ≡ bag_of message_cmp (in_mailboxes old ++ xs)
  roomier_bag old new some is xs = posted_bag [] old new some (posted_roomier old new is) xs

-- EACH SHARD KEEPS ITS OWN
all_of_two : {X : Type 0} (P : X → Type 0) (xs ys : List X) → AllByRecursion P xs → AllByRecursion P ys → AllByRecursion P (xs ++ ys)
all_of_two P [] ys h k = k
all_of_two P (x ∷ xs) ys h k = (h.0, all_of_two P xs ys h.1 k)

are_own : (workers s : ℕ) (cs : List Message) → AllByRecursion (λ c. shard_of_key workers c.rec.key ≡ s) (of_shard workers s cs)
are_own workers s [] = tt
are_own workers s (c ∷ cs) = by (shard_of_key workers c.rec.key == s) refl (are_own workers s cs)
  where
    by : (b : Bool) → (shard_of_key workers c.rec.key == s) ≡ b → AllByRecursion (λ d. shard_of_key workers d.rec.key ≡ s) (of_shard workers s cs)
        → AllByRecursion (λ d. shard_of_key workers d.rec.key ≡ s) (cond b (c ∷ of_shard workers s cs) (of_shard workers s cs))
    by true e rest = (grind (arith, nat_tests, e), rest)
    by false e rest = rest

shards_from : (workers k : ℕ) (cs : List Message) (old new : List Shard) → mails new ≡ posted_from workers k cs old → waits new ≡ waits old
    → AllByRecursion (IsShard workers) (enumerate_from k old) → AllByRecursion (IsShard workers) (enumerate_from k new)
shards_from workers k cs [] [] m w h = tt
shards_from workers k cs [] (t ∷ new) m w h = absurd (cc)
shards_from workers k cs (s ∷ old) [] m w h = absurd (cc)
shards_from workers k cs (s ∷ old) (t ∷ new) m w h =
    let here : t.mailbox.messages ≡ s.mailbox.messages ++ of_shard workers k cs = cc in
    let rest : mails new ≡ posted_from workers (k + 1) cs old = cc in
    let same : t.waiting ≡ s.waiting = cc in
    let more : waits new ≡ waits old = cc in (
      record {
        messages = subst (AllByRecursion (λ c. shard_of_key workers c.rec.key ≡ k)) (sym here) (all_of_two (λ c. shard_of_key workers c.rec.key ≡ k) s.mailbox.messages (of_shard workers k cs) h.0.messages (are_own workers k cs));
        items = subst (AllByRecursion (λ w. AllByRecursion (λ a. shard_of_key workers a.key ≡ k) w.1)) (sym same) h.0.items;
        once = subst (λ w. IsStrictlySortedBy noted_cmp (keys_of w)) (sym same) h.0.once;
      },
      shards_from workers (k + 1) cs old new rest more h.1,
    )

pub posted_shards : (cs : List Message) (old new : List Shard) → IsPosted cs old new
    → AllByRecursion (IsShard (length old)) (enumerate_from 0 old) → AllByRecursion (IsShard (length new)) (enumerate_from 0 new)
posted_shards cs old new is h =
    subst (λ w. AllByRecursion (IsShard w) (enumerate_from 0 new)) (sym (as_many_waits old new is.waiting)) (shards_from (length old) 0 cs old new is.mails is.waiting h)

pub roomier_shards : (old new : List Shard) → IsRoomier old new
    → AllByRecursion (IsShard (length old)) (enumerate_from 0 old) → AllByRecursion (IsShard (length new)) (enumerate_from 0 new)
roomier_shards old new is h = posted_shards [] old new (posted_roomier old new is) h

-- WHAT WAITS is as it was
pub same_buffered : (old new : List Shard) → waits new ≡ waits old → flat_map waiting_in new ≡ flat_map waiting_in old
same_buffered [] [] e = refl
same_buffered [] (t ∷ new) e = absurd (cc)
same_buffered (s ∷ old) [] e = absurd (cc)
same_buffered (s ∷ old) (t ∷ new) e =
    let same : t.waiting ≡ s.waiting = cc in
    let rest : waits new ≡ waits old = cc in
    λ i. flat_map waiting_at (same i) ++ same_buffered old new rest i

pub same_asked : (k : ℕ) (old new : List Shard) → waits new ≡ waits old → flat_map asked_in (enumerate_from k new) ≡ flat_map asked_in (enumerate_from k old)
same_asked k [] [] e = refl
same_asked k [] (t ∷ new) e = absurd (cc)
same_asked k (s ∷ old) [] e = absurd (cc)
same_asked k (s ∷ old) (t ∷ new) e =
    let same : t.waiting ≡ s.waiting = cc in
    let rest : waits new ≡ waits old = cc in
    λ i. map (asked_of_shard k) (same i) ++ same_asked (k + 1) old new rest i

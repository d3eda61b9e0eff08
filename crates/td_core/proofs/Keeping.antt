-- Items that come to wait in one shard of a hall.
use Rattle.std.proofs.Common.{◌≡◌, ℕ, ◌<◌, Bool, true, false, List, [], ◌∷◌, ◌++◌, get_or, set, length, replicate, refl, ap, sym, ◌∙◌, subst, Result, Ok, Err, OnOk, OnErr}
use Rattle.std.specs.Result.{is_err}
use Rattle.std.proofs.lemmas.List.{set-get_or, map-set, get_or-map}
use Rattle.std.proofs.Math.Seq.{map-set_same}
use Rattle.td_stamp.specs.declared.values.Arrival.{Arrival}
use Rattle.td_stamp.specs.Time.{Timestamp}
use Rattle.td_reach.specs.declared.stamp.Stamp.{Stamp}
use Rattle.td_machine.specs.Active.{stamp_at}
use Rattle.td_shard.specs.Asked.{AskedList, with_items}
use Rattle.td_shard.specs.declared.shard.Shard.{Shard}
use Rattle.td_core.specs.Posted.{mails, waits, occurring, IsRoomier}
use Rattle.td_core.specs.Delivered.{asked_now}

-- what a result tells
pub at_ok : {T E P : Type 0} (r : Result T E) → false ≡ is_err r → OnOk r P → P
at_ok (Ok x) e p = p
at_ok (Err x) e p = absurd (cc)

pub at_err : {T E P : Type 0} (r : Result T E) → true ≡ is_err r → OnErr r P → P
at_err (Ok x) e p = absurd (cc)
at_err (Err x) e p = p

pub so_on_err : {T E P : Type 0} (r : Result T E) → P → OnErr r P
so_on_err (Ok x) p = tt
so_on_err (Err x) p = p

module _ (shards : List Shard) (i : ℕ) (x : Shard) (here : x ≡ get_or shards i x) where
  -- the shard with other items
  abbrev pub with_waiting : AskedList → List Shard
  with_waiting w = set shards i (record { mailbox = x.mailbox; waiting = w })

  pub as_it_was : (w : AskedList) → w ≡ x.waiting → with_waiting w ≡ shards
  as_it_was w e = ap with_waiting e ∙ (ap (set shards i) here ∙ set-get_or shards i x)

  pub still_roomier : (w : AskedList) → w ≡ x.waiting → (old : List Shard) → IsRoomier old shards → IsRoomier old (with_waiting w)
  still_roomier w e old r = subst (IsRoomier old) (sym (as_it_was w e)) r

  pub same_mails : (w : AskedList) → mails (with_waiting w) ≡ mails shards
  same_mails w = map-set_same (λ s. s.mailbox.messages) shards i (record { mailbox = x.mailbox; waiting = w }) x (ap (λ (s : Shard). s.mailbox.messages) here)

  pub its_waiting : i < length shards → x.waiting ≡ get_or (waits shards) i []
  its_waiting within = ap (λ (s : Shard). s.waiting) here ∙ sym (get_or-map (λ s. s.waiting) shards i x [] within)

  pub more_waits : i < length shards → (w : AskedList) (v : ℕ) (t : Timestamp) (more : List Arrival) → w ≡ with_items x.waiting v t more
      → waits (with_waiting w) ≡ set (waits shards) i (with_items (get_or (waits shards) i []) v t more)
  more_waits within w v t more e =
      map-set (λ s. s.waiting) shards i (record { mailbox = x.mailbox; waiting = w })
      ∙ ap (set (waits shards) i) (e ∙ ap (λ l. with_items l v t more) (its_waiting within))

-- its notification is added where it was not asked for
pub added_if : (v : ℕ) (t : Timestamp) (asked b : Bool) (times : ℕ) (s : Stamp) → s ≡ stamp_at v t → (asked ≡ true → times ≡ 0) → (asked ≡ false → times ≡ 1) → asked ≡ b
    → occurring (record { stamp = s; times = times } ∷ []) ≡ asked_now v t b
added_if v t true true times s e none some same = ap (λ n. replicate n s ++ []) (none refl)
added_if v t false false times s e none some same = ap (λ n. replicate n s ++ []) (some refl) ∙ ap (λ p. p ∷ []) e
added_if v t true false times s e none some same = absurd (cc)
added_if v t false true times s e none some same = absurd (cc)

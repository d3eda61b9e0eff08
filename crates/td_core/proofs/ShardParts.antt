-- What is true of shards, told by their mailboxes and by what waits in them, each for itself.
use Rattle.std.proofs.Common.{◌≡◌, ℕ, ◌+◌, ◌==◌, Bool, true, false, cond, List, [], ◌∷◌, ◌++◌, map, length, refl, sym, subst}
use Rattle.std.specs.List.{AllByRecursion, enumerate_from}
use Rattle.std.proofs.lemmas.List.{length-map}
use Rattle.td_machine.specs.declared.records.Message.{Message}
use Rattle.td_machine.specs.State.{shard_of_key}
use Rattle.td_shard.specs.declared.shard.Shard.{Shard}
use Rattle.td_core.specs.Parts.{IsShard}
use Rattle.td_core.specs.Posted.{of_shard, mails, mails_with, waits}
use Rattle.td_core.proofs.OutTasks.{same_number}
use Rattle.td_core.proofs.WaitsAll.{IsWaiting}

-- a mailbox has messages of its shard alone
abbrev pub IsMail : ℕ → ℕ × List Message → Type 0
IsMail workers p = AllByRecursion (λ c. shard_of_key workers c.rec.key ≡ p.0) p.1

module _ (workers : ℕ) where
  pub mail_of : (k : ℕ) (shards : List Shard) → AllByRecursion (IsShard workers) (enumerate_from k shards) → AllByRecursion (IsMail workers) (enumerate_from k (mails shards))
  mail_of k [] h = tt
  mail_of k (s ∷ ss) h = (h.0.messages, mail_of (k + 1) ss h.1)

  pub waiting_of : (k : ℕ) (shards : List Shard) → AllByRecursion (IsShard workers) (enumerate_from k shards) → AllByRecursion (IsWaiting workers) (enumerate_from k (waits shards))
  waiting_of k [] h = tt
  waiting_of k (s ∷ ss) h = (record { items = h.0.items; once = h.0.once }, waiting_of (k + 1) ss h.1)

  pub united : (k : ℕ) (shards : List Shard) → AllByRecursion (IsMail workers) (enumerate_from k (mails shards)) → AllByRecursion (IsWaiting workers) (enumerate_from k (waits shards))
      → AllByRecursion (IsShard workers) (enumerate_from k shards)
  united k [] h w = tt
  united k (s ∷ ss) h w = (record { messages = h.0; items = w.0.items; once = w.0.once }, united (k + 1) ss h.1 w.1)

  -- messages of a shard are posted to it
  own : (s : ℕ) (ms cs : List Message) → AllByRecursion (λ c. shard_of_key workers c.rec.key ≡ s) ms → AllByRecursion (λ c. shard_of_key workers c.rec.key ≡ s) (ms ++ of_shard workers s cs)
  own s (m ∷ ms) cs h = (h.0, own s ms cs h.1)
  own s [] [] h = tt
  own s [] (c ∷ cs) h = by (shard_of_key workers c.rec.key == s) refl (own s [] cs tt)
    where
      by : (b : Bool) → (shard_of_key workers c.rec.key == s) ≡ b → AllByRecursion (λ c. shard_of_key workers c.rec.key ≡ s) (of_shard workers s cs)
          → AllByRecursion (λ c. shard_of_key workers c.rec.key ≡ s) (cond b (c ∷ of_shard workers s cs) (of_shard workers s cs))
      by true e rest = (same_number (shard_of_key workers c.rec.key) s e, rest)
      by false e rest = rest

  own_all : (cs : List Message) (k : ℕ) (shards : List Shard) → AllByRecursion (IsMail workers) (enumerate_from k (mails shards))
      → AllByRecursion (IsMail workers) (enumerate_from k (map (λ p. p.1.mailbox.messages ++ of_shard workers p.0 cs) (enumerate_from k shards)))
  own_all cs k [] h = tt
  own_all cs k (s ∷ ss) h = (own k s.mailbox.messages cs h.0, own_all cs (k + 1) ss h.1)

pub many_waits : (shards : List Shard) → length (waits shards) ≡ length shards
many_waits shards = length-map shards (λ s. s.waiting)

-- SHARDS when messages were posted, and other items wait
pub still_shards : (cs : List Message) (old new : List Shard) → mails new ≡ mails_with cs old → length new ≡ length old
    → AllByRecursion (IsShard (length old)) (enumerate_from 0 old) → AllByRecursion (IsWaiting (length old)) (enumerate_from 0 (waits new))
    → AllByRecursion (IsShard (length new)) (enumerate_from 0 new)
still_shards cs old new mail many h w =
    subst (λ n. AllByRecursion (IsShard n) (enumerate_from 0 new)) (sym many)
    (united (length old) 0 new
    (subst (λ ms. AllByRecursion (IsMail (length old)) (enumerate_from 0 ms)) (sym mail) (own_all (length old) cs 0 old (mail_of (length old) 0 old h))) w)

-- The candidate that a pick names.
use Rattle.std.proofs.Common.{◌≡◌, inl, inr, ℕ, ◌+◌, ◌-◌, ◌<◌, List, [], ◌∷◌, ◌++◌, length, get_or, Vec, Global, Some, None, refl, sym, ap, ◌∙◌, subst, arith}
use Rattle.std.proofs.lemmas.Nat.{mod_below}
use Rattle.td_progress.specs.Bag.{Active}
use Rattle.td_shard.specs.declared.waiting.Noted.{Noted}
use Rattle.td_shard.specs.declared.shard.Shard.{Shard}
use Rattle.td_core.specs.declared.take.Candidate.{Candidate}
use Rattle.td_core.specs.declared.take.Candidate.TheVariants as candidates
use Rattle.td_core.specs.declared.hall.Parts.{Parts}
use Rattle.td_machine.specs.State.{Task}
use Rattle.td_core.specs.Taking.{IsReady, AreReady, IsReadyAt, IsPlaceOf, IsPicked, IsThere, IsFor, IsTaskFor, asked_at}

module _ (active : Active) where
  -- there is one such list
  pub only : (asked a b : List Noted) → AreReady active asked a → AreReady active asked b → a ≡ b
  only [] a b g h = g ∙ sym h
  only (n ∷ asked) a b (inl g) (inl h) = only asked a b g.1 h.1
  only (n ∷ asked) a b (inl g) (inr h) = absurd (g.0 h.0)
  only (n ∷ asked) a b (inr g) (inl h) = absurd (h.0 g.0)
  only (n ∷ asked) a b (inr g) (inr h) = g.1.1 ∙ (ap (λ l. n ∷ l) (only asked g.1.0 h.1.0 g.1.2 h.1.2) ∙ sym h.1.1)

  -- one more at the end
  pub one_ready : (before ready : List Noted) (n : Noted) → IsReady active n → AreReady active before ready → AreReady active (before ++ n ∷ []) (ready ++ n ∷ [])
  one_ready [] ready n is h = inr (is, ([], ap (λ l. l ++ n ∷ []) h, refl))
  one_ready (m ∷ before) ready n is (inl h) = inl (h.0, one_ready before ready n is h.1)
  one_ready (m ∷ before) ready n is (inr h) = inr (h.0, (h.1.0 ++ n ∷ [], ap (λ l. l ++ n ∷ []) h.1.1, one_ready before h.1.0 n is h.1.2))

  pub one_held : (before ready : List Noted) (n : Noted) → (IsReady active n → ⊥) → AreReady active before ready → AreReady active (before ++ n ∷ []) ready
  one_held [] ready n is h = inl (is, h)
  one_held (m ∷ before) ready n is (inl h) = inl (h.0, one_held before ready n is h.1)
  one_held (m ∷ before) ready n is (inr h) = inr (h.0, (h.1.0, h.1.1, one_held before h.1.0 n is h.1.2))

  -- none of no candidates
  pub none_picked : (s : Shard) (pick place : ℕ) (messages : ℕ) → messages ≡ length s.mailbox.messages → (place < messages → ⊥) → IsPlaceOf active s pick place → IsReadyAt active (asked_at s) (place - messages) None
      → IsPicked active s pick None
  none_picked s pick place messages many after is none =
      let ready = none.0 in
      let no_room : (0 < length s.mailbox.messages + length ready) → ⊥ = λ some.
      let at = is ready none.1 some in
      let below = mod_below pick (length s.mailbox.messages + length ready) some in
      let few = none.2 in
      absurd (omega (arith, at, below, few, many, after)) in
      (empty s.mailbox.messages (λ some. no_room (omega (arith, some))), subst (AreReady active (asked_at s)) (empty ready (λ some. no_room (omega (arith, some)))) none.1)
    where
      empty : {X : Type 0} (xs : List X) → (0 < length xs → ⊥) → xs ≡ []
      empty [] h = refl
      empty (x ∷ xs) h = absurd (h (omega arith))

  -- the candidate is one that the shard has
  pub is_there : (s : Shard) (pick : ℕ) (c : Candidate) → IsPicked active s pick (Some c) → IsThere s c
  is_there s pick (candidates.Message place) h = h.0
  is_there s pick (candidates.Notification n) h = tt

-- A TASK FOR A CANDIDATE, while what waits is put in order: the states that it is given are of the parts before
module _ (parts : Parts) (shards : Vec Shard Global) where
  abbrev reordered : Parts
  reordered = record parts { shards = shards }

  for_same : (s : Shard) (c : Candidate) (task : Task) → IsFor reordered s c task → IsFor parts s c task
  for_same s (candidates.Message place) task is = is
  for_same s (candidates.Notification n) task is = is

  pub task_same : (i : ℕ) (d : Shard) (c : Candidate) (task : Task) → shards.items ≡ parts.shards.items
      → IsTaskFor reordered i (get_or shards.items i d) c task → IsTaskFor parts i (get_or parts.shards.items i d) c task
  task_same i d c task same is = subst (λ ss. IsTaskFor parts i (get_or ss i d) c task) same (record {
    shard_is = is.shard_is;
    number = is.number;
    kind = is.kind;
    content = for_same (get_or shards.items i d) c task is.content;
  })

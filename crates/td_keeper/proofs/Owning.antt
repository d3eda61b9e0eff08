-- A hall that is a keeper's stays the keeper's own, whatever the keeper does.
use Rattle.std.proofs.Common.{◌≡◌, ◌⊎◌, ⊎_elim, ℕ, ◌+◌, ◌-◌, ◌≤◌, ◌<◌, Bool, true, false, List, [], ◌∷◌, ◌++◌, drop, length, refl, sym, ap, ◌∙◌, subst, arith}
use Rattle.std.specs.Prelude.{Option}
use Rattle.std.proofs.lemmas.List.{append_assoc, length-map, length-append, map-append, drop-append-le, drop-drop, drop-map}
use Rattle.td_stamp.specs.declared.values.Entry.{Entry}
use Rattle.td_calls.specs.Answers.{Answers}
use Rattle.td_journal.specs.declared.payload.Submitted.{Submitted}
use Rattle.td_machine.specs.State.{HallState}
use Rattle.td_machine.specs.Active.{has_passed}
use Rattle.td_machine.specs.Steps.{opened, cut_to, cut_at_by}
use Rattle.td_machine.specs.Sound.{Sound}
use Rattle.td_core.specs.Drained.{IsKept}
use Rattle.td_store.specs.standing.Standing.{batches_of, submission}
use Rattle.td_keeper.specs.declared.receipt.Receipt.{Receipt}
use Rattle.td_keeper.specs.declared.receipt.Receipt.TheVariants.{New, Already}
use Rattle.td_keeper.specs.Received.{IsReceived}
use Rattle.td_keeper.specs.Keeping.{Keeping, IsKeeping, since_base, with_epochs, with_group, with_checkpoint}
use Rattle.td_keeper.specs.Halls.{IsOwn, StaysOwn, IsAtHome, lacking, with_released, with_collected, with_cut, collected_hall, cut_hall_up_to, cut_place}
use Rattle.td_keeper.proofs.Releasing.{has_released}
use Rattle.td_keeper.proofs.Batches.{lacks, left, has_numbers}

-- a keeper and a hall that are these
pub stays_at : {D : Type 0} (k l : Keeping D) (S T U : HallState) → l ≡ k → U ≡ T → StaysOwn k S T → StaysOwn l S U
stays_at {D = D} k l S T U same there stays = subst (λ (q : Keeping D). StaysOwn q S U) (sym same) (subst (StaysOwn k S) (sym there) stays)

module _ {D : Type 0} (k : Keeping D) (S : HallState) (own : IsOwn k S) where
  pub stays_itself : StaysOwn k S S
  stays_itself = record { own = own; closed = refl; workers = refl; out = refl }

  pub stays_collected : StaysOwn (with_collected k S) S (collected_hall S)
  stays_collected = record {
    own = record { plan = own.plan; base = own.base; base_states = own.base_states; collected = refl; batches = own.batches };
    closed = refl;
    workers = refl;
    out = refl;
  }

  -- batches released that it lacks, the first of them
  pub stays_released : (answers : Answers) → IsKeeping k answers → Sound answers S → S.closed ≡ false → (xs rest : List (List Entry)) → lacking k S ≡ xs ++ rest → StaysOwn k S (with_released S xs)
  stays_released answers keeping sound unclosed xs rest is =
      let short = ap length is ∙ length-append xs rest in
      let many = ap length (sym (lacks answers k keeping S own sound)) ∙ length-map (drop (k.base - k.standing.epoch + length S.batches) k.standing.submitted) (λ s. s.batch) in
      let numbers = has_numbers answers k keeping S own sound in
      let then = has_released S xs unclosed (omega (arith, short, many, numbers)) in
      record {
        own = record {
          plan = then.plan ∙ own.plan;
          base = then.base ∙ own.base;
          base_states = then.base_states ∙ own.base_states;
          collected = then.collected ∙ own.collected;
          batches = (
            rest,
            own.batches.1 ∙ (ap (λ l. S.batches ++ l) (sym (left answers k keeping S own sound) ∙ is)
                ∙ (sym (append_assoc S.batches xs rest) ∙ ap (λ l. l ++ rest) (sym then.batches))),
          );
        };
        closed = then.closed;
        workers = then.workers;
        out = then.out;
      }

  -- epochs more
  pub own_more : (answers : Answers) → IsKeeping k answers → (device : D) (x : List Submitted) → IsOwn (with_epochs k device x) S
  own_more answers keeping device x =
      let n = k.base - k.standing.epoch in
      let w = k.standing.submitted in
      let most : n ≤ length (batches_of w) = omega (arith, keeping.from_checkpoint, keeping.released, length-map w (λ s. s.batch)) in
      record {
        plan = own.plan;
        base = own.base;
        base_states = own.base_states;
        collected = own.collected;
        batches = (
          own.batches.0 ++ batches_of x,
          ap (drop n) (map-append (λ s. s.batch) w x) ∙ (drop-append-le n (batches_of w) (batches_of x) most
              ∙ (ap (λ l. l ++ batches_of x) own.batches.1 ∙ append_assoc S.batches own.batches.0 (batches_of x))),
        );
      }

  pub own_group : (answers : Answers) → IsKeeping k answers → (device : D) (x : List Submitted) → IsOwn (with_group k device x) S
  own_group answers keeping device [] = own
  own_group answers keeping device (x ∷ xs) = own_more answers keeping device (x ∷ xs)

  -- its cut is the checkpoint
  pub own_written : (answers : Answers) → IsKeeping k answers → (device : D) → IsOwn (with_checkpoint k device) S
  own_written answers keeping device =
      let n = k.base - k.standing.epoch in
      let w = k.standing.submitted in
      let none : k.base - (k.standing.epoch + n) ≡ 0 = omega (arith, keeping.from_checkpoint) in
      record {
        plan = own.plan;
        base = own.base;
        base_states = own.base_states;
        collected = own.collected;
        batches = (own.batches.0, ap (λ (m : ℕ). drop m (batches_of (drop n w))) none ∙ (sym (drop-map (λ s. s.batch) n w) ∙ own.batches.1));
      }

  -- the device is another, and failed or not; the cut waits or not
  pub own_aside : (device : D) (broken waiting : Bool) → IsOwn (record k { device = device; broken = broken; waiting = waiting }) S
  own_aside device broken waiting = record { plan = own.plan; base = own.base; base_states = own.base_states; collected = own.collected; batches = own.batches }

  -- a submit that was refused
  pub own_refused : (l : Keeping D) (d : D) (P Q : Type 0) → (l ≡ k) ⊎ (P × (l ≡ record k { device = d })) ⊎ (Q × (l ≡ record k { device = d; broken = true })) → IsOwn l S
  own_refused l d P Q is =
      ⊎_elim (λ same. subst (λ (q : Keeping D). IsOwn q S) (sym same) own)
      (λ other. ⊎_elim
      (λ memory. subst (λ (q : Keeping D). IsOwn q S) (sym memory.1) (own_aside d k.broken k.waiting))
      (λ device. subst (λ (q : Keeping D). IsOwn q S) (sym device.1) (own_aside d true k.waiting)) other) is

  -- a request that was answered
  pub own_received : (answers : Answers) → IsKeeping k answers → (request : ℕ) (batch : List Entry) (receipt : Receipt) (l : Keeping D) → IsReceived request batch receipt k l → IsOwn l S
  own_received answers keeping request batch (New epoch) l r = subst (λ (q : Keeping D). IsOwn q S) (sym r.2) (own_more answers keeping l.device (submission request batch ∷ []))
  own_received answers keeping request batch (Already last) l r = subst (λ (q : Keeping D). IsOwn q S) (sym r.2) own

  -- A CUT is the base of both
  module _ (last : ℕ) (after : S.base ≤ last) (few : last - S.base ≤ length S.batches) (down : k.standing.epoch ≤ k.base) where
    own_cut_to : IsOwn (with_cut k (cut_to S last)) (cut_to S last)
    own_cut_to =
        let n = k.base - k.standing.epoch in
        let bs = batches_of k.standing.submitted in
        let place : last - k.standing.epoch ≡ n + (last - S.base) = omega (arith, after, own.base, down) in
        record {
          plan = own.plan;
          base = refl;
          base_states = refl;
          collected = own.collected;
          batches = (
            own.batches.0,
            ap (λ (m : ℕ). drop m bs) place ∙ (sym (drop-drop (last - S.base) n bs)
                ∙ (ap (drop (last - S.base)) own.batches.1 ∙ drop-append-le (last - S.base) S.batches own.batches.0 few)),
          );
        }

    stays_cut_by : (passed : Bool) → passed ≡ true → StaysOwn (with_cut k (cut_at_by S passed last).1) S (cut_at_by S passed last).1
    stays_cut_by true is = record { own = own_cut_to; closed = refl; workers = refl; out = refl }
    stays_cut_by false is = absurd cc

-- it is cut at an epoch that has passed
pub stays_cut : {D : Type 0} (k : Keeping D) (S : HallState) (own : IsOwn k S) (answers : Answers) (most : Option ℕ) → IsKeeping k answers → Sound answers S → S.base ≤ cut_place most S → cut_place most S < S.next
    → has_passed S (cut_place most S) ≡ true → StaysOwn (with_cut k (cut_hall_up_to most S)) S (cut_hall_up_to most S)
stays_cut k S own answers most keeping sound after before passed =
    stays_cut_by k S own (cut_place most S) after (omega (arith, after, before, sound.released)) keeping.from_checkpoint (has_passed S (cut_place most S)) passed

-- one after another
pub stays_then : {D : Type 0} (k l : Keeping D) (S T U : HallState) → StaysOwn k S T → StaysOwn l T U → StaysOwn l S U
stays_then k l S T U first second = record { own = second.own; closed = second.closed ∙ first.closed; workers = second.workers ∙ first.workers; out = second.out ∙ first.out }

-- AT HOME: as it is opened at a base, and as it stays
pub opened_home : {D : Type 0} (k : Keeping D) (S : HallState) → k.collected ≡ k.base → S ≡ opened k.plan k.base_states (k.base + 1) 1 → IsAtHome k S
opened_home k S collected is =
    let here : k.base + 1 - 1 ≡ k.base = omega arith in
    subst (IsAtHome k) (sym is)
    (record {
      own = record { plan = refl; base = here; base_states = refl; collected = here ∙ sym collected; batches = (since_base k, refl) };
      not_closed = refl;
      alone = refl;
      none_out = refl;
    })

pub stays_home : {D : Type 0} (k l : Keeping D) (S T : HallState) → IsAtHome k S → StaysOwn l S T → IsAtHome l T
stays_home k l S T home stays = record { own = stays.own; not_closed = stays.closed ∙ home.not_closed; alone = stays.workers ∙ home.alone; none_out = stays.out ∙ home.none_out }

pub own_home : {D : Type 0} (k l : Keeping D) (S : HallState) → IsAtHome k S → IsOwn l S → IsAtHome l S
own_home k l S home own = record { own = own; not_closed = home.not_closed; alone = home.alone; none_out = home.none_out }

-- takes and gives leave it at home
pub kept_home : {D : Type 0} (k : Keeping D) (S T : HallState) → IsAtHome k S → IsKept S T → T.out ≡ [] → IsAtHome k T
kept_home k S T home kept none = record {
  own = record {
    plan = kept.plan ∙ home.own.plan;
    base = kept.base ∙ home.own.base;
    base_states = kept.base_states ∙ home.own.base_states;
    collected = kept.collected ∙ home.own.collected;
    batches = (home.own.batches.0, home.own.batches.1 ∙ ap (λ l. l ++ home.own.batches.0) (sym kept.batches));
  };
  not_closed = kept.closed ∙ home.not_closed;
  alone = kept.workers ∙ home.alone;
  none_out = none;
}

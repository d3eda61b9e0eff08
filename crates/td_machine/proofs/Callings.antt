-- What a callback adds and sends, kind by kind.
use Rattle.std.proofs.Common.{◌≡◌, ℕ, List, [], ◌∷◌, map, filter, flat_map, refl, ap, sym, ◌∙◌, Bool, true, false, not, if◌then◌else◌}
use Rattle.td_stamp.specs.declared.values.Rec.{Rec}
use Rattle.td_stamp.specs.declared.values.Arrival.{Arrival}
use Rattle.td_stamp.specs.Orders.{rec_cmp}
use Rattle.td_stamp.specs.Bag.{set_of, join, has}
use Rattle.td_stamp.specs.Groups.{rec_of}
use Rattle.td_plan.specs.declared.vertex.Kind.{Kind}
use Rattle.td_plan.specs.declared.vertex.Kind.TheVariants.{Input, Map, Distinct, Group, Fold, Enter, Feedback, Leave, Output}
use Rattle.td_calls.specs.Answers.{Answers}
use Rattle.td_calls.specs.Callbacks.{Kept, Added, only_sent, on_arrival, is_notified}
use Rattle.td_batch.specs.Meaning.{EpochInput, answer}
use Rattle.td_machine.proofs.History.{is_distinct}
use Rattle.td_machine.proofs.Lists.{filter_all, all_everywhere}
use Rattle.td_machine.proofs.Bags.{bag_of-append, set_has-set_of, set_insert-there, set_insert-new}
use Rattle.td_machine.specs.Below.{Below}

module _ (below : Below) where
  -- one, where a test says so
  abbrev pub where_true : {X : Type 0} → Bool → X → List X
  where_true true x = x ∷ []
  where_true false x = []

  -- what a distinct adds
  once_buffered : (b : Bool) (r : Rec) → (let a : Added = if b then only_sent [] else record { seen = r ∷ []; buffered = []; sent = r ∷ [] } in a).buffered ≡ []
  once_buffered true r = refl
  once_buffered false r = refl

  once_seen : (b : Bool) (r : Rec) → (let a : Added = if b then only_sent [] else record { seen = r ∷ []; buffered = []; sent = r ∷ [] } in a).seen ≡ where_true (not b) r
  once_seen true r = refl
  once_seen false r = refl

  pub buffers : (answers : Answers) (kind : Kind) (kept : Kept) (a : Arrival) → (on_arrival answers kind kept a).buffered ≡ where_true (is_notified kind) a
  buffers answers Input kept a = refl
  buffers answers (Map code) kept a = refl
  buffers answers Distinct kept a = once_buffered (has rec_cmp (rec_of a) kept.seen) (rec_of a)
  buffers answers (Group code) kept a = refl
  buffers answers (Fold code) kept a = refl
  buffers answers Enter kept a = refl
  buffers answers Feedback kept a = refl
  buffers answers Leave kept a = refl
  buffers answers Output kept a = refl

  pub sees : (answers : Answers) (kept : Kept) (a : Arrival) → (on_arrival answers Distinct kept a).seen ≡ where_true (not (has rec_cmp (rec_of a) kept.seen)) (rec_of a)
  sees answers kept a = once_seen (has rec_cmp (rec_of a) kept.seen) (rec_of a)

  pub sees_none : (answers : Answers) (kind : Kind) (kept : Kept) (a : Arrival) → is_distinct kind ≡ false → (on_arrival answers kind kept a).seen ≡ []
  sees_none answers Input kept a e = refl
  sees_none answers (Map code) kept a e = refl
  sees_none answers Distinct kept a e = cc
  sees_none answers (Group code) kept a e = refl
  sees_none answers (Fold code) kept a e = refl
  sees_none answers Enter kept a e = refl
  sees_none answers Feedback kept a e = refl
  sees_none answers Leave kept a e = refl
  sees_none answers Output kept a e = refl

  pub groups_send_later : (answers : Answers) (kind : Kind) (kept : Kept) (a : Arrival) → is_notified kind ≡ true → (on_arrival answers kind kept a).sent ≡ []
  groups_send_later answers Input kept a e = refl
  groups_send_later answers (Map code) kept a e = cc
  groups_send_later answers Distinct kept a e = cc
  groups_send_later answers (Group code) kept a e = refl
  groups_send_later answers (Fold code) kept a e = refl
  groups_send_later answers Enter kept a e = cc
  groups_send_later answers Feedback kept a e = cc
  groups_send_later answers Leave kept a e = cc
  groups_send_later answers Output kept a e = cc

  -- all of a set pass a test that all pass
  unkept : (rs : List Rec) → filter (λ r. not (has rec_cmp r [])) rs ≡ rs
  unkept rs = filter_all (λ r. not (has rec_cmp r [])) rs (all_everywhere (λ r. not (has rec_cmp r []) ≡ true) (λ r. refl) rs)

  distinct_step : (r : Rec) (rs : List Rec) (b : Bool) → has rec_cmp r rs ≡ b → set_of rec_cmp (r ∷ rs) ≡ join rec_cmp (let a : Added = if b then only_sent [] else record { seen = r ∷ []; buffered = []; sent = r ∷ [] } in a).sent (set_of rec_cmp rs)
  distinct_step r rs true e = set_insert-there rec_cmp below.rec_sets r (set_of rec_cmp rs) (set_has-set_of rec_cmp below.rec_sets r rs ∙ e)
  distinct_step r rs false e = set_insert-new rec_cmp below.rec_sets r (set_of rec_cmp rs) (set_has-set_of rec_cmp below.rec_sets r rs ∙ e)

  -- A RECORD THAT COMES adds what its callback sends to what was sent
  pub answer_step : (epoch : EpochInput) (v : ℕ) (kind : Kind) (kept : Kept) (a : Arrival) (arrived : List Arrival) → is_notified kind ≡ false → (kind ≡ Distinct → has rec_cmp (rec_of a) kept.seen ≡ has rec_cmp (rec_of a) (map rec_of arrived))
      → answer epoch v kind (a ∷ arrived) ≡ join rec_cmp (on_arrival epoch.answers kind kept a).sent (answer epoch v kind arrived)
  answer_step epoch v Input kept a arrived e d = refl
  answer_step epoch v (Map code) kept a arrived e d = bag_of-append rec_cmp below.recs (epoch.answers.emit code a.item.port (rec_of a)) (flat_map (λ a. epoch.answers.emit code a.item.port (rec_of a)) arrived)
  answer_step epoch v Distinct kept a arrived e d =
      unkept (set_of rec_cmp (rec_of a ∷ map rec_of arrived)) ∙ distinct_step (rec_of a) (map rec_of arrived) (has rec_cmp (rec_of a) kept.seen) (sym (d refl))
      ∙ ap (join rec_cmp (on_arrival epoch.answers Distinct kept a).sent) (sym (unkept (set_of rec_cmp (map rec_of arrived))))
  answer_step epoch v (Group code) kept a arrived e d = cc
  answer_step epoch v (Fold code) kept a arrived e d = cc
  answer_step epoch v Enter kept a arrived e d = refl
  answer_step epoch v Feedback kept a arrived e d = refl
  answer_step epoch v Leave kept a arrived e d = refl
  answer_step epoch v Output kept a arrived e d = refl

  -- where nothing came, nothing is sent, but by an input
  pub answer_nothing : (epoch : EpochInput) (v : ℕ) (kind : Kind) → (kind ≡ Input → epoch.batch ≡ []) → answer epoch v kind [] ≡ []
  answer_nothing epoch v Input n = ap (λ b. answer (record epoch { batch = b }) v Input []) (n refl)
  answer_nothing epoch v (Map code) n = refl
  answer_nothing epoch v Distinct n = refl
  answer_nothing epoch v (Group code) n = refl
  answer_nothing epoch v (Fold code) n = refl
  answer_nothing epoch v Enter n = refl
  answer_nothing epoch v Feedback n = refl
  answer_nothing epoch v Leave n = refl
  answer_nothing epoch v Output n = refl

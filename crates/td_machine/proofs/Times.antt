-- Times of what is posted, and what is of a vertex and a time in a history with one more.
use Rattle.std.proofs.Common.{◌≡◌, ℕ, ◌<◌, ◌≤◌, List, [], ◌∷◌, ◌++◌, map, filter, refl, ap, sym, ◌∙◌, subst, Bool, true, false, ◌==◌}
use Rattle.std.specs.List.{AllByRecursion}
use Rattle.std.proofs.lemmas.Bool.{eqb-true}
use Rattle.td_stamp.specs.declared.values.Rec.{Rec}
use Rattle.td_stamp.specs.Time.{Timestamp, again}
use Rattle.td_plan.specs.declared.vertex.Kind.{Kind}
use Rattle.td_plan.specs.declared.vertex.Kind.TheVariants.{Input, Map, Distinct, Group, Fold, Enter, Feedback, Leave, Output}
use Rattle.td_plan.specs.declared.vertex.Edge.{Edge}
use Rattle.td_plan.specs.Lines.{Line}
use Rattle.td_plan.specs.Blocks.{edges}
use Rattle.std.specs.Prelude.{nat_lt, suc, if◌then◌else◌}
use Rattle.td_machine.specs.declared.records.Message.{Message}
use Rattle.td_machine.specs.declared.records.Stamped.{Stamped}
use Rattle.td_machine.specs.State.{is_there, arrival}
use Rattle.td_machine.specs.Active.{kind_of, bound_of}
use Rattle.td_machine.specs.Steps.{posts, posted, stamped, edges_from, on_edge, sending_times, again_below}
use Rattle.td_machine.proofs.History.{Origin, IsTime, sent_at, came_at}
use Rattle.td_machine.proofs.PlanFacts.{InTurn, LeadsOn, PlanFacts}
use Rattle.td_machine.proofs.Lists.{filter_yes, filter_no, filter_app, all_everywhere, all_map, all_flat, all_filter, all_weaken, all_both}
use Rattle.td_machine.proofs.Orders.{there_itself}

-- what is sent in answer to a time is of its epoch
again_epoch : (bound : ℕ) (t : Timestamp) (turns : List ℕ) → AllByRecursion (λ later. later.epoch ≡ t.epoch) (again_below bound t turns)
again_epoch bound t [] = tt
again_epoch bound t (k ∷ outer) = by (nat_lt (suc k) bound)
  where
    by : (b : Bool) → AllByRecursion (λ (later : Timestamp). later.epoch ≡ t.epoch) (if b then again t ∷ [] else [])
    by true = (refl, tt)
    by false = tt

pub sending_epoch : (kind : Kind) (bound : ℕ) (t : Timestamp) → AllByRecursion (λ later. later.epoch ≡ t.epoch) (sending_times kind bound t)
sending_epoch Enter bound t = (refl, tt)
sending_epoch Leave bound t = (refl, tt)
sending_epoch Feedback bound t = again_epoch bound t t.turns
sending_epoch Input bound t = (refl, tt)
sending_epoch (Map code) bound t = (refl, tt)
sending_epoch Distinct bound t = (refl, tt)
sending_epoch (Group code) bound t = (refl, tt)
sending_epoch (Fold code) bound t = (refl, tt)
sending_epoch Output bound t = (refl, tt)

-- WHAT HOLDS OF ALL POSTS: of each edge out of a vertex and each time at which it sends
module _ (plan : List Line) (P : Message → Type 0) (x : Stamped) where
  abbrev times : List Timestamp
  times = sending_times (kind_of plan x.vertex) (bound_of plan x.vertex) x.time

  by_time : (ts : List Timestamp) → AllByRecursion (λ (e : Edge). AllByRecursion (λ later. P (on_edge later x.rec e)) ts) (edges_from plan x.vertex) → AllByRecursion (λ later. AllByRecursion P (map (on_edge later x.rec) (edges_from plan x.vertex))) ts
  by_time [] h = tt
  by_time (t ∷ ts) h = (
    all_map P (on_edge t x.rec) (edges_from plan x.vertex) (all_weaken (λ (e : Edge). AllByRecursion (λ later. P (on_edge later x.rec e)) (t ∷ ts)) (λ e. P (on_edge t x.rec e)) (λ e k. k.0) (edges_from plan x.vertex) h),
    by_time ts (all_weaken (λ (e : Edge). AllByRecursion (λ later. P (on_edge later x.rec e)) (t ∷ ts)) (λ e. AllByRecursion (λ later. P (on_edge later x.rec e)) ts) (λ e k. k.1) (edges_from plan x.vertex) h),
  )

  pub all_posted : AllByRecursion (λ (e : Edge). e.source ≡ x.vertex → AllByRecursion (λ later. P (on_edge later x.rec e)) (sending_times (kind_of plan x.vertex) (bound_of plan x.vertex) x.time)) (edges plan)
      → AllByRecursion P (posted plan x)
  all_posted h =
      let Q : Edge → Type 0 = λ e. e.source ≡ x.vertex → AllByRecursion (λ later. P (on_edge later x.rec e)) times in
      all_flat P (λ later. map (on_edge later x.rec) (edges_from plan x.vertex)) times (by_time times (all_weaken (λ e. Q e × ((e.source == x.vertex) ≡ true)) (λ e. AllByRecursion (λ later. P (on_edge later x.rec e)) times)
      (λ e k. k.0 (eqb-true e.source x.vertex k.1)) (edges_from plan x.vertex) (all_filter Q (λ e. e.source == x.vertex) (edges plan) h)))

module _ (plan : List Line) (facts : PlanFacts plan) (origin : Origin) (next : ℕ) where
  abbrev Placed : Message → Type 0
  Placed c = IsTime origin next plan c.vertex c.time

  pub posted_times : (x : Stamped) → IsTime origin next plan x.vertex x.time → AllByRecursion (λ c. IsTime origin next plan c.vertex c.time) (posted plan x)
  posted_times x h = all_posted plan Placed x (all_weaken (LeadsOn plan) (λ e. e.source ≡ x.vertex → AllByRecursion (λ later. Placed (on_edge later x.rec e)) (sending_times (kind_of plan x.vertex) (bound_of plan x.vertex) x.time)) each (edges plan) facts.on)
    where
      each : (e : Edge) → LeadsOn plan e → e.source ≡ x.vertex → AllByRecursion (λ later. IsTime origin next plan e.reader later) (sending_times (kind_of plan x.vertex) (bound_of plan x.vertex) x.time)
      each e on s =
          let ts = sending_times (kind_of plan x.vertex) (bound_of plan x.vertex) x.time in
          let turned : AllByRecursion (InTurn plan e.reader) ts = subst (λ v. InTurn plan v x.time → AllByRecursion (InTurn plan e.reader) (sending_times (kind_of plan v) (bound_of plan v) x.time)) s (on x.time) h.2 in
          all_weaken (λ (later : Timestamp). (later.epoch ≡ x.time.epoch) × InTurn plan e.reader later) (IsTime origin next plan e.reader)
          (λ later k. (subst (λ n. origin.first ≤ n) (sym k.0) h.0, subst (λ n. n < next) (sym k.0) h.1, k.1)) ts (all_both (λ (later : Timestamp). later.epoch ≡ x.time.epoch) (InTurn plan e.reader) ts (sending_epoch (kind_of plan x.vertex) (bound_of plan x.vertex) x.time) turned)

  pub posts_times : (xs : List Stamped) → AllByRecursion (λ x. IsTime origin next plan x.vertex x.time) xs → AllByRecursion (λ c. IsTime origin next plan c.vertex c.time) (posts plan xs)
  posts_times xs h = all_flat Placed (posted plan) xs (all_weaken (λ x. IsTime origin next plan x.vertex x.time) (λ x. AllByRecursion Placed (posted plan x)) posted_times xs h)

-- posts bear the epoch of what they answer
pub posted_epochs : (plan : List Line) (x : Stamped) → AllByRecursion (λ c. c.time.epoch ≡ x.time.epoch) (posted plan x)
posted_epochs plan x = all_posted plan (λ c. c.time.epoch ≡ x.time.epoch) x (all_everywhere _ (λ e s. sending_epoch (kind_of plan x.vertex) (bound_of plan x.vertex) x.time) (edges plan))

-- what was sent at a vertex and time
pub sent_app : (v : ℕ) (t : Timestamp) (xs ys : List Stamped) → sent_at (xs ++ ys) v t ≡ sent_at xs v t ++ sent_at ys v t
sent_app v t xs ys = ap (map (λ x. x.rec)) (filter_app (λ x. is_there v t x.vertex x.time) xs ys) ∙ split (filter (λ x. is_there v t x.vertex x.time) xs) (filter (λ x. is_there v t x.vertex x.time) ys)
  where
    split : (ls bs : List Stamped) → map (λ (x : Stamped). x.rec) (ls ++ bs) ≡ map (λ x. x.rec) ls ++ map (λ x. x.rec) bs
    split [] bs = refl
    split (a ∷ ls) bs = ap (λ l. a.rec ∷ l) (split ls bs)

pub sent_here : (v : ℕ) (t : Timestamp) (rs : List Rec) → sent_at (stamped v t rs) v t ≡ rs
sent_here v t [] = refl
sent_here v t (r ∷ rs) = ap (map (λ x. x.rec)) (filter_yes (λ x. is_there v t x.vertex x.time) (record { vertex = v; time = t; rec = r }) (stamped v t rs) (there_itself v t)) ∙ ap (λ l. r ∷ l) (sent_here v t rs)

pub sent_elsewhere : (v w : ℕ) (t u : Timestamp) (rs : List Rec) → is_there v t w u ≡ false → sent_at (stamped w u rs) v t ≡ []
sent_elsewhere v w t u [] e = refl
sent_elsewhere v w t u (r ∷ rs) e = ap (map (λ x. x.rec)) (filter_no (λ x. is_there v t x.vertex x.time) (record { vertex = w; time = u; rec = r }) (stamped w u rs) e) ∙ sent_elsewhere v w t u rs e

-- what came to a vertex at a time, with one more
pub came_here : (v : ℕ) (t : Timestamp) (c : Message) (cs : List Message) → is_there v t c.vertex c.time ≡ true → came_at (c ∷ cs) v t ≡ arrival c ∷ came_at cs v t
came_here v t c cs e = ap (map arrival) (filter_yes (λ c. is_there v t c.vertex c.time) c cs e)

pub came_elsewhere : (v : ℕ) (t : Timestamp) (c : Message) (cs : List Message) → is_there v t c.vertex c.time ≡ false → came_at (c ∷ cs) v t ≡ came_at cs v t
came_elsewhere v t c cs e = ap (map arrival) (filter_no (λ c. is_there v t c.vertex c.time) c cs e)

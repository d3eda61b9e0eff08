-- Records that a vertex sends in answer to a time: what is posted on each outlet, and what is active.
use Rattle.std.proofs.Common.{◌≡◌, ℕ, ◌+◌, ◌-◌, ◌*◌, ◌≤◌, ◌==◌, Bool, true, false, cond, List, [], ◌∷◌, ◌++◌, map, filter, flat_map, length, replicate, refl, ap, sym, ◌∙◌, subst, append-nil, arith}
use Rattle.std.specs.List.{AllByRecursion}
use Rattle.std.proofs.Math.Nat.{mul-le-mul_right}
use Rattle.std.proofs.lemmas.List.{replicate-append-replicate}
use Rattle.td_stamp.specs.declared.values.Rec.{Rec}
use Rattle.td_stamp.specs.Time.{Timestamp}
use Rattle.td_stamp.specs.Bag.{bag_insert, has}
use Rattle.td_plan.specs.Lines.{Line}
use Rattle.td_reach.specs.declared.stamp.Stamp.{Stamp}
use Rattle.td_reach.specs.Paths.{IsOf}
use Rattle.td_progress.specs.Bag.{occurrences, IsSameBag}
use Rattle.td_machine.specs.declared.records.Stamped.{Stamped}
use Rattle.td_machine.specs.declared.records.OutputAt.{OutputAt}
use Rattle.td_machine.specs.State.{stamped_cmp, shard_of_key}
use Rattle.td_machine.specs.Steps.{posts, posted, stamped, sending_times, edges_from, on_edge}
use Rattle.td_machine.specs.AtOnce.{fresh, stamped_at}
use Rattle.td_machine.specs.ByEdge.{times_from, stamps_by_edge, stamp_on}
use Rattle.td_shard.specs.declared.shard.Shard.{Shard}
use Rattle.td_core.specs.declared.hall.Parts.{Parts}
use Rattle.td_shard.specs.declared.outlet.Outlet.{Outlet}
use Rattle.td_core.specs.declared.hall.Routes.{Routes}
use Rattle.td_core.specs.Routes.{IsRoutes, outlet_of, outlets_of, kind_in, bound_in}
use Rattle.td_core.specs.Posted.{stamp_on_outlet, stamps_on, mails_with, IsPosted, IsRoomier, HaveRoom, count_of, runs_of}
use Rattle.td_shard.specs.Messages.{on_each, on_outlet}
use Rattle.td_core.specs.Given.{IsUntouched}
use Rattle.td_core.specs.Delivered.{IsSent}
use Rattle.td_core.proofs.CloseSteps.{CountsAppend}
use Rattle.td_core.proofs.PostSteps.{roomier_then_posted, none_posted as none_posts}
use Rattle.td_core.specs.declared.post.Change.{Change}
use Rattle.td_core.proofs.Changes.{change_on}
use Rattle.td_core.proofs.PostRuns.{room_weaker}

map_map : {X Y Z : Type 0} (f : X → Y) (g : Y → Z) (xs : List X) → map g (map f xs) ≡ map (λ x. g (f x)) xs
map_map f g [] = refl
map_map f g (x ∷ xs) = ap (λ l. g (f x) ∷ l) (map_map f g xs)

flat_map_map : {X Y Z : Type 0} (f : X → Y) (g : Y → List Z) (xs : List X) → flat_map g (map f xs) ≡ flat_map (λ x. g (f x)) xs
flat_map_map f g [] = refl
flat_map_map f g (x ∷ xs) = ap (λ l. g (f x) ++ l) (flat_map_map f g xs)

module _ (plan : List Line) (v : ℕ) (t : Timestamp) where
  -- IN THE LAST TURN of a loop nothing is sent
  pub none_posted : times_from plan v t ≡ [] → (recs : List Rec) → posts plan (stamped v t recs) ≡ []
  none_posted e [] = refl
  none_posted e (r ∷ rs) = ap (λ times. flat_map (λ later. map (on_edge later r) (edges_from plan v)) times ++ posts plan (stamped v t rs)) e ∙ none_posted e rs

  pub none_active : times_from plan v t ≡ [] → (many : ℕ) → stamps_by_edge plan v t many ≡ []
  none_active e many = ap (flat_map (λ later. flat_map (λ edge. replicate many (stamp_on plan later edge)) (edges_from plan v))) e

  module _ (later : Timestamp) (e : times_from plan v t ≡ later ∷ []) where
    -- ELSE AT ONE TIME, on each outlet
    pub posted_on : (recs : List Rec) → posts plan (stamped v t recs) ≡ on_each (outlets_of plan v) later recs
    posted_on [] = refl
    posted_on (r ∷ rs) =
        ap (λ times. flat_map (λ u. map (on_edge u r) (edges_from plan v)) times ++ posts plan (stamped v t rs)) e
        ∙ (ap (λ l. l ++ posts plan (stamped v t rs)) (append-nil (map (on_edge later r) (edges_from plan v)) ∙ sym (map_map (outlet_of plan) (on_outlet later r) (edges_from plan v)))
        ∙ ap (λ l. map (on_outlet later r) (outlets_of plan v) ++ l) (posted_on rs))

    pub active_on : (many : ℕ) → stamps_by_edge plan v t many ≡ stamps_on (outlets_of plan v) later many
    active_on many =
        ap (flat_map (λ u. flat_map (λ edge. replicate many (stamp_on plan u edge)) (edges_from plan v))) e
        ∙ (append-nil (flat_map (λ edge. replicate many (stamp_on plan later edge)) (edges_from plan v))
        ∙ sym (flat_map_map (outlet_of plan) (λ o. replicate many (stamp_on_outlet later o)) (edges_from plan v)))

    pub outlets_of_plan : ((many : ℕ) → AllByRecursion (IsOf plan) (stamps_by_edge plan v t many)) → AllByRecursion (λ o. IsOf plan (stamp_on_outlet later o)) (outlets_of plan v)
    outlets_of_plan h = by (outlets_of plan v) (subst (AllByRecursion (IsOf plan)) (active_on 1) (h 1))
      where
        by : (os : List Outlet) → AllByRecursion (IsOf plan) (stamps_on os later 1) → AllByRecursion (λ o. IsOf plan (stamp_on_outlet later o)) os
        by [] k = tt
        by (o ∷ os) k = (k.0, by os k.1)

-- what is looked up is the plan's
pub looked_up : (plan : List Line) (routes : Routes) → IsRoutes plan routes → (v : ℕ) (t : Timestamp) → sending_times (kind_in routes v) (bound_in routes v) t ≡ times_from plan v t
looked_up plan routes is v t = λ i. sending_times (is.kind v i) (is.bound v i) t

-- NEW RECORDS are no more than all, and of each shard no more
pub fewer : (seen : List Stamped) (v : ℕ) (t : Timestamp) (recs : List Rec) → length (fresh seen v t recs) ≤ length recs
fewer seen v t [] = omega arith
fewer seen v t (r ∷ rs) = by (has stamped_cmp (stamped_at v t r) seen) (fewer seen v t rs) (fewer (bag_insert stamped_cmp (stamped_at v t r) seen) v t rs)
  where
    by : (b : Bool) → length (fresh seen v t rs) ≤ length rs → length (fresh (bag_insert stamped_cmp (stamped_at v t r) seen) v t rs) ≤ length rs
        → length {A = Rec} (elim b [ true ↦ fresh seen v t rs | false ↦ r ∷ fresh (bag_insert stamped_cmp (stamped_at v t r) seen) v t rs ]) ≤ length (r ∷ rs)
    by true there new = omega (arith, there)
    by false there new = omega (arith, new)

fewer_of : (workers s : ℕ) (seen : List Stamped) (v : ℕ) (t : Timestamp) (recs : List Rec) → count_of workers (fresh seen v t recs) s ≤ count_of workers recs s
fewer_of workers s seen v t [] = omega arith
fewer_of workers s seen v t (r ∷ rs) =
    by (has stamped_cmp (stamped_at v t r) seen) (fewer_of workers s seen v t rs) (fewer_of workers s (bag_insert stamped_cmp (stamped_at v t r) seen) v t rs)
  where
    mine : List Rec → List Rec
    mine xs = filter (λ x. shard_of_key workers x.key == s) xs

    after : List Rec
    after = fresh (bag_insert stamped_cmp (stamped_at v t r) seen) v t rs

    first : (here : Bool) (xs ys : List Rec) → length xs ≤ length ys → length (cond here (r ∷ xs) xs) ≤ length (cond here (r ∷ ys) ys)
    first true xs ys l = omega (arith, l)
    first false xs ys l = l

    more : (here : Bool) (xs ys : List Rec) → length xs ≤ length ys → length xs ≤ length (cond here (r ∷ ys) ys)
    more true xs ys l = omega (arith, l)
    more false xs ys l = l

    by : (b : Bool) → count_of workers (fresh seen v t rs) s ≤ count_of workers rs s
        → count_of workers (fresh (bag_insert stamped_cmp (stamped_at v t r) seen) v t rs) s ≤ count_of workers rs s
        → length (filter (λ x. shard_of_key workers x.key == s) (elim b [ true ↦ fresh seen v t rs | false ↦ r ∷ fresh (bag_insert stamped_cmp (stamped_at v t r) seen) v t rs ]))
        ≤ length (filter (λ x. shard_of_key workers x.key == s) (r ∷ rs))
    by true there new = more (shard_of_key workers r.key == s) (mine (fresh seen v t rs)) (mine rs) there
    by false there new = first (shard_of_key workers r.key == s) (mine after) (mine rs) new

-- and no more runs
fewer_runs : (workers s : ℕ) (seen : List Stamped) (v : ℕ) (t : Timestamp) (recs : List Rec) (edges : ℕ) → runs_of workers (fresh seen v t recs) edges s ≤ runs_of workers recs edges s
fewer_runs workers s seen v t recs edges = by (workers == 1) (mul-le-mul_right edges (fewer_of workers s seen v t recs))
  where
    by : (b : Bool) {new all : ℕ} → new ≤ all → cond b edges new ≤ cond b edges all
    by true less = omega arith
    by false less = less

-- room for all of them is room for those that are new
pub room_for_new : (seen : List Stamped) (v : ℕ) (t : Timestamp) (recs : List Rec) (edges : ℕ) (ss : List Shard) → HaveRoom recs edges ss → HaveRoom (fresh seen v t recs) edges ss
room_for_new seen v t recs edges ss h =
    room_weaker (runs_of (length ss) recs edges) (λ s. count_of (length ss) recs s * edges) (runs_of (length ss) (fresh seen v t recs) edges) (λ s. count_of (length ss) (fresh seen v t recs) s * edges)
    (λ s. fewer_runs (length ss) s seen v t recs edges) (λ s. mul-le-mul_right edges (fewer_of (length ss) s seen v t recs)) 0 ss h

-- OCCURRENCES on outlets
module _ (append : CountsAppend) (outs : List Outlet) (t : Timestamp) where
  in_two : (p : Stamp) (os : List Outlet) (a b : ℕ) → occurrences p (stamps_on os t (a + b)) ≡ occurrences p (stamps_on os t a) + occurrences p (stamps_on os t b)
  in_two p [] a b = refl
  in_two p (o ∷ os) a b =
      let x = stamp_on_outlet t o in
      let all = append p (replicate (a + b) x) (stamps_on os t (a + b)) in
      let first = append p (replicate a x) (stamps_on os t a) in
      let second = append p (replicate b x) (stamps_on os t b) in
      let two = ap (occurrences p) (sym (replicate-append-replicate a b x)) ∙ append p (replicate a x) (replicate b x) in
      let later = in_two p os a b in
      omega (arith, all, first, second, two, later)

  -- fewer of them are there to be taken off
  pub enough_on : (many few : ℕ) (old now : List Stamp) → few ≤ many → IsSameBag now (stamps_on outs t many ++ old) → (p : Stamp) → occurrences p (stamps_on outs t few) ≤ occurrences p now
  enough_on many few old now less on p =
      let fields : few + (many - few) ≡ many = omega (arith, less) in
      let two = ap (λ n. occurrences p (stamps_on outs t n)) (sym fields) ∙ in_two p outs few (many - few) in
      let all = on p ∙ append p (stamps_on outs t many) old in
      omega (arith, two, all)

  -- and the others are left
  pub surplus_off : (many few : ℕ) (old now new : List Stamp) → few ≤ many → IsSameBag now (stamps_on outs t many ++ old) → IsSameBag now (stamps_on outs t (many - few) ++ new)
      → IsSameBag new (stamps_on outs t few ++ old)
  surplus_off many few old now new less on off p =
      let fields : few + (many - few) ≡ many = omega (arith, less) in
      let two = ap (λ n. occurrences p (stamps_on outs t n)) (sym fields) ∙ in_two p outs few (many - few) in
      let all = on p ∙ append p (stamps_on outs t many) old in
      let left = off p ∙ append p (stamps_on outs t (many - few)) new in
      let these = append p (stamps_on outs t few) old in
      omega (arith, two, all, left, these)

  pub all_off : (many : ℕ) (old now new : List Stamp) → IsSameBag now (stamps_on outs t many ++ old) → IsSameBag now (stamps_on outs t many ++ new) → IsSameBag new old
  all_off many old now new on off p =
      let all = on p ∙ append p (stamps_on outs t many) old in
      let left = off p ∙ append p (stamps_on outs t many) new in
      omega (arith, all, left)

-- WHAT WAS SENT
pub none_sent : (old : Parts) (v : ℕ) (t : Timestamp) → times_from old.table.plan v t ≡ [] → (sent : List Rec) → IsSent v t sent old.seen old.outputs old old
none_sent old v t e sent = record {
  fields = refl;
  plan = refl;
  stamps = λ p. ap (λ l. occurrences p (l ++ old.table.stamps)) (sym (none_active old.table.plan v t e (length sent)));
  mails = sym (none_posts (length old.shards.items) 0 old.shards.items) ∙ ap (λ cs. mails_with cs old.shards.items) (sym (none_posted old.table.plan v t e sent));
  waiting = refl;
}

module _ (old new : Parts) (v : ℕ) (t later : Timestamp) (e : times_from old.table.plan v t ≡ later ∷ []) (outs : List Outlet) (outs_are : outs ≡ outlets_of old.table.plan v) where
  pub sent_then : (sent : List Rec) (seen : List Stamped) (outputs : List OutputAt) (mid : List Shard)
      → new ≡ record old { table = new.table; shards = new.shards; seen = seen; outputs = outputs }
      → new.table.plan ≡ old.table.plan → IsSameBag new.table.stamps (stamps_on outs later (length sent) ++ old.table.stamps)
      → IsRoomier old.shards.items mid → IsPosted (on_each outs later sent) mid new.shards.items
      → IsSent v t sent seen outputs old new
  sent_then sent seen outputs mid fields plan stamps room posted =
      let all = roomier_then_posted (on_each outs later sent) old.shards.items mid new.shards.items room posted in
      record {
        fields = fields;
        plan = plan;
        stamps = λ p. stamps p ∙ ap (λ l. occurrences p (l ++ old.table.stamps)) (ap (λ os. stamps_on os later (length sent)) outs_are ∙ sym (active_on old.table.plan v t later e (length sent)));
        mails = all.mails ∙ ap (λ cs. mails_with cs old.shards.items) (ap (λ os. on_each os later sent) outs_are ∙ sym (posted_on old.table.plan v t later e sent));
        waiting = all.waiting;
      }

-- NOTHING BUT MORE ROOM
pub untouched : (old new : Parts) → new ≡ record old { table = new.table; shards = new.shards } → new.table.plan ≡ old.table.plan
    → IsSameBag new.table.stamps old.table.stamps → IsRoomier old.shards.items new.shards.items → IsUntouched old new
untouched old new fields plan stamps room = record { fields = fields; plan = plan; stamps = stamps; shards = room }

-- each change on an outlet is of the plan
pub changes_of_plan : (plan : List Line) (t : Timestamp) (times : ℕ) (outs : List Outlet) → AllByRecursion (λ o. IsOf plan (stamp_on_outlet t o)) outs
    → AllByRecursion (λ (r : Change). IsOf plan r.stamp) (map (change_on t times) outs)
changes_of_plan plan t times [] h = tt
changes_of_plan plan t times (o ∷ os) h = (h.0, changes_of_plan plan t times os h.1)

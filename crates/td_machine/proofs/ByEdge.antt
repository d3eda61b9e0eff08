-- What a vertex sends, edge by edge.
use Rattle.std.proofs.Common.{◌≡◌, ℕ, List, [], ◌∷◌, ◌++◌, map, filter, flat_map, replicate, length, count_by, cond, true, false, ◌==◌, refl, ap, sym, ◌∙◌, Bool, arith}
use Rattle.std.proofs.lemmas.Bool.{eqb-true}
use Rattle.std.proofs.lemmas.List.{append-nil}
use Rattle.std.specs.List.{AllByRecursion}
use Rattle.td_stamp.specs.declared.values.Rec.{Rec}
use Rattle.td_stamp.specs.declared.values.Entry.{Entry}
use Rattle.td_stamp.specs.Batch.{records_for}
use Rattle.td_plan.specs.Blocks.{edges}
use Rattle.td_plan.specs.Inputs.{is_input_of}
use Rattle.td_plan.specs.Faults.{IsPlan}
use Rattle.td_stamp.specs.Time.{Timestamp}
use Rattle.td_stamp.specs.Bag.{join, bag_of}
use Rattle.td_plan.specs.declared.vertex.Edge.{Edge}
use Rattle.td_plan.specs.declared.vertex.Kind.TheVariants.{Input, Map, Distinct, Group, Fold, Enter, Feedback, Leave, Output}
use Rattle.td_plan.specs.Lines.{Line}
use Rattle.td_machine.specs.declared.records.Message.{Message}
use Rattle.td_machine.specs.declared.records.OutputAt.{OutputAt}
use Rattle.td_machine.specs.State.{message_cmp}
use Rattle.td_machine.specs.Active.{kind_of, bound_of, stamp_of_message}
use Rattle.td_machine.specs.Steps.{accepts, entered, sending_times, posts, posted, stamped, coming, comes_out, on_edge, edges_from}
use Rattle.td_machine.specs.AtOnce.{stamped_at}
use Rattle.td_machine.specs.ByEdge.{batch_by_edge, BatchByEdge, BatchStampsByEdge, times_from, on_edges, posts_by_edge, PostsByEdge, stamp_on, StampsByEdge, StampsOfTask, OutputsAtOnce, AsksOnce}
use Rattle.td_machine.proofs.Bags.{join-bag_of}
use Rattle.td_machine.proofs.Exchanges.{parts_alike, exchanged}
use Rattle.td_machine.proofs.Moves.{many, many_joined, some_asked}
use Rattle.td_machine.proofs.Passed.{map_flat}
use Rattle.td_machine.proofs.Lawful.{plan_facts}
use Rattle.td_machine.proofs.Lists.{filter_yes, filter_no, all_weaken}
use Rattle.td_machine.proofs.Orders.{and_true}
use Rattle.td_machine.proofs.Plain.{eqb-same}
use Rattle.td_machine.specs.Below.{Below}

-- lists that maps and parts give
flat_of_map : {A B C : Type 0} (g : B → List C) (f : A → B) (xs : List A) → flat_map g (map f xs) ≡ flat_map (λ x. g (f x)) xs
flat_of_map g f [] = refl
flat_of_map g f (x ∷ xs) = ap (λ l. g (f x) ++ l) (flat_of_map g f xs)

map_is_flat : {A B : Type 0} (f : A → B) (xs : List A) → map f xs ≡ flat_map (λ x. f x ∷ []) xs
map_is_flat f [] = refl
map_is_flat f (x ∷ xs) = ap (λ l. f x ∷ l) (map_is_flat f xs)

same_parts : {A B : Type 0} (f g : A → List B) → ((x : A) → f x ≡ g x) → (xs : List A) → flat_map f xs ≡ flat_map g xs
same_parts f g h [] = refl
same_parts f g h (x ∷ xs) = λ i. h x i ++ same_parts f g h xs i

nothing_comes : {A B : Type 0} (xs : List A) → flat_map (λ (x : A). let l : List B = [] in l) xs ≡ []
nothing_comes [] = refl
nothing_comes (x ∷ xs) = nothing_comes xs

module _ (below : Below) (plan : List Line) (v : ℕ) (t : Timestamp) (recs : List Rec) where
  abbrev out : List Edge
  out = edges_from plan v

  abbrev later_ones : List Timestamp
  later_ones = times_from plan v t

  -- at one time: edge by edge
  at_time : (later : Timestamp) → bag_of message_cmp (flat_map (λ r. map (on_edge later r) out) recs) ≡ bag_of message_cmp (on_edges plan v recs later)
  at_time later =
      ap (bag_of message_cmp) (same_parts (λ r. map (on_edge later r) out) (λ r. flat_map (λ e. on_edge later r e ∷ []) out) (λ r. map_is_flat (on_edge later r) out) recs)
      ∙ exchanged message_cmp below.messages (λ r e. on_edge later r e ∷ []) recs out
      ∙ ap (bag_of message_cmp) (same_parts (λ e. flat_map (λ r. on_edge later r e ∷ []) recs) (λ e. coming e.reader e.port later recs) (λ e. sym (map_is_flat (λ r. on_edge later r e) recs)) out)

  bags_alike : bag_of message_cmp (posts plan (stamped v t recs)) ≡ bag_of message_cmp (posts_by_edge plan v t recs)
  bags_alike =
      ap (bag_of message_cmp) (flat_of_map (posted plan) (stamped_at v t) recs)
      ∙ exchanged message_cmp below.messages (λ r later. map (on_edge later r) out) recs later_ones
      ∙ parts_alike message_cmp below.messages (λ later. flat_map (λ r. map (on_edge later r) out) recs) (on_edges plan v recs) at_time later_ones

pub posts_are_by_edge : Below → PostsByEdge
posts_are_by_edge below plan v t recs others =
    sym (join-bag_of message_cmp below.messages (posts plan (stamped v t recs)) others) ∙ ap (λ l. join message_cmp l others) (bags_alike below plan v t recs)
    ∙ join-bag_of message_cmp below.messages (posts_by_edge plan v t recs) others

pub stamps_of_task : StampsOfTask
stamps_of_task plan v port t [] = refl
stamps_of_task plan v port t (r ∷ recs) = ap (λ l. stamp_of_message plan (record { vertex = v; port = port; time = t; rec = r }) ∷ l) (stamps_of_task plan v port t recs)

pub stamps_are_by_edge : Below → StampsByEdge
stamps_are_by_edge below plan v t recs test =
    let f = stamp_of_message plan in
    let a : many f test (bag_of message_cmp (posts plan (stamped v t recs))) ≡ many f test (bag_of message_cmp (posts_by_edge plan v t recs)) = ap (many f test) (bags_alike below plan v t recs) in
    let b = many_joined f test message_cmp (posts plan (stamped v t recs)) [] in
    let c = many_joined f test message_cmp (posts_by_edge plan v t recs) [] in
    let d : many f test (posts plan (stamped v t recs)) ≡ many f test (posts_by_edge plan v t recs) = omega (arith, a, b, c) in
    d ∙ ap (count_by test) (map_flat below f (on_edges plan v recs) (times_from plan v t)
    ∙ same_parts (λ later. map f (on_edges plan v recs later)) (λ later. flat_map (λ e. replicate (length recs) (stamp_on plan later e)) (edges_from plan v)) (λ later. at_one later)
    (times_from plan v t))
  where
    at_one : (later : Timestamp) → map (stamp_of_message plan) (on_edges plan v recs later) ≡ flat_map (λ e. replicate (length recs) (stamp_on plan later e)) (edges_from plan v)
    at_one later =
        map_flat below (stamp_of_message plan) (λ e. coming e.reader e.port later recs) (edges_from plan v)
        ∙ same_parts (λ e. map (stamp_of_message plan) (coming e.reader e.port later recs)) (λ e. replicate (length recs) (stamp_on plan later e))
        (λ e. stamps_of_task plan e.reader e.port later recs) (edges_from plan v)

-- A BATCH
eqb_swap : Below → (a b : ℕ) → (a == b) ≡ (b == a)
eqb_swap below a b = by (a == b) refl (b == a) refl
  where
    by : (c : Bool) → (a == b) ≡ c → (d : Bool) → (b == a) ≡ d → (a == b) ≡ (b == a)
    by true e d f = e ∙ sym (ap (λ n. b == n) (eqb-true a b e) ∙ eqb-same below b)
    by false e true f = ap (λ n. a == n) (eqb-true b a f) ∙ eqb-same below a ∙ sym f
    by false e false f = e ∙ sym f

passing_parts : {A B : Type 0} (p : A → Bool) (f : A → B) (xs : List A) → map f (filter p xs) ≡ flat_map (λ x. cond (p x) (f x ∷ []) []) xs
passing_parts p f [] = refl
passing_parts p f (x ∷ xs) = by (p x) refl (passing_parts p f xs)
  where
    by : (b : Bool) → p x ≡ b → map f (filter p xs) ≡ flat_map (λ x. cond (p x) (f x ∷ []) []) xs → map f (filter p (x ∷ xs)) ≡ flat_map (λ x. cond (p x) (f x ∷ []) []) (x ∷ xs)
    by true e rest = ap (map f) (filter_yes p x xs e) ∙ ap (λ l. f x ∷ l) rest ∙ (λ i. cond (sym e i) (f x ∷ []) [] ++ flat_map (λ x. cond (p x) (f x ∷ []) []) xs)
    by false e rest = ap (map f) (filter_no p x xs e) ∙ rest ∙ (λ i. cond (sym e i) (f x ∷ []) [] ++ flat_map (λ x. cond (p x) (f x ∷ []) []) xs)

module _ (below : Below) (plan : List Line) (epoch : ℕ) where
  abbrev then : Timestamp
  then = record { epoch = epoch; turns = [] }

  -- the message of an entry on an edge, where the edge is out of its input
  abbrev sent_on : Entry → Edge → List Message
  sent_on entry e = cond (e.source == entry.input) (on_edge then entry.rec e ∷ []) []

  one_entry : (entry : Entry) → kind_of plan entry.input ≡ Input → posted plan (entered epoch entry) ≡ flat_map (sent_on entry) (edges plan)
  one_entry entry k =
      ap (λ kind. flat_map (λ later. map (on_edge later entry.rec) (edges_from plan entry.input)) (sending_times kind (bound_of plan entry.input) then)) k
      ∙ append-nil (map (on_edge then entry.rec) (edges_from plan entry.input)) ∙ passing_parts (λ e. e.source == entry.input) (on_edge then entry.rec) (edges plan)

  each_entry : (batch : List Entry) → AllByRecursion (λ entry. kind_of plan entry.input ≡ Input) batch
      → posts plan (map (entered epoch) batch) ≡ flat_map (λ entry. flat_map (sent_on entry) (edges plan)) batch
  each_entry [] h = refl
  each_entry (entry ∷ batch) h = λ i. one_entry entry h.0 i ++ each_entry batch h.1 i

  on_one_edge : (e : Edge) (batch : List Entry) → flat_map (λ entry. sent_on entry e) batch ≡ coming e.reader e.port then (records_for e.source batch)
  on_one_edge e batch =
      same_parts (λ entry. sent_on entry e) (λ entry. cond (entry.input == e.source) (on_edge then entry.rec e ∷ []) [])
      (λ entry. ap (λ b. cond b (on_edge then entry.rec e ∷ []) []) (eqb_swap below e.source entry.input)) batch
      ∙ sym (passing_parts (λ entry. entry.input == e.source) (λ entry. on_edge then entry.rec e) batch) ∙ maps_twice (filter (λ entry. entry.input == e.source) batch)
    where
      maps_twice : (xs : List Entry) → map (λ entry. on_edge then entry.rec e) xs ≡ coming e.reader e.port then (map (λ entry. entry.rec) xs)
      maps_twice [] = refl
      maps_twice (x ∷ xs) = ap (λ l. on_edge then x.rec e ∷ l) (maps_twice xs)

  batch_alike : (batch : List Entry) → IsPlan plan → accepts plan batch ≡ true → bag_of message_cmp (posts plan (map (entered epoch) batch)) ≡ bag_of message_cmp (batch_by_edge plan epoch batch)
  batch_alike batch lawful a =
      let facts = plan_facts below plan lawful in
      let inputs : AllByRecursion (λ (entry : Entry). kind_of plan entry.input ≡ Input) batch =
      all_weaken (λ (entry : Entry). is_input_of plan entry.input ≡ true) (λ entry. kind_of plan entry.input ≡ Input) (λ entry h. facts.accepted entry.input h) batch (accepted batch a) in
      ap (bag_of message_cmp) (each_entry batch inputs) ∙ exchanged message_cmp below.messages sent_on batch (edges plan)
      ∙ ap (bag_of message_cmp) (same_parts (λ e. flat_map (λ entry. sent_on entry e) batch) (λ e. coming e.reader e.port then (records_for e.source batch)) (λ e. on_one_edge e batch) (edges plan))
    where
      accepted : (xs : List Entry) → accepts plan xs ≡ true → AllByRecursion (λ (entry : Entry). is_input_of plan entry.input ≡ true) xs
      accepted [] h = tt
      accepted (x ∷ xs) h = let b = and_true (is_input_of plan x.input) (accepts plan xs) h in (b.0, accepted xs b.1)

pub batches_are_by_edge : Below → BatchByEdge
batches_are_by_edge below plan epoch batch others lawful a =
    sym (join-bag_of message_cmp below.messages (posts plan (map (entered epoch) batch)) others) ∙ ap (λ l. join message_cmp l others) (batch_alike below plan epoch batch lawful a)
    ∙ join-bag_of message_cmp below.messages (batch_by_edge plan epoch batch) others

pub batch_stamps_are_by_edge : Below → BatchStampsByEdge
batch_stamps_are_by_edge below plan epoch batch lawful h test =
    let f = stamp_of_message plan in
    let a : many f test (bag_of message_cmp (posts plan (map (entered epoch) batch))) ≡ many f test (bag_of message_cmp (batch_by_edge plan epoch batch)) = ap (many f test)
    (batch_alike below plan epoch batch lawful h) in
    let b = many_joined f test message_cmp (posts plan (map (entered epoch) batch)) [] in
    let c = many_joined f test message_cmp (batch_by_edge plan epoch batch) [] in
    let d : many f test (posts plan (map (entered epoch) batch)) ≡ many f test (batch_by_edge plan epoch batch) = omega (arith, a, b, c) in
    d ∙ ap (count_by test) (map_flat below f (λ e. coming e.reader e.port (then below plan epoch) (records_for e.source batch)) (edges plan)
    ∙ same_parts (λ e. map f (coming e.reader e.port (then below plan epoch) (records_for e.source batch)))
    (λ e. replicate (length (records_for e.source batch)) (stamp_on plan (then below plan epoch) e))
    (λ e. stamps_of_task plan e.reader e.port (then below plan epoch) (records_for e.source batch)) (edges plan))

-- WHAT COMES OUT
none_out : (v port : ℕ) (t : Timestamp) (recs : List Rec) → flat_map (λ (c : Message). let l : List OutputAt = [] in l) (coming v port t recs) ≡ []
none_out v port t recs = nothing_comes (coming v port t recs)

pub outputs_at_once : OutputsAtOnce
outputs_at_once Input v port t recs = none_out v port t recs
outputs_at_once (Map code) v port t recs = none_out v port t recs
outputs_at_once Distinct v port t recs = none_out v port t recs
outputs_at_once (Group code) v port t recs = none_out v port t recs
outputs_at_once (Fold code) v port t recs = none_out v port t recs
outputs_at_once Enter v port t recs = none_out v port t recs
outputs_at_once Feedback v port t recs = none_out v port t recs
outputs_at_once Leave v port t recs = none_out v port t recs
outputs_at_once Output v port t recs =
    flat_of_map (comes_out Output) (λ r. record { vertex = v; port = port; time = t; rec = r }) recs ∙ sym (map_is_flat (λ r. record { epoch = t.epoch; output = record { vertex = v; rec = r } }) recs)

pub asks_once : AsksOnce
asks_once S s v port t recs some of_shard = some_asked S s v port t recs some of_shard

-- What vertices sent in a passed epoch solves the flat equations of the plan.
use Rattle.std.proofs.Common.{◌≡◌, ℕ, ◌+◌, ◌<◌, ◌≤◌, List, [], ◌∷◌, ◌++◌, map, flat_map, refl, ap, sym, ◌∙◌, subst, Bool, true, false, ◌&&◌, arith, suc, zero, ◌==◌, if◌then◌else◌}
use Rattle.std.specs.Prelude.{nat_lt, drop}
use Rattle.std.specs.List.{AllByRecursion, enumerate_from}
use Rattle.std.proofs.lemmas.Bool.{ltb-true, ltb-false, eqb-true}
use Rattle.std.proofs.lemmas.List.{append-nil}
use Rattle.std.proofs.lemmas.Cmp.{tied_itself}
use Rattle.std.specs.Ordering.{is_eq}
use Rattle.td_stamp.specs.declared.values.Rec.{Rec}
use Rattle.td_stamp.specs.Orders.{rec_cmp}
use Rattle.td_stamp.specs.Time.{Timestamp, time_cmp, enter, leave, again, outer_turns, innermost}
use Rattle.td_stamp.specs.Bag.{join, bag_of}
use Rattle.td_stamp.specs.Groups.{arrival_of}
use Rattle.td_machine.proofs.Orders.{time_total}
use Rattle.td_machine.proofs.Orders.{time_apart}
use Rattle.td_plan.specs.declared.vertex.Kind.{Kind}
use Rattle.td_plan.specs.declared.vertex.Kind.TheVariants.{Input, Map, Distinct, Group, Fold, Enter, Feedback, Leave, Output}
use Rattle.td_plan.specs.Lines.{Vertex, Line}
use Rattle.td_plan.specs.Blocks.{bounds, reading_loops_at}
use Rattle.td_plan.specs.Tree.{Nodes}
use Rattle.td_plan.specs.Tree.Nodes.{done, node, block}
use Rattle.td_calls.specs.Answers.{Answers}
use Rattle.td_calls.specs.Callbacks.{arrivals}
use Rattle.td_batch.specs.Meaning.{EpochInput, answer}
use Rattle.td_batch.specs.Flow.{Flow, read_at, answer_at, numbers_from, leave_at, AreBelow, Equation, Solves}
use Rattle.td_reach.specs.declared.stamp.Stamp.{Stamp}
use Rattle.td_machine.specs.declared.records.Stamped.{Stamped}
use Rattle.td_machine.specs.State.{HallState, same_time, is_there}
use Rattle.td_machine.specs.Active.{kind_of, bound_of, active}
use Rattle.td_machine.specs.Steps.{sending_times, again_below}
use Rattle.td_machine.proofs.History.{Origin, History, Running, IsTime, epoch_from, sent_at}
use Rattle.td_plan.specs.Laid.{read_bounds}
use Rattle.td_machine.proofs.Flows.{at_time, sent_to, flow_of, IsLaid, AreLaid, innermost_bound}
use Rattle.td_machine.proofs.Orders.{tied}
use Rattle.td_machine.proofs.Lists.{filter_yes, filter_no}
use Rattle.td_machine.proofs.Plain.{eqb-same}
use Rattle.td_machine.proofs.Exchanges.{exchanged}
use Rattle.td_machine.proofs.Passed.{answered_by_flow}
use Rattle.td_machine.proofs.Bags.{bag_of-IsBag, bag_of-append, join-bag_of}
use Rattle.td_machine.specs.Below.{Below}

module _ (below : Below) where
  -- the test of times, by what it tests
  same_is : (a b : Timestamp) → same_time a b ≡ true → a ≡ b
  same_is a b e = time_apart a b (tied (time_cmp a b) e)

  pub same_itself : (a b : Timestamp) → a ≡ b → same_time a b ≡ true
  same_itself a b e = ap (same_time a) (sym e) ∙ ap is_eq (tied_itself time_total a)

  pub never_same : (a b : Timestamp) → ((a ≡ b) → ⊥) → same_time a b ≡ false
  never_same a b n = by (same_time a b) refl
    where
      by : (c : Bool) → same_time a b ≡ c → same_time a b ≡ false
      by false e = e
      by true e = absurd (n (same_is a b e))

  same_iff : (a b c d : Timestamp) → (a ≡ b → c ≡ d) → (c ≡ d → a ≡ b) → same_time a b ≡ same_time c d
  same_iff a b c d f g = by (same_time a b) refl (same_time c d) refl
    where
      by : (p : Bool) → same_time a b ≡ p → (q : Bool) → same_time c d ≡ q → same_time a b ≡ same_time c d
      by true h q k = h ∙ sym (same_itself c d (f (same_is a b h)))
      by false h false k = h ∙ sym k
      by false h true k = let no : true ≡ false = sym (same_itself a b (g (same_is c d k))) ∙ h in cc

  one_where : Bool → Rec → List Rec
  one_where true r = r ∷ []
  one_where false r = []

  at_time-is : (t : Timestamp) (r : Rec) (later : Timestamp) → at_time t r later ≡ one_where (same_time later t) r
  unfolding one_where
  at_time-is t r later = by (same_time later t)
    where
      by : (b : Bool) → (let l : List Rec = if b then r ∷ [] else [] in l) ≡ one_where b r
      by true = refl
      by false = refl

  eqb_sym : (m n : ℕ) → (m == n) ≡ (n == m)
  eqb_sym m n = by (m == n) refl (n == m) refl
    where
      by : (b : Bool) → (m == n) ≡ b → (c : Bool) → (n == m) ≡ c → (m == n) ≡ (n == m)
      by true e c f = e ∙ sym (ap (λ k. n == k) (eqb-true m n e) ∙ eqb-same below n)
      by false e false f = e ∙ sym f
      by false e true f = let no : true ≡ false = sym (ap (λ k. m == k) (eqb-true n m f) ∙ eqb-same below m) ∙ e in cc

  -- WHAT A VERTEX SENT TO A TIME is what it sent in answer to one
  module _ (plan : List Line) (n : ℕ) (t : Timestamp) where
    abbrev sends : Stamped → List Rec
    sends x = flat_map (at_time t x.rec) (sending_times (kind_of plan n) (bound_of plan n) x.time)

    sent_by_it : (x : Stamped) → (b : Bool) → (n == x.vertex) ≡ b → sent_to plan n t x ≡ (let l : List Rec = if b then sends x else [] in l)
    sent_by_it x true e = ap (λ b. let l : List Rec = if b then flat_map (at_time t x.rec) (sending_times (kind_of plan x.vertex) (bound_of plan x.vertex) x.time) else [] in l) e ∙ ap (λ v. flat_map (at_time t x.rec) (sending_times (kind_of plan v) (bound_of plan v) x.time)) (sym (eqb-true n x.vertex e))
    sent_by_it x false e = ap (λ b. let l : List Rec = if b then flat_map (at_time t x.rec) (sending_times (kind_of plan x.vertex) (bound_of plan x.vertex) x.time) else [] in l) e

    back_to : (d : Timestamp) → ((x : Stamped) → sends x ≡ one_where (same_time x.time d) x.rec) → (xs : List Stamped) → flat_map (sent_to plan n t) xs ≡ sent_at xs n d
    unfolding one_where
    back_to d h [] = refl
    back_to d h (x ∷ xs) = by (n == x.vertex) refl (same_time x.time d) refl (back_to d h xs)
      where
        here : (b c : Bool) → (n == x.vertex) ≡ b → same_time x.time d ≡ c → is_there n d x.vertex x.time ≡ (b && c)
        here b c e f = λ i. (eqb_sym x.vertex n ∙ e) i && f i

        by : (b : Bool) → (n == x.vertex) ≡ b → (c : Bool) → same_time x.time d ≡ c → flat_map (sent_to plan n t) xs ≡ sent_at xs n d → flat_map (sent_to plan n t) (x ∷ xs) ≡ sent_at (x ∷ xs) n d
        by true e true f rest = (λ i. (sent_by_it x true e ∙ h x ∙ ap (λ b. one_where b x.rec) f) i ++ rest i) ∙ sym (ap (map (λ (x : Stamped). x.rec)) (filter_yes (λ (x : Stamped). is_there n d x.vertex x.time) x xs (here true true e f)))
        by true e false f rest = (λ i. (sent_by_it x true e ∙ h x ∙ ap (λ b. one_where b x.rec) f) i ++ rest i) ∙ sym (ap (map (λ (x : Stamped). x.rec)) (filter_no (λ (x : Stamped). is_there n d x.vertex x.time) x xs (here true false e f)))
        by false e c f rest = (λ i. sent_by_it x false e i ++ rest i) ∙ sym (ap (map (λ (x : Stamped). x.rec)) (filter_no (λ (x : Stamped). is_there n d x.vertex x.time) x xs (here false c e f)))

    never_sent : ((x : Stamped) → sends x ≡ []) → (xs : List Stamped) → flat_map (sent_to plan n t) xs ≡ []
    never_sent h [] = refl
    never_sent h (x ∷ xs) = λ i. none x (n == x.vertex) refl i ++ never_sent h xs i
      where
        none : (x : Stamped) (b : Bool) → (n == x.vertex) ≡ b → sent_to plan n t x ≡ []
        none x true e = sent_by_it x true e ∙ h x
        none x false e = sent_by_it x false e

  -- the times of the kinds
  one_time : (t : Timestamp) (r : Rec) (later d u : Timestamp) → same_time later t ≡ same_time u d → flat_map (at_time t r) (later ∷ []) ≡ one_where (same_time u d) r
  one_time t r later d u e = append-nil (at_time t r later) ∙ at_time-is t r later ∙ ap (λ b. one_where b r) e

  no_time : (t : Timestamp) (r : Rec) (later : Timestamp) → ((later ≡ t) → ⊥) → flat_map (at_time t r) (later ∷ []) ≡ []
  unfolding one_where
  no_time t r later n = append-nil (at_time t r later) ∙ at_time-is t r later ∙ ap (λ b. one_where b r) (never_same later t n)

  enter_iff : (u : Timestamp) (e : ℕ) (outer : List ℕ) → same_time (enter u) (record { epoch = e; turns = 0 ∷ outer }) ≡ same_time u (record { epoch = e; turns = outer })
  enter_iff u e outer = same_iff (enter u) (record { epoch = e; turns = 0 ∷ outer }) u (record { epoch = e; turns = outer }) (λ p. ap leave p) (λ p. ap enter p)

  again_iff : (bound ep : ℕ) (turns : List ℕ) (e k : ℕ) (outer : List ℕ) (r : Rec) → suc k < bound
      → flat_map (at_time (record { epoch = e; turns = suc k ∷ outer }) r) (again_below bound (record { epoch = ep; turns = turns }) turns) ≡ one_where (same_time (record { epoch = ep; turns = turns }) (record { epoch = e; turns = k ∷ outer })) r
  unfolding one_where
  again_iff bound ep [] e k outer r l = sym (ap (λ b. one_where b r) (never_same (record { epoch = ep; turns = [] }) (record { epoch = e; turns = k ∷ outer }) (λ p. let q : [] ≡ k ∷ outer = ap (λ (t : Timestamp). t.turns) p in cc)))
  again_iff bound ep (j ∷ o) e k outer r l = by (nat_lt (suc j) bound) refl
    where
      u : Timestamp
      u = record { epoch = ep; turns = j ∷ o }

      back : again (record { epoch = ep; turns = j ∷ o }) ≡ record { epoch = e; turns = suc k ∷ outer } → ◌≡◌ {A = Timestamp} (record { epoch = ep; turns = j ∷ o }) (record { epoch = e; turns = k ∷ outer })
      back p =
          let same : j ≡ k = let q : j + 1 ≡ suc k = ap (λ (t : Timestamp). innermost t.turns) p in omega (arith, q) in
          λ i. record { epoch = ap (λ (t : Timestamp). t.epoch) p i; turns = same i ∷ ap (λ (t : Timestamp). outer_turns t.turns) p i }

      forth : ◌≡◌ {A = Timestamp} (record { epoch = ep; turns = j ∷ o }) (record { epoch = e; turns = k ∷ outer }) → again (record { epoch = ep; turns = j ∷ o }) ≡ record { epoch = e; turns = suc k ∷ outer }
      forth p =
          let same : j + 1 ≡ suc k = let q : j ≡ k = ap (λ (t : Timestamp). innermost t.turns) p in omega (arith, q) in
          λ i. record { epoch = ap (λ (t : Timestamp). t.epoch) p i; turns = same i ∷ ap (λ (t : Timestamp). outer_turns t.turns) p i }

      by : (b : Bool) → nat_lt (suc j) bound ≡ b → flat_map (at_time (record { epoch = e; turns = suc k ∷ outer }) r) (again_below bound (record { epoch = ep; turns = j ∷ o }) (j ∷ o)) ≡ one_where (same_time (record { epoch = ep; turns = j ∷ o }) (record { epoch = e; turns = k ∷ outer })) r
      by true f =
          ap (λ b. flat_map (at_time (record { epoch = e; turns = suc k ∷ outer }) r) (if b then again (record { epoch = ep; turns = j ∷ o }) ∷ [] else [])) f
          ∙ one_time (record { epoch = e; turns = suc k ∷ outer }) r (again (record { epoch = ep; turns = j ∷ o })) (record { epoch = e; turns = k ∷ outer }) (record { epoch = ep; turns = j ∷ o })
          (same_iff (again (record { epoch = ep; turns = j ∷ o })) (record { epoch = e; turns = suc k ∷ outer }) (record { epoch = ep; turns = j ∷ o }) (record { epoch = e; turns = k ∷ outer }) back forth)
      by false f =
          ap (λ b. flat_map (at_time (record { epoch = e; turns = suc k ∷ outer }) r) (if b then again (record { epoch = ep; turns = j ∷ o }) ∷ [] else [])) f
          ∙ sym (ap (λ b. one_where b r) (never_same (record { epoch = ep; turns = j ∷ o }) (record { epoch = e; turns = k ∷ outer }) (λ p. let q : j ≡ k = ap (λ (t : Timestamp). innermost t.turns) p in omega (arith, ltb-false (suc j) bound f, q, l))))

  again_never : (bound ep : ℕ) (turns : List ℕ) (t : Timestamp) (r : Rec) → ((j : ℕ) (o : List ℕ) → t.turns ≡ (j + 1) ∷ o → ⊥) → flat_map (at_time t r) (again_below bound (record { epoch = ep; turns = turns }) turns) ≡ []
  again_never bound ep [] t r n = refl
  again_never bound ep (j ∷ o) t r n = by (nat_lt (suc j) bound)
    where
      by : (b : Bool) → flat_map (at_time t r) (if b then again (record { epoch = ep; turns = j ∷ o }) ∷ [] else []) ≡ []
      by true = no_time t r (again (record { epoch = ep; turns = j ∷ o })) (λ p. n j o (sym (ap (λ (t : Timestamp). t.turns) p)))
      by false = refl

  empty_from : (k : ℕ) (sources : List ℕ) → flat_map (λ (b : ℕ × List Rec). map (arrival_of b.0) b.1) (enumerate_from k (map (λ (s : ℕ). let l : List Rec = [] in l) sources)) ≡ []
  empty_from k [] = refl
  empty_from k (s ∷ sources) = empty_from (k + 1) sources

  module _ (answers : Answers) (origin : Origin) (S : HallState) (H : History) (runs : Running answers origin S H) (e : ℕ) (low : origin.first ≤ e) (high : e < S.next) (passed : AllByRecursion (λ (p : Stamp). e < p.time.epoch) (active S)) where
    abbrev epoch : EpochInput
    epoch = epoch_from answers origin H.left e

    abbrev flow : Flow
    flow = flow_of S.plan H.sent e

    module _ (own : List ℕ) (v : Vertex) (laid : IsLaid S.plan own v) where
      abbrev n : ℕ
      n = v.number

      in_turn : (counters : List ℕ) → AreBelow counters (read_bounds v.kind own) → IsTime origin S.next S.plan n (record { epoch = e; turns = counters })
      in_turn counters b = (low, high, subst (AreBelow counters) (sym laid.reads) b)

      said : (kind : Kind) → v.kind ≡ kind → (counters : List ℕ) → AreBelow counters (read_bounds kind own) → bag_of rec_cmp (sent_at H.sent n (record { epoch = e; turns = counters })) ≡ answer epoch n kind (arrivals (map (λ s. flow s counters) v.sources))
      said kind k counters b = answered_by_flow below answers origin S H runs e passed n v.sources laid.into kind (laid.kind ∙ k) counters (in_turn counters (subst (λ x. AreBelow counters (read_bounds x own)) (sym k) b))

      -- as the equation has it
      told_by : (kind : Kind) → v.kind ≡ kind → (counters : List ℕ) → answer epoch n kind (arrivals (map (read_at flow kind counters) v.sources)) ≡ answer_at epoch flow v counters
      told_by kind k counters = λ i. answer epoch n (sym k i) (arrivals (map (read_at flow (sym k i) counters) v.sources))

      kind_is : (kind : Kind) → v.kind ≡ kind → kind_of S.plan n ≡ kind
      kind_is kind k = laid.kind ∙ k

      -- of a kind that sends at the time that it answers
      pub plain : (kind : Kind) → v.kind ≡ kind → ((u : Timestamp) → sending_times kind (bound_of S.plan n) u ≡ u ∷ []) → (counters : List ℕ)
          → flow n counters ≡ bag_of rec_cmp (sent_at H.sent n (record { epoch = e; turns = counters }))
      plain kind k h counters =
          let t : Timestamp = record { epoch = e; turns = counters } in
          ap (bag_of rec_cmp) (back_to S.plan n t t (λ x. ap (λ kd. flat_map (at_time t x.rec) (sending_times kd (bound_of S.plan n) x.time)) (kind_is kind k) ∙ ap (flat_map (at_time t x.rec)) (h x.time) ∙ one_time t x.rec x.time t x.time refl) H.sent)

      entered : v.kind ≡ Enter → (counters : List ℕ) → AreBelow counters own → flow n counters ≡ answer_at epoch flow v counters
      entered k [] b =
          let t : Timestamp = record { epoch = e; turns = [] } in
          ap (bag_of rec_cmp) (never_sent S.plan n t (λ x. ap (λ kd. flat_map (at_time t x.rec) (sending_times kd (bound_of S.plan n) x.time)) (kind_is Enter k) ∙ no_time t x.rec (enter x.time) (λ p. let q : 0 ∷ x.time.turns ≡ [] = ap (λ (t : Timestamp). t.turns) p in cc)) H.sent)
          ∙ sym (ap (answer epoch n Enter) (empty_from 0 v.sources)) ∙ told_by Enter k []
      entered k (zero ∷ outer) b =
          let t : Timestamp = record { epoch = e; turns = 0 ∷ outer } in
          let d : Timestamp = record { epoch = e; turns = outer } in
          ap (bag_of rec_cmp) (back_to S.plan n t d (λ x. ap (λ kd. flat_map (at_time t x.rec) (sending_times kd (bound_of S.plan n) x.time)) (kind_is Enter k) ∙ one_time t x.rec (enter x.time) d x.time (enter_iff x.time e outer)) H.sent)
          ∙ said Enter k outer (inner own b) ∙ told_by Enter k (0 ∷ outer)
        where
          inner : (own : List ℕ) → AreBelow (0 ∷ outer) own → AreBelow outer (drop 1 own)
          inner [] b = absurd b
          inner (bound ∷ own) b = b.1
      entered k (suc j ∷ outer) b =
          let t : Timestamp = record { epoch = e; turns = suc j ∷ outer } in
          ap (bag_of rec_cmp) (never_sent S.plan n t (λ x. ap (λ kd. flat_map (at_time t x.rec) (sending_times kd (bound_of S.plan n) x.time)) (kind_is Enter k) ∙ no_time t x.rec (enter x.time) (λ p. let q : 0 ≡ suc j = ap (λ (t : Timestamp). innermost t.turns) p in cc)) H.sent)
          ∙ sym (ap (answer epoch n Enter) (empty_from 0 v.sources)) ∙ told_by Enter k (suc j ∷ outer)

      returned : v.kind ≡ Feedback → (counters : List ℕ) → AreBelow counters own → flow n counters ≡ answer_at epoch flow v counters
      returned k [] b =
          let t : Timestamp = record { epoch = e; turns = [] } in
          ap (bag_of rec_cmp) (never_sent S.plan n t (λ x. ap (λ kd. flat_map (at_time t x.rec) (sending_times kd (bound_of S.plan n) x.time)) (kind_is Feedback k) ∙ again_never (bound_of S.plan n) x.time.epoch x.time.turns t x.rec (λ j o p. cc)) H.sent)
          ∙ sym (ap (answer epoch n Feedback) (empty_from 0 v.sources)) ∙ told_by Feedback k []
      returned k (zero ∷ outer) b =
          let t : Timestamp = record { epoch = e; turns = 0 ∷ outer } in
          ap (bag_of rec_cmp) (never_sent S.plan n t (λ x. ap (λ kd. flat_map (at_time t x.rec) (sending_times kd (bound_of S.plan n) x.time)) (kind_is Feedback k)
          ∙ again_never (bound_of S.plan n) x.time.epoch x.time.turns t x.rec (λ j o p. let q : 0 ≡ j + 1 = ap innermost p in omega (arith, q))) H.sent)
          ∙ sym (ap (answer epoch n Feedback) (empty_from 0 v.sources)) ∙ told_by Feedback k (0 ∷ outer)
      returned k (suc j ∷ outer) b =
          let t : Timestamp = record { epoch = e; turns = suc j ∷ outer } in
          let d : Timestamp = record { epoch = e; turns = j ∷ outer } in
          let in_turns = inner own b in
          ap (bag_of rec_cmp) (back_to S.plan n t d (λ x. ap (λ kd. flat_map (at_time t x.rec) (sending_times kd (bound_of S.plan n) x.time)) (kind_is Feedback k)
          ∙ again_iff (bound_of S.plan n) x.time.epoch x.time.turns e j outer x.rec (subst (λ m. suc j < m) (sym laid.bound) in_turns.0)) H.sent)
          ∙ said Feedback k (j ∷ outer) in_turns.1 ∙ told_by Feedback k (suc j ∷ outer)
        where
          inner : (own : List ℕ) → AreBelow (suc j ∷ outer) own → (suc j < innermost_bound own) × AreBelow (j ∷ outer) own
          inner [] b = absurd b
          inner (bound ∷ own) b = (b.0, (omega (arith, b.0), b.1))

  -- what is of a vertex and a time
  mine_at : ℕ → Timestamp → Stamped → List Rec
  mine_at n d x = if n == x.vertex then one_where (same_time x.time d) x.rec else []

  picked : (n : ℕ) (d : Timestamp) (xs : List Stamped) → flat_map (mine_at n d) xs ≡ sent_at xs n d
  unfolding mine_at one_where
  picked n d [] = refl
  picked n d (x ∷ xs) = by (n == x.vertex) refl (same_time x.time d) refl (picked n d xs)
    where
      here : (b c : Bool) → (n == x.vertex) ≡ b → same_time x.time d ≡ c → is_there n d x.vertex x.time ≡ (b && c)
      here b c e f = λ i. (eqb_sym x.vertex n ∙ e) i && f i

      own : (b c : Bool) → (n == x.vertex) ≡ b → same_time x.time d ≡ c → mine_at n d x ≡ (let l : List Rec = if b then one_where c x.rec else [] in l)
      own b c e f = λ i. let l : List Rec = if e i then one_where (f i) x.rec else [] in l

      by : (b : Bool) → (n == x.vertex) ≡ b → (c : Bool) → same_time x.time d ≡ c → flat_map (mine_at n d) xs ≡ sent_at xs n d → flat_map (mine_at n d) (x ∷ xs) ≡ sent_at (x ∷ xs) n d
      by true e true f rest = (λ i. own true true e f i ++ rest i) ∙ sym (ap (map (λ (x : Stamped). x.rec)) (filter_yes (λ (x : Stamped). is_there n d x.vertex x.time) x xs (here true true e f)))
      by true e false f rest = (λ i. own true false e f i ++ rest i) ∙ sym (ap (map (λ (x : Stamped). x.rec)) (filter_no (λ (x : Stamped). is_there n d x.vertex x.time) x xs (here true false e f)))
      by false e c f rest = (λ i. own false c e f i ++ rest i) ∙ sym (ap (map (λ (x : Stamped). x.rec)) (filter_no (λ (x : Stamped). is_there n d x.vertex x.time) x xs (here false c e f)))

  -- one of the turns, or none
  none_after : (r : Rec) (j i m : ℕ) → j < i → flat_map (λ k. one_where (k == j) r) (numbers_from i m) ≡ []
  unfolding one_where
  none_after r j i zero l = refl
  none_after r j i (suc m) l = (λ x. one_where (apart i j (λ e. omega (arith, e, l)) x) r ++ none_after r j (suc i) m (omega (arith, l)) x)
    where
      apart : (a b : ℕ) → ((a ≡ b) → ⊥) → (a == b) ≡ false
      apart a b n = by (a == b) refl
        where
          by : (c : Bool) → (a == b) ≡ c → (a == b) ≡ false
          by false e = e
          by true e = absurd (n (eqb-true a b e))

  pick_one : (r : Rec) (j i m : ℕ) → i ≤ j → j < i + m → flat_map (λ k. one_where (k == j) r) (numbers_from i m) ≡ r ∷ []
  unfolding one_where
  pick_one r j i zero l h = absurd (omega (arith, l, h))
  pick_one r j i (suc m) l h = by (i == j) refl (pick_one r j (suc i) m)
    where
      by : (b : Bool) → (i == j) ≡ b → (suc i ≤ j → j < suc i + m → flat_map (λ k. one_where (k == j) r) (numbers_from (suc i) m) ≡ r ∷ []) → flat_map (λ k. one_where (k == j) r) (numbers_from i (suc m)) ≡ r ∷ []
      by true e rest = (λ x. one_where (e x) r ++ none_after r j (suc i) m (let s = eqb-true i j e in omega (arith, s)) x)
      by false e rest = (λ x. one_where (e x) r ++ flat_map (λ k. one_where (k == j) r) (numbers_from (suc i) m)) ∙ rest (further (nat_lt i j) refl) (omega (arith, h))
        where
          further : (c : Bool) → nat_lt i j ≡ c → suc i ≤ j
          further true f = let q = ltb-true i j f in omega (arith, q)
          further false f = let same : i ≡ j = omega (arith, l, ltb-false i j f) in let no : false ≡ true = sym e ∙ ap (λ k. i == k) (sym same) ∙ eqb-same below i in cc

  no_turn : (f : ℕ → List Rec) → ((k : ℕ) → f k ≡ []) → (ks : List ℕ) → flat_map f ks ≡ []
  no_turn f h [] = refl
  no_turn f h (k ∷ ks) = λ i. h k i ++ no_turn f h ks i

  turns_alike : (f g : ℕ → List Rec) → ((k : ℕ) → f k ≡ g k) → (ks : List ℕ) → flat_map f ks ≡ flat_map g ks
  turns_alike f g h [] = refl
  turns_alike f g h (k ∷ ks) = λ i. h k i ++ turns_alike f g h ks i

  -- a record that leaves a loop was answered in one of its turns
  leave_times : (e : ℕ) (counters bounds : List ℕ) (bound ep : ℕ) (turns : List ℕ) (r : Rec) → AreBelow turns (bound ∷ bounds)
      → flat_map (at_time (record { epoch = e; turns = counters }) r) (leave (record { epoch = ep; turns = turns }) ∷ []) ≡ flat_map (λ k. one_where (same_time (record { epoch = ep; turns = turns }) (record { epoch = e; turns = k ∷ counters })) r) (numbers_from 0 bound)
  unfolding one_where
  leave_times e counters bounds bound ep [] r b = absurd b
  leave_times e counters bounds bound ep (j ∷ o) r b = by (same_time (record { epoch = ep; turns = o }) (record { epoch = e; turns = counters })) refl
    where
      goal : Type 0
      goal = flat_map (at_time (record { epoch = e; turns = counters }) r) (leave (record { epoch = ep; turns = j ∷ o }) ∷ []) ≡ flat_map (λ k. one_where (same_time (record { epoch = ep; turns = j ∷ o }) (record { epoch = e; turns = k ∷ counters })) r) (numbers_from 0 bound)

      outer_of : (k : ℕ) → ◌≡◌ {A = Timestamp} (record { epoch = ep; turns = j ∷ o }) (record { epoch = e; turns = k ∷ counters }) → ◌≡◌ {A = Timestamp} (record { epoch = ep; turns = o }) (record { epoch = e; turns = counters })
      outer_of k p = ap leave p

      by : (c : Bool) → same_time (record { epoch = ep; turns = o }) (record { epoch = e; turns = counters }) ≡ c
          → flat_map (at_time (record { epoch = e; turns = counters }) r) (leave (record { epoch = ep; turns = j ∷ o }) ∷ []) ≡ flat_map (λ k. one_where (same_time (record { epoch = ep; turns = j ∷ o }) (record { epoch = e; turns = k ∷ counters })) r) (numbers_from 0 bound)
      by false f =
          append-nil (at_time (record { epoch = e; turns = counters }) r (record { epoch = ep; turns = o })) ∙ at_time-is (record { epoch = e; turns = counters }) r (record { epoch = ep; turns = o }) ∙ ap (λ b. one_where b r) f
          ∙ sym (no_turn (λ k. one_where (same_time (record { epoch = ep; turns = j ∷ o }) (record { epoch = e; turns = k ∷ counters })) r) (λ k. ap (λ b. one_where b r) (never_same (record { epoch = ep; turns = j ∷ o }) (record { epoch = e; turns = k ∷ counters })
          (λ p. let no : true ≡ false = sym (same_itself (record { epoch = ep; turns = o }) (record { epoch = e; turns = counters }) (outer_of k p)) ∙ f in cc))) (numbers_from 0 bound))
      by true f =
          let s = same_is (record { epoch = ep; turns = o }) (record { epoch = e; turns = counters }) f in
          append-nil (at_time (record { epoch = e; turns = counters }) r (record { epoch = ep; turns = o })) ∙ at_time-is (record { epoch = e; turns = counters }) r (record { epoch = ep; turns = o }) ∙ ap (λ b. one_where b r) f
          ∙ sym (pick_one r j 0 bound (omega arith) (omega (arith, b.0)))
          ∙ sym (turns_alike (λ k. one_where (same_time (record { epoch = ep; turns = j ∷ o }) (record { epoch = e; turns = k ∷ counters })) r) (λ k. one_where (k == j) r) (λ k. ap (λ b. one_where b r) (turn_is s k)) (numbers_from 0 bound))
        where
          turn_is : ◌≡◌ {A = Timestamp} (record { epoch = ep; turns = o }) (record { epoch = e; turns = counters }) → (k : ℕ) → same_time (record { epoch = ep; turns = j ∷ o }) (record { epoch = e; turns = k ∷ counters }) ≡ (k == j)
          turn_is s k = by_turn (k == j) refl
            where
              by_turn : (c : Bool) → (k == j) ≡ c → same_time (record { epoch = ep; turns = j ∷ o }) (record { epoch = e; turns = k ∷ counters }) ≡ (k == j)
              by_turn true g = same_itself (record { epoch = ep; turns = j ∷ o }) (record { epoch = e; turns = k ∷ counters }) (λ i. record { epoch = (s i).epoch; turns = sym (eqb-true k j g) i ∷ (s i).turns }) ∙ sym g
              by_turn false g = never_same (record { epoch = ep; turns = j ∷ o }) (record { epoch = e; turns = k ∷ counters }) (λ p. let q : j ≡ k = ap (λ (t : Timestamp). innermost t.turns) p in let no : true ≡ false = sym (eqb-same below k) ∙ ap (λ m. k == m) (sym q) ∙ g in cc) ∙ sym g

  -- parts of turns that give the same bags
  turns_bag : (f g : ℕ → List Rec) (i m : ℕ) → ((k : ℕ) → i ≤ k → k < i + m → bag_of rec_cmp (f k) ≡ bag_of rec_cmp (g k)) → bag_of rec_cmp (flat_map f (numbers_from i m)) ≡ bag_of rec_cmp (flat_map g (numbers_from i m))
  turns_bag f g i zero h = refl
  turns_bag f g i (suc m) h =
      bag_of-append rec_cmp below.recs (f i) (flat_map f (numbers_from (suc i) m)) ∙ sym (join-bag_of rec_cmp below.recs (f i) (bag_of rec_cmp (flat_map f (numbers_from (suc i) m))))
      ∙ (λ x. join rec_cmp (h i (omega arith) (omega arith) x) (turns_bag f g (suc i) m (λ k l r. h k (omega (arith, l)) (omega (arith, r))) x))
      ∙ join-bag_of rec_cmp below.recs (g i) (bag_of rec_cmp (flat_map g (numbers_from (suc i) m))) ∙ sym (bag_of-append rec_cmp below.recs (g i) (flat_map g (numbers_from (suc i) m)))

  module _ (answers : Answers) (origin : Origin) (S : HallState) (H : History) (runs : Running answers origin S H) (e : ℕ) (low : origin.first ≤ e) (high : e < S.next) (passed : AllByRecursion (λ (p : Stamp). e < p.time.epoch) (active S)) where
    abbrev epoch_now : EpochInput
    epoch_now = epoch_from answers origin H.left e

    abbrev flow_now : Flow
    flow_now = flow_of S.plan H.sent e

    left_loop : (bound : ℕ) (outer : List ℕ) (v : Vertex) → IsLaid S.plan (bound ∷ outer) v → v.kind ≡ Leave → (counters : List ℕ) → AreBelow counters outer → flow_now v.number counters ≡ leave_at epoch_now flow_now v bound counters
    unfolding mine_at
    left_loop bound outer v laid k counters b =
        let t : Timestamp = record { epoch = e; turns = counters } in
        let in_turn : ℕ → Timestamp = λ j. record { epoch = e; turns = j ∷ counters } in
        ap (bag_of rec_cmp) (each H.sent runs.answered.sent_times)
        ∙ exchanged rec_cmp below.recs (λ x j. mine_at v.number (record { epoch = e; turns = j ∷ counters }) x) H.sent (numbers_from 0 bound)
        ∙ ap (bag_of rec_cmp) (turns_alike (λ j. flat_map (mine_at v.number (in_turn j)) H.sent) (λ j. sent_at H.sent v.number (in_turn j)) (λ j. picked v.number (in_turn j) H.sent) (numbers_from 0 bound))
        ∙ turns_bag (λ j. sent_at H.sent v.number (in_turn j)) (λ j. answer_at epoch_now flow_now v (j ∷ counters)) 0 bound (λ j l h. sym (bag_of-IsBag rec_cmp below.recs (sent_at H.sent v.number (in_turn j))) ∙ ap (bag_of rec_cmp) (turn j (omega (arith, h))))
      where
        turn : (j : ℕ) → j < bound → bag_of rec_cmp (sent_at H.sent v.number (record { epoch = e; turns = j ∷ counters })) ≡ answer_at epoch_now flow_now v (j ∷ counters)
        turn j h = said answers origin S H runs e low high passed (bound ∷ outer) v laid Leave k (j ∷ counters) (h, b) ∙ told_by answers origin S H runs e low high passed (bound ∷ outer) v laid Leave k (j ∷ counters)

        one : (x : Stamped) → IsTime origin S.next S.plan x.vertex x.time → (c : Bool) → (v.number == x.vertex) ≡ c
            → sent_to S.plan v.number (record { epoch = e; turns = counters }) x ≡ flat_map (λ j. mine_at v.number (record { epoch = e; turns = j ∷ counters }) x) (numbers_from 0 bound)
        one x h false f = sent_by_it S.plan v.number (record { epoch = e; turns = counters }) x false f ∙ sym (no_turn (λ j. mine_at v.number (record { epoch = e; turns = j ∷ counters }) x) (λ j. ap (λ b. let l : List Rec = if b then one_where (same_time x.time (record { epoch = e; turns = j ∷ counters })) x.rec else [] in l) f) (numbers_from 0 bound))
        one x h true f =
            let in_turns : AreBelow x.time.turns (bound ∷ outer) = subst (AreBelow x.time.turns) (ap (λ n. bounds (reading_loops_at S.plan n)) (sym (eqb-true v.number x.vertex f)) ∙ laid.reads ∙ ap (λ kd. read_bounds kd (bound ∷ outer)) k) h.2 in
            sent_by_it S.plan v.number (record { epoch = e; turns = counters }) x true f
            ∙ ap (λ kd. flat_map (at_time (record { epoch = e; turns = counters }) x.rec) (sending_times kd (bound_of S.plan v.number) x.time)) (laid.kind ∙ k)
            ∙ leave_times e counters outer bound x.time.epoch x.time.turns x.rec in_turns
            ∙ sym (turns_alike (λ j. mine_at v.number (record { epoch = e; turns = j ∷ counters }) x) (λ j. one_where (same_time x.time (record { epoch = e; turns = j ∷ counters })) x.rec)
            (λ j. ap (λ b. let l : List Rec = if b then one_where (same_time x.time (record { epoch = e; turns = j ∷ counters })) x.rec else [] in l) f) (numbers_from 0 bound))

        each : (xs : List Stamped) → AllByRecursion (λ (x : Stamped). IsTime origin S.next S.plan x.vertex x.time) xs
            → flat_map (sent_to S.plan v.number (record { epoch = e; turns = counters })) xs ≡ flat_map (λ x. flat_map (λ j. mine_at v.number (record { epoch = e; turns = j ∷ counters }) x) (numbers_from 0 bound)) xs
        each [] h = refl
        each (x ∷ xs) h = λ i. one x h.0 (v.number == x.vertex) refl i ++ each xs h.1 i

    equation : (own : List ℕ) (v : Vertex) → IsLaid S.plan own v → (kind : Kind) → v.kind ≡ kind → Equation epoch_now flow_now own v kind
    equation [] v laid Leave k = tt
    equation (bound ∷ outer) v laid Leave k = left_loop bound outer v laid k
    equation own v laid Enter k = entered answers origin S H runs e low high passed own v laid k
    equation own v laid Feedback k = returned answers origin S H runs e low high passed own v laid k
    equation own v laid Input k = λ c b. plain answers origin S H runs e low high passed own v laid Input k (λ u. refl) c ∙ said answers origin S H runs e low high passed own v laid Input k c b ∙ told_by answers origin S H runs e low high passed own v laid Input k c
    equation own v laid (Map code) k = λ c b. plain answers origin S H runs e low high passed own v laid (Map code) k (λ u. refl) c ∙ said answers origin S H runs e low high passed own v laid (Map code) k c b ∙ told_by answers origin S H runs e low high passed own v laid (Map code) k c
    equation own v laid Distinct k = λ c b. plain answers origin S H runs e low high passed own v laid Distinct k (λ u. refl) c ∙ said answers origin S H runs e low high passed own v laid Distinct k c b ∙ told_by answers origin S H runs e low high passed own v laid Distinct k c
    equation own v laid (Group code) k = λ c b. plain answers origin S H runs e low high passed own v laid (Group code) k (λ u. refl) c ∙ said answers origin S H runs e low high passed own v laid (Group code) k c b ∙ told_by answers origin S H runs e low high passed own v laid (Group code) k c
    equation own v laid (Fold code) k = λ c b. plain answers origin S H runs e low high passed own v laid (Fold code) k (λ u. refl) c ∙ said answers origin S H runs e low high passed own v laid (Fold code) k c b ∙ told_by answers origin S H runs e low high passed own v laid (Fold code) k c
    equation own v laid Output k = λ c b. plain answers origin S H runs e low high passed own v laid Output k (λ u. refl) c ∙ said answers origin S H runs e low high passed own v laid Output k c b ∙ told_by answers origin S H runs e low high passed own v laid Output k c

    -- THE FLAT EQUATIONS hold of what was sent in a passed epoch
    pub passed_solves : (nodes : Nodes) (own : List ℕ) → AreLaid S.plan own nodes → Solves (epoch_from answers origin H.left e) (flow_of S.plan H.sent e) own nodes
    passed_solves done own h = tt
    passed_solves (node v rest) own h = (equation own v h.0 v.kind refl, passed_solves rest own h.1)
    passed_solves (block bound body rest) own h = (passed_solves body (bound ∷ own) h.0, passed_solves rest own h.1)

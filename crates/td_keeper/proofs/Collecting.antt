-- What a keeper collects of a hall of its own is the batch meaning's, and what it keeps right then.
use Rattle.std.proofs.Common.{◌≡◌, ℕ, zero, suc, ◌^◌, ◌+◌, ◌-◌, ◌≤◌, ◌<◌, nat_lt, subst, Bool, true, false, ◌&&◌, List, [], ◌∷◌, ◌++◌, map, take, drop, length, get_or, refl, sym, ap, ◌∙◌, true≢false, arith}
use Rattle.std.specs.Prelude.{Option, Some, None, max, min}
use Rattle.std.proofs.Math.Nat.{le-max_left, max-eq_left, max-eq_right, min-le_right}
use Rattle.std.proofs.lemmas.Bool.{ltb-true, ltb-false}
use Rattle.std.proofs.lemmas.List.{length-map, length-drop, length-append}
use Rattle.td_stamp.specs.declared.values.Entry.{Entry}
use Rattle.td_stamp.specs.declared.epoch_out.EpochOut.{EpochOut}
use Rattle.td_stamp.specs.States.{StateList}
use Rattle.td_plan.specs.Tree.{Nodes, tree_of}
use Rattle.td_calls.specs.Answers.{Answers}
use Rattle.td_batch.specs.Meaning.{run, states_after, numbered}
use Rattle.td_batch.specs.Flow.{numbers_from}
use Rattle.td_reach.specs.declared.stamp.Stamp.{Stamp}
use Rattle.td_reach.specs.Frontier as frontier
use Rattle.td_machine.specs.State.{HallState}
use Rattle.td_machine.specs.Active.{has_passed, active, unpassed}
use Rattle.td_machine.specs.State.{states_at}
use Rattle.td_machine.specs.Steps.{Answer, collect_step, to_collect, outputs_at, cut_at_by, cut_to}
use Rattle.td_machine.specs.Steps.Answer.{has_collected, has_cut}
use Rattle.td_machine.specs.Sound.{Sound, run_states, outs_by}
use Rattle.td_store.specs.standing.Standing.{batches_of, last_epoch}
use Rattle.td_keeper.specs.Keeping.{Keeping, IsKeeping, words_at}
use Rattle.td_keeper.specs.Halls.{IsOwn, IsDone, meant_outs, with_collected, collected_hall, last_passed, before_unpassed, cut_place}
use Rattle.td_keeper.proofs.Kept.{now_published}
use Rattle.td_keeper.proofs.Rows.{Falls, IsLast, row, passes, at_most, at_least, last_is}
use Rattle.td_keeper.proofs.Runs.{out_at, in_a_row, length_outs, outs_at, states_on}

-- the law that runs join
abbrev pub StatesJoin : Answers → Type 0
StatesJoin answers = (nodes : Nodes) (states : StateList) (x y : List (List Entry)) → (run answers nodes states (x ++ y)).states ≡ (run answers nodes (run answers nodes states x).states y).states

abbrev pub OutsJoin : Answers → Type 0
OutsJoin answers = (nodes : Nodes) (states : StateList) (x y : List (List Entry)) → (run answers nodes states (x ++ y)).outs ≡ (run answers nodes states x).outs ++ (run answers nodes (run answers nodes states x).states y).outs

-- an epoch before one that has passed has passed
lt_of : (a b : ℕ) → a < b → nat_lt a b ≡ true
lt_of a b h = grind arith

of_lt : (a b : ℕ) → nat_lt a b ≡ true → a < b
of_lt a b h = grind arith

both : (a b : Bool) → (a && b) ≡ true → (a ≡ true) × (b ≡ true)
both true b e = (refl, e)
both false b e = absurd (true≢false (sym e))

and_of : (a b : Bool) → a ≡ true → b ≡ true → (a && b) ≡ true
and_of a b e f = ap (λ x. x && b) e ∙ f

earlier : (stamps : List Stamp) → Falls (frontier.has_passed stamps)
earlier [] d e l h = refl
earlier (p ∷ stamps) d e l h =
    let two = both (nat_lt e p.time.epoch) (frontier.has_passed stamps e) h in
    let later = of_lt e p.time.epoch two.0 in
    and_of (nat_lt d p.time.epoch) (frontier.has_passed stamps d) (lt_of d p.time.epoch (omega (arith, l, later))) (earlier stamps d e l two.1)

-- the greater of two is at most what both are
max_at_most : (a b c : ℕ) → a ≤ c → b ≤ c → max a b ≤ c
max_at_most a b c first second = by (nat_lt a b) refl
  where
    by : (t : Bool) → nat_lt a b ≡ t → max a b ≤ c
    by true is = let less : a < b = ltb-true a b is in subst (λ (n : ℕ). n ≤ c) (sym (max-eq_right (omega (arith, less)))) second
    by false is = let least : b ≤ a = ltb-false a b is in subst (λ (n : ℕ). n ≤ c) (sym (max-eq_left least)) first

-- a hall is never cut before its base
pub never_before : (answers : Answers) (S : HallState) → Sound answers S → (most : Option ℕ) → S.base ≤ cut_place most S
never_before answers S sound None = (last_is (has_passed S) S.base S.next (omega (arith, sound.released)) (unpassed S) refl).after
never_before answers S sound (Some most) = le-max_left S.base (min most (last_passed S))

module _ {D : Type 0} (answers : Answers) (states_join : StatesJoin answers) (outs_join : OutsJoin answers)
    (k : Keeping D) (keeping : IsKeeping k answers) (S : HallState) (own : IsOwn k S) (sound : Sound answers S) where
  many : length (batches_of k.standing.submitted) ≡ length k.standing.submitted
  many = length-map k.standing.submitted (λ s. s.batch)

  within : k.base - k.standing.epoch ≤ length (batches_of k.standing.submitted)
  within = let all = many in omega (arith, all, keeping.released, keeping.from_checkpoint)

  based : S.base_states ≡ states_after answers (tree_of k.plan) k.standing.states (batches_of k.standing.submitted) (k.base - k.standing.epoch)
  based = own.base_states ∙ keeping.base_states

  -- the hall has at most the epochs that stand on the disk
  pub released : S.next ≤ k.standing.epoch + length k.standing.submitted + 1
  released =
      let all = many in
      let some : length (drop (k.base - k.standing.epoch) (batches_of k.standing.submitted)) ≡ length S.batches + length own.batches.0 = ap length own.batches.1 ∙ length-append S.batches own.batches.0 in
      let left = length-drop (k.base - k.standing.epoch) (batches_of k.standing.submitted) in
      omega (arith, all, some, left, sound.released, own.base, keeping.from_checkpoint, keeping.released)

  -- the outputs of an epoch that the hall has, which has passed and was not collected
  meant_at : (e : ℕ) → S.base < e → S.collected < e → e < S.next → has_passed S e ≡ true
      → outputs_at S e ≡ get_or (run answers (tree_of k.plan) k.standing.states (batches_of k.standing.submitted)).outs (e - k.standing.epoch - 1) []
  meant_at e after later before passed =
      let place : k.base - k.standing.epoch + (e - S.base - 1) ≡ e - k.standing.epoch - 1 = omega (arith, after, own.base, keeping.from_checkpoint) in
      sound.outputs e after later before passed
      ∙ (ap (λ q. get_or (run answers (tree_of q) S.base_states S.batches).outs (e - S.base - 1) []) own.plan
      ∙ (sym (outs_at answers (tree_of k.plan) (states_join (tree_of k.plan)) (outs_join (tree_of k.plan)) k.standing.states (batches_of k.standing.submitted) (k.base - k.standing.epoch) within
      S.base_states based S.batches own.batches.0 own.batches.1 (e - S.base - 1) (omega (arith, after, before, sound.released)))
      ∙ ap (λ n. get_or (run answers (tree_of k.plan) k.standing.states (batches_of k.standing.submitted)).outs n []) place))

  pub at_most_released : length (to_collect S) ≤ S.next - (S.collected + 1)
  at_most_released = at_most (has_passed S) (S.collected + 1) (S.next - (S.collected + 1))

  -- WHAT IS COLLECTED is the batch meaning's
  pub meant : outs_by (collect_step S).0 ≡ meant_outs k answers k.collected (k.collected + length (to_collect S))
  meant =
      let n : ℕ = length (to_collect S) in
      let outs = (run answers (tree_of k.plan) k.standing.states (batches_of k.standing.submitted)).outs in
      let f : ℕ → EpochOut = λ e. out_at e (outputs_at S e) in
      let all : length outs ≡ length k.standing.submitted = length_outs answers (tree_of k.plan) k.standing.states (batches_of k.standing.submitted) ∙ many in
      let few = at_most_released in
      let in_row : to_collect S ≡ numbers_from (S.collected + 1) (length (to_collect S)) = row (has_passed S) (earlier (active S)) (S.collected + 1) (S.next - (S.collected + 1)) in
      let difference : length (to_collect S) ≡ k.collected + length (to_collect S) - k.collected = omega arith in
      ap (map f) in_row
      ∙ (in_a_row f (S.collected + 1) (k.collected - k.standing.epoch) (length (to_collect S)) outs
      (λ some. omega (arith, all, few, some, released, own.collected, keeping.collected, keeping.from_checkpoint))
      (λ i l.
      let passed = passes (has_passed S) (earlier (active S)) (S.collected + 1) (S.next - (S.collected + 1)) i l in
      let place : S.collected + 1 + i - k.standing.epoch - 1 ≡ k.collected - k.standing.epoch + i = omega (arith, own.collected, keeping.collected, keeping.from_checkpoint) in
      ap (out_at (S.collected + 1 + i))
      (meant_at (S.collected + 1 + i) (omega (arith, own.collected, own.base, keeping.collected)) (omega arith) (omega (arith, l, few)) passed
      ∙ ap (λ m. get_or outs m []) place))
      ∙ (λ i. numbered (own.collected i + 1) (take (difference i) (drop (k.collected - k.standing.epoch) outs))))

  -- it is still right then
  pub still : IsKeeping (with_collected k S) answers
  still = record {
    which = keeping.which;
    batches = keeping.batches;
    few = keeping.few;
    small = keeping.small;
    states = keeping.states;
    from_checkpoint = keeping.from_checkpoint;
    released = keeping.released;
    base_states = keeping.base_states;
    collected = omega (arith, keeping.collected, own.collected);
    done = let few = at_most_released in let most = released in omega (arith, few, most, own.collected, keeping.done);
    watched = now_published k.watch (words_at k.standing (collect_step S).1.collected);
  }

  -- and the hall is still its own
  pub still_own : IsOwn (with_collected k S) (collected_hall S)
  still_own = record { plan = own.plan; base = own.base; base_states = own.base_states; collected = refl; batches = own.batches }

  -- all that has passed in a row after the base was collected then
  pub collected_up_to : (last : ℕ) → IsLast (has_passed S) S.base S.next last → last ≤ S.collected + length (to_collect S)
  collected_up_to last is =
      let least = at_least (has_passed S) (S.collected + 1) (S.next - (S.collected + 1)) (last - S.collected) (omega (arith, is.before))
      (λ i l. is.passed (S.collected + 1 + i) (omega (arith, own.collected, own.base, keeping.collected)) (omega (arith, l))) in
      omega (arith, least)

  -- of a hall that is done the last epoch that has passed is the last that the keeper stands for, and so far all is collected then
  pub passed_to_the_end : IsDone k S → last_passed S ≡ last_epoch k.standing
  passed_to_the_end done =
      let at : last_passed S ≡ S.next - 1 = ap (before_unpassed S.next) done.passed in
      let some = ap length done.all in
      let left = length-drop (k.base - k.standing.epoch) (batches_of k.standing.submitted) in
      let all = many in
      omega (arith, at, some, left, all, sound.released, own.base, keeping.from_checkpoint, keeping.released)

  pub collected_to_the_end : IsDone k S → (collect_step S).1.collected ≡ last_epoch k.standing
  collected_to_the_end done =
      let far = collected_up_to (last_passed S) (last_is (has_passed S) S.base S.next (omega (arith, sound.released)) (unpassed S) refl) in
      let end = passed_to_the_end done in
      let most : S.collected + length (to_collect S) ≤ last_epoch k.standing = still.done in
      omega (arith, far, end, most)

  -- A CUT that has the batch meaning's states is one of what the keeper stands for
  pub cut_meaning : (e : ℕ) → S.base ≤ e → e < S.next → (states : StateList) → states ≡ run_states answers S e
      → states ≡ states_after answers (tree_of k.plan) k.standing.states (batches_of k.standing.submitted) (e - k.standing.epoch)
  cut_meaning e after before states is =
      let place : k.base - k.standing.epoch + (e - S.base) ≡ e - k.standing.epoch = omega (arith, after, own.base, keeping.from_checkpoint) in
      is ∙ (ap (λ q. states_after answers (tree_of q) S.base_states S.batches (e - S.base)) own.plan
      ∙ (sym (states_on answers (tree_of k.plan) (states_join (tree_of k.plan)) (outs_join (tree_of k.plan)) k.standing.states (batches_of k.standing.submitted) (k.base - k.standing.epoch) within
      S.base_states based S.batches own.batches.0 own.batches.1 (e - S.base) (omega (arith, before, after, sound.released)))
      ∙ ap (states_after answers (tree_of k.plan) k.standing.states (batches_of k.standing.submitted)) place))

  -- and may be its base, where what is up to it was collected
  pub cut_right : (e : ℕ) → S.base ≤ e → e < S.next → e ≤ k.collected → (states : StateList) → states ≡ run_states answers S e
      → IsKeeping (record k { base = e; base_states = states; waiting = true }) answers
  cut_right e after before collected states is = record {
    which = keeping.which;
    batches = keeping.batches;
    few = keeping.few;
    small = keeping.small;
    states = keeping.states;
    from_checkpoint = omega (arith, after, own.base, keeping.from_checkpoint);
    released = let most = released in omega (arith, before, most);
    base_states = cut_meaning e after before states is;
    collected = collected;
    done = keeping.done;
    watched = keeping.watched;
  }

  -- of what the hall answers
  module _ (outs : List EpochOut) (T : HallState) (step : collect_step S ≡ (has_collected outs, T)) where
    pub as_many : length outs ≡ length (to_collect S)
    as_many = ap (λ p. length (outs_by p.0)) (sym step) ∙ length-map (to_collect S) (λ e. out_at e (outputs_at S e))

    pub room : length outs ≤ length S.batches
    room = let n = as_many in let few = at_most_released in omega (arith, n, few, sound.released, own.base, own.collected, keeping.collected)

    pub fits : length outs ≤ 2 ^ 63 - (k.collected + 1)
    fits = let n = as_many in let few = at_most_released in let most = released in omega (arith, n, few, most, own.collected, keeping.small)

    pub meant_by : (n : ℕ) → n ≡ length outs → outs_by (collect_step S).0 ≡ meant_outs k answers k.collected (k.collected + n)
    meant_by n is = meant ∙ ap (λ m. meant_outs k answers k.collected (k.collected + m)) (sym as_many ∙ sym is)

  -- what is collected, up to the last epoch that is
  pub meant_up_to : outs_by (collect_step S).0 ≡ meant_outs k answers k.collected (collect_step S).1.collected
  meant_up_to = meant ∙ ap (λ m. meant_outs k answers k.collected (m + length (to_collect S))) (sym own.collected)

  -- the last epoch up to which all have passed
  pub is_last : has_passed S S.base ≡ true → IsLast (has_passed S) S.base S.next (last_passed S)
  is_last base = last_is (has_passed S) S.base S.next (omega (arith, sound.released)) (unpassed S) refl

  pub last_has_passed : has_passed S S.base ≡ true → has_passed S (last_passed S) ≡ true
  last_has_passed base = by (last_passed S - S.base) refl
    where
      by : (m : ℕ) → last_passed S - S.base ≡ m → has_passed S (last_passed S) ≡ true
      by zero e = let last = is_last base in let is : last_passed S ≡ S.base = omega (arith, e, last.after) in ap (has_passed S) is ∙ base
      by (suc m) e = let last = is_last base in last.passed (last_passed S) (omega (arith, e)) (omega arith)

  -- where it is cut lies between the base and that epoch, so all up to it have passed
  pub place_after : (most : Option ℕ) → has_passed S S.base ≡ true → S.base ≤ cut_place most S
  place_after most base = never_before answers S sound most

  pub place_before : (most : Option ℕ) → has_passed S S.base ≡ true → cut_place most S ≤ last_passed S
  place_before None base = omega arith
  place_before (Some most) base = let last = is_last base in max_at_most S.base (min most (last_passed S)) (last_passed S) (omega (arith, last.after)) (min-le_right most (last_passed S))

  pub place_has_passed : (most : Option ℕ) → has_passed S S.base ≡ true → has_passed S (cut_place most S) ≡ true
  place_has_passed most base = by (cut_place most S - S.base) refl
    where
      by : (m : ℕ) → cut_place most S - S.base ≡ m → has_passed S (cut_place most S) ≡ true
      by zero e = let after = place_after most base in let is : cut_place most S ≡ S.base = omega (arith, e, after) in ap (has_passed S) is ∙ base
      by (suc m) e = let last = is_last base in let before = place_before most base in last.passed (cut_place most S) (omega (arith, e)) (omega (arith, before))

-- a hall of a keeper's is still its own when what it collects was brought in
pub own_after : {D : Type 0} (k : Keeping D) (S : HallState) → IsOwn k S → IsOwn (with_collected k S) (collected_hall S)
own_after k S own = record { plan = own.plan; base = own.base; base_states = own.base_states; collected = refl; batches = own.batches }

-- what a cut answers
cut_epoch : Answer → ℕ
cut_epoch (has_cut e states) = e
cut_epoch answer = 0

cut_states : Answer → StateList
cut_states (has_cut e states) = states
cut_states answer = []

-- A CUT at an epoch that has passed: its epoch, its states, and the hall after it
pub cut_is : (S T : HallState) (last e : ℕ) (states : StateList) (b : Bool) → b ≡ true → cut_at_by S b last ≡ (has_cut e states, T)
    → (e ≡ last) × (states ≡ states_at S last) × (T ≡ cut_to S last)
unfolding cut_epoch cut_states
cut_is S T last e states true h step = (sym (ap (λ p. cut_epoch p.0) step), sym (ap (λ p. cut_states p.0) step), sym (ap (λ p. p.1) step))
cut_is S T last e states false h step = absurd (true≢false (sym h))

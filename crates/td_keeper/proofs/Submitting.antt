-- A batch that a keeper submits.
use Rattle.std.proofs.Common.{◌≡◌, ◌==◌, ℕ, ◌+◌, ◌-◌, ◌^◌, ◌<◌, ◌≤◌, Bool, true, false, ◌||◌, nat_le, nat_lt, List, [], ◌∷◌, ◌++◌, length, refl, sym, ap, ◌∙◌, subst, arith, length-append}
use Rattle.std.proofs.lemmas.Bool.{le-leb, ltb-false}
use Rattle.std.specs.Prelude.{Option, Some, None, max, min}
use Rattle.std.proofs.Math.Nat.{min-le_right}
use Rattle.std.specs.List.{list_all, list_any}
use Rattle.td_stamp.specs.declared.values.Entry.{Entry}
use Rattle.td_stamp.specs.Orders.{entry_cmp}
use Rattle.td_stamp.specs.Bag.{IsBag}
use Rattle.td_plan.specs.Lines.{Line}
use Rattle.td_plan.specs.Faults.{IsPlan}
use Rattle.td_calls.specs.Answers.{Answers}
use Rattle.td_disk.specs.Disk.{DiskState}
use Rattle.td_head.specs.declared.head.Head.{Head}
use Rattle.td_journal.specs.Numbers.{may_come, greatest}
use Rattle.td_journal.specs.Cell.{is_batch}
use Rattle.td_journal.specs.declared.journal.Journal.{Journal}
use Rattle.td_journal.specs.declared.payload.Submitted.{Submitted}
use Rattle.td_machine.specs.Steps.{accepts}
use Rattle.td_store.specs.group.Groups.{AllFew, AreBatches, AreFresh, AreFree, AreShut, HasRoomFor}
use Rattle.td_store.specs.standing.Standing.{Standing, last_epoch, last_request, with_more}
use Rattle.td_store.specs.standing.Told.{inputs_of, ring_of}
use Rattle.td_store.specs.standing.Tells.{Keeps, IsFresh}
use Rattle.td_store.specs.standing.Advanced.{HeldWhere}
use Rattle.td_watch.specs.View.{View}
use Rattle.td_keeper.specs.Keeping.{Keeping, IsKeeping, FreeAreShut, words_at, IsBelow}
use Rattle.td_keeper.specs.Refused.{is_new}

-- where nothing is broken, a keeper's disk keeps its standing
pub keeps_of : (b : Bool) (answers : Answers) (plan : List Line) (head : Head) (side : ℕ) (s : Standing) (state : DiskState) → b ≡ false → HeldWhere b answers plan head side s state → Keeps plan head side s state
keeps_of b answers plan head side s state whole held = subst (λ (c : Bool). HeldWhere c answers plan head side s state) whole held

pub held_of : (b : Bool) (answers : Answers) (plan : List Line) (head : Head) (side : ℕ) (s : Standing) (state : DiskState) → b ≡ false → Keeps plan head side s state → HeldWhere b answers plan head side s state
held_of b answers plan head side s state whole keeps = subst (λ (c : Bool). HeldWhere c answers plan head side s state) (sym whole) keeps

-- no request number may always come
none_comes : (b : Bool) (last : ℕ) → may_come (elim b [ true ↦ Some last | false ↦ None ]) 0 ≡ true
none_comes true last = refl
none_comes false last = refl

pub no_request : (version : ℕ) (s : Standing) → IsFresh version s 0
no_request version s = none_comes (nat_le 2 version) (last_request s)

-- a number may come after what a keeper stands for, as it sees itself
pub fresh_in : {D : Type 0} {k z : Keeping D} (request : ℕ) → k ≡ z → IsFresh z.head.version z.standing request → IsFresh k.head.version k.standing request
fresh_in {D = D} request is fresh = subst (λ (v : Keeping D). IsFresh v.head.version v.standing request) (sym is) fresh

-- in version 2 a new one may
pub new_comes : {D : Type 0} (k : Keeping D) (request : ℕ) → 2 ≤ k.head.version → is_new k.standing request ≡ true → IsFresh k.head.version k.standing request
new_comes k request numbered new = comes (nat_le 2 k.head.version) (le-leb 2 k.head.version numbered)
  where
    comes : (b : Bool) → b ≡ true → may_come (elim b [ true ↦ Some (last_request k.standing) | false ↦ None ]) request ≡ true
    comes true is = new
    comes false is = absurd cc

-- one that is not new is not above the last
pub old_below : (s : Standing) (request : ℕ) → is_new s request ≡ false → request ≤ last_request s
old_below s request old = by (request == 0) (nat_lt (last_request s) request) refl old
  where
    by : (a b : Bool) → nat_lt (last_request s) request ≡ b → (a || b) ≡ false → request ≤ last_request s
    by true b is none = absurd cc
    by false true is none = absurd cc
    by false false is none = ltb-false (last_request s) request is

-- the greatest number after some epochs more
pub greatest_more : (q : ℕ) (w x : List Submitted) → greatest q (w ++ x) ≡ greatest (greatest q w) x
greatest_more q [] x = refl
greatest_more q (s ∷ w) x = greatest_more (max q s.request) w x

-- the laws, as they are handed in
abbrev pub Inputs : Type 0
Inputs = (plan : List Line) (batch : List Entry) → IsPlan plan → accepts plan batch ≡ list_all (λ e. list_any (λ v. v == e.input) (inputs_of plan)) batch

abbrev pub InOrder : Type 0
InOrder = (inputs : List ℕ) (x : List Entry) → IsBag entry_cmp x → list_all (λ e. list_any (λ v. v == e.input) inputs) x ≡ true → is_batch inputs x ≡ true

pub lawful_batch : Inputs → InOrder → (plan : List Line) (batch : List Entry) → IsPlan plan → IsBag entry_cmp batch → accepts plan batch ≡ true → is_batch (inputs_of plan) batch ≡ true
lawful_batch inputs in_order plan batch is sorted named = in_order (inputs_of plan) batch sorted (sym (inputs plan batch is) ∙ named)

-- a group that may come next
pub record MayCome {D : Type 0} (k : Keeping D) (x : List Submitted) : Type 0 where
  pub some : 0 < length x
  pub whole : k.broken ≡ false
  pub lawful : AreBatches (inputs_of k.plan) x
  pub few : AllFew k.head.shape.m x
  pub small : last_epoch k.standing + length x < 2 ^ 63
  pub room : length k.standing.submitted + length x ≤ k.head.shape.n
  pub fresh : AreFresh k.head.version k.standing x

-- seen from inside, and as another list
pub may_come_in : {D : Type 0} {k z : Keeping D} {x y : List Submitted} → k ≡ z → y ≡ x → MayCome z x → MayCome k y
may_come_in {D = D} {z = z} {y = y} is same taken = subst (λ (v : Keeping D). MayCome v y) (sym is) (subst (λ (l : List Submitted). MayCome z l) (sym same) taken)

pub has_room : {D : Type 0} (k : Keeping D) (x : List Submitted) (epoch : ℕ) → MayCome k x → epoch ≡ last_epoch k.standing + 1 → HasRoomFor k.head.shape k.standing epoch (length x)
has_room k x epoch is at = record { some = is.some; room = is.room; epoch = at; small = omega (arith, is.small, at) }

-- the cells that no epoch uses, seen from inside
pub free_in : {D : Type 0} (answers : Answers) {k z : Keeping D} (last most free count : ℕ) → k ≡ z → last ≡ last_epoch z.standing → free ≡ z.head.shape.n - length z.standing.submitted → count ≡ min most free → IsKeeping k answers
    → AreFree k.head.shape k.standing (last + 1) count
free_in {D = D} answers {k = k} last most free count is at left least keeping =
    let here : last ≡ last_epoch k.standing = at ∙ sym (ap (λ (v : Keeping D). last_epoch v.standing) is) in
    let room : free ≡ k.head.shape.n - length k.standing.submitted = left ∙ sym (ap (λ (v : Keeping D). v.head.shape.n - length v.standing.submitted) is) in
    let few : count ≤ free = subst (λ n. n ≤ free) (sym least) (min-le_right most free) in
    record { epoch = omega (arith, here); room = omega (arith, room, few, keeping.few) }

-- they are closed, seen from inside
pub shut_in : {D : Type 0} {k z : Keeping D} (j : Journal) (image : List ℕ) (last most free count : ℕ) → k ≡ z → j ≡ ring_of k.head.shape k.standing.epoch → last ≡ last_epoch z.standing → free ≡ z.head.shape.n - length z.standing.submitted → count ≡ min most free
    → FreeAreShut k most image → AreShut j image (last + 1) count
shut_in {D = D} {k = k} j image last most free count is ring at left least shut =
    let here : last ≡ last_epoch k.standing = at ∙ sym (ap (λ (v : Keeping D). last_epoch v.standing) is) in
    let room : count ≡ min most (k.head.shape.n - length k.standing.submitted) = least ∙ ap (min most) (left ∙ sym (ap (λ (v : Keeping D). v.head.shape.n - length v.standing.submitted) is)) in
    subst (λ (i : Journal). AreShut i image (last + 1) count) (sym ring)
    (subst (λ (n : ℕ). AreShut (ring_of k.head.shape k.standing.epoch) image (last + 1) n) (sym room)
    (subst (λ (e : ℕ). AreShut (ring_of k.head.shape k.standing.epoch) image (e + 1) (min most (k.head.shape.n - length k.standing.submitted))) (sym here) shut))

pub shut_out : {D : Type 0} {k z : Keeping D} (j : Journal) (image : List ℕ) (last most free count : ℕ) → k ≡ z → j ≡ ring_of k.head.shape k.standing.epoch → last ≡ last_epoch z.standing → free ≡ z.head.shape.n - length z.standing.submitted → count ≡ min most free
    → AreShut j image (last + 1) count → FreeAreShut k most image
shut_out {D = D} {k = k} j image last most free count is ring at left least shut =
    let here : last ≡ last_epoch k.standing = at ∙ sym (ap (λ (v : Keeping D). last_epoch v.standing) is) in
    let room : count ≡ min most (k.head.shape.n - length k.standing.submitted) = least ∙ ap (min most) (left ∙ sym (ap (λ (v : Keeping D). v.head.shape.n - length v.standing.submitted) is)) in
    subst (λ (i : Journal). AreShut i image (last_epoch k.standing + 1) (min most (k.head.shape.n - length k.standing.submitted))) ring
    (subst (λ (e : ℕ). AreShut j image (e + 1) (min most (k.head.shape.n - length k.standing.submitted))) here
    (subst (λ (n : ℕ). AreShut j image (last + 1) n) room shut))

-- what is not one is none
pub is_none : {X : Type 0} (o : Option X) → ((x : X) → o ≡ Some x → ⊥) → o ≡ None
is_none None not_ = refl
is_none (Some x) not_ = absurd (not_ x refl)

-- a writer that is not above a keeper is not above it after some epochs more
pub below_more : (o : Option View) (s : Standing) (x : List Submitted) (collected : ℕ) → IsBelow o (words_at s collected) → IsBelow o (words_at (with_more s x) collected)
below_more None s x collected below = tt
below_more (Some v) s x collected below = (omega (arith, below.0, length-append s.submitted x), below.1, below.2)

-- Epochs that have places bring a disk on that has some of them.
use Rattle.std.proofs.Common.{◌≡◌, ℕ, suc, zero, ◌+◌, ◌-◌, ◌<◌, ◌≤◌, ◌==◌, nat_lt, Bool, true, false, List, [], ◌∷◌, ◌++◌, length, length-append, take, drop, Some, None, refl, sym, ap, ◌∙◌, arith, eq-eqb, append_assoc}
use Rattle.std.specs.Prelude.{max, Option, if◌then◌else◌}
use Rattle.td_console.specs.declared.faults.Fault.{Fault}
use Rattle.std.proofs.lemmas.Bool.{lt-ltb, le-ltb, ne_eqb}
use Rattle.std.proofs.lemmas.List.{take-append-drop}
use Rattle.td_stamp.specs.declared.values.Entry.{Entry}
use Rattle.td_stamp.specs.States.{StateList}
use Rattle.td_plan.specs.Lines.{Line as PlanLine}
use Rattle.td_journal.specs.declared.payload.Submitted.{Submitted}
use Rattle.td_journal.specs.Numbers.{greatest, may_come}
use Rattle.td_store.specs.standing.Standing.{Standing}
use Rattle.td_store.specs.standing.Stops.{Stands}
use Rattle.td_orders.specs.declared.note.Note.TheVariants.{There}
use Rattle.td_orders.specs.declared.order.Order.{Order}
use Rattle.td_orders.specs.declared.order.Order.TheVariants.{SubmitAt, Say}
use Rattle.td_orders.specs.Orders.{submissions, new_after}
use Rattle.td_orders.specs.Scripts.{Script, after_order, script_of}
use Rattle.td_orders.specs.Placed.{gap_at, told_after, last_after, not_in_place, after_gap, unless_gap, placed_from, placed}
use Rattle.td_report.specs.Dumped.{BringsOn}
use Rattle.td_orders.specs.OrderProofs.{greatest-append, new_one}
use Rattle.td_report.proofs.PlacedDump.{ArePlaced}

-- no more of them are new than there are
few_new : (q : ℕ) (x : List Submitted) → length (new_after q x) ≤ length x
few_new q [] = omega arith
few_new q (s ∷ x) = by (may_come (Some q) s.request) (few_new (max q s.request) x) (few_new q x)
  where
    by : (b : Bool) → length (new_after (max q s.request) x) ≤ length x → length (new_after q x) ≤ length x
        → length (if b then s ∷ new_after (max q s.request) x else new_after q x) ≤ suc (length x)
    by true with_it without = omega (arith, with_it)
    by false with_it without = omega (arith, without)

abbrev tail_of : List Submitted → List Submitted
tail_of [] = []
tail_of (s ∷ x) = x

-- where all are new, the first is, and then the others
new_head : (q : ℕ) (s : Submitted) (x : List Submitted) → new_after q (s ∷ x) ≡ s ∷ x → (may_come (Some q) s.request ≡ true) × (new_after (max q s.request) x ≡ x)
new_head q s x is = by (may_come (Some q) s.request) refl is
  where
    by : (b : Bool) → may_come (Some q) s.request ≡ b → (if b then s ∷ new_after (max q s.request) x else new_after q x) ≡ s ∷ x → (may_come (Some q) s.request ≡ true) × (new_after (max q s.request) x ≡ x)
    by true e h = (e, ap tail_of h)
    by false e h = absurd (omega (arith, ap length h, few_new q x))

-- and those behind the first n
new_rest : (n q : ℕ) (x : List Submitted) → new_after q x ≡ x → new_after (greatest q (take n x)) (drop n x) ≡ drop n x
new_rest zero q x is = is
new_rest (suc n) q [] is = refl
new_rest (suc n) q (s ∷ x) is = new_rest n (max q s.request) x (new_head q s x is).1

module _ (fault : Option Fault) (refuses : Bool) where
  -- an epoch in its place, and one that is there
  put : (told last : ℕ) (s : Submitted) (line : ℕ) (orders : List Order) → may_come (Some last) s.request ≡ true
      → placed_from fault refuses told last (SubmitAt (record { epoch = suc told; line = line }) s.request s.batch ∷ orders)
      ≡ after_order (Some (SubmitAt (record { epoch = suc told; line = line }) s.request s.batch)) (placed_from fault refuses (suc told) (max last s.request) orders)
  put told last s line orders new =
      let o = SubmitAt (record { epoch = suc told; line = line }) s.request s.batch in
      let here : (suc told == told + 1) ≡ true = eq-eqb (suc told) (told + 1) (omega arith) in
      let one : new_after last (s ∷ []) ≡ s ∷ [] = new_one last s new in
      let far : told_after told last (s ∷ []) ≡ suc told = omega (arith, ap length one) in
      ap (λ (b : Bool). unless_gap (gap_at o) (λ next. placed_from fault refuses (told_after told last (submissions (next ∷ []))) (last_after last (submissions (next ∷ []))) orders) (if b then Some o else not_in_place refuses told (suc told))) here
      ∙ (λ i. after_order (Some o) (placed_from fault refuses (far i) (greatest last (one i)) orders))

  passed : (told last : ℕ) (s : Submitted) (e line : ℕ) (orders : List Order) → suc e ≤ told
      → placed_from fault refuses told last (SubmitAt (record { epoch = suc e; line = line }) s.request s.batch ∷ orders)
      ≡ after_order (Some (Say (There (suc e)))) (placed_from fault refuses told last orders)
  passed told last s e line orders there =
      let o = SubmitAt (record { epoch = suc e; line = line }) s.request s.batch in
      let not_here : (suc e == told + 1) ≡ false = ne_eqb (suc e) (told + 1) (λ is. omega (arith, is, there)) in
      let not_after : nat_lt told (suc e) ≡ false = le-ltb told (suc e) there in
      ap (λ (b : Bool). unless_gap (gap_at o) (λ next. placed_from fault refuses (told_after told last (submissions (next ∷ []))) (last_after last (submissions (next ∷ []))) orders) (if b then Some o else not_in_place refuses told (suc e))) not_here
      ∙ ap (λ (b : Bool). unless_gap (gap_at o) (λ next. placed_from fault refuses (told_after told last (submissions (next ∷ []))) (last_after last (submissions (next ∷ []))) orders) (if b then after_gap refuses (suc e) else Some (Say (There (suc e))))) not_after
      ∙ ap (λ (n : ℕ). after_order (Some (Say (There (suc e)))) (placed_from fault refuses n last orders)) (omega arith)

  -- ALL OF THEM, to a disk that lacks them all
  all_put : (told last : ℕ) (x : List Submitted) (orders : List Order) → ArePlaced told x orders → new_after last x ≡ x → submissions (placed_from fault refuses told last orders).orders ≡ x
  all_put told last [] orders are new = ap (λ (os : List Order). submissions (placed_from fault refuses told last os).orders) are
  all_put told last (s ∷ x) [] are new = absurd are
  all_put told last (s ∷ x) (o ∷ orders) are new =
      let head = new_head last s x new in
      ap (λ (p : Order). submissions (placed_from fault refuses told last (p ∷ orders)).orders) are.0.1
      ∙ ap (λ (q : Script). submissions q.orders) (put told last s are.0.0 orders head.0)
      ∙ ap (λ (y : List Submitted). s ∷ y) (all_put (suc told) (max last s.request) x orders are.1 head.1)

  -- AND TO ONE that has the first n
  rest_put : (n e last : ℕ) (x : List Submitted) (orders : List Order) → ArePlaced e x orders → n ≤ length x → new_after last (drop n x) ≡ drop n x
      → submissions (placed_from fault refuses (e + n) last orders).orders ≡ drop n x
  rest_put zero e last x orders are few new = ap (λ (t : ℕ). submissions (placed_from fault refuses t last orders).orders) (omega arith) ∙ all_put e last x orders are new
  rest_put (suc n) e last [] orders are few new = absurd (omega (arith, few))
  rest_put (suc n) e last (s ∷ x) [] are few new = absurd are
  rest_put (suc n) e last (s ∷ x) (o ∷ orders) are few new =
      ap (λ (p : Order). submissions (placed_from fault refuses (e + suc n) last (p ∷ orders)).orders) are.0.1
      ∙ ap (λ (q : Script). submissions q.orders) (passed (e + suc n) last s e are.0.0 orders (omega arith))
      ∙ ap (λ (t : ℕ). submissions (placed_from fault refuses t last orders).orders) (omega arith)
      ∙ rest_put n (suc e) last x orders are.1 (omega (arith, few)) new

-- to one that is behind them, nothing
pub none_put : (fault : Option Fault) (told last e : ℕ) (x : List Submitted) (orders : List Order) → ArePlaced e x orders → told < e → (placed_from fault false told last orders).orders ≡ []
none_put fault told last e [] orders are behind = ap (λ (os : List Order). (placed_from fault false told last os).orders) are
none_put fault told last e (s ∷ x) [] are behind = absurd are
none_put fault told last e (s ∷ x) (o ∷ orders) are behind =
    let p = SubmitAt (record { epoch = suc e; line = are.0.0 }) s.request s.batch in
    let not_here : (suc e == told + 1) ≡ false = ne_eqb (suc e) (told + 1) (λ is. omega (arith, is, behind)) in
    let after : nat_lt told (suc e) ≡ true = lt-ltb told (suc e) (omega (arith, behind)) in
    ap (λ (q : Order). (placed_from fault false told last (q ∷ orders)).orders) are.0.1
    ∙ ap (λ (b : Bool). (unless_gap (gap_at p) (λ next. placed_from fault false (told_after told last (submissions (next ∷ []))) (last_after last (submissions (next ∷ []))) orders) (if b then Some p else not_in_place false told (suc e))).orders) not_here
    ∙ ap (λ (b : Bool). (unless_gap (gap_at p) (λ next. placed_from fault false (told_after told last (submissions (next ∷ []))) (last_after last (submissions (next ∷ []))) orders) (if b then after_gap false (suc e) else Some (Say (There (suc e))))).orders) after

-- the first n of a list of two parts, the first of which is no longer
take_past : (a b : List Submitted) (n : ℕ) → length a ≤ n → take n (a ++ b) ≡ a ++ take (n - length a) b
take_past [] b n le = ap (λ (k : ℕ). take k b) (omega arith)
take_past (s ∷ a) b zero le = absurd (omega (arith, le))
take_past (s ∷ a) b (suc n) le = ap (λ (l : List Submitted). s ∷ l) (take_past a b n (omega (arith, le)) ∙ ap (λ (k : ℕ). a ++ take k b) (omega (arith, le)))

length_take : (n : ℕ) (x : List Submitted) → n ≤ length x → length (take n x) ≡ n
length_take zero x le = refl
length_take (suc n) [] le = absurd (omega (arith, le))
length_take (suc n) (s ∷ x) le = ap suc (length_take n x (omega (arith, le)))

-- A DISK IS BROUGHT ON
pub brought : (run : StateList → List (List Entry) → StateList) (plan : List PlanLine) (input : List ℕ) (s : Standing) (history : List Submitted) (orders : List Order)
    → ArePlaced s.epoch s.submitted orders → ◌≡◌ {A = Script} (script_of true false false false None plan input) (record { orders = orders; fault = None }) → new_after s.last s.submitted ≡ s.submitted → Stands run s history
    → (n : ℕ) → s.epoch ≤ n → n ≤ length history → BringsOn plan input history n
brought run plan input s history orders are script new stands n from to = λ refuse.
    let x = s.submitted in
    let k : ℕ = n - s.epoch in
    let few : k ≤ length x = omega (arith, from, to, ap length stands.whole, length-append stands.before x, stands.epochs) in
    let there : take n history ≡ stands.before ++ take k x =
    ap (take n) stands.whole ∙ take_past stands.before x n (omega (arith, from, stands.epochs)) ∙ ap (λ (j : ℕ). stands.before ++ take (n - j) x) stands.epochs in
    let long : length (take n history) ≡ s.epoch + k =
    ap length there ∙ length-append stands.before (take k x) ∙ (let taken = length_take k x few in omega (arith, taken, stands.epochs)) in
    let top : greatest 0 (take n history) ≡ greatest s.last (take k x) =
    ap (greatest 0) there ∙ greatest-append 0 stands.before (take k x) ∙ ap (λ (q : ℕ). greatest q (take k x)) (sym stands.last) in
    let rising : new_after (greatest s.last (take k x)) (drop k x) ≡ drop k x = new_rest k s.last x new in
    let rest : submissions (placed_from None refuse (s.epoch + k) (greatest s.last (take k x)) orders).orders ≡ drop k x =
    rest_put None refuse k s.epoch (greatest s.last (take k x)) x orders are few rising in
    (λ i. there i ++ new_after (top i) (submissions (placed refuse (long i) (top i) (script i)).orders))
    ∙ ap (λ (y : List Submitted). (stands.before ++ take k x) ++ new_after (greatest s.last (take k x)) y) rest
    ∙ ap (λ (y : List Submitted). (stands.before ++ take k x) ++ y) rising
    ∙ append_assoc stands.before (take k x) (drop k x)
    ∙ ap (λ (y : List Submitted). stands.before ++ y) (take-append-drop k x)
    ∙ sym stands.whole

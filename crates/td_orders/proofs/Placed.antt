-- Orders at a disk, one after another.
use Rattle.std.proofs.Common.{inl, inr, ◌≡◌, ℕ, Bool, List, [], ◌∷◌, ◌++◌, length, length-append, arith, refl, sym, ap, ◌∙◌, subst, append_assoc}
use Rattle.std.specs.Prelude.{Vec, Option, Some, None, Result, Ok, Err, option_map, IfOk, IfSome, IfNone, ◌<◌}
use Rattle.td_journal.specs.declared.payload.Submitted.{Submitted}
use Rattle.td_journal.specs.Numbers.{greatest}
use Rattle.td_orders.specs.declared.source.Asked.{Asked}
use Rattle.td_orders.specs.declared.source.Asked.TheVariants.{One, Epochs}
use Rattle.td_orders.specs.declared.order.Order.{Order}
use Rattle.td_orders.specs.declared.order.Order.TheVariants as order
use Rattle.td_orders.specs.Orders.{submissions, new_after}
use Rattle.td_console.specs.declared.faults.LineFault.{LineFault}
use Rattle.td_console.specs.declared.faults.Fault.{Fault}
use Rattle.td_console.specs.declared.faults.Fault.TheVariants.{Line}
use Rattle.std.specs.declared.alloc.Global.{Global}
use Rattle.td_plan.specs.Text.{text_lines}
use Rattle.td_orders.specs.Scripts.{ComesTo, TellsLine, faulty, Script, Reading, HaveNoPlace, IsOf, SameScript, Asks, script_from, script_ahead, after_order, after_orders}
use Rattle.td_orders.specs.Placed.{StandsAt, IsGapAt, gap_at, told_after, last_after, at_disk, unless_gap, placed_from, placed, told_by, last_by}
use Rattle.td_orders.proofs.Scripts.{asks_through, asks_ahead}
use Rattle.td_orders.specs.OrderProofs.{greatest-append, new_after-append, submissions-append}

-- orders without places, one after another
pub no_place-append : (xs ys : List Order) → HaveNoPlace xs → HaveNoPlace ys → HaveNoPlace (xs ++ ys)
no_place-append [] ys a b = b
no_place-append (order.Submit batch ∷ xs) ys a b = no_place-append xs ys a b
no_place-append (order.SubmitAs request batch ∷ xs) ys a b = no_place-append xs ys a b
no_place-append (order.SubmitAt place request batch ∷ xs) ys a b = absurd a
no_place-append (order.Cut ∷ xs) ys a b = no_place-append xs ys a b
no_place-append (order.Seen line epoch ∷ xs) ys a b = no_place-append xs ys a b
no_place-append (order.Answer vertex wanted ∷ xs) ys a b = no_place-append xs ys a b
no_place-append (order.Copy copy ∷ xs) ys a b = no_place-append xs ys a b
no_place-append (order.Say note ∷ xs) ys a b = no_place-append xs ys a b

-- what some epochs and then others come to
pub told-append : (told last : ℕ) (x y : List Submitted) → told_after (told_after told last x) (last_after last x) y ≡ told_after told last (x ++ y)
told-append told last x y =
    let new = new_after-append last x y in
    omega (arith, ap length new, length-append (new_after last x) (new_after (greatest last (new_after last x)) y))

pub last-append : (last : ℕ) (x y : List Submitted) → last_after (last_after last x) y ≡ last_after last (x ++ y)
last-append last x y =
    sym (greatest-append last (new_after last x) (new_after (greatest last (new_after last x)) y)) ∙ ap (greatest last) (sym (new_after-append last x y))

-- an order without a place
module _ (fault : Option Fault) (refuses : Bool) where
  one_placed : (told last : ℕ) (o : Order) (orders : List Order) → HaveNoPlace (o ∷ []) → placed_from fault refuses told last (o ∷ orders)
      ≡ after_order (Some o) (placed_from fault refuses (told_after told last (submissions (o ∷ []))) (last_after last (submissions (o ∷ []))) orders)
  one_placed told last (order.Submit batch) orders none = refl
  one_placed told last (order.SubmitAs request batch) orders none = refl
  one_placed told last (order.SubmitAt place request batch) orders none = absurd none
  one_placed told last order.Cut orders none = refl
  one_placed told last (order.Seen line epoch) orders none = refl
  one_placed told last (order.Answer vertex wanted) orders none = refl
  one_placed told last (order.Copy copy) orders none = refl
  one_placed told last (order.Say note) orders none = refl

  head_none : (o : Order) (orders : List Order) → HaveNoPlace (o ∷ orders) → HaveNoPlace (o ∷ []) × HaveNoPlace orders
  head_none (order.Submit batch) orders none = (tt, none)
  head_none (order.SubmitAs request batch) orders none = (tt, none)
  head_none (order.SubmitAt place request batch) orders none = absurd none
  head_none order.Cut orders none = (tt, none)
  head_none (order.Seen line epoch) orders none = (tt, none)
  head_none (order.Answer vertex wanted) orders none = (tt, none)
  head_none (order.Copy copy) orders none = (tt, none)
  head_none (order.Say note) orders none = (tt, none)

  -- AND SOME, before others
  some_placed : (told last : ℕ) (taken orders : List Order) → HaveNoPlace taken → placed_from fault refuses told last (taken ++ orders)
      ≡ after_orders taken (placed_from fault refuses (told_after told last (submissions taken)) (last_after last (submissions taken)) orders)
  some_placed told last [] orders none = ap (λ (n : ℕ). placed_from fault refuses n last orders) (omega arith)
  some_placed told last (o ∷ taken) orders none =
      let parts = head_none o taken none in
      let s = submissions (o ∷ []) in
      let both : submissions (o ∷ taken) ≡ s ++ submissions taken = submissions-append (o ∷ []) taken in
      one_placed told last o (taken ++ orders) parts.0
      ∙ ap (after_order (Some o)) (some_placed (told_after told last s) (last_after last s) taken orders parts.1)
      ∙ ap (λ (q : Script). after_order (Some o) (after_orders taken q))
      ((λ i. placed_from fault refuses (told-append told last s (submissions taken) i) (last-append last s (submissions taken) i) orders)
      ∙ (λ i. placed_from fault refuses (told_after told last (sym both i)) (last_after last (sym both i)) orders))

  -- all of them stand as they are
  pub all_placed : (told last : ℕ) (orders : List Order) → HaveNoPlace orders → placed_from fault refuses told last orders ≡ record { orders = orders; fault = fault }
  all_placed told last [] none = refl
  all_placed told last (o ∷ orders) none =
      let parts = head_none o orders none in
      let s = submissions (o ∷ []) in
      one_placed told last o orders parts.0 ∙ ap (after_order (Some o)) (all_placed (told_after told last s) (last_after last s) orders parts.1)

-- what was asked for, at a disk: one order, as it is there
pub one_asks : (refuses : Bool) (told last : ℕ) (old new : Option Script) (o there : Order) → at_disk refuses told o ≡ Some there → Asks old new (Some (One o))
    → Asks (option_map (placed refuses told last) old) (option_map (placed refuses (told_by told last (Some (One there))) (last_by last (Some (One there)))) new) (Some (One there))
one_asks refuses told last None new o there is asks = tt
one_asks refuses told last (Some old) None o there is asks = absurd asks
one_asks refuses told last (Some old) (Some new) o there is asks =
    let s = submissions (there ∷ []) in
    let all : placed refuses told last old ≡ after_order (Some there) (placed refuses (told_after told last s) (last_after last s) new) =
    (λ i. placed_from (asks.3 i) refuses told last ((asks.2 ∙ ap (λ (l : List Order). l ++ new.orders) asks.1) i))
    ∙ ap (unless_gap (gap_at o) (λ next. placed_from new.fault refuses (told_after told last (submissions (next ∷ []))) (last_after last (submissions (next ∷ []))) new.orders)) is in
    (there ∷ [], refl, ap (λ (q : Script). q.orders) all, ap (λ (q : Script). q.fault) all)

-- a script goes on as another one does
pub same_then : (a b c : Option Script) → SameScript a b → SameScript b c → SameScript a c
same_then None b c one other = tt
same_then (Some a) None c one other = absurd one
same_then (Some a) (Some b) None one other = absurd other
same_then (Some a) (Some b) (Some c) one other = one ∙ other

-- a group is asked for that stands ahead
pub ahead_asks : (old : Option Script) (rest : Option (List ℕ)) (r : Reading) (ahead taken left : List Order) (stopped : Option (ℕ × LineFault)) (group : Vec Submitted Global)
    → SameScript old (script_ahead rest r ahead stopped) → IsOf (Epochs group) taken → ahead ≡ taken ++ left → Asks old (script_ahead rest r left stopped) (Some (Epochs group))
ahead_asks None rest r ahead taken left stopped group same is parts = tt
ahead_asks (Some old) None r ahead taken left stopped group same is parts = absurd same
ahead_asks (Some old) (Some input) r ahead taken left None group same is parts = (
  taken,
  is,
  ap (λ (q : Script). q.orders) same ∙ (ap (λ (l : List Order). l ++ (script_from r (text_lines input)).orders) parts ∙ append_assoc taken left (script_from r (text_lines input)).orders),
  ap (λ (q : Script). q.fault) same,
)
ahead_asks (Some old) (Some input) r ahead taken left (Some fault) group same is parts = (
  taken,
  is,
  ap (λ (q : Script). q.orders) same ∙ (ap (λ (l : List Order). l ++ []) parts ∙ append_assoc taken left []),
  ap (λ (q : Script). q.fault) same,
)

-- and a group
pub group_asks : (refuses : Bool) (told last : ℕ) (old new : Option Script) (group : Vec Submitted Global) → Asks old new (Some (Epochs group))
    → Asks (option_map (placed refuses told last) old) (option_map (placed refuses (told_by told last (Some (Epochs group))) (last_by last (Some (Epochs group)))) new) (Some (Epochs group))
group_asks refuses told last None new group asks = tt
group_asks refuses told last (Some old) None group asks = absurd asks
group_asks refuses told last (Some old) (Some new) group asks =
    let taken = asks.0 in
    let is = asks.1 in
    let all : placed refuses told last old ≡ after_orders taken (placed refuses (told_after told last group.items) (last_after last group.items) new) =
    (λ i. placed_from (asks.3 i) refuses told last (asks.2 i)) ∙ some_placed new.fault refuses told last taken new.orders is.2
    ∙ ap (λ (x : List Submitted). after_orders taken (placed_from new.fault refuses (told_after told last x) (last_after last x) new.orders)) is.0 in
    (taken, is, ap (λ (q : Script). q.orders) all, ap (λ (q : Script). q.fault) all)

-- or nothing
pub none_asks : (refuses : Bool) (told last : ℕ) (old new : Option Script) → Asks old new None → Asks (option_map (placed refuses told last) old) (option_map (placed refuses told last) new) None
none_asks refuses told last None new asks = tt
none_asks refuses told last (Some old) None asks = absurd asks
none_asks refuses told last (Some old) (Some new) asks =
    let all : placed refuses told last old ≡ record { orders = []; fault = old.fault } = ap (placed_from old.fault refuses told last) asks.0 in
    (ap (λ (q : Script). q.orders) all, ap (λ (q : Script). q.fault) all ∙ asks.1)

-- a gap is the fault to which a script comes there
pub gap_told : (refuses : Bool) (told last : ℕ) (old new : Option Script) (o : Order) → at_disk refuses told o ≡ None → Asks old new (Some (One o)) → ComesTo (option_map (placed refuses told last) old) (gap_at o)
gap_told refuses told last None new o none asks = tt
gap_told refuses told last (Some old) None o none asks = absurd asks
gap_told refuses told last (Some old) (Some new) o none asks =
    let all : placed refuses told last old ≡ faulty (gap_at o) =
    (λ i. placed_from (asks.3 i) refuses told last ((asks.2 ∙ ap (λ (l : List Order). l ++ new.orders) asks.1) i))
    ∙ ap (unless_gap (gap_at o) (λ next. placed_from new.fault refuses (told_after told last (submissions (next ∷ []))) (last_after last (submissions (next ∷ []))) new.orders)) none in
    (ap (λ (q : Script). q.orders) all, ap (λ (q : Script). q.fault) all)

-- and one without orders comes to its own
pub comes_there : (refuses : Bool) (told last : ℕ) (s : Option Script) (f : Fault) → ComesTo s f → ComesTo (option_map (placed refuses told last) s) f
comes_there refuses told last None f comes = tt
comes_there refuses told last (Some s) f comes =
    let all : placed refuses told last s ≡ record { orders = []; fault = s.fault } = ap (placed_from s.fault refuses told last) comes.0 in
    (ap (λ (q : Script). q.orders) all, ap (λ (q : Script). q.fault) all ∙ comes.1)

-- which is told
pub line_told : (overlong refuses : Bool) (told last : ℕ) (s : Option Script) (f : Fault) → TellsLine overlong s f → TellsLine overlong (option_map (placed refuses told last) s) f
line_told overlong refuses told last s (Line n fault) (inl comes) = inl (comes_there refuses told last s (Line n fault) comes)
line_told overlong refuses told last s (Line n fault) (inr long) = inr long
line_told overlong refuses told last s f tells = tt

-- WHAT IS ASKED FOR of a script is asked for of it at a disk
pub asks_at : (refuses : Bool) (told last : ℕ) (old new : Option Script) (asked there : Option Asked) → StandsAt refuses told asked there → Asks old new asked
    → Asks (option_map (placed refuses told last) old) (option_map (placed refuses (told_by told last there) (last_by last there)) new) there
asks_at refuses told last old new None there stands asks =
    subst (λ (a : Option Asked). Asks (option_map (placed refuses told last) old) (option_map (placed refuses (told_by told last a) (last_by last a)) new) a) (sym stands) (none_asks refuses told last old new asks)
asks_at refuses told last old new (Some (Epochs group)) there stands asks =
    subst (λ (a : Option Asked). Asks (option_map (placed refuses told last) old) (option_map (placed refuses (told_by told last a) (last_by last a)) new) a) (sym stands) (group_asks refuses told last old new group asks)
asks_at refuses told last old new (Some (One o)) None stands asks = absurd stands
asks_at refuses told last old new (Some (One o)) (Some (Epochs group)) stands asks = absurd stands
asks_at refuses told last old new (Some (One o)) (Some (One there)) stands asks = one_asks refuses told last old new o there stands asks

-- or a gap is told
pub gap_asked : (overlong refuses : Bool) (told last : ℕ) (old new : Option Script) (asked : Option Asked) (f : Fault) → IsGapAt refuses told asked f → Asks old new asked
    → TellsLine overlong (option_map (placed refuses told last) old) f
gap_asked overlong refuses told last old new None f is asks = absurd is
gap_asked overlong refuses told last old new (Some (Epochs group)) f is asks = absurd is
gap_asked overlong refuses told last old new (Some (One o)) f is asks =
    subst (TellsLine overlong (option_map (placed refuses told last) old)) (sym is.1) (inl (gap_told refuses told last old new o is.0 asks))

-- what was taken of what stands ahead is asked for
pub taken_asks : (s : Option Script) (rest : Option (List ℕ)) (r : Reading) (before after : List Order) (stopped : Option (ℕ × LineFault)) (asked : Option Asked)
    → SameScript s (script_ahead rest r before stopped) → 0 < length before
    → IfSome asked (λ a. (taken : List Order) × IsOf a taken × (before ≡ taken ++ after)) → IfNone asked ((before ≡ []) × (after ≡ []))
    → Asks s (script_ahead rest r after stopped) asked
taken_asks s rest r before after stopped None same some is none = absurd (omega (arith, some, ap length none.0))
taken_asks s rest r before after stopped (Some a) same some is none =
    asks_through s (script_ahead rest r before stopped) (script_ahead rest r after stopped) (Some a) same (asks_ahead r before is.0 after stopped rest a is.1 is.2)

pub asks_if_ok : (r : Result (Option Asked) Fault) (refuses : Bool) (told last : ℕ) (old new : Option Script) (asked : Option Asked) → IfOk r (StandsAt refuses told asked) → Asks old new asked
    → IfOk r (λ there. Asks (option_map (placed refuses told last) old) (option_map (placed refuses (told_by told last there) (last_by last there)) new) there)
asks_if_ok (Ok there) refuses told last old new asked stands asks = asks_at refuses told last old new asked there stands asks
asks_if_ok (Err f) refuses told last old new asked stands asks = tt

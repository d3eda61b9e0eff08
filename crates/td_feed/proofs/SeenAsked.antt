-- What orders say was seen.
use Rattle.std.proofs.Common.{◌≡◌, ℕ, zero, suc, List, [], ◌∷◌, ◌++◌, inl, inr, ⊎_elim, refl, sym, ap, ◌∙◌, subst}
use Rattle.std.specs.Prelude.{Option, Some, None, Result, Ok, Err, OnOk, IsErr}
use Rattle.td_pool.specs.declared.error.PoolError.{PoolError}
use Rattle.td_console.specs.declared.faults.Fault.{Fault}
use Rattle.td_stamp.specs.declared.values.Entry.{Entry}
use Rattle.td_orders.specs.declared.order.Order.{Order}
use Rattle.td_orders.specs.declared.order.Order.TheVariants as order
use Rattle.td_orders.specs.declared.source.Asked.{Asked}
use Rattle.td_orders.specs.Orders.{order_for}
use Rattle.td_orders.specs.Scripts.{SeeNothing}
use Rattle.td_feed.specs.Held.{seen_after, then_seen, asked_seen, seen_with, told_seen, TellsSeen}
use Rattle.td_feed.proofs.Held.{seen_append}

-- nothing more was seen after orders that say nothing
pub nothing_seen : (orders : List Order) → SeeNothing orders → (last : ℕ) → seen_after last orders ≡ last
nothing_seen [] none last = refl
nothing_seen (order.Submit batch ∷ orders) none last = nothing_seen orders none last
nothing_seen (order.SubmitAs request batch ∷ orders) none last = nothing_seen orders none last
nothing_seen (order.SubmitAt place request batch ∷ orders) none last = nothing_seen orders none last
nothing_seen (order.Cut ∷ orders) none last = nothing_seen orders none last
nothing_seen (order.Seen line epoch ∷ orders) none last = absurd none
nothing_seen (order.Answer vertex wanted ∷ orders) none last = nothing_seen orders none last
nothing_seen (order.Copy copy ∷ orders) none last = nothing_seen orders none last
nothing_seen (order.Say note ∷ orders) none last = nothing_seen orders none last

pub one_for : (request : ℕ) (batch : List Entry) (orders : List Order) → SeeNothing orders → SeeNothing (order_for request batch ∷ orders)
one_for zero batch orders none = none
one_for (suc q) batch orders none = none

-- with what was asked for
pub seen_with_more : (first : Option ℕ) (done more : List Order) (asked : Asked) → ((last : ℕ) → asked_seen last asked ≡ seen_after last more) → seen_with (then_seen first done) asked ≡ then_seen first (done ++ more)
seen_with_more None done more asked same = refl
seen_with_more (Some first) done more asked same = ap Some (same (seen_after first done) ∙ sym (seen_append first done more))

-- before the first order
pub none_seen : (first : Option ℕ) → then_seen first [] ≡ first
none_seen None = refl
none_seen (Some first) = refl

-- what was told last, after what was told before
pub told_over : (before first seen next : Option ℕ) (done more : List Order) → seen ≡ then_seen first done → next ≡ then_seen first more → told_seen (told_seen before seen) next ≡ told_seen before next
told_over before first seen next done more was is = (λ i. told_seen (told_seen before (was i)) (is i)) ∙ by first ∙ ap (told_seen before) (sym is)
  where
    by : (first : Option ℕ) → told_seen (told_seen before (then_seen first done)) (then_seen first more) ≡ told_seen before (then_seen first more)
    by None = refl
    by (Some first) = refl

-- some orders were taken, and what they say was seen was told
pub tells_taken : (r : Result (Unit {0}) Fault) (first seen before after : Option ℕ) (all taken later : List Order) → all ≡ taken ++ later → OnOk r (later ≡ []) → after ≡ told_seen before seen → seen ≡ then_seen first taken
    → TellsSeen r first all before after
tells_taken r first seen before after all taken later parts whole told is = record { taken = taken; later = later; parts = parts; whole = whole; told = inl (told ∙ ap (told_seen before) is) }

-- how a feed ended, where what hindered a task may stand in place of what did not pass
pub seen_ended : {first before after : Option ℕ} {all : List Order} (obeyed r : Result (Unit {0}) Fault) (worked : Result (Unit {0}) PoolError) → OnOk r ((obeyed ≡ Ok tt) × (worked ≡ Ok tt))
    → TellsSeen obeyed first all before after → TellsSeen r first all before after
seen_ended obeyed (Ok d) worked same is = record {
  taken = is.taken;
  later = is.later;
  parts = is.parts;
  whole = subst (λ (q : Result (Unit {0}) Fault). OnOk q (is.later ≡ [])) same.0 is.whole;
  told = ⊎_elim inl (λ none. let no = subst (λ (q : Result (Unit {0}) Fault). IsErr q) same.0 none.0 in cc) is.told;
}
seen_ended obeyed (Err f) worked same is = record { taken = is.taken; later = is.later; parts = is.parts; whole = tt; told = ⊎_elim inl (λ none. inr (refl, none.1)) is.told }

-- nothing was told, since there was a refusal before
pub tells_nothing : (f : Fault) (first before : Option ℕ) (all : List Order) → TellsSeen (Err f) first all before before
tells_nothing f first before all = record { taken = []; later = all; parts = refl; whole = tt; told = inr (refl, refl) }

use Rattle.std.proofs.Common.{ℕ, zero, suc, get_or, ◌<◌, All, length, length-append, subst, ◌≡◌, ◌++◌, [], ◌∷◌, List, ap, sym, ◌∙◌, append_assoc, arith}
use Rattle.std.proofs.lemmas.Grind.{common_steps}
use Rattle.std.proofs.lemmas.List.Elements.{All-append}
use Rattle.std.specs.Prelude.{Some, max}
use Rattle.td_journal.specs.Numbers.{greatest, may_come}
use Rattle.td_journal.specs.declared.payload.Submitted.{Submitted}
use Rattle.td_store.specs.group.Groups.{may_follow}
use Rattle.td_orders.specs.declared.order.Order.{Order}
use Rattle.td_orders.specs.Orders.{submissions}
use Rattle.td_orders.specs.Scripts.{FitsOne}
use Rattle.td_orders.specs.OrderProofs.{greatest-append, one_follows, submissions-append, notes-append}
use Rattle.td_orders.proofs.Placed.{no_place-append}
use Rattle.td_orders.proofs.Unseen.{see_nothing-append, submits_only}
use Rattle.td_orders.proofs.source.take_group.Goals as goal

some_more : (xs : List Submitted) (x : Submitted) → xs ++ x ∷ [] ≡ [] → ⊥
some_more [] x is = let no = is in cc
some_more (y ∷ ys) x is = let no = is in cc

one_of : (P : Submitted → Type 0) (s : Submitted) → P s → All P (s ∷ [])
one_of P s is = at
  where
    at : (k : ℕ) (d : Submitted) → k < 1 → P (get_or (s ∷ []) k d)
    at zero d less = is
    at (suc k) d less = absurd (omega (arith, less))

pub returns-after-loop-epoch-clause-few : goal.returns-after-loop-epoch-clause-few
returns-after-loop-epoch-clause-few c = omega (arith, c.loop-epoch.invariant.few)

pub returns-then-is_err-clause-few : goal.returns-then-is_err-clause-few
returns-then-is_err-clause-few c = omega (arith, c.loop-epoch.invariant.few, ap length c.reserve.ensures.items)

pub returns-in_default-clause-few : goal.returns-in_default-clause-few
returns-in_default-clause-few c = omega (arith, c.loop-epoch.invariant.few, ap length c.reserve.ensures.items)

pub returns-then-is_err-clause-fits : goal.returns-then-is_err-clause-fits
returns-then-is_err-clause-fits c = subst (All (FitsOne c.args.room.now)) (sym c.reserve.ensures.items) c.loop-epoch.invariant.fits

pub returns-after-loop-epoch-clause-none : goal.returns-after-loop-epoch-clause-none
returns-after-loop-epoch-clause-none c = c.loop-epoch.invariant.none

pub returns-then-is_err-clause-none : goal.returns-then-is_err-clause-none
returns-then-is_err-clause-none c = λ none. c.loop-epoch.invariant.none (sym c.reserve.ensures.items ∙ none)

pub returns-in_default-clause-none : goal.returns-in_default-clause-none
returns-in_default-clause-none c = λ none.
    let before = c.loop-epoch.invariant.none (sym c.reserve.ensures.items ∙ none) in
    let taken = c.take_fitting.ensures.none in
    let not_some = c.in_default.not-Some in
    grind (arith, common_steps)

pub loop-epoch-preserved : goal.loop-epoch-preserved
loop-epoch-preserved c =
    let so_far = c.loop-epoch.invariant in
    let first = c.args.room.now.last in
    let group = c.loop-epoch.group.items in
    let s = c.in-Some.submitted in
    let next = c.in-Some.ensures.some in
    let done = so_far.taken.0 in
    let pushed : c.push_reserved.new.self.items ≡ group ++ s ∷ [] = c.push_reserved.ensures.items ∙ ap (λ (l : List Submitted). l ++ s ∷ []) c.reserve.ensures.items in
    let comes = ap (λ n. may_come (Some n) s.request) (sym so_far.last) ∙ next.4 in
    record {
      taken = (
        done ++ next.0 ∷ [],
        so_far.taken.1 ∙ (ap (λ (l : List Order). done ++ l) next.1 ∙ sym (append_assoc done (next.0 ∷ []) c.take_fitting.new.orders.items)),
        submissions-append done (next.0 ∷ []) ∙ (ap (λ (l : List Submitted). l ++ submissions (next.0 ∷ [])) so_far.taken.2
            ∙ (ap (λ (l : List Submitted). group ++ l) next.2 ∙ sym pushed)),
        notes-append done (next.0 ∷ []) ∙ (λ i. so_far.taken.3 i ++ next.3 i),
        no_place-append done (next.0 ∷ []) so_far.taken.4 next.5,
        see_nothing-append done (next.0 ∷ []) so_far.taken.5 (submits_only next.0 s next.2),
      );
      none = λ none. absurd (some_more group s (sym pushed ∙ none));
      rising = ap (may_follow (Some first)) pushed ∙ one_follows first group s so_far.rising comes;
      few = omega (arith, ap length pushed, length-append group (s ∷ []));
      fits = subst (All (FitsOne c.args.room.now)) (sym pushed) (All-append (FitsOne c.args.room.now) group (s ∷ []) so_far.fits (one_of (FitsOne c.args.room.now) s next.6));
      last = c.max-last.ensures ∙ (ap (λ n. max n s.request) so_far.last ∙ (sym (greatest-append first group (s ∷ [])) ∙ sym (ap (greatest first) pushed)));
    }

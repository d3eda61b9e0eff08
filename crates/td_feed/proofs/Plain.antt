-- What an input of a feed asks for: nothing beside epochs and cuts.
use Rattle.std.proofs.Common.{◌≡◌, ◌⊎◌, ⊎_elim, ℕ, true, false, List, [], ◌∷◌, ◌++◌, map, refl, sym, ◌∙◌, subst}
use Rattle.std.specs.Prelude.{Result, Ok, Err, IfErr, IsErr, All, None}
use Rattle.std.proofs.lemmas.List.Elements.{All-head, All-tail}
use Rattle.td_plan.specs.Lines.{Line as PlanLine}
use Rattle.td_console.specs.declared.faults.LineFault.{LineFault}
use Rattle.td_console.specs.declared.faults.Fault.{Fault}
use Rattle.td_console.specs.declared.faults.Fault.TheVariants.{Line, Output, Input, Memory}
use Rattle.td_orders.specs.declared.order.Order.{Order}
use Rattle.td_orders.specs.declared.order.Order.TheVariants as order
use Rattle.td_orders.specs.Noted.{Aside, as_asked, ComeOf}
use Rattle.td_orders.specs.Orders.{IsAccepted, orders_of, notes_in}
use Rattle.td_orders.specs.Scripts.{Script, is_of_lines}
use Rattle.td_feed.specs.Caused.{IsOfSeen, IsOfStream, RefusesFor}
use Rattle.td_feed.proofs.Causes.{is_other}
use Rattle.td_feed.proofs.Counting.{fault_of}

-- no notes
unnoted : (plan : List PlanLine) (os : List Order) → All (IsAccepted plan) os → notes_in os ≡ []
unnoted plan [] is = refl
unnoted plan (order.Submit batch ∷ os) is = unnoted plan os (All-tail (IsAccepted plan) (order.Submit batch) os is)
unnoted plan (order.SubmitAs request batch ∷ os) is = unnoted plan os (All-tail (IsAccepted plan) (order.SubmitAs request batch) os is)
unnoted plan (order.SubmitAt place request batch ∷ os) is = absurd (All-head (IsAccepted plan) (order.SubmitAt place request batch) os is)
unnoted plan (order.Cut ∷ os) is = unnoted plan os (All-tail (IsAccepted plan) order.Cut os is)
unnoted plan (order.Seen line epoch ∷ os) is = absurd (All-head (IsAccepted plan) (order.Seen line epoch) os is)
unnoted plan (order.Answer vertex wanted ∷ os) is = absurd (All-head (IsAccepted plan) (order.Answer vertex wanted) os is)
unnoted plan (order.Copy copy ∷ os) is = absurd (All-head (IsAccepted plan) (order.Copy copy) os is)
unnoted plan (order.Say note ∷ os) is = absurd (All-head (IsAccepted plan) (order.Say note) os is)

-- so nothing comes of them
nothing_done : (asked done : List Aside) → ComeOf asked done → asked ≡ [] → done ≡ []
nothing_done asked [] came is = refl
nothing_done asked (d ∷ ds) came is = let no : as_asked d ∷ map as_asked ds ≡ [] = came ∙ is in cc

pub none_done : (plan : List PlanLine) (os : List Order) (done : List Aside) → All (IsAccepted plan) os → ComeOf (notes_in os) done → done ≡ []
none_done plan os done plain came = nothing_done (notes_in os) done came (unnoted plan os plain)

-- what stands among some
among : {X : Type 0} (P : X → Type 0) (before : List X) (x : X) (after : List X) → All P (before ++ x ∷ after) → P x
among P [] x after all = All-head P x after all
among P (y ∷ before) x after all = among P before x after (All-tail P y (before ++ x ∷ after) all)

-- no epoch was seen
unseen : (plan : List PlanLine) (o : Order) (n : ℕ) (fault : LineFault) → IsAccepted plan o → IsOfSeen o n fault → ⊥
unseen plan (order.Seen line epoch) n fault plain seen = plain
unseen plan (order.Submit batch) n fault plain seen = seen
unseen plan (order.SubmitAs request batch) n fault plain seen = seen
unseen plan (order.SubmitAt place request batch) n fault plain seen = seen
unseen plan order.Cut n fault plain seen = seen
unseen plan (order.Answer vertex wanted) n fault plain seen = seen
unseen plan (order.Copy copy) n fault plain seen = seen
unseen plan (order.Say note) n fault plain seen = seen

-- the script of these orders, which has no fault
abbrev pub listed : List Order → Script
listed os = record { orders = os; fault = None }

-- and no line of it is refused
no_line : {W : Type 0} (has : W → ℕ → Type 0) (plan : List PlanLine) (os : List Order) (n : ℕ) (fault : LineFault) → All (IsAccepted plan) os → IsOfStream false (listed os) has (Line n fault) → ⊥
no_line has plan os n fault plain is =
    ⊎_elim (λ first. absurd (let no = first in cc))
    (⊎_elim (λ seen. unseen plan seen.order n fault (among (IsAccepted plan) seen.before seen.order seen.after (subst (All (IsAccepted plan)) seen.parts plain)) seen.seen)
    (λ long. absurd (let no : false ≡ true = long.1 in cc))) is

-- A CAUSE, of what was asked for
abbrev as_orders : List Order → Result (List Order) Fault
as_orders os = Ok os

pub for_orders : {W : Type 0} (has : W → ℕ → Type 0) (plan : List PlanLine) (input : List ℕ) (os : List Order) (result : Result (Unit {0}) Fault) (before after : W) → orders_of plan input ≡ as_orders os → All (IsAccepted plan) os
    → IfErr result (IsOfStream false (listed os) has) → RefusesFor has plan input result before after
for_orders has plan input os result before after is plain cause = record {
  fault = subst (λ (r : Result (List Order) Fault). IfErr r (λ _. IsErr result × (after ≡ before))) (sym is) tt;
  line = λ n fault same. absurd (no_line has plan os n fault plain (subst (λ (r : Result (Unit {0}) Fault). IfErr r (IsOfStream false (listed os) has)) same cause));
  output = λ same. subst (λ (r : Result (Unit {0}) Fault). IfErr r (IsOfStream false (listed os) has)) same cause;
}

-- where nothing was written
always : {A E : Type 0} {P : Type 0} (r : Result A E) → P → IfErr r (λ _. P)
always (Ok x) holds = tt
always (Err e) holds = holds

-- of a fault that is neither a line's nor the writer's
pub for_other : {W : Type 0} (has : W → ℕ → Type 0) (plan : List PlanLine) (input : List ℕ) (f : Fault) (w : W) → is_other f ≡ true → RefusesFor has plan input (Err f) w w
for_other has plan input f w other = record {
  fault = always (orders_of plan input) (refl, refl);
  line = λ n fault is. absurd (let no : is_other (Line n fault) ≡ true = subst (λ (x : Fault). is_other x ≡ true) (fault_of f (Line n fault) is) other in cc);
  output = λ is. absurd (let no : is_other Output ≡ true = subst (λ (x : Fault). is_other x ≡ true) (fault_of f Output is) other in cc);
}

-- of one that the lines have
pub for_lines : {W : Type 0} (has : W → ℕ → Type 0) (plan : List PlanLine) (input : List ℕ) (f : Fault) (w : W) → is_of_lines f ≡ true
    → (f ≡ Input) ⊎ ((f ≡ Memory) ⊎ (orders_of plan input ≡ Err f)) → RefusesFor has plan input (Err f) w w
for_lines has plan input f w of why = record {
  fault = always (orders_of plan input) (refl, refl);
  line = λ n fault is.
      let same = fault_of f (Line n fault) is in
      ⊎_elim (λ read. absurd (let no : Input ≡ Line n fault = sym read ∙ same in cc))
      (⊎_elim (λ memory. absurd (let no : Memory ≡ Line n fault = sym memory ∙ same in cc)) (λ first. subst (λ (x : Fault). orders_of plan input ≡ Err x) same first)) why;
  output = λ is. absurd (let no : is_of_lines Output ≡ true = subst (λ (x : Fault). is_of_lines x ≡ true) (fault_of f Output is) of in cc);
}

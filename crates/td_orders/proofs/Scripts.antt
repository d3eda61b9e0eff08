-- Reading what is asked for line by line.
use Rattle.std.proofs.Common.{◌≡◌, ◌⊎◌, ⊎_elim, inl, inr, ℕ, ◌+◌, ◌<◌, ◌↔◌, Bool, true, false, List, [], ◌∷◌, ◌++◌, length, length-append, arith, Option, Some, None, Result, Ok, Err, refl, sym, ap, ◌∙◌, subst, append_assoc, append-nil}
use Rattle.std.specs.Prelude.{if◌then◌else◌, IfOk, IfErr, IfSome}
use Rattle.std.specs.Option.{IsSome, option_to_list}
use Rattle.td_stamp.specs.Orders.{entry_cmp}
use Rattle.td_stamp.specs.Bag.{bag_of}
use Rattle.td_plan.specs.Lines.{Line as PlanLine}
use Rattle.td_plan.specs.Inputs.{is_input_of}
use Rattle.td_plan.specs.Text.{text_lines}
use Rattle.td_console.specs.declared.data_line.DataLine.TheVariants.{PassedOver, Record, Close}
use Rattle.td_console.specs.declared.faults.LineFault.{LineFault}
use Rattle.td_console.specs.declared.faults.LineFault.TheVariants.{NoSuchInput}
use Rattle.td_console.specs.declared.faults.Fault.{Fault}
use Rattle.td_console.specs.declared.faults.Fault.TheVariants.{Line, Memory}
use Rattle.td_questions.specs.Words.{fold_of}
use Rattle.td_orders.specs.declared.order.FeedLine.{FeedLine}
use Rattle.td_orders.specs.declared.order.FeedLine.TheVariants.{Data, Request, At, Cut, Seen, Ask, Copy}
use Rattle.td_orders.specs.declared.order.Order.{Order}
use Rattle.td_orders.specs.declared.source.Asked.{Asked}
use Rattle.td_orders.specs.declared.source.Asked.TheVariants.{One}
use Rattle.td_orders.specs.declared.order.Order.TheVariants as order
use Rattle.td_orders.specs.declared.note.Flaw.{Flaw}
use Rattle.td_orders.specs.Orders.{Orders, Gives, no_orders, numbered, order_at, has_no_number, may_be_placed, is_between, with_cut, with_request, with_place, with_seen, with_answer, with_question, with_copy, with_line, feed_line_of, service_line_of, orders_from, and_then, ended}
use Rattle.td_orders.specs.Lines.{TakesLine, IsOverlong, has_overlong}
use Rattle.td_orders.specs.Scripts.{ComesTo, TellsLine, FaultOfNext, faulty, fault_at_end, Script, Reading, ReadSoFar, refused, is_over, unless_over, flaw_in, unless_refused, judged, with_said, after_line, onward, note_of, with_next, may_end, script_after, script_from, after_order, after_orders, script_on, script_ahead, Completes, HasFault, Asks, IsOf, SameScript, script_left}

-- orders that were read before others
abbrev prefixed : List Order → Orders → Orders
prefixed os read = record { orders = os ++ read.orders; place = read.place; request = read.request; current = read.current }

abbrev prefixed_if : List Order → Result Orders Fault → Result Orders Fault
prefixed_if os (Ok read) = Ok (prefixed os read)
prefixed_if os (Err fault) = Err fault

abbrev judged_prefixed : List Order → ReadSoFar → ReadSoFar
judged_prefixed os next = (next.0, prefixed os next.1)

abbrev judged_prefixed_if : List Order → Result ReadSoFar Fault → Result ReadSoFar Fault
judged_prefixed_if os (Ok next) = Ok (judged_prefixed os next)
judged_prefixed_if os (Err fault) = Err fault

abbrev reading_prefixed : List Order → Reading → Reading
reading_prefixed os r = record { plan = r.plan; placing = r.placing; hold = r.hold; questions = r.questions; copies = r.copies; limit = r.limit; number = r.number; flaw = r.flaw; read = prefixed os r.read }

abbrev reading_prefixed_if : List Order → Result Reading Fault → Result Reading Fault
reading_prefixed_if os (Ok r) = Ok (reading_prefixed os r)
reading_prefixed_if os (Err fault) = Err fault

abbrev prefixed_script : List Order → Script → Script
prefixed_script os script = record { orders = os ++ script.orders; fault = script.fault }

module _ (plan : List PlanLine) (os : List Order) where
  line_prefixed : (n : ℕ) (read : Orders) (said : Option FeedLine) → with_line plan n (prefixed os read) said ≡ prefixed_if os (with_line plan n read said)
  line_prefixed n read None = refl
  line_prefixed n read (Some Cut) = by (is_between read)
    where
      by : (b : Bool) → with_cut n (prefixed os read) b ≡ prefixed_if os (with_cut n read b)
      by true = λ i. Ok (record { orders = append_assoc os read.orders (order.Cut ∷ []) i; place = read.place; request = read.request; current = read.current })
      by false = refl
  line_prefixed n read (Some (Seen epoch)) = by (is_between read)
    where
      by : (b : Bool) → with_seen n epoch (prefixed os read) b ≡ prefixed_if os (with_seen n epoch read b)
      by true = λ i. Ok (record { orders = append_assoc os read.orders (order.Seen n epoch ∷ []) i; place = read.place; request = read.request; current = read.current })
      by false = refl
  line_prefixed n read (Some (Ask question)) = by (is_between read)
    where
      to : (o : Option ℕ) → with_answer n question.wanted (prefixed os read) o ≡ prefixed_if os (with_answer n question.wanted read o)
      to None = refl
      to (Some vertex) = λ i. Ok (record { orders = append_assoc os read.orders (order.Answer vertex question.wanted ∷ []) i; place = read.place; request = read.request; current = read.current })

      by : (b : Bool) → with_question plan n question (prefixed os read) b ≡ prefixed_if os (with_question plan n question read b)
      by true = to (fold_of plan question.vertex)
      by false = refl
  line_prefixed n read (Some (Copy copy)) = by (is_between read)
    where
      by : (b : Bool) → with_copy n copy (prefixed os read) b ≡ prefixed_if os (with_copy n copy read b)
      by true = λ i. Ok (record { orders = append_assoc os read.orders (order.Copy copy ∷ []) i; place = read.place; request = read.request; current = read.current })
      by false = refl
  line_prefixed n read (Some (Request q)) = by (has_no_number read)
    where
      by : (b : Bool) → with_request n q (prefixed os read) b ≡ prefixed_if os (with_request n q read b)
      by true = refl
      by false = refl
  line_prefixed n read (Some (At epoch)) = by (may_be_placed read)
    where
      by : (b : Bool) → with_place n epoch (prefixed os read) b ≡ prefixed_if os (with_place n epoch read b)
      by true = refl
      by false = refl
  line_prefixed n read (Some (Data PassedOver)) = refl
  line_prefixed n read (Some (Data Close)) =
      λ i. Ok (record { orders = append_assoc os read.orders (order_at read.place read.request (bag_of entry_cmp read.current) ∷ []) i; place = None; request = 0; current = [] })
  line_prefixed n read (Some (Data (Record input rec))) = by (is_input_of plan input)
    where
      by : (b : Bool) → (if b then Ok (record { orders = os ++ read.orders; place = read.place; request = read.request; current = read.current ++ record { input = input; rec = rec } ∷ [] }) else Err (Line n NoSuchInput))
          ≡ prefixed_if os (if b then Ok (record { orders = read.orders; place = read.place; request = read.request; current = read.current ++ record { input = input; rec = rec } ∷ [] }) else Err (Line n NoSuchInput))
      by true = refl
      by false = refl

  -- and where an epoch may be refused
  said_prefixed : (limit : Option ℕ) (n : ℕ) (flaw : Option (ℕ × Flaw)) (read : Orders) (line : List ℕ) (said : Option FeedLine)
      → with_said plan limit n flaw (prefixed os read) line said ≡ judged_prefixed_if os (with_said plan limit n flaw read line said)
  said_prefixed limit n (Some why) read line None = refl
  said_prefixed limit n (Some why) read line (Some Cut) = refl
  said_prefixed limit n (Some why) read line (Some (Seen epoch)) = refl
  said_prefixed limit n (Some why) read line (Some (Ask question)) = refl
  said_prefixed limit n (Some why) read line (Some (Copy copy)) = refl
  said_prefixed limit n (Some why) read line (Some (Request q)) = refl
  said_prefixed limit n (Some why) read line (Some (At epoch)) = refl
  said_prefixed limit n (Some why) read line (Some (Data PassedOver)) = refl
  said_prefixed limit n (Some why) read line (Some (Data (Record input rec))) = refl
  said_prefixed limit n (Some why) read line (Some (Data Close)) =
      λ i. Ok (None, record { orders = append_assoc os read.orders (order.Say (note_of read.request why) ∷ []) i; place = None; request = 0; current = [] })
  said_prefixed limit n None read line said = ap (judged limit n line (prefixed os read)) (line_prefixed n read said) ∙ by (with_line plan n read said)
    where
      over : (next : Orders) (b : Bool) → ◌≡◌ {A = Result ReadSoFar Fault} (Ok (unless_over n line (prefixed os read) (prefixed os next) b)) (judged_prefixed_if os (Ok (unless_over n line read next b)))
      over next true = refl
      over next false = refl

      fault_by : (fault : Fault) (l : Option ℕ) → unless_refused n line (prefixed os read) fault l ≡ judged_prefixed_if os (unless_refused n line read fault l)
      fault_by fault None = refl
      fault_by fault (Some most) = refl

      by : (w : Result Orders Fault) → judged limit n line (prefixed os read) (prefixed_if os w) ≡ judged_prefixed_if os (judged limit n line read w)
      by (Ok next) = over next (is_over limit (length next.current))
      by (Err fault) = fault_by fault limit

module _ (os : List Order) where
  onward_prefixed : (r : Reading) (w : Result ReadSoFar Fault) → onward (reading_prefixed os r) (judged_prefixed_if os w) ≡ reading_prefixed_if os (onward r w)
  onward_prefixed r (Ok next) = refl
  onward_prefixed r (Err fault) = refl

  next_prefixed : (r : Reading) (line : List ℕ) → with_next (reading_prefixed os r) line ≡ reading_prefixed_if os (with_next r line)
  next_prefixed r line =
      ap (onward (reading_prefixed os r)) (said_prefixed r.plan os r.limit r.number r.flaw r.read line (service_line_of r.placing r.hold r.questions r.copies line))
      ∙ onward_prefixed r (with_said r.plan r.limit r.number r.flaw r.read line (service_line_of r.placing r.hold r.questions r.copies line))

  script_prefixed : (r : Reading) (lines : List (List ℕ)) → script_from (reading_prefixed os r) lines ≡ prefixed_script os (script_from r lines)
  script_prefixed r [] = refl
  script_prefixed r (line ∷ lines) =
      ap (script_after (prefixed os r.read) (λ more. script_from more lines)) (next_prefixed r line)
      ∙ by (with_next r line) (λ more. script_prefixed more lines)
    where
      by : (w : Result Reading Fault) → ((more : Reading) → script_from (reading_prefixed os more) lines ≡ prefixed_script os (script_from more lines))
          → script_after (prefixed os r.read) (λ more. script_from more lines) (reading_prefixed_if os w) ≡ prefixed_script os (script_after r.read (λ more. script_from more lines) w)
      by (Ok more) rest = rest more
      by (Err fault) rest = refl

abbrev first_or : Order → List Order → Order
first_or o [] = o
first_or o (x ∷ xs) = x

abbrev orders_or : Result Orders Fault → List Order
orders_or (Ok read) = read.orders
orders_or (Err fault) = []

orders_in : {a b : Orders} → ◌≡◌ {A = Result Orders Fault} (Ok a) (Ok b) → a.orders ≡ b.orders
orders_in e = ap orders_or e

abbrev judged_or : Result ReadSoFar Fault → List Order
judged_or (Ok next) = next.1.orders
judged_or (Err fault) = []

judged_in : {a b : ReadSoFar} → ◌≡◌ {A = Result ReadSoFar Fault} (Ok a) (Ok b) → a.1.orders ≡ b.1.orders
judged_in e = ap judged_or e

-- one order at most
abbrev AtMostOne : List Order → Type 0
AtMostOne orders = (orders ≡ []) ⊎ ((order : Order) × (orders ≡ order ∷ []))

-- a line completes one order at most
module _ (plan : List PlanLine) (n : ℕ) where
  one_at_most : (read next : Orders) (said : Option FeedLine) → read.orders ≡ [] → with_line plan n read said ≡ Ok next → AtMostOne next.orders
  one_at_most read next None none is = absurd (let no = is in cc)
  one_at_most read next (Some Cut) none is = by (is_between read) is
    where
      by : (b : Bool) → with_cut n read b ≡ Ok next → AtMostOne next.orders
      by true e = inr (order.Cut, sym (orders_in e) ∙ ap (λ l. l ++ order.Cut ∷ []) none)
      by false e = absurd (let no = e in cc)
  one_at_most read next (Some (Seen epoch)) none is = by (is_between read) is
    where
      by : (b : Bool) → with_seen n epoch read b ≡ Ok next → AtMostOne next.orders
      by true e = inr (order.Seen n epoch, sym (orders_in e) ∙ ap (λ l. l ++ order.Seen n epoch ∷ []) none)
      by false e = absurd (let no = e in cc)
  one_at_most read next (Some (Ask question)) none is = by (is_between read) is
    where
      to : (o : Option ℕ) → with_answer n question.wanted read o ≡ Ok next → AtMostOne next.orders
      to None e = absurd (let no = e in cc)
      to (Some vertex) e = inr (order.Answer vertex question.wanted, sym (orders_in e) ∙ ap (λ l. l ++ order.Answer vertex question.wanted ∷ []) none)

      by : (b : Bool) → with_question plan n question read b ≡ Ok next → AtMostOne next.orders
      by true e = to (fold_of plan question.vertex) e
      by false e = absurd (let no = e in cc)
  one_at_most read next (Some (Copy copy)) none is = by (is_between read) is
    where
      by : (b : Bool) → with_copy n copy read b ≡ Ok next → AtMostOne next.orders
      by true e = inr (order.Copy copy, sym (orders_in e) ∙ ap (λ l. l ++ order.Copy copy ∷ []) none)
      by false e = absurd (let no = e in cc)
  one_at_most read next (Some (Request q)) none is = by (has_no_number read) is
    where
      by : (b : Bool) → with_request n q read b ≡ Ok next → AtMostOne next.orders
      by true e = inl (sym (orders_in e) ∙ none)
      by false e = absurd (let no = e in cc)
  one_at_most read next (Some (At epoch)) none is = by (may_be_placed read) is
    where
      by : (b : Bool) → with_place n epoch read b ≡ Ok next → AtMostOne next.orders
      by true e = inl (sym (orders_in e) ∙ none)
      by false e = absurd (let no = e in cc)
  one_at_most read next (Some (Data PassedOver)) none is = inl (sym (orders_in is) ∙ none)
  one_at_most read next (Some (Data Close)) none is =
      let o = order_at read.place read.request (bag_of entry_cmp read.current) in inr (o, sym (orders_in is) ∙ ap (λ l. l ++ o ∷ []) none)
  one_at_most read next (Some (Data (Record input rec))) none is = by (is_input_of plan input) is
    where
      by : (b : Bool) → (if b then Ok (record { orders = read.orders; place = read.place; request = read.request; current = read.current ++ record { input = input; rec = rec } ∷ [] }) else Err (Line n NoSuchInput)) ≡ Ok next
          → AtMostOne next.orders
      by true e = inl (sym (orders_in e) ∙ none)
      by false e = absurd (let no = e in cc)

  judged_one : (limit : Option ℕ) (flaw : Option (ℕ × Flaw)) (read : Orders) (next : ReadSoFar) (line : List ℕ) (said : Option FeedLine) → read.orders ≡ [] → with_said plan limit n flaw read line said ≡ Ok next
      → AtMostOne next.1.orders
  judged_one limit (Some why) read next line None none is = inl (sym (judged_in is) ∙ none)
  judged_one limit (Some why) read next line (Some Cut) none is = inl (sym (judged_in is) ∙ none)
  judged_one limit (Some why) read next line (Some (Seen epoch)) none is = inl (sym (judged_in is) ∙ none)
  judged_one limit (Some why) read next line (Some (Ask question)) none is = inl (sym (judged_in is) ∙ none)
  judged_one limit (Some why) read next line (Some (Copy copy)) none is = inl (sym (judged_in is) ∙ none)
  judged_one limit (Some why) read next line (Some (Request q)) none is = inl (sym (judged_in is) ∙ none)
  judged_one limit (Some why) read next line (Some (At epoch)) none is = inl (sym (judged_in is) ∙ none)
  judged_one limit (Some why) read next line (Some (Data PassedOver)) none is = inl (sym (judged_in is) ∙ none)
  judged_one limit (Some why) read next line (Some (Data (Record input rec))) none is = inl (sym (judged_in is) ∙ none)
  judged_one limit (Some why) read next line (Some (Data Close)) none is =
      let note = order.Say (note_of read.request why) in inr (note, sym (judged_in is) ∙ ap (λ l. l ++ note ∷ []) none)
  judged_one limit None read next line said none is = by (with_line plan n read said) refl is
    where
      over : (more : Orders) → AtMostOne more.orders → (b : Bool) → ◌≡◌ {A = Result ReadSoFar Fault} (Ok (unless_over n line read more b)) (Ok next) → AtMostOne next.1.orders
      over more one true e = inl (sym (judged_in e) ∙ none)
      over more one false e = subst (λ (l : List Order). AtMostOne l) (judged_in e) one

      fault_by : (fault : Fault) (l : Option ℕ) → unless_refused n line read fault l ≡ Ok next → AtMostOne next.1.orders
      fault_by fault None e = absurd (let no = e in cc)
      fault_by fault (Some most) e = inl (sym (judged_in e) ∙ none)

      by : (w : Result Orders Fault) → with_line plan n read said ≡ w → judged limit n line read w ≡ Ok next → AtMostOne next.1.orders
      by (Ok more) known e = over more (one_at_most read more said none known) (is_over limit (length more.current)) e
      by (Err fault) known e = fault_by fault limit e

-- with what is left of its orders
abbrev pub leaving : List Order → ReadSoFar → ReadSoFar
leaving left next = (next.0, record { orders = left; place = next.1.place; request = next.1.request; current = next.1.current })

module _ (r : Reading) where
  -- ONE LINE MORE, after which the last order was taken out, if there is one
  pub completes : (next : ReadSoFar) (line : List ℕ) (left : List Order) (taken : Option Order) → r.read.orders ≡ [] → with_said r.plan r.limit r.number r.flaw r.read line (service_line_of r.placing r.hold r.questions r.copies line) ≡ Ok next
      → next.1.orders ≡ left ++ option_to_list taken → (IsSome taken ↔ (0 < length next.1.orders)) → (left ≡ []) × Completes r (after_line r (leaving left next)) line taken
  completes next line left taken none is parts some = by (judged_one r.plan r.number r.limit r.flaw r.read next line (service_line_of r.placing r.hold r.questions r.copies line) none is) taken parts some
    where
      follows : (more : List (List ℕ)) → script_from r (line ∷ more) ≡ script_from (after_line r next) more
      follows more = ap (λ (w : Result ReadSoFar Fault). script_after r.read (λ q. script_from q more) (onward r w)) is

      nothing : (xs : List Order) → (0 < length xs → ⊥) → xs ≡ []
      nothing [] no_more = refl
      nothing (x ∷ xs) no_more = absurd (no_more (omega arith))

      nothing_before : (xs : List Order) (o p : Order) → p ∷ [] ≡ xs ++ o ∷ [] → (xs ≡ []) × (p ≡ o)
      nothing_before [] o p e = (refl, ap (first_or p) e)
      nothing_before (x ∷ []) o p e = absurd (let long = ap length e in omega (arith, long))
      nothing_before (x ∷ y ∷ xs) o p e = absurd (let long = ap length e in let rest = length-append xs (o ∷ []) in omega (arith, long, rest))

      by : AtMostOne next.1.orders → (taken : Option Order) → next.1.orders ≡ left ++ option_to_list taken → (IsSome taken ↔ (0 < length next.1.orders))
          → (left ≡ []) × Completes r (after_line r (leaving left next)) line taken
      by which None e some =
          let gone : next.1.orders ≡ [] = nothing next.1.orders (λ more. absurd (let is_some = some.1 more in cc)) in
          let empty : left ≡ [] = sym (append-nil left) ∙ sym e ∙ gone in (
            empty,
            λ more. follows more
                ∙ ap (λ (l : List Order). script_from (after_line r (leaving l next)) more) (gone ∙ sym empty),
          )
      by (inl gone) (Some o) e some = absurd (let long = ap length (sym gone ∙ e) in let rest = length-append left (o ∷ []) in omega (arith, long, rest))
      by (inr one) (Some o) e some =
          let both = nothing_before left o one.0 (sym one.1 ∙ e) in (
            both.0,
            λ more. follows more
                ∙ ap (λ (l : List Order). script_from (after_line r (leaving l next)) more) (one.1 ∙ ap (λ x. x ∷ []) both.1 ∙ ap (λ l. o ∷ l) (sym both.0))
                ∙ script_prefixed (o ∷ []) (after_line r (leaving left next)) more,
          )

  pub at_fault : (line : List ℕ) (fault : Fault) → r.read.orders ≡ [] → with_said r.plan r.limit r.number r.flaw r.read line (service_line_of r.placing r.hold r.questions r.copies line) ≡ Err fault → HasFault r line fault
  at_fault line fault none is more =
      ap (λ (w : Result ReadSoFar Fault). script_after r.read (λ q. script_from q more) (onward r w)) is ∙ (λ i. record { orders = none i; fault = Some fault })

-- an epoch that may be refused, by what its line came to
abbrev pub as_said : ReadSoFar → Result ReadSoFar Fault
as_said next = Ok next

-- it is refused, or memory ran out
pub gives_refused : (r a : Result ReadSoFar Fault) (wanted : ReadSoFar) → a ≡ Ok wanted → IfOk r (λ next. next ≡ wanted) → IfErr r (λ f. f ≡ Memory) → Gives r a
gives_refused (Ok next) a wanted is ok err = is ∙ ap as_said (sym ok)
gives_refused (Err fault) a wanted is ok err = inl err

pub refused_alone : (n : ℕ) (read : Orders) (why : Flaw) → read.orders ≡ [] → refused n read why ≡ refused n (numbered read.request no_orders) why
refused_alone n read why none = λ i. (Some (n, why), record { orders = none i; place = None; request = read.request; current = [] })

pub over_or_not : (limit : Option ℕ) (n : ℕ) (line : List ℕ) (read next : Orders) (w : Result Orders Fault) (b : Bool) → w ≡ Ok next → is_over limit (length next.current) ≡ b
    → judged limit n line read w ≡ Ok (unless_over n line read next b)
over_or_not limit n line read next w b is over = ap (judged limit n line read) is ∙ ap (λ (c : Bool). as_said (unless_over n line read next c)) over

pub fault_or_not : (limit : Option ℕ) (n : ℕ) (line : List ℕ) (read : Orders) (fault : Fault) (w : Result Orders Fault) → read.orders ≡ [] → w ≡ Err fault
    → judged limit n line read w ≡ unless_refused n line (numbered read.request no_orders) fault limit
fault_or_not limit n line read fault w none is = ap (judged limit n line read) is ∙ by limit
  where
    by : (l : Option ℕ) → unless_refused n line read fault l ≡ unless_refused n line (numbered read.request no_orders) fault l
    by None = refl
    by (Some most) = ap as_said (refused_alone n read (flaw_in line fault) none)

-- want of memory is given for anything
pub memory_gives : {A : Type 0} (r a : Result A Fault) → r ≡ Err Memory → Gives r a
memory_gives r a is = subst (λ (q : Result _ Fault). Gives q a) (sym is) (inl refl)

-- what is given, in the place of another
pub gives_as : {A : Type 0} (r a b : Result A Fault) → b ≡ a → Gives r a → Gives r b
gives_as (Ok x) a b is given = is ∙ given
gives_as (Err f) a b is given = ⊎_elim inl (λ e. inr (is ∙ e)) given

-- and the others stand for what was read then
pub line_read : (r : Reading) (next : ReadSoFar) (line : List ℕ) (left : Orders) (taken : Option Order) (m : ℕ) → r.read.orders ≡ []
    → with_said r.plan r.limit r.number r.flaw r.read line (service_line_of r.placing r.hold r.questions r.copies line) ≡ Ok next → next.1.orders ≡ left.orders ++ option_to_list taken → (IsSome taken ↔ (0 < length next.1.orders))
    → left ≡ record { orders = left.orders; place = next.1.place; request = next.1.request; current = next.1.current } → m ≡ r.number + 1
    → (left.orders ≡ []) × Completes r (record { plan = r.plan; placing = r.placing; hold = r.hold; questions = r.questions; copies = r.copies; limit = r.limit; number = m; flaw = next.0; read = left }) line taken
line_read r next line left taken m none is parts some same number =
    let all = completes r next line left.orders taken none is parts some in
    (all.0, subst (λ (q : Reading). Completes r q line taken) (λ i. record { plan = r.plan; placing = r.placing; hold = r.hold; questions = r.questions; copies = r.copies; limit = r.limit; number = sym number i; flaw = next.0; read = sym same i }) all.1)

-- what was asked for, as lines are taken
pub same_itself : (s : Option Script) → SameScript s s
same_itself None = tt
same_itself (Some s) = refl

module _ (r next : Reading) (rest left : Option (List ℕ)) where
  pub on_none : (s : Option Script) (line : List ℕ) → SameScript s (script_left rest r) → TakesLine rest left (Some line) → Completes r next line None → SameScript s (script_left left next)
  on_none s line same takes is = by s rest left same takes
    where
      by : (s : Option Script) (rest left : Option (List ℕ)) → SameScript s (script_left rest r) → TakesLine rest left (Some line) → SameScript s (script_left left next)
      by None rest left same takes = tt
      by (Some s) None left same takes = absurd same
      by (Some s) (Some t) None same takes = absurd takes
      by (Some s) (Some t) (Some l) same takes = same ∙ ap (script_from r) takes ∙ is (text_lines l)

  pub on_some : (s : Option Script) (line : List ℕ) (order : Order) → SameScript s (script_left rest r) → TakesLine rest left (Some line) → Completes r next line (Some order)
      → Asks s (script_left left next) (Some (One order))
  on_some s line order same takes is = by s rest left same takes
    where
      by : (s : Option Script) (rest left : Option (List ℕ)) → SameScript s (script_left rest r) → TakesLine rest left (Some line) → Asks s (script_left left next) (Some (One order))
      by None rest left same takes = tt
      by (Some s) None left same takes = absurd same
      by (Some s) (Some t) None same takes = absurd takes
      by (Some s) (Some t) (Some l) same takes =
          let is_so : s ≡ after_order (Some order) (script_from next (text_lines l)) = same ∙ ap (script_from r) takes ∙ is (text_lines l) in
          (order ∷ [], refl, ap (λ (t : Script). t.orders) is_so, ap (λ (t : Script). t.fault) is_so)

  -- at the end of the lines
  at_end : (s : Option Script) → SameScript s (script_left rest r) → TakesLine rest left None
      → IfSome s (λ s. (s.orders ≡ r.read.orders) × (s.fault ≡ fault_at_end r.number (may_end r.flaw (is_between r.read))) × ((l : List ℕ) × (left ≡ Some l)))
  at_end s same takes = by s rest left same takes
    where
      by : (s : Option Script) (rest left : Option (List ℕ)) → SameScript s (script_left rest r) → TakesLine rest left None
          → IfSome s (λ s. (s.orders ≡ r.read.orders) × (s.fault ≡ fault_at_end r.number (may_end r.flaw (is_between r.read))) × ((l : List ℕ) × (left ≡ Some l)))
      by None rest left same takes = tt
      by (Some s) None left same takes = absurd same
      by (Some s) (Some t) None same takes = absurd takes
      by (Some s) (Some t) (Some l) same takes =
          let is_so : s ≡ script_from r [] = same ∙ ap (script_from r) takes in
          (ap (λ (t : Script). t.orders) is_so, ap (λ (t : Script). t.fault) is_so, (l, refl))

  -- no epoch has begun
  pub on_end : (s : Option Script) → SameScript s (script_left rest r) → TakesLine rest left None → r.read.orders ≡ [] → fault_at_end r.number (may_end r.flaw (is_between r.read)) ≡ None → Asks s (script_left left r) None
  on_end s same takes none whole = by s left (at_end s same takes)
    where
      by : (s : Option Script) (left : Option (List ℕ)) → IfSome s (λ s. (s.orders ≡ r.read.orders) × (s.fault ≡ fault_at_end r.number (may_end r.flaw (is_between r.read))) × ((l : List ℕ) × (left ≡ Some l))) → Asks s (script_left left r) None
      by None left is = tt
      by (Some s) None is = let no = is.2.1 in cc
      by (Some s) (Some l) is = (is.0 ∙ none, is.1 ∙ whole)

  -- or one has, which is not closed
  pub on_open_end : (s : Option Script) (f : Fault) → SameScript s (script_left rest r) → TakesLine rest left None → r.read.orders ≡ [] → fault_at_end r.number (may_end r.flaw (is_between r.read)) ≡ Some f → ComesTo s f
  on_open_end s f same takes none open_one = by s (at_end s same takes)
    where
      by : (s : Option Script) → IfSome s (λ s. (s.orders ≡ r.read.orders) × (s.fault ≡ fault_at_end r.number (may_end r.flaw (is_between r.read))) × ((l : List ℕ) × (left ≡ Some l))) → ComesTo s f
      by None is = tt
      by (Some s) is = (is.0 ∙ none, is.1 ∙ open_one)

  -- a line's fault
  pub on_fault : (s : Option Script) (line : List ℕ) (f : Fault) → SameScript s (script_left rest r) → TakesLine rest left (Some line) → FaultOfNext r line f → (overlong : Bool) → TellsLine overlong s f
  on_fault s line f same takes is overlong = by f is
    where
      to : (s : Option Script) (rest left : Option (List ℕ)) (n : ℕ) (fault : LineFault) → SameScript s (script_left rest r) → TakesLine rest left (Some line) → HasFault r line (Line n fault) → ComesTo s (Line n fault)
      to None rest left n fault same takes has = tt
      to (Some s) None left n fault same takes has = absurd same
      to (Some s) (Some t) None n fault same takes has = absurd takes
      to (Some s) (Some t) (Some l) n fault same takes has =
          let is_so : s ≡ faulty (Line n fault) = same ∙ ap (script_from r) takes ∙ has (text_lines l) in
          (ap (λ (t : Script). t.orders) is_so, ap (λ (t : Script). t.fault) is_so)

      by : (f : Fault) → FaultOfNext r line f → TellsLine overlong s f
      by (Line n fault) is = inl (to s rest left n fault same takes is)
      by f is = tt

-- A LINE'S FAULT, as it is handed on
pub fault_told : (r : Reading) (line : List ℕ) (f : Fault) → HasFault r line f → FaultOfNext r line f
fault_told r line (Line n fault) has = has
fault_told r line f has = tt

-- WHAT STANDS AHEAD
pub same_through : (a b c : Option Script) → SameScript a b → SameScript b c → SameScript a c
same_through None b c ab bc = tt
same_through (Some a) None c ab bc = absurd ab
same_through (Some a) (Some b) None ab bc = absurd bc
same_through (Some a) (Some b) (Some c) ab bc = ab ∙ bc

pub asks_through : (a b c : Option Script) (asked : Option Asked) → SameScript a b → Asks b c asked → Asks a c asked
asks_through None b c asked ab bc = tt
asks_through (Some a) None c asked ab bc = absurd ab
asks_through (Some a) (Some b) c asked ab bc = subst (λ s. Asks (Some s) c asked) (sym ab) bc

-- a line was added
pub line_added : (r next : Reading) (before after : List Order) (stopped : Option (ℕ × LineFault)) (rest left : Option (List ℕ)) (line : List ℕ)
    → TakesLine rest left (Some line)
    → ((more : List (List ℕ)) → script_on r before None (line ∷ more) ≡ script_on next after stopped more)
    → SameScript (script_ahead rest r before None) (script_ahead left next after stopped)
line_added r next before after stopped None left line takes added = tt
line_added r next before after stopped (Some t) None line takes added = absurd takes
line_added r next before after stopped (Some t) (Some l) line takes added = ap (script_on r before None) takes ∙ added (text_lines l)

-- an order was put ahead, after those that stand there, or a fault
pub one_ahead : (r next : Reading) (line : List ℕ) (before after : List Order) (order : Order)
    → Completes r next line (Some order) → after ≡ before ++ order ∷ []
    → (more : List (List ℕ)) → script_on r before None (line ∷ more) ≡ script_on next after None more
one_ahead r next line before after order is pushed more =
    ap (after_orders before) (is more)
    ∙ (λ i. record { orders = sym (append_assoc before (order ∷ []) (script_from next more).orders) i; fault = (script_from next more).fault })
    ∙ (λ i. record { orders = sym pushed i ++ (script_from next more).orders; fault = (script_from next more).fault })

pub none_ahead : (r next : Reading) (line : List ℕ) (before : List Order) → Completes r next line None
    → (more : List (List ℕ)) → script_on r before None (line ∷ more) ≡ script_on next before None more
none_ahead r next line before is more = ap (after_orders before) (is more)

pub fault_ahead : (r next : Reading) (line : List ℕ) (before : List Order) (stop : ℕ × LineFault) → HasFault r line (Line stop.0 stop.1)
    → (more : List (List ℕ)) → script_on r before None (line ∷ more) ≡ script_on next before (Some stop) more
fault_ahead r next line before stop is more = ap (after_orders before) (is more)

-- where none is ahead of a fault, a script has come to it
pub comes_to_stop : (rest : Option (List ℕ)) (r : Reading) (ahead : List Order) (stop : ℕ × LineFault) → ahead ≡ [] → ComesTo (script_ahead rest r ahead (Some stop)) (Line stop.0 stop.1)
comes_to_stop None r ahead stop none = tt
comes_to_stop (Some input) r ahead stop none = (append-nil ahead ∙ none, refl)

-- and where nothing is ahead, what is told of the next line is told of all
pub tells_left : (overlong : Bool) (rest : Option (List ℕ)) (r : Reading) (f : Fault) → TellsLine overlong (script_left rest r) f → TellsLine overlong (script_ahead rest r [] None) f
tells_left overlong rest r (Line n fault) (inl comes) = inl (by rest comes)
  where
    by : (rest : Option (List ℕ)) → ComesTo (script_left rest r) (Line n fault) → ComesTo (script_ahead rest r [] None) (Line n fault)
    by None is = tt
    by (Some t) is = is
tells_left overlong rest r (Line n fault) (inr long) = inr long
tells_left overlong rest r f tells = tt

-- a line that is too long is told of what is the same
pub tells_overlong : (whole : Option (List ℕ)) (s : Option Script) (f : Fault) → IsOverlong whole f → TellsLine (has_overlong whole) s f
tells_overlong whole s (Line n fault) is = inr is
tells_overlong whole s f is = tt

-- what is told of what is left is told of all
pub tells_more : (a b : Bool) (s t : Option Script) (f : Fault) → (b ≡ true → a ≡ true) → SameScript s t → TellsLine b t f → TellsLine a s f
tells_more a b s t (Line n fault) more same (inl comes) = inl (by s t same comes)
  where
    by : (s t : Option Script) → SameScript s t → ComesTo t (Line n fault) → ComesTo s (Line n fault)
    by None t same comes = tt
    by (Some s) None same comes = absurd same
    by (Some s) (Some t) same comes = (ap (λ (q : Script). q.orders) same ∙ comes.0, ap (λ (q : Script). q.fault) same ∙ comes.1)
tells_more a b s t (Line n fault) more same (inr long) = inr (long.0, more long.1)
tells_more a b s t f more same tells = tt

-- the first order was put ahead, or there is none
pub first_ahead : (r next : Reading) (after : List Order) (order : Order) (rest left : Option (List ℕ))
    → Asks (script_left rest r) (script_left left next) (Some (One order)) → after ≡ order ∷ []
    → SameScript (script_ahead rest r [] None) (script_ahead left next after None)
first_ahead r next after order None left asks pushed = tt
first_ahead r next after order (Some t) None asks pushed = absurd asks
first_ahead r next after order (Some t) (Some l) asks pushed =
    λ i. record { orders = (asks.2 ∙ ap (λ os. os ++ (script_from next (text_lines l)).orders) (asks.1 ∙ sym pushed)) i; fault = asks.3 i }

pub none_follows : (r next : Reading) (rest left : Option (List ℕ))
    → Asks (script_left rest r) (script_left left next) None
    → Asks (script_ahead rest r [] None) (script_ahead left next [] None) None
none_follows r next None left asks = tt
none_follows r next (Some t) None asks = absurd asks
none_follows r next (Some t) (Some l) asks = asks

-- some that stand ahead are asked for
pub asks_ahead : (r : Reading) (before taken after : List Order) (stopped : Option (ℕ × LineFault)) (rest : Option (List ℕ)) (asked : Asked)
    → IsOf asked taken → before ≡ taken ++ after
    → Asks (script_ahead rest r before stopped) (script_ahead rest r after stopped) (Some asked)
asks_ahead r before taken after stopped None asked of is = tt
asks_ahead r before taken after None (Some t) asked of is =
    (taken, of, ap (λ os. os ++ (script_from r (text_lines t)).orders) is ∙ append_assoc taken after (script_from r (text_lines t)).orders, refl)
asks_ahead r before taken after (Some fault) (Some t) asked of is =
    (taken, of, ap (λ os. os ++ []) is ∙ append_assoc taken after [], refl)

abbrev got : Result (List Order) Fault → List Order
got (Ok os) = os
got (Err fault) = []

-- where no epoch is refused
abbrev plainly : List PlanLine → ℕ → Orders → Reading
plainly plan n read = record { plan = plan; placing = false; hold = false; questions = false; copies = false; limit = None; number = n; flaw = None; read = read }

-- AN INPUT WITHOUT A FAULT: its script is its orders
pub script_is : (plan : List PlanLine) (n : ℕ) (read : Orders) (lines : List (List ℕ)) (orders : List Order) → orders_from plan n read lines ≡ Ok orders
    → ◌≡◌ {A = Script} (script_from (plainly plan n read) lines) (record { orders = orders; fault = None })
script_is plan n read [] orders is = by (is_between read) refl is
  where
    by : (b : Bool) → is_between read ≡ b → ended n read.orders b ≡ Ok orders → ◌≡◌ {A = Script} (record { orders = read.orders; fault = fault_at_end n (is_between read) }) (record { orders = orders; fault = None })
    by true e h = λ i. record { orders = ap got h i; fault = fault_at_end n (e i) }
    by false e h = absurd (let no = h in cc)
script_is plan n read (line ∷ lines) orders is = by (with_line plan n read (feed_line_of line)) is (λ more. script_is plan (n + 1) more lines orders)
  where
    by : (w : Result Orders Fault) → and_then (λ more. orders_from plan (n + 1) more lines) w ≡ Ok orders
        → ((more : Orders) → orders_from plan (n + 1) more lines ≡ Ok orders → ◌≡◌ {A = Script} (script_from (plainly plan (n + 1) more) lines) (record { orders = orders; fault = None }))
        → ◌≡◌ {A = Script} (script_after read (λ q. script_from q lines) (onward (plainly plan n read) (judged None n line read w))) (record { orders = orders; fault = None })
    by (Ok more) h rest = rest more h
    by (Err fault) h rest = absurd (let no = h in cc)

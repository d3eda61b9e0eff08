-- How copies come together, one after another.
use Rattle.std.proofs.Common.{◌≡◌, arith, ℕ, List, [], ◌∷◌, ◌++◌, length, take, refl, sym, ap, ◌∙◌, subst, length-append, append-nil, append_assoc}
use Rattle.std.specs.Prelude.{All, Option, Some, None, Ok}
use Rattle.std.proofs.Math.Seq.{take-length}
use Rattle.std.proofs.lemmas.List.{map-append, take-append-le}
use Rattle.std.proofs.lemmas.List.Elements.{All-nil, All-cons, All-append, All-weaker}
use Rattle.td_plan.specs.Lines.{Line as PlanLine}
use Rattle.td_calls.specs.Answers.{Answers}
use Rattle.td_disk.specs.Disk.{DiskView}
use Rattle.td_journal.specs.declared.payload.Submitted.{Submitted}
use Rattle.td_keeper.specs.Keeping.{Keeping}
use Rattle.td_orders.specs.declared.order.Order.{Order}
use Rattle.td_orders.specs.declared.order.Order.TheVariants as order
use Rattle.td_orders.specs.Noted.{Aside, as_asked, ComeOf, copied_in}
use Rattle.td_orders.specs.Noted.Aside.{to_say, to_answer, to_copy}
use Rattle.td_orders.specs.Orders.{notes_in}
use Rattle.td_head.specs.declared.head.Head.{Head}
use Rattle.td_store.specs.standing.Told.{Told}
use Rattle.td_store.specs.standing.Tells.{Tells, Keeps}
use Rattle.td_store.specs.standing.Standing.{last_epoch}
use Rattle.td_feed.specs.Fed.{EachTellsHistory}
use Rattle.td_feed.specs.Carried.{StandsFor, Carries}
use Rattle.td_feed.specs.Copied.{Copied, with_copies, IsCopyOf, MakesCopies}
use Rattle.td_feed.proofs.Carrying.{as_long}

-- what orders ask for is as it is asked for
pub as_they_ask : (orders : List Order) → ComeOf (notes_in orders) (notes_in orders)
as_they_ask [] = refl
as_they_ask (order.Submit batch ∷ orders) = as_they_ask orders
as_they_ask (order.SubmitAs request batch ∷ orders) = as_they_ask orders
as_they_ask (order.SubmitAt place request batch ∷ orders) = as_they_ask orders
as_they_ask (order.Cut ∷ orders) = as_they_ask orders
as_they_ask (order.Seen line epoch ∷ orders) = as_they_ask orders
as_they_ask (order.Answer vertex wanted ∷ orders) = ap (λ (l : List Aside). to_answer vertex wanted ∷ l) (as_they_ask orders)
as_they_ask (order.Copy copy ∷ orders) = ap (λ (l : List Aside). to_copy copy.name copy.shape None ∷ l) (as_they_ask orders)
as_they_ask (order.Say note ∷ orders) = ap (λ (l : List Aside). to_say note ∷ l) (as_they_ask orders)

-- and no copy is made by it
pub none_yet : (orders : List Order) → copied_in (notes_in orders) ≡ []
none_yet [] = refl
none_yet (order.Submit batch ∷ orders) = none_yet orders
none_yet (order.SubmitAs request batch ∷ orders) = none_yet orders
none_yet (order.SubmitAt place request batch ∷ orders) = none_yet orders
none_yet (order.Cut ∷ orders) = none_yet orders
none_yet (order.Seen line epoch ∷ orders) = none_yet orders
none_yet (order.Answer vertex wanted ∷ orders) = none_yet orders
none_yet (order.Copy copy ∷ orders) = none_yet orders
none_yet (order.Say note ∷ orders) = none_yet orders

-- what came of some, and of more
pub come-append : (ns ms ds es : List Aside) → ComeOf ns ds → ComeOf ms es → ComeOf (ns ++ ms) (ds ++ es)
come-append ns ms ds es first rest = map-append as_asked ds es ∙ (λ i. first i ++ rest i)

pub copied-append : (ds es : List Aside) → copied_in (ds ++ es) ≡ copied_in ds ++ copied_in es
copied-append [] es = refl
copied-append (to_say note ∷ ds) es = copied-append ds es
copied-append (to_answer vertex wanted ∷ ds) es = copied-append ds es
copied-append (to_copy name shape None ∷ ds) es = copied-append ds es
copied-append (to_copy name shape (Some epoch) ∷ ds) es = ap (λ (l : List (List ℕ × ℕ)). (name, epoch) ∷ l) (copied-append ds es)

module _ {E : Type 0} where
  pub with_none : (kept : Option (List (Copied E))) → with_copies kept [] ≡ kept
  with_none None = refl
  with_none (Some copies) = ap Some (append-nil copies)

  with_more : (kept : Option (List (Copied E))) (made more : List (Copied E)) → with_copies (with_copies kept made) more ≡ with_copies kept (made ++ more)
  with_more None made more = refl
  with_more (Some copies) made more = ap Some (append_assoc copies made more)

  module _ (view : E → DiskView) (answers : Answers) (plan : List PlanLine) where
    -- a copy of a history is one of what it goes on to
    pub further : (history more : List Submitted) (c : Copied E) → IsCopyOf view answers plan history c → IsCopyOf view answers plan (history ++ more) c
    further history more c is = record {
      within = let few = is.within in let both = length-append history more in omega (arith, few, both);
      tells = λ lawful. subst (λ (h : List Submitted). EachTellsHistory answers plan h (view c.disk).state) (sym (take-append-le c.epoch history more is.within)) (is.tells lawful);
    }

    pub all_further : (history more : List Submitted) (made : List (Copied E)) → All (IsCopyOf view answers plan history) made → All (IsCopyOf view answers plan (history ++ more)) made
    all_further history more made all =
        All-weaker (IsCopyOf view answers plan history) (IsCopyOf view answers plan (history ++ more)) (λ c is. further history more c is) made all

module _ {D E : Type 0} (view : D → DiskView) (new_view : E → DiskView) (answers : Answers) where
  -- none were made
  pub none_made : (kept : Option (List (Copied E))) (k : Keeping D) (x : List Submitted) → MakesCopies view new_view answers [] kept kept k x
  none_made kept k x = record { made = []; kept = sym (with_none kept); labelled = refl; each = λ lawful history stands. All-nil (IsCopyOf new_view answers k.plan (history ++ x)) }

  -- some were, and then more
  pub made_then : (said more : List (List ℕ × ℕ)) (u v w : Option (List (Copied E))) (a b : Keeping D) (x y : List Submitted) → ((view a.device).lawful → (view b.device).lawful) → Carries answers a b x
      → MakesCopies view new_view answers said u v a x → MakesCopies view new_view answers more v w b y
      → MakesCopies view new_view answers (said ++ more) u w a (x ++ y)
  made_then said more u v w a b x y sound carried first rest = record {
    made = first.made ++ rest.made;
    kept = rest.kept ∙ ap (λ (k : Option (List (Copied E))). with_copies k rest.made) first.kept ∙ with_more u first.made rest.made;
    labelled = map-append (λ (c : Copied E). (c.name, c.epoch)) first.made rest.made ∙ (λ i. first.labelled i ++ rest.labelled i);
    each = λ lawful history stands.
        let P : List Submitted → Copied E → Type 0 = λ h. IsCopyOf new_view answers a.plan h in
        subst (λ (h : List Submitted). All (P h) (first.made ++ rest.made)) (append_assoc history x y)
        (All-append (P ((history ++ x) ++ y)) first.made rest.made
        (all_further new_view answers a.plan (history ++ x) y first.made (first.each lawful history stands))
        (subst (λ (plan : List PlanLine). All (IsCopyOf new_view answers plan ((history ++ x) ++ y)) rest.made) carried.plan (rest.each (sound lawful) (history ++ x) (carried.stands history stands))));
  }

  -- also with more batches than these
  pub made_within : (said : List (List ℕ × ℕ)) (u v : Option (List (Copied E))) (a : Keeping D) (x more : List Submitted) → MakesCopies view new_view answers said u v a x
      → MakesCopies view new_view answers said u v a (x ++ more)
  made_within said u v a x more is = record {
    made = is.made;
    kept = is.kept;
    labelled = is.labelled;
    each = λ lawful history stands.
        subst (λ (h : List Submitted). All (IsCopyOf new_view answers a.plan h) is.made) (append_assoc history x more)
        (all_further new_view answers a.plan (history ++ x) more is.made (is.each lawful history stands));
  }

  -- one was made, of what the keeper stands for
  pub one_made : (n : List ℕ) (e : ℕ) (disk : E) (had has : Option (List (Copied E))) (k : Keeping D) (head : Head) (side : ℕ)
      → ((image : List ℕ) → Tells k.plan head side k.standing image → Told k.plan image (Ok k.standing))
      → has ≡ with_copies had (record { name = n; epoch = e; disk = disk } ∷ []) → e ≡ last_epoch k.standing
      → ((view k.device).lawful → (new_view disk).lawful → Keeps k.plan head side k.standing (new_view disk).state) → MakesCopies view new_view answers ((n, e) ∷ []) had has k []
  one_made n e disk had has k head side together kept last keeps = record {
    made = c ∷ [];
    kept = kept;
    labelled = refl;
    each = λ lawful history stands.
        All-cons (IsCopyOf new_view answers k.plan (history ++ [])) c [] (is_one lawful history stands) (All-nil (IsCopyOf new_view answers k.plan (history ++ [])));
  }
    where
      c : Copied E
      c = record { name = n; epoch = e; disk = disk }

      is_one : (view k.device).lawful → (history : List Submitted) → StandsFor answers k history → IsCopyOf new_view answers k.plan (history ++ []) c
      is_one lawful history stands =
          let long : length history ≡ last_epoch k.standing = as_long answers k.plan k.standing history stands in
          let many : length (history ++ []) ≡ length history = ap length (append-nil history) in
          let whole : take e (history ++ []) ≡ history = ap (take e) (append-nil history) ∙ ap (λ (m : ℕ). take m history) (last ∙ sym long) ∙ take-length history in
          record {
            within = omega (arith, long, many, last);
            tells = λ new_lawful.
                let kept_there = keeps lawful new_lawful in
                subst (λ (h : List Submitted). EachTellsHistory answers k.plan h (new_view disk).state) (sym whole)
                (λ image left. record {
                  standing = k.standing;
                  told = subst (λ (i : List ℕ). Told k.plan i (Ok k.standing)) (sym (kept_there.durable image left)) (together (new_view disk).state.bytes kept_there.tells);
                  stands = stands;
                });
          }

-- Proofs of orders one after another that the crates above need, too: which epochs are new, and the greatest request number after them.
use Rattle.std.proofs.Common.{◌≡◌, ℕ, Bool, true, false, ◌&&◌, List, [], ◌∷◌, ◌++◌, refl, ap, ◌∙◌}
use Rattle.std.specs.Prelude.{Some, None, max, if◌then◌else◌}
use Rattle.td_journal.specs.Numbers.{greatest, may_come}
use Rattle.td_journal.specs.declared.payload.Submitted.{Submitted}
use Rattle.td_store.specs.group.Groups.{may_follow}
use Rattle.td_store.specs.standing.Standing.{submission}
use Rattle.td_orders.specs.declared.order.Order.{Order}
use Rattle.td_orders.specs.declared.order.Order.TheVariants as order
use Rattle.td_orders.specs.Noted.{Aside}
use Rattle.td_orders.specs.Noted.Aside.{to_say, to_answer, to_copy}
use Rattle.td_orders.specs.Orders.{submissions, notes_in, new_after}

-- the greatest number of epochs that follow others
pub greatest-append : (q : ℕ) (x y : List Submitted) → greatest q (x ++ y) ≡ greatest (greatest q x) y
greatest-append q [] y = refl
greatest-append q (s ∷ x) y = greatest-append (max q s.request) x y

-- of epochs that follow others
pub new_after-append : (q : ℕ) (x y : List Submitted) → new_after q (x ++ y) ≡ new_after q x ++ new_after (greatest q (new_after q x)) y
new_after-append q [] y = refl
new_after-append q (s ∷ x) y = by (may_come (Some q) s.request) (new_after-append (max q s.request) x y) (new_after-append q x y)
  where
    by : (b : Bool) → new_after (max q s.request) (x ++ y) ≡ new_after (max q s.request) x ++ new_after (greatest (max q s.request) (new_after (max q s.request) x)) y
        → new_after q (x ++ y) ≡ new_after q x ++ new_after (greatest q (new_after q x)) y
        → (if b then s ∷ new_after (max q s.request) (x ++ y) else new_after q (x ++ y))
        ≡ (if b then s ∷ new_after (max q s.request) x else new_after q x) ++ new_after (greatest q (if b then s ∷ new_after (max q s.request) x else new_after q x)) y
    by true with_it without = ap (λ (l : List Submitted). s ∷ l) with_it
    by false with_it without = without

-- of one epoch
pub new_one : (q : ℕ) (s : Submitted) → may_come (Some q) s.request ≡ true → new_after q (s ∷ []) ≡ s ∷ []
new_one q s is = ap (λ (b : Bool). if b then s ∷ [] else []) is

pub old_one : (q : ℕ) (s : Submitted) → may_come (Some q) s.request ≡ false → new_after q (s ∷ []) ≡ []
old_one q s is = ap (λ (b : Bool). if b then s ∷ [] else []) is

-- of a group whose numbers rise
both : (a b : Bool) → (a && b) ≡ true → (a ≡ true) × (b ≡ true)
both true b is = (refl, is)
both false b is = absurd (let no : false ≡ true = is in cc)

pub all_new : (q : ℕ) (x : List Submitted) → may_follow (Some q) x ≡ true → new_after q x ≡ x
all_new q [] is = refl
all_new q (s ∷ x) is =
    let parts = both (may_come (Some q) s.request) (may_follow (Some (max q s.request)) x) is in
    ap (λ (b : Bool). if b then s ∷ new_after (max q s.request) x else new_after q x) parts.0 ∙ ap (λ (l : List Submitted). s ∷ l) (all_new (max q s.request) x parts.1)

-- and one number more
pub one_follows : (q : ℕ) (x : List Submitted) (s : Submitted) → may_follow (Some q) x ≡ true → may_come (Some (greatest q x)) s.request ≡ true → may_follow (Some q) (x ++ s ∷ []) ≡ true
one_follows q [] s is comes = ap (λ (b : Bool). b && true) comes
one_follows q (t ∷ x) s is comes =
    let parts = both (may_come (Some q) t.request) (may_follow (Some (max q t.request)) x) is in
    ap (λ (b : Bool). b && may_follow (Some (max q t.request)) (x ++ s ∷ [])) parts.0 ∙ one_follows (max q t.request) x s parts.1 comes

-- what orders submit, one after another
pub submissions-append : (xs ys : List Order) → submissions (xs ++ ys) ≡ submissions xs ++ submissions ys
submissions-append [] ys = refl
submissions-append (order.Submit batch ∷ xs) ys = ap (λ (l : List Submitted). submission 0 batch ∷ l) (submissions-append xs ys)
submissions-append (order.SubmitAs request batch ∷ xs) ys = ap (λ (l : List Submitted). submission request batch ∷ l) (submissions-append xs ys)
submissions-append (order.SubmitAt place request batch ∷ xs) ys = ap (λ (l : List Submitted). submission request batch ∷ l) (submissions-append xs ys)
submissions-append (order.Cut ∷ xs) ys = submissions-append xs ys
submissions-append (order.Seen line epoch ∷ xs) ys = submissions-append xs ys
submissions-append (order.Answer vertex wanted ∷ xs) ys = submissions-append xs ys
submissions-append (order.Copy copy ∷ xs) ys = submissions-append xs ys
submissions-append (order.Say note ∷ xs) ys = submissions-append xs ys

-- and their notes and answers
pub notes-append : (xs ys : List Order) → notes_in (xs ++ ys) ≡ notes_in xs ++ notes_in ys
notes-append [] ys = refl
notes-append (order.Submit batch ∷ xs) ys = notes-append xs ys
notes-append (order.SubmitAs request batch ∷ xs) ys = notes-append xs ys
notes-append (order.SubmitAt place request batch ∷ xs) ys = notes-append xs ys
notes-append (order.Cut ∷ xs) ys = notes-append xs ys
notes-append (order.Seen line epoch ∷ xs) ys = notes-append xs ys
notes-append (order.Answer vertex wanted ∷ xs) ys = ap (λ (l : List Aside). to_answer vertex wanted ∷ l) (notes-append xs ys)
notes-append (order.Copy copy ∷ xs) ys = ap (λ (l : List Aside). to_copy copy.name copy.shape None ∷ l) (notes-append xs ys)
notes-append (order.Say note ∷ xs) ys = ap (λ (l : List Aside). to_say note ∷ l) (notes-append xs ys)

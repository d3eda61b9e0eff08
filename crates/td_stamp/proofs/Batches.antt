-- The records of one input of a batch are a bag.
use Rattle.std.proofs.Common.{◌≡◌, ◌≢◌, ◌==◌, ◌<◌, ◌≤◌, ◌+◌, ℕ, zero, suc, List, [], ◌∷◌, ◌++◌, length, get_or, refl, ap, sym, ◌∙◌, subst, arith, map, filter, cond, append-nil, eqb-true, Bool, true, false}
use Rattle.std.specs.Prelude.{All}
use Rattle.std.proofs.lemmas.Bool.{ne_eqb}
use Rattle.std.specs.List.{AllByRecursion}
use Rattle.std.specs.List.Sorted.{IsSorted, IsNonDecreasingBy}
use Rattle.std.specs.declared.cmp.Ordering.{Ordering}
use Rattle.std.proofs.lemmas.List.{map-append}
use Rattle.std.proofs.lemmas.List.Elements.{filter-append}
use Rattle.std.proofs.lemmas.List.Sorted.{sorted_far, ranks_by}
use Rattle.std.specs.declared.cmp.Ordering.TheVariants.{Less, Equal, Greater}
use Rattle.std.specs.Ordering.{nat_cmp, is_gt, is_lt, ordering_then, MatchOrdering}
use Rattle.std.specs.Cmp.{nat_cmp_is, ranks}
use Rattle.td_stamp.specs.declared.values.Entry.{Entry}
use Rattle.td_stamp.specs.Orders.{rec_cmp, entry_cmp}
use Rattle.td_stamp.specs.ProvedOrders.{rec_total, rec_apart, entry_total, entry_apart}
use Rattle.td_stamp.specs.Bag.{IsBag}
use Rattle.td_stamp.specs.Rises.{IsBelowAll, Rises}
use Rattle.td_stamp.specs.Batch.{records_for}
use Rattle.td_stamp.proofs.Sorted.{IsSorted-bag_of}
use Rattle.td_stamp.proofs.Rising.{IsBag-from_Rises, Rises-from_IsBag}

-- an entry that is not above others has a record that is not above theirs, where the inputs are the same
records_below : (input : ℕ) (e : Entry) (es : List Entry) → e.input ≡ input → IsBelowAll entry_cmp e es → IsBelowAll rec_cmp e.rec (records_for input es)
records_below input e [] here below = tt
records_below input e (f ∷ es) here below = by (f.input == input) refl (records_below input e es here below.1)
  where
    by : (s : Bool) → (f.input == input) ≡ s → IsBelowAll rec_cmp e.rec (records_for input es)
        → IsBelowAll rec_cmp e.rec (map (λ (x : Entry). x.rec) (cond s (f ∷ filter (λ x. x.input == input) es) (filter (λ x. x.input == input) es)))
    by false h others = others
    by true h others =
        let tied : Equal ≡ nat_cmp e.input f.input = nat_cmp_is e.input f.input Equal (here ∙ sym (eqb-true f.input input h)) in
        (ap (λ r. is_gt (ordering_then r (rec_cmp e.rec f.rec))) tied ∙ below.0, others)

records-Rises : (input : ℕ) (es : List Entry) → Rises entry_cmp es → Rises rec_cmp (records_for input es)
records-Rises input [] rises = tt
records-Rises input (e ∷ es) rises = by (e.input == input) refl (records-Rises input es rises.1)
  where
    by : (s : Bool) → (e.input == input) ≡ s → Rises rec_cmp (records_for input es)
        → Rises rec_cmp (map (λ (x : Entry). x.rec) (cond s (e ∷ filter (λ x. x.input == input) es) (filter (λ x. x.input == input) es)))
    by false h others = others
    by true h others = (records_below input e es (eqb-true e.input input h) rises.0, others)

pub records-IsBag : (input : ℕ) (es : List Entry) → IsBag entry_cmp es → IsBag rec_cmp (records_for input es)
records-IsBag input es bag = IsBag-from_Rises rec_cmp rec_total rec_apart (records_for input es) (records-Rises input es (Rises-from_IsBag entry_cmp entry_total entry_apart es bag))

-- the first entry, in the records of an input
pub records-here : (input : ℕ) (e : Entry) (es : List Entry) → (e.input == input) ≡ true → records_for input (e ∷ es) ≡ e.rec ∷ records_for input es
records-here input e es h = ap (λ b. map (λ (x : Entry). x.rec) (cond b (e ∷ filter (λ x. x.input == input) es) (filter (λ x. x.input == input) es))) h

pub records-past : (input : ℕ) (e : Entry) (es : List Entry) → (e.input == input) ≡ false → records_for input (e ∷ es) ≡ records_for input es
records-past input e es h = ap (λ b. map (λ (x : Entry). x.rec) (cond b (e ∷ filter (λ x. x.input == input) es) (filter (λ x. x.input == input) es))) h

-- inputs do not fall along a batch
pub inputs_rise : (es : List Entry) → IsBag entry_cmp es → IsNonDecreasingBy (λ e. e.input) es
inputs_rise es bag i j d le lt =
    by (nat_cmp (get_or es j d).input (get_or es i d).input) (ranks (get_or es j d).input (get_or es i d).input)
    (sorted_far (λ x y. is_lt (entry_cmp x y)) (ranks_by entry_total (λ e. e)) es (subst (IsSorted entry_cmp) bag (IsSorted-bag_of entry_cmp entry_total entry_apart es)) i j d le lt)
  where
    by : (r : Ordering) → MatchOrdering r ((get_or es j d).input < (get_or es i d).input) ((get_or es j d).input ≡ (get_or es i d).input) ((get_or es i d).input < (get_or es j d).input)
        → is_lt (ordering_then r (rec_cmp (get_or es j d).rec (get_or es i d).rec)) ≡ false → (get_or es i d).input ≤ (get_or es j d).input
    by Less h n = cc
    by Equal h n = omega (arith, h)
    by Greater h n = omega (arith, h)

-- entries of which none names the input
none_named : (input : ℕ) (es : List Entry) → AllByRecursion (λ e. (e.input == input) ≡ false) es → (fs : List Entry) → records_for input (es ++ fs) ≡ records_for input fs
none_named input [] h fs = refl
none_named input (e ∷ es) h fs = records-past input e (es ++ fs) h.0 ∙ none_named input es h.1 fs

none_named_after : (input : ℕ) (fs es : List Entry) → AllByRecursion (λ e. (e.input == input) ≡ false) es → records_for input (fs ++ es) ≡ records_for input fs
none_named_after input [] es h = ap (records_for input) (sym (append-nil es)) ∙ none_named input es h []
none_named_after input (f ∷ fs) es h = by (f.input == input) refl (none_named_after input fs es h)
  where
    by : (s : Bool) → (f.input == input) ≡ s → records_for input (fs ++ es) ≡ records_for input fs → records_for input (f ∷ (fs ++ es)) ≡ records_for input (f ∷ fs)
    by true e rest = records-here input f (fs ++ es) e ∙ ap (λ l. f.rec ∷ l) rest ∙ sym (records-here input f fs e)
    by false e rest = records-past input f (fs ++ es) e ∙ rest ∙ sym (records-past input f fs e)

-- what holds at each place of a list holds of each element
each_placed : (P : Entry → Type 0) (es : List Entry) → ((k : ℕ) (d : Entry) → k < length es → P (get_or es k d)) → AllByRecursion P es
each_placed P [] h = tt
each_placed P (e ∷ es) h = (h zero e (omega arith), each_placed P es (λ k d lt. h (suc k) d (omega (arith, lt))))

-- entries that name lower inputs stand before, and those that name later ones behind, all that name this one
pub records-of_middle : (input : ℕ) (before own later : List Entry) → All (λ e. e.input < input) before → All (λ e. input + 1 ≤ e.input) later
    → records_for input (before ++ (own ++ later)) ≡ records_for input own
records-of_middle input before own later lower higher =
    none_named input before (each_placed (λ e. (e.input == input) ≡ false) before (λ k d lt. ne_eqb (get_or before k d).input input (not_lower k d lt))) (own ++ later)
    ∙ none_named_after input own later (each_placed (λ e. (e.input == input) ≡ false) later (λ k d lt. ne_eqb (get_or later k d).input input (not_higher k d lt)))
  where
    not_lower : (k : ℕ) (d : Entry) → k < length before → (get_or before k d).input ≢ input
    not_lower k d lt same = let l : (get_or before k d).input < input = lower k d lt in omega (arith, l, same)

    not_higher : (k : ℕ) (d : Entry) → k < length later → (get_or later k d).input ≢ input
    not_higher k d lt same = let l : input + 1 ≤ (get_or later k d).input = higher k d lt in omega (arith, l, same)

-- the records of one list of entries and then of another
pub records-append : (input : ℕ) (es fs : List Entry) → records_for input (es ++ fs) ≡ records_for input es ++ records_for input fs
records-append input es fs = ap (map (λ (e : Entry). e.rec)) (filter-append (λ (e : Entry). e.input == input) es fs) ∙ map-append (λ (e : Entry). e.rec) (filter (λ (e : Entry). e.input == input) es) (filter (λ (e : Entry). e.input == input) fs)

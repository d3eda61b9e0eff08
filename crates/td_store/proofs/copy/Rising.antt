-- Numbers that rise, epoch by epoch, and what stands after each of them.
use Rattle.std.proofs.Common.{◌≡◌, ◌==◌, ⊎_elim, ℕ, zero, suc, ◌+◌, ◌-◌, ◌<◌, ◌≤◌, ◌^◌, ◌&&◌, Bool, true, false, List, [], ◌∷◌, ◌++◌, length, take, get_or, nat_le, refl, sym, ap, ◌∙◌, subst, arith, Option, Some, None}
use Rattle.std.proofs.lemmas.Bool.{and_parts, cases_lt, false≢true}
use Rattle.std.proofs.lemmas.Bool.Decides.{eqb_tells}
use Rattle.std.proofs.lemmas.List.{take_more, take_all, append_assoc, length-take-le}
use Rattle.std.proofs.Math.Seq.{take-length}
use Rattle.td_stamp.specs.declared.values.Entry.{Entry}
use Rattle.td_journal.specs.declared.payload.Submitted.{Submitted}
use Rattle.td_journal.specs.Numbers.{floor_after, greatest, may_come, rise}
use Rattle.td_head.specs.Layout.{Sizes}
use Rattle.td_store.specs.standing.Standing.{Standing, with_more}
use Rattle.td_store.specs.standing.Told.{floor_of}
use Rattle.td_store.specs.standing.Tells.{HasRoom, IsFresh}

-- one number more, as the law is handed in
abbrev pub OneMore : Type 0
OneMore = (floor : Option ℕ) (w : List Submitted) (x : Submitted) → rise floor (w ++ x ∷ []) ≡ (rise floor w && may_come (floor_after floor w) x.request)

module _ (one_more : OneMore) (floor : Option ℕ) (w : List Submitted) (default : Submitted) where
  -- of a beginning with one epoch more
  both : (i : ℕ) → i < length w → rise floor (take (i + 1) w) ≡ true → (rise floor (take i w) ≡ true) × (may_come (floor_after floor (take i w)) (get_or w i default).request ≡ true)
  both i lt is =
      let x = get_or w i default in
      and_parts (rise floor (take i w)) (may_come (floor_after floor (take i w)) x.request)
      (sym (one_more floor (take i w) x) ∙ ap (rise floor) (sym (take_more w i default lt)) ∙ is)

  -- of each beginning, from the whole down
  begins : (n i : ℕ) → i + n ≡ length w → rise floor w ≡ true → rise floor (take i w) ≡ true
  begins zero i is all = let whole : i ≡ length w = omega (arith, is) in ap (λ (k : ℕ). rise floor (take k w)) whole ∙ ap (rise floor) (take-length w) ∙ all
  begins (suc n) i is all = (both i (omega (arith, is)) (begins n (i + 1) (omega (arith, is)) all)).0

  -- EACH NUMBER MAY COME after those before it
  pub each_comes : (i : ℕ) → i < length w → rise floor w ≡ true → may_come (floor_after floor (take i w)) (get_or w i default).request ≡ true
  each_comes i lt all = (both i lt (begins (length w - (i + 1)) (i + 1) (omega (arith, lt)) all)).1

-- A BEGINNING RISES TOO, also one that asks for more than there is.
pub rise_take : OneMore → (floor : Option ℕ) (w : List Submitted) (k : ℕ) → rise floor w ≡ true → rise floor (take k w) ≡ true
rise_take one_more floor w k all = ⊎_elim (λ lt. begins one_more floor w (record { request = 0; batch = [] }) (length w - k) k (omega (arith, lt)) all)
    (λ le. ap (rise floor) (take_all k w le) ∙ all) (cases_lt k (length w))

-- a standing with the first i of some epochs, and the next one
module _ (s : Standing) (empty : s.submitted ≡ []) (w : List Submitted) (i : ℕ) (x : Submitted) (is : x ≡ get_or w i x) (lt : i < length w) where
  so_many : length (s.submitted ++ take i w) ≡ i
  so_many = ap (λ (l : List Submitted). length (l ++ take i w)) empty ∙ length-take-le i w (omega (arith, lt))

  pub has_room : (sizes : Sizes) (e : ℕ) → e ≡ s.epoch + i + 1 → e < 2 ^ 63 → length w ≤ sizes.n → HasRoom sizes (with_more s (take i w)) e
  has_room sizes e at small few = let many = so_many in record { room = omega (arith, many, lt, few); epoch = omega (arith, at, many); small = small }

  pub is_fresh : OneMore → rise (Some s.last) w ≡ true → IsFresh 2 (with_more s (take i w)) x.request
  is_fresh one_more all = subst (λ (l : List Submitted). may_come (Some (greatest s.last (l ++ take i w))) x.request ≡ true) (sym empty)
      (subst (λ (y : Submitted). may_come (Some (greatest s.last (take i w))) y.request ≡ true) (sym is) (each_comes one_more (Some s.last) w x i lt all))

  pub one_further : with_more (with_more s (take i w)) (x ∷ []) ≡ with_more s (take (i + 1) w)
  one_further = ap (λ (l : List Submitted). record { epoch = s.epoch; states = s.states; last = s.last; submitted = l })
      (append_assoc s.submitted (take i w) (x ∷ []) ∙ ap (λ (l : List Submitted). s.submitted ++ l) (ap (λ (y : Submitted). take i w ++ y ∷ []) is ∙ sym (take_more w i x lt)))

-- where there are no numbers each rises from any floor on
none_more : (q r : ℕ) (batch : List Entry) (w : List Submitted) → (rise None w ≡ true → rise (Some q) w ≡ true) → rise None (record { request = r; batch = batch } ∷ w) ≡ true
    → rise (Some q) (record { request = r; batch = batch } ∷ w) ≡ true
none_more q zero batch w rest all = rest all
none_more q (suc r) batch w rest all =
    let is : (suc r == 0) ≡ true = (and_parts (suc r == 0) (rise None w) all).0 in
    ⊎_elim (λ zero_is. let no : suc r ≡ 0 = zero_is.1 in absurd cc) (λ other. absurd (false≢true (sym other.0 ∙ is))) (eqb_tells (suc r) 0)

none_rise : (q : ℕ) (w : List Submitted) → rise None w ≡ true → rise (Some q) w ≡ true
none_rise q [] all = refl
none_rise q (x ∷ w) all = none_more q x.request x.batch w (λ h. none_rise q w h) all

pub rise_from : (version last : ℕ) (w : List Submitted) → rise (floor_of version last) w ≡ true → rise (Some last) w ≡ true
rise_from version last w = by (nat_le 2 version)
  where
    by : (b : Bool) → rise (elim b [ true ↦ Some last | false ↦ None ]) w ≡ true → rise (Some last) w ≡ true
    by true all = all
    by false all = none_rise last w all

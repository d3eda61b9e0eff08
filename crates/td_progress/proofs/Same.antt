-- The equality of pointstamps, as it is derived and as it is defined, tells different ones apart.
use Rattle.std.proofs.Common.{◌≡◌, ℕ, Bool, true, false, ◌&&◌, ◌==◌, List, reverse, refl, sym, ap, ◌∙◌, nat_eq, true≢false, subst}
use Rattle.std.specs.Bool.{Decides}
use Rattle.std.specs.Cmp.{IsEquivalence}
use Rattle.std.specs.Cmp.Lexicographic.{pointwise}
use Rattle.std.proofs.lemmas.Slice.Eq.{slice_eq-Decides}
use Rattle.std.proofs.lemmas.Bool.Decides.{same_from_decides, Decides-eqb}
use Rattle.std.proofs.lemmas.List.{reverse-reverse}
use Rattle.td_stamp.specs.Time.{Timestamp}
use Rattle.td_reach.specs.declared.stamp.Place.{Place}
use Rattle.td_reach.specs.declared.stamp.Place.TheVariants as places
use Rattle.td_reach.specs.declared.stamp.Stamp.{Stamp}
use Rattle.td_reach.specs.contracts.stamp.StampPartialEq.TheImpl.{eq-value}
use Rattle.td_progress.specs.Bag.{is_stamp, is_place, is_time}

-- as it is derived
abbrev pub same : Stamp → Stamp → Bool
same = eq-value.it

and_both : (a b : Bool) → (a && b) ≡ true → (a ≡ true) × (b ≡ true)
and_both true true e = (refl, refl)
and_both true false e = absurd (true≢false (sym e))
and_both false b e = absurd (true≢false (sym e))

both_and : (a b : Bool) → a ≡ true → b ≡ true → (a && b) ≡ true
both_and a b p q = ap (λ c. c && b) p ∙ q

Decides-and : {P Q R : Type 0} (a b : Bool) → Decides a P → Decides b Q → (P → Q → R) → (R → P × Q) → Decides (a && b) R
Decides-and a b p q make parts =
    (λ e. let both = and_both a b e in make (p.0 both.0) (q.0 both.1), λ r. both_and a b (p.1 (parts r).0) (q.1 (parts r).1))

Decides-numbers : (xs ys : List ℕ) → Decides (pointwise nat_eq xs ys) (xs ≡ ys)
Decides-numbers xs ys = slice_eq-Decides Decides-eqb xs ys (pointwise nat_eq xs ys) refl

make_time : (t u : Timestamp) → t.epoch ≡ u.epoch → t.turns ≡ u.turns → t ≡ u
make_time t u e f = λ i. record { epoch = e i; turns = f i }

Decides-time : (t u : Timestamp) → Decides (is_time t u) (t ≡ u)
Decides-time t u =
    Decides-and _ _ (Decides-eqb t.epoch u.epoch) (Decides-numbers t.turns u.turns) (make_time t u) (λ e. (ap (λ s. s.epoch) e, ap (λ s. s.turns) e))

reverse_apart : (xs ys : List ℕ) → reverse xs ≡ reverse ys → xs ≡ ys
reverse_apart xs ys e = sym (reverse-reverse xs) ∙ ap reverse e ∙ reverse-reverse ys

abbrev same_time : Timestamp → Timestamp → Bool
same_time t u = (t.epoch == u.epoch) && pointwise nat_eq (reverse t.turns) (reverse u.turns)

Decides-same_time : (t u : Timestamp) → Decides (same_time t u) (t ≡ u)
Decides-same_time t u =
    Decides-and _ _ (Decides-eqb t.epoch u.epoch) (Decides-numbers (reverse t.turns) (reverse u.turns))
    (λ e f. make_time t u e (reverse_apart t.turns u.turns f)) (λ e. (ap (λ s. s.epoch) e, ap (λ s. reverse s.turns) e))

abbrev number : Place → ℕ
number (places.Vertex v) = v
number (places.Edge v) = v

Decides-place : (p q : Place) → Decides (is_place p q) (p ≡ q)
Decides-place (places.Vertex v) (places.Vertex w) =
    (λ e. ap places.Vertex ((Decides-eqb v w).0 e), λ e. (Decides-eqb v w).1 (ap number e))
Decides-place (places.Vertex v) (places.Edge w) = (λ e. absurd (true≢false (sym e)), λ e. cc)
Decides-place (places.Edge v) (places.Vertex w) = (λ e. absurd (true≢false (sym e)), λ e. cc)
Decides-place (places.Edge v) (places.Edge w) =
    (λ e. ap places.Edge ((Decides-eqb v w).0 e), λ e. (Decides-eqb v w).1 (ap number e))

pub Decides-is_stamp : (p q : Stamp) → Decides (is_stamp p q) (p ≡ q)
Decides-is_stamp p q =
    Decides-and _ _ (Decides-time p.time q.time) (Decides-place p.place q.place)
    (λ e f i. record { time = e i; place = f i }) (λ e. (ap (λ s. s.time) e, ap (λ s. s.place) e))

abbrev at : Timestamp → Place → Stamp
at t p = record { time = t; place = p }

same-at : (t u : Timestamp) (p q : Place) → same (at t p) (at u q) ≡ (same_time t u && is_place p q)
same-at t u (places.Vertex v) (places.Vertex w) = refl
same-at t u (places.Vertex v) (places.Edge w) = refl
same-at t u (places.Edge v) (places.Vertex w) = refl
same-at t u (places.Edge v) (places.Edge w) = refl

-- so each is the other
same-is : (p q : Stamp) → same p q ≡ is_stamp p q
same-is p q =
    same-at p.time q.time p.place q.place
    ∙ ap (λ b. b && is_place p.place q.place) (same_from_decides _ _ (Decides-same_time p.time q.time) (Decides-time p.time q.time))

pub same-is_stamp : same ≡ is_stamp
same-is_stamp = λ i p q. same-is p q i

pub is_stamp-self : (p : Stamp) → is_stamp p p ≡ true
is_stamp-self p = (Decides-is_stamp p p).1 refl

abbrev same_by : Stamp → Stamp → Stamp → Type 0
same_by z p q = is_stamp p z ≡ is_stamp q z

pub is_stamp-equiv : IsEquivalence is_stamp
is_stamp-equiv = record {
  refl = is_stamp-self;
  symm = λ p q. same_from_decides _ _ (Decides-is_stamp p q) (let d = Decides-is_stamp q p in (λ e. sym (d.0 e), λ e. d.1 (sym e)));
  congr = λ p q z e. subst (same_by z p) ((Decides-is_stamp p q).0 e) refl;
}

-- Tests of equality decide it.
use Rattle.std.proofs.Common.{◌≡◌, ◌==◌, ◌&&◌, refl, ap, sym, ◌∙◌, subst, true, false}
use Rattle.std.specs.Prelude.{Option, Some, None}
use Rattle.std.specs.declared.cmp.Ordering.{Ordering}
use Rattle.std.specs.declared.cmp.Ordering.TheVariants.{Less, Equal, Greater}
use Rattle.std.specs.Ordering.{int_eq, is_eq}
use Rattle.std.specs.Cmp.{IsTotalOrder}
use Rattle.std.specs.FinMap.{IsAntisymmetric}
use Rattle.std.proofs.lemmas.Cmp.{tied_itself}
use Rattle.std.specs.Option.{option_eq}
use Rattle.std.specs.Bool.{Decides}
use Rattle.std.proofs.lemmas.Bool.Decides.{Decides-eqb, Decides-int_eq, Decides-and, Decides-like}
use Rattle.td_stamp.specs.declared.values.Rec.{Rec}
use Rattle.td_stamp.specs.declared.values.Item.{Item}
use Rattle.td_stamp.specs.declared.values.State.{State}
use Rattle.td_task.specs.declared.keyed.Key.{Key}

pub recs_decide : (d e : Rec) → Decides (d.key == e.key && int_eq d.val e.val) (d ≡ e)
recs_decide d e =
    Decides-like _ (λ p. λ i. record { key = p.0 i; val = p.1 i }) (λ h. (ap (λ (r : Rec). r.key) h, ap (λ (r : Rec). r.val) h))
    (Decides-and _ _ (Decides-eqb d.key e.key) (Decides-int_eq d.val e.val))

pub items_decide : (d e : Item) → Decides (d.port == e.port && int_eq d.val e.val) (d ≡ e)
items_decide d e =
    Decides-like _ (λ p. λ i. record { port = p.0 i; val = p.1 i }) (λ h. (ap (λ (r : Item). r.port) h, ap (λ (r : Item). r.val) h))
    (Decides-and _ _ (Decides-eqb d.port e.port) (Decides-int_eq d.val e.val))

states_decide : (d e : State) → Decides (int_eq d.a e.a && int_eq d.b e.b) (d ≡ e)
states_decide d e =
    Decides-like _ (λ p. λ i. record { a = p.0 i; b = p.1 i }) (λ h. (ap (λ (r : State). r.a) h, ap (λ (r : State). r.b) h))
    (Decides-and _ _ (Decides-int_eq d.a e.a) (Decides-int_eq d.b e.b))

kept_decide : (r s : Option State) → Decides (option_eq (λ d e. int_eq d.a e.a && int_eq d.b e.b) r s) (r ≡ s)
kept_decide None None = (λ h. refl, λ h. refl)
kept_decide None (Some y) = (λ h. cc, λ h. cc)
kept_decide (Some x) None = (λ h. cc, λ h. cc)
kept_decide (Some x) (Some y) = Decides-like _ (ap Some) (λ h. cc) (states_decide x y)

pub keys_decide : (d e : Key) → Decides (d.key == e.key && option_eq (λ d e. int_eq d.a e.a && int_eq d.b e.b) d.state e.state) (d ≡ e)
keys_decide d e =
    Decides-like _ (λ p. λ i. record { key = p.0 i; state = p.1 i }) (λ h. (ap (λ (r : Key). r.key) h, ap (λ (r : Key). r.state) h))
    (Decides-and _ _ (Decides-eqb d.key e.key) (kept_decide d.state e.state))

-- an order in which only equal values tie
pub ties_decide : {X : Type 0} (cmp : X → X → Ordering) → IsTotalOrder cmp → IsAntisymmetric cmp → (x y : X) → Decides (is_eq (cmp x y)) (x ≡ y)
ties_decide {X} cmp total same x y = (λ h. by (cmp x y) refl h, λ e. subst (λ z. is_eq (cmp x z) ≡ true) e (ap is_eq (tied_itself total x)))
  where
    by : (r : Ordering) → cmp x y ≡ r → is_eq (cmp x y) ≡ true → x ≡ y
    by Equal e h = same x y e
    by Less e h = let c : false ≡ true = sym (ap is_eq e) ∙ h in cc
    by Greater e h = let c : false ≡ true = sym (ap is_eq e) ∙ h in cc

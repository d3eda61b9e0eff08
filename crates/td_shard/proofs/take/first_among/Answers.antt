use Rattle.std.proofs.Common.{◌≡◌, ◌+◌, ◌<◌, ◌≤◌, ℕ, List, [], ◌∷◌, length, get_or, take, pos, refl, sym, ◌∙◌, subst, arith}
use Rattle.std.specs.List.{AllByRecursion}
use Rattle.td_machine.specs.declared.records.Message.{Message}
use Rattle.td_shard.specs.declared.runs.Numbered.{Numbered}
use Rattle.td_shard.specs.Runs.{Part, all_of}
use Rattle.td_shard.proofs.Search.{all_next, front_least, front_waits, none_before}
use Rattle.td_shard.proofs.Tasks.{own_ascends}
use Rattle.td_shard.proofs.TakenUp.{nothing}
use Rattle.td_shard.proofs.take.first_among.Goals as goal
use Rattle.td_shard.proofs.take.first_among.Goals.{then-is_lower, else-is_lower}

lower_all : (m n : ℕ) (xs : List (ℕ × Message)) → m ≤ n → AllByRecursion (λ x. n ≤ x.0) xs → AllByRecursion (λ x. m ≤ x.0) xs
lower_all m n [] l h = tt
lower_all m n (x ∷ xs) l h = let here = h.0 in (omega (arith, l, here), lower_all m n xs l h.1)

below_all : (m n : ℕ) (xs : List (ℕ × Message)) → m < n → AllByRecursion (λ x. n ≤ x.0) xs → AllByRecursion (λ x. m < x.0) xs
below_all m n [] l h = tt
below_all m n (x ∷ xs) l h = let here = h.0 in (omega (arith, l, here), below_all m n xs l h.1)

-- the first message so far
record IsFirst (ps : List Part) (base first least place : ℕ) : Type 0 where
  first_is : first < place
  waits : (d : Part) → 0 < length (get_or ps first d).recs
  least_is : (d : Part) (e : Numbered) → least ≡ (get_or (get_or ps first d).recs 0 e).number
  base_is : (d : Part) → (get_or ps first d).base ≡ base
  before : AllByRecursion (λ x. least < x.0) (all_of (take first ps))
  all : AllByRecursion (λ x. least ≤ x.0) (all_of (take place ps))

pub loop-place-init : goal.loop-place-init
loop-place-init c =
    let ps = c.args.runs.now.parts in
    let p = get_or ps 0 nothing in
    record {
      within = omega (arith, c.requires.some);
      first = omega arith;
      waits = λ d. front_waits ps d c.requires.some c.requires.front;
      least = c.number-least.ensures;
      base = λ d. sym (c.base-base.ensures d);
      before = tt;
      all = all_next (λ x. c.number-least.result ≤ x.0) ps 0 nothing c.requires.some tt
          (front_least p.lane p.recs c.number-least.result (own_ascends ps 0 nothing c.requires.some c.requires.ascending) (λ l e. let is = c.number-least.ensures nothing e in omega (arith, is)));
    }

pub loop-place-preserved : goal.loop-place-preserved
loop-place-preserved c =
    let ps = c.args.runs.now.parts in
    let was = c.loop-place.invariant in
    let place = c.loop-place.place in
    let within : place < length ps = omega (arith, c.loop-place-test.true, c.len.ensures) in
    let p = get_or ps place nothing in
    let own = own_ascends ps place nothing within c.requires.ascending in
    let it : IsFirst ps c.base-base.result c.if-is_lower.first c.if-is_lower.least (place + 1) =
    elim c.if-is_lower.branch [
      | then-is_lower w ↦
          let least = w.number-least-then-is_lower.result in
          let lower : least < c.loop-place.least = (let less = c.is_lower.ensures.lower w.if-is_lower.true nothing (record { number = 0; rec = record { key = 0; val = pos 0 } }) in let is = w.number-least-then-is_lower.ensures nothing (record { number = 0; rec = record { key = 0; val = pos 0 } }) in omega (arith, less, is)) in
          subst (λ m. IsFirst ps c.base-base.result m c.if-is_lower.least (place + 1)) (sym w.first-is)
          (subst (λ m. IsFirst ps c.base-base.result place m (place + 1)) (sym w.least-is) (record {
            first_is = omega arith;
            waits = c.is_lower.ensures.some w.if-is_lower.true;
            least_is = w.number-least-then-is_lower.ensures;
            base_is = λ d. sym (c.base.ensures d) ∙ c.if-base.true;
            before = below_all least c.loop-place.least (all_of (take place ps)) lower was.all;
            all = all_next (λ x. least ≤ x.0) ps place nothing within (lower_all least c.loop-place.least (all_of (take place ps)) (omega (arith, lower)) was.all)
                (front_least p.lane p.recs least own (λ l e. let is = w.number-least-then-is_lower.ensures nothing e in omega (arith, is)));
          }))
      | else-is_lower w ↦
          subst (λ m. IsFirst ps c.base-base.result m c.if-is_lower.least (place + 1)) (sym w.first-is)
          (subst (λ m. IsFirst ps c.base-base.result c.loop-place.first m (place + 1)) (sym w.least-is) (record {
            first_is = omega (arith, was.first);
            waits = was.waits;
            least_is = was.least;
            base_is = was.base;
            before = was.before;
            all = all_next (λ x. c.loop-place.least ≤ x.0) ps place nothing within was.all
                (front_least p.lane p.recs c.loop-place.least own (λ l e. c.is_lower.ensures.not_lower w.if-is_lower.false nothing l e));
          }))
    ] in
    record { within = omega (arith, within); first = it.first_is; waits = it.waits; least = it.least_is; base = it.base_is; before = it.before; all = it.all }

pub returns-else-base-clause-first : goal.returns-else-base-clause-first
returns-else-base-clause-first c d r =
    let ps = c.args.runs.now.parts in
    let was = c.loop-place.invariant in
    let i = c.loop-place.first in
    let p = get_or ps i d in
    let least = was.least d r in
    none_before ps i c.loop-place.place p d r refl was.first was.within c.requires.grouped (was.waits d) (subst (λ m. AllByRecursion (λ x. m < x.0) (all_of (take i ps))) least was.before)
    (subst (λ m. AllByRecursion (λ x. m ≤ x.0) (all_of (take c.loop-place.place ps))) least was.all) (λ l e same. c.if-base.false (c.base.ensures e ∙ (sym same ∙ was.base d)))

pub returns-after-loop-place-clause-first : goal.returns-after-loop-place-clause-first
returns-after-loop-place-clause-first c d r =
    let ps = c.args.runs.now.parts in
    let was = c.loop-place.invariant in
    let i = c.loop-place.first in
    let p = get_or ps i d in
    let least = was.least d r in
    none_before ps i c.loop-place.place p d r refl was.first was.within c.requires.grouped (was.waits d) (subst (λ m. AllByRecursion (λ x. m < x.0) (all_of (take i ps))) least was.before)
    (subst (λ m. AllByRecursion (λ x. m ≤ x.0) (all_of (take c.loop-place.place ps))) least was.all) (λ l e same. omega (arith, l, c.loop-place-test.false, c.len.ensures))

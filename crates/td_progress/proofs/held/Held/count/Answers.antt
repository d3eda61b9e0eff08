use Rattle.std.proofs.Common.{◌≡◌, ◌^◌, ◌<◌, ◌∙◌, ℕ, true, sym, ap, subst, [], unwrap_or, option_map, arith}
use Rattle.td_progress.specs.Gaps.{has_epoch, sum_to, count_to}
use Rattle.td_progress.specs.Held.{class_of, chain_at}
use Rattle.td_progress.proofs.Gaps.{Gaps}
use Rattle.td_progress.proofs.held.Held.count.Goals as goal

abbrev Bounded : ℕ → Gaps → Type 0
Bounded e g = has_epoch e g ≡ true → (0 < sum_to e g) × (sum_to e g < 2 ^ 64)

pub count_to-requires : goal.count_to-requires
count_to-requires c =
    let p = c.args.stamp.now in
    let f = ap (λ o. unwrap_or (option_map (λ x. x.now) o) []) (sym c.in-Some.is) ∙ c.chain_of.ensures.is in
    let bounded : Bounded p.time.epoch (chain_at (class_of p) c.args.self.now) = λ h. (let r = c.requires.fits h in (r.0, omega (arith, r.1, c.chain_of.ensures.fits))) in
    subst (λ g. Bounded c.epoch.result g) (sym f) (subst (λ e. Bounded e (chain_at (class_of p) c.args.self.now)) (sym c.epoch.ensures) bounded)

pub returns-in-Some-clause-is : goal.returns-in-Some-clause-is
returns-in-Some-clause-is c =
    let f = ap (λ o. unwrap_or (option_map (λ x. x.now) o) []) (sym c.in-Some.is) ∙ c.chain_of.ensures.is in
    c.count_to.ensures ∙ (λ i. count_to (c.epoch.ensures i) (f i))

pub returns-in-None-clause-is : goal.returns-in-None-clause-is
returns-in-None-clause-is c =
    let f = ap (λ o. unwrap_or (option_map (λ x. x.now) o) []) (sym c.in-None.is) ∙ c.chain_of.ensures.is in
    ap (count_to c.args.stamp.now.time.epoch) f

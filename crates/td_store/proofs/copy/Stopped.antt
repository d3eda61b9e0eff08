-- What a disk tells wherever it stops.
use Rattle.std.proofs.Common.{◌≡◌, ◌⊎◌, inl, inr, ⊎_elim, ℕ, ◌≤◌, Bool, true, false, nat_le, List, length, refl, sym, ap, ◌∙◌, subst, arith, Result, Err}
use Rattle.std.specs.Prelude.{Option, None, bytes_eq, Decides}
use Rattle.std.proofs.lemmas.Slice.Eq.{bytes_eq-Decides}
use Rattle.td_plan.specs.declared.error.PlanError.{PlanError}
use Rattle.td_plan.specs.Lines.{Line, text_of}
use Rattle.td_plan.specs.Texts.{PlanText, PlanFault}
use Rattle.td_disk.specs.Disk.{DiskState}
use Rattle.td_gate.specs.CrashSafe.{CrashSafe, Unchanged}
use Rattle.td_gate.specs.Region.{opened}
use Rattle.td_head.specs.Layout.{head_b}
use Rattle.td_head.specs.declared.head.Head.{Head}
use Rattle.td_head.specs.declared.error.HeadError.{HeadError}
use Rattle.td_head.specs.declared.error.HeadError.TheVariants.{NotFormatted}
use Rattle.td_head.specs.Head.{Fields, candidate, greater, head_of, head_in, text_in, where_so, IsCanonical, IsHeaded}
use Rattle.td_store.specs.standing.Refusals.{of_head}
use Rattle.td_store.specs.standing.Told.{Told}
use Rattle.td_store.specs.standing.Tells.{TellsSince}
use Rattle.td_store.specs.copy.Copied.{HasNoHead}

-- the laws, as they are handed in
abbrev pub Either : Type 0
Either = (t : List ℕ) → ((p : List Line) × PlanText t p) ⊎ ((e : PlanError) × PlanFault t e)

abbrev pub NotBoth : Type 0
NotBoth = (t : List ℕ) (p : List Line) (e : PlanError) → PlanText t p → PlanFault t e → ⊥

abbrev pub OnePlan : Type 0
OnePlan = (t : List ℕ) (p q : List Line) → PlanText t p → PlanText t q → p ≡ q

abbrev none : HeadError → Result Head HeadError
none e = Err e

abbrev pub HeadRefused : Type 0
HeadRefused = (plan : List Line) (image : List ℕ) (e : HeadError) → IsHeaded plan image (Err e) → Told plan image (Err (of_head e))

-- whether a text is canonical
decided : Either → NotBoth → OnePlan → (text : List ℕ) → (b : Bool) × Decides b (IsCanonical text)
decided either not_both one_plan text = ⊎_elim
    (λ p. let test = bytes_eq-Decides (text_of p.0) text in
    (bytes_eq (text_of p.0) text, ((λ h. (p.0, p.1, sym (test.0 h))), (λ c. test.1 (ap text_of (one_plan text p.0 c.0 p.1 c.1) ∙ sym c.2)))))
    (λ f. (false, ((λ h. absurd cc), (λ c. absurd (not_both text c.0 f.0 c.1 f.1))))) (either text)

either_way : (t : Bool) → where_so t (none NotFormatted) NotFormatted ≡ none NotFormatted
either_way true = refl
either_way false = refl

-- NO HEAD IS OPEN: the disk is not formatted
pub not_formatted : Either → NotBoth → OnePlan → HeadRefused → (plan : List Line) (image : List ℕ) → HasNoHead image → Told plan image (Err (of_head NotFormatted))
not_formatted either not_both one_plan head_refused plan image closed =
    let d = decided either not_both one_plan (text_in (head_of image)) in
    let no_head : head_of image ≡ None =
    ap (λ (o : Option (List ℕ)). greater (candidate 0 o) (candidate 1 (opened head_b image))) closed.first
    ∙ ap (λ (o : Option (List ℕ)). greater (candidate 0 None) (candidate 1 o)) closed.second in
    head_refused plan image NotFormatted (record {
      canonical = d.0;
      text = d.1;
      head = ap (λ (h : Option Fields). where_so (nat_le 8258 (length image)) (head_in d.0 plan (length image) h) NotFormatted) no_head ∙ either_way (nat_le 8258 (length image));
    })

-- from before a look at the disk
pub told_since : (P Q R S : List ℕ → Type 0) → ((c : List ℕ) → P c → R c) → ((c : List ℕ) → Q c → S c) → (old mid new : DiskState)
    → ((t : ℕ) (c : List ℕ) → t ≤ old.moment → old.images c → old.since t c) → CrashSafe Unchanged old mid → TellsSince P Q mid new → TellsSince R S old new
told_since P Q R S first second old mid new counts unchanged since t c le left = ⊎_elim
    (λ was. inl (⊎_elim (λ before. before) (λ from. counts t c le (subst old.images (sym from.2) from.1)) (unchanged.before t c le was)))
    (λ tells. inr (⊎_elim (λ p. inl (first c p)) (λ q. inr (second c q)) tells))
    (since t c (omega (arith, le, unchanged.later)) left)

-- Heads as a format leaves them.
use Rattle.std.proofs.Common.{◌≡◌, ℕ, ◌≤◌, Bool, true, nat_le, ◌&&◌, List, length, Option, Some, None, refl, sym, ap, ◌∙◌, subst, arith, Ok}
use Rattle.std.specs.Prelude.{bytes_eq, Decides}
use Rattle.std.proofs.lemmas.Bool.{and_from, le-leb}
use Rattle.std.specs.Cmp.Lexicographic.{bytes_decides}
use Rattle.td_gate.specs.Region.{opened}
use Rattle.td_plan.specs.Lines.{Line, text_of}
use Rattle.td_plan.specs.Texts.{PlanText}
use Rattle.td_head.specs.declared.error.HeadError.TheVariants.{NotFormatted, Damaged, WrongPlan}
use Rattle.td_head.specs.Layout.{Sizes, is_shape, size_of, head_b}
use Rattle.td_head.specs.Head.{Fields, head_bytes, candidate, greater, head_of, is_head, where_so, told_of, for_plan, head_in, sized, headed, text_in, IsCanonical, TellsCanonical}
use Rattle.td_head.specs.Images.{IsFirstHead}
use Rattle.td_head.proofs.ReadBack.{candidate_back}

pub first_head : (plan : List Line) (sizes : Sizes) (image : List ℕ) → PlanText (text_of plan) plan → length (text_of plan) ≤ 3948 → IsFirstHead plan sizes image
    → (headed true plan image ≡ Ok (record { version = 2; side = 0; generation = 1; shape = sizes })) × TellsCanonical true image
first_head plan sizes image spelled bytes h =
    let text = text_of plan in
    let fields : Fields = record { side = 0; version = 2; generation = 1; sizes = sizes; text_len = length text; text = text } in
    let is : head_of image ≡ Some fields =
    ap (λ (o : Option (List ℕ)). greater (candidate 0 o) (candidate 1 (opened head_b image))) h.first
    ∙ ap (λ (o : Option (List ℕ)). greater (candidate 0 (Some (head_bytes 2 1 sizes text))) (candidate 1 o)) h.second
    ∙ ap (λ (f : Option Fields). greater f None) (candidate_back 0 2 1 sizes text (omega arith) (omega arith) h.shape (omega (arith, bytes))) in
    let large : 8258 ≤ length image = omega (arith, h.size) in
    let valid : is_head true (length image) fields ≡ true =
    and_from (is_shape sizes) (nat_le (length text) 4096 && nat_le (size_of sizes) (length image)) h.shape
    (and_from (nat_le (length text) 4096) (nat_le (size_of sizes) (length image)) (le-leb (length text) 4096 (omega (arith, bytes))) (le-leb (size_of sizes) (length image) h.size)) in
    let same : bytes_eq text text ≡ true = (bytes_decides text text).1 refl in (
      ap (sized true plan (length image)) is
          ∙ ap (λ (t : Bool). where_so t (head_in true plan (length image) (Some fields)) NotFormatted) (le-leb 8258 (length image) large)
          ∙ ap (λ (t : Bool). where_so t (for_plan plan fields) Damaged) valid
          ∙ ap (λ (t : Bool). where_so t (Ok (told_of fields)) WrongPlan) same,
      subst (λ (f : Option Fields). Decides true (IsCanonical (text_in f))) (sym is) (λ e. (plan, spelled, refl), λ e. refl),
    )

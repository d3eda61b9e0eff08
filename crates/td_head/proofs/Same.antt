-- What the heads tell of two images in which they hold the same.
use Rattle.std.proofs.Common.{◌≡◌, ℕ, ◌≤◌, Bool, true, false, ◌&&◌, nat_lt, nat_le, List, length, Option, Some, None, refl, sym, ap, ◌∙◌, subst, Result, Ok}
use Rattle.std.proofs.lemmas.Bool.{and_parts, leb-true}
use Rattle.td_gate.specs.Region.{opened}
use Rattle.td_plan.specs.Lines.{Line, text_of}
use Rattle.td_head.specs.declared.head.Head.{Head}
use Rattle.td_head.specs.declared.error.HeadError.{HeadError}
use Rattle.td_head.specs.declared.error.HeadError.TheVariants.{NotFormatted, Damaged, WrongPlan}
use Rattle.td_head.specs.Layout.{head_a, head_b, is_shape, size_of}
use Rattle.td_head.specs.Head.{Fields, where_so, is_version, is_head, told_of, for_plan, candidate, greater, head_of, head_in, sized, headed, text_in, TellsCanonical, IsCanonical, IsHeaded}
use Rattle.td_head.specs.Images.{SameHeads}
use Rattle.std.specs.Prelude.{Decides, bytes_eq}

same_head : (old new : List ℕ) → SameHeads old new → head_of new ≡ head_of old
same_head old new same =
    ap (λ (h : Option (List ℕ)). greater (candidate 0 h) (candidate 1 (opened head_b new))) same.first
    ∙ ap (λ (h : Option (List ℕ)). greater (candidate 0 (opened head_a old)) (candidate 1 h)) same.second

pub same_told : (canonical : Bool) (plan : List Line) (old new : List ℕ) → SameHeads old new → headed canonical plan new ≡ headed canonical plan old
same_told canonical plan old new same =
    ap (λ (h : Option Fields). sized canonical plan (length new) h) (same_head old new same)
    ∙ ap (λ (n : ℕ). sized canonical plan n (head_of old)) same.size

pub same_text : (canonical : Bool) (old new : List ℕ) → SameHeads old new → TellsCanonical canonical old → TellsCanonical canonical new
same_text canonical old new same tells = subst (λ (h : Option Fields). Decides canonical (IsCanonical (text_in h))) (sym (same_head old new same)) tells

-- a test that came before an answer
pub when_ok : (t : Bool) (x : Result Head HeadError) (e : HeadError) (s : Head) → where_so t x e ≡ Ok s → (t ≡ true) × (x ≡ Ok s)
when_ok true x e s is = (refl, is)
when_ok false x e s is = absurd cc

pub limits : (canonical : Bool) (plan : List Line) (image : List ℕ) (h : Head) → headed canonical plan image ≡ Ok h → (is_shape h.shape ≡ true) × (size_of h.shape ≤ length image)
limits canonical plan image told is = of_head (head_of image) (when_ok (nat_le 8258 (length image)) (head_in canonical plan (length image) (head_of image)) NotFormatted told is).1
  where
    of_head : (h : Option Fields) → head_in canonical plan (length image) h ≡ Ok told → (is_shape told.shape ≡ true) × (size_of told.shape ≤ length image)
    of_head None e = absurd cc
    of_head (Some h) e =
        let valid = when_ok (is_head canonical (length image) h) (for_plan plan h) Damaged told e in
        let plan_is = when_ok (bytes_eq h.text (text_of plan)) (Ok (told_of h)) WrongPlan told valid.1 in
        let same : told_of h ≡ told = cc in
        let one = and_parts (is_version h.version) (nat_lt 0 h.generation && (is_shape h.sizes && (nat_le h.text_len 4096 && (canonical && nat_le (size_of h.sizes) (length image))))) valid.0 in
        let two = and_parts (nat_lt 0 h.generation) (is_shape h.sizes && (nat_le h.text_len 4096 && (canonical && nat_le (size_of h.sizes) (length image)))) one.1 in
        let three = and_parts (is_shape h.sizes) (nat_le h.text_len 4096 && (canonical && nat_le (size_of h.sizes) (length image))) two.1 in
        let four = and_parts (nat_le h.text_len 4096) (canonical && nat_le (size_of h.sizes) (length image)) three.1 in
        let five = and_parts canonical (nat_le (size_of h.sizes) (length image)) four.1 in
        subst (λ (z : Head). (is_shape z.shape ≡ true) × (size_of z.shape ≤ length image)) same (three.0, leb-true (size_of h.sizes) (length image) five.1)

-- two tests of one statement agree
same_test : (P : Type 0) (a b : Bool) → Decides a P → Decides b P → a ≡ b
same_test P true true x y = refl
same_test P true false x y = sym (y.1 (x.0 refl))
same_test P false true x y = x.1 (y.0 refl)
same_test P false false x y = refl

pub one_answer : (plan : List Line) (image : List ℕ) (x y : Result Head HeadError) → IsHeaded plan image x → IsHeaded plan image y → x ≡ y
one_answer plan image x y a b =
    sym a.head ∙ ap (λ (t : Bool). headed t plan image) (same_test (IsCanonical (text_in (head_of image))) a.canonical b.canonical a.text b.text) ∙ b.head

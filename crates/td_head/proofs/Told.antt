-- What the fields of a head tell.
use Rattle.std.proofs.Common.{◌≡◌, ℕ, ◌<◌, ◌≤◌, ◌&&◌, nat_lt, nat_le, Bool, true, false, List, length, refl, sym, ap, ◌∙◌, subst, arith, Result, Ok}
use Rattle.std.specs.Prelude.{bytes_eq, Decides, Option, Some, None}
use Rattle.std.proofs.lemmas.Bool.{and_from, and_left, and_right, le-leb, lt-ltb, le-ltb, lt-leb}
use Rattle.td_plan.specs.Lines.{Line, text_of}
use Rattle.td_head.specs.declared.head.Head.{Head}
use Rattle.td_head.specs.declared.error.HeadError.{HeadError}
use Rattle.td_head.specs.declared.error.HeadError.TheVariants.{NotFormatted, Damaged, WrongPlan}
use Rattle.td_head.specs.Layout.{is_shape, size_of}
use Rattle.td_head.specs.Head.{Fields, is_version, is_head, where_so, told_of, for_plan, head_in, IsCanonical, head_of, text_in, IsHeaded}
use Rattle.td_head.specs.Read.{Refused, IsFieldsTold}

module _ (size : ℕ) (f : Fields) where
  abbrev fits : Bool → Bool
  fits b = b && nat_le (size_of f.sizes) size

  abbrev text_on : Bool → Bool
  text_on b = nat_le f.text_len 4096 && fits b

  abbrev sizes_on : Bool → Bool
  sizes_on b = is_shape f.sizes && text_on b

  abbrev gen_on : Bool → Bool
  gen_on b = nat_lt 0 f.generation && sizes_on b

  pub bad_version : is_version f.version ≡ false → (b : Bool) → is_head b size f ≡ false
  bad_version no_ b = and_left (is_version f.version) (gen_on b) no_

  pub bad_generation : f.generation ≡ 0 → (b : Bool) → is_head b size f ≡ false
  bad_generation is b = and_right (is_version f.version) (gen_on b) (and_left (nat_lt 0 f.generation) (sizes_on b) (le-ltb 0 f.generation (omega (arith, is))))

  pub bad_shape : is_shape f.sizes ≡ false → (b : Bool) → is_head b size f ≡ false
  bad_shape is b = and_right (is_version f.version) (gen_on b) (and_right (nat_lt 0 f.generation) (sizes_on b) (and_left (is_shape f.sizes) (text_on b) is))

  pub bad_length : 4096 < f.text_len → (b : Bool) → is_head b size f ≡ false
  bad_length lt b = and_right (is_version f.version) (gen_on b) (and_right (nat_lt 0 f.generation) (sizes_on b) (and_right (is_shape f.sizes) (text_on b) (and_left (nat_le f.text_len 4096) (fits b) (lt-leb f.text_len 4096 lt))))

  last_bad : (b : Bool) → fits b ≡ false → is_head b size f ≡ false
  last_bad b no_ = and_right (is_version f.version) (gen_on b) (and_right (nat_lt 0 f.generation) (sizes_on b) (and_right (is_shape f.sizes) (text_on b) (and_right (nat_le f.text_len 4096) (fits b) no_)))

  pub bad_text : is_head false size f ≡ false
  bad_text = last_bad false refl

  pub bad_size : size < size_of f.sizes → (b : Bool) → is_head b size f ≡ false
  bad_size lt b = last_bad b (and_right b (nat_le (size_of f.sizes) size) (lt-leb (size_of f.sizes) size lt))

  pub good : is_version f.version ≡ true → 0 < f.generation → is_shape f.sizes ≡ true → f.text_len ≤ 4096 → size_of f.sizes ≤ size → is_head true size f ≡ true
  good version gen shape len fit =
      and_from (is_version f.version) (gen_on true) version (and_from (nat_lt 0 f.generation) (sizes_on true) (lt-ltb 0 f.generation gen)
      (and_from (is_shape f.sizes) (text_on true) shape (and_from (nat_le f.text_len 4096) (fits true) (le-leb f.text_len 4096 len) (le-leb (size_of f.sizes) size fit))))

  pub told_damaged : (plan : List Line) (b : Bool) → Decides b (IsCanonical f.text) → is_head b size f ≡ false → IsFieldsTold plan size f (Refused Damaged)
  told_damaged plan b decides bad = record { canonical = b; text = decides; head = ap (λ (t : Bool). where_so t (for_plan plan f) Damaged) bad }

  pub told_by : (plan : List Line) (t : Bool) → Decides true (IsCanonical f.text) → is_head true size f ≡ true → bytes_eq f.text (text_of plan) ≡ t → IsFieldsTold plan size f (where_so t (Ok (told_of f)) WrongPlan)
  told_by plan t decides valid is = record {
    canonical = true;
    text = decides;
    head = ap (λ (u : Bool). where_so u (for_plan plan f) Damaged) valid ∙ ap (λ (u : Bool). where_so u (Ok (told_of f)) WrongPlan) is;
  }

-- of an image of this size
abbrev pub Decided : List ℕ → Type 0
Decided text = (b : Bool) × Decides b (IsCanonical text)

module _ (plan : List Line) (image : List ℕ) (size n : ℕ) (is : n ≡ size) (whole : length image ≡ n) where
  pub small_disk : Decided (text_in (head_of image)) → size < 8258 → IsHeaded plan image (Refused NotFormatted)
  small_disk d lt = record { canonical = d.0; text = d.1; head = ap (λ (t : Bool). where_so t (head_in d.0 plan (length image) (head_of image)) NotFormatted) (lt-leb 8258 (length image) (omega (arith, is, whole, lt))) }

  pub no_head : Decided (text_in (head_of image)) → 8258 ≤ size → head_of image ≡ None → IsHeaded plan image (Refused NotFormatted)
  no_head d le none = record {
    canonical = d.0;
    text = d.1;
    head = ap (λ (t : Bool). where_so t (head_in d.0 plan (length image) (head_of image)) NotFormatted) (le-leb 8258 (length image) (omega (arith, is, whole, le)))
        ∙ ap (head_in d.0 plan (length image)) none;
  }

  pub of_fields : (f : Fields) (answer : Result Head HeadError) → 8258 ≤ size → head_of image ≡ Some f → IsFieldsTold plan size f answer → IsHeaded plan image answer
  of_fields f answer le held told = record {
    canonical = told.canonical;
    text = subst (λ (o : Option Fields). Decides told.canonical (IsCanonical (text_in o))) (sym held) told.text;
    head = ap (λ (t : Bool). where_so t (head_in told.canonical plan (length image) (head_of image)) NotFormatted) (le-leb 8258 (length image) (omega (arith, is, whole, le)))
        ∙ ap (head_in told.canonical plan (length image)) held ∙ ap (λ (i : ℕ). head_in told.canonical plan i (Some f)) (whole ∙ is) ∙ told.head;
  }

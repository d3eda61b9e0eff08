-- What the laws of heads say of two images.
use Rattle.std.specs.Prelude.{◌≡◌, ◌≤◌, ◌<◌, slice_index, List, ℕ, length, true, None, Some}
use Rattle.td_gate.specs.Region.{opened}
use Rattle.td_plan.specs.Lines.{Line, text_of}
use Rattle.td_head.specs.Layout.{Sizes, is_shape, size_of, head_a, head_b}
use Rattle.td_head.specs.Head.{head_bytes}

-- Both heads hold the same in both images, which have one size.
pub record SameHeads (old new : List ℕ) : Type 0 where
  pub size : length new ≡ length old
  pub first : opened head_a new ≡ opened head_a old
  pub second : opened head_b new ≡ opened head_b old

-- Head A was written for a plan, in version 2 with generation 1, on a disk that is large enough, and head B is closed.
pub record IsFirstHead (plan : List Line) (sizes : Sizes) (image : List ℕ) : Type 0 where
  pub shape : is_shape sizes ≡ true
  pub size : size_of sizes ≤ length image
  pub first : opened head_a image ≡ Some (head_bytes 2 1 sizes (text_of plan))
  pub second : opened head_b image ≡ None

-- The first n bytes are 0.
pub record IsZero (n : ℕ) (image : List ℕ) : Type 0 where
  pub each : (i : ℕ) → i < n → slice_index image i ≡ 0
